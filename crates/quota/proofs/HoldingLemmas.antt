-- Rows and shares: what is read off them, what ending a share or a row leaves, and that all stays counted.
use Rattle.std.proofs.Common.{◌≡◌, ℕ, ◌+◌, ◌-◌, ◌<◌, List, [], ◌∷◌, Bool, true, false, cond}
use Rattle.std.proofs.Common.{not, ◌&&◌}
use Rattle.std.proofs.Common.{set, length, get_or, Option, Some, None, refl, ap, ◌∙◌, sym, subst, arith}
use Rattle.std.specs.Prelude.{slice_get, ◌==◌, if◌then◌else◌}
use Rattle.std.proofs.lemmas.Bool.{eq-eqb, eqb-true}
use Rattle.std.proofs.lemmas.List.{length-set}
use Rattle.quota.specs.Holdings.{count_of, owned_by, owned_in, owned_of, owned_ended}
use Rattle.quota.specs.Holdings.{share_ended, share_lowered, count_in, AreCounted, TakesFrom}
use Rattle.quota.specs.declared.rows.OwnedRow.{OwnedRow}
use Rattle.quota.specs.declared.rows.Share.{Share}
use Rattle.quota.proofs.ListLemmas.{got_set, got_other, got_within, got_some, got_or, counted_cons, one_if}
use Rattle.core_rules.proofs.AllLemmas.{true_false}
use Rattle.quota.proofs.KeptWords.{row_ended}

-- a share in a place of a list whose share in another place was set
pub share_cases : (shares : List Share) (c place : ℕ) (new s : Share) (P : Type 0)
    → c < length shares → slice_get (set shares c new) place ≡ Some s
    → ((c == place) ≡ true → s ≡ new → P) → ((c == place) ≡ false → slice_get shares place ≡ Some s → P) → P
share_cases shares c place new s P lt is here there = by (c == place) refl
  where
    by : (t : Bool) → (c == place) ≡ t → P
    by true e =
        let same : c ≡ place = eqb-true c place e in
        let got : slice_get (set shares c new) place ≡ Some new =
        ap (slice_get (set shares c new)) (sym same) ∙ got_set shares c new lt in
        let one : s ≡ new = cc in
        here e one
    by false e = there e (sym (got_other shares c place new e) ∙ is)

-- what is read off a row does not depend on the count of its share
pub read_lowered : (shares : List Share) (c : ℕ) (s : Share) (r : OwnedRow) → slice_get shares c ≡ Some s
    → owned_in (set shares c (share_lowered s)) r ≡ owned_in shares r
read_lowered shares c s r at = by (c == r.share) refl
  where
    by : (t : Bool) → (c == r.share) ≡ t → owned_in (set shares c (share_lowered s)) r ≡ owned_in shares r
    by true e =
        let same : c ≡ r.share = eqb-true c r.share e in
        ap (λ o. owned_by o r) (ap (slice_get (set shares c (share_lowered s))) (sym same)
        ∙ got_set shares c (share_lowered s) (got_within shares c s at))
        ∙ ap (λ o. owned_by o r) (sym at ∙ ap (slice_get shares) same)
    by false e = ap (λ o. owned_by o r) (got_other shares c r.share (share_lowered s) e)

-- a row that is ended is read so
pub read_ended : (shares : List Share) (r : OwnedRow)
    → owned_in shares (row_ended r) ≡ owned_ended (owned_in shares r)
read_ended shares r = by (slice_get shares r.share)
  where
    by : (o : Option Share) → owned_by o (row_ended r) ≡ owned_ended (owned_by o r)
    by None = refl
    by (Some s) = refl

-- how many of a client a share has, unless it is over
abbrev pub part_of : List OwnedRow → ℕ → Share → ℕ → ℕ
part_of rows c s client = cond ((s.client == client) && not s.over) (count_in rows c) 0

-- one row of that share, and one of another
own_row : (unended over client : Bool) → one_if ((unended && not true) && client)
    + cond (client && not over) (one_if (unended && true)) 0 ≡ one_if ((unended && not over) && client)
own_row true true true = refl
own_row true true false = refl
own_row true false true = refl
own_row true false false = refl
own_row false true true = refl
own_row false true false = refl
own_row false false true = refl
own_row false false false = refl

split_part : (b : Bool) (here rest : ℕ) → cond b (here + rest) 0 ≡ cond b here 0 + cond b rest 0
split_part true here rest = refl
split_part false here rest = refl

other_part : (b unended : Bool) → cond b (one_if (unended && false)) 0 ≡ 0
other_part true true = refl
other_part true false = refl
other_part false true = refl
other_part false false = refl

-- one client's count once a share is over
pub share_over : (rows : List OwnedRow) (shares : List Share) (c : ℕ) (s : Share) (client : ℕ)
    → slice_get shares c ≡ Some s
    → count_of (owned_of rows (set shares c (share_ended s))) client + part_of rows c s client
    ≡ count_of (owned_of rows shares) client
share_over [] shares c s client at = ap (λ (n : ℕ). 0 + n) (part_none ((s.client == client) && not s.over))
  where
    part_none : (b : Bool) → ◌≡◌ {A = ℕ} (cond b 0 0) 0
    part_none true = refl
    part_none false = refl
share_over (r ∷ rows) shares c s client at = by (c == r.share) refl (share_over rows shares c s client at)
  where
    not_back : (t : Bool) → (r.share == c) ≡ t → (c == r.share) ≡ false → (r.share == c) ≡ false
    not_back true q e = absurd (true_false (c == r.share) (eq-eqb c r.share (sym (eqb-true r.share c q))) e)
    not_back false q e = q

    by : (t : Bool) → (c == r.share) ≡ t
        → count_of (owned_of rows (set shares c (share_ended s))) client + part_of rows c s client
        ≡ count_of (owned_of rows shares) client
        → count_of (owned_of (r ∷ rows) (set shares c (share_ended s))) client + part_of (r ∷ rows) c s client
        ≡ count_of (owned_of (r ∷ rows) shares) client
    by true e rest =
        let same : c ≡ r.share = eqb-true c r.share e in
        let back : (r.share == c) ≡ true = eq-eqb r.share c (sym same) in
        let ended = set shares c (share_ended s) in
        let now : owned_in ended r ≡ owned_by (Some (share_ended s)) r =
        ap (λ o. owned_by o r) (ap (slice_get ended) (sym same) ∙ got_set shares c (share_ended s)
        (got_within shares c s at)) in
        let was : owned_in shares r ≡ owned_by (Some s) r =
        ap (λ o. owned_by o r) (ap (slice_get shares) (sym same) ∙ at) in
        let mine = counted_cons (λ o. o.unended && (o.client == client)) (owned_in ended r)
        (owned_of rows ended) in
        let old = counted_cons (λ o. o.unended && (o.client == client)) (owned_in shares r)
        (owned_of rows shares) in
        let new_here : one_if ((owned_in ended r).unended && ((owned_in ended r).client == client))
        ≡ one_if ((r.unended && not true) && (s.client == client)) =
        ap (λ o. one_if (o.unended && (o.client == client))) now in
        let old_here : one_if ((owned_in shares r).unended && ((owned_in shares r).client == client))
        ≡ one_if ((r.unended && not s.over) && (s.client == client)) =
        ap (λ o. one_if (o.unended && (o.client == client))) was in
        let counts = counted_cons (λ q. q.unended && (q.share == c)) r rows in
        let counts_here : one_if (r.unended && (r.share == c)) ≡ one_if (r.unended && true) =
        ap (λ t. one_if (r.unended && t)) back in
        let b : Bool = (s.client == client) && not s.over in
        let part : part_of (r ∷ rows) c s client ≡ cond b (one_if (r.unended && true)) 0
        + part_of rows c s client =
        ap (λ n. cond b n 0) (counts ∙ ap (λ n. n + count_in rows c) counts_here)
        ∙ split_part b (one_if (r.unended && true)) (count_in rows c) in
        let all = own_row r.unended s.over (s.client == client) in
        omega (arith, rest, mine, old, new_here, old_here, part, all)
    by false e rest =
        let back : (r.share == c) ≡ false = not_back (r.share == c) refl e in
        let ended = set shares c (share_ended s) in
        let now : owned_in ended r ≡ owned_in shares r =
        ap (λ o. owned_by o r) (got_other shares c r.share (share_ended s) e) in
        let mine = counted_cons (λ o. o.unended && (o.client == client)) (owned_in ended r)
        (owned_of rows ended) in
        let old = counted_cons (λ o. o.unended && (o.client == client)) (owned_in shares r)
        (owned_of rows shares) in
        let here : one_if ((owned_in ended r).unended && ((owned_in ended r).client == client))
        ≡ one_if ((owned_in shares r).unended && ((owned_in shares r).client == client)) =
        ap (λ o. one_if (o.unended && (o.client == client))) now in
        let counts = counted_cons (λ q. q.unended && (q.share == c)) r rows in
        let b : Bool = (s.client == client) && not s.over in
        let part : part_of (r ∷ rows) c s client ≡ 0 + part_of rows c s client =
        ap (λ n. cond b n 0) (counts ∙ ap (λ t. one_if (r.unended && t) + count_in rows c) back)
        ∙ split_part b (one_if (r.unended && false)) (count_in rows c)
        ∙ ap (λ n. n + part_of rows c s client) (other_part b r.unended) in
        omega (arith, rest, mine, old, here, part)

-- a count is what its share has
count_part : (over : Bool) (count rows : ℕ) → count ≡ (if over then 0 else rows)
    → cond (true && not over) rows 0 ≡ count
count_part true count rows is = sym is
count_part false count rows is = sym is

-- once a share is over all stays counted
pub counted_over : (rows : List OwnedRow) (shares after : List Share) (held left : List ℕ) (c : ℕ)
    → TakesFrom share_ended (λ s. s.count) shares after held left c → AreCounted rows shares held
    → AreCounted rows after left
counted_over rows shares after held left c takes counted =
    subst (λ l. AreCounted rows l left) (sym takes.changed)
    (subst (AreCounted rows ended) (sym takes.lowered) all)
  where
    s : Share
    s = takes.share

    ended : List Share
    ended = set shares c (share_ended s)

    fewer : List ℕ
    fewer = set held s.client (get_or held s.client 0 - s.count)

    lt : c < length shares
    lt = got_within shares c s takes.at

    held_now : (client n : ℕ) → slice_get fewer client ≡ Some n → n ≡ count_of (owned_of rows ended) client
    held_now client n is = by (s.client == client) refl
      where
        by : (t : Bool) → (s.client == client) ≡ t → n ≡ count_of (owned_of rows ended) client
        by true e =
            let same : s.client ≡ client = eqb-true s.client client e in
            let listed = counted.listed c s takes.at in
            let old = got_some held s.client listed in
            let was = counted.held_are s.client old.0 old.1 in
            let read = got_or held s.client old.0 0 old.1 in
            let got : slice_get fewer client ≡ Some (get_or held s.client 0 - s.count) =
            ap (slice_get fewer) (sym same) ∙ got_set held s.client (get_or held s.client 0 - s.count)
            listed in
            let now : n ≡ get_or held s.client 0 - s.count = cc in
            let over = share_over rows shares c s client takes.at in
            let part : part_of rows c s client ≡ s.count =
            ap (λ t. cond (t && not s.over) (count_in rows c) 0) e
            ∙ count_part s.over s.count (count_in rows c) (counted.counted c s takes.at) in
            let here : old.0 ≡ count_of (owned_of rows shares) client =
            was ∙ ap (count_of (owned_of rows shares)) same in
            omega (arith, now, read, over, part, here)
        by false e =
            let was = counted.held_are client n (sym (got_other held s.client client
            (get_or held s.client 0 - s.count) e) ∙ is) in
            let over = share_over rows shares c s client takes.at in
            let part : part_of rows c s client ≡ 0 = ap (λ t. cond (t && not s.over) (count_in rows c) 0) e in
            omega (arith, was, over, part)

    all : AreCounted rows ended fewer
    all = record {
      placed = λ place r is. subst (λ n. r.share < n) (sym (length-set shares c (share_ended s)))
          (counted.placed place r is);
      listed = λ place t is. subst (λ n. t.client < n)
          (sym (length-set held s.client (get_or held s.client 0 - s.count)))
          (share_cases shares c place (share_ended s) t (t.client < length held) lt is
          (λ e same. subst (λ q. q.client < length held) (sym same) (counted.listed c s takes.at))
          (λ e old. counted.listed place t old));
      counted = λ place t is. share_cases shares c place (share_ended s) t
          (t.count ≡ (if t.over then 0 else count_in rows place)) lt is
          (λ e same. subst (λ q. q.count ≡ (if q.over then 0 else count_in rows place)) (sym same) refl)
          (λ e old. counted.counted place t old);
      held_are = held_now;
    }
