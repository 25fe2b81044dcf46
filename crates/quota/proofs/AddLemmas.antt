-- A reservation that is added: what is read off the rows then, and that all stays counted.
use Rattle.std.proofs.Common.{◌≡◌, ℕ, suc, ◌+◌, ◌<◌, List, [], ◌∷◌, ◌++◌, Bool, true, false}
use Rattle.std.proofs.Common.{not, ◌&&◌}
use Rattle.std.proofs.Common.{set, length, get_or, Option, Some, None, refl, ap, ◌∙◌, sym, subst, arith}
use Rattle.std.proofs.Common.{append-nil, length-append}
use Rattle.std.specs.Prelude.{slice_get, ◌==◌, if◌then◌else◌}
use Rattle.std.proofs.lemmas.Bool.{eqb-true}
use Rattle.std.proofs.lemmas.List.{length-set, map-append}
use Rattle.quota.specs.Holdings.{count_of, owned_by, owned_in, owned_of}
use Rattle.quota.specs.Holdings.{share_raised, share_new, count_in, AreCounted, new_shares}
use Rattle.quota.specs.declared.rows.OwnedRow.{OwnedRow}
use Rattle.quota.specs.declared.rows.Share.{Share}
use Rattle.quota.proofs.ListLemmas.{got_set, got_other, got_within, got_some, got_or, counted_cons}
use Rattle.quota.proofs.ListLemmas.{counted_push}
use Rattle.quota.proofs.ListLemmas.{map_agree, got_front, got_end, got_pushed, one_if}
use Rattle.quota.proofs.HoldingLemmas.{share_cases}

-- what is read off a row does not depend on the count of its share
read_raised : (shares : List Share) (c : ℕ) (s : Share) (r : OwnedRow) → slice_get shares c ≡ Some s
    → owned_in (set shares c (share_raised s)) r ≡ owned_in shares r
read_raised shares c s r at = by (c == r.share) refl
  where
    by : (t : Bool) → (c == r.share) ≡ t → owned_in (set shares c (share_raised s)) r ≡ owned_in shares r
    by true e =
        let same : c ≡ r.share = eqb-true c r.share e in
        ap (λ o. owned_by o r) (ap (slice_get (set shares c (share_raised s))) (sym same)
        ∙ got_set shares c (share_raised s) (got_within shares c s at))
        ∙ ap (λ o. owned_by o r) (sym at ∙ ap (slice_get shares) same)
    by false e = ap (λ o. owned_by o r) (got_other shares c r.share (share_raised s) e)

-- the reservations with the one that is added
pub owned_raised : (rows : List OwnedRow) (shares : List Share) (c : ℕ) (s : Share) (row : OwnedRow)
    → slice_get shares c ≡ Some s → row.share ≡ c
    → owned_of (rows ++ row ∷ []) (set shares c (share_raised s))
    ≡ owned_of rows shares ++ owned_by (Some s) row ∷ []
owned_raised rows shares c s row at own =
    let after = set shares c (share_raised s) in
    map_agree (owned_in after) (owned_in shares) (rows ++ row ∷ []) (λ i q is. read_raised shares c s q at)
    ∙ map-append (owned_in shares) rows (row ∷ [])
    ∙ ap (λ o. owned_of rows shares ++ o ∷ []) (ap (λ o. owned_by o row) (ap (slice_get shares) own ∙ at))

more_one : (over : Bool) (count rows more : ℕ) → over ≡ false → count ≡ (if over then 0 else rows)
    → more ≡ rows + 1 → count + 1 ≡ (if over then 0 else more)
more_one true count rows more fresh is one = absurd cc
more_one false count rows more fresh is one = omega (arith, is, one)

-- once a row is added, and its share raised, all stays counted
pub counted_raised : (rows : List OwnedRow) (shares : List Share) (held : List ℕ) (c : ℕ) (s : Share)
    (row : OwnedRow) → slice_get shares c ≡ Some s → s.over ≡ false → row.share ≡ c → row.unended ≡ true
    → AreCounted rows shares held
    → AreCounted (rows ++ row ∷ []) (set shares c (share_raised s))
    (set held s.client (get_or held s.client 0 + 1))
counted_raised rows shares held c s row at fresh own unended counted = record {
  placed = λ place q is. subst (λ n. q.share < n) (sym (length-set shares c (share_raised s)))
      (row_placed place q is);
  listed = λ place t is. subst (λ n. t.client < n)
      (sym (length-set held s.client (get_or held s.client 0 + 1)))
      (share_cases shares c place (share_raised s) t (t.client < length held) lt is
      (λ e same. subst (λ q. q.client < length held) (sym same) (counted.listed c s at))
      (λ e old. counted.listed place t old));
  counted = share_counts;
  held_are = held_now;
}
  where
    more_rows : List OwnedRow
    more_rows = rows ++ row ∷ []

    raised : List Share
    raised = set shares c (share_raised s)

    more : List ℕ
    more = set held s.client (get_or held s.client 0 + 1)

    lt : c < length shares
    lt = got_within shares c s at

    row_placed : (place : ℕ) (q : OwnedRow) → slice_get more_rows place ≡ Some q → q.share < length shares
    row_placed place q is = by (place == length rows) refl
      where
        by : (t : Bool) → (place == length rows) ≡ t → q.share < length shares
        by true e =
            let same : place ≡ length rows = eqb-true place (length rows) e in
            let got : slice_get more_rows place ≡ Some row =
            ap (slice_get more_rows) same ∙ got_end rows row in
            let one : q ≡ row = cc in
            subst (λ z. z.share < length shares) (sym one) (subst (λ n. n < length shares) (sym own) lt)
        by false e = counted.placed place q (got_pushed rows row q place is e)

    count_now : (client : ℕ) → count_of (owned_of more_rows raised) client
        ≡ count_of (owned_of rows shares) client + one_if (s.client == client)
    count_now client =
        ap (λ l. count_of l client) (owned_raised rows shares c s row at own)
        ∙ counted_push (λ q. q.unended && (q.client == client)) (owned_of rows shares) (owned_by (Some s) row)
        ∙ ap (λ b. count_of (owned_of rows shares) client
        + one_if ((b && not s.over) && (s.client == client))) unended
        ∙ ap (λ b. count_of (owned_of rows shares) client
        + one_if ((true && not b) && (s.client == client))) fresh

    held_now : (client n : ℕ) → slice_get more client ≡ Some n → n ≡ count_of (owned_of more_rows raised)
        client
    held_now client n is = by (s.client == client) refl
      where
        by : (t : Bool) → (s.client == client) ≡ t → n ≡ count_of (owned_of more_rows raised) client
        by true e =
            let same : s.client ≡ client = eqb-true s.client client e in
            let listed = counted.listed c s at in
            let old = got_some held s.client listed in
            let was = counted.held_are s.client old.0 old.1 in
            let read = got_or held s.client old.0 0 old.1 in
            let got : slice_get more client ≡ Some (get_or held s.client 0 + 1) =
            ap (slice_get more) (sym same)
            ∙ got_set held s.client (get_or held s.client 0 + 1) listed in
            let now : n ≡ get_or held s.client 0 + 1 = cc in
            let here : old.0 ≡ count_of (owned_of rows shares) client =
            was ∙ ap (count_of (owned_of rows shares)) same in
            let counts = count_now client ∙ ap (λ t. count_of (owned_of rows shares) client + one_if t) e in
            omega (arith, now, read, here, counts)
        by false e =
            let was = counted.held_are client n (sym (got_other held s.client client
            (get_or held s.client 0 + 1) e) ∙ is) in
            let counts = count_now client ∙ ap (λ t. count_of (owned_of rows shares) client + one_if t) e in
            omega (arith, was, counts)

    in_share : (place : ℕ) → count_in more_rows place ≡ count_in rows place + one_if (c == place)
    in_share place =
        counted_push (λ q. q.unended && (q.share == place)) rows row
        ∙ ap (λ b. count_in rows place + one_if (b && (row.share == place))) unended
        ∙ ap (λ n. count_in rows place + one_if (n == place)) own

    share_counts : (place : ℕ) (t : Share) → slice_get raised place ≡ Some t
        → t.count ≡ (if t.over then 0 else count_in more_rows place)
    share_counts place t is = share_cases shares c place (share_raised s) t
        (t.count ≡ (if t.over then 0 else count_in more_rows place)) lt is
        (λ e same.
        let one : c ≡ place = eqb-true c place e in
        let counts = in_share place ∙ ap (λ b. count_in rows place + one_if b) e in
        subst (λ q. q.count ≡ (if q.over then 0 else count_in more_rows place)) (sym same)
        (more_one s.over s.count (count_in rows place) (count_in more_rows place) fresh
        (counted.counted place s (ap (slice_get shares) (sym one) ∙ at)) counts))
        (λ e old.
        let counts = in_share place ∙ ap (λ b. count_in rows place + one_if b) e in
        let same : count_in more_rows place ≡ count_in rows place = omega (arith, counts) in
        counted.counted place t old ∙ ap (λ n. if t.over then 0 else n) (sym same))

-- no row has a share that is not there
none_in : (rows : List OwnedRow) (n : ℕ)
    → ((place : ℕ) (r : OwnedRow) → slice_get rows place ≡ Some r → r.share < n) → count_in rows n ≡ 0
none_in [] n placed = refl
none_in (r ∷ rows) n placed =
    let rest = none_in rows n (λ place q is. placed (suc place) q is) in
    let here = placed 0 r refl in
    let counts = counted_cons (λ q. q.unended && (q.share == n)) r rows in
    let none = ap (λ b. one_if (r.unended && b)) (apart (r.share == n) refl here) ∙ both_none r.unended in
    omega (arith, rest, counts, none)
  where
    apart : (t : Bool) → (r.share == n) ≡ t → r.share < n → (r.share == n) ≡ false
    apart true e lt = let same : r.share ≡ n = eqb-true r.share n e in absurd (omega (arith, same, lt))
    apart false e lt = e

    both_none : (b : Bool) → one_if (b && false) ≡ 0
    both_none true = refl
    both_none false = refl

-- nor does a share more change what is read off a row
pub owned_more : (rows : List OwnedRow) (shares more : List Share)
    → ((place : ℕ) (r : OwnedRow) → slice_get rows place ≡ Some r → r.share < length shares)
    → owned_of rows (shares ++ more) ≡ owned_of rows shares
owned_more rows shares more placed = map_agree (owned_in (shares ++ more)) (owned_in shares) rows
    (λ i r is.
    let there = got_some shares r.share (placed i r is) in
    ap (λ o. owned_by o r) (got_front shares more r.share there.0 there.1 ∙ sym there.1))

-- with a share more, without a reservation, all stays counted
pub counted_grown : (rows : List OwnedRow) (shares : List Share) (held : List ℕ) (reg client : ℕ)
    (more : Option (Option ℕ)) → client < length held → AreCounted rows shares held
    → AreCounted rows (shares ++ new_shares reg client more) held
counted_grown rows shares held reg client None listed counted =
    subst (λ l. AreCounted rows l held) (sym (append-nil shares)) counted
counted_grown rows shares held reg client (Some before) listed counted = record {
  placed = λ place r is.
      let lt = counted.placed place r is in
      let longer = length-append shares (one ∷ []) in
      omega (arith, lt, longer);
  listed = λ place s is. place_cases place s (s.client < length held) is
      (λ e same. subst (λ q. q.client < length held) (sym same) listed)
      (λ old. counted.listed place s old);
  counted = λ place s is. place_cases place s (s.count ≡ (if s.over then 0 else count_in rows place)) is
      (λ e same. subst (λ q. q.count ≡ (if q.over then 0 else count_in rows place)) (sym same)
      (sym (ap (count_in rows) e ∙ none_in rows (length shares) counted.placed)))
      (λ old. counted.counted place s old);
  held_are = λ c n is. counted.held_are c n is
      ∙ ap (λ l. count_of l c) (sym (owned_more rows shares (one ∷ []) counted.placed));
}
  where
    one : Share
    one = share_new reg client before

    place_cases : (place : ℕ) (s : Share) (P : Type 0) → slice_get (shares ++ one ∷ []) place ≡ Some s
        → (place ≡ length shares → s ≡ one → P) → (slice_get shares place ≡ Some s → P) → P
    place_cases place s P is here there = by (place == length shares) refl
      where
        by : (t : Bool) → (place == length shares) ≡ t → P
        by true e =
            let same : place ≡ length shares = eqb-true place (length shares) e in
            let got : slice_get (shares ++ one ∷ []) place ≡ Some one =
            ap (slice_get (shares ++ one ∷ [])) same ∙ got_end shares one in
            let is_one : s ≡ one = cc in
            here same is_one
        by false e = there (got_pushed shares one s place is e)
