-- A row that is ended or added: what is read off the rows then, and that all stays counted.
use Rattle.std.proofs.Common.{◌≡◌, ℕ, ◌+◌, ◌-◌, ◌<◌, List, Bool, true, false, not}
use Rattle.std.proofs.Common.{◌&&◌}
use Rattle.std.proofs.Common.{set, length, get_or, Option, Some, None, refl, ap, ◌∙◌, sym, subst, arith}
use Rattle.std.specs.Prelude.{slice_get, ◌==◌, if◌then◌else◌}
use Rattle.std.specs.Option.{option_map}
use Rattle.std.proofs.lemmas.Bool.{eqb-true}
use Rattle.std.proofs.lemmas.List.{length-set}
use Rattle.quota.specs.Holdings.{Owned, count_of, owned_by, owned_in, owned_of, owned_ended}
use Rattle.quota.specs.Holdings.{share_lowered, lowered_by, count_in, AreCounted}
use Rattle.quota.specs.Holdings.{TakesFrom}
use Rattle.quota.specs.declared.rows.OwnedRow.{OwnedRow}
use Rattle.quota.specs.declared.rows.Share.{Share}
use Rattle.quota.proofs.ListLemmas.{got_set, got_other, got_within, got_some, got_or, counted_set, one_if}
use Rattle.quota.proofs.ListLemmas.{map_set, map_agree, got_map, set_same}
use Rattle.quota.proofs.HoldingLemmas.{share_cases, read_lowered, read_ended}
use Rattle.quota.proofs.KeptWords.{row_ended}

-- the reservation of a row whose share is known
read_at : (shares : List Share) (c : ℕ) (s : Share) (r : OwnedRow) → slice_get shares c ≡ Some s
    → r.share ≡ c → owned_in shares r ≡ owned_by (Some s) r
read_at shares c s r at same = ap (λ o. owned_by o r) (ap (slice_get shares) same ∙ at)

-- the reservations once a row is ended
pub owned_lowered : (rows : List OwnedRow) (shares : List Share) (p c : ℕ) (r : OwnedRow) (s : Share)
    → slice_get shares c ≡ Some s
    → owned_of (set rows p (row_ended r)) (set shares c (share_lowered s))
    ≡ set (owned_of rows shares) p (owned_ended (owned_in shares r))
owned_lowered rows shares p c r s at =
    let after = set shares c (share_lowered s) in
    map_set (owned_in after) rows p (row_ended r)
    ∙ ap (λ l. set l p (owned_in after (row_ended r)))
    (map_agree (owned_in after) (owned_in shares) rows (λ i q is. read_lowered shares c s q at))
    ∙ ap (set (owned_of rows shares) p) (read_lowered shares c s (row_ended r) at ∙ read_ended shares r)

-- one that is counted there no more
less_one : (over : Bool) (count rows fewer : ℕ) → count ≡ (if over then 0 else rows) → fewer + 1 ≡ rows
    → count - 1 ≡ (if over then 0 else fewer)
less_one true count rows fewer is one = omega (arith, is)
less_one false count rows fewer is one = omega (arith, is, one)

less_is : (over : Bool) (new old : ℕ) → new + one_if ((true && not over) && true) ≡ old
    → new ≡ old - (if over then 0 else 1)
less_is true new old is = omega (arith, is)
less_is false new old is = omega (arith, is)

less_other : (over : Bool) → one_if ((true && not over) && false) ≡ 0
less_other true = refl
less_other false = refl

-- once a row is ended, and its share lowered, all stays counted
pub counted_lowered : (rows : List OwnedRow) (shares after : List Share) (held left : List ℕ) (p c : ℕ)
    (r : OwnedRow) → slice_get rows p ≡ Some r → r.unended ≡ true → r.share ≡ c
    → TakesFrom share_lowered lowered_by shares after held left c → AreCounted rows shares held
    → AreCounted (set rows p (row_ended r)) after left
counted_lowered rows shares after held left p c r in_place unended own takes counted =
    subst (λ l. AreCounted fewer_rows l left) (sym takes.changed)
    (subst (AreCounted fewer_rows lowered) (sym takes.lowered) all)
  where
    s : Share
    s = takes.share

    fewer_rows : List OwnedRow
    fewer_rows = set rows p (row_ended r)

    lowered : List Share
    lowered = set shares c (share_lowered s)

    fewer : List ℕ
    fewer = set held s.client (get_or held s.client 0 - lowered_by s)

    lt : c < length shares
    lt = got_within shares c s takes.at

    o : Owned
    o = owned_in shares r

    o_is : o ≡ owned_by (Some s) r
    o_is = read_at shares c s r takes.at own

    count_now : (client : ℕ) → count_of (owned_of fewer_rows lowered) client
        + one_if ((true && not s.over) && (s.client == client)) ≡ count_of (owned_of rows shares) client
    count_now client =
        let at : slice_get (owned_of rows shares) p ≡ Some o =
        got_map (owned_in shares) rows p ∙ ap (option_map (owned_in shares)) in_place in
        let sets = counted_set (λ q. q.unended && (q.client == client)) (owned_of rows shares) p o
        (owned_ended o) at in
        let is = ap (λ l. count_of l client) (owned_lowered rows shares p c r s takes.at) in
        let here : one_if (o.unended && (o.client == client))
        ≡ one_if ((true && not s.over) && (s.client == client)) =
        ap (λ q. one_if (q.unended && (q.client == client))) o_is
        ∙ ap (λ t. one_if ((t && not s.over) && (s.client == client))) unended in
        omega (arith, sets, is, here)

    held_now : (client n : ℕ) → slice_get fewer client ≡ Some n → n ≡ count_of (owned_of fewer_rows
        lowered) client
    held_now client n is = by (s.client == client) refl
      where
        by : (t : Bool) → (s.client == client) ≡ t → n ≡ count_of (owned_of fewer_rows lowered) client
        by true e =
            let same : s.client ≡ client = eqb-true s.client client e in
            let listed = counted.listed c s takes.at in
            let old = got_some held s.client listed in
            let was = counted.held_are s.client old.0 old.1 in
            let read = got_or held s.client old.0 0 old.1 in
            let got : slice_get fewer client ≡ Some (get_or held s.client 0 - lowered_by s) =
            ap (slice_get fewer) (sym same)
            ∙ got_set held s.client (get_or held s.client 0 - lowered_by s) listed in
            let now : n ≡ get_or held s.client 0 - lowered_by s = cc in
            let here : old.0 ≡ count_of (owned_of rows shares) client =
            was ∙ ap (count_of (owned_of rows shares)) same in
            let counts = ap (λ t. count_of (owned_of fewer_rows lowered) client
            + one_if ((true && not s.over) && t)) (sym e) ∙ count_now client in
            let less = less_is s.over (count_of (owned_of fewer_rows lowered) client)
            (count_of (owned_of rows shares) client) counts in
            now ∙ ap (λ m. m - lowered_by s) (read ∙ here) ∙ sym less
        by false e =
            let was = counted.held_are client n (sym (got_other held s.client client
            (get_or held s.client 0 - lowered_by s) e) ∙ is) in
            let counts = count_now client in
            let none = ap (λ t. one_if ((true && not s.over) && t)) e ∙ less_other s.over in
            omega (arith, was, counts, none)

    in_share : (place : ℕ) → count_in fewer_rows place + one_if (true && (c == place)) ≡ count_in rows place
    in_share place =
        let sets = counted_set (λ q. q.unended && (q.share == place)) rows p r (row_ended r) in_place in
        let here : one_if (r.unended && (r.share == place)) ≡ one_if (true && (c == place)) =
        ap (λ t. one_if (t && (r.share == place))) unended
        ∙ ap (λ n. one_if (true && (n == place))) own in
        omega (arith, sets, here)

    in_place_counts : (place : ℕ) (t : Share) → slice_get lowered place ≡ Some t
        → t.count ≡ (if t.over then 0 else count_in fewer_rows place)
    in_place_counts place t is = share_cases shares c place (share_lowered s) t
        (t.count ≡ (if t.over then 0 else count_in fewer_rows place)) lt is
        (λ e same.
        let one : c ≡ place = eqb-true c place e in
        let counts = ap (λ b. count_in fewer_rows place + one_if (true && b)) (sym e) ∙ in_share place in
        subst (λ q. q.count ≡ (if q.over then 0 else count_in fewer_rows place)) (sym same)
        (less_one s.over s.count (count_in rows place) (count_in fewer_rows place)
        (counted.counted place s (ap (slice_get shares) (sym one) ∙ takes.at)) counts))
        (λ e old.
        let counts = ap (λ b. count_in fewer_rows place + one_if (true && b)) (sym e) ∙ in_share place in
        let same : count_in fewer_rows place ≡ count_in rows place = omega (arith, counts) in
        counted.counted place t old ∙ ap (λ n. if t.over then 0 else n) (sym same))

    all : AreCounted fewer_rows lowered fewer
    all = record {
      placed = λ place q is. subst (λ n. q.share < n) (sym (length-set shares c (share_lowered s)))
          (row_placed place q is);
      listed = λ place t is. subst (λ n. t.client < n)
          (sym (length-set held s.client (get_or held s.client 0 - lowered_by s)))
          (share_cases shares c place (share_lowered s) t (t.client < length held) lt is
          (λ e same. subst (λ q. q.client < length held) (sym same) (counted.listed c s takes.at))
          (λ e old. counted.listed place t old));
      counted = in_place_counts;
      held_are = held_now;
    }
      where
        row_placed : (place : ℕ) (q : OwnedRow) → slice_get fewer_rows place ≡ Some q → q.share < length
            shares
        row_placed place q is = by (p == place) refl
          where
            by : (t : Bool) → (p == place) ≡ t → q.share < length shares
            by true e =
                let same : p ≡ place = eqb-true p place e in
                let got : slice_get fewer_rows place ≡ Some (row_ended r) =
                ap (slice_get fewer_rows) (sym same)
                ∙ got_set rows p (row_ended r) (got_within rows p r in_place) in
                let one : q ≡ row_ended r = cc in
                subst (λ z. z.share < length shares) (sym one) (counted.placed p r in_place)
            by false e = counted.placed place q (sym (got_other rows p place (row_ended r) e) ∙ is)

-- a row that ended before is what it was
pub owned_kept : (rows : List OwnedRow) (shares : List Share) (p : ℕ) (r : OwnedRow) → slice_get rows p ≡
    Some r
    → r.unended ≡ false
    → owned_of rows shares ≡ set (owned_of rows shares) p (owned_ended (owned_in shares r))
owned_kept rows shares p r in_place over = sym
    (ap (set (owned_of rows shares) p) (still (slice_get shares r.share))
    ∙ set_same (owned_of rows shares) p (owned_in shares r)
    (got_map (owned_in shares) rows p ∙ ap (option_map (owned_in shares)) in_place))
  where
    still : (o : Option Share) → owned_ended (owned_by o r) ≡ owned_by o r
    still None = refl
    still (Some s) = ap (λ b. record (owned_by (Some s) r) { unended = b }) (sym (ap (λ b. b && not s.over)
        over))
