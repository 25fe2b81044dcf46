-- The places of a registration that are kept when its list is swept, one after the other.
use Rattle.std.proofs.Common.{◌≡◌, ◌+◌, ◌<◌, ℕ, List, [], ◌∷◌, ◌++◌, true, false, cond}
use Rattle.std.proofs.Common.{Some, append-nil, ap, filter, length, sym, take, ◌∙◌}
use Rattle.std.specs.Prelude.{slice_get}
use Rattle.std.proofs.lemmas.List.{take_more}
use Rattle.std.proofs.lemmas.List.Elements.{filter-append}
use Rattle.std.proofs.lemmas.Option.{get_or_from_slice_get}
use Rattle.reservations.specs.declared.booked.BookedRow.{BookedRow}
use Rattle.reservations.specs.Own.{is_own_at}

-- the next one, whether it is kept or not
next : (n : ℕ) (bs : List BookedRow) (list : List ℕ) (i place : ℕ) → i < length list
    → slice_get list i ≡ Some place → filter (is_own_at n bs) (take (i + 1) list)
    ≡ filter (is_own_at n bs) (take i list) ++ cond (is_own_at n bs place) (place ∷ []) []
next n bs list i place lt is =
    ap (filter (is_own_at n bs)) (take_more list i 0 lt
    ∙ ap (λ p. take i list ++ p ∷ []) (get_or_from_slice_get list i place 0 is))
    ∙ filter-append (is_own_at n bs) (take i list) (place ∷ [])

-- one that is kept
pub kept_more : (n : ℕ) (bs : List BookedRow) (list kept : List ℕ) (i place : ℕ) → i < length list
    → slice_get list i ≡ Some place → is_own_at n bs place ≡ true
    → kept ≡ filter (is_own_at n bs) (take i list)
    → kept ++ place ∷ [] ≡ filter (is_own_at n bs) (take (i + 1) list)
kept_more n bs list kept i place lt is keeps so_far = ap (λ l. l ++ place ∷ []) so_far
    ∙ ap (λ b. filter (is_own_at n bs) (take i list) ++ cond b (place ∷ []) []) (sym keeps)
    ∙ sym (next n bs list i place lt is)

-- and one that is not
pub kept_same : (n : ℕ) (bs : List BookedRow) (list kept : List ℕ) (i place : ℕ) → i < length list
    → slice_get list i ≡ Some place → is_own_at n bs place ≡ false
    → kept ≡ filter (is_own_at n bs) (take i list) → kept ≡ filter (is_own_at n bs) (take (i + 1) list)
kept_same n bs list kept i place lt is drops so_far = so_far
    ∙ sym (append-nil (filter (is_own_at n bs) (take i list)))
    ∙ ap (λ b. filter (is_own_at n bs) (take i list) ++ cond b (place ∷ []) []) (sym drops)
    ∙ sym (next n bs list i place lt is)
