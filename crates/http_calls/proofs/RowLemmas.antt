-- The row that a call adds to the dialer's record.
use Rattle.std.proofs.Common.{◌≡◌, inl, inr, ℕ, List, [], ◌∷◌, ◌++◌, Option, Some, Result, Err, refl, sym, ap}
use Rattle.std.proofs.Common.{subst, ◌∙◌, arith, length}
use Rattle.std.specs.Prelude.{option_map}
use Rattle.std.proofs.lemmas.List.{same_from_push, length_push}
use Rattle.dist_types.specs.Dialer.{asked_row}
use Rattle.dist_types.specs.declared.dialer.Asked.{Asked}
use Rattle.http_head.specs.declared.error.HttpError.{HttpError}
use Rattle.http_head.specs.declared.error.HttpError.TheVariants.{Memory}
use Rattle.http_calls.specs.Asking.{Asks}
use Rattle.http_calls.specs.Client.{ClientParts, IsAsked, HasRow}

same_rows : {X : Type 0} (xs ys : List X) → Some xs ≡ Some ys → xs ≡ ys
same_rows xs ys e = cc

-- no row was added to a record that stays
no_more : (rows : List Asked) (row : Asked) → Some rows ≡ Some (rows ++ row ∷ []) → ⊥
no_more rows row e =
    let same = ap length (same_rows rows (rows ++ row ∷ []) e) in
    let more = length_push rows row in
    omega arith

pub no_row : (P : List ℕ → Type 0) (old new : Option (List Asked)) → new ≡ old
    → (row : Asked) → HasRow old row new → P row.request
no_row P old new stays row (rows, was, is) = absurd (no_more rows row (sym was ∙ (sym stays ∙ is)))

-- what holds of a call's request holds of its row
pub row_is : {M : Type 0} (at : List ℕ → Option (M × List ℕ)) (host : List ℕ) (port : ℕ)
    (sent call : List ℕ) (answer : Result M HttpError) (P : List ℕ → Type 0) (old new : Option (List Asked))
    → sent ≡ call → Asks at host port sent answer old new → P call
    → (row : Asked) → HasRow old row new → P row.request
row_is at host port sent call answer P old new same (inl once) holds row (rows, was, is) =
    let made = asked_row host port sent once.heard in
    let told : Some (rows ++ row ∷ []) ≡ Some (rows ++ made ∷ []) =
    sym is ∙ (once.row ∙ ap (option_map (λ (l : List Asked). l ++ made ∷ [])) was) in
    let one = same_from_push rows rows row made (same_rows (rows ++ row ∷ []) (rows ++ made ∷ []) told) in
    subst (λ (a : Asked). P a.request) (sym one.1) (subst P (sym same) holds)
row_is at host port sent call answer P old new same (inr h) holds row more = no_row P old new h.1 row more

-- a call that was not begun for want of memory asks nobody
pub unasked : {M : Type 0} (at : List ℕ → Option (M × List ℕ)) (host : List ℕ) (port : ℕ) (request : List ℕ)
    (answer : Result M HttpError) (old : ClientParts) → answer ≡ Err Memory
    → IsAsked at host port request answer old old
unasked at host port request answer old is = record {
  asks = inr (is, refl);
  cause = λ e. absurd (let both = sym is ∙ e in cc);
  steady = λ other. refl;
  later = omega arith;
  changes = refl;
}
