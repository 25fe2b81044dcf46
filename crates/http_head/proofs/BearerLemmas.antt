-- A token is found where a text is what it says, and a text is compared as a list.
use Rattle.std.proofs.Common.{◌≡◌, ℕ, cond, List, ◌∷◌, ◌++◌, length, take, drop, Option, Some, None, true}
use Rattle.std.proofs.Common.{refl, sym, ap, ◌∙◌}
use Rattle.std.specs.Prelude.{codes, bytes_eq, nat_eq}
use Rattle.std.specs.List.{starts_with}
use Rattle.std.proofs.lemmas.List.{take-append-drop}
use Rattle.std.proofs.lemmas.Option.{cond_some}
use Rattle.std.proofs.lemmas.Slice.Eq.{bytes_eq-Decides}
use Rattle.dist_types.specs.Addr.{◌>>=◌, cut_at}
use Rattle.dist_types.proofs.AddrLemmas.{cut_found, cut_is}
use Rattle.http_head.specs.Bearer.{token_in}

-- ---- texts

pub equal_texts : (a b : List ℕ) → bytes_eq a b ≡ true → a ≡ b
equal_texts a b = (bytes_eq-Decides a b).0

pub same_text : (a : List ℕ) → bytes_eq a a ≡ true
same_text a = (bytes_eq-Decides a a).1 refl

pub begins : (text front : List ℕ) → starts_with nat_eq text front ≡ true
    → text ≡ front ++ drop (length front) text
begins text front h =
    let same = equal_texts front (take (length front) text) h in
    sym (take-append-drop (length front) text) ∙ ap (λ (t : List ℕ). t ++ drop (length front) text) (sym same)

-- ---- tokens

pub some_step : {A B : Type 0} (x : Option A) (f : A → Option B) (y : B) → (x >>= f) ≡ Some y → (a : A)
    × (x ≡ Some a) × (f a ≡ Some y)
some_step (Some a) f y e = (a, refl, e)
some_step None f y e = absurd cc

pub token_shown : (o : Option (List ℕ)) (token : List ℕ) → token_in o ≡ Some token
    → o ≡ Some (codes "Bearer " ++ token)
unfolding token_in
token_shown None token e = absurd cc
token_shown (Some text) token e =
    let s = some_step (cut_at 32 text) (λ p. cond (bytes_eq p.0 (codes "Bearer")) (Some p.1) None) token e in
    let p = s.0 in
    let found = cond_some (bytes_eq p.0 (codes "Bearer")) p.1 token s.2 in
    let scheme = equal_texts p.0 (codes "Bearer") found.0 in
    ap Some (cut_is 32 text p s.1 ∙ (λ i. scheme i ++ 32 ∷ found.1 i))

pub shown_token : (token : List ℕ) → token_in (Some (codes "Bearer " ++ token)) ≡ Some token
unfolding token_in
shown_token token = rw (cut_found 32 (codes "Bearer") token refl) refl
