-- What follows a front.
use Rattle.std.proofs.Common.{◌≡◌, ℕ, Bool, true, false, cond, List, ◌++◌, length, take, drop, Option, Some}
use Rattle.std.proofs.Common.{None, MatchOption, Bor, nat_eq, refl, sym, ap, subst, ◌∙◌}
use Rattle.std.specs.List.{starts_with}
use Rattle.std.specs.Option.{option_copied}
use Rattle.std.specs.Str.{bytes_eq}
use Rattle.std.specs.Str.Pattern.{FindsTextPrefix, StripsPrefix}
use Rattle.std.proofs.Math.Seq.{take-append_seam}
use Rattle.std.proofs.lemmas.List.{take-append-drop}
use Rattle.std.proofs.lemmas.Slice.Eq.{bytes_eq-Decides}
use Rattle.folders.proofs.Lookups.{itself}
use Rattle.listed_files.specs.Opened.{stripped}

pub begins : (text front : List ℕ) → starts_with nat_eq text front ≡ true
    → text ≡ front ++ drop (length front) text
begins text front h =
    let same : front ≡ take (length front) text = (bytes_eq-Decides front (take (length front) text)).0 h in
    sym (take-append-drop (length front) text) ∙ ap (λ (t : List ℕ). t ++ drop (length front) text) (sym same)

-- what `strip_prefix` gives
pub strips : (front text : List ℕ) (o : Option (Bor (List ℕ)))
    → MatchOption o (FindsTextPrefix front text None) (λ x. StripsPrefix (FindsTextPrefix front) text x.now)
    → option_copied o ≡ stripped front text
strips front text None lacks = by_test (starts_with nat_eq text front) refl
  where
    by_test : (b : Bool) → starts_with nat_eq text front ≡ b
        → None ≡ cond b (Some (drop (length front) text)) None
    by_test false e = refl
    by_test true e = absurd (lacks (drop (length front) text) (begins text front e))
strips front text (Some x) (n, finds, is, len) =
    let stands : starts_with nat_eq text front ≡ true =
    subst (λ (t : List ℕ). starts_with nat_eq t front ≡ true) (sym finds.1)
    (subst (λ (t : List ℕ). bytes_eq front t ≡ true) (sym (take-append_seam front (drop n text)))
    (itself front)) in
    rw (stands, is, finds.0) refl
