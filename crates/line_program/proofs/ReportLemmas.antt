-- Faults that are told.
use Rattle.std.proofs.Common.{◌≡◌, inr, ℕ, ◌+◌, List, ◌++◌, length, take, drop, Option, codes, refl, sym}
use Rattle.std.proofs.Common.{ap, subst, ◌∙◌, append_assoc}
use Rattle.std.proofs.lemmas.List.{take-append-drop, take_at, drop_at}
use Rattle.dist_types.specs.Content.{Added, Began}
use Rattle.dist_types.proofs.Contents.{added_then, take_add}
use Rattle.line_program.specs.declared.fault.ConfigCause.TheVariants.{Missing, Unreadable}
use Rattle.line_program.specs.declared.fault.FarmFault.{FarmFault}
use Rattle.line_program.specs.declared.fault.FarmFault.TheVariants.{BadConfig, Memory}
use Rattle.line_program.specs.Report.{told_text, IsTold, IsLong, StandsFor}
use Rattle.line_program.specs.Side.{Side}

-- want of memory is told in place of a fault
pub told_memory : (program : List ℕ) (f : FarmFault) (answer : ℕ) (before after : Side) → IsLong f
    → IsTold program Memory answer before after
    → (told : FarmFault) × StandsFor f told × IsTold program told answer before after
told_memory program f answer before after long told = (Memory, inr (refl, long), told)

pub missing_text : codes ": bad configuration: file missing\n" ≡ told_text (BadConfig Missing)
unfolding told_text
missing_text = refl

pub unreadable_text : codes ": bad configuration: file unreadable\n" ≡ told_text (BadConfig Unreadable)
unfolding told_text
unreadable_text = refl

-- ---- a text behind another

take_front : (n : ℕ) (a b : List ℕ) → take (length (take n a)) (a ++ b) ≡ take n a
take_front n a b =
    let e : take n a ++ (drop n a ++ b) ≡ a ++ b =
    sym (append_assoc (take n a) (drop n a) b) ∙ ap (λ (x : List ℕ). x ++ b) (take-append-drop n a) in
    ap (take (length (take n a))) (sym e) ∙ take_at (take n a) (drop n a ++ b) (length (take n a)) refl

take_behind : (n : ℕ) (a b : List ℕ) → take (length a + n) (a ++ b) ≡ a ++ take n b
take_behind n a b = take_add (length a) n (a ++ b)
    ∙ rw (take_at a b (length a) refl, drop_at a b (length a) refl) refl

-- a front of the first text was written
pub front_began : (a b : List ℕ) (o p : Option (List ℕ)) → Began a o p → Began (a ++ b) o p
front_began a b o p began = (
  length (take began.0 a),
  subst (λ (x : List ℕ). Added x o p) (sym (take_front began.0 a b)) began.1,
)

-- the first text was written, and a front of the other
pub then_began : (a b : List ℕ) (o p q : Option (List ℕ)) → Added a o p → Began b p q → Began (a ++ b) o q
then_began a b o p q first began = (
  length a + began.0,
  subst (λ (x : List ℕ). Added x o q) (sym (take_behind began.0 a b))
      (added_then a (take began.0 b) o p q first began.1),
)
