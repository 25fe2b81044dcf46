-- What a reserve answers, read off its entry.
use Rattle.std.specs.Prelude.{◌≡◌, ℕ, List, Option, Some, None, Result, Ok, Err}
use Rattle.core_rules.specs.declared.entry.CoreEntry.{CoreEntry}
use Rattle.core_rules.specs.declared.entry.CoreKind.{CoreKind}
use Rattle.core_rules.specs.declared.entry.CoreKind.TheVariants.{Reserve}
use Rattle.core_rules.specs.declared.entry.Reserved.{Reserved}
use Rattle.core_rules.specs.declared.entry.Reserved.TheVariants.{Job, NoRoom, Spent}
use Rattle.core_rules.specs.declared.error.SchedError.{SchedError}
use Rattle.core_rules.specs.declared.error.SchedError.TheVariants as error
use Rattle.core_rules.specs.Answers.{IsTicket}
use Rattle.sched_core.specs.declared.answers.Picked.{Picked}
use Rattle.sched_core.specs.declared.answers.Picked.TheVariants as picked

-- what a reserve makes: the reservation, or as many registrations without room, or nothing where the ids are
-- spent
abbrev pub IsReservedAs : {A : Type 0} → (A → List ℕ) → (A → ℕ → List ℕ) → List CoreEntry → Reserved
    → Option Picked
    → Type 0
IsReservedAs key_of token_for log (Job job reg forgiven) (Some (picked.Reserved r)) =
    IsTicket key_of token_for log job reg r
IsReservedAs key_of token_for log (NoRoom standing) (Some (picked.NoRoom n)) = n ≡ standing
IsReservedAs key_of token_for log Spent None = Unit {0}
IsReservedAs key_of token_for log reserved other = ⊥

-- what a reserve answers that made this
abbrev pub picked_or_spent : Option Picked → Result Picked SchedError
picked_or_spent None = Err error.IdsSpent
picked_or_spent (Some p) = Ok p

-- what a reserve picks, by its entry
abbrev pub IsPicked : {A : Type 0} → (A → List ℕ) → (A → ℕ → List ℕ) → List CoreEntry → CoreKind → Picked
    → Type 0
IsPicked key_of token_for log (Reserve reserved) p = IsReservedAs key_of token_for log reserved (Some p)
IsPicked key_of token_for log other p = ⊥
