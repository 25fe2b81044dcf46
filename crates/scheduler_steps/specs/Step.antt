-- One step of a scheduler, over the core before it.
use Rattle.std.specs.Prelude.{◌≡◌, Option, Some, None}
use Rattle.core_rules.specs.Log.{Core, logged}
use Rattle.core_rules.specs.Rule.{rule}
use Rattle.core_rules.specs.declared.call.Call.{Call}
use Rattle.core_rules.specs.declared.entry.CoreEntry.{CoreEntry}

-- the core with the entry that was made, if any
abbrev pub with_core : Core → Option CoreEntry → Core
with_core core None = core
with_core core (Some e) = logged core e

-- What a call gives over a core: the entry that the rule makes, and an answer that tells it; or no entry, and
-- a refusal.
abbrev pub Gives : {X : Type 0} → Call → (Core → CoreEntry → X → Type 0) → (Core → X → Type 0) → Core
    → Option CoreEntry → X → Type 0
Gives asked tells refuses core (Some e) answer = (e ≡ rule core asked) × tells core e answer
Gives asked tells refuses core None answer = refuses core answer

-- One step: the entry that it made, if any, is logged, and nothing else changes.
pub record IsStep {X : Type 0} (asked : Call) (tells : Core → CoreEntry → X → Type 0)
    (refuses : Core → X → Type 0) (old new : Core) (answer : X) : Type 0 where
  pub made : Option CoreEntry
  pub left : new ≡ with_core old made
  pub gives : Gives asked tells refuses old made answer
