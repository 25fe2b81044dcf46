-- One call of a scheduler with quotas that reserves nothing: the scheduler's own step.
use Rattle.std.specs.Prelude.{◌≡◌, Option}
use Rattle.core_rules.specs.Log.{Core}
use Rattle.core_rules.specs.declared.call.Call.{Call}
use Rattle.core_rules.specs.declared.entry.CoreEntry.{CoreEntry}
use Rattle.scheduler_steps.specs.Step.{with_core, Gives}
use Rattle.quota.specs.Quota.{Quota, over_core}

-- The entry that the call made, if any, is logged over the same clients and owners, and the answer tells it.
pub record IsStepOver {X : Type 0} (asked : Call) (tells : Core → CoreEntry → X → Type 0)
    (refuses : Core → X → Type 0) (old new : Quota) (answer : X) : Type 0 where
  pub made : Option CoreEntry
  pub left : new ≡ over_core old (with_core old.core made)
  pub gives : Gives asked tells refuses old.core made answer
