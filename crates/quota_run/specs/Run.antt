-- What a call of a run makes, and what a run of calls makes.
use Rattle.std.specs.Prelude.{◌≡◌, List, ◌++◌, Result, Ok, Err}
use Rattle.dist_types.specs.declared.fault.Memory.{Memory}
use Rattle.quota.specs.Calls.{outcome, after_all, answers_of}
use Rattle.quota.specs.Quota.{Quota}
use Rattle.quota.specs.declared.call.QuotaAnswer.{QuotaAnswer}
use Rattle.quota.specs.declared.call.QuotaCall.{QuotaCall}

-- a call was made, and answered so
pub record IsMade (q : Quota) (call : QuotaCall) (new : Quota) (answer : QuotaAnswer) : Type 0 where
  pub left : new ≡ (outcome q call).left
  pub told : answer ≡ (outcome q call).told

-- the same, or memory ran out and nothing changed
abbrev pub IsStep : Quota → QuotaCall → Quota → Result QuotaAnswer Memory → Type 0
IsStep q call new (Ok answer) = IsMade q call new answer
IsStep q call new (Err e) = new ≡ q

-- All calls were made, each over what those before it left, and answered so.
pub record AreMade (q : Quota) (calls : List QuotaCall) (new : Quota) (answers : List QuotaAnswer) : Type 0 where
  pub left : new ≡ after_all q calls
  pub told : answers ≡ answers_of q calls

-- Only the first of the calls were made.
pub record AreBegun (q : Quota) (calls : List QuotaCall) (new : Quota) : Type 0 where
  pub done : List QuotaCall
  pub rest : List QuotaCall
  pub all : calls ≡ done ++ rest
  pub left : new ≡ after_all q done
