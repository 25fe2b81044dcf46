-- The calls of a scheduler with quotas as the scheduler's own steps.
use Rattle.std.proofs.Common.{◌≡◌, ℕ, List, true, Some, None, Result, Ok, Err, refl, ap, subst}
use Rattle.std.specs.Prelude.{OnOk, IfErr, IsErrOf}
use Rattle.dist_types.specs.declared.addr.Addr.{Addr}
use Rattle.dist_types.specs.declared.ids.JobId.{JobId}
use Rattle.dist_types.specs.declared.results.HeartbeatServerResult.{HeartbeatServerResult}
use Rattle.dist_types.specs.declared.results.JobState.{JobState}
use Rattle.dist_types.specs.declared.results.UpdateJobStateResult.{UpdateJobStateResult}
use Rattle.core_rules.specs.Answers.{updated_by}
use Rattle.core_rules.specs.Log.{logged}
use Rattle.core_rules.specs.Rule.{rule, says_new_entry}
use Rattle.core_rules.specs.declared.call.Call.TheVariants as call
use Rattle.core_rules.specs.declared.error.SchedError.{SchedError}
use Rattle.core_rules.specs.declared.error.SchedError.TheVariants as error
use Rattle.scheduler_steps.specs.Faults.{faulted}
use Rattle.scheduler_steps.specs.Telling.{hears, TellsHeard, RefusesHeard, TellsReported, WantsMemory}
use Rattle.quota.specs.Quota.{Quota, over_core, LeavesOver}
use Rattle.quota_service.specs.Step.{IsStepOver}

-- a heartbeat that is taken, under the key that was given
pub heard : (q new : Quota) (now : ℕ) (server : Addr) (nonce cpus : ℕ) (key given : List ℕ)
    (answer : HeartbeatServerResult) → key ≡ given → hears cpus ≡ true
    → new ≡ over_core q (logged q.core (rule q.core (call.Beat now server nonce cpus key)))
    → answer.is_new ≡ says_new_entry (rule q.core (call.Beat now server nonce cpus key))
    → IsStepOver (call.Beat now server nonce cpus given) (TellsHeard cpus) (RefusesHeard cpus) q new (Ok answer)
heard q new now server nonce cpus key given answer is takes left says =
    subst (λ k. IsStepOver (call.Beat now server nonce cpus k) (TellsHeard cpus) (RefusesHeard cpus) q new
    (Ok answer)) is
    (record {
      made = Some _;
      left = left;
      gives = (refl, (takes, ap (λ n. Ok (record { is_new = n })) says));
    })

-- a report, by what the scheduler answers
pub reported : (q new : Quota) (now : ℕ) (server : Addr) (job : JobId) (to : JobState)
    (result : Result UpdateJobStateResult SchedError)
    → OnOk result (new ≡ over_core q (logged q.core (rule q.core (call.Update now server job to))))
    → (¬ IsErrOf result error.Memory → result ≡ updated_by (rule q.core (call.Update now server job to)).kind)
    → IfErr result (λ e. LeavesOver e q new (rule q.core (call.Update now server job to)))
    → IsStepOver (call.Update now server job to) TellsReported WantsMemory q new (faulted result)
reported q new now server job to (Ok x) log answer left =
    record { made = Some _; left = log; gives = (refl, ap faulted (answer (λ h. absurd cc))) }
reported q new now server job to (Err error.Memory) log answer left =
    record { made = None; left = left; gives = refl }
reported q new now server job to (Err error.IdsSpent) log answer left =
    record { made = Some _; left = left; gives = (refl, ap faulted (answer (λ h. absurd cc))) }
reported q new now server job to (Err error.UnknownJob) log answer left =
    record { made = Some _; left = left; gives = (refl, ap faulted (answer (λ h. absurd cc))) }
reported q new now server job to (Err error.WrongServer) log answer left =
    record { made = Some _; left = left; gives = (refl, ap faulted (answer (λ h. absurd cc))) }
reported q new now server job to (Err (error.BadCpus cpus)) log answer left =
    record { made = Some _; left = left; gives = (refl, ap faulted (answer (λ h. absurd cc))) }
reported q new now server job to (Err (error.BadTransition from other)) log answer left =
    record { made = Some _; left = left; gives = (refl, ap faulted (answer (λ h. absurd cc))) }
