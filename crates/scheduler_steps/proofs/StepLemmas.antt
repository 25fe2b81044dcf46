-- The steps, put together from the clauses of the state's calls.
use Rattle.std.proofs.Common.{◌≡◌, ℕ, List, Bool, true, false, Some, None, Result, Ok, Err, refl, ap}
use Rattle.std.specs.Prelude.{OnOk, IfErr, IsErrOf, if◌then◌else◌}
use Rattle.dist_types.specs.declared.addr.Addr.{Addr}
use Rattle.dist_types.specs.declared.ids.JobId.{JobId}
use Rattle.dist_types.specs.declared.outgoing.CallFault.{CallFault}
use Rattle.dist_types.specs.declared.results.AssignJobResult.{AssignJobResult}
use Rattle.dist_types.specs.declared.results.JobState.{JobState}
use Rattle.dist_types.specs.declared.results.UpdateJobStateResult.{UpdateJobStateResult}
use Rattle.core_rules.specs.Answers.{Leaves, RefusesReserve, committed_by, undo_answer, updated_by}
use Rattle.core_rules.specs.Log.{Core, logged}
use Rattle.core_rules.specs.Rule.{rule}
use Rattle.core_rules.specs.Ticket.{Ticket}
use Rattle.core_rules.specs.declared.answers.Committed.{Committed}
use Rattle.core_rules.specs.declared.answers.Undone.{Undone}
use Rattle.core_rules.specs.declared.call.Call.TheVariants as call
use Rattle.core_rules.specs.declared.error.SchedError.{SchedError}
use Rattle.core_rules.specs.declared.error.SchedError.TheVariants as error
use Rattle.scheduler_steps.specs.Faults.{fault_of, faulted}
use Rattle.scheduler_steps.specs.Settling.{is_own, TellsSettle, RefusesSettle}
use Rattle.scheduler_steps.specs.Step.{IsStep}
use Rattle.scheduler_steps.specs.Telling.{TellsReserve, TellsReported}
use Rattle.scheduler_steps.specs.Telling.{WantsMemory}
use Rattle.scheduler_steps.specs.declared.settled.Settled.TheVariants.{Taken, Failed}

-- a reserve that is refused
pub not_reserved : {A : Type 0} (key_of : A → List ℕ) (token_for : A → ℕ → List ℕ) (s new : Core) (now : ℕ)
    (e : SchedError) → RefusesReserve (rule s (call.Reserve now)).kind e
    → Leaves e s new (rule s (call.Reserve now))
    → IsStep (call.Reserve now) (TellsReserve key_of token_for) WantsMemory s new (Err (fault_of e))
not_reserved key_of token_for s new now error.IdsSpent refused left =
    record { made = Some (rule s (call.Reserve now)); left = left; gives = (refl, refused) }
not_reserved key_of token_for s new now error.Memory refused left =
    record { made = None; left = left; gives = refl }
not_reserved key_of token_for s new now (error.BadCpus cpus) refused left = absurd refused
not_reserved key_of token_for s new now error.UnknownJob refused left = absurd refused
not_reserved key_of token_for s new now error.WrongServer refused left = absurd refused
not_reserved key_of token_for s new now (error.BadTransition from to) refused left = absurd refused

-- a report, by what the core answers
pub reported : (s new : Core) (now : ℕ) (server : Addr) (job : JobId) (to : JobState)
    (result : Result UpdateJobStateResult SchedError)
    → OnOk result (new ≡ logged s (rule s (call.Update now server job to)))
    → (¬ IsErrOf result error.Memory → result ≡ updated_by (rule s (call.Update now server job to)).kind)
    → IfErr result (λ e. Leaves e s new (rule s (call.Update now server job to)))
    → IsStep (call.Update now server job to) TellsReported WantsMemory s new (faulted result)
reported s new now server job to (Ok x) log answer left =
    record { made = Some _; left = log; gives = (refl, ap faulted (answer (λ h. absurd cc))) }
reported s new now server job to (Err error.Memory) log answer left =
    record { made = None; left = left; gives = refl }
reported s new now server job to (Err error.IdsSpent) log answer left =
    record { made = Some _; left = left; gives = (refl, ap faulted (answer (λ h. absurd cc))) }
reported s new now server job to (Err error.UnknownJob) log answer left =
    record { made = Some _; left = left; gives = (refl, ap faulted (answer (λ h. absurd cc))) }
reported s new now server job to (Err error.WrongServer) log answer left =
    record { made = Some _; left = left; gives = (refl, ap faulted (answer (λ h. absurd cc))) }
reported s new now server job to (Err (error.BadCpus cpus)) log answer left =
    record { made = Some _; left = left; gives = (refl, ap faulted (answer (λ h. absurd cc))) }
reported s new now server job to (Err (error.BadTransition from other)) log answer left =
    record { made = Some _; left = left; gives = (refl, ap faulted (answer (λ h. absurd cc))) }

-- a job that its server took, by whether the reservation is the core's own
pub settled_taken : (s new : Core) (now : ℕ) (r : Ticket) (taken : AssignJobResult) (committed : Committed)
    (own : Bool) → is_own s r ≡ own
    → new ≡ (if own then logged s (rule s (call.Commit now r.number r.job taken.state)) else s)
    → committed ≡ committed_by own (rule s (call.Commit now r.number r.job taken.state)).kind r
    → IsStep (call.Commit now r.number r.job taken.state) (TellsSettle r (Ok taken))
    (RefusesSettle r (Ok taken)) s new (Taken committed taken.need_toolchain)
settled_taken s new now r taken committed true is left answer =
    record {
      made = Some _;
      left = left;
      gives = (refl, (is, ap (λ (c : Committed). Taken c taken.need_toolchain) answer));
    }
settled_taken s new now r taken committed false is left answer =
    record {
      made = None;
      left = left;
      gives = (is, ap (λ (c : Committed). Taken c taken.need_toolchain) answer);
    }

-- one that it did not
pub settled_failed : (s new : Core) (now : ℕ) (r : Ticket) (cause : CallFault) (u : Undone)
    (own : Bool) → is_own s r ≡ own
    → new ≡ (if own then logged s (rule s (call.Undo now r.number r.job)) else s)
    → u ≡ undo_answer own (rule s (call.Undo now r.number r.job)).kind
    → IsStep (call.Undo now r.number r.job) (TellsSettle r (Err cause)) (RefusesSettle r (Err cause)) s new
    (Failed u cause)
settled_failed s new now r cause u true is left answer =
    record {
      made = Some _;
      left = left;
      gives = (refl, (is, ap (λ (x : Undone). Failed x cause) answer));
    }
settled_failed s new now r cause u false is left answer =
    record { made = None; left = left; gives = (is, ap (λ (x : Undone). Failed x cause) answer) }
