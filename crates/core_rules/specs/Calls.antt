-- Which call an entry is of.
use Rattle.std.specs.Prelude.{ℕ, List, find, Option, Some}
use Rattle.std.specs.Option.{option_map}
use Rattle.dist_types.specs.declared.ids.JobId.{JobId}
use Rattle.core_rules.specs.declared.entry.CoreEntry.{CoreEntry}
use Rattle.core_rules.specs.declared.entry.CoreKind.{CoreKind}
use Rattle.core_rules.specs.declared.entry.CoreKind.TheVariants.{Reserve, Commit, Undo, Beat, Update}
use Rattle.core_rules.specs.declared.entry.CoreKind.TheVariants.{Status, Drain}
use Rattle.core_rules.specs.declared.call.Call.{Call}
use Rattle.core_rules.specs.declared.call.Call.TheVariants as call
use Rattle.core_rules.specs.Log.{same_job}
use Rattle.core_rules.specs.Reservation.{unspent}

-- the number of the unspent reservation of a job, if it has one
abbrev pub number_of : List CoreEntry → JobId → Option ℕ
number_of log job = option_map (λ b. b.number) (find (λ b. same_job b.job job) (unspent log))

-- the call of an entry of this kind; a commit and an undo are of the unspent reservation of their job
abbrev pub call_by : List CoreEntry → ℕ → CoreKind → Option Call
call_by log now (Reserve reserved) = Some (call.Reserve now)
call_by log now (Commit job state kept) = option_map (λ number. call.Commit now number job state)
    (number_of log job)
call_by log now (Undo job noted was_ended) = option_map (λ number. call.Undo now number job)
    (number_of log job)
call_by log now (Beat server nonce cpus key pruned reaped replaced is_new) =
    Some (call.Beat now server nonce cpus key)
call_by log now (Update server job state answer) = Some (call.Update now server job state)
call_by log now (Status pruned servers cpus jobs) = Some (call.Status now)
call_by log now (Drain server nonce on reg) = Some (call.Drain now server nonce on)

-- the one call that an entry over that log can be of, if there is one
abbrev pub call_of : List CoreEntry → CoreEntry → Option Call
call_of log e = call_by log e.now e.kind
