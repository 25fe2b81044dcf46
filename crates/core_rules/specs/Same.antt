-- Whether two entries say the same but for the key, which a heartbeat's entry holds and no printed entry shows.
use Rattle.std.specs.Prelude.{Bool, true, false, not, ◌==◌, ◌&&◌, nat_eq}
use Rattle.std.specs.Option.{option_eq}
use Rattle.std.specs.Cmp.Lexicographic.{pointwise}
use Rattle.dist_types.specs.Addr.{same_addr}
use Rattle.dist_types.specs.declared.results.JobState.{JobState}
use Rattle.dist_types.specs.declared.results.JobState.TheVariants.{Pending, Ready, Started, Complete}
use Rattle.core_rules.specs.declared.entry.CoreEntry.{CoreEntry}
use Rattle.core_rules.specs.declared.entry.CoreKind.{CoreKind}
use Rattle.core_rules.specs.declared.entry.CoreKind.TheVariants.{Reserve, Commit, Undo, Beat, Update}
use Rattle.core_rules.specs.declared.entry.CoreKind.TheVariants.{Status, Drain}
use Rattle.core_rules.specs.declared.entry.Reserved.{Reserved}
use Rattle.core_rules.specs.declared.entry.Reserved.TheVariants.{Job, NoRoom, Spent}
use Rattle.core_rules.specs.declared.entry.UpdateAnswer.{UpdateAnswer}
use Rattle.core_rules.specs.declared.entry.UpdateAnswer.TheVariants.{Accepted, Unknown, Wrong, Transition}
use Rattle.core_rules.specs.Log.{same_job}

-- whether two truths are one
abbrev pub same_truth : Bool → Bool → Bool
same_truth true b = b
same_truth false b = not b

-- whether two states are one
abbrev pub same_state : JobState → JobState → Bool
same_state Pending Pending = true
same_state Ready Ready = true
same_state Started Started = true
same_state Complete Complete = true
same_state a b = false

-- whether two answers to an update are one
abbrev pub same_answer : UpdateAnswer → UpdateAnswer → Bool
same_answer Accepted Accepted = true
same_answer Unknown Unknown = true
same_answer Wrong Wrong = true
same_answer (Transition a) (Transition b) = same_state a b
same_answer a b = false

-- whether the same became of two reserves
abbrev pub same_reserved : Reserved → Reserved → Bool
same_reserved (Job job reg forgiven) (Job j r f) = same_job job j && (reg == r) && pointwise nat_eq forgiven f
same_reserved (NoRoom a) (NoRoom b) = a == b
same_reserved Spent Spent = true
same_reserved a b = false

-- whether two entries did the same, whatever key a heartbeat had
abbrev pub same_kind : CoreKind → CoreKind → Bool
same_kind (Reserve a) (Reserve b) = same_reserved a b
same_kind (Commit job state kept) (Commit j s k) = same_job job j && same_state state s && same_truth kept k
same_kind (Undo job noted ended) (Undo j n e) = same_job job j && option_eq nat_eq noted n && same_truth ended e
same_kind (Beat server nonce cpus key pruned reaped replaced is_new) (Beat s n c k p r x i) =
    same_addr server s && (nonce == n) && (cpus == c) && pointwise nat_eq pruned p && pointwise same_job reaped r
    && option_eq nat_eq replaced x && same_truth is_new i
same_kind (Update server job state answer) (Update s j t a) =
    same_addr server s && same_job job j && same_state state t && same_answer answer a
same_kind (Status pruned servers cpus jobs) (Status p s c j) =
    pointwise nat_eq pruned p && (servers == s) && (cpus == c) && (jobs == j)
same_kind (Drain server nonce on reg) (Drain s n o r) =
    same_addr server s && (nonce == n) && same_truth on o && option_eq nat_eq reg r
same_kind a b = false

-- whether two entries are of one moment and did the same, whatever key a heartbeat had
abbrev pub same_but_key : CoreEntry → CoreEntry → Bool
same_but_key a b = (a.now == b.now) && same_kind a.kind b.kind
