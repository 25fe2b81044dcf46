-- An entry is the same as itself, whatever key it has.
use Rattle.std.proofs.Common.{◌≡◌, ℕ, List, [], ◌∷◌, Bool, true, false, Option, Some, None, refl}
use Rattle.std.specs.Prelude.{nat_eq}
use Rattle.std.specs.Option.{option_eq}
use Rattle.std.specs.Cmp.Lexicographic.{pointwise}
use Rattle.std.proofs.lemmas.Cmp.{nat_eq_equiv, nat_list_eq_equiv}
use Rattle.dist_types.specs.Addr.{same_addr}
use Rattle.dist_types.specs.declared.addr.Addr.{Addr}
use Rattle.dist_types.specs.declared.addr.Addr.TheVariants.{V4, V6}
use Rattle.dist_types.specs.declared.ids.JobId.{JobId}
use Rattle.dist_types.specs.declared.results.JobState.{JobState}
use Rattle.dist_types.specs.declared.results.JobState.TheVariants.{Pending, Ready, Started, Complete}
use Rattle.core_rules.specs.declared.entry.CoreEntry.{CoreEntry}
use Rattle.core_rules.specs.declared.entry.CoreKind.{CoreKind}
use Rattle.core_rules.specs.declared.entry.CoreKind.TheVariants.{Reserve, Commit, Undo, Beat, Update}
use Rattle.core_rules.specs.declared.entry.CoreKind.TheVariants.{Status, Drain}
use Rattle.core_rules.specs.declared.entry.Reserved.{Reserved}
use Rattle.core_rules.specs.declared.entry.Reserved.TheVariants.{Job, NoRoom, Spent}
use Rattle.core_rules.specs.declared.entry.UpdateAnswer.{UpdateAnswer}
use Rattle.core_rules.specs.declared.entry.UpdateAnswer.TheVariants.{Accepted, Unknown, Wrong, Transition}
use Rattle.core_rules.specs.Log.{same_job}
use Rattle.core_rules.specs.Same.{same_truth, same_state, same_answer, same_reserved, same_kind}
use Rattle.core_rules.specs.Same.{same_but_key}

nat-refl : (n : ℕ) → nat_eq n n ≡ true
nat-refl n = nat_eq_equiv.refl n

nats-refl : (ns : List ℕ) → pointwise nat_eq ns ns ≡ true
nats-refl ns = nat_list_eq_equiv.refl ns

jobs-refl : (jobs : List JobId) → pointwise same_job jobs jobs ≡ true
jobs-refl [] = refl
jobs-refl (job ∷ jobs) = rw (nat-refl job.0, jobs-refl jobs) refl

number-refl : (n : Option ℕ) → option_eq nat_eq n n ≡ true
number-refl None = refl
number-refl (Some n) = nat-refl n

addr-refl : (a : Addr) → same_addr a a ≡ true
addr-refl (V4 a p) = rw (nats-refl a, nat-refl p) refl
addr-refl (V6 a p) = rw (nats-refl a, nat-refl p) refl

truth-refl : (b : Bool) → same_truth b b ≡ true
truth-refl true = refl
truth-refl false = refl

state-refl : (s : JobState) → same_state s s ≡ true
state-refl Pending = refl
state-refl Ready = refl
state-refl Started = refl
state-refl Complete = refl

answer-refl : (a : UpdateAnswer) → same_answer a a ≡ true
answer-refl Accepted = refl
answer-refl Unknown = refl
answer-refl Wrong = refl
answer-refl (Transition from) = state-refl from

reserved-refl : (r : Reserved) → same_reserved r r ≡ true
reserved-refl (Job job reg forgiven) = rw (nat-refl job.0, nat-refl reg, nats-refl forgiven) refl
reserved-refl (NoRoom standing) = nat-refl standing
reserved-refl Spent = refl

kind-refl : (k : CoreKind) → same_kind k k ≡ true
kind-refl (Reserve reserved) = reserved-refl reserved
kind-refl (Commit job state kept) = rw (nat-refl job.0, state-refl state, truth-refl kept) refl
kind-refl (Undo job noted ended) = rw (nat-refl job.0, number-refl noted, truth-refl ended) refl
kind-refl (Beat server nonce cpus key pruned reaped replaced is_new) = rw (
  addr-refl server,
  nat-refl nonce,
  nat-refl cpus,
  nats-refl pruned,
  jobs-refl reaped,
  number-refl replaced,
  truth-refl is_new,
) refl
kind-refl (Update server job state answer) = rw (
  addr-refl server,
  nat-refl job.0,
  state-refl state,
  answer-refl answer,
) refl
kind-refl (Status pruned servers cpus jobs) = rw (
  nats-refl pruned,
  nat-refl servers,
  nat-refl cpus,
  nat-refl jobs,
) refl
kind-refl (Drain addr nonce on named) = rw (
  addr-refl addr,
  nat-refl nonce,
  truth-refl on,
  number-refl named,
) refl

pub same_as_itself : (e : CoreEntry) → same_but_key e e ≡ true
same_as_itself e = rw (nat-refl e.now, kind-refl e.kind) refl
