use Rattle.scheduler_replies.proofs.ReplyLemmas.{heard_at, reported_at, counted_at, drained_at}
use Rattle.scheduler_replies.proofs.ReplyLemmas.{full_at, spent_at, settled_at}
use Rattle.scheduler_replies.proofs.laws.replies_are_by_entry.Goals as goal

pub returns : goal.returns
returns g c = record {
  heartbeats = heard_at;
  reports = reported_at;
  statuses = counted_at;
  drains = drained_at;
  full = full_at g.A.JobAuthorizer.key_of g.A.JobAuthorizer.token_for;
  spent = spent_at g.A.JobAuthorizer.key_of g.A.JobAuthorizer.token_for;
  settled = settled_at;
}
