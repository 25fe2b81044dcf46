use Rattle.quota.proofs.IsolationLemmas.{isolated}
use Rattle.quota.proofs.laws.refused_calls_leave_others.Goals as goal

pub returns : goal.returns
returns c = isolated
