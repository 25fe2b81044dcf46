use Rattle.std.proofs.Common.{arith, rules}
use Rattle.http_calls.proofs.CallLemmas.{state_path}
use Rattle.http_calls.proofs.urls.state_url.Goals as goal

pub joined-requires : goal.joined-requires
joined-requires c = record {
  http = search rules;
  path = rw (c.deref.ensures, c.in_ok-path.ensures.ok) (state_path c.args.job.0 (omega arith));
}
