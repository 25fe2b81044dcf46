use Rattle.std.proofs.Common.{arith}
use Rattle.http_calls.proofs.CallLemmas.{submit_path}
use Rattle.http_calls.proofs.servers.server_submit_toolchain.Goals as goal

pub at_server-requires : goal.at_server-requires
at_server-requires c = rw (c.deref.ensures, c.in_ok-path.ensures.ok) (submit_path c.args.job.0 (omega arith))
