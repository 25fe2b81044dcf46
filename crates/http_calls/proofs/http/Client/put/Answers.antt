use Rattle.std.proofs.Common.{refl}
use Rattle.http_calls.proofs.http.Client.put.Goals as goal

pub returns : goal.returns
returns g c = rw (← c.self.view_is) (record { puts = c.put_toolchain-answer.ensures.puts; changes = refl })
