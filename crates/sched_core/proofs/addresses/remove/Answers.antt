use Rattle.std.proofs.Common.{refl}
use Rattle.sched_core.proofs.ServerLemmas.{puts_server}
use Rattle.sched_core.proofs.addresses.remove.Goals as goal

pub returns-clause-entries : goal.returns-clause-entries
returns-clause-entries c = puts_server _ (
  λ a b p q. refl,
  λ a b p q. refl,
  λ a b p q. refl,
  λ a b p q. refl,
) c.args.server _
    c.args.addresses.now.entries c.take_out.new.self.entries c.take_out.ensures.values
