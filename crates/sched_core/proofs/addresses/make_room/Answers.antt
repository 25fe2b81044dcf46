use Rattle.std.proofs.Common.{refl}
use Rattle.sched_core.proofs.ServerLemmas.{same_servers}
use Rattle.sched_core.proofs.addresses.make_room.Goals as goal

pub returns-clause-entries : goal.returns-clause-entries
returns-clause-entries c = same_servers _ (
  λ a b p q. refl,
  λ a b p q. refl,
  λ a b p q. refl,
  λ a b p q. refl,
) c.args.addresses.now.entries
    c.make_room.new.self.entries c.make_room.ensures.values
