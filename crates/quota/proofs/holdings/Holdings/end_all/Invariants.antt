-- what is left to end, of what is left, ends what all of it ends of what there was
use Rattle.std.proofs.Common.{◌≡◌, drop, map}
use Rattle.quota.specs.Holdings.{ended_at_all}
use Rattle.quota.proofs.holdings.Holdings.end_all.Given as goal

abbrev pub invariant-loop-reg : goal.invariant-loop-reg
invariant-loop-reg l = (map (ended_at_all (drop l.reg-index l.regs)) l.self.owned
    ≡ map (ended_at_all l.regs) l.initial.self.owned)
    × (l.self.first ≡ l.initial.self.first) × (l.self.clients ≡ l.initial.self.clients)
