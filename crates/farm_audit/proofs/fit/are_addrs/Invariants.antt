use Rattle.std.proofs.Common.{take}
use Rattle.std.specs.List.{AllByRecursion}
use Rattle.dist_types.specs.Addr.{IsAddr}
use Rattle.farm_audit.proofs.fit.are_addrs.Given as goal

-- the addresses so far are addresses
abbrev pub invariant-loop-server : goal.invariant-loop-server
invariant-loop-server l = AllByRecursion (λ s. IsAddr s.addr) (take l.server-index l.servers)
