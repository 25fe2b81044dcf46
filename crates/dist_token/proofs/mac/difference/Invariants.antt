use Rattle.std.proofs.Common.{◌≡◌, ◌↔◌, take}
use Rattle.dist_token.proofs.mac.difference.Given as goal

-- no bit is set so long as the fronts are the same
abbrev pub invariant-loop-index : goal.invariant-loop-index
invariant-loop-index l = (l.bits ≡ 0) ↔ (take l.index l.given ≡ take l.index l.mac)
