use Rattle.std.proofs.Common.{◌≡◌, drop, option_map}
use Rattle.disk_cache.specs.Custom.{later_of, last_taken}
use Rattle.disk_cache.proofs.custom.last_taken.Given as goal

abbrev pub invariant-loop-later : goal.invariant-loop-later
invariant-loop-later l =
    later_of (option_map (λ t. t.now) l.last) (last_taken l.id (drop l.later-index l.taken))
    ≡ last_taken l.id l.taken
