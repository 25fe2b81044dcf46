-- Those so far and those of what is left are those of all.
use Rattle.std.proofs.Common.{◌≡◌, ◌++◌}
use Rattle.toolchain_cache.specs.Cleaned.{other_keys}
use Rattle.toolchain_cache.proofs.cleaning.other_keys.Given as goal

abbrev pub invariant-loop-key : goal.invariant-loop-key
invariant-loop-key l = l.others.items ++ other_keys l.key-iterator ≡ other_keys l.fn.entries
