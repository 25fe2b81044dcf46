use Rattle.std.proofs.Common.{◌≡◌, ◌++◌, string_bytes}
use Rattle.std.specs.List.{flat_map}
use Rattle.farm_entries.specs.Printed.{held_text}
use Rattle.farm_text.proofs.lines.push_held.Given as goal

-- the lines so far and those of what is left
abbrev pub invariant-loop-job : goal.invariant-loop-job
invariant-loop-job l = string_bytes l.out ++ flat_map (held_text l.fn.addr) l.job-iterator ≡ string_bytes
    l.initial.out ++ flat_map (held_text l.fn.addr) l.fn.held
