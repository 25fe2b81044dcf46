use Rattle.std.proofs.Common.{◌≡◌, ◌++◌, string_bytes}
use Rattle.std.specs.List.{flat_map}
use Rattle.farm_entries.specs.Printed.{row_text}
use Rattle.farm_text.proofs.lines.push_rows.Given as goal

-- the lines so far and those of what is left
abbrev pub invariant-loop-row : goal.invariant-loop-row
invariant-loop-row l = string_bytes l.out ++ flat_map row_text l.row-iterator ≡ string_bytes l.initial.out
    ++ flat_map row_text l.fn.servers
