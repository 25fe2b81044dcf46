use Rattle.std.proofs.Common.{◌≡◌, ◌≤◌, ◌++◌, drop, string_bytes}
use Rattle.farm_entries.specs.Printed.{entries_text}
use Rattle.farm_text.proofs.lines.push_entries.Given as goal

-- the lines so far and those of what is left
abbrev pub invariant-loop-number : goal.invariant-loop-number
invariant-loop-number l = record {
  written : string_bytes l.out ++ entries_text l.number l.core_number (drop l.number l.entries) ≡ string_bytes
      l.initial.out ++ entries_text 0 0 l.entries;
  within : l.core_number ≤ l.number;
}
