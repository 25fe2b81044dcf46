use Rattle.std.proofs.Common.{◌≡◌, ◌++◌, string_bytes}
use Rattle.std.specs.List.{flat_map}
use Rattle.farm_entries.specs.Printed.{kept_archive_text}
use Rattle.farm_text.proofs.lines.push_archives.Given as goal

-- the lines so far and those of what is left
abbrev pub invariant-loop-tc : goal.invariant-loop-tc
invariant-loop-tc l = string_bytes l.out ++ flat_map (kept_archive_text l.fn.addr) l.tc-iterator
    ≡ string_bytes l.initial.out ++ flat_map (kept_archive_text l.fn.addr) l.fn.archives
