use Rattle.std.proofs.Common.{◌≡◌, ◌++◌, ◌-◌}
use Rattle.path_pkg.specs.Windows.{verbatim_mappings, pairs_of, letters_from}
use Rattle.path_pkg.specs.Written.{texts_of}
use Rattle.path_pkg.proofs.windows.push_verbatim_disks.Given as goal

abbrev pub invariant-loop-letter : goal.invariant-loop-letter
invariant-loop-letter l =
    pairs_of l.pairs.items ++ verbatim_mappings (texts_of l.mapped.entries)
    (letters_from l.letter (91 - l.letter))
    ≡ pairs_of l.initial.pairs.items ++ verbatim_mappings (texts_of l.mapped.entries) (letters_from 65 26)
