use Rattle.std.proofs.Common.{◌≡◌}
use Rattle.std.specs.List.{list_any}
use Rattle.path_pkg.specs.Windows.{is_on_plain}
use Rattle.path_pkg.specs.Written.{texts_of}
use Rattle.path_pkg.proofs.windows.has_plain.Given as goal

abbrev pub invariant-loop-path : goal.invariant-loop-path
invariant-loop-path l = list_any (λ e. is_on_plain l.letter e.1) (texts_of l.path-iterator) ≡ list_any
    (λ e. is_on_plain l.letter e.1) (texts_of l.mapped.entries)
