use Rattle.path_pkg.proofs.GroupLemmas.{pieces_are, pieces_same}
use Rattle.path_pkg.proofs.OutlineLemmas.{same_package, package_is}
use Rattle.path_pkg.proofs.write.write_package.Goals as goal

pub returns-clause-puts : goal.returns-clause-puts
returns-clause-puts g c = λ t e.
    pieces_same c.write_entries.result _ _ _ _
    (pieces_are t c.args.records.now _ _ _ c.in_ok-dirs.ensures.sorted c.in_ok-files.ensures.sorted
    c.in_ok-links.ensures.sorted)
    (c.write_entries.ensures.puts t e)

pub returns-clause-outline : goal.returns-clause-outline
returns-clause-outline g c =
    same_package c.write_entries.result _ _ _ _
    (package_is c.args.records.now _ _ _ c.in_ok-dirs.ensures.sorted c.in_ok-files.ensures.sorted
    c.in_ok-links.ensures.sorted)
    c.write_entries.ensures.outline
