use Rattle.std.proofs.Common.{sym, subst, List}
use Rattle.path_pkg.specs.Written.{Entry, EntriesFit}
use Rattle.path_pkg.proofs.FitLemmas.{sorted_fits}
use Rattle.path_pkg.proofs.sorted.sorted.Goals as goal

pub returns-clause-fit : goal.returns-clause-fit
returns-clause-fit c =
    let P : List Entry → Type 0 = EntriesFit in
    subst P (sym c.in_ok-entries.ensures) (sorted_fits c.args.rank c.args.records.now c.requires)
