use Rattle.folders.specs.Held.{Never}
use Rattle.listed_files.proofs.Calls.{files_left}
use Rattle.listed_files.proofs.storing.make_way.Goals as goal

pub returns-clause-files : goal.returns-clause-files
returns-clause-files g c = files_left Never c.make_parents.result (g.F.Folder.held c.args.folder.now)
    (g.F.Folder.held c.make_parents.new.self) c.make_parents.ensures.leaves
