use Rattle.folders.specs.Held.{Lacks}
use Rattle.listed_files.proofs.Calls.{files_left, held_left}
use Rattle.listed_files.proofs.storing.measure.Goals as goal

pub returns-in-Ok-clause-same : goal.returns-in-Ok-clause-same
returns-in-Ok-clause-same g c = held_left (Lacks c.args.path.now) c.in-Ok.size
    (g.F.Folder.held c.args.folder.now) (g.F.Folder.held c.size.new.self) c.in-Ok.ensures.leaves

pub returns-in-Ok-clause-files : goal.returns-in-Ok-clause-files
returns-in-Ok-clause-files g c = files_left (Lacks c.args.path.now) c.size.result
    (g.F.Folder.held c.args.folder.now) (g.F.Folder.held c.size.new.self) c.size.ensures.leaves

pub returns-in-Err-clause-files : goal.returns-in-Err-clause-files
returns-in-Err-clause-files g c = files_left (Lacks c.args.path.now) c.size.result
    (g.F.Folder.held c.args.folder.now) (g.F.Folder.held c.size.new.self) c.size.ensures.leaves
