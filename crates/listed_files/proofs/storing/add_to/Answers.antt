use Rattle.listed_files.proofs.Calls.{added_others, added_there}
use Rattle.listed_files.proofs.storing.add_to.Goals as goal

pub returns-in-Ok-clause-others : goal.returns-in-Ok-clause-others
returns-in-Ok-clause-others g c = added_others c.args.path.now c.args.bytes.now c.append.result
    (g.F.Folder.held c.args.folder.now) (g.F.Folder.held c.append.new.self) c.append.ensures.appends

pub returns-in-Err-clause-others : goal.returns-in-Err-clause-others
returns-in-Err-clause-others g c = added_others c.args.path.now c.args.bytes.now c.append.result
    (g.F.Folder.held c.args.folder.now) (g.F.Folder.held c.append.new.self) c.append.ensures.appends

pub returns-in-Ok-clause-there : goal.returns-in-Ok-clause-there
returns-in-Ok-clause-there g c = added_there c.args.path.now c.args.bytes.now c.append.result
    (g.F.Folder.held c.args.folder.now) (g.F.Folder.held c.append.new.self) c.append.ensures.appends

pub returns-in-Err-clause-there : goal.returns-in-Err-clause-there
returns-in-Err-clause-there g c = added_there c.args.path.now c.args.bytes.now c.append.result
    (g.F.Folder.held c.args.folder.now) (g.F.Folder.held c.append.new.self) c.append.ensures.appends
