use Rattle.std.proofs.Common.{ap}
use Rattle.folders.proofs.CallLemmas.{touched_same, read_same, same_then, content_before, fetch_counts}
use Rattle.listed_files.proofs.storing.fetch.Goals as goal

pub returns-in_err-touch-clause-others : goal.returns-in_err-touch-clause-others
returns-in_err-touch-clause-others g c =
    touched_same c.get.result.now c.touch.result (g.F.Folder.held c.args.folder.now)
    (g.F.Folder.held c.touch.new.self) c.touch.ensures.touches

pub returns-clause-content : goal.returns-clause-content
returns-clause-content g c =
    content_before (λ v. v.items) c.get-2.result.now c.args.path.now c.read.result
    (g.F.Folder.held c.args.folder.now) (g.F.Folder.held c.touch.new.self) c.get-2.ensures.text
    (touched_same c.get.result.now c.touch.result (g.F.Folder.held c.args.folder.now)
    (g.F.Folder.held c.touch.new.self) c.touch.ensures.touches) c.read.ensures.content

pub returns-clause-others : goal.returns-clause-others
returns-clause-others g c =
    same_then (g.F.Folder.held c.args.folder.now).files (g.F.Folder.held c.touch.new.self).files
    (g.F.Folder.held c.read.new.self).files
    (touched_same c.get.result.now c.touch.result (g.F.Folder.held c.args.folder.now)
    (g.F.Folder.held c.touch.new.self) c.touch.ensures.touches)
    (read_same c.get-2.result.now c.read.result (g.F.Folder.held c.touch.new.self)
    (g.F.Folder.held c.read.new.self) c.read.ensures.leaves)

pub returns-clause-counts : goal.returns-clause-counts
returns-clause-counts g c =
    fetch_counts c.get-2.result.now c.args.path.now c.read.result (g.F.Folder.held c.args.folder.now)
    (g.F.Folder.held c.touch.new.self) (g.F.Folder.held c.read.new.self) c.get-2.ensures.text c.requires
    (touched_same c.get.result.now c.touch.result (g.F.Folder.held c.args.folder.now)
    (g.F.Folder.held c.touch.new.self) c.touch.ensures.touches)
    (ap (λ k. k.faults) c.in_ok-touch.ensures.touches.0) c.read.ensures.leaves
