use Rattle.std.proofs.Common.{◌++◌, ap}
use Rattle.listed_files.proofs.Standing.{first_dropped, first_others, first_kept}
use Rattle.listed_files.proofs.Spared.{only_removed}
use Rattle.listed_files.proofs.storing.drop_first.Goals as goal

pub returns-clause-stands : goal.returns-clause-stands
returns-clause-stands g c =
    first_dropped c.args.root.now c.in-Some.key _ c.args.table.now.entries c.take_first.new.self.entries
    (g.F.Folder.held c.args.folder.now) (g.F.Folder.held c.remove_file.new.folder) c.in-Some.ensures.pair
    (ap (λ t. t.entries) c.take_first.ensures.rest) c.requires.table.distinct c.requires.stands
    c.remove_file.ensures.others

pub returns-clause-others : goal.returns-clause-others
returns-clause-others g c =
    first_others c.args.root.now c.in-Some.key _ c.args.table.now.entries (g.F.Folder.held c.args.folder.now)
    (g.F.Folder.held c.remove_file.new.folder) c.in-Some.ensures.pair c.remove_file.ensures.others

pub returns-clause-kept : goal.returns-clause-kept
returns-clause-kept g c =
    first_kept c.args.root.now c.in-Some.key _ c.args.table.now.entries c.take_first.new.self.entries
    (g.F.Folder.held c.args.folder.now) (g.F.Folder.held c.remove_file.new.folder) c.in-Some.ensures.pair
    (ap (λ t. t.entries) c.take_first.ensures.rest) c.requires.table.distinct c.remove_file.ensures.others

pub returns-clause-removed : goal.returns-clause-removed
returns-clause-removed g c =
    only_removed (c.args.root.now ++ c.in-Some.key) (g.F.Folder.held c.args.folder.now).files
    (g.F.Folder.held c.remove_file.new.folder).files c.remove_file.ensures.part
