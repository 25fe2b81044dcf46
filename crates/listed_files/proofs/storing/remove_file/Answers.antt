use Rattle.std.proofs.Common.{◌≡◌, ◌++◌, ◌∙◌, OnOk, subst}
use Rattle.folders.specs.Changed.{ButAt, RemovedAt}
use Rattle.folders.specs.Files.{without}
use Rattle.folders.specs.Held.{Holds, Became, Lacks}
use Rattle.folders.proofs.Exactly.{removed_only}
use Rattle.listed_files.proofs.Fills.{on_ok_then}
use Rattle.listed_files.proofs.storing.remove_file.Goals as goal

pub returns-clause-others : goal.returns-clause-others
returns-clause-others g c =
    subst (λ p. Became (ButAt p) (g.F.Folder.held c.args.folder.now).files
    (g.F.Folder.held c.remove_at.new.folder).files) (c.get.ensures.text ∙ c.in_ok-path.ensures.path)
    c.remove_at.ensures.others

pub returns-clause-part : goal.returns-clause-part
returns-clause-part g c =
    subst (λ p. Became (RemovedAt p) (g.F.Folder.held c.args.folder.now).files
    (g.F.Folder.held c.remove_at.new.folder).files) (c.get.ensures.text ∙ c.in_ok-path.ensures.path)
    c.remove_at.ensures.part

pub returns-clause-gone : goal.returns-clause-gone
returns-clause-gone g c =
    subst (λ p. OnOk c.remove_at.result (Holds (g.F.Folder.held c.remove_at.new.folder) (Lacks p)))
    (c.get.ensures.text ∙ c.in_ok-path.ensures.path) c.remove_at.ensures.gone

pub returns-clause-exact : goal.returns-clause-exact
returns-clause-exact g c =
    subst (λ p. OnOk c.remove_at.result (Became (λ old new. new ≡ without p old)
    (g.F.Folder.held c.args.folder.now).files (g.F.Folder.held c.remove_at.new.folder).files))
    (c.get.ensures.text ∙ c.in_ok-path.ensures.path) c.remove_at.ensures.exact

pub returns-clause-removed : goal.returns-clause-removed
returns-clause-removed g c =
    on_ok_then c.remove_at.result (returns-clause-exact g c)
    (removed_only (c.args.root.now ++ c.args.key.now) (g.F.Folder.held c.args.folder.now).files
    (g.F.Folder.held c.remove_at.new.folder).files)
