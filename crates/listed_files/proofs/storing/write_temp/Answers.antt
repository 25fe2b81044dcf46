use Rattle.std.proofs.Common.{refl, subst}
use Rattle.folders.specs.Changed.{ButAt}
use Rattle.folders.specs.Held.{Became}
use Rattle.listed_files.proofs.Calls.{equal_became}
use Rattle.listed_files.proofs.Fills.{wrote, wrote_others}
use Rattle.listed_files.proofs.storing.write_temp.Goals as goal

pub returns-in_err-make_way-clause-others : goal.returns-in_err-make_way-clause-others
returns-in_err-make_way-clause-others g c =
    equal_became (ButAt c.args.temp.now) _ _ c.make_way.ensures.files (λ f q other. refl)

pub returns-clause-written : goal.returns-clause-written
returns-clause-written g c =
    wrote c.get.result.now c.args.temp.now c.args.bytes.now c.write.result
    (g.F.Folder.held c.make_way.new.folder) (g.F.Folder.held c.write.new.self) c.get.ensures.text
    c.write.ensures.writes

pub returns-clause-others : goal.returns-clause-others
returns-clause-others g c =
    subst (λ o. Became (ButAt c.args.temp.now) o (g.F.Folder.held c.write.new.self).files)
    c.make_way.ensures.files
    (wrote_others c.get.result.now c.args.temp.now c.args.bytes.now c.write.result
    (g.F.Folder.held c.make_way.new.folder) (g.F.Folder.held c.write.new.self) c.get.ensures.text
    c.write.ensures.writes)
