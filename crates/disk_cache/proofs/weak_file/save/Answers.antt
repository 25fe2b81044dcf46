use Rattle.std.proofs.Common.{◌∙◌, Ok, Err}
use Rattle.disk_cache.specs.Names.{weak_path, temp_path}
use Rattle.disk_cache.proofs.NameLemmas.{temp_outside, weak_outside, temp_not_weak}
use Rattle.disk_cache.proofs.SaveLemmas.{first_left, first_others, left_at, others_at, written_at, gone_at}
use Rattle.disk_cache.proofs.SaveLemmas.{fails_at}
use Rattle.disk_cache.proofs.weak_file.save.Goals as goal

pub write_aside-requires : goal.write_aside-requires
write_aside-requires g c = temp_outside c.args.names.now c.args.cache.now.path c.get.result.now
    c.requires.names c.requires.path c.get.ensures.text

pub returns-in-Err-clause-left : goal.returns-in-Err-clause-left
returns-in-Err-clause-left g c =
    first_left (temp_path c.args.names.now.dir) (weak_path c.args.names.now.dir) c.get.result.now
    c.args.text.now (temp_not_weak c.args.names.now.dir) (c.get.ensures.text ∙ c.requires.names.temp_is)
    (Err c.in-Err.fault) (g.F.Folder.held c.args.cache.now.folder)
    (g.F.Folder.held c.write_aside.new.self.folder) c.in-Err.ensures.writes

pub returns-in-Err-clause-others : goal.returns-in-Err-clause-others
returns-in-Err-clause-others g c =
    first_others (temp_path c.args.names.now.dir) (weak_path c.args.names.now.dir) c.get.result.now
    c.args.text.now (temp_not_weak c.args.names.now.dir) (c.get.ensures.text ∙ c.requires.names.temp_is)
    (Err c.in-Err.fault) (g.F.Folder.held c.args.cache.now.folder)
    (g.F.Folder.held c.write_aside.new.self.folder) c.in-Err.ensures.writes

pub rename_aside-requires-clause-from : goal.rename_aside-requires-clause-from
rename_aside-requires-clause-from g c =
    temp_outside c.args.names.now c.write_aside.new.self.path c.get-2.result.now c.requires.names
    (c.write_aside.ensures.at.0 ∙ c.requires.path) c.get-2.ensures.text

pub rename_aside-requires-clause-to : goal.rename_aside-requires-clause-to
rename_aside-requires-clause-to g c =
    weak_outside c.args.names.now c.write_aside.new.self.path c.get-3.result.now c.requires.names
    (c.write_aside.ensures.at.0 ∙ c.requires.path) c.get-3.ensures.text

pub returns-in-Ok-rename_aside-clause-written : goal.returns-in-Ok-rename_aside-clause-written
returns-in-Ok-rename_aside-clause-written g c =
    written_at (temp_path c.args.names.now.dir) (weak_path c.args.names.now.dir) c.get.result.now
    c.get-3.result.now c.get-2.result.now c.args.text.now (temp_not_weak c.args.names.now.dir)
    (c.get.ensures.text ∙ c.requires.names.temp_is) (c.get-2.ensures.text ∙ c.requires.names.temp_is)
    (c.get-3.ensures.text ∙ c.requires.names.weak_is) tt tt (g.F.Folder.held c.args.cache.now.folder)
    (g.F.Folder.held c.write_aside.new.self.folder) (g.F.Folder.held c.rename_aside.new.self.folder)
    c.in-Ok.ensures.writes c.in-Ok-rename_aside.ensures.renames

pub returns-in-Ok-rename_aside-clause-gone : goal.returns-in-Ok-rename_aside-clause-gone
returns-in-Ok-rename_aside-clause-gone g c =
    gone_at (temp_path c.args.names.now.dir) (weak_path c.args.names.now.dir) c.get.result.now
    c.get-3.result.now c.get-2.result.now c.args.text.now (temp_not_weak c.args.names.now.dir)
    (c.get.ensures.text ∙ c.requires.names.temp_is) (c.get-2.ensures.text ∙ c.requires.names.temp_is)
    (c.get-3.ensures.text ∙ c.requires.names.weak_is) tt tt (g.F.Folder.held c.args.cache.now.folder)
    (g.F.Folder.held c.write_aside.new.self.folder) (g.F.Folder.held c.rename_aside.new.self.folder)
    c.in-Ok.ensures.writes c.in-Ok-rename_aside.ensures.renames

pub returns-in-Ok-rename_aside-clause-left : goal.returns-in-Ok-rename_aside-clause-left
returns-in-Ok-rename_aside-clause-left g c =
    left_at (temp_path c.args.names.now.dir) (weak_path c.args.names.now.dir) c.get.result.now
    c.get-3.result.now c.get-2.result.now c.args.text.now (temp_not_weak c.args.names.now.dir)
    (c.get.ensures.text ∙ c.requires.names.temp_is) (c.get-2.ensures.text ∙ c.requires.names.temp_is)
    (c.get-3.ensures.text ∙ c.requires.names.weak_is) tt (Ok tt) (g.F.Folder.held c.args.cache.now.folder)
    (g.F.Folder.held c.write_aside.new.self.folder) (g.F.Folder.held c.rename_aside.new.self.folder)
    c.in-Ok.ensures.writes c.in-Ok-rename_aside.ensures.renames

pub returns-in-Ok-rename_aside-clause-others : goal.returns-in-Ok-rename_aside-clause-others
returns-in-Ok-rename_aside-clause-others g c =
    others_at (temp_path c.args.names.now.dir) (weak_path c.args.names.now.dir) c.get.result.now
    c.get-3.result.now c.get-2.result.now c.args.text.now (temp_not_weak c.args.names.now.dir)
    (c.get.ensures.text ∙ c.requires.names.temp_is) (c.get-2.ensures.text ∙ c.requires.names.temp_is)
    (c.get-3.ensures.text ∙ c.requires.names.weak_is) tt (Ok tt) (g.F.Folder.held c.args.cache.now.folder)
    (g.F.Folder.held c.write_aside.new.self.folder) (g.F.Folder.held c.rename_aside.new.self.folder)
    c.in-Ok.ensures.writes c.in-Ok-rename_aside.ensures.renames

pub returns-in-Err-rename_aside-clause-left : goal.returns-in-Err-rename_aside-clause-left
returns-in-Err-rename_aside-clause-left g c =
    left_at (temp_path c.args.names.now.dir) (weak_path c.args.names.now.dir) c.get.result.now
    c.get-3.result.now c.get-2.result.now c.args.text.now (temp_not_weak c.args.names.now.dir)
    (c.get.ensures.text ∙ c.requires.names.temp_is) (c.get-2.ensures.text ∙ c.requires.names.temp_is)
    (c.get-3.ensures.text ∙ c.requires.names.weak_is) tt (Err c.in-Err-rename_aside.fault)
    (g.F.Folder.held c.args.cache.now.folder) (g.F.Folder.held c.write_aside.new.self.folder)
    (g.F.Folder.held c.rename_aside.new.self.folder) c.in-Ok.ensures.writes
    c.in-Err-rename_aside.ensures.renames

pub returns-in-Err-rename_aside-clause-others : goal.returns-in-Err-rename_aside-clause-others
returns-in-Err-rename_aside-clause-others g c =
    others_at (temp_path c.args.names.now.dir) (weak_path c.args.names.now.dir) c.get.result.now
    c.get-3.result.now c.get-2.result.now c.args.text.now (temp_not_weak c.args.names.now.dir)
    (c.get.ensures.text ∙ c.requires.names.temp_is) (c.get-2.ensures.text ∙ c.requires.names.temp_is)
    (c.get-3.ensures.text ∙ c.requires.names.weak_is) tt (Err c.in-Err-rename_aside.fault)
    (g.F.Folder.held c.args.cache.now.folder) (g.F.Folder.held c.write_aside.new.self.folder)
    (g.F.Folder.held c.rename_aside.new.self.folder) c.in-Ok.ensures.writes
    c.in-Err-rename_aside.ensures.renames

pub returns-in-Err-rename_aside-clause-fails : goal.returns-in-Err-rename_aside-clause-fails
returns-in-Err-rename_aside-clause-fails g c =
    fails_at (temp_path c.args.names.now.dir) (weak_path c.args.names.now.dir) c.get.result.now
    c.get-3.result.now c.get-2.result.now c.args.text.now (temp_not_weak c.args.names.now.dir)
    (c.get.ensures.text ∙ c.requires.names.temp_is) (c.get-2.ensures.text ∙ c.requires.names.temp_is)
    (c.get-3.ensures.text ∙ c.requires.names.weak_is) tt c.in-Err-rename_aside.fault
    (g.F.Folder.held c.args.cache.now.folder) (g.F.Folder.held c.write_aside.new.self.folder)
    (g.F.Folder.held c.rename_aside.new.self.folder) c.in-Ok.ensures.writes
    c.in-Err-rename_aside.ensures.renames
