use Rattle.std.proofs.Common.{◌≡◌, ◌≤◌, refl, sym, ap, arith}
use Rattle.folders.specs.Files.{front}
use Rattle.disk_cache.specs.Toolchains.{Toolchains}
use Rattle.disk_cache.proofs.ShelfLemmas.{shelf_kept, shelf_beside, shelf_failed, same_stays}
use Rattle.disk_cache.proofs.StepLemmas.{shelf_ok}
use Rattle.disk_cache.proofs.client_toolchains.ClientToolchains.find.Goals as goal

pub invariant_of-self : goal.invariant_of-self
invariant_of-self g c =
    let fits : c.self.inside.cache.spoiled ≤ 18446744073709551615 = c.self.invariant.1 in
    let is : c.get_file.new.self.spoiled ≡ c.self.inside.cache.spoiled = c.get_file.ensures.unspoiled in (
      shelf_kept c.self.inside.names c.self.inside.cache.path c.get_file.new.self.path
          c.self.inside.cache.capacity c.get_file.new.self.capacity c.self.inside.cache.archives
          c.get_file.new.self.archives (g.F.Folder.held c.self.inside.cache.folder)
          (g.F.Folder.held c.get_file.new.self.folder) c.self.invariant.0 c.get_file.ensures.at.0
          c.get_file.ensures.stands c.get_file.ensures.others,
      omega (arith, is, fits),
    )

pub returns-clause-beside : goal.returns-clause-beside
returns-clause-beside g c =
    let is : c.get_file.new.self.spoiled ≡ c.self.inside.cache.spoiled = c.get_file.ensures.unspoiled in
    let seen : c.self.inside.cache.spoiled ≡ c.args.self.now.spoiled =
    ap (λ (s : Toolchains). s.spoiled) c.self.view_is in
    shelf_beside c.self.inside.names c.self.inside.cache.path c.self.inside.cache.capacity
    c.self.inside.cache.archives (g.F.Folder.held c.self.inside.cache.folder)
    (g.F.Folder.held c.get_file.new.self.folder) c.args.self.now _ c.self.invariant.0
    c.get_file.ensures.others (ap (λ (s : Toolchains). s.dir) (sym c.self.view_is))
    (ap (λ (s : Toolchains). s.held) (sym c.self.view_is)) refl refl
    (ap (λ (s : Toolchains). s.weak) c.self.view_is)
    (shelf_failed c.self.inside.names c.self.inside.cache.path c.self.inside.cache.capacity
    c.self.inside.cache.spoiled c.self.inside.cache.archives
    (g.F.Folder.held c.self.inside.cache.folder) (g.F.Folder.held c.get_file.new.self.folder)
    c.args.self.now _ c.self.invariant.0
    (same_stays (front c.self.inside.cache.path) c.self.inside.cache.spoiled
    (g.F.Folder.held c.self.inside.cache.folder).files (g.F.Folder.held c.get_file.new.self.folder).files
    c.get_file.ensures.same) (ap (λ (s : Toolchains). s.dir) (sym c.self.view_is))
    (ap (λ (s : Toolchains). s.held) (sym c.self.view_is))
    (ap (λ (s : Toolchains). s.spoiled) (sym c.self.view_is)) refl (omega (arith, is, seen)))

pub returns-clause-in_step : goal.returns-clause-in_step
returns-clause-in_step g c =
    shelf_ok c.get_file.result c.self.inside.names c.self.inside.cache.path c.get_file.new.self.path
    (record {
      dir = c.self.inside.names.dir;
      capacity = c.self.inside.cache.capacity;
      archives = c.self.inside.cache.archives;
      weak = c.self.inside.weak;
      configs = c.self.inside.configs.items;
      taken = c.self.inside.taken.items;
      held = g.F.Folder.held c.self.inside.cache.folder;
      spoiled = c.self.inside.cache.spoiled;
    }) c.args.self.now
    (g.F.Folder.held c.get_file.new.self.folder) c.get_file.new.self.archives c.self.invariant.0
    c.get_file.ensures.at.0 refl c.get_file.ensures.in_step c.self.view_is
