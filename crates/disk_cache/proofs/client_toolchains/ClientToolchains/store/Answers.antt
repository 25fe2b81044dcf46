use Rattle.std.proofs.Common.{◌≡◌, ◌≤◌, refl, sym, ap, arith}
use Rattle.folders.specs.Files.{front}
use Rattle.disk_cache.specs.Toolchains.{Toolchains}
use Rattle.disk_cache.proofs.ShelfLemmas.{shelf_kept, shelf_beside, shelf_failed, insert_stays, spoils_more}
use Rattle.disk_cache.proofs.StepLemmas.{shelf_ok}
use Rattle.disk_cache.proofs.client_toolchains.ClientToolchains.store.Goals as goal

pub invariant_of-self : goal.invariant_of-self
invariant_of-self g c = (
  shelf_kept c.self.inside.names c.self.inside.cache.path c.insert_package.new.self.path
      c.self.inside.cache.capacity c.insert_package.new.self.capacity c.self.inside.cache.archives
      c.insert_package.new.self.archives (g.F.Folder.held c.self.inside.cache.folder)
      (g.F.Folder.held c.insert_package.new.self.folder) c.self.invariant.0 c.insert_package.ensures.at.0
      c.insert_package.ensures.stands c.insert_package.ensures.others,
  (spoils_more c.insert_package.result c.self.inside.cache.spoiled c.insert_package.new.self.spoiled
      (g.F.Folder.held c.self.inside.cache.folder) (g.F.Folder.held c.insert_package.new.self.folder)
      c.self.invariant.1 c.insert_package.ensures.unspoiled c.insert_package.ensures.spoils).1,
)

pub returns-clause-beside : goal.returns-clause-beside
returns-clause-beside g c =
    let more : c.self.inside.cache.spoiled ≤ c.insert_package.new.self.spoiled =
    (spoils_more c.insert_package.result c.self.inside.cache.spoiled c.insert_package.new.self.spoiled
    (g.F.Folder.held c.self.inside.cache.folder) (g.F.Folder.held c.insert_package.new.self.folder)
    c.self.invariant.1 c.insert_package.ensures.unspoiled c.insert_package.ensures.spoils).0 in
    let seen : c.self.inside.cache.spoiled ≡ c.args.self.now.spoiled =
    ap (λ (s : Toolchains). s.spoiled) c.self.view_is in
    shelf_beside c.self.inside.names c.self.inside.cache.path c.self.inside.cache.capacity
    c.self.inside.cache.archives (g.F.Folder.held c.self.inside.cache.folder)
    (g.F.Folder.held c.insert_package.new.self.folder) c.args.self.now _ c.self.invariant.0
    c.insert_package.ensures.others (ap (λ (s : Toolchains). s.dir) (sym c.self.view_is))
    (ap (λ (s : Toolchains). s.held) (sym c.self.view_is)) refl refl
    (ap (λ (s : Toolchains). s.weak) c.self.view_is)
    (shelf_failed c.self.inside.names c.self.inside.cache.path c.self.inside.cache.capacity
    c.self.inside.cache.spoiled c.self.inside.cache.archives
    (g.F.Folder.held c.self.inside.cache.folder) (g.F.Folder.held c.insert_package.new.self.folder)
    c.args.self.now _ c.self.invariant.0
    (insert_stays (front c.self.inside.cache.path) c.self.inside.cache.spoiled
    (g.F.Folder.held c.self.inside.cache.folder).files
    (g.F.Folder.held c.insert_package.new.self.folder).files c.insert_package.ensures.stays)
    (ap (λ (s : Toolchains). s.dir) (sym c.self.view_is))
    (ap (λ (s : Toolchains). s.held) (sym c.self.view_is))
    (ap (λ (s : Toolchains). s.spoiled) (sym c.self.view_is)) refl (omega (arith, more, seen)))

pub returns-clause-in_step : goal.returns-clause-in_step
returns-clause-in_step g c =
    shelf_ok c.insert_package.result c.self.inside.names c.self.inside.cache.path c.insert_package.new.self.path
    (record {
      dir = c.self.inside.names.dir;
      capacity = c.self.inside.cache.capacity;
      archives = c.self.inside.cache.archives;
      weak = c.self.inside.weak;
      configs = c.self.inside.configs.items;
      taken = c.self.inside.taken.items;
      held = g.F.Folder.held c.self.inside.cache.folder;
      spoiled = c.self.inside.cache.spoiled;
    }) c.args.self.now
    (g.F.Folder.held c.insert_package.new.self.folder) c.insert_package.new.self.archives c.self.invariant.0
    c.insert_package.ensures.at.0 refl c.insert_package.ensures.in_step c.self.view_is
