use Rattle.std.proofs.Common.{refl}
use Rattle.disk_cache.proofs.StepLemmas.{shelf_step}
use Rattle.disk_cache.proofs.client_toolchains.ClientToolchains.record.Goals as goal

pub returns-in-Ok-save-clause-in_step : goal.returns-in-Ok-save-clause-in_step
returns-in-Ok-save-clause-in_step g c =
    shelf_step c.self.inside.names c.self.inside.cache.path c.save.new.cache.path
    (record {
      dir = c.self.inside.names.dir;
      capacity = c.self.inside.cache.capacity;
      archives = c.self.inside.cache.archives;
      weak = c.self.inside.weak;
      configs = c.self.inside.configs.items;
      taken = c.self.inside.taken.items;
      held = g.F.Folder.held c.self.inside.cache.folder;
      spoiled = c.self.inside.cache.spoiled;
    }) c.args.self.now
    (g.F.Folder.held c.save.new.cache.folder) c.save.new.cache.archives c.self.invariant.0
    c.save.ensures.at.0 refl c.save.ensures.in_step c.self.view_is
