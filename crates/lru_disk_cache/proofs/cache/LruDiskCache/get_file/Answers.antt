use Rattle.std.proofs.Common.{rules, subst, sym, ◌∙◌}
use Rattle.folders.specs.Held.{Lacks}
use Rattle.listed_files.proofs.Standing.{listed_there}
use Rattle.lru_disk_cache.proofs.Stores.{promoted_store}
use Rattle.lru_disk_cache.proofs.DiskSteps.{step_touched}
use Rattle.lru_disk_cache.proofs.cache.LruDiskCache.get_file.Goals as goal

pub fetch-requires : goal.fetch-requires
fetch-requires g c = λ files told lacks.
    let listed = sym c.contains.ensures ∙ c.if-not-contains.false in
    listed_there c.self.inside.root c.in-Ok.key c.self.inside.table.entries
    (g.F.Folder.held c.self.inside.folder) c.self.invariant.stands listed files told
    (subst (λ p. Lacks p files) c.in-Ok-path_of.ensures.path lacks)

pub invariant_of-self : goal.invariant_of-self
invariant_of-self g c =
    promoted_store c.self.inside.path c.self.inside.root c.self.inside.pending
    (g.F.Folder.held c.self.inside.folder) (g.F.Folder.held c.fetch.new.folder) c.in-Ok.key
    c.self.inside.table c.promote.new.self c.self.invariant c.promote.ensures c.fetch.ensures.others

pub returns-in-Ok-fetch-clause-stands : goal.returns-in-Ok-fetch-clause-stands
returns-in-Ok-fetch-clause-stands g c = invariant_of-self g c

pub invariant_of-self-2 : goal.invariant_of-self-2
invariant_of-self-2 g c =
    promoted_store c.self.inside.path c.self.inside.root c.self.inside.pending
    (g.F.Folder.held c.self.inside.folder) (g.F.Folder.held c.fetch.new.folder) c.in-Ok.key
    c.self.inside.table c.promote.new.self c.self.invariant c.promote.ensures c.fetch.ensures.others

pub returns-clause-stands : goal.returns-clause-stands
returns-clause-stands g c = invariant_of-self-2 g c

pub returns-in-Ok-fetch-clause-ok : goal.returns-in-Ok-fetch-clause-ok
returns-in-Ok-fetch-clause-ok g c = search rules

pub returns-in-Ok-fetch-clause-found : goal.returns-in-Ok-fetch-clause-found
returns-in-Ok-fetch-clause-found g c = search rules

pub returns-in-Ok-fetch-clause-exact : goal.returns-in-Ok-fetch-clause-exact
returns-in-Ok-fetch-clause-exact g c = search rules

pub returns-in-Ok-fetch-clause-in_step : goal.returns-in-Ok-fetch-clause-in_step
returns-in-Ok-fetch-clause-in_step g c =
    step_touched c.args.self.now.disk _ (g.F.Folder.held c.args.self.now.folder)
    (g.F.Folder.held c.fetch.new.folder) c.args.key.now c.shown.ensures.stands c.shown.ensures.distinct
    (returns-in-Ok-fetch-clause-found g c) (returns-in-Ok-fetch-clause-ok g c)
    (returns-in-Ok-fetch-clause-exact g c)
