use Rattle.std.proofs.Common.{rules, ◌≤◌, subst}
use Rattle.listed_files.specs.Entries.{total}
use Rattle.listed_files.specs.Opened.{KeepsOpened}
use Rattle.listed_files.proofs.Keeping.{none_opened}
use Rattle.folders.proofs.Removals.{none_spared}
use Rattle.folders.specs.Files.{front}
use Rattle.folders.specs.Held.{Became}
use Rattle.folders.specs.Changed.{RemovedUnder}
use Rattle.lru_disk_cache.proofs.cache.LruDiskCache.new.Goals as goal

pub invariant_of-result : goal.invariant_of-result
invariant_of-result g c =
    let fits : total c.in-Ok-open.table.entries ≤ c.in-Ok-open.table.capacity = c.size-size.ensures.valid.fits in
    record {
      stands = search rules;
      root = search rules;
      fits = search (rules, fits);
      reserved = search rules;
      numbers = search rules;
      sure = search rules;
    }

pub returns-in-Ok-open-clause-stands : goal.returns-in-Ok-open-clause-stands
returns-in-Ok-open-clause-stands g c = invariant_of-result g c

pub returns-in_default-clause-left : goal.returns-in_default-clause-left
returns-in_default-clause-left g c = none_spared (front c.args.path.now) (g.F.Folder.held c.args.folder).files

pub returns-in-Err-clause-left : goal.returns-in-Err-clause-left
returns-in-Err-clause-left g c = subst (λ r. Became (RemovedUnder r) (g.F.Folder.held c.args.folder).files
    (g.F.Folder.held c.open.new.folder).files) c.in-Ok.ensures.1 c.open.ensures.spares

pub returns-in_default-clause-spared : goal.returns-in_default-clause-spared
returns-in_default-clause-spared g c =
    none_opened (front c.args.path.now) c.args.size (g.F.Folder.held c.args.folder).files

pub returns-in-Err-clause-spared : goal.returns-in-Err-clause-spared
returns-in-Err-clause-spared g c =
    subst (λ r. Became (KeepsOpened r c.args.size) (g.F.Folder.held c.args.folder).files
    (g.F.Folder.held c.open.new.folder).files) c.in-Ok.ensures.1 c.open.ensures.keeps
