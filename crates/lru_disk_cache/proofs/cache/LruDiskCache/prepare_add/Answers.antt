use Rattle.std.proofs.Common.{rules, ◌+◌, ◌≤◌, true, sym, ap, subst, ◌∙◌, arith}
use Rattle.folders.specs.Held.{Became}
use Rattle.listed_files.specs.Key.{is_key}
use Rattle.listed_files.specs.Entries.{total}
use Rattle.lru_disk_cache.specs.Reserved.{KeepsReserved, held_size}
use Rattle.lru_disk_cache.specs.Store.{IsStore}
use Rattle.lru_disk_cache.proofs.Reserving.{temp_reserved}
use Rattle.lru_disk_cache.proofs.Stores.{disk_of, announced_store, prepared_store}
use Rattle.lru_disk_cache.proofs.DiskSteps.{step_prepared}
use Rattle.folders.specs.Changed.{RemovedOrSame}
use Rattle.listed_files.specs.Disk.{IsNoTemp}
use Rattle.listed_files.proofs.Spared.{but_temps}
use Rattle.listed_files.specs.Disk.{KeepsSpoiled}
use Rattle.lru_disk_cache.proofs.Spoiled.{these_spoiled, fresh_temp}
use Rattle.lru_disk_cache.proofs.cache.LruDiskCache.prepare_add.Given.{Over}
use Rattle.lru_disk_cache.proofs.cache.LruDiskCache.prepare_add.Goals.{After-announce}
use Rattle.lru_disk_cache.proofs.cache.LruDiskCache.prepare_add.Goals as goal

-- ---- behind the announcement, whatever it answered

untouched : (g : Over) (c : After-announce g) → Became (KeepsReserved c.self.inside.pending)
    (g.F.Folder.held c.self.inside.folder).files (g.F.Folder.held c.announce.new.folder).files
untouched g c =
    temp_reserved c.self.inside.root c.in-Ok-arrival_of.arrival.from c.self.inside.table.entries
    c.least_free-number.result c.self.inside.pending (g.F.Folder.held c.self.inside.folder).files
    (g.F.Folder.held c.announce.new.folder).files c.in-Ok-arrival_of.ensures.from
    c.in-Ok-arrival_of.ensures.number c.least_free-number.ensures.free c.self.invariant.stands.keys
    c.self.invariant.reserved c.announce.ensures.untouched

stands : (g : Over) (c : After-announce g) → IsStore (g.F.Folder.held c.announce.new.folder)
    (disk_of c.self.inside.path c.self.inside.root c.self.inside.pending c.announce.new.table)
stands g c =
    announced_store c.self.inside.path c.self.inside.root c.self.inside.pending
    (g.F.Folder.held c.announce.new.folder) (g.F.Folder.held c.self.inside.folder) c.self.inside.table
    c.announce.new.table c.self.invariant c.announce.ensures.capacity c.announce.ensures.room.0
    c.announce.ensures.stands (untouched g c)

reserved : (g : Over) (c : After-announce g) → Became (KeepsReserved c.args.self.now.disk.pending)
    (g.F.Folder.held c.args.self.now.folder).files (g.F.Folder.held c.announce.new.folder).files
reserved g c =
    subst (λ s. Became (KeepsReserved s.disk.pending) (g.F.Folder.held s.folder).files
    (g.F.Folder.held c.announce.new.folder).files) c.self.view_is (untouched g c)

removed : (g : Over) (c : After-announce g)
    → Became (RemovedOrSame (IsNoTemp c.args.self.now.disk.root))
    (g.F.Folder.held c.args.self.now.folder).files (g.F.Folder.held c.announce.new.folder).files
removed g c =
    subst (λ s. Became (RemovedOrSame (IsNoTemp s.disk.root)) (g.F.Folder.held s.folder).files
    (g.F.Folder.held c.announce.new.folder).files) c.self.view_is
    (but_temps c.self.inside.root c.in-Ok-arrival_of.arrival.from
    (g.F.Folder.held c.self.inside.folder).files (g.F.Folder.held c.announce.new.folder).files
    c.in-Ok-arrival_of.ensures.temp c.announce.ensures.removed)

stays : (g : Over) (c : After-announce g)
    → Became (KeepsSpoiled c.args.self.now.disk.root c.args.self.now.spoiled)
    (g.F.Folder.held c.args.self.now.folder).files (g.F.Folder.held c.announce.new.folder).files
stays g c =
    let fresh = fresh_temp c.self.inside.root c.in-Ok-arrival_of.arrival.from c.least_free-number.result
    c.self.inside.spoiled c.in-Ok-arrival_of.ensures.from c.in-Ok-arrival_of.ensures.number in
    subst (λ s. Became (KeepsSpoiled s.disk.root s.spoiled) (g.F.Folder.held s.folder).files
    (g.F.Folder.held c.announce.new.folder).files) c.self.view_is
    (these_spoiled c.self.inside.root c.in-Ok-arrival_of.arrival.from c.in-Ok-arrival_of.arrival.from
    c.self.inside.table.entries c.self.inside.spoiled (g.F.Folder.held c.self.inside.folder).files
    (g.F.Folder.held c.announce.new.folder).files fresh fresh c.self.invariant.stands.keys
    c.announce.ensures.untouched)

pub invariant_of-self : goal.invariant_of-self
invariant_of-self g c = stands g (goal.at.invariant_of-self g c).After-announce

pub returns-in-Err-announce-clause-stands : goal.returns-in-Err-announce-clause-stands
returns-in-Err-announce-clause-stands g c =
    stands g (goal.at.returns-in-Err-announce-clause-stands g c).After-announce

pub returns-in-Err-announce-clause-reserved : goal.returns-in-Err-announce-clause-reserved
returns-in-Err-announce-clause-reserved g c =
    reserved g (goal.at.returns-in-Err-announce-clause-reserved g c).After-announce

pub returns-in_default-push-clause-reserved : goal.returns-in_default-push-clause-reserved
returns-in_default-push-clause-reserved g c =
    reserved g (goal.at.returns-in_default-push-clause-reserved g c).After-announce

pub returns-clause-reserved : goal.returns-clause-reserved
returns-clause-reserved g c = reserved g (goal.at.returns-clause-reserved g c).After-announce

pub returns-in-Err-announce-clause-removed : goal.returns-in-Err-announce-clause-removed
returns-in-Err-announce-clause-removed g c =
    removed g (goal.at.returns-in-Err-announce-clause-removed g c).After-announce

pub returns-in_default-push-clause-removed : goal.returns-in_default-push-clause-removed
returns-in_default-push-clause-removed g c =
    removed g (goal.at.returns-in_default-push-clause-removed g c).After-announce

pub returns-clause-removed : goal.returns-clause-removed
returns-clause-removed g c = removed g (goal.at.returns-clause-removed g c).After-announce

pub returns-in-Err-announce-clause-stays : goal.returns-in-Err-announce-clause-stays
returns-in-Err-announce-clause-stays g c =
    stays g (goal.at.returns-in-Err-announce-clause-stays g c).After-announce

pub returns-in_default-push-clause-stays : goal.returns-in_default-push-clause-stays
returns-in_default-push-clause-stays g c =
    stays g (goal.at.returns-in_default-push-clause-stays g c).After-announce

pub returns-clause-stays : goal.returns-clause-stays
returns-clause-stays g c = stays g (goal.at.returns-clause-stays g c).After-announce

pub invariant_of-self-in_default-push : goal.invariant_of-self-in_default-push
invariant_of-self-in_default-push g c =
    subst (λ ps. IsStore (g.F.Folder.held c.announce.new.folder)
    (disk_of c.self.inside.path c.self.inside.root ps c.announce.new.table))
    (sym c.in_default-push.ensures.err)
    (stands g (goal.at.invariant_of-self-in_default-push g c).After-announce)

pub returns-in_default-push-clause-stands : goal.returns-in_default-push-clause-stands
returns-in_default-push-clause-stands g c = invariant_of-self-in_default-push g c

pub invariant_of-self-2 : goal.invariant_of-self-2
invariant_of-self-2 g c =
    let room : total c.announce.new.table.entries + held_size c.self.inside.pending +
    c.in-Ok-arrival_of.arrival.size ≤ c.announce.new.table.capacity =
    omega (
      arith,
      c.in-Ok-announce.ensures.fits,
      c.in-Ok-arrival_of.ensures.key.1,
      c.in-Ok-arrival_of.ensures.key.2,
      c.room_beside-limit.ensures,
      c.in-Ok.ensures.room,
      ap (λ s. held_size s.disk.pending) c.self.view_is,
      ap (λ s. s.disk.capacity) c.self.view_is,
      c.announce.ensures.capacity,
    ) in
    prepared_store c.self.inside.path c.self.inside.root c.self.inside.pending c.push.new.self
    (record {
      number = c.least_free-number.result;
      key = c.in-Ok-arrival_of.arrival.key;
      size = c.in-Ok-arrival_of.arrival.size;
      temp = c.in-Ok-arrival_of.arrival.from;
      sure = true;
    })
    (g.F.Folder.held c.announce.new.folder) c.announce.new.table
    (stands g (goal.at.invariant_of-self-2 g c).After-announce) c.in-Ok-push.ensures.ok room
    (ap is_key c.in-Ok-arrival_of.ensures.key.0 ∙ c.in-Ok.ensures.key) c.in-Ok-arrival_of.ensures.number
    c.in-Ok-arrival_of.ensures.from c.least_free-number.ensures.free c.in-Ok-announce.ensures.there

pub returns-clause-stands : goal.returns-clause-stands
returns-clause-stands g c = invariant_of-self-2 g c

pub returns-clause-ok : goal.returns-clause-ok
returns-clause-ok g c = search rules

pub returns-clause-entry : goal.returns-clause-entry
returns-clause-entry g c = search rules

pub returns-clause-exact : goal.returns-clause-exact
returns-clause-exact g c = search rules

pub returns-clause-in_step : goal.returns-clause-in_step
returns-clause-in_step g c =
    step_prepared c.args.self.now.disk _ (g.F.Folder.held c.args.self.now.folder)
    (g.F.Folder.held c.announce.new.folder) _ c.least_free-number.result c.args.size
    c.in-Ok-arrival_of.ensures.number (ap (λ e. e.number) c.new.ensures)
    (returns-clause-entry g c).1 c.shown.ensures.distinct (returns-clause-ok g c)
    (returns-clause-exact g c)
