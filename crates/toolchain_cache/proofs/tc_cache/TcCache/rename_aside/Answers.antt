use Rattle.std.proofs.Common.{◌≡◌, ◌≤◌, sym, ap, subst, arith}
use Rattle.folders.specs.Changed.{IsOutside}
use Rattle.listed_files.specs.Entries.{total}
use Rattle.lru_disk_cache.specs.Store.{Disk}
use Rattle.toolchain_cache.specs.Archives.{IsInStep}
use Rattle.toolchain_cache.specs.Keyed.{unkeyed, IsKeyed}
use Rattle.lru_disk_cache.proofs.Asides.{below_renamed}
use Rattle.toolchain_cache.proofs.ArchivesKept.{archives_renamed}
use Rattle.toolchain_cache.proofs.TcSteps.{aside_keyed, aside_step}
use Rattle.toolchain_cache.proofs.Unkeyed.{keyed_store}
use Rattle.toolchain_cache.proofs.tc_cache.TcCache.rename_aside.Goals as goal

pub invariant_of-self : goal.invariant_of-self
invariant_of-self g c =
    let one = subst (λ s. IsOutside s.path c.args.from.now) (sym c.self.view_is) c.requires.from in
    let two = subst (λ s. IsOutside s.path c.args.to.now) (sym c.self.view_is) c.requires.to in
    aside_keyed c.self.inside.cache.disk c.rename_aside-answer.new.self.disk
    (g.F.Folder.held c.self.inside.cache.folder) (g.F.Folder.held c.rename_aside-answer.new.self.folder)
    c.self.invariant c.rename_aside-answer.ensures.disk
    (below_renamed c.self.inside.cache.disk.root c.self.inside.cache.disk.path c.args.from.now
    c.args.to.now c.rename_aside-answer.result (g.F.Folder.held c.self.inside.cache.folder)
    (g.F.Folder.held c.rename_aside-answer.new.self.folder) c.self.invariant.root one two
    c.rename_aside-answer.ensures.renames)

pub returns-clause-at : goal.returns-clause-at
returns-clause-at g c =
    subst (λ s. (c.rename_aside-answer.new.self.disk.path ≡ s.path)
    × (c.rename_aside-answer.new.self.disk.capacity ≡ s.capacity)
    × (unkeyed c.rename_aside-answer.new.self.disk.entries ≡ s.archives)) c.self.view_is (
      ap (λ (d : Disk). d.path) c.rename_aside-answer.ensures.disk,
      ap (λ (d : Disk). d.capacity) c.rename_aside-answer.ensures.disk,
      ap (λ (d : Disk). unkeyed d.entries) c.rename_aside-answer.ensures.disk,
    )

pub returns-clause-in_step : goal.returns-clause-in_step
returns-clause-in_step g c =
    let one = subst (λ s. IsOutside s.path c.args.from.now) (sym c.self.view_is) c.requires.from in
    let two = subst (λ s. IsOutside s.path c.args.to.now) (sym c.self.view_is) c.requires.to in
    subst (λ s. IsInStep s.path (g.F.Folder.held s.folder) s.archives
    → IsInStep c.rename_aside-answer.new.self.disk.path
    (g.F.Folder.held c.rename_aside-answer.new.self.folder)
    (unkeyed c.rename_aside-answer.new.self.disk.entries)) c.self.view_is
    (aside_step c.self.inside.cache.disk c.rename_aside-answer.new.self.disk
    (g.F.Folder.held c.self.inside.cache.folder) (g.F.Folder.held c.rename_aside-answer.new.self.folder)
    c.rename_aside-answer.ensures.disk
    (archives_renamed c.self.inside.cache.disk.path c.args.from.now c.args.to.now
    c.rename_aside-answer.result (g.F.Folder.held c.self.inside.cache.folder)
    (g.F.Folder.held c.rename_aside-answer.new.self.folder) one two
    c.rename_aside-answer.ensures.renames))

pub returns-clause-stands : goal.returns-clause-stands
returns-clause-stands g c =
    let one = subst (λ s. IsOutside s.path c.args.from.now) (sym c.self.view_is) c.requires.from in
    let two = subst (λ s. IsOutside s.path c.args.to.now) (sym c.self.view_is) c.requires.to in
    let keyed : IsKeyed (g.F.Folder.held c.rename_aside-answer.new.self.folder)
    c.rename_aside-answer.new.self.disk =
    aside_keyed c.self.inside.cache.disk c.rename_aside-answer.new.self.disk
    (g.F.Folder.held c.self.inside.cache.folder) (g.F.Folder.held c.rename_aside-answer.new.self.folder)
    c.self.invariant c.rename_aside-answer.ensures.disk
    (below_renamed c.self.inside.cache.disk.root c.self.inside.cache.disk.path c.args.from.now
    c.args.to.now c.rename_aside-answer.result (g.F.Folder.held c.self.inside.cache.folder)
    (g.F.Folder.held c.rename_aside-answer.new.self.folder) c.self.invariant.root one two
    c.rename_aside-answer.ensures.renames) in
    let fits : total c.rename_aside-answer.new.self.disk.entries
    ≤ c.rename_aside-answer.new.self.disk.capacity =
    omega (arith, c.rename_aside-answer.ensures.stands.fits) in
    keyed_store (g.F.Folder.held c.rename_aside-answer.new.self.folder) c.rename_aside-answer.new.self.disk
    keyed c.len-len.ensures.distinct fits
