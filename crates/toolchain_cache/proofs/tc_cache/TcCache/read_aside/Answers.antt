use Rattle.std.proofs.Common.{◌≡◌, ◌≤◌, ap, subst, arith}
use Rattle.folders.specs.Held.{Lacks}
use Rattle.listed_files.specs.Entries.{total}
use Rattle.lru_disk_cache.specs.Store.{Disk}
use Rattle.toolchain_cache.specs.Archives.{IsInStep}
use Rattle.toolchain_cache.specs.Keyed.{unkeyed, IsKeyed}
use Rattle.lru_disk_cache.proofs.Asides.{below_same}
use Rattle.toolchain_cache.proofs.ArchivesKept.{archives_same}
use Rattle.toolchain_cache.proofs.TcSteps.{aside_keyed, aside_step}
use Rattle.toolchain_cache.proofs.Unkeyed.{keyed_store}
use Rattle.toolchain_cache.proofs.tc_cache.TcCache.read_aside.Goals as goal

pub invariant_of-self : goal.invariant_of-self
invariant_of-self g c =
    aside_keyed c.self.inside.cache.disk c.read_aside-answer.new.self.disk
    (g.F.Folder.held c.self.inside.cache.folder) (g.F.Folder.held c.read_aside-answer.new.self.folder)
    c.self.invariant c.read_aside-answer.ensures.disk
    (below_same c.self.inside.cache.disk.root (Lacks c.args.path.now) c.read_aside-answer.result
    (g.F.Folder.held c.self.inside.cache.folder) (g.F.Folder.held c.read_aside-answer.new.self.folder)
    c.read_aside-answer.ensures.leaves)

pub returns-clause-at : goal.returns-clause-at
returns-clause-at g c =
    subst (λ s. (c.read_aside-answer.new.self.disk.path ≡ s.path)
    × (c.read_aside-answer.new.self.disk.capacity ≡ s.capacity)
    × (unkeyed c.read_aside-answer.new.self.disk.entries ≡ s.archives)) c.self.view_is (
      ap (λ (d : Disk). d.path) c.read_aside-answer.ensures.disk,
      ap (λ (d : Disk). d.capacity) c.read_aside-answer.ensures.disk,
      ap (λ (d : Disk). unkeyed d.entries) c.read_aside-answer.ensures.disk,
    )

pub returns-clause-in_step : goal.returns-clause-in_step
returns-clause-in_step g c =
    subst (λ s. IsInStep s.path (g.F.Folder.held s.folder) s.archives
    → IsInStep c.read_aside-answer.new.self.disk.path
    (g.F.Folder.held c.read_aside-answer.new.self.folder)
    (unkeyed c.read_aside-answer.new.self.disk.entries)) c.self.view_is
    (aside_step c.self.inside.cache.disk c.read_aside-answer.new.self.disk
    (g.F.Folder.held c.self.inside.cache.folder) (g.F.Folder.held c.read_aside-answer.new.self.folder)
    c.read_aside-answer.ensures.disk
    (archives_same c.self.inside.cache.disk.path (Lacks c.args.path.now) c.read_aside-answer.result
    (g.F.Folder.held c.self.inside.cache.folder) (g.F.Folder.held c.read_aside-answer.new.self.folder)
    c.read_aside-answer.ensures.leaves))

pub returns-clause-stands : goal.returns-clause-stands
returns-clause-stands g c =
    let keyed : IsKeyed (g.F.Folder.held c.read_aside-answer.new.self.folder)
    c.read_aside-answer.new.self.disk =
    aside_keyed c.self.inside.cache.disk c.read_aside-answer.new.self.disk
    (g.F.Folder.held c.self.inside.cache.folder) (g.F.Folder.held c.read_aside-answer.new.self.folder)
    c.self.invariant c.read_aside-answer.ensures.disk
    (below_same c.self.inside.cache.disk.root (Lacks c.args.path.now) c.read_aside-answer.result
    (g.F.Folder.held c.self.inside.cache.folder) (g.F.Folder.held c.read_aside-answer.new.self.folder)
    c.read_aside-answer.ensures.leaves) in
    let fits : total c.read_aside-answer.new.self.disk.entries ≤ c.read_aside-answer.new.self.disk.capacity =
    omega (arith, c.read_aside-answer.ensures.stands.fits) in
    keyed_store (g.F.Folder.held c.read_aside-answer.new.self.folder) c.read_aside-answer.new.self.disk keyed
    c.len-len.ensures.distinct fits
