use Rattle.std.proofs.Common.{◌≤◌, subst, arith}
use Rattle.listed_files.specs.Entries.{total}
use Rattle.toolchain_cache.specs.Archives.{IsArchiveStore}
use Rattle.toolchain_cache.proofs.Unkeyed.{keyed_store}
use Rattle.toolchain_cache.proofs.tc_cache.TcCache.shown.Goals as goal

pub returns : goal.returns
returns g c =
    let fits : total c.self.inside.cache.disk.entries ≤ c.self.inside.cache.disk.capacity =
    omega (arith, c.size-sum.ensures.stands.fits) in
    let stands = subst (λ s. IsArchiveStore s.path s.capacity s.archives (g.F.Folder.held s.folder))
    c.self.view_is (keyed_store (g.F.Folder.held c.self.inside.cache.folder) c.self.inside.cache.disk
    c.self.invariant c.len-len.ensures.distinct fits) in
    record { stands = stands }
