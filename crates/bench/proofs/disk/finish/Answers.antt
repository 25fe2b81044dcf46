use Rattle.std.proofs.Common.{◌≡◌, true, sym, subst}
use Rattle.lru_disk_cache.specs.Reserved.{AddEntry, is_pending}
use Rattle.bench.proofs.Pending.{still_pending}
use Rattle.bench.proofs.disk.finish.Goals as goal

pub close-requires : goal.close-requires
close-requires g c =
    subst (λ (e : AddEntry). is_pending e c.commit.new.self.disk.pending ≡ true) (sym c.in-Err.ensures.back)
    (still_pending c.args.entry c.in-Err.error c.args.cache.now.disk c.commit.new.self.disk
    (g.F.Folder.held c.args.cache.now.folder) (g.F.Folder.held c.commit.new.self.folder) c.requires
    c.in-Err.ensures.fails)
