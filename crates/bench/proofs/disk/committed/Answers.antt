use Rattle.std.proofs.Common.{ap, ◌∙◌}
use Rattle.lru_disk_cache.specs.Reserved.{is_pending}
use Rattle.lru_disk_cache.specs.Store.{Disk}
use Rattle.bench.proofs.Pending.{now_pending}
use Rattle.bench.proofs.disk.committed.Goals as goal

pub close-requires : goal.close-requires
close-requires g c =
    ap (λ (d : Disk). is_pending c.in_ok-entry.entry d.pending) c.write_entry.ensures.disk
    ∙ now_pending c.in_ok-entry.entry c.args.cache.now.disk c.prepare_add.new.self.disk
    c.in_ok-entry.ensures.ok
