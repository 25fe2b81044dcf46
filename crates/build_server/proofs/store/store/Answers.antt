use Rattle.std.proofs.Common.{refl, ◌∙◌, ◌-◌, ◌≤◌, length, arith}
use Rattle.build_server.proofs.StoreLemmas.{store_refused, store_shorter, store_made}
use Rattle.build_server.proofs.store.store.Goals as goal

pub overflow_sub-count : goal.overflow_sub-count
overflow_sub-count g c =
    let h : length c.insert_verified.new.self.archives ≤ length c.args.cache.now.archives =
    store_shorter c.in-Err.e c.args.cache.now.capacity c.args.tc.now c.bytes-bytes.result.now
    c.args.cache.now.archives c.insert_verified.new.self.archives (g.F.Folder.held c.args.cache.now.folder)
    (g.F.Folder.held c.insert_verified.new.self.folder) c.requires.unlisted c.requires.stands.distinct
    c.in-Err.ensures.fails in
    omega (arith, c.len.ensures, c.len-count.ensures)

pub returns-in-Ok-insert_verified-clause-stores : goal.returns-in-Ok-insert_verified-clause-stores
returns-in-Ok-insert_verified-clause-stores g c =
    rw (← c.bytes-bytes.ensures.bytes)
    (store_made c.args.cache.now.capacity c.args.tc.now c.bytes-bytes.result.now c.new.result
    c.args.cache.now.archives c.insert_verified.new.self.archives (g.F.Folder.held c.args.cache.now.folder)
    (g.F.Folder.held c.insert_verified.new.self.folder)
    (c.new.ensures.items ∙ rw (c.saturating_sub-limit.ensures, c.capacity.ensures) at
    c.in-Ok.ensures.dropped) c.requires.unlisted c.requires.stands.distinct
    c.in-Ok-insert_verified.ensures.ok c.in-Ok-insert_verified.ensures.admits
    c.in-Ok-insert_verified.ensures.steady)

pub returns-in-Err-clause-stores : goal.returns-in-Err-clause-stores
returns-in-Err-clause-stores g c =
    rw (c.refused.ensures.refusal, ← c.bytes-bytes.ensures.bytes)
    (store_refused c.in-Err.e c.args.cache.now.capacity c.args.tc.now c.bytes-bytes.result.now c.in-Ok.gone.items
    (c.len-count.result - c.len.result) c.args.cache.now.archives c.insert_verified.new.self.archives
    (g.F.Folder.held c.args.cache.now.folder) (g.F.Folder.held c.insert_verified.new.self.folder)
    (rw (c.saturating_sub-limit.ensures, c.capacity.ensures) at c.in-Ok.ensures.dropped)
    (rw (c.len-count.ensures, c.len.ensures) refl) c.requires.unlisted c.requires.stands.distinct
    c.in-Err.ensures.fails)
