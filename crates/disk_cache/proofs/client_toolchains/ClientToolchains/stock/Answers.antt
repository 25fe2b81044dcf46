use Rattle.disk_cache.proofs.OthersLemmas.{others_then}
use Rattle.disk_cache.proofs.client_toolchains.ClientToolchains.stock.Goals as goal

pub returns-in-Ok-clause-others : goal.returns-in-Ok-clause-others
returns-in-Ok-clause-others g c =
    others_then c.args.key.now c.args.self.now c.store.new.self c.record_stored.new.self
    c.store.ensures.beside c.record_stored.ensures.others
