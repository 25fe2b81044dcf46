use Rattle.lru_disk_cache.proofs.Reliably.{never_fails, fails_to_move, fails_unsure}
use Rattle.lru_disk_cache.proofs.laws.reliable_folders_never_fail.Goals as goal

pub returns-clause-never : goal.returns-clause-never
returns-clause-never c = never_fails

pub returns-clause-moved : goal.returns-clause-moved
returns-clause-moved c = fails_to_move

pub returns-clause-sure : goal.returns-clause-sure
returns-clause-sure c = fails_unsure
