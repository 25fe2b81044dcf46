use Rattle.lru_disk_cache.proofs.Reserving.{gives_back}
use Rattle.lru_disk_cache.proofs.laws.closing_gives_the_size_back.Goals as goal

pub returns : goal.returns
returns c = gives_back
