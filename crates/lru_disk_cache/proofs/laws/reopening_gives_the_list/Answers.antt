use Rattle.lru_disk_cache.proofs.Reopening.{reopens}
use Rattle.lru_disk_cache.proofs.laws.reopening_gives_the_list.Goals as goal

pub returns : goal.returns
returns c = reopens
