use Rattle.toolchain_cache.proofs.Archived.{archives_reopen}
use Rattle.toolchain_cache.proofs.laws.reopening_gives_the_archives.Goals as goal

pub returns : goal.returns
returns c = archives_reopen
