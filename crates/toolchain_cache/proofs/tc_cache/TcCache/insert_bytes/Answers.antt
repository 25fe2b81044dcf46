use Rattle.std.proofs.Common.{refl}
use Rattle.toolchain_cache.proofs.tc_cache.TcCache.insert_bytes.Goals as goal

pub returns-then-not-is_archive-clause-spoils : goal.returns-then-not-is_archive-clause-spoils
returns-then-not-is_archive-clause-spoils g c = (refl, refl)
