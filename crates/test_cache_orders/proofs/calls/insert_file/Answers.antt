-- The name of the file is no temporary one's.
use Rattle.std.proofs.Common.{refl}
use Rattle.listed_files.specs.Key.{is_temporary}
use Rattle.test_cache_orders.proofs.calls.insert_file.Goals as goal

pub insert_file-requires-clause-named : goal.insert_file-requires-clause-named
unfolding is_temporary
insert_file-requires-clause-named g c = refl
