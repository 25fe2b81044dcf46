use Rattle.std.proofs.Common.{length}
use Rattle.path_pkg.proofs.recorded.+record_all.Given as goal

abbrev pub decreases-record_all : goal.decreases-record_all
decreases-record_all l = length l.more.now
