use Rattle.std.proofs.Common.{arith}
use Rattle.std.proofs.lemmas.Str.{lead_after_ascii}
use Rattle.path_pkg.proofs.win_path.after.Goals as goal

pub range_from-requires : goal.range_from-requires
range_from-requires c = λ some.
    (omega arith, lead_after_ascii c.args.text.now c.args.i c.utf8.text c.requires)
