use Rattle.std.proofs.Common.{map}
use Rattle.lives_script.specs.Place.{ids_of}
use Rattle.lives_script.specs.Script.{read_of, lives_of}
use Rattle.lives_script.proofs.IdLemmas.{ids_from}
use Rattle.lives_script.proofs.UsedLemmas.{made_range, is_free}
use Rattle.lives_script.proofs.script.with_life.Goals as goal

pub add-requires-clause-free : goal.add-requires-clause-free
add-requires-clause-free c =
    is_free c.args.reading.used.lasts (map ids_of (lives_of (read_of c.args.reading)))
    (ids_from c.args.from c.args.count) c.requires.kept.ids
    (made_range c.args.from c.args.count c.ranges.from.fits c.requires.some c.ranges.count.fits) c.requires.apart
