use Rattle.listed_files.proofs.Paths.{insert_keyless, named_keyless}
use Rattle.lru_disk_cache.proofs.cache.insert_arrival.Goals as goal

pub returns-clause-keyless : goal.returns-clause-keyless
returns-clause-keyless c =
    named_keyless c.arrival_from.result (λ a. a.from) c.args.root.now c.in_ok-from.from c.arrival_from.ensures.from
    (insert_keyless c.args.root.now c.in_ok-from.from c.args.number c.in_ok-from.ensures.path c.ranges.number.fits)
