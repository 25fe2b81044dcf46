use Rattle.std.proofs.Common.{[], Some, ap}
use Rattle.folders.specs.Files.{Files}
use Rattle.mirror_run.proofs.sites.empty_cache.Goals as goal

pub returns-in-Ok-clause-lists : goal.returns-in-Ok-clause-lists
returns-in-Ok-clause-lists c =
    c.in-Ok.ensures.opened [] (ap (λ (files : Files). Some files) c.new.ensures.empty)
