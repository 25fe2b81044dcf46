use Rattle.disk_cache.specs.Custom.{last_taken}
use Rattle.disk_cache.proofs.StepLemmas.{gets_step}
use Rattle.disk_cache.proofs.client_toolchains.ClientToolchains.get_toolchain.Goals as goal

pub returns-clause-in_step : goal.returns-clause-in_step
returns-clause-in_step g c =
    gets_step (last_taken c.args.tc.now c.args.self.now.taken) c.args.tc.now c.archive_of-answer.result
    c.args.self.now c.archive_of-answer.new.self c.archive_of-answer.ensures.gets
