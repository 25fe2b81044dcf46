use Rattle.disk_cache.specs.Configs.{custom_of}
use Rattle.disk_cache.specs.Custom.{customs_seen}
use Rattle.disk_cache.proofs.StepLemmas.{tells_step}
use Rattle.disk_cache.proofs.client_toolchains.ClientToolchains.get_custom_toolchain.Goals as goal

pub returns-clause-in_step : goal.returns-clause-in_step
returns-clause-in_step g c =
    tells_step (custom_of c.args.compiler_path.now c.args.self.now.configs) c.args.compiler_path.now
    (customs_seen c.tell_custom-answer.result) c.args.self.now c.tell_custom-answer.new.self
    c.tell_custom-answer.ensures.tells
