use Rattle.disk_cache.specs.Configs.{config_of}
use Rattle.disk_cache.proofs.StepLemmas.{puts_step}
use Rattle.disk_cache.proofs.client_toolchains.ClientToolchains.put_toolchain.Goals as goal

pub returns-clause-in_step : goal.returns-clause-in_step
returns-clause-in_step g c =
    puts_step _ _ _ _ _ (config_of c.args.compiler_path.now c.args.self.now.configs)
    c.args.compiler_path.now c.args.weak_key.now c.put-answer.result c.args.self.now c.put-answer.new.self
    c.put-answer.ensures.puts c.put-answer.ensures.others
