use Rattle.std.proofs.Common.{◌≡◌, drop}
use Rattle.disk_cache.specs.Configs.{config_of}
use Rattle.disk_cache.proofs.config.config_of.Given as goal

abbrev pub invariant-loop-config : goal.invariant-loop-config
invariant-loop-config l = config_of l.path (drop l.config-index l.configs) ≡ config_of l.path l.configs
