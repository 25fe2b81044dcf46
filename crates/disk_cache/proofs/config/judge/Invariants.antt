use Rattle.std.proofs.Common.{◌≡◌, take, drop}
use Rattle.disk_cache.specs.Configs.{judged_from, config_verdict}
use Rattle.disk_cache.proofs.config.judge.Given as goal

abbrev pub invariant-loop-i : goal.invariant-loop-i
invariant-loop-i l = judged_from (take l.i l.configs) (drop l.i l.configs) ≡ config_verdict l.configs
