use Rattle.std.specs.Prelude.{codes}
use Rattle.toml.specs.Data.{get_member}
use Rattle.command_line.proofs.KeyLemmas.{scheduler_tells, server_tells, rules_are}
use Rattle.command_line.proofs.LeastLemmas.{least_is}
use Rattle.command_line.proofs.laws.files_tell_their_bad_key.Goals as goal

pub returns-clause-scheduler : goal.returns-clause-scheduler
returns-clause-scheduler c = scheduler_tells

pub returns-clause-server : goal.returns-clause-server
returns-clause-server c = server_tells

pub returns-clause-least : goal.returns-clause-least
returns-clause-least c = least_is

pub returns-clause-rules : goal.returns-clause-rules
returns-clause-rules c = λ members. rules_are (get_member (codes "rules") members)
