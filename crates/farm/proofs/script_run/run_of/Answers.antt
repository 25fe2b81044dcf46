use Rattle.std.proofs.Common.{string_bytes}
use Rattle.farm_run.proofs.FarmLemmas.{run_text_is}
use Rattle.farm.proofs.script_run.run_of.Goals as goal

pub returns-in-Ok-run-clause-ok : goal.returns-in-Ok-run-clause-ok
returns-in-Ok-run-clause-ok c =
    run_text_is string_bytes c.print_run.result c.args.bytes.now c.in-Ok.read.0 c.in-Ok.read.1.items
    c.deref.result.now c.in_ok-farm.farm c.in-Ok-run.farm
    c.in-Ok.ensures.exact c.in-Ok.ensures.setup c.in_ok-farm.ensures.setup c.in_ok-farm.ensures.none
    c.in_ok-farm.ensures.own c.deref.ensures.value c.in-Ok-run.ensures.ok c.in-Ok-run.ensures.laws
    c.in-Ok-run.ensures.builds c.in-Ok-run.ensures.once c.in-Ok-run.ensures.grants c.print_run.ensures.ok
