use Rattle.farm.proofs.DoneLemmas.{carried_out_at, done_parsed}
use Rattle.farm.proofs.command.run_words.Goals as goal

pub returns-in-Ok-clause-done : goal.returns-in-Ok-clause-done
returns-in-Ok-clause-done g c =
    done_parsed _ c.in-Ok.command c.carry_out.result _ _ c.in-Ok.ensures.usage c.in-Ok.ensures.parsed
    (carried_out_at c.in-Ok.command c.carry_out.result _ _ c.carry_out.ensures.done)
