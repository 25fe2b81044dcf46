use Rattle.scheduler_service.proofs.ForwardLemmas.{chosen_say_one}
use Rattle.scheduler_service.proofs.laws.chosen_checks_say_one.Goals as goal

pub returns : goal.returns
returns g c = chosen_say_one g.D.Dialer.asked g.D.Dialer.faults
