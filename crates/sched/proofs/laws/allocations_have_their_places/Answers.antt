use Rattle.sched.proofs.PlaceLemmas.{was_allocated}
use Rattle.sched.proofs.laws.allocations_have_their_places.Goals as goal

pub returns : goal.returns
returns g c tc old new clock ticked before after answer =
    was_allocated g.A.JobAuthorizer.key_of g.A.JobAuthorizer.token_for g.O.SchedulerOutgoing.says tc old new clock
    ticked before after answer
