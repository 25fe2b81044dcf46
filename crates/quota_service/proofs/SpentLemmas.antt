-- A reservation whose server was asked.
use Rattle.std.proofs.Common.{◌≡◌, ℕ, List, Option, None, Result}
use Rattle.dist_types.specs.declared.dialer.Asked.{Asked}
use Rattle.dist_types.specs.declared.outgoing.CallFault.{CallFault}
use Rattle.dist_types.specs.declared.results.AllocJobResult.{AllocJobResult}
use Rattle.dist_types.specs.declared.results.AssignJobResult.{AssignJobResult}
use Rattle.core_rules.specs.Log.{logged}
use Rattle.core_rules.specs.Ticket.{Ticket}
use Rattle.scheduler_steps.specs.Settling.{judged, settled_by, Answers}
use Rattle.scheduler_steps.specs.declared.fault.SchedFault.{SchedFault}
use Rattle.scheduler_steps.specs.declared.settled.Settled.{Settled}
use Rattle.scheduler_service.specs.Requested.{IsAskedFor, lent_of}
use Rattle.sched.specs.Outside.{Moments, IsRead, IsCalled}
use Rattle.quota.specs.Quota.{Quota, over_core}
use Rattle.quota_service.specs.Replied.{Means, IsSpent, requests_over, spending}

-- a call of a requester that was lent the dialer
pub called_over : (name n : ℕ) (r : Ticket) (tc : List ℕ) (heard : Result AssignJobResult CallFault)
    (first last a b : Option (List Asked)) (faults risen f g : ℕ)
    → IsCalled IsAskedFor r tc heard (record { rows = None; faults = f; lent = lent_of name a })
    (record { rows = None; faults = g; lent = lent_of n b })
    → f ≡ faults → a ≡ first → n ≡ name → g ≡ risen → b ≡ last
    → IsCalled IsAskedFor r tc heard (record { rows = None; faults = faults; lent = lent_of name first })
    (record { rows = None; faults = risen; lent = lent_of name last })
called_over name n r tc heard first last a b faults risen f g is is_f is_a is_n is_g is_b =
    rw (is_f, is_a, is_n, is_g, is_b) at is

-- and what became of the reservation
pub spent_by : (name now : ℕ) (r : Ticket) (tc : List ℕ) (heard : Result AssignJobResult CallFault)
    (settled : Settled) (old new : Means) (answer : Result AllocJobResult SchedFault)
    → IsCalled IsAskedFor r tc heard (requests_over name old) (requests_over name new)
    → IsRead old.clock new.clock → new.clock.last ≡ now
    → new.quota ≡ over_core old.quota (logged old.quota.core (spending old.quota.core now r heard))
    → settled ≡ settled_by r (judged heard) (spending old.quota.core now r heard).kind
    → Answers settled answer → IsSpent tc r old new answer
spent_by name now r tc heard settled old new answer called read is left made told =
    record {
      heard = heard;
      name = name;
      called = called;
      read = read;
      left = rw is left;
      told = rw (is, ← made) told;
    }
