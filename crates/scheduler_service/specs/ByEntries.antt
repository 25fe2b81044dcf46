-- What is done of what is asked, and what is replied, by the entries at the pass's own places.
use Rattle.std.specs.Prelude.{◌≡◌, ◌≢◌, ◌⊎◌, ◌<◌, ◌+◌, ℕ, List, [], ◌∷◌, length, Bool, true, slice_get}
use Rattle.std.specs.Prelude.{Option, Some, None, IfSome, Result, Ok, Err, IfOk}
use Rattle.dist_types.specs.declared.outgoing.CallFault.{CallFault}
use Rattle.dist_types.specs.declared.outgoing.CallFault.TheVariants.{Memory}
use Rattle.dist_types.specs.declared.results.AssignJobResult.{AssignJobResult}
use Rattle.core_rules.specs.Log.{Core}
use Rattle.core_rules.specs.Rule.{rule}
use Rattle.core_rules.specs.Ticket.{Ticket}
use Rattle.core_rules.specs.declared.call.Call.{Call}
use Rattle.core_rules.specs.declared.call.Call.TheVariants as call
use Rattle.core_rules.specs.declared.entry.CoreEntry.{CoreEntry}
use Rattle.sched_core.specs.declared.answers.Picked.TheVariants.{Reserved}
use Rattle.scheduler_steps.specs.Settling.{judged, spend_call, is_own}
use Rattle.scheduler_steps.specs.Telling.{TellsReserve, WantsMemory}
use Rattle.scheduler_replies.specs.ByEntry.{call_of, reply_by, RepliesAt, settled_reply}
use Rattle.sched.specs.Outside.{Moments, IsReadAt, IsCalled}
use Rattle.sched.specs.Pass.{Adds}
use Rattle.sched.specs.Turn.{IsCallAt, core_before, count_made, place_made}
use Rattle.http_routes.specs.declared.route.SchedRouted.{SchedRouted}
use Rattle.http_routes.specs.declared.route.SchedRouted.TheVariants.{Alloc, Beat, Update, Status, Drain, Done}
use Rattle.http_connections.specs.Served.{MadeReply}
use Rattle.scheduler_service.specs.Replied.{Means, AsksNobody, requests_over, job_token}
use Rattle.scheduler_service.specs.Requested.{IsAskedFor}

-- The entry is the rule's for what is asked at that moment, and says what is replied: no job was reserved.
pub record IsRuled (json : Bool) (what : SchedRouted) (now : ℕ) (core : Core) (e : CoreEntry) : Type 0 where
  pub asked : Call
  pub asked_is : call_of now what ≡ Some asked
  pub is : e ≡ rule core asked
  pub replies : reply_by json what e.kind ≢ None

-- One call of the core, and nobody is asked. At the moment that the clock gave it makes the rule's entry
-- for what is asked, over the entries before the place where it stands, which is the one new place of the
-- pass and ends what it has seen of the log; and the reply is the one that this entry gives. Or it makes no
-- entry, for its number of processors, which is then replied, or for want of memory, and then there is no
-- reply.
pub record IsAnswered (json : Bool) (what : SchedRouted) (old new : Means) (made : MadeReply) : Type 0 where
  pub now : ℕ
  pub read : IsReadAt now old.clock new.clock
  pub place : ℕ
  pub entry : Option CoreEntry
  pub there : IfSome entry (λ e. slice_get new.pass.front place ≡ Some e)
  pub ruled : IfSome entry (IsRuled json what now (core_before new.pass place))
  pub ends : length new.pass.front ≡ place + count_made entry
  pub added : Adds (place_made place entry) old.pass new.pass
  pub unasked : AsksNobody old new
  pub replies : IfOk made (RepliesAt json what now (core_before new.pass place) entry)

-- A job is reserved, its server is asked, once and through the dialer, and the reservation is spent by what
-- was heard of it. Both entries are the rule's, each at the clock's next moment and over the entries before
-- its place; the two places are the new ones of the pass, and the later one ends what it has seen of the
-- log. The reply is the one that the second entry and what was heard give; there is none where memory ran
-- out while it was heard.
pub record IsAskedAt (json : Bool) (tc : List ℕ) (old new : Means) (made : MadeReply) : Type 0 where
  pub r : Ticket
  pub place : ℕ
  pub reserving : CoreEntry
  pub ticking : Moments
  pub reserved : IsCallAt (λ now. call.Reserve now) (TellsReserve (λ (key : List ℕ). key) job_token)
      WantsMemory
      new.pass place (Some reserving) old.clock ticking (Ok (Reserved r))
  pub name : ℕ
  pub heard : Result AssignJobResult CallFault
  pub called : IsCalled IsAskedFor r tc heard (requests_over name old) (requests_over name new)
  pub spent : ℕ
  pub spending : CoreEntry
  pub now : ℕ
  pub read : IsReadAt now ticking new.clock
  pub later : place < spent
  pub there : slice_get new.pass.front spent ≡ Some spending
  pub own : is_own (core_before new.pass spent) r ≡ true
  pub ruled : spending ≡ rule (core_before new.pass spent) (spend_call now r (judged heard))
  pub ends : length new.pass.front ≡ spent + 1
  pub added : Adds (place ∷ spent ∷ []) old.pass new.pass
  pub replies : IfOk made (λ reply. (judged heard ≢ Err Memory)
      × (reply ≡ settled_reply json r (judged heard) spending.kind))

-- what is asked is done, and replied to by the entries that it made; what its route answered is the reply,
-- and changes nothing
abbrev pub IsDoneAt : Bool → SchedRouted → Means → Means → MadeReply → Type 0
IsDoneAt json (Alloc tc) old new made = IsAnswered json (Alloc tc) old new made ⊎ IsAskedAt json tc old new
    made
IsDoneAt json (Beat server beat) old new made = IsAnswered json (Beat server beat) old new made
IsDoneAt json (Update server job state) old new made = IsAnswered json (Update server job state) old new made
IsDoneAt json Status old new made = IsAnswered json Status old new made
IsDoneAt json (Drain server drain) old new made = IsAnswered json (Drain server drain) old new made
IsDoneAt json (Done response) old new made = (made ≡ Ok response) × (new ≡ old)
