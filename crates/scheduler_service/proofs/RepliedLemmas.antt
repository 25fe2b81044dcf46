-- What an allocation leaves of a pass, and what is done behind a route.
use Rattle.std.proofs.Common.{◌≡◌, ◌∙◌, ℕ, List, Option, Some, None, Result, Ok, Err, refl, sym, subst}
use Rattle.std.specs.Prelude.{⊤}
use Rattle.dist_types.specs.Outgoing.{Assigned}
use Rattle.dist_types.specs.declared.addr.Addr.{Addr}
use Rattle.dist_types.specs.declared.dialer.Asked.{Asked}
use Rattle.dist_types.specs.declared.fault.Memory as want
use Rattle.dist_types.specs.declared.rules.Rules.{Rules}
use Rattle.dist_types.specs.declared.rules.Rules.TheVariants.{One, Two}
use Rattle.dist_types.specs.declared.results.AllocJobResult.{AllocJobResult}
use Rattle.dist_types.specs.declared.token_error.TokenError.{TokenError}
use Rattle.dist_wire.specs.declared.drain.DrainServerHttpRequest.{DrainServerHttpRequest}
use Rattle.http_head.specs.declared.request.Request.{Request}
use Rattle.http_routes.specs.declared.route.SchedRouted.{SchedRouted}
use Rattle.http_routes.specs.declared.route.SchedRouted.TheVariants.{Drain}
use Rattle.http_routes.proofs.VersionLemmas.{no_request_drains}
use Rattle.scheduler_steps.specs.declared.fault.SchedFault.{SchedFault}
use Rattle.sched.specs.Course.{IsAllocation}
use Rattle.sched.specs.Outside.{Moments, Requests, IsRead}
use Rattle.sched.specs.Pass.{Told, Stays}
use Rattle.http_connections.specs.Form.{form_of}
use Rattle.http_connections.specs.Served.{MadeReply}
use Rattle.scheduler_service.specs.Connection.{Routing, Asks, Does, IsReplied}
use Rattle.scheduler_service.specs.Replied.{Means, IsAllocated, job_token}
use Rattle.scheduler_service.specs.Requested.{IsAskedFor, lent_of}

pub allocation_stays : (key_of : List ℕ → List ℕ) (token_for : List ℕ → ℕ → List ℕ)
    (says : Assigned → Asked → Type 0) (tc : List ℕ) (old new : Told) (clock ticked : Moments)
    (before after : Requests) (answer : Result AllocJobResult SchedFault)
    → IsAllocation key_of token_for says tc old new clock ticked before after answer → Stays old new
allocation_stays key_of token_for says tc old new clock ticked before after answer a =
    let counted = a.added.counted in
    record { of = counted.of; start = counted.start; held = counted.held; splits = counted.splits }

-- an allocation over a requester that was lent the dialer
pub allocated_over : (name : ℕ) (tc : List ℕ) (old new : Means) (answer : Result AllocJobResult SchedFault)
    (n : ℕ) (a b : Option (List Asked)) (f g : ℕ)
    → IsAllocation (λ (key : List ℕ). key) job_token IsAskedFor tc old.pass new.pass old.clock new.clock
    (record { rows = None; faults = f; lent = lent_of name a })
    (record { rows = None; faults = g; lent = lent_of n b }) answer
    → f ≡ old.faults → a ≡ old.asked → n ≡ name → g ≡ new.faults → b ≡ new.asked
    → IsAllocated tc old new answer
allocated_over name tc old new answer n a b f g is is_f is_a is_n is_g is_b =
    record { name = name; allocated = rw (is_f, is_a, is_n, is_g, is_b) at is }

-- what is asked at a moment, and done, is the reply to what was taken
pub replied : {K : Type 0} (rules : Rules) (may_answer : K → ℕ → List ℕ → Result ⊤ TokenError → K → Type 0)
    (shown : K → TokenError → List ℕ) (serves : List ℕ → Option Addr) (peer : Addr) (request : Option Request)
    (old : Means) (client checked : K) (between : Moments) (routing : Routing) (new : Means)
    (made : MadeReply)
    → rules ≡ old.pass.start.rules → IsRead old.clock between
    → Asks rules may_answer shown serves peer request between.last client routing checked
    → Does (form_of request) routing (record old { clock = between }) new made
    → IsReplied may_answer shown serves peer request (record { means = old; client = client })
    (record { means = new; client = checked }) made
replied rules may_answer shown serves peer request old client checked between routing new made same read asks
    done =
    record {
      between = between;
      read = read;
      routing = routing;
      asks = subst (λ v. Asks v may_answer shown serves peer request between.last client routing checked) same asks;
      done = done;
    }

-- want of memory in a route is of no kind
still_unrouted : {K : Type 0} (rules : Rules) (may_answer : K → ℕ → List ℕ → Result ⊤ TokenError → K → Type 0)
    (shown : K → TokenError → List ℕ) (serves : List ℕ → Option Addr) (peer : Addr) (request : Option Request)
    (now : ℕ) (old new : K) (e f : want.Memory)
    → Asks rules may_answer shown serves peer request now old (Err e) new
    → Asks rules may_answer shown serves peer request now old (Err f) new
still_unrouted rules may_answer shown serves peer None now old new e f asks = asks
still_unrouted rules may_answer shown serves peer (Some request) now old new e f asks = asks

-- where memory ran out before what is asked was known, nothing is done
pub unrouted : {K : Type 0} (rules : Rules) (may_answer : K → ℕ → List ℕ → Result ⊤ TokenError → K → Type 0)
    (shown : K → TokenError → List ℕ) (serves : List ℕ → Option Addr) (peer : Addr) (request : Option Request)
    (old : Means) (client checked : K) (between : Moments) (e f : want.Memory) (made : MadeReply)
    → rules ≡ old.pass.start.rules → IsRead old.clock between
    → Asks rules may_answer shown serves peer request between.last client (Err e) checked
    → made ≡ Err f
    → IsReplied may_answer shown serves peer request (record { means = old; client = client })
    (record { means = record old { clock = between }; client = checked }) made
unrouted rules may_answer shown serves peer request old client checked between e f made same read asks is =
    record {
      between = between;
      read = read;
      routing = Err f;
      asks = still_unrouted old.pass.start.rules may_answer shown serves peer request between.last client checked
          e f
          (subst (λ v. Asks v may_answer shown serves peer request between.last client (Err e) checked) same asks);
      done = (is, refl);
    }

-- a drain is asked by version 2 alone
pub drains_by_two : {K : Type 0} (rules : Rules) (may_answer : K → ℕ → List ℕ → Result ⊤ TokenError → K → Type 0)
    (shown : K → TokenError → List ℕ) (serves : List ℕ → Option Addr) (peer : Addr) (request : Option Request)
    (now : ℕ) (old new : K) (routed : SchedRouted) (server : Addr) (drain : DrainServerHttpRequest)
    → Asks rules may_answer shown serves peer request now old (Ok routed) new → routed ≡ Drain server drain
    → rules ≡ Two
drains_by_two Two may_answer shown serves peer request now old new routed server drain asks is = refl
drains_by_two One may_answer shown serves peer None now old new routed server drain asks is =
    absurd (let known = sym asks.0 ∙ is in cc)
drains_by_two One may_answer shown serves peer (Some request) now old new routed server drain asks is =
    absurd (no_request_drains serves request peer asks.said server drain (sym asks.routes ∙ is))
