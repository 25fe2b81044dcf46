-- What a build server's calls answer, as it is replied: in JSON where that is wanted, else in binary.
use Rattle.std.specs.Prelude.{◌≡◌, ℕ, List, drop, Bool, Option, Some, None, Result, Ok, Err, ⊤, IfOk}
use Rattle.dist_types.specs.Outgoing.{Peer}
use Rattle.dist_types.specs.declared.dialer.Asked.{Asked}
use Rattle.dist_types.specs.declared.fault.Memory as want
use Rattle.dist_types.specs.declared.ids.JobId.{JobId}
use Rattle.dist_types.specs.declared.results.AssignJobResult.{AssignJobResult}
use Rattle.dist_types.specs.declared.results.RunJobResult.{RunJobResult}
use Rattle.dist_types.specs.declared.results.SubmitToolchainResult.{SubmitToolchainResult}
use Rattle.dist_types.specs.declared.token_error.TokenError.{TokenError}
use Rattle.dist_wire.specs.declared.run.RunJobHttpRequest.{RunJobHttpRequest}
use Rattle.build_server.specs.Books.{Books}
use Rattle.build_server.specs.Builds.{Order, Builder}
use Rattle.build_server.specs.Rows.{Reports, IsSubmitOn, IsRunOn}
use Rattle.build_server.specs.Rules.{Assigns, TellsAssign, Turns}
use Rattle.build_server.specs.declared.fault.ServerFault.{ServerFault}
use Rattle.build_server.specs.declared.fault.ServerFault.TheVariants.{AlreadyAssigned, UpdateFailed}
use Rattle.build_server.specs.declared.fault.ServerFault.TheVariants.{BuildFailed, Memory}
use Rattle.http_head.specs.declared.request.Request.{Request}
use Rattle.http_routes.specs.Fault.{fault_response_of}
use Rattle.http_routes.specs.Replies.{assign_response, submit_response, run_response}
use Rattle.http_routes.specs.declared.fault.RouteFault.{RouteFault}
use Rattle.http_routes.specs.declared.fault.RouteFault.TheVariants as fault
use Rattle.http_routes.specs.declared.reply.Response.{Response}
use Rattle.http_routes.specs.declared.server_route.ServerRouted.{ServerRouted}
use Rattle.http_routes.specs.declared.server_route.ServerRouted.TheVariants.{Assign, Submit, Run, Done}
use Rattle.http_connections.specs.Form.{form_of}
use Rattle.http_connections.specs.Served.{MadeReply}
use Rattle.server_service.specs.Routed.{routed_of, body_of}
use Rattle.server_service.specs.Told.{IsToldOf, lent_of}

-- ---- replies

-- why a call gives no answer, as it is told; want of memory is not told
abbrev pub fault_of : ServerFault → Option RouteFault
fault_of (AlreadyAssigned job) = Some (fault.AlreadyAssigned job)
fault_of (UpdateFailed call) = Some (fault.UpdateFailed call)
fault_of (BuildFailed why) = Some (fault.BuildFailed why)
fault_of Memory = None

-- the reply tells that fault
abbrev pub IsTold : Option RouteFault → Response → Type 0
IsTold None reply = ⊥
IsTold (Some f) reply = reply ≡ fault_response_of f

-- the reply to an answer: its message, or its fault
abbrev pub Replies : {X : Type 0} → (X → Response) → Result X ServerFault → Response → Type 0
Replies message (Ok x) reply = reply ≡ message x
Replies message (Err e) reply = IsTold (fault_of e) reply

-- ---- what a connection's caller lends

-- what a dialer tells: its record and its count of faults
pub record Dialing : Type 0 where
  pub asked : Option (List Asked)
  pub faults : ℕ

-- the keeper's books, where they are told, and what the dialer and the builder tell
pub record Means : Type 0 where
  pub kept : Option Books
  pub dialing : Dialing
  pub builder : Builder

-- a requester over the dialer, as a call sees it
abbrev pub telling : ℕ → Peer → Dialing → Reports
telling name peer d = record { rows = None; faults = d.faults; lent = lent_of name peer d.asked }

-- ---- the three calls, each with the answer that its reply tells, where there is memory for one

-- the job is assigned by the keeper
pub record IsAssignedAndTold (json : Bool) (job : JobId) (tc : List ℕ) (kept turned : Option Books)
    (made : MadeReply) : Type 0 where
  pub answer : Result AssignJobResult ServerFault
  pub turns : Turns (λ old new. Assigns job tc old new answer) kept turned
  pub tells : TellsAssign job answer
  pub told : IfOk made (Replies (assign_response json) answer)

-- the body is submitted as the job's archive, from a reader that never fails
pub record IsSubmitted (peer : Peer) (job : JobId) (body : List ℕ) (kept turned : Option Books)
    (old new : Dialing) (answer : Result SubmitToolchainResult ServerFault) : Type 0 where
  pub name : ℕ
  pub left : Option (List ℕ)
  pub submitted : IsSubmitOn IsToldOf job kept turned (telling name peer old) (telling name peer new)
      (record { left = Some body; faults = 0 }) (record { left = left; faults = 0 }) answer

pub record IsSubmittedAndTold (peer : Peer) (json : Bool) (job : JobId) (body : List ℕ)
    (kept turned : Option Books) (old new : Dialing) (made : MadeReply) : Type 0 where
  pub answer : Result SubmitToolchainResult ServerFault
  pub submitted : IsSubmitted peer job body kept turned old new answer
  pub told : IfOk made (Replies (submit_response json) answer)

-- what a run asks for, whose inputs begin at that place of the body
abbrev pub order_of : RunJobHttpRequest → List ℕ → ℕ → Order
order_of run body at = record { command = run.command; outputs = run.outputs; inputs = drop at body }

-- the job is run
pub record IsRun (peer : Peer) (job : JobId) (order : Order) (old new : Means)
    (answer : Result RunJobResult ServerFault) : Type 0 where
  pub name : ℕ
  pub ran : IsRunOn IsToldOf job order old.kept new.kept (telling name peer old.dialing)
      (telling name peer new.dialing)
      old.builder new.builder answer

pub record IsRunAndTold (peer : Peer) (json : Bool) (job : JobId) (order : Order) (old new : Means)
    (made : MadeReply) : Type 0 where
  pub answer : Result RunJobResult ServerFault
  pub ran : IsRun peer job order old new answer
  pub told : IfOk made (Replies (run_response json) answer)

-- What is asked of a server is done, and the reply, where it is made, tells its answer; what its route
-- answered is the reply, and changes nothing.
abbrev pub IsDone : Peer → Bool → List ℕ → ServerRouted → Means → Means → MadeReply → Type 0
IsDone peer json body (Assign job tc) old new made =
    IsAssignedAndTold json job tc old.kept new.kept made × (new.dialing ≡ old.dialing)
    × (new.builder ≡ old.builder)
IsDone peer json body (Submit job) old new made =
    IsSubmittedAndTold peer json job body old.kept new.kept old.dialing new.dialing made
    × (new.builder ≡ old.builder)
IsDone peer json body (Run job run at) old new made = IsRunAndTold peer json job
    (order_of run body at) old new made
IsDone peer json body (Done response) old new made = (made ≡ Ok response) × (new ≡ old)

-- what is asked, or that memory ran out before that was known
abbrev pub Routing : Type 0
Routing = Result ServerRouted want.Memory

-- What is asked is done; where memory ran out before it was known, there is no reply, and nothing changes.
abbrev pub Does : Peer → Bool → List ℕ → Routing → Means → Means → MadeReply → Type 0
Does peer json body (Ok routed) old new made = IsDone peer json body routed old new made
Does peer json body (Err e) old new made = (made ≡ Err e) × (new ≡ old)

-- The reply to what was taken, or that memory ran out before it was made: what it asks by its route is done,
-- under the tokens that the verdict accepts.
pub record IsReplied (verdict : ℕ → List ℕ → Result ⊤ TokenError) (peer : Peer) (request : Option Request)
    (old new : Means) (made : MadeReply) : Type 0 where
  pub routing : Routing
  pub routes : IfOk routing (λ routed. routed ≡ routed_of verdict request)
  pub done : Does peer (form_of request) (body_of request) routing old new made
