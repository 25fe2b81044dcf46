-- What the reply to a call says.
use Rattle.std.specs.Prelude.{◌≡◌, ◌⊎◌, ◌==◌, ℕ, List, if◌then◌else◌, Option, Result, Ok, Err, MatchResult}
use Rattle.dist_types.specs.declared.outgoing.CallFault.{CallFault}
use Rattle.dist_types.specs.declared.outgoing.CallFault.TheVariants as call
use Rattle.dist_types.specs.declared.results.AssignJobResult.{AssignJobResult}
use Rattle.dist_wire.specs.Reading.{assign_at}
use Rattle.core_rules.specs.Rule.{is_initial}
use Rattle.http_head.specs.declared.error.HttpError.{HttpError}
use Rattle.http_head.specs.declared.error.HttpError.TheVariants.{ParseError, Status, Memory}
use Rattle.http_head.specs.declared.reply.Reply.{Reply}
use Rattle.http_head.specs.Head.{IsReply, IsNoReply}
use Rattle.http_routes.specs.Message.{begins_in}
use Rattle.http_routes.specs.Steps.{unless_none}

-- the message of a reply: its status is 200, and the message begins its body
unfoldable pub told_by : {M : Type 0} → (List ℕ → Option (M × List ℕ)) → Reply → Result M HttpError
told_by at r = if r.code == 200 then unless_none ParseError (begins_in at r.body)
    else Err (Status r.code r.body)

-- what the bytes say, as a reply or as none
abbrev pub IsToldBy : {M : Type 0} → (List ℕ → Option (M × List ℕ)) → List ℕ → Result M HttpError → Type 0
IsToldBy at bytes told =
    ((r : Reply) × IsReply bytes r × (told ≡ told_by at r)) ⊎ (IsNoReply bytes × (told ≡ Err ParseError))

-- why the bytes of a reply give no message: they are no reply, or hold none, or tell another status; want of
-- memory says nothing of them
abbrev pub RefusesMessage : {M : Type 0} → (List ℕ → Option (M × List ℕ)) → List ℕ → HttpError → Type 0
RefusesMessage {M} at bytes ParseError = IsToldBy {M = M} at bytes (Err ParseError)
RefusesMessage {M} at bytes (Status code body) = IsToldBy {M = M} at bytes (Err (Status code body))
RefusesMessage at bytes Memory = Unit {0}
RefusesMessage at bytes other = ⊥

-- the answer is what the bytes say, unless memory ran out
abbrev pub Reads : {M : Type 0} → (List ℕ → Option (M × List ℕ)) → List ℕ → Result M HttpError → Type 0
Reads {M} at bytes answer = MatchResult answer (λ m. IsToldBy {M = M} at bytes (Ok m))
    (RefusesMessage {M = M} at bytes)

-- the same of a reply that was read, by what it tells
abbrev pub RefusesTold : {M : Type 0} → Result M HttpError → HttpError → Type 0
RefusesTold told ParseError = told ≡ Err ParseError
RefusesTold told (Status code body) = told ≡ Err (Status code body)
RefusesTold told Memory = Unit {0}
RefusesTold told other = ⊥

-- why a reply is no answer to a call
abbrev pub call_fault : HttpError → CallFault
call_fault (Status code body) = call.Status code
call_fault other = call.Unreadable

-- the answer to a call, by what its reply says
abbrev pub answer_by : {M : Type 0} → Result M HttpError → Result M CallFault
answer_by (Ok m) = Ok m
answer_by (Err e) = Err (call_fault e)

-- what the bytes of the reply to a call say
abbrev pub IsAnswer : {M : Type 0} → (List ℕ → Option (M × List ℕ)) → List ℕ → Result M CallFault → Type 0
IsAnswer {M} at bytes answer = (told : Result M HttpError) × IsToldBy at bytes told
    × (answer ≡ answer_by told)

-- the answer to an assignment, if its state is one that an assignment may tell
abbrev pub begun : AssignJobResult → Result AssignJobResult CallFault
begun answer = if is_initial answer.state then Ok answer else Err (call.BadState answer.state)

-- the answer to an assignment, by what its reply says
abbrev pub assigned_by : Result AssignJobResult HttpError → Result AssignJobResult CallFault
assigned_by (Ok answer) = begun answer
assigned_by (Err e) = Err (call_fault e)

-- what the bytes of the reply to an assignment say
abbrev pub IsAssigned : List ℕ → Result AssignJobResult CallFault → Type 0
IsAssigned bytes answer = (told : Result AssignJobResult HttpError) × IsToldBy assign_at bytes told
    × (answer ≡ assigned_by told)
