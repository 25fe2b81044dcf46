-- What the far side is asked, and what its reply says.
use Rattle.std.specs.Prelude.{◌≡◌, ◌≢◌, ◌⊎◌, ◌≤◌, ◌==◌, ℕ, List, if◌then◌else◌, Option, Result, Err}
use Rattle.dist_types.specs.Cause.{Rose}
use Rattle.dist_types.specs.Content.{Recorded, KeptOrRecorded}
use Rattle.dist_types.specs.Dialer.{asked_row}
use Rattle.dist_types.specs.declared.dialer.Asked.{Asked}
use Rattle.dist_types.specs.declared.dialer.AskFault.{AskFault}
use Rattle.dist_types.specs.declared.dialer.AskFault.TheVariants.{Failed, Memory as OutOfMemory}
use Rattle.http_head.specs.Head.{IsReply, IsNoReply}
use Rattle.http_head.specs.WrittenRequest.{request_text}
use Rattle.http_head.specs.declared.reply.Reply.{Reply}
use Rattle.mirror.specs.Question.{mirror_question}
use Rattle.mirror.specs.declared.said.Said.{Said}
use Rattle.mirror.specs.declared.said.Said.TheVariants.{Archive, NotThere, Bad}

-- what a far side tells: its record, where it is told, and its count of faults
pub record Dialing : Type 0 where
  pub asked : Option (List Asked)
  pub faults : ℕ

abbrev pub dialing_of : {D : Type 0} → (D → Option (List Asked)) → (D → ℕ) → D → Dialing
dialing_of asked faults d = record { asked = asked d; faults = faults d }

-- A host was sent those bytes, once: one row more of that request, which is left out at most where memory ran
-- out. The far side failed only where its count rose; whatever else came left the count as it was.
pub record IsAsked (host : List ℕ) (port : ℕ) (request : List ℕ) (old new : Dialing)
    (heard : Result (List ℕ) AskFault) : Type 0 where
  pub row : heard ≢ Err OutOfMemory → Recorded (asked_row host port request heard) old.asked new.asked
  pub memory : heard ≡ Err OutOfMemory → KeptOrRecorded (asked_row host port request heard) old.asked new.asked
  pub cause : heard ≡ Err Failed → Rose old.faults new.faults
  pub steady : heard ≢ Err Failed → new.faults ≡ old.faults
  pub later : old.faults ≤ new.faults

-- what an ask of a host, at a port and by a request, may leave of a far side, and what may be heard
abbrev pub Ask : Type 0 → Type 1
Ask D = D → List ℕ → ℕ → List ℕ → D → Result (List ℕ) AskFault → Type 0

-- the same, or memory did not suffice to write the request
abbrev pub OrNot : {D : Type 0} → Ask D → Ask D
OrNot asks old host port request new heard =
    asks old host port request new heard ⊎ ((heard ≡ Err OutOfMemory) × (new ≡ old))

-- the host was asked for the archive of that id, once: what its far side tells, and what else is known of it
pub record IsAskedFor {D : Type 0} (asked : D → Option (List Asked)) (faults : D → ℕ) (asks : Ask D)
    (host : List ℕ) (port : ℕ) (id : List ℕ) (old new : D) (heard : Result (List ℕ) AskFault) : Type 0 where
  pub tells : IsAsked host port (request_text (mirror_question host port id)) (dialing_of asked faults old)
      (dialing_of asked faults new) heard
  pub knows : OrNot asks old host port (request_text (mirror_question host port id)) new heard

-- what a reply says: 200 gives its body as an archive, 404 that there is none
abbrev pub said_of : Reply → Said
said_of r = if r.code == 200 then Archive r.body else if r.code == 404 then NotThere else Bad r.code

-- what the bytes of a reply say: 0 stands for the status of bytes that are none, whose head is unreadable or
-- whose body is another than its Content-Length tells
abbrev pub Tells : List ℕ → Said → Type 0
Tells bytes said = ((r : Reply) × IsReply bytes r × (said ≡ said_of r)) ⊎ (IsNoReply bytes × (said ≡ Bad 0))
