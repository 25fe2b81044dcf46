-- What a connection shows, and what serving it does to it.
use Rattle.std.specs.Prelude.{◌≡◌, ◌⊎◌, ℕ, List, Option, Some, IfSome, Result, Ok}
use Rattle.dist_types.specs.Cause.{Rose}
use Rattle.dist_types.specs.Content.{Added, Began, TookFront}
use Rattle.dist_types.specs.declared.fault.Memory as want
use Rattle.http_head.specs.declared.request.Request.{Request}
use Rattle.http_routes.specs.Reply.{reply_text}
use Rattle.http_routes.specs.declared.reply.Response.{Response}
use Rattle.http_connections.specs.Taking.{TakesCut, TakesWithin}
use Rattle.http_connections.specs.declared.served.Served.{Served}
use Rattle.http_connections.specs.declared.served.Served.TheVariants.{Answered, ReadFault, WriteFault, Memory}

-- what is left to be read, what was written, and how often each half failed
pub record Shown : Type 0 where
  pub left : Option (List ℕ)
  pub held : Option (List ℕ)
  pub reads : ℕ
  pub writes : ℕ

-- where the connection tells its bytes, exactly their cut was taken, and it is that request, or none
abbrev pub Took : Shown → Shown → Option Request → Type 0
Took old new request = IfSome old.left (λ bytes. TakesCut bytes new.left request)

-- a front of what was left was taken, and where the connection tells its bytes, none behind their cut
abbrev pub TookPart : Shown → Shown → Type 0
TookPart old new = TookFront old.left new.left × IfSome old.left (λ bytes. TakesWithin bytes new.left)

-- the reply to what was taken, or that memory ran out before it was made
abbrev pub MadeReply : Type 0
MadeReply = Result Response want.Memory

-- Where memory ran out: a front of the cut was taken, and nothing asked; or one request was taken, and
-- by a relation of what the caller lends before and after it was answered, but its reply was not made, or its
-- bytes were not.
abbrev pub BreaksOff : {A : Type 0} → (Option Request → A → A → MadeReply → Type 0) → Shown → Shown → A → A
    → Type 0
BreaksOff replies old new before after =
    (TookPart old new × (after ≡ before))
    ⊎ ((request : Option Request) × (made : MadeReply) × Took old new request
    × replies request before after made)

-- One request was taken and replied to, by a relation of what the caller lends before and after, and the
-- whole reply written, or a front of it where writing failed; where reading failed, a front of the cut was
-- taken, nothing was asked and nothing written; where memory ran out, nothing was written.
abbrev pub Serves : {A : Type 0} → (Option Request → A → A → MadeReply → Type 0) → Shown → Shown → A → A
    → Served → Type 0
Serves replies old new before after Answered =
    (request : Option Request) × (reply : Response) × Took old new request
    × replies request before after (Ok reply) × Added (reply_text reply) old.held new.held
Serves replies old new before after WriteFault =
    Rose old.writes new.writes × (request : Option Request) × (reply : Response) × Took old new request
    × replies request before after (Ok reply) × Began (reply_text reply) old.held new.held
Serves replies old new before after ReadFault = Rose old.reads new.reads × (new.held ≡ old.held)
    × (after ≡ before) × TookPart old new
Serves replies old new before after Memory = (new.held ≡ old.held) × BreaksOff replies old new before after

-- what serving a connection does, by its answer: a half's count of failures rises only where that half failed
pub record IsServedBy {A : Type 0} (replies : Option Request → A → A → MadeReply → Type 0) (old new : Shown)
    (before after : A) (served : Served) : Type 0 where
  pub serves : Serves replies old new before after served
  pub reads : ¬ (served ≡ ReadFault) → new.reads ≡ old.reads
  pub writes : ¬ (served ≡ WriteFault) → new.writes ≡ old.writes
