-- A reply as it stands in the bytes that it came in.
use Rattle.std.specs.Prelude.{ℕ, List}
use Rattle.http_head.specs.declared.lent_reply.Lent.{Lent}
use Rattle.http_head.specs.declared.lent_reply.Lent.TheVariants.{Found, Nothing, Crowded}
use Rattle.http_head.specs.declared.lent_reply.LentReply.{LentReply}
use Rattle.http_head.specs.declared.reply.Reply.{Reply}
use Rattle.http_head.specs.Fields.{Field}
use Rattle.http_head.specs.Head.{IsReply, IsNoReply, ReplyOverflows}

-- the reply with these fields
abbrev pub with_fields : LentReply → List Field → Reply
with_fields r fields = record { code = r.code; headers = fields; body = r.body.now }

-- the bytes are that reply, with some fields
abbrev pub Lends : List ℕ → LentReply → Type 0
Lends bytes r = (fields : List Field) × IsReply bytes (with_fields r fields)

-- the bytes are that reply, or none, or its fields have no room
abbrev pub FindsLent : ℕ → List ℕ → Lent → Type 0
FindsLent room bytes (Found r) = Lends bytes r
FindsLent room bytes Nothing = IsNoReply bytes
FindsLent room bytes Crowded = ReplyOverflows room bytes
