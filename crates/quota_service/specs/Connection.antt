-- What serving one connection of a scheduler with quotas does.
use Rattle.std.specs.Prelude.{◌≡◌, ◌⊎◌, ℕ, List, Option, true, is_err}
use Rattle.dist_types.specs.declared.addr.Addr.{Addr}
use Rattle.http_head.specs.declared.request.Request.{Request}
use Rattle.sched.specs.Outside.{Moments, IsRead}
use Rattle.http_connections.specs.Form.{form_of}
use Rattle.http_connections.specs.Served.{MadeReply}
use Rattle.quota_service.specs.Question.{what_of, asker_of}
use Rattle.quota_service.specs.Replied.{Means, IsDone}

-- What was taken asks one thing of the scheduler, which is done; or memory ran out before that was known, and
-- nothing changes.
abbrev pub IsAnswered : (List ℕ → Option Addr) → Addr → Option Request → ℕ → Means → Means → MadeReply → Type 0
IsAnswered serves peer request now old new made =
    ((is_err made ≡ true) × (new ≡ old))
    ⊎ IsDone (what_of old.quota.clients serves peer request) (form_of request) (asker_of request) now old new made

-- The reply to what was taken, or that memory ran out before it was made: the clock is read once, and what is
-- asked is done at that moment.
pub record IsReplied (serves : List ℕ → Option Addr) (peer : Addr) (request : Option Request) (old new : Means)
    (made : MadeReply) : Type 0 where
  pub between : Moments
  pub read : IsRead old.clock between
  pub answered : IsAnswered serves peer request between.last (record old { clock = between }) new made
