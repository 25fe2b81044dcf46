-- Two connections that meet the same, and what becomes of both.
use Rattle.std.specs.Prelude.{◌≡◌, ◌≢◌, ◌⊎◌, ℕ, List, drop, length, map, Option, Some, Result, Ok, Err, ⊤}
use Rattle.std.specs.Prelude.{slice_get}
use Rattle.dist_types.specs.Cause.{Rose}
use Rattle.dist_types.specs.Content.{Added}
use Rattle.dist_types.specs.declared.addr.Addr.{Addr}
use Rattle.dist_types.specs.declared.dialer.Asked.{Asked}
use Rattle.dist_types.specs.declared.token_error.TokenError.{TokenError}
use Rattle.dist_types.specs.declared.token_error.TokenError.TheVariants.{Memory as NoRoom}
use Rattle.dist_token.specs.ProxyViews.{seen}
use Rattle.dist_token.specs.declared.proxy.ProxyTokenCheck.{ProxyTokenCheck}
use Rattle.core_rules.specs.Log.{Core}
use Rattle.core_rules.specs.declared.entry.CoreEntry.{CoreEntry}
use Rattle.sched.specs.Pass.{Told}
use Rattle.sched.specs.Turn.{core_before}
use Rattle.http_head.specs.declared.request.Request.{Request}
use Rattle.http_routes.specs.Reply.{reply_text}
use Rattle.http_routes.specs.declared.reply.Response.{Response}
use Rattle.http_connections.specs.Alike.{HearAlike, GrowAlike}
use Rattle.http_connections.specs.Served.{Shown, Took, IsServedBy}
use Rattle.http_connections.specs.declared.served.Served.{Served}
use Rattle.http_connections.specs.declared.served.Served.TheVariants.{Answered, Memory}
use Rattle.scheduler_service.specs.Connection.{Around, IsReplied}
use Rattle.scheduler_service.specs.declared.checks.ClientCheck.{ClientCheck}
use Rattle.scheduler_service.specs.declared.checks.ClientCheck.TheVariants.{Forwarded}

-- the core before each new place of the pass: what each of its calls found that made an entry
abbrev pub found_by : Told → Told → List Core
found_by old new = map (λ place. core_before new place) (drop (length old.own) new.own)

-- the entries at these places
abbrev pub made_by : Told → Told → List (Option CoreEntry)
made_by old new = map (λ place. slice_get new.front place) (drop (length old.own) new.own)

-- What a check of clients can have answered, but for want of memory, that became these two, is one thing, and both
-- show the same.
abbrev pub SaysOne : {K : Type 0} → (K → ℕ → List ℕ → Result ⊤ TokenError → K → Type 0)
    → (K → TokenError → List ℕ) → K → K → K → Type 0
SaysOne may_answer shown old new after = (now : ℕ) (token : List ℕ) (a b : Result ⊤ TokenError)
    → may_answer old now token a new → may_answer old now token b after → a ≢ Err NoRoom → b ≢ Err NoRoom
    → (a ≡ b) × ((e : TokenError) → shown new e ≡ shown after e)

-- where a check that was chosen forwards, the same was answered to what it asked in both
abbrev pub HearsAlike : {D : Type 0} → (D → Option (List Asked)) → (D → ℕ) → ClientCheck D → ClientCheck D
    → ClientCheck D → Type 0
HearsAlike {D} asked faults old new after = (first last since : ProxyTokenCheck D) → old ≡ Forwarded first
    → new ≡ Forwarded last → after ≡ Forwarded since
    → HearAlike (seen asked faults first).asked (seen asked faults last).asked (seen asked faults first).asked
    (seen asked faults since).asked

-- a check of clients that by its answers can become these two becomes one
abbrev pub BecomesOne : {K : Type 0} → (K → ℕ → List ℕ → Result ⊤ TokenError → K → Type 0) → K → K → K → Type 0
BecomesOne may_answer old new after = (now : ℕ) (token : List ℕ) (a b : Result ⊤ TokenError)
    → may_answer old now token a new → may_answer old now token b after → new ≡ after

-- Two connections meet the same: the rules, their check of clients, which says one thing to both, and the moments
-- that their clock will give; each call that makes an entry finds the same log; and the same is answered to what
-- is asked.
pub record MeetAlike {K : Type 0} (may_answer : K → ℕ → List ℕ → Result ⊤ TokenError → K → Type 0)
    (shown : K → TokenError → List ℕ) (old new before after : Around K) : Type 0 where
  pub rules : before.means.pass.start.rules ≡ old.means.pass.start.rules
  pub client : before.client ≡ old.client
  pub says : SaysOne may_answer shown old.client new.client after.client
  pub coming : List ℕ
  pub told : old.means.clock.coming ≡ Some coming
  pub clock : before.means.clock ≡ old.means.clock
  pub found : found_by old.means.pass new.means.pass ≡ found_by before.means.pass after.means.pass
  pub heard : HearAlike old.means.asked new.means.asked before.means.asked after.means.asked

-- The same becomes of what was lent: the same entries, the same clock, the same rows more of the dialer, and the
-- same check, where it becomes one.
pub record DoAlike {K : Type 0} (may_answer : K → ℕ → List ℕ → Result ⊤ TokenError → K → Type 0)
    (old new before after : Around K) : Type 0 where
  pub entries : made_by old.means.pass new.means.pass ≡ made_by before.means.pass after.means.pass
  pub clock : new.means.clock ≡ after.means.clock
  pub asked : GrowAlike old.means.asked new.means.asked before.means.asked after.means.asked
  pub client : BecomesOne may_answer old.client new.client after.client → new.client ≡ after.client

-- The same becomes of both: what is left of the bytes, one request, one reply, and what was lent.
pub record EndAlike {K : Type 0} (may_answer : K → ℕ → List ℕ → Result ⊤ TokenError → K → Type 0)
    (shown : K → TokenError → List ℕ) (serves : List ℕ → Option Addr) (peer : Addr)
    (begun done begun_too done_too : Shown) (old new before after : Around K) : Type 0 where
  pub left : done.left ≡ done_too.left
  pub request : Option Request
  pub reply : Response
  pub took : Took begun done request
  pub took_too : Took begun_too done_too request
  pub replied : IsReplied may_answer shown serves peer request old new (Ok reply)
  pub replied_too : IsReplied may_answer shown serves peer request before after (Ok reply)
  pub written : Added (reply_text reply) begun.held done.held
  pub written_too : Added (reply_text reply) begun_too.held done_too.held
  pub did : DoAlike may_answer old new before after

-- the link was given up: one of its counts rose
abbrev pub IsGivenUp : Shown → Shown → Type 0
IsGivenUp begun done = Rose begun.reads done.reads ⊎ Rose begun.writes done.writes

-- A connection that was served so has one answer. Whichever other is served for that peer, over a link of the
-- same bytes, however these come, and meets the same: where both are answered, the same becomes of both; and else
-- memory ran out, or one of the two links was given up.
pub record HasOneAnswer {K : Type 0} (may_answer : K → ℕ → List ℕ → Result ⊤ TokenError → K → Type 0)
    (shown : K → TokenError → List ℕ) (serves : List ℕ → Option Addr) (peer : Addr) (begun done : Shown)
    (old new : Around K) (served : Served) : Type 0 where
  pub alike : (bytes : List ℕ) (begun_too done_too : Shown) (before after : Around K) → served ≡ Answered
      → begun.left ≡ Some bytes → begun_too.left ≡ Some bytes
      → IsServedBy (IsReplied may_answer shown serves peer) begun_too done_too before after Answered
      → MeetAlike may_answer shown old new before after
      → EndAlike may_answer shown serves peer begun done begun_too done_too old new before after
  pub limits : (bytes : List ℕ) (begun_too done_too : Shown) (before after : Around K) (served_too : Served)
      → begun.left ≡ Some bytes → begun_too.left ≡ Some bytes
      → IsServedBy (IsReplied may_answer shown serves peer) begun_too done_too before after served_too
      → served ≢ Memory → served_too ≢ Memory → MeetAlike may_answer shown old new before after
      → IsGivenUp begun done ⊎ (IsGivenUp begun_too done_too
      ⊎ EndAlike may_answer shown serves peer begun done begun_too done_too old new before after)
