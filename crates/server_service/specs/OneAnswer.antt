-- Two connections of build servers that meet the same, and what becomes of both.
use Rattle.std.specs.Prelude.{◌≡◌, ◌≢◌, ◌⊎◌, ◌<◌, ℕ, List, Option, Some, Result, Ok, ⊤}
use Rattle.dist_types.specs.Builder.{Built}
use Rattle.dist_types.specs.Cause.{Rose}
use Rattle.dist_types.specs.Content.{Added}
use Rattle.dist_types.specs.Outgoing.{Peer}
use Rattle.dist_types.specs.declared.token_error.TokenError.{TokenError}
use Rattle.folders.specs.Files.{Files}
use Rattle.build_server.specs.Books.{Books}
use Rattle.http_head.specs.declared.request.Request.{Request}
use Rattle.http_routes.specs.Reply.{reply_text}
use Rattle.http_routes.specs.declared.reply.Response.{Response}
use Rattle.http_connections.specs.Alike.{AnsweredAlike, HearAlike, GrowAlike}
use Rattle.http_routes.specs.declared.server_route.ServerRouted.TheVariants.{Done}
use Rattle.http_connections.specs.Served.{Shown, Took, MadeReply, IsServedBy}
use Rattle.http_connections.specs.declared.served.Served.{Served}
use Rattle.http_connections.specs.declared.served.Served.TheVariants.{Answered, Memory}
use Rattle.server_service.specs.Replied.{Means, IsReplied}
use Rattle.server_service.specs.Routed.{routed_of}

-- Both keepers tell their books, which were the same before; their folder tells its files, its count of faults
-- is not at its end, and it failed as often in both.
pub record KeptAlike (old new before after : Option Books) : Type 0 where
  pub books : Books
  pub turned : Books
  pub other : Books
  pub old_is : old ≡ Some books
  pub new_is : new ≡ Some turned
  pub before_is : before ≡ Some books
  pub after_is : after ≡ Some other
  pub files : Files
  pub told : books.folder.files ≡ Some files
  pub counts : books.folder.faults < 18446744073709551615
  pub failed : turned.folder.faults ≡ other.folder.faults

-- Two connections meet the same: the same books, whose folder fails as often, and the same is answered to what
-- is asked of the dialer and of the builder.
pub record MeetAlike (old new before after : Means) : Type 0 where
  pub kept : KeptAlike old.kept new.kept before.kept after.kept
  pub heard : HearAlike old.dialing.asked new.dialing.asked before.dialing.asked after.dialing.asked
  pub built : AnsweredAlike (λ (b : Built). b.answer) old.builder.rows new.builder.rows before.builder.rows
      after.builder.rows

-- The same jobs are held, at the same place and within the same capacity; and where the folder failed in
-- neither, the same archives are listed.
pub record KeepAlike (old new after : Option Books) : Type 0 where
  pub books : Books
  pub turned : Books
  pub other : Books
  pub old_is : old ≡ Some books
  pub new_is : new ≡ Some turned
  pub after_is : after ≡ Some other
  pub held : turned.held ≡ other.held
  pub capacity : turned.capacity ≡ other.capacity
  pub path : turned.path ≡ other.path
  pub archives : turned.folder.faults ≡ books.folder.faults → turned.archives ≡ other.archives

-- The same becomes of what was lent: what is kept, and the same rows more of the dialer and of the builder.
pub record DoAlike (old new before after : Means) : Type 0 where
  pub kept : KeepAlike old.kept new.kept after.kept
  pub asked : GrowAlike old.dialing.asked new.dialing.asked before.dialing.asked after.dialing.asked
  pub built : GrowAlike old.builder.rows new.builder.rows before.builder.rows after.builder.rows

-- The same becomes of both: what is left of the bytes, one request, one reply, and what was lent.
pub record EndAlike (replies : Option Request → Means → Means → MadeReply → Type 0)
    (begun done begun_too done_too : Shown) (old new before after : Means) : Type 0 where
  pub left : done.left ≡ done_too.left
  pub request : Option Request
  pub reply : Response
  pub took : Took begun done request
  pub took_too : Took begun_too done_too request
  pub replied : replies request old new (Ok reply)
  pub replied_too : replies request before after (Ok reply)
  pub written : Added (reply_text reply) begun.held done.held
  pub written_too : Added (reply_text reply) begun_too.held done_too.held
  pub did : DoAlike old new before after

-- the link was given up: one of its counts rose
abbrev pub IsGivenUp : Shown → Shown → Type 0
IsGivenUp begun done = Rose begun.reads done.reads ⊎ Rose begun.writes done.writes

-- Both wrote that reply, and nothing changed in either.
pub record AreDone (reply : Response) (begun done begun_too done_too : Shown) (old new before after : Means)
    : Type 0 where
  pub written : Added (reply_text reply) begun.held done.held
  pub written_too : Added (reply_text reply) begun_too.held done_too.held
  pub stays : new ≡ old
  pub stays_too : after ≡ before

-- The same is left of both, and one request was taken. Where its route answers it, as it does what is refused,
-- that is the reply of both, and nothing changes, whatever is kept and told.
pub record RouteAlike (verdict : ℕ → List ℕ → Result ⊤ TokenError) (begun done begun_too done_too : Shown)
    (old new before after : Means) : Type 0 where
  pub left : done.left ≡ done_too.left
  pub request : Option Request
  pub took : Took begun done request
  pub took_too : Took begun_too done_too request
  pub settled : (reply : Response) → routed_of verdict request ≡ Done reply
      → AreDone reply begun done begun_too done_too old new before after

-- A connection that was served so has one answer. Whichever other is served over a link of the same bytes, however
-- these come: where both are answered, one request was taken, and what its route answers is replied; where they meet
-- the same, the same becomes of both; and where one is not answered, memory ran out, or one link was given up.
pub record HasOneAnswer (verdict : ℕ → List ℕ → Result ⊤ TokenError) (peer : Peer) (begun done : Shown)
    (old new : Means) (served : Served) : Type 0 where
  pub routed : (bytes : List ℕ) (begun_too done_too : Shown) (before after : Means) → served ≡ Answered
      → begun.left ≡ Some bytes → begun_too.left ≡ Some bytes
      → IsServedBy (IsReplied verdict peer) begun_too done_too before after Answered
      → RouteAlike verdict begun done begun_too done_too old new before after
  pub alike : (bytes : List ℕ) (begun_too done_too : Shown) (before after : Means) → served ≡ Answered
      → begun.left ≡ Some bytes → begun_too.left ≡ Some bytes
      → IsServedBy (IsReplied verdict peer) begun_too done_too before after Answered
      → MeetAlike old new before after
      → EndAlike (IsReplied verdict peer) begun done begun_too done_too old new before after
  pub limits : (bytes : List ℕ) (begun_too done_too : Shown) (before after : Means) (served_too : Served)
      → begun.left ≡ Some bytes → begun_too.left ≡ Some bytes
      → IsServedBy (IsReplied verdict peer) begun_too done_too before after served_too
      → served ≢ Memory → served_too ≢ Memory → MeetAlike old new before after
      → IsGivenUp begun done ⊎ (IsGivenUp begun_too done_too
      ⊎ EndAlike (IsReplied verdict peer) begun done begun_too done_too old new before after)
