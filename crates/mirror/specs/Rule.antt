-- What a get answers over a far cache behind the route, where both folders tell their files and never fail.
use Rattle.std.specs.Prelude.{◌≡◌, ◌≢◌, ℕ, true, List, [], Option, Some, Result, Err}
use Rattle.std.specs.List.{list_all}
use Rattle.dist_types.specs.Cause.{Rose}
use Rattle.dist_types.specs.declared.dialer.Asked.{Asked}
use Rattle.dist_types.specs.declared.dialer.AskFault.{AskFault}
use Rattle.folders.specs.Files.{Files}
use Rattle.folders.specs.Held.{Held}
use Rattle.http_head.specs.WrittenRequest.{is_visible, request_text, IsWithinLimits}
use Rattle.build_server.specs.Books.{is_listed}
use Rattle.mirror.specs.Asking.{Ask, IsAskedFor}
use Rattle.mirror.specs.Caches.{Cache, told_of}
use Rattle.mirror.specs.Far.{Far, AsksFarOrNot}
use Rattle.mirror.specs.Getting.{Answer, Parts}
use Rattle.mirror.specs.OneCache.{Deed, Capacities, after, no_sides, one_after, HasRoom, AsOne}
use Rattle.mirror.specs.Question.{host_at, mirror_question}
use Rattle.mirror.specs.Sides.{Sides, Gives, GoThrough, after_get}
use Rattle.mirror.specs.declared.error.MirrorError.TheVariants as mirror

-- the folder of a cache tells its files, and did not fail from then to now
pub record IsReliable (old new : Cache) : Type 0 where
  pub files : Files
  pub told : old.folder.files ≡ Some files
  pub never : ¬ (Rose old.folder.faults new.folder.faults)

-- a request to that host can be read: it has no control byte and no space, and the head is within the limits
pub record CanAsk (host : List ℕ) (port : ℕ) (id : List ℕ) : Type 0 where
  pub visible : list_all is_visible (host_at host port) ≡ true
  pub limits : IsWithinLimits (mirror_question host port id)

-- the two sides that a mirror has
abbrev pub sides_of : Cache → Far → Sides
sides_of near far = record { near = near.archives; far = far.cache.archives; waiting = far.waiting }

-- an archive was asked for, within what holds of both sides; memory did not run out
pub record IsSound (host : List ℕ) (port : ℕ) (id : List ℕ) (answer : Answer) (near later : Cache)
    (far behind : Far) : Type 0 where
  pub near_tells : IsReliable near later
  pub far_tells : IsReliable far.cache behind.cache
  pub short : GoThrough (sides_of near far)
  pub can : CanAsk host port id
  pub some : answer ≢ Err mirror.Memory

-- the answer is the rule's, and so are the sides that it leaves
pub record FollowsRule (id : List ℕ) (answer : Answer) (near later : Cache) (far behind : Far) : Type 0 where
  pub gives : Gives near.capacity id (sides_of near far) answer
  pub sides : sides_of later behind ≡ after_get near.capacity id (sides_of near far)

-- where it was so, the rule was followed
abbrev pub Rules : List ℕ → ℕ → List ℕ → Answer → Cache → Cache → Far → Far → Type 0
Rules host port id answer near later far behind =
    IsSound host port id answer near later far behind → FollowsRule id answer near later far behind

-- where the sides are those that some deeds leave, with room for all, the answer is that of one cache that
-- took all that was put
abbrev pub AnswersAsOne : List ℕ → ℕ → List ℕ → Answer → Cache → Cache → Far → Far → Type 0
AnswersAsOne host port id answer near later far behind =
    (c : Capacities) (deeds : List Deed) → sides_of near far ≡ after c no_sides deeds → HasRoom c deeds
    → IsSound host port id answer near later far behind
    → AsOne id (is_listed id (one_after c [] deeds)) answer

-- ---- over any far side

-- All that can have been heard of a far side is what the route answers over this far cache, which then became that;
-- and where it was not asked, they are the same.
pub record AnswersByRoute {F D : Type 0} (asked : D → Option (List Asked)) (faults : D → ℕ) (asks : Ask D)
    (id : List ℕ) (old new : Parts F D) (far behind : Far) : Type 0 where
  pub heard : (heard : Result (List ℕ) AskFault)
      → IsAskedFor asked faults asks old.host old.port id old.dialer new.dialer heard
      → AsksFarOrNot (request_text (mirror_question old.host old.port id)) far behind heard
  pub unasked : new.dialer ≡ old.dialer → behind ≡ far

-- where it is so, the rule is followed
abbrev pub RulesBy : {F D : Type 0} → (F → Held) → (D → Option (List Asked)) → (D → ℕ) → Ask D → List ℕ
    → Answer → Parts F D → Parts F D → Type 0
RulesBy held asked faults asks id answer old new =
    (far behind : Far) → AnswersByRoute asked faults asks id old new far behind
    → Rules old.host old.port id answer (told_of held old.near) (told_of held new.near) far behind

-- and where there is room for all, the answer is that of one cache
abbrev pub AsOneBy : {F D : Type 0} → (F → Held) → (D → Option (List Asked)) → (D → ℕ) → Ask D → List ℕ
    → Answer → Parts F D → Parts F D → Type 0
AsOneBy held asked faults asks id answer old new =
    (far behind : Far) → AnswersByRoute asked faults asks id old new far behind
    → AnswersAsOne old.host old.port id answer (told_of held old.near) (told_of held new.near) far behind
