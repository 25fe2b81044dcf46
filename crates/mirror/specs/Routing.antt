-- What the route of a mirror answers.
use Rattle.std.specs.Prelude.{◌≡◌, ℕ, List, Option, Some, None, Result, Ok, Err}
use Rattle.dist_types.specs.declared.fault.Memory as want
use Rattle.http_head.specs.declared.request.Request.{Request}
use Rattle.http_routes.specs.declared.reply.Response.{Response}
use Rattle.http_routes.specs.declared.reply.Response.TheVariants.{Binary, NotFound}
use Rattle.dist_types.specs.declared.cache_error.Error.{Error}
use Rattle.dist_types.specs.declared.cache_error.Error.TheVariants.{Memory as NoMemory}
use Rattle.mirror.specs.Caches.{Cache, Looks}
use Rattle.mirror.specs.Question.{id_asked}

-- the reply by what was found: 200 with the archive, or 404 where it is not listed or was not read
abbrev pub reply_by : Result (List ℕ) Error → Result Response want.Memory
reply_by (Ok bytes) = Ok (Binary bytes)
reply_by (Err NoMemory) = Err (record {})
reply_by (Err e) = Ok NotFound

-- the archive was looked for, and the reply is by what was found
pub record Answers (id : List ℕ) (answer : Result Response want.Memory) (old new : Cache) : Type 0 where
  pub found : Result (List ℕ) Error
  pub looks : Looks id found old new
  pub gives : answer ≡ reply_by found

-- by the id that is asked for: where the request is another, the reply is 404, and the cache is as it was
abbrev pub AnswersFor : Option (List ℕ) → Result Response want.Memory → Cache → Cache → Type 0
AnswersFor (Some id) answer old new = Answers id answer old new
AnswersFor None answer old new = (answer ≡ Ok NotFound) × (new ≡ old)

-- a request was answered over a cache
abbrev pub Routes : Request → Result Response want.Memory → Cache → Cache → Type 0
Routes r answer old new = AnswersFor (id_asked r) answer old new
