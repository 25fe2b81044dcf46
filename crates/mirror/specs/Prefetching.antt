-- What a prefetch leaves of a build server.
use Rattle.std.specs.Prelude.{◌≡◌, ◌≢◌, Bool, true, false, List, ℕ, None, Result, Ok, Err, IfOk}
use Rattle.dist_types.specs.declared.ids.JobId.{JobId}
use Rattle.dist_types.specs.declared.results.AssignJobResult.{AssignJobResult}
use Rattle.dist_types.specs.declared.cache_error.Error.{Error}
use Rattle.dist_types.specs.declared.cache_error.Error.TheVariants.{FileTooLarge, WrongDigest, Io}
use Rattle.dist_types.specs.declared.cache_error.Error.TheVariants.{Memory as NoMemory}
use Rattle.build_server.specs.Books.{Books, held_for, is_listed}
use Rattle.build_server.specs.Rules.{Adopts, Assigns, need_by}
use Rattle.build_server.specs.declared.fault.ServerFault.{ServerFault}
use Rattle.build_server.specs.declared.fault.ServerFault.TheVariants as fault
use Rattle.mirror.specs.Getting.{Answer}
use Rattle.mirror.specs.declared.error.MirrorError.{MirrorError}
use Rattle.mirror.specs.declared.error.MirrorError.TheVariants as mirror
use Rattle.mirror.specs.declared.got.Got.TheVariants.{Near, Fetched}

-- the answer by whether the server's cache took the archive: it refuses what is too large, what has another
-- SHA-256, and where its folder fails
abbrev pub TakenBy : Result (Unit {0}) Error → Result Bool MirrorError → Type 0
TakenBy (Ok x) answer = answer ≡ Ok true
TakenBy (Err FileTooLarge) answer = answer ≡ Ok false
TakenBy (Err WrongDigest) answer = answer ≡ Ok false
TakenBy (Err (Io fault)) answer = answer ≡ Ok false
TakenBy (Err NoMemory) answer = answer ≡ Err mirror.Memory
TakenBy (Err other) answer = ⊥

-- bytes were brought to a server's cache
pub record Brings (id bytes : List ℕ) (answer : Result Bool MirrorError) (old new : Books) : Type 0 where
  pub adopted : Result (Unit {0}) Error
  pub adopts : Adopts id bytes old new adopted
  pub gives : TakenBy adopted answer

-- by what was got: bytes are brought to the server; where none were got, the server is as it was
abbrev pub AfterGot : List ℕ → Answer → Result Bool MirrorError → Books → Books → Type 0
AfterGot id (Ok (Near v)) answer old new = Brings id v.items answer old new
AfterGot id (Ok (Fetched v listed)) answer old new = Brings id v.items answer old new
AfterGot id (Err e) answer old new = (answer ≡ Err e) × (new ≡ old)

-- An assignment behind a prefetch: where the job is not held, and the id was not listed at the server before,
-- it answers Ready exactly where the prefetch said true, unless memory runs out.
abbrev pub ReadyWhereTrue : List ℕ → Result Bool MirrorError → Books → Books → Type 0
ReadyWhereTrue id answer before between =
    (job : JobId) (after : Books) (assigned : Result AssignJobResult ServerFault)
    → held_for job before.held ≡ None → is_listed id before.archives ≡ false
    → Assigns job id between after assigned
    → IfOk answer (λ said. assigned ≢ Err fault.Memory → assigned ≡ Ok (need_by said))
