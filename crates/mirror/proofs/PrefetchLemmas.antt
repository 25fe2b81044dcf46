-- What a prefetch leaves for the next assignment.
use Rattle.std.proofs.Common.{◌≡◌, ◌≢◌, ℕ, ◌-◌, inl, inr, Bool, true, false, cond, List, [], ◌∷◌, ◌++◌, length}
use Rattle.std.proofs.Common.{Option, Some, None, is_some, Result, Ok, Err, IfOk, refl, sym, ap, subst}
use Rattle.std.proofs.Common.{◌∙◌, true≢false, if◌then◌else◌}
use Rattle.std.specs.Map.{lookup}
use Rattle.std.specs.Str.{bytes_eq}
use Rattle.dist_types.specs.declared.ids.JobId.{JobId}
use Rattle.dist_types.specs.declared.results.AssignJobResult.{AssignJobResult}
use Rattle.folders.proofs.Lookups.{itself}
use Rattle.lru_metered.proofs.Lookups.{others-none}
use Rattle.listed_files.specs.Disk.{Left, without_key, staying}
use Rattle.listed_files.proofs.Trims.{absent_end}
use Rattle.dist_types.specs.declared.cache_error.Error.{Error}
use Rattle.dist_types.specs.declared.cache_error.Error.TheVariants as error
use Rattle.toolchain_cache.specs.Archives.{Archives}
use Rattle.build_server.specs.Books.{Books, held_for, is_listed}
use Rattle.build_server.specs.Rules.{Adopts, Assigns, need_by}
use Rattle.build_server.specs.declared.fault.ServerFault.{ServerFault}
use Rattle.build_server.specs.declared.fault.ServerFault.TheVariants as fault
use Rattle.mirror.specs.Prefetching.{TakenBy, Brings, ReadyWhereTrue}
use Rattle.mirror.specs.declared.error.MirrorError.{MirrorError}

-- an archive that is last is listed
last_listed : (id : List ℕ) (n : ℕ) (xs : Archives) → is_listed id (xs ++ (id, n) ∷ []) ≡ true
last_listed id n [] = ap (λ b. is_some (cond b (Some n) None)) (itself id)
last_listed id n (x ∷ xs) = by (bytes_eq id x.0) (last_listed id n xs)
  where
    by : (b : Bool) → is_listed id (xs ++ (id, n) ∷ []) ≡ true
        → is_some (cond b (Some x.1) (lookup (bytes_eq id) (xs ++ (id, n) ∷ []))) ≡ true
    by true rest = refl
    by false rest = rest

no_look_up : (o : Option ℕ) → is_some o ≡ false → o ≡ None
no_look_up None h = refl
no_look_up (Some n) h = absurd (true≢false h)

-- what a failed store leaves does not list what was not listed
left_unlisted : (id : List ℕ) (limit : ℕ) (a b : Archives) → is_listed id a ≡ false → Left id limit a b
    → is_listed id b ≡ false
left_unlisted id limit a b unlisted left = elim left [
  | inl same ↦ ap (is_listed id) same ∙ unlisted
  | inr some ↦
      let none : lookup (bytes_eq id) a ≡ None = no_look_up (lookup (bytes_eq id) a) unlisted in
      let out : lookup (bytes_eq id) (without_key id a) ≡ None =
      ap (lookup (bytes_eq id)) (others-none (bytes_eq id) a none) ∙ none in
      ap is_some (absent_end id (without_key id a) b some.0 out)
]

module _ (id : List ℕ) (before between : Books) where
  -- whether the id is listed is what an answer says
  abbrev Says : Result Bool MirrorError → Type 0
  Says answer = IfOk answer (λ said. is_listed id between.archives ≡ said)

  says_ok : (said : Bool) (answer : Result Bool MirrorError) → answer ≡ Ok said
      → is_listed id between.archives ≡ said → Says answer
  says_ok said answer is listed = subst Says (sym is) listed

  said_by : (bytes : List ℕ) (adopted : Result (Unit {0}) Error) (answer : Result Bool MirrorError)
      → is_listed id before.archives ≡ false → Adopts id bytes before between adopted → TakenBy adopted answer
      → Says answer
  said_by bytes (Ok x) answer unlisted adopts h =
      says_ok true answer h (ap (is_listed id) adopts.archives
      ∙ last_listed id (length bytes) (staying id (before.capacity - length bytes) before.archives))
  said_by bytes (Err error.FileTooLarge) answer unlisted adopts h =
      says_ok false answer h (ap (is_listed id) adopts.fails.0 ∙ unlisted)
  said_by bytes (Err error.WrongDigest) answer unlisted adopts h =
      says_ok false answer h (ap (is_listed id) adopts.fails.0 ∙ unlisted)
  said_by bytes (Err (error.Io f)) answer unlisted adopts h =
      says_ok false answer h (left_unlisted id (before.capacity - length bytes) before.archives between.archives
      unlisted adopts.fails.0)
  said_by bytes (Err error.Memory) answer unlisted adopts h = subst Says (sym h) tt
  said_by bytes (Err error.FileNotInCache) answer unlisted adopts h = absurd h
  said_by bytes (Err error.PendingSpace) answer unlisted adopts h = absurd h
  said_by bytes (Err error.BadKey) answer unlisted adopts h = absurd h
  said_by bytes (Err error.NotPending) answer unlisted adopts h = absurd h
  said_by bytes (Err error.WriterRefused) answer unlisted adopts h = absurd h

  -- then an assignment answers by that
  ready_by : (answer : Result Bool MirrorError) → between.held ≡ before.held → Says answer → (job : JobId)
      (after : Books) (assigned : Result AssignJobResult ServerFault) → held_for job before.held ≡ None
      → Assigns job id between after assigned
      → IfOk answer (λ said. assigned ≢ Err fault.Memory → assigned ≡ Ok (need_by said))
  ready_by (Ok said) held says job after assigned none assigns = λ some. assigns.answer some
      ∙ (ap (λ o. if is_some o then Err (fault.AlreadyAssigned job) else Ok (need_by (is_listed id between.archives)))
      (ap (held_for job) held ∙ none)
      ∙ ap (λ b. Ok (need_by b)) says)
  ready_by (Err e) held says job after assigned none assigns = tt

  -- an assignment behind what was brought answers Ready exactly where that said true
  pub brings_ready : (bytes : List ℕ) (answer : Result Bool MirrorError) → Brings id bytes answer before between
      → ReadyWhereTrue id answer before between
  brings_ready bytes answer h job after assigned none unlisted assigns =
      ready_by answer h.adopts.held (said_by bytes h.adopted answer unlisted h.adopts h.gives) job after assigned none
      assigns
