-- Which refusals a client's calls answer, by what they ask and hear.
use Rattle.std.proofs.Common.{◌≡◌, inl, inr, ℕ, List, Option, Some, None, Result, Ok, Err, refl, sym, subst}
use Rattle.std.specs.Prelude.{IfErr}
use Rattle.std.specs.Borrow.{Bor}
use Rattle.std.proofs.lemmas.Result.{IfErr-weaker}
use Rattle.dist_types.specs.declared.dialer.Asked.{Asked}
use Rattle.dist_types.specs.declared.dialer.AskFault.{AskFault}
use Rattle.dist_types.specs.declared.dialer.AskFault.TheVariants.{Failed, Memory as Unasked}
use Rattle.dist_types.specs.declared.fault.Failed as fault
use Rattle.dist_types.specs.declared.results.JobAlloc.{JobAlloc}
use Rattle.dist_types.specs.declared.results.RunJobResult.{RunJobResult}
use Rattle.dist_types.specs.declared.results.SubmitToolchainResult.{SubmitToolchainResult}
use Rattle.dist_types.specs.declared.toolchain_error.ToolchainError.{ToolchainError}
use Rattle.dist_types.specs.declared.toolchain_error.ToolchainError.TheVariants.{Cache, Disabled, DuplicateConfig}
use Rattle.dist_types.specs.declared.toolchain_error.ToolchainError.TheVariants.{ConflictConfig, BadWeakMap}
use Rattle.dist_types.specs.declared.toolchain_error.ToolchainError.TheVariants.{PackagerFailed}
use Rattle.dist_types.specs.declared.toolchain_error.ToolchainError.TheVariants.{Memory as OutOfMemory}
use Rattle.dist_wire.specs.declared.run.RunJobHttpRequest.{RunJobHttpRequest}
use Rattle.http_head.specs.declared.error.HttpError.{HttpError}
use Rattle.http_head.specs.declared.error.HttpError.TheVariants.{BadHead, WrongContentType, ParseError}
use Rattle.http_head.specs.declared.error.HttpError.TheVariants.{BadRealIp, NoRoute, Unauthorised, BadRunHead}
use Rattle.http_head.specs.declared.error.HttpError.TheVariants.{HeadTooLong, Status, BadBase, LinkFault}
use Rattle.http_head.specs.declared.error.HttpError.TheVariants.{NotLocal, Memory, Packager, Local}
use Rattle.http_routes.specs.CallReply.{Reads, RefusesMessage}
use Rattle.http_calls.specs.Asking.{Asks, AnswersRow}
use Rattle.http_calls.specs.Client.{ClientParts, AsksScheduler, AfterGet, Submits, PacksInputs, AfterPacking, Runs}
use Rattle.http_calls.specs.Client.{local_error, first_of}
use Rattle.http_calls.specs.Refusals.{IsReplyError, IsSchedulerError, IsSubmitError, IsRunError}
use Rattle.http_calls.specs.Reply.{Resumes}

module _ {M : Type 0} (at : List ℕ → Option (M × List ℕ)) where
  message_error : (bytes : List ℕ) (e : HttpError) → RefusesMessage {M = M} at bytes e → IsReplyError e
  message_error bytes ParseError h = tt {0}
  message_error bytes (Status code body) h = tt {0}
  message_error bytes Memory h = tt {0}
  message_error bytes BadHead h = h
  message_error bytes WrongContentType h = h
  message_error bytes BadRealIp h = h
  message_error bytes NoRoute h = h
  message_error bytes (Unauthorised word) h = h
  message_error bytes (BadRunHead whole) h = h
  message_error bytes HeadTooLong h = h
  message_error bytes BadBase h = h
  message_error bytes LinkFault h = tt {0}
  message_error bytes NotLocal h = h
  message_error bytes Packager h = h
  message_error bytes (Local refusal) h = h

  answer_error : (bytes : List ℕ) (answer : Result M HttpError) → Reads at bytes answer
      → IfErr answer IsReplyError
  answer_error bytes (Ok m) h = tt {0}
  answer_error bytes (Err e) h = message_error bytes e h

  pub resumed_error : (reply : Result (Bor (List ℕ)) fault.Failed) (answer : Result M HttpError)
      → Resumes at reply answer → IfErr answer IsReplyError
  resumed_error (Ok bytes) answer h = answer_error bytes.now answer h
  resumed_error (Err failed) answer h = subst (λ a. IfErr a IsReplyError) (sym h) (tt {0})

  pub resumed_link : (bytes : Bor (List ℕ)) (answer : Result M HttpError) → Resumes at (Ok bytes) answer
      → answer ≡ Err LinkFault → ⊥
  resumed_link bytes answer h is = subst (λ a. Reads at bytes.now a) is h

  row_error : (heard : Result (List ℕ) AskFault) (answer : Result M HttpError) → AnswersRow at heard answer
      → IfErr answer IsReplyError
  row_error (Ok reply) answer h = answer_error reply answer h
  row_error (Err Failed) answer h = subst (λ a. IfErr a IsReplyError) (sym h) (tt {0})
  row_error (Err Unasked) answer h = subst (λ a. IfErr a IsReplyError) (sym h) (tt {0})

  asks_error : (host : List ℕ) (port : ℕ) (request : List ℕ) (answer : Result M HttpError)
      (old new : Option (List Asked))
      → Asks at host port request answer old new → IfErr answer IsReplyError
  asks_error host port request answer old new (inl once) = row_error once.heard answer once.answers
  asks_error host port request answer old new (inr h) = subst (λ a. IfErr a IsReplyError) (sym h.0) (tt {0})

  pub scheduler_error : (request : List ℕ) (answer : Result M HttpError) (old new : ClientParts)
      → AsksScheduler at request answer old new → IfErr answer IsSchedulerError
  scheduler_error request answer old new (inl h) =
      IfErr-weaker answer IsReplyError IsSchedulerError (λ e x. inr x)
      (asks_error _ _ request answer old.asked new.asked h.1.asks)
  scheduler_error request answer old new (inr (none, is, same)) =
      subst (λ a. IfErr a IsSchedulerError) (sym is) (inl refl)

-- a refusal of the client's toolchains, as a call tells it
told_local : (e : ToolchainError) → IsSubmitError (local_error e)
told_local OutOfMemory = inr (inr (tt {0}))
told_local (Cache e) = inr (inl (Cache e, refl))
told_local Disabled = inr (inl (Disabled, refl))
told_local DuplicateConfig = inr (inl (DuplicateConfig, refl))
told_local ConflictConfig = inr (inl (ConflictConfig, refl))
told_local BadWeakMap = inr (inl (BadWeakMap, refl))
told_local PackagerFailed = inr (inl (PackagerFailed, refl))

after_get : (job : JobAlloc) (found : Result (Option (List ℕ)) ToolchainError)
    (answer : Result SubmitToolchainResult HttpError) (old new : ClientParts)
    → AfterGet job found answer old new → IfErr answer IsSubmitError
after_get job (Ok (Some archive)) answer old new h =
    IfErr-weaker answer IsReplyError IsSubmitError (λ e x. inr (inr x))
    (asks_error _ _ _ _ answer old.asked new.asked h.asked.asks)
after_get job (Ok None) answer old new h = subst (λ a. IfErr a IsSubmitError) (sym h.0) (inl refl)
after_get job (Err e) answer old new h = subst (λ a. IfErr a IsSubmitError) (sym h.0) (told_local e)

pub submit_error : (job : JobAlloc) (tc : List ℕ) (answer : Result SubmitToolchainResult HttpError)
    (old new : ClientParts)
    → Submits job tc answer old new → IfErr answer IsSubmitError
submit_error job tc answer old new s = after_get job s.found answer _ new s.follows

module _ (Uncalled Called : Type 0) (told : Option (List ℕ)) (before after : ℕ) (run : RunJobHttpRequest) where
  pack_error : (e : HttpError) → PacksInputs Uncalled Called told before after run (Err e) → IsRunError e
  pack_error HeadTooLong h = inl refl
  pack_error Packager h = inr (inl refl)
  pack_error Memory h = inr (inr (tt {0}))
  pack_error BadHead h = absurd h
  pack_error WrongContentType h = absurd h
  pack_error ParseError h = absurd h
  pack_error BadRealIp h = absurd h
  pack_error NoRoute h = absurd h
  pack_error (Unauthorised word) h = absurd h
  pack_error (BadRunHead whole) h = absurd h
  pack_error (Status code body) h = absurd h
  pack_error BadBase h = absurd h
  pack_error LinkFault h = absurd h
  pack_error NotLocal h = absurd h
  pack_error (Local refusal) h = absurd h

  after_packing : (job : JobAlloc) (packed : Result (List ℕ) HttpError) (answer : Result RunJobResult HttpError)
      (old new : ClientParts)
      → PacksInputs Uncalled Called told before after run packed
      → AfterPacking job run packed answer old new → IfErr answer IsRunError
  after_packing job (Ok inputs) answer old new packs h =
      IfErr-weaker answer IsReplyError IsRunError (λ e x. inr (inr x))
      (asks_error _ _ _ _ answer old.asked new.asked h.asked.asks)
  after_packing job (Err e) answer old new packs h =
      subst (λ a. IfErr a IsRunError) (sym h.0) (pack_error e packs)

  pub run_error : {T : Type 0} (job : JobAlloc) (result : Result (RunJobResult × T) HttpError)
      (old new : ClientParts)
      → Runs Uncalled Called told before after job run (first_of result) old new → IfErr result IsRunError
  run_error {T} job result old new r =
      whole result (after_packing job r.packed (first_of result) old new r.packs r.follows)
    where
      whole : (x : Result (RunJobResult × T) HttpError) → IfErr (first_of x) IsRunError → IfErr x IsRunError
      whole (Ok x) h = tt {0}
      whole (Err e) h = h
