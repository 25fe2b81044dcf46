-- Whose token a request showed that a build server was asked by.
use Rattle.std.proofs.Common.{◌≡◌, ◌++◌, ◌∷◌, [], ℕ, Bool, true, false, if◌then◌else◌, List, All, refl, subst}
use Rattle.std.proofs.Common.{Option, Some, None, Result, Ok, Err}
use Rattle.std.specs.Prelude.{codes, ⊤}
use Rattle.std.proofs.lemmas.List.Elements.{All-same, All-push}
use Rattle.dist_types.specs.declared.ids.JobId.{JobId}
use Rattle.dist_types.specs.declared.token_error.TokenError.{TokenError}
use Rattle.dist_wire.specs.Reading.{toolchain_at}
use Rattle.dist_wire.specs.declared.run.RunJobHttpRequest.{RunJobHttpRequest}
use Rattle.http_head.specs.declared.request.Request.{Request}
use Rattle.http_head.specs.Bearer.{token_in}
use Rattle.http_head.specs.Fields.{header}
use Rattle.http_routes.specs.declared.refusal.Refusal.{Refusal}
use Rattle.http_routes.specs.declared.refusal.Refusal.TheVariants.{NoRoute, NoJobToken}
use Rattle.http_routes.specs.declared.server_route.ServerRouted.TheVariants.{Assign, Submit, Run}
use Rattle.http_routes.specs.Message.{message_in}
use Rattle.http_routes.specs.Place.{assign_job, submit_job, run_job, of_job}
use Rattle.http_routes.specs.RunHead.{run_in}
use Rattle.http_routes.specs.Sender.{job_test, accepted}
use Rattle.http_routes.specs.ServerRoute.{assign_of, submit_of, run_of, server_asked_of, server_answered}
use Rattle.http_routes.specs.Steps.{◌>>=◌, unless_none}

accepted_is : (x : Result ⊤ TokenError) → accepted x ≡ Ok tt → x ≡ Ok tt
accepted_is (Ok u) e = refl
accepted_is (Err d) e = absurd cc

module _ (verdict : ℕ → List ℕ → Result ⊤ TokenError) (r : Request) (text : List ℕ)
    (shown : token_in (header (codes "authorization") r.headers) ≡ Some text) where
  -- the token of a request that passes the test of its job
  passed : (job : JobId) → job_test verdict r job ≡ Ok tt → verdict job.0 text ≡ Ok tt
  unfolding job_test
  passed job e = accepted_is (verdict job.0 text) (subst (λ (o : Option (List ℕ)).
      (unless_none NoJobToken o >>= (λ token. accepted (verdict job.0 token))) ≡ Ok tt) shown e)

  by_assign : (job j : JobId) (tc : List ℕ) (t : Result (Unit {0}) Refusal) (m : Result (List ℕ) Refusal)
      → job_test verdict r j ≡ t
      → server_answered (t >>= (λ u. m >>= (λ x. Ok (Assign j x)))) ≡ Assign job tc → verdict job.0 text ≡ Ok tt
  by_assign job j tc (Ok u) (Ok x) test h =
      let same : j ≡ job = cc in
      subst (λ (k : JobId). verdict k.0 text ≡ Ok tt) same (passed j test)
  by_assign job j tc (Ok u) (Err e) test h = absurd cc
  by_assign job j tc (Err e) m test h = absurd cc

  by_submit : (job j : JobId) (tc : List ℕ) (t : Result (Unit {0}) Refusal)
      → server_answered (t >>= (λ u. Ok (Submit j))) ≡ Assign job tc → verdict job.0 text ≡ Ok tt
  by_submit job j tc (Ok u) h = absurd cc
  by_submit job j tc (Err e) h = absurd cc

  by_run : (job j : JobId) (tc : List ℕ) (t : Result (Unit {0}) Refusal)
      (m : Result (RunJobHttpRequest × ℕ) Refusal)
      → server_answered (t >>= (λ u. m >>= (λ x. Ok (Run j x.0 x.1)))) ≡ Assign job tc
      → verdict job.0 text ≡ Ok tt
  by_run job j tc (Ok u) (Ok x) h = absurd cc
  by_run job j tc (Ok u) (Err e) h = absurd cc
  by_run job j tc (Err e) m h = absurd cc

  by_jobs : (job : JobId) (tc : List ℕ) (a s u : Option JobId)
      → server_answered (of_job (assign_of verdict r)
      (of_job (submit_of verdict r) (of_job (run_of verdict r) (Err NoRoute) u) s) a) ≡ Assign job tc
      → verdict job.0 text ≡ Ok tt
  unfolding assign_of submit_of run_of
  by_jobs job tc (Some j) s u h = by_assign job j tc (job_test verdict r j) (message_in toolchain_at r) refl h
  by_jobs job tc None (Some j) u h = by_submit job j tc (job_test verdict r j) h
  by_jobs job tc None None (Some j) h = by_run job j tc (job_test verdict r j) (run_in r.body) h
  by_jobs job tc None None None h = absurd cc

-- the token that a request shows was accepted for the job that it asks a server to take
pub assign_accepted : (verdict : ℕ → List ℕ → Result ⊤ TokenError) (r : Request) (text : List ℕ) (job : JobId)
    (tc : List ℕ) → token_in (header (codes "authorization") r.headers) ≡ Some text
    → server_answered (server_asked_of verdict r) ≡ Assign job tc → verdict job.0 text ≡ Ok tt
unfolding server_asked_of
assign_accepted verdict r text job tc shown h =
    by_jobs verdict r text shown job tc (assign_job r) (submit_job r) (run_job r) h

-- what holds of each element holds where one was put behind them, or where memory had no room for it
pub all_pushed : {X : Type 0} (P : X → Type 0) (xs : List X) (x : X) (has_room : Bool) (ys : List X)
    → ys ≡ (if has_room then xs ++ x ∷ [] else xs) → All P xs → P x → All P ys
all_pushed P xs x true ys e every one = All-same P ys (xs ++ x ∷ []) e (All-push P xs x every one)
all_pushed P xs x false ys e every one = All-same P ys xs e every
