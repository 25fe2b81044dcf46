-- What a request asks of a build server, with the refusals in order.
use Rattle.std.specs.Prelude.{◌≡◌, ◌⊎◌, ℕ, ◌+◌, ◌-◌, false, List, length, drop, Result}
use Rattle.std.specs.Prelude.{Ok, Err, ⊤}
use Rattle.dist_types.specs.declared.ids.JobId.{JobId}
use Rattle.dist_types.specs.declared.token_error.TokenError.{TokenError}
use Rattle.dist_wire.specs.Reading.{toolchain_at}
use Rattle.dist_wire.specs.declared.run.RunJobHttpRequest.{RunJobHttpRequest}
use Rattle.http_head.specs.declared.request.Request.{Request}
use Rattle.http_head.specs.Head.{IsRequest, IsNoRequest}
use Rattle.http_routes.specs.declared.refusal.Refusal.{Refusal}
use Rattle.http_routes.specs.declared.refusal.Refusal.TheVariants.{BadHead, NoRoute}
use Rattle.http_routes.specs.declared.server_route.ServerAsked.{ServerAsked}
use Rattle.http_routes.specs.declared.server_route.ServerRouted.{ServerRouted}
use Rattle.http_routes.specs.declared.server_route.ServerRouted.TheVariants.{Assign, Submit, Run, Done}
use Rattle.http_routes.specs.Message.{message_in}
use Rattle.http_routes.specs.Place.{assign_job, submit_job, run_job, of_job}
use Rattle.http_routes.specs.Refusal.{refusal_response}
use Rattle.http_routes.specs.Route.{wants_json}
use Rattle.http_routes.specs.RunHead.{run_in}
use Rattle.http_routes.specs.Sender.{job_test}
use Rattle.http_routes.specs.Steps.{◌>>=◌}

-- ---- what is asked; the verdict says whether a text is accepted as a job's token

-- a request to take that job
unfoldable pub assign_of : (ℕ → List ℕ → Result ⊤ TokenError) → Request → JobId → Result ServerRouted Refusal
assign_of verdict r job = do
  shown ← job_test verdict r job
  tc ← message_in toolchain_at r
  Ok (Assign job tc)

-- a request that brings that job's toolchain, whatever its body
unfoldable pub submit_of : (ℕ → List ℕ → Result ⊤ TokenError) → Request → JobId → Result ServerRouted Refusal
submit_of verdict r job = do
  shown ← job_test verdict r job
  Ok (Submit job)

-- a request to run that job
unfoldable pub run_of : (ℕ → List ℕ → Result ⊤ TokenError) → Request → JobId → Result ServerRouted Refusal
run_of verdict r job = do
  shown ← job_test verdict r job
  run ← run_in r.body
  Ok (Run job run.0 run.1)

-- what the request asks, or why it is refused
unfoldable pub server_asked_of : (ℕ → List ℕ → Result ⊤ TokenError) → Request → Result ServerRouted Refusal
server_asked_of verdict r =
    of_job (assign_of verdict r)
    (of_job (submit_of verdict r) (of_job (run_of verdict r) (Err NoRoute) (run_job r)) (submit_job r))
    (assign_job r)

-- what is asked, or the reply to the refusal
abbrev pub server_answered : Result ServerRouted Refusal → ServerRouted
server_answered (Ok asked) = asked
server_answered (Err refusal) = Done (refusal_response refusal)

-- ---- the bytes

-- where a request's body begins in its bytes
abbrev pub body_at : List ℕ → Request → ℕ
body_at bytes r = length bytes - length r.body

-- what a request asks, the form of the reply, and where its body begins in its bytes
abbrev pub server_question : (ℕ → List ℕ → Result ⊤ TokenError) → List ℕ → Request → ServerAsked
server_question verdict bytes r = record {
  what = server_answered (server_asked_of verdict r);
  json = wants_json r;
  body = body_at bytes r;
}

-- what the bytes ask of a server, as a request or as a bad head
abbrev pub IsServerAsked : (ℕ → List ℕ → Result ⊤ TokenError) → List ℕ → ServerAsked → Type 0
IsServerAsked verdict bytes asked =
    ((r : Request) × IsRequest bytes r × (asked ≡ server_question verdict bytes r))
    ⊎ (IsNoRequest bytes × (asked ≡ record {
      what = Done (refusal_response BadHead);
      json = false;
      body = length bytes;
    }))

-- ---- what a server is asked, with the bytes that are brought

-- the bytes ask a server to take the job with that toolchain
abbrev pub AsksAssign : (ℕ → List ℕ → Result ⊤ TokenError) → List ℕ → JobId → List ℕ → Type 0
AsksAssign verdict bytes job tc = (body : ℕ)
    × IsServerAsked verdict bytes (record { what = Assign job tc; json = false; body = body })

-- the bytes bring a server that archive for the job
abbrev pub AsksSubmit : (ℕ → List ℕ → Result ⊤ TokenError) → List ℕ → JobId → List ℕ → Type 0
AsksSubmit verdict bytes job archive =
    (body : ℕ) × IsServerAsked verdict bytes (record { what = Submit job; json = false; body = body })
    × (drop body bytes ≡ archive)

-- the bytes ask a server to run the job so, with those inputs
abbrev pub AsksRun : (ℕ → List ℕ → Result ⊤ TokenError) → List ℕ → JobId → RunJobHttpRequest → List ℕ → Type 0
AsksRun verdict bytes job run inputs =
    (body at : ℕ) × IsServerAsked verdict bytes (record { what = Run job run at; json = false; body = body })
    × (drop (body + at) bytes ≡ inputs)
