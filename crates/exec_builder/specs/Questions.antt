-- What is written to an executor.
use Rattle.std.specs.Prelude.{ℕ, List, ◌∷◌, ◌++◌, codes}
use Rattle.std.specs.Fmt.{decimal}
use Rattle.dist_wire.specs.declared.run.RunJobHttpRequest.{RunJobHttpRequest}
use Rattle.http_head.specs.declared.written_request.WrittenRequest.{WrittenRequest}
use Rattle.http_routes.specs.Requests.{post_with}
use Rattle.http_routes.specs.RunHead.{run_body}
use Rattle.exec_builder.specs.declared.executor.Executor.{Executor}

-- the host and the port, as a head names them
abbrev pub host_at : Executor → List ℕ
host_at e = e.host ++ (58 ∷ decimal e.port)

-- The question to run a command in the archive of that id: its body is that of a run at a build server, which
-- has the command, the names of the outputs, and the inputs.
unfoldable pub run_question : Executor → List ℕ → RunJobHttpRequest → List ℕ → WrittenRequest
run_question e id run inputs = post_with (codes "/api/v1/executor/run/" ++ id) (host_at e) e.secret
    (run_body run inputs)

-- The question that brings the archive of that id: its body is the archive.
unfoldable pub archive_question : Executor → List ℕ → List ℕ → WrittenRequest
archive_question e id archive = post_with (codes "/api/v1/executor/archive/" ++ id) (host_at e) e.secret archive
