-- The place of a request: its method, its path, and the job that the path names.
use Rattle.std.specs.Prelude.{ℕ, Bool, false, ◌&&◌, List, length, drop, nat_eq, nat_lt, if◌then◌else◌}
use Rattle.std.specs.Prelude.{Option, Some, None, codes, bytes_eq}
use Rattle.std.specs.List.{starts_with}
use Rattle.std.specs.Str.Parse.{without_leading_plus, digits_value}
use Rattle.dist_types.specs.declared.ids.JobId.{JobId}
use Rattle.dist_types.specs.declared.rules.Rules.{Rules}
use Rattle.dist_types.specs.declared.rules.Rules.TheVariants.{One, Two}
use Rattle.dist_types.specs.Addr.{is_digits}
use Rattle.http_head.specs.declared.request.Request.{Request}
use Rattle.http_head.specs.Fields.{path_of}

-- whether the request has that method and that path
unfoldable pub is_at : List ℕ → List ℕ → Request → Bool
is_at method path r = bytes_eq r.method method && bytes_eq (path_of r.target) path

-- whether the request is at the route of servers that drain, which stands in version 2 alone
unfoldable pub at_drain : Rules → Request → Bool
at_drain One r = false
at_drain Two r = is_at (codes "POST") (codes "/api/v1/scheduler/drain_server") r

-- what follows the front, where the text begins with it
abbrev pub stripped : List ℕ → List ℕ → Option (List ℕ)
stripped front text = if starts_with nat_eq text front then Some (drop (length front) text) else None

-- the job of an id: an optional plus and at least one digit, at most 2^64 - 1
unfoldable pub job_in : List ℕ → Option JobId
job_in text =
    if is_digits (without_leading_plus text) && nat_lt (digits_value 10 (without_leading_plus text))
    18446744073709551616
    then Some (record { 0 = digits_value 10 (without_leading_plus text) }) else None

-- the job of an id, where one is given
abbrev pub given_job : Option (List ℕ) → Option JobId
given_job None = None
given_job (Some id) = job_in id

-- the job that a POST names behind a front
unfoldable pub job_of : List ℕ → Request → Option JobId
job_of front r = if bytes_eq r.method (codes "POST") then given_job (stripped front (path_of r.target))
    else None

-- ---- the fronts of the routes with an id

-- the job whose state a request tells the scheduler
unfoldable pub state_job : Request → Option JobId
state_job r = job_of (codes "/api/v1/scheduler/job_state/") r

-- the job that a request asks a server to take
unfoldable pub assign_job : Request → Option JobId
assign_job r = job_of (codes "/api/v1/distserver/assign_job/") r

-- the job whose toolchain a request brings to a server
unfoldable pub submit_job : Request → Option JobId
submit_job r = job_of (codes "/api/v1/distserver/submit_toolchain/") r

-- the job that a request asks a server to run
unfoldable pub run_job : Request → Option JobId
run_job r = job_of (codes "/api/v1/distserver/run_job/") r

-- what is asked of the job, or what comes next where none is named
abbrev pub of_job : {A : Type 0} → (JobId → A) → A → Option JobId → A
of_job asks next None = next
of_job asks next (Some job) = asks job
