-- Of what kind a request is, by its method and its target.
use Rattle.std.specs.Prelude.{ℕ, ◌==◌, Bool, ◌&&◌, ◌||◌, List, if◌then◌else◌, codes, bytes_eq}
use Rattle.std.specs.List.{starts_with}
use Rattle.http_routes.specs.declared.kind.Kind.{Kind}
use Rattle.http_routes.specs.declared.kind.Kind.TheVariants.{Quick, Waits}
use Rattle.http_routes.specs.declared.kind.Role.{Role}
use Rattle.http_routes.specs.declared.kind.Role.TheVariants.{Scheduler, Server}

-- whether it is a POST whose target begins so
abbrev pub begins_so : List ℕ → List ℕ → List ℕ → Bool
begins_so front method target =
    bytes_eq method (codes "POST") && starts_with (λ (a b : ℕ). a == b) target front

-- whether it is at a route whose answer may wait for a peer: an allocation asks a server, a submission and a
-- run report to the scheduler
abbrev pub may_wait : Role → List ℕ → List ℕ → Bool
may_wait Scheduler method target = begins_so (codes "/api/v1/scheduler/alloc_job") method target
may_wait Server method target =
    begins_so (codes "/api/v1/distserver/submit_toolchain/") method target
    || begins_so (codes "/api/v1/distserver/run_job/") method target

-- its kind
abbrev pub kind_of : Role → List ℕ → List ℕ → Kind
kind_of role method target = if may_wait role method target then Waits else Quick
