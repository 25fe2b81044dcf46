-- What bytes ask of a scheduler, whatever its check of clients says of the token that they show.
use Rattle.std.specs.Prelude.{◌≡◌, ℕ, List, false, Option, Ok}
use Rattle.dist_types.specs.declared.addr.Addr.{Addr}
use Rattle.dist_types.specs.declared.rules.Rules.{Rules}
use Rattle.http_head.specs.declared.request.Request.{Request}
use Rattle.http_head.specs.Head.{IsRequest}
use Rattle.http_routes.specs.declared.admission.Admission.{Admission}
use Rattle.http_routes.specs.declared.route.SchedRouted.{SchedRouted}
use Rattle.http_routes.specs.declared.route.SchedRouted.TheVariants.{Alloc}
use Rattle.http_routes.specs.Admission.{client_token}
use Rattle.http_routes.specs.Route.{wants_json, asked_of, answered}
use Rattle.http_routes.specs.Sender.{client_test}
use Rattle.http_routes.specs.Steps.{◌>>=◌}

-- what a request for a job with that toolchain asks where the check says that of its token: the job, or else
-- the reply to the refusal
abbrev pub allocated : List ℕ → Option Admission → SchedRouted
allocated tc said = answered (client_test said >>= λ _. Ok (Alloc tc))

-- The bytes are a request that wants no JSON and shows that token to the check of clients, or none; of each
-- scheduler and from each peer it asks what the check's word on the token gives.
pub record IsReadAs (bytes : List ℕ) (shown : Option (List ℕ)) (what : Option Admission → SchedRouted)
    : Type 0 where
  pub request : Request
  pub is : IsRequest bytes request
  pub shows : client_token request ≡ shown
  pub asks : (rules : Rules) (serves : List ℕ → Option Addr) (peer : Addr) (said : Option Admission)
      → answered (asked_of rules serves request peer said) ≡ what said
  pub form : wants_json request ≡ false
