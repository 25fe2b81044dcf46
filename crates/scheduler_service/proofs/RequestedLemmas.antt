-- A call of a dialer that was lent, and what is heard of it.
use Rattle.std.proofs.Common.{◌≡◌, ◌≢◌, ℕ, List, [], ◌∷◌, ◌++◌, Option, Some, None, Result, Ok, Err}
use Rattle.std.proofs.Common.{refl, ◌∙◌, ap, inr}
use Rattle.std.specs.Prelude.{IfSome}
use Rattle.dist_types.specs.Content.{Recorded}
use Rattle.dist_types.specs.Dialer.{asked_row}
use Rattle.dist_types.specs.Outgoing.{Calls, assigned_row}
use Rattle.dist_types.specs.declared.addr.Addr.{Addr}
use Rattle.dist_types.specs.declared.dialer.Asked.{Asked}
use Rattle.dist_types.specs.declared.ids.JobId.{JobId}
use Rattle.dist_types.specs.declared.outgoing.CallFault.{CallFault}
use Rattle.dist_types.specs.declared.outgoing.CallFault.TheVariants.{Memory}
use Rattle.dist_types.specs.declared.results.AssignJobResult.{AssignJobResult}
use Rattle.dist_wire.specs.Reading.{assign_at}
use Rattle.http_routes.specs.CallReply.{IsAnswer}
use Rattle.http_routes.specs.Requests.{assign_request_text}
use Rattle.scheduler_service.specs.Requested.{host_text, port_of, IsAskedFor, lent_of}

one_more : (old new : Option (List Asked)) (a : Asked) (Is : Asked → Type 0) → Recorded a old new → Is a
    → IfSome old (λ rows. (b : Asked) × (new ≡ Some (rows ++ b ∷ [])) × Is b)
one_more None new a Is e is = tt
one_more (Some rows) new a Is e is = (a, e, is)

pub replied : (name : ℕ) (old new : Option (List Asked)) (server addr : Addr) (job : JobId)
    (tc auth host request reply : List ℕ) (port : ℕ)
    (heard : Result AssignJobResult CallFault)
    → Recorded (asked_row host port request (Ok reply)) old new
    → addr ≡ server → host ≡ host_text addr → port ≡ port_of addr
    → request ≡ assign_request_text server job auth tc
    → (heard ≢ Err Memory → IsAnswer assign_at reply heard)
    → Calls IsAskedFor (assigned_row server job.0 tc auth) heard (lent_of name old) (lent_of name new)
replied name old new server addr job tc auth host request reply port heard row is_server is_host is_port
    is_request says = record {
      sent = λ some. record {
        same = refl;
        same_peer = refl;
        one = one_more old new _ _ row (is_asked heard says);
      };
      unsent = λ none. inr (record {
        same = refl;
        same_peer = refl;
        one = one_more old new _ _ row (Err Memory, is_asked (Err Memory) (λ other. absurd (other refl)));
      });
    }
  where
    is_asked : (answer : Result AssignJobResult CallFault)
        → (answer ≢ Err Memory → IsAnswer assign_at reply answer)
        → IsAskedFor (assigned_row server job.0 tc auth answer) (asked_row host port request (Ok reply))
    is_asked answer means = record {
      host = is_host ∙ ap host_text is_server;
      port = is_port ∙ ap port_of is_server;
      request = is_request;
      answer = means;
    }
