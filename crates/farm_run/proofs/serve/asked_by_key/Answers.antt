use Rattle.std.proofs.Common.{ℕ, List, ◌∙◌, subst}
use Rattle.std.specs.Result.{result_ok}
use Rattle.dist_token.specs.Verdict.{server_verdict}
use Rattle.http_routes.specs.Admission.{equal_admission}
use Rattle.http_routes.specs.Asked.{IsAskedUnder}
use Rattle.farm_run.proofs.serve.asked_by_key.Goals as goal

pub returns-in-Ok-clause-ok : goal.returns-in-Ok-clause-ok
returns-in-Ok-clause-ok c =
    subst (λ (k : List ℕ). IsAskedUnder c.args.terms.rules (equal_admission c.args.client.now)
    (λ shown. result_ok (server_verdict k shown)) c.args.bytes.now c.args.terms.peer c.in-Ok.question)
    (c.new-server.ensures ∙ c.in_ok-from_slice.ensures.items)
    (subst (λ (t : List ℕ). IsAskedUnder c.args.terms.rules (equal_admission t)
    (λ shown. result_ok (server_verdict c.new-server.result shown)) c.args.bytes.now c.args.terms.peer
    c.in-Ok.question)
    (c.new-client.ensures ∙ c.in_ok-from_str.ensures.ok) c.in-Ok.ensures.ok)
