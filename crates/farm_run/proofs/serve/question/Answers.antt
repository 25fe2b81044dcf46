use Rattle.std.proofs.Common.{ℕ, List, sym, subst}
use Rattle.std.specs.Result.{result_ok}
use Rattle.dist_token.specs.Verdict.{server_verdict}
use Rattle.http_routes.specs.Admission.{equal_admission}
use Rattle.http_routes.specs.Asked.{IsAskedUnder}
use Rattle.farm_script.specs.declared.setup.SetupAuth.{SetupAuth}
use Rattle.farm_entries.specs.Seen.{serves}
use Rattle.farm_run.proofs.serve.question.Goals as goal

pub returns-in_ok-question-in-Jwt-clause-ok : goal.returns-in_ok-question-in-Jwt-clause-ok
returns-in_ok-question-in-Jwt-clause-ok c =
    let q = c.in_ok-question-in-Jwt.question in
    let rules = c.args.setup.now.rules in
    subst (λ (a : SetupAuth). IsAskedUnder rules (equal_admission c.args.setup.now.scheduler.client)
    (serves a) c.args.bytes.now c.args.peer q) (sym c.in-Jwt.is)
    (subst (λ (k : List ℕ). IsAskedUnder rules (equal_admission c.args.setup.now.scheduler.client)
    (λ shown. result_ok (server_verdict k shown)) c.args.bytes.now c.args.peer q)
    c.get-in-Jwt.ensures.bytes
    (subst (λ (t : List ℕ). IsAskedUnder rules (equal_admission t)
    (λ shown. result_ok (server_verdict c.get-in-Jwt.result.now shown)) c.args.bytes.now c.args.peer q)
    c.get-client.ensures.text
    c.in_ok-question-in-Jwt.ensures.ok))
