use Rattle.std.proofs.Common.{◌≡◌, ℕ, List, Ok, sym, subst, is_ok}
use Rattle.std.proofs.lemmas.List.Elements.{All-set}
use Rattle.dist_token.specs.Verdict.{job_verdict}
use Rattle.farm_stations.specs.declared.job_tokens.AcceptedToken.{AcceptedToken}
use Rattle.farm_stations.proofs.AcceptedLemmas.{all_pushed}
use Rattle.farm_stations.proofs.job_tokens.JobTokens.keep.Goals as goal

pub invariant_of-self : goal.invariant_of-self
invariant_of-self c =
    let key : c.args.self.now ≡ c.self.inside.authorizer = cc in
    let shown = subst (λ (k : List ℕ). job_verdict k c.args.job.0 c.args.token.now ≡ Ok tt) key c.requires in
    All-set (λ (kept : AcceptedToken). job_verdict c.self.inside.authorizer kept.job.0 kept.text ≡ Ok tt)
    c.self.inside.accepted.items c.self.inside.next (record { job = c.args.job; text = c.in-Ok.text })
    (subst (λ (t : List ℕ). job_verdict c.self.inside.authorizer c.args.job.0 t ≡ Ok tt)
    (sym c.in-Ok.ensures.text) shown) c.self.invariant

pub invariant_of-self-in-None : goal.invariant_of-self-in-None
invariant_of-self-in-None c =
    let key : c.args.self.now ≡ c.self.inside.authorizer = cc in
    let shown = subst (λ (k : List ℕ). job_verdict k c.args.job.0 c.args.token.now ≡ Ok tt) key c.requires in
    all_pushed (λ (kept : AcceptedToken). job_verdict c.self.inside.authorizer kept.job.0 kept.text ≡ Ok tt)
    c.self.inside.accepted.items (record { job = c.args.job; text = c.in-Ok.text })
    (is_ok c.push-kept.result) c.push-kept.new.self.items c.push-kept.ensures.items c.self.invariant
    (subst (λ (t : List ℕ). job_verdict c.self.inside.authorizer c.args.job.0 t ≡ Ok tt)
    (sym c.in-Ok.ensures.text) shown)
