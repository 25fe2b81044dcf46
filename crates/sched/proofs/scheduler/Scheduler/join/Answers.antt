use Rattle.std.proofs.Common.{◌∙◌, ap}
use Rattle.sched.proofs.HandLemmas.{joined_pass, is_joined}
use Rattle.sched.proofs.scheduler.Scheduler.join.Goals as goal

pub invariant_of-pass : goal.invariant_of-pass
invariant_of-pass g c =
    let p = c.pass.invariant in
    let q = c.other.invariant in
    let u = c.unite.ensures.united p.view q.view (ap (λ x. x.views) c.replace-badge.ensures.value
    ∙ p.is) q.is in
    joined_pass _ _ _ _ _ _ _ _ _ p q u c.saturating_add-pass-inside.ensures
    c.saturating_add-pass-inside-2.ensures

pub returns : goal.returns
returns g c =
    let p = c.pass.invariant in
    let q = c.other.invariant in
    let u = c.unite.ensures.united p.view q.view (ap (λ x. x.views) c.replace-badge.ensures.value
    ∙ p.is) q.is in
    record {
      joined = is_joined _ _ _ _ _ _ _ _ _ _ _ _ p q u
          (c.unite.ensures.of ∙ ap (λ x. x.table_id) c.replace-badge.ensures.value) c.pass.view_is
          c.other.view_is;
    }
