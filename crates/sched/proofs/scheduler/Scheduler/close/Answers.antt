use Rattle.std.proofs.Common.{◌∙◌, refl, None}
use Rattle.sched.proofs.HandLemmas.{ends_idle, are_out, is_closed}
use Rattle.sched.proofs.PassLemmas.{is_pass}
use Rattle.sched.proofs.scheduler.Scheduler.close.Goals as goal

pub end-badge-requires-clause-may : goal.end-badge-requires-clause-may
end-badge-requires-clause-may g c =
    let p = c.pass.invariant in
    λ κs lives. ends_idle p.view _ _ (c.begin-turn.ensures.begins p.view p.is)

pub invariant_of-result : goal.invariant_of-result
invariant_of-result g c =
    let p = c.pass.invariant in
    is_pass _ _ _ _ _ _ c.begin-turn.result.1 c.begin-turn.result.1 None p
    (c.begin-turn.ensures.begins p.view p.is) refl c.end-badge.ensures.views
    c.end-badge.ensures.few c.end-badge.ensures.counted

pub returns-then-passes-made-clause-out : goal.returns-then-passes-made-clause-out
returns-then-passes-made-clause-out g c =
    let p = c.pass.invariant in
    are_out _ _ _ _ _ _ _ _ _ _ p (c.begin-turn.ensures.begins p.view p.is) c.end-badge.ensures.views
    (c.end-badge.ensures.of ∙ c.begin-turn.ensures.of) c.pass.view_is c.made-made.ensures
    c.if-passes-made.true

pub returns-clause-closed : goal.returns-clause-closed
returns-clause-closed g c =
    let p = c.pass.invariant in
    is_closed _ _ _ _ _ _ _ _ _ p (c.begin-turn.ensures.begins p.view p.is) c.pass.view_is
    c.made-made.ensures
    c.if-passes-made.false c.into_state.ensures
