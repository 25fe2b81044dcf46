use Rattle.std.proofs.Common.{◌+◌, [], ◌∷◌, ◌++◌, refl, sym, subst, arith}
use Rattle.quota_run.specs.Run.{AreBegun}
use Rattle.quota_run.proofs.RunLemmas.{one_more, begun, on_err}
use Rattle.quota_run.proofs.run.answer_each.Goals as goal

pub returns-in_err-answer-clause-begun : goal.returns-in_err-answer-clause-begun
returns-in_err-answer-clause-begun g c =
    let l = c.loop-call in
    let q = c.args.run.now in
    let calls = c.args.calls.now in
    on_err c.from_residual.result (AreBegun q calls c.answer.new.self)
    (subst (AreBegun q calls) (sym c.in_err-answer.ensures.step)
    (begun q l.run calls l.call-index l.answers.items l.invariant))

pub returns-in_err-push-clause-begun : goal.returns-in_err-push-clause-begun
returns-in_err-push-clause-begun g c =
    let l = c.loop-call in
    let q = c.args.run.now in
    let calls = c.args.calls.now in
    let all = l.answers.items ++ c.in_ok-answer.answer ∷ [] in
    on_err c.from_residual-in_err-push.result (AreBegun q calls c.answer.new.self)
    (begun q c.answer.new.self calls (l.call-index + 1) all
    (one_more q l.run c.answer.new.self calls l.call-index c.call-item.result l.answers.items all c.in_ok-answer.answer
    (omega (arith, c.loop-call-test.true)) c.call-item.is l.invariant c.in_ok-answer.ensures.step refl))

pub loop-call-preserved : goal.loop-call-preserved
loop-call-preserved g c =
    let l = c.loop-call in
    one_more c.args.run.now l.run c.answer.new.self c.args.calls.now l.call-index c.call-item.result l.answers.items
    c.push.new.answers.items c.in_ok-answer.answer (omega (arith, c.loop-call-test.true)) c.call-item.is l.invariant
    c.in_ok-answer.ensures.step c.in_ok-push.ensures
