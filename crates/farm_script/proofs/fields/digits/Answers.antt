use Rattle.std.proofs.lemmas.Result.{err_from_is_err_and}
use Rattle.farm_script.specs.Fields.{digits_on}
use Rattle.farm_script.proofs.DigitLemmas.{digits_step, digits_stop}
use Rattle.farm_script.proofs.fields.digits.Goals as goal

pub returns-in_err-n : goal.returns-in_err-n
returns-in_err-n c =
    let p = err_from_is_err_and c.from_residual.result c.from_residual.ensures.1 in
    rw (p.1, p.2) (digits_stop c.in_err-n.field-0.0 c.loop-b.n c.loop-b.b-index c.args.word.now
    (digits_on 0 c.args.word.now) c.loop-b-test.true c.in_err-n.ensures c.loop-b.invariant)

pub loop-b-preserved : goal.loop-b-preserved
loop-b-preserved c = digits_step c.loop-b.n c.loop-b.b-index c.args.word.now c.in_ok-n.n
    (digits_on 0 c.args.word.now) c.loop-b-test.true c.in_ok-n.ensures c.loop-b.invariant
