use Rattle.std.proofs.lemmas.Bool.{leb-true, leb-false}
use Rattle.lives_script.proofs.UsedLemmas.{some_between, before_between}
use Rattle.lives_script.proofs.used_ids.UsedIds.has_between.Goals as goal

pub returns-in-Some-clause-some : goal.returns-in-Some-clause-some
returns-in-Some-clause-some c = λ e. some_between c.args.self.now.lasts c.args.first c.args.last
    c.in-Some.field-0-0.now c.in-Some.end.now _ _ c.requires.ordered (c.range.ensures.in_range tt)
    c.in-Some.ensures.steps c.requires.some (leb-true c.args.first c.in-Some.end.now e)

pub returns-in-Some-clause-none : goal.returns-in-Some-clause-none
returns-in-Some-clause-none c = λ e. before_between c.args.self.now.lasts c.args.first c.args.last
    c.in-Some.field-0-0.now c.in-Some.end.now _ _ c.requires.ordered (c.range.ensures.in_range tt)
    c.in-Some.ensures.steps (leb-false c.args.first c.in-Some.end.now e)
