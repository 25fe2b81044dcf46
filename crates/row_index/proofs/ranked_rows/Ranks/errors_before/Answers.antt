use Rattle.std.proofs.Common.{◌≡◌, ◌∙◌, subst}
use Rattle.std.specs.Prelude.{IfOk}
use Rattle.row_index.specs.Keys.{moment_before}
use Rattle.row_index.proofs.RankLemmas.{early_found, early_within, early_looks}
use Rattle.row_index.proofs.ranked_rows.Ranks.errors_before.Goals as goal

pub numbers_at-requires : goal.numbers_at-requires
numbers_at-requires g c = rw (c.deref.ensures.value, c.in_ok-places.ensures.slots, c.self.invariant.by_error)
    (early_within g.T.Ranked.error_of moment_before c.args.bound.now c.self.inside.slots.places)

pub returns-clause-numbers : goal.returns-clause-numbers
returns-clause-numbers g c = rw (← c.self.view_is) (subst (λ l. IfOk c.numbers_at.result (λ v. v.items ≡ l))
    (early_found g.T.Numbered.number_of g.T.Ranked.error_of moment_before c.args.bound.now
    c.self.inside.slots.places
    c.self.inside.errors c.deref.result.now c.self.invariant.by_error
    (c.deref.ensures.value ∙ c.in_ok-places.ensures.slots)) c.numbers_at.ensures)

pub returns-clause-looks : goal.returns-clause-looks
returns-clause-looks g c = rw (← c.self.view_is)
    (early_looks g.T.Numbered.number_of g.T.Ranked.error_of moment_before
    c.args.bound.now c.self.inside.slots.places c.self.inside.errors c.args.steps.now
    c.slots_before.new.steps
    c.self.invariant.by_error c.slots_before.ensures.looks)

pub returns-in_err-places-clause-looks : goal.returns-in_err-places-clause-looks
returns-in_err-places-clause-looks g c = rw (← c.self.view_is) (early_looks g.T.Numbered.number_of
    g.T.Ranked.error_of moment_before c.args.bound.now c.self.inside.slots.places c.self.inside.errors
    c.args.steps.now c.slots_before.new.steps c.self.invariant.by_error c.slots_before.ensures.looks)
