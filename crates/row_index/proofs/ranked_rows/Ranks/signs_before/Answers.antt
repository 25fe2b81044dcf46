use Rattle.std.proofs.Common.{◌≡◌, ◌∙◌, subst}
use Rattle.std.specs.Prelude.{IfOk}
use Rattle.row_index.specs.Keys.{moment_before}
use Rattle.row_index.proofs.RankLemmas.{early_found, early_within}
use Rattle.row_index.proofs.ranked_rows.Ranks.signs_before.Goals as goal

pub numbers_at-requires : goal.numbers_at-requires
numbers_at-requires g c = rw (c.deref.ensures.value, c.in_ok-places.ensures.slots, c.self.invariant.by_sign)
    (early_within g.T.Ranked.sign_of moment_before c.args.bound.now c.self.inside.slots.places)

pub returns : goal.returns
returns g c = record {
  numbers =
      rw (← c.self.view_is) (subst (λ l. IfOk c.numbers_at.result (λ v. v.items ≡ l))
      (early_found g.T.Numbered.number_of g.T.Ranked.sign_of moment_before c.args.bound.now
      c.self.inside.slots.places
      c.self.inside.signs c.deref.result.now c.self.invariant.by_sign
      (c.deref.ensures.value ∙ c.in_ok-places.ensures.slots)) c.numbers_at.ensures);
}
