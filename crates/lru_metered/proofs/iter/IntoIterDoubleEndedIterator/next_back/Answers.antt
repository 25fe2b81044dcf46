use Rattle.std.proofs.Common.{sym, ap, ◌∙◌}
use Rattle.std.specs.Option.{option_map}
use Rattle.lru_metered.proofs.RunLemmas.{last_progress}
use Rattle.lru_metered.specs.Index.{pair_of}
use Rattle.lru_metered.proofs.PartLemmas.{none-last, last-has, last-taken}
use Rattle.lru_metered.proofs.iter.IntoIterDoubleEndedIterator.next_back.Goals as goal

pub returns-in_err-at-clause-steps : goal.returns-in_err-at-clause-steps
returns-in_err-at-clause-steps g c =
    let none = sym c.self.view_is ∙ none-last c.self.inside.nodes (sym c.last.ensures ∙ c.in_err-at.was) in
    rw c.from_residual.ensures (none, none)

pub take_out-requires-clause-listed : goal.take_out-requires-clause-listed
take_out-requires-clause-listed g c = last-has c.self.inside.nodes.order c.in_ok-at.at
    (sym c.last.ensures ∙ c.in_ok-at.was)

pub returns-clause-steps : goal.returns-clause-steps
returns-clause-steps g c =
    let old = c.self.inside.nodes in let new = c.take_out.new.nodes in
    sym c.self.view_is ∙ last-taken old new c.self.invariant c.in_ok-at.at c.take_out.result
    c.take_out.ensures.pair c.take_out.ensures.order
    (λ x differs. ap (option_map pair_of) (c.take_out.ensures.updates.others x differs))
    (sym c.in_ok-at.ensures)

pub returns-clause-goes : goal.returns-clause-goes
returns-clause-goes g c =
    let old = c.self.inside.nodes in let new = c.take_out.new.nodes in
    last_progress (λ p. p) _ _ _
    (sym c.self.view_is ∙ last-taken old new c.self.invariant c.in_ok-at.at c.take_out.result
    c.take_out.ensures.pair c.take_out.ensures.order
    (λ x differs. ap (option_map pair_of) (c.take_out.ensures.updates.others x differs))
    (sym c.in_ok-at.ensures))
