use Rattle.std.proofs.Common.{sym, ◌∙◌, arith}
use Rattle.std.specs.Map.Iter.{deref_pair}
use Rattle.lru_metered.proofs.RunLemmas.{last_progress}
use Rattle.lru_metered.proofs.PartLemmas.{part-last, part-back}
use Rattle.lru_metered.proofs.iter.IterDoubleEndedIterator.next_back.Goals as goal

pub invariant_of-self : goal.invariant_of-self
invariant_of-self g c =
    let i = c.self.inside in
    part-back i.nodes.now i.end i.left i.first i.last c.self.invariant
    (omega arith) c.unwrap-at.result c.item-entry.result.now c.item-entry.ensures c.unwrap-at.ensures
    c.before-self-inside.result c.before-self-inside.ensures

pub returns-clause-steps : goal.returns-clause-steps
returns-clause-steps g c =
    let i = c.self.inside in
    sym c.self.view_is ∙ part-last i.nodes.now i.end i.left i.first i.last c.self.invariant
    (omega arith) c.unwrap-at.result c.item-entry.result.now c.item-entry.ensures c.unwrap-at.ensures

pub returns-clause-goes : goal.returns-clause-goes
returns-clause-goes g c =
    let i = c.self.inside in
    last_progress deref_pair _ _ _
    (sym c.self.view_is ∙ part-last i.nodes.now i.end i.left i.first i.last c.self.invariant
    (omega arith) c.unwrap-at.result c.item-entry.result.now c.item-entry.ensures c.unwrap-at.ensures)
