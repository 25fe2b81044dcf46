use Rattle.std.proofs.Common.{None, Contains, length, ap, ◌∙◌, subst, arith}
use Rattle.slab.specs.Slab.{Updates}
use Rattle.lru_metered.specs.Chain.{links, walk, items_of}
use Rattle.lru_metered.proofs.ChainLemmas.{chain-kept, avoids-absent, settled, order-walked, updates-items}
use Rattle.lru_metered.proofs.ChainLemmas.{count-items}
use Rattle.lru_metered.proofs.chain.Chain.take.Goals as goal

pub invariant_of-self : goal.invariant_of-self
invariant_of-self g c =
    let old = c.self.inside.nodes in let new = c.remove-item.new.self in let first = c.self.inside.first
    in let last = c.self.inside.last in
    let key = c.args.key in let order = walk (links old) (length old.slots) first in
    let free = avoids-absent order key
    (λ (has : Contains order key). c.requires.apart
    (subst (λ o. Contains o key) (ap (λ v. v.order) c.self.view_is) has)) in
    let kept = chain-kept old new first last order key None c.remove-item.ensures.updates free
    c.self.invariant in
    settled new first last order kept

pub returns-clause-updates : goal.returns-clause-updates
returns-clause-updates g c =
    subst (λ v. Updates v.items (items_of c.remove-item.new.self) c.args.key None) c.self.view_is
    (updates-items c.self.inside.nodes c.remove-item.new.self c.args.key None
    c.remove-item.ensures.updates)

pub returns-clause-order : goal.returns-clause-order
returns-clause-order g c =
    let old = c.self.inside.nodes in let new = c.remove-item.new.self in let first = c.self.inside.first
    in let last = c.self.inside.last in
    let key = c.args.key in let order = walk (links old) (length old.slots) first in
    let free = avoids-absent order key
    (λ (has : Contains order key). c.requires.apart
    (subst (λ o. Contains o key) (ap (λ v. v.order) c.self.view_is) has)) in
    let kept = chain-kept old new first last order key None c.remove-item.ensures.updates free
    c.self.invariant in
    order-walked new first last order kept ∙ ap (λ v. v.order) c.self.view_is

pub returns-clause-len : goal.returns-clause-len
returns-clause-len g c =
    rw (← c.self.view_is) (omega (
      arith,
      c.remove-item.ensures.len,
      count-items c.self.inside.nodes.slots,
      count-items c.remove-item.new.self.slots,
    ))

pub returns-clause-room : goal.returns-clause-room
returns-clause-room g c = omega (arith, c.remove-item.ensures.room, count-items c.remove-item.new.self.slots)
