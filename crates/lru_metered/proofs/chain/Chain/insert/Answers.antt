use Rattle.std.proofs.Common.{Some, None, is_some, is_ok, length, refl, sym, ap, ◌∙◌, subst, true≢false}
use Rattle.std.proofs.Common.{arith}
use Rattle.std.specs.Option.{option_map}
use Rattle.slab.specs.Slab.{Updates, HasRoomFor}
use Rattle.lru_metered.specs.Chain.{IsChain, links, walk, ends_of, items_of}
use Rattle.lru_metered.proofs.ChainLemmas.{chain-kept, avoids-vacant, settled, order-walked, updates-items}
use Rattle.lru_metered.proofs.ChainLemmas.{count-items}
use Rattle.lru_metered.proofs.chain.Chain.insert.Goals as goal
use Rattle.lru_metered.proofs.chain.Chain.insert.Goals.{in-Ok, in-Err}

pub invariant_of-self : goal.invariant_of-self
invariant_of-self g c =
    let old = c.self.inside.nodes in let new = c.insert.new.self in let first = c.self.inside.first
    in let last = c.self.inside.last in
    let order = walk (links old) (length old.slots) first in
    elim c.match-insert.branch [
      | in-Ok w ↦ settled new first last order
          (chain-kept old new first last order w.in-Ok.key _ w.in-Ok.ensures.updates
          (avoids-vacant (links old) w.in-Ok.key None order None
          (ap (λ o. is_some (option_map ends_of o)) w.in-Ok.ensures.was_vacant) c.self.invariant.linked)
          c.self.invariant)
      | in-Err w ↦ subst (λ s. IsChain (links s) first last (walk (links s) (length s.slots) first))
          (sym w.in-Err.ensures.err) c.self.invariant
    ]

pub returns-clause-updates : goal.returns-clause-updates
returns-clause-updates g c =
    elim c.match-insert.branch [
      | in-Ok w ↦ rw w.result-is
          (subst (λ v. Updates v.items (items_of c.insert.new.self) w.in-Ok.key (Some c.args.item))
          c.self.view_is (updates-items c.self.inside.nodes c.insert.new.self w.in-Ok.key _
          w.in-Ok.ensures.updates))
      | in-Err w ↦ rw w.result-is tt
    ]

pub returns-clause-order : goal.returns-clause-order
returns-clause-order g c =
    let old = c.self.inside.nodes in let new = c.insert.new.self in let first = c.self.inside.first
    in let last = c.self.inside.last in
    let order = walk (links old) (length old.slots) first in
    elim c.match-insert.branch [
      | in-Ok w ↦ order-walked new first last order
          (chain-kept old new first last order w.in-Ok.key _ w.in-Ok.ensures.updates
          (avoids-vacant (links old) w.in-Ok.key None order None
          (ap (λ o. is_some (option_map ends_of o)) w.in-Ok.ensures.was_vacant) c.self.invariant.linked)
          c.self.invariant) ∙ ap (λ v. v.order) c.self.view_is
      | in-Err w ↦ ap (λ s. walk (links s) (length s.slots) first) w.in-Err.ensures.err
          ∙ ap (λ v. v.order) c.self.view_is
    ]

pub returns-clause-succeeds : goal.returns-clause-succeeds
returns-clause-succeeds g c = λ room.
    let here = subst (λ v. HasRoomFor v.items 1) (sym c.self.view_is) room in
    let ok = c.insert.ensures.succeeds (omega (arith, here, count-items c.self.inside.nodes.slots)) in
    elim c.match-insert.branch [
      | in-Ok w ↦ rw w.result-is refl
      | in-Err w ↦ absurd (true≢false (sym ok ∙ ap is_ok w.in-Err.is))
    ]

pub returns-clause-len : goal.returns-clause-len
returns-clause-len g c =
    let old = c.self.inside.nodes in
    elim c.match-insert.branch [
      | in-Ok w ↦ rw (w.result-is, ← c.self.view_is)
          (omega (arith, w.in-Ok.ensures.len, count-items old.slots, count-items c.insert.new.self.slots))
      | in-Err w ↦ rw w.result-is tt
    ]
