use Rattle.std.proofs.Common.{◌≡◌, ◌++◌, ◌∷◌, [], Some, None, true, is_some, IfSome, Contains, length, sym}
use Rattle.std.proofs.Common.{ap, ◌∙◌, subst}
use Rattle.lru_metered.specs.Chain.{links, walk, with_ends}
use Rattle.lru_metered.proofs.ChainLemmas.{pushed-chain, settled, order-walked, still-if, last-held}
use Rattle.lru_metered.proofs.ChainLemmas.{outer_end}
use Rattle.lru_metered.proofs.chain.Chain.push_back.Goals as goal

pub set_next-requires : goal.set_next-requires
set_next-requires g c =
    let s = c.self.inside.nodes in let last = c.self.inside.last in
    let there = subst (λ o. IfSome o (λ x. is_some (links s x) ≡ true)) (sym c.self.invariant.ends)
    (last-held (links s) None (walk (links s) (length s.slots) c.self.inside.first) None
    c.self.invariant.linked) in
    still-if (links s) (links c.relink.new.nodes) (Some c.args.at)
    (with_ends last None) c.relink.ensures.changed last there

pub invariant_of-self : goal.invariant_of-self
invariant_of-self g c =
    let s = c.self.inside.nodes in let first = c.self.inside.first in let key = c.args.at in let new =
    c.set_next.new.nodes in
    let order = walk (links s) (length s.slots) first in
    let absent = λ (has : Contains order key). c.requires.apart
    (subst (λ o. Contains o key) (ap (λ v. v.order) c.self.view_is) has) in
    let made = pushed-chain (links s) (links c.relink.new.nodes) (links new) first c.self.inside.last order
    key c.relink.result c.self.invariant absent c.relink.ensures.was c.relink.ensures.changed
    c.set_next.ensures.changed in
    rw c.outer-self-inside.ensures (settled new (outer_end first first (Some key)) (Some key)
    (order ++ key ∷ []) made)

pub returns-clause-order : goal.returns-clause-order
returns-clause-order g c =
    let s = c.self.inside.nodes in let first = c.self.inside.first in let key = c.args.at in let new =
    c.set_next.new.nodes in
    let order = walk (links s) (length s.slots) first in
    let absent = λ (has : Contains order key). c.requires.apart
    (subst (λ o. Contains o key) (ap (λ v. v.order) c.self.view_is) has) in
    let made = pushed-chain (links s) (links c.relink.new.nodes) (links new) first c.self.inside.last order
    key c.relink.result c.self.invariant absent c.relink.ensures.was c.relink.ensures.changed
    c.set_next.ensures.changed in
    rw c.outer-self-inside.ensures (order-walked new (outer_end first first (Some key)) (Some key)
    (order ++ key ∷ []) made ∙ ap (λ v. v.order ++ key ∷ []) c.self.view_is)
