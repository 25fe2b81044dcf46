use Rattle.std.proofs.Common.{◌≡◌, ◌++◌, ◌∷◌, [], Some, None, true, is_some, IfSome, length, refl}
use Rattle.std.proofs.Common.{sym, ap, ◌∙◌, subst}
use Rattle.lru_metered.specs.Chain.{links, walk, with_ends, with_next, with_previous, without}
use Rattle.lru_metered.proofs.ChainLemmas.{moved-chain, last-moved, without-at, settled, order-walked}
use Rattle.lru_metered.proofs.ChainLemmas.{still-if, last-held, outer_end}
use Rattle.lru_metered.proofs.SeenLemmas.{cut-seen, seen-held}
use Rattle.lru_metered.proofs.chain.Chain.move_to_back.Goals as goal

pub returns-then-is_last-clause-order : goal.returns-then-is_last-clause-order
returns-then-is_last-clause-order g c =
    let s = c.self.inside.nodes in let first = c.self.inside.first in let last = c.self.inside.last
    in let key = c.args.at in
    let order = walk (links s) (length s.slots) first in
    let cut = cut-seen s first last _ key c.self.invariant (ap (λ v. v.order) c.self.view_is) c.requires in
    let same = last-moved (links s) first last order key cut (c.is_last.ensures.yes c.if-is_last.true) in
    rw (← c.self.view_is) (same ∙ ap (λ l. l ++ key ∷ [])
    (sym (without-at (links s) first last order key cut)))

pub relink-ends-requires : goal.relink-ends-requires
relink-ends-requires g c =
    ap is_some (cut-seen c.self.inside.nodes c.self.inside.first c.self.inside.last _ c.args.at c.self.invariant
    (ap (λ v. v.order) c.self.view_is) c.requires).ends

pub join-requires-clause-previous : goal.join-requires-clause-previous
join-requires-clause-previous g c =
    (seen-held c.self.inside.nodes c.self.inside.first c.self.inside.last _ c.args.at c.self.invariant
    (ap (λ v. v.order) c.self.view_is) c.requires c.relink-ends.new.nodes c.relink-ends.result
    (with_ends c.self.inside.last None) c.relink-ends.ensures.was c.relink-ends.ensures.changed).0

pub join-requires-clause-next : goal.join-requires-clause-next
join-requires-clause-next g c =
    (seen-held c.self.inside.nodes c.self.inside.first c.self.inside.last _ c.args.at c.self.invariant
    (ap (λ v. v.order) c.self.view_is) c.requires c.relink-ends.new.nodes c.relink-ends.result
    (with_ends c.self.inside.last None) c.relink-ends.ensures.was c.relink-ends.ensures.changed).1

pub set_next-requires : goal.set_next-requires
set_next-requires g c =
    let s = c.self.inside.nodes in let last = c.self.inside.last in let one = c.relink-ends.new.nodes in
    let ends = c.relink-ends.result in let joined = c.join.ensures.changed in
    let there = subst (λ o. IfSome o (λ x. is_some (links s x) ≡ true)) (sym c.self.invariant.ends)
    (last-held (links s) None (walk (links s) (length s.slots) c.self.inside.first) None
    c.self.invariant.linked) in
    let after-one = still-if (links s) (links one) (Some c.args.at)
    (with_ends last None) c.relink-ends.ensures.changed last there in
    let after-mid = still-if (links one) joined.0 ends.0 (with_next ends.1) joined.1 last after-one in
    still-if joined.0 (links c.join.new.nodes) ends.1 (with_previous ends.0) joined.2 last after-mid

pub invariant_of-self : goal.invariant_of-self
invariant_of-self g c =
    let s = c.self.inside.nodes in let first = c.self.inside.first in let last = c.self.inside.last
    in let key = c.args.at in
    let order = walk (links s) (length s.slots) first in
    let cut = cut-seen s first last _ key c.self.invariant (ap (λ v. v.order) c.self.view_is) c.requires in
    let ends = c.relink-ends.result in let new = c.join.new.nodes in let joined = c.join.ensures.changed
    in let later = c.set_next.new.nodes in
    let made = moved-chain (links s) (links c.relink-ends.new.nodes) joined.0
    (links new) first last order key ends (last, None) cut c.relink-ends.ensures.was
    c.relink-ends.ensures.changed joined.1 joined.2 (links later)
    (c.is_last.ensures.no c.if-is_last.false) refl c.set_next.ensures.changed in
    rw c.outer-self-inside.ensures (settled later (outer_end first ends.0 ends.1) (Some key)
    ((cut.front ++ cut.back) ++ key ∷ []) made)

pub returns-clause-order : goal.returns-clause-order
returns-clause-order g c =
    let s = c.self.inside.nodes in let first = c.self.inside.first in let last = c.self.inside.last
    in let key = c.args.at in
    let order = walk (links s) (length s.slots) first in
    let cut = cut-seen s first last _ key c.self.invariant (ap (λ v. v.order) c.self.view_is) c.requires in
    let ends = c.relink-ends.result in let new = c.join.new.nodes in let joined = c.join.ensures.changed
    in let later = c.set_next.new.nodes in
    let made = moved-chain (links s) (links c.relink-ends.new.nodes) joined.0
    (links new) first last order key ends (last, None) cut c.relink-ends.ensures.was
    c.relink-ends.ensures.changed joined.1 joined.2 (links later)
    (c.is_last.ensures.no c.if-is_last.false) refl c.set_next.ensures.changed in
    rw c.outer-self-inside.ensures (order-walked later (outer_end first ends.0 ends.1) (Some key)
    ((cut.front ++ cut.back) ++ key ∷ []) made ∙ ap (λ l. l ++ key ∷ [])
    (sym (without-at (links s) first last order key cut))
    ∙ ap (λ v. without key v.order ++ key ∷ []) c.self.view_is)
