use Rattle.std.proofs.Common.{is_some, length, unwrap_or, sym, ap, ◌∙◌}
use Rattle.std.specs.Option.{option_map}
use Rattle.slab.specs.Slab.{get}
use Rattle.lru_metered.specs.Chain.{Ends, links, walk, ends_of}
use Rattle.lru_metered.proofs.ChainLemmas.{links-cut, links-some}
use Rattle.lru_metered.proofs.SeenLemmas.{cut-seen}
use Rattle.lru_metered.proofs.chain.Chain.next_of.Goals as goal

pub index-requires : goal.index-requires
index-requires g c =
    let s = c.self.inside.nodes in
    let cut = cut-seen s c.self.inside.first c.self.inside.last _ c.args.key c.self.invariant
    (ap (λ v. v.order) c.self.view_is) c.requires in
    sym (links-some (get s c.args.key)) ∙ ap is_some cut.ends

pub returns-clause-next : goal.returns-clause-next
returns-clause-next g c = λ front back is.
    let s = c.self.inside.nodes in let key = c.args.key in let node = c.index.result.now in
    let order = walk (links s) (length s.slots) c.self.inside.first in
    let there = links-cut (links s) c.self.inside.first c.self.inside.last order key front back
    c.self.invariant (ap (λ v. v.order) c.self.view_is ∙ is) in
    c.next.ensures.is ∙ ap (λ (e : Ends). e.1) (ap (λ o. unwrap_or o (ends_of node))
    (sym (ap (option_map ends_of) c.index.ensures) ∙ there))
