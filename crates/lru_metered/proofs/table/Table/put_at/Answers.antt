use Rattle.std.proofs.Common.{Some, length, is_some, refl, sym, ap, ◌∙◌, arith}
use Rattle.lru_metered.specs.Listing.{pairs_of}
use Rattle.lru_metered.specs.Metered.{set_at}
use Rattle.lru_metered.proofs.ListingLemmas.{length-pairs}
use Rattle.lru_metered.proofs.PartLemmas.{got}
use Rattle.lru_metered.proofs.SeenLemmas.{held-at}
use Rattle.lru_metered.proofs.TableLemmas.{value-there, table-wrote, pairs-wrote}
use Rattle.lru_metered.proofs.table.Table.put_at.Goals as goal

pub unwrap-at-requires : goal.unwrap-at-requires
unwrap-at-requires g c =
    let nodes = c.self.inside.nodes in
    let at = got nodes.order c.args.place
    (omega (arith, c.requires, ap length c.self.view_is, length-pairs nodes c.self.invariant.full)) in
    ap is_some (c.nth.ensures ∙ at.1)

pub item_mut-requires : goal.item_mut-requires
item_mut-requires g c =
    held-at c.self.inside.nodes c.self.invariant.full c.args.place c.unwrap-at.result
    (sym c.nth.ensures ∙ c.unwrap-at.ensures)

pub invariant_of-self : goal.invariant_of-self
invariant_of-self g c =
    let e = c.item_mut.result.now in
    table-wrote _ _ g.met.K.Eq.laws c.self.inside.nodes _ c.self.invariant c.unwrap-at.result e
    (record { key = e.key; value = c.replace.new.dest; next = e.next }) c.item_mut.ensures.value refl refl

pub returns-clause-pairs : goal.returns-clause-pairs
returns-clause-pairs g c =
    let t = c.self.invariant in let nodes = c.self.inside.nodes in
    let there = sym c.nth.ensures ∙ c.unwrap-at.ensures in
    let e = c.item_mut.result.now in
    rw (← c.self.view_is) (pairs-wrote _ _ g.met.K.Eq.laws nodes _ t c.unwrap-at.result e
    (record { key = e.key; value = c.replace.new.dest; next = e.next }) c.item_mut.ensures.value refl refl
    c.args.place there
    ∙ ap (set_at (pairs_of nodes) c.args.place) c.replace.ensures.after)

pub returns-clause-old : goal.returns-clause-old
returns-clause-old g c =
    let t = c.self.invariant in let nodes = c.self.inside.nodes in
    let there = sym c.nth.ensures ∙ c.unwrap-at.ensures in
    let e = c.item_mut.result.now in
    rw (← c.self.view_is) (value-there _ _ g.met.K.Eq.laws nodes _ t c.unwrap-at.result e e
    c.item_mut.ensures.value refl refl c.args.place there
    ∙ ap (λ v. Some v) (sym c.replace.ensures.value))
