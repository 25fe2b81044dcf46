use Rattle.std.proofs.Common.{Some, length, refl, ap, ◌∙◌}
use Rattle.std.specs.Option.{option_map}
use Rattle.std.proofs.lemmas.List.{map-set}
use Rattle.slab.specs.Slab.{with_value}
use Rattle.lru_metered.specs.Chain.{links, walk, item_of}
use Rattle.lru_metered.proofs.ChainLemmas.{chain-item, settled, order-walked, get-items}
use Rattle.lru_metered.proofs.chain.Chain.item_mut.Goals as goal

pub invariant_of-self-lent : goal.invariant_of-self-lent
invariant_of-self-lent g c = λ w.
    let s = c.self.inside.nodes in let first = c.self.inside.first in let last = c.self.inside.last in let n =
    c.index_mut-node.result.now in
    let order = walk (links s) (length s.slots) first in
    settled (with_value s c.args.key (record { item = w; neighbours = n.neighbours })) first last
    order (chain-item s c.args.key n (record { item = w; neighbours = n.neighbours }) first
    last order c.index_mut-node.ensures.value refl c.self.invariant)

pub returns : goal.returns
returns g c =
    let s = c.self.inside.nodes in let first = c.self.inside.first in let last = c.self.inside.last in let n =
    c.index_mut-node.result.now in let key = c.args.key in
    let order = walk (links s) (length s.slots) first in
    let kept = λ (w : g.row.T.Denot).
    order-walked (with_value s key (record { item = w; neighbours = n.neighbours })) first last
    order (chain-item s key n (record { item = w; neighbours = n.neighbours }) first last order
    c.index_mut-node.ensures.value refl c.self.invariant) in
    let items = λ (w : g.row.T.Denot). map-set (option_map item_of) s.slots key
    (Some (record { item = w; neighbours = n.neighbours })) in
    rw (← c.self.view_is) (
      (
        refl,
        λ w. λ i. record {
          items = record {
            slots = items w i;
            vacant_key = s.vacant_key;
            capacity = s.capacity;
          };
          order = kept w i;
        },
      ),
      record {
        writes_back = tt;
        value = get-items s.slots key
            ∙ ap (option_map item_of) c.index_mut-node.ensures.value;
      },
    )
