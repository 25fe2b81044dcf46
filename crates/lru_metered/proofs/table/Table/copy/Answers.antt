use Rattle.std.proofs.Common.{◌++◌, map, sym, ap, ◌∙◌, subst}
use Rattle.std.specs.List.{IsDistinct}
use Rattle.std.specs.Map.{lookup, keys_of}
use Rattle.std.specs.Map.Iter.{deref_pair}
use Rattle.std.proofs.lemmas.Map.Iter.{rest_so_far, rest_more, iter_end}
use Rattle.lru_metered.specs.Index.{pairs_at}
use Rattle.lru_metered.proofs.ListingLemmas.{distinct-listed}
use Rattle.lru_metered.proofs.TableLemmas.{fresh-key}
use Rattle.lru_metered.proofs.table.Table.copy.Goals as goal

pub put_new-requires : goal.put_new-requires
put_new-requires g c =
    let eq = g.K.PartialEq.eq in let nodes = c.self.inside.nodes in let xs = c.loop-k.yielded in let u =
    c.next.new.self in
    let start = c.into_iter-k-iterator.ensures.into_iter_gives ∙ c.iter-k-items.ensures.rest in
    let more = rest_more deref_pair c.loop-k.k-iterator u c.next.result
    (c.in-Some.k, c.in-Some.v) c.in-Some.is c.next.ensures.steps in
    let whole = c.self.view_is
    ∙ (sym start ∙ (rest_so_far deref_pair xs c.into_iter-k-iterator.result c.loop-k.k-iterator
    c.loop-k.yielded_by ∙ ap (λ l. map deref_pair xs ++ l) more)) in
    let distinct = subst (λ l. IsDistinct eq (keys_of l)) whole
    (distinct-listed eq (pairs_at nodes.items) nodes.order c.self.invariant.differ
    c.self.invariant.full.apart) in
    ap (lookup (eq c.in-Ok-clone.key)) c.loop-k.invariant
    ∙ (ap (λ l. lookup (eq l) (map deref_pair xs))
    (c.requires.keys c.in-Some.k.now c.in-Ok-clone.key c.in-Ok-clone.ensures.cases)
    ∙ fresh-key eq g.met.K.Eq.laws (map deref_pair xs) (c.in-Some.k.now, c.in-Some.v.now) u distinct)

pub returns : goal.returns
returns g c =
    let start = c.into_iter-k-iterator.ensures.into_iter_gives ∙ c.iter-k-items.ensures.rest in
    c.loop-k.invariant ∙ (iter_end deref_pair c.args.self.now c.loop-k.yielded c.into_iter-k-iterator.result
    c.loop-k.k-iterator c.next.new.self c.next.result start c.loop-k.yielded_by c.in-None.is
    c.next.ensures.steps).0
