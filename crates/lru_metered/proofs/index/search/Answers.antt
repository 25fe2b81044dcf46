use Rattle.std.proofs.Common.{None, ◌<◌, length, sym, subst, slice_index_or}
use Rattle.lru_metered.specs.Index.{nexts}
use Rattle.lru_metered.proofs.IndexLemmas.{trail}
use Rattle.lru_metered.proofs.SearchLemmas.{Searched, searched-none, searched-more, searched-shorter}
use Rattle.lru_metered.proofs.SearchLemmas.{searched-all}
use Rattle.lru_metered.proofs.index.search.Goals as goal

pub loop-current-init : goal.loop-current-init
loop-current-init g c =
    searched-none (g.K.PartialEq.eq c.args.key.now) c.args.nodes.now.items
    (slice_index_or c.args.heads.now c.args.bucket None) c.requires.lists.0 c.requires.lists.1

pub loop-current-smaller : goal.loop-current-smaller
loop-current-smaller g c =
    let test = g.K.PartialEq.eq c.args.key.now in let items = c.args.nodes.now.items in let head =
    slice_index_or c.args.heads.now c.args.bucket None in
    subst (λ o. length (trail (nexts items) (length items.slots) c.item-entry.result.now.next) < length
    (trail (nexts items) (length items.slots) o)) (sym c.in-Some.is)
    (searched-shorter test items head c.loop-current.previous c.in-Some.at c.item-entry.result.now
    c.item-entry.ensures (subst (Searched test items head c.loop-current.previous) c.in-Some.is
    c.loop-current.invariant))

pub loop-current-preserved : goal.loop-current-preserved
loop-current-preserved g c =
    let test = g.K.PartialEq.eq c.args.key.now in let items = c.args.nodes.now.items in let head =
    slice_index_or c.args.heads.now c.args.bucket None in
    searched-more test items head c.loop-current.previous c.in-Some.at c.item-entry.result.now
    c.item-entry.ensures (subst (Searched test items head c.loop-current.previous) c.in-Some.is
    c.loop-current.invariant) (sym c.if-eq.ensures)

pub returns-clause-absent : goal.returns-clause-absent
returns-clause-absent g c =
    let test = g.K.PartialEq.eq c.args.key.now in let items = c.args.nodes.now.items in let head =
    slice_index_or c.args.heads.now c.args.bucket None in
    searched-all test items head c.loop-current.previous
    (subst (Searched test items head c.loop-current.previous) c.in_default.is c.loop-current.invariant)
