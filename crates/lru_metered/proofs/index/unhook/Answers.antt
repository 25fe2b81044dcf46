use Rattle.std.proofs.Common.{◌≡◌, Some, None, ap, subst, slice_index_or, MatchOption, Contains}
use Rattle.std.specs.Option.{option_map}
use Rattle.slab.specs.Slab.{with_value, get}
use Rattle.lru_metered.specs.declared.index.Entry.{Entry}
use Rattle.lru_metered.specs.Index.{nexts}
use Rattle.lru_metered.proofs.IndexLemmas.{bucketed-first, bucketed-behind, next-some}
use Rattle.lru_metered.proofs.TableLemmas.{written-here, written-others}
use Rattle.lru_metered.proofs.index.unhook.Goals as goal

pub item_mut-requires : goal.item_mut-requires
item_mut-requires g c =
    let next = nexts c.args.nodes.now.items in let f = c.args.found in let head =
    slice_index_or c.args.heads.now f.bucket None in
    let list = c.requires.lists.0 in
    let leads = subst (λ o. MatchOption o (head ≡ Some f.at)
    (λ p. Contains list p × (next p ≡ Some (Some f.at)))) c.in-Some.is
    (c.requires.leads list c.requires.lists.1) in
    next-some (get c.args.nodes.now.items c.in-Some.previous) (Some f.at) leads.1

pub returns-in-Some-clause-bucketed : goal.returns-in-Some-clause-bucketed
returns-in-Some-clause-bucketed g c = λ home old is.
    let items = c.args.nodes.now.items in let next = nexts items in let f = c.args.found in let heads =
    c.args.heads.now in
    let p = c.in-Some.previous in let e = c.item_mut.result.now in let w : Entry g.row.K.Denot g.row.V.Denot =
    record { key = e.key; value = e.value; next = c.item.result.now.next } in
    let leads = subst (λ o. MatchOption o (slice_index_or heads f.bucket None ≡ Some f.at)
    (λ q. Contains (old.lists f.bucket) q × (next q ≡ Some (Some f.at)))) c.in-Some.is
    (c.requires.leads (old.lists f.bucket) (old.runs f.bucket)) in
    bucketed-behind next home heads (nexts (with_value items p w)) f.bucket f.at p c.item.result.now.next old
    is
    (ap (option_map (λ (n : Entry g.row.K.Denot g.row.V.Denot). n.next)) c.item.ensures) leads.0 leads.1
    (ap (option_map (λ (n : Entry g.row.K.Denot g.row.V.Denot). n.next))
    (written-here items p e w c.item_mut.ensures.value))
    (λ x differs. ap (option_map (λ (n : Entry g.row.K.Denot g.row.V.Denot). n.next))
    (written-others items p e w c.item_mut.ensures.value x differs))

pub returns-in-None-clause-bucketed : goal.returns-in-None-clause-bucketed
returns-in-None-clause-bucketed g c = λ home old is.
    let items = c.args.nodes.now.items in let next = nexts items in let f = c.args.found in let heads =
    c.args.heads.now in
    let first = subst (λ o. MatchOption o (slice_index_or heads f.bucket None ≡ Some f.at)
    (λ q. Contains (old.lists f.bucket) q × (next q ≡ Some (Some f.at)))) c.in-None.is
    (c.requires.leads (old.lists f.bucket) (old.runs f.bucket)) in
    bucketed-first next home heads f.bucket f.at c.item.result.now.next c.requires.within old is
    (ap (option_map (λ (n : Entry g.row.K.Denot g.row.V.Denot). n.next)) c.item.ensures) first
