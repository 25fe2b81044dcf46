use Rattle.std.proofs.Common.{◌≡◌, Some, None, sym, ap, ◌∙◌, subst, rules, slice_index_or, slice_set}
use Rattle.std.specs.Option.{option_map}
use Rattle.slab.specs.Slab.{with_value}
use Rattle.lru_metered.specs.declared.index.Entry.{Entry}
use Rattle.lru_metered.specs.Index.{nexts, IsBucketed, placed}
use Rattle.lru_metered.proofs.IndexLemmas.{bucketed-put}
use Rattle.lru_metered.proofs.TableLemmas.{written-here, written-others}
use Rattle.lru_metered.proofs.index.hook.Goals as goal

pub returns-clause-bucketed : goal.returns-clause-bucketed
returns-clause-bucketed g c = λ home old none.
    let items = c.args.nodes.now.items in let heads = c.args.heads.now in let at = c.args.at in let e =
    c.item_mut.result.now in
    let w : Entry g.row.K.Denot g.row.V.Denot =
    record { key = e.key; value = e.value; next = c.replace-next.result } in
    let head : c.replace-next.result ≡ slice_index_or heads c.args.bucket None = search rules in
    subst (λ d. IsBucketed (nexts (with_value items at w)) (placed at (Some c.args.bucket) home)
    (slice_set heads c.args.bucket d)) (sym c.replace-next.ensures.after)
    (bucketed-put (nexts items) home heads (nexts (with_value items at w)) c.args.bucket at c.requires.within
    old none
    (ap (option_map (λ (n : Entry g.row.K.Denot g.row.V.Denot). n.next))
    (written-here items at e w c.item_mut.ensures.value) ∙ ap (λ o. Some o) head)
    (λ x differs. ap (option_map (λ (n : Entry g.row.K.Denot g.row.V.Denot). n.next))
    (written-others items at e w c.item_mut.ensures.value x differs)))
