use Rattle.std.proofs.Common.{◌∙◌, sym, ap}
use Rattle.row_index.specs.Lists.{items_in}
use Rattle.row_index.proofs.ListLemmas.{list_seen}
use Rattle.row_index.proofs.numbered_lists.NumberedLists.of.Goals as goal

pub returns-in-Some : goal.returns-in-Some
returns-in-Some c = let s = c.self.inside in
    rw (← c.self.view_is)
    (c.as_slice.ensures.value ∙ ap (items_in (λ v. v.items)) c.in-Some.ensures.value
    ∙ sym (list_seen (λ v. v.items) s.lists.entries c.args.number))

pub returns-in-None : goal.returns-in-None
returns-in-None c = let s = c.self.inside in
    rw (← c.self.view_is)
    (ap (items_in (λ v. v.items)) c.in-None.ensures.value
    ∙ sym (list_seen (λ v. v.items) s.lists.entries c.args.number))
