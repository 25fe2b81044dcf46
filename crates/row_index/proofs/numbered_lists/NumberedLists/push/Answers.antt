use Rattle.std.proofs.Common.{◌≡◌, ◌++◌, ◌∷◌, [], Some, refl, ap, ◌∙◌, sym, subst}
use Rattle.std.specs.Prelude.{IsSome}
use Rattle.row_index.specs.Lists.{list_at, items_in, Puts}
use Rattle.row_index.proofs.ListLemmas.{seen, list_seen, put_seen}
use Rattle.row_index.proofs.numbered_lists.NumberedLists.push.Goals as goal

pub returns : goal.returns
returns c = let s = c.self.inside in
    let old = s.lists.entries in
    let new = (c.get_mut.follows.lender c.push.new.self).entries in
    let had : c.in-Some.list.now.items ≡ list_at (seen (λ v. v.items) old) c.args.number =
    ap (items_in (λ v. v.items)) c.in-Some.ensures.value
    ∙ sym (list_seen (λ v. v.items) old c.args.number) in
    let more : c.push.new.self.items ≡ list_at (seen (λ v. v.items) old) c.args.number ++ c.args.place ∷ [] =
    c.in-Ok.ensures.items ∙ ap (λ l. l ++ c.args.place ∷ []) had in
    record {
      lists = rw (← c.self.view_is) (subst (Puts (seen (λ v. v.items) old) (seen (λ v. v.items) new)
          c.args.number)
          more (put_seen (λ v. v.items) old new c.args.number (Some c.push.new.self)
          ((c.get_mut.follows.holds c.push.new.self).3 (subst IsSome c.in-Some.ensures.value refl)).0));
    }
