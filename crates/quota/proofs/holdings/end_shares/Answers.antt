use Rattle.std.proofs.Common.{length, ap, ◌∙◌, sym, subst}
use Rattle.std.proofs.lemmas.List.{length-set}
use Rattle.quota.proofs.HoldingLemmas.{counted_over}
use Rattle.quota.proofs.LinkLemmas.{IsEnding, ending_next, ending_done, linked_alike, over_alike, over_listed}
use Rattle.quota.proofs.holdings.end_shares.Goals as goal

pub loop-at-preserved : goal.loop-at-preserved
loop-at-preserved c =
    let l = c.loop-at in
    let a = c.args in
    let takes = c.end_share-at.ensures.taken in
    let after = c.end_share-at.new.shares.items in
    let ending = subst (λ o. IsEnding a.reg o a.shares.now.items l.shares.items) c.in-Some.is
    l.invariant.ending in
    record {
      ending = subst (λ o. IsEnding a.reg o a.shares.now.items after)
          (sym (c.end_share-at.ensures.before takes.share takes.at))
          (ending_next a.reg c.in-Some.place a.shares.now.items l.shares.items after takes.share ending
          l.invariant.linked takes.at takes.changed);
      linked = linked_alike l.shares.items after
          (over_alike l.shares.items after c.in-Some.place takes.share takes.at takes.changed)
          l.invariant.linked;
      listed = over_listed l.shares.items after l.held.items c.end_share-at.new.held.items c.in-Some.place _
          takes.share takes.at takes.changed takes.lowered l.invariant.listed;
      counted = λ rows first. counted_over rows l.shares.items after l.held.items
          c.end_share-at.new.held.items
          c.in-Some.place takes (l.invariant.counted rows first);
      len = ap length takes.lowered ∙ length-set l.held.items takes.share.client _ ∙ l.invariant.len;
    }

pub returns-clause-shares : goal.returns-clause-shares
returns-clause-shares c =
    let l = c.loop-at in
    ending_done c.args.reg l.at c.args.shares.now.items l.shares.items l.invariant.ending
    (λ place is. c.in_default.not-Some place is)
