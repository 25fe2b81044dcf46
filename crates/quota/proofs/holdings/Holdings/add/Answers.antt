use Rattle.std.proofs.Common.{length, map, refl, ap, ◌∙◌}
use Rattle.std.proofs.lemmas.List.{length-set}
use Rattle.quota.specs.Holdings.{link_of, share_raised}
use Rattle.quota.proofs.ListLemmas.{map_kept}
use Rattle.quota.proofs.LinkLemmas.{linked_alike, newest_alike}
use Rattle.quota.proofs.GrowLemmas.{few_counted, grown_counted, added_counted, added_owned}
use Rattle.quota.proofs.holdings.Holdings.add.Goals as goal

pub raise_share-requires-clause-small : goal.raise_share-requires-clause-small
raise_share-requires-clause-small c = let s = c.self.inside in λ share at.
    few_counted s.rows.rows c.share_for-share.new.shares.items s.held.items c.share_for-share.result share
    (grown_counted s.rows.rows s.shares.items c.share_for-share.new.shares.items s.held.items c.args.reg
    c.args.client c.share_for-share.ensures.grown (rw (← c.self.view_is) at c.requires.listed)
    c.self.invariant.counted)
    (rw c.len-made.ensures.count at c.len-made.ensures.few) at

pub invariant_of-self : goal.invariant_of-self
invariant_of-self c =
    let s = c.self.inside in
    let found = c.share_for-share.ensures.found in
    let raises = c.raise_share.ensures.shares found.0 found.1 in
    let alike = ap (λ l. map link_of l) raises.0
    ∙ map_kept link_of c.share_for-share.new.shares.items c.share_for-share.result found.0
    (share_raised found.0) found.1 refl in
    record {
      linked = linked_alike c.share_for-share.new.shares.items c.raise_share.new.shares.items alike
          c.share_for-share.ensures.linked;
      newest_are = newest_alike c.share_for-share.new.shares.items c.raise_share.new.shares.items _ alike
          c.share_for-share.ensures.newest;
      counted = rw (c.push.ensures.rows, raises.0, raises.1)
          (added_counted s.rows.rows s.shares.items c.share_for-share.new.shares.items s.held.items c.args.reg
          c.args.client c.share_for-share.result found.0 _ c.share_for-share.ensures.grown
          (rw (← c.self.view_is) at c.requires.listed) found.1 found.2 refl refl c.self.invariant.counted);
    }

pub returns-clause-owned : goal.returns-clause-owned
returns-clause-owned c =
    let s = c.self.inside in
    let found = c.share_for-share.ensures.found in
    let raises = c.raise_share.ensures.shares found.0 found.1 in
    rw (← c.self.view_is)
    (rw (c.push.ensures.rows, raises.0)
    (added_owned s.rows.rows s.shares.items c.share_for-share.new.shares.items s.held.items c.args.reg
    c.args.client c.share_for-share.result found.0 _ c.share_for-share.ensures.grown found.1 found.2 refl refl
    c.self.invariant.counted))

pub returns-clause-clients : goal.returns-clause-clients
returns-clause-clients c =
    let s = c.self.inside in
    let found = c.share_for-share.ensures.found in
    let raises = c.raise_share.ensures.shares found.0 found.1 in
    rw (← c.self.view_is) (ap (λ l. length l) raises.1 ∙ length-set s.held.items found.0.client _)
