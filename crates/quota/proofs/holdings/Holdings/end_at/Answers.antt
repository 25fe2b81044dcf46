use Rattle.std.proofs.Common.{◌≡◌, map, ap, ◌∙◌}
use Rattle.quota.specs.Holdings.{link_of, owned_of}
use Rattle.quota.proofs.LinkLemmas.{linked_alike, newest_alike}
use Rattle.quota.proofs.EndLemmas.{reg_ended, reg_links}
use Rattle.quota.proofs.holdings.Holdings.end_at.Goals as goal

pub invariant_of-self : goal.invariant_of-self
invariant_of-self c =
    let s = c.self.inside in
    let alike : map link_of c.end_shares.new.shares.items ≡ map link_of s.shares.items =
    ap (map link_of) c.end_shares.ensures.shares ∙ reg_links c.args.reg s.shares.items in record {
      linked = linked_alike s.shares.items c.end_shares.new.shares.items alike c.self.invariant.linked;
      newest_are = newest_alike s.shares.items c.end_shares.new.shares.items _ alike
          c.self.invariant.newest_are;
      counted = c.end_shares.ensures.counted s.rows.rows c.self.invariant.counted;
    }

pub returns-clause-owned : goal.returns-clause-owned
returns-clause-owned c = let s = c.self.inside in
    rw (← c.self.view_is) (ap (owned_of s.rows.rows) c.end_shares.ensures.shares
    ∙ reg_ended s.rows.rows s.shares.items c.args.reg)
