use Rattle.std.proofs.Common.{◌∙◌}
use Rattle.std.specs.Prelude.{nat_eq}
use Rattle.row_index.specs.Lookup.{value_at}
use Rattle.quota.specs.Holdings.{share_new}
use Rattle.quota.proofs.GrowLemmas.{newest_push}
use Rattle.quota.proofs.holdings.push_share.Goals as goal

pub returns-clause-newest : goal.returns-clause-newest
returns-clause-newest c =
    let a = c.args in
    rw (c.in-Ok.ensures.items, c.newest-before.ensures)
    (newest_push a.shares.now.items (λ n. value_at nat_eq n a.places.now.newest)
    (λ n. value_at nat_eq n c.add.new.self.newest)
    (share_new a.key.reg a.key.client (value_at nat_eq a.key.reg a.places.now.newest)) c.len-place.result
    (c.len-place.ensures ∙ a.shares.now.ok.0) c.add.ensures.newest c.requires.newest)
