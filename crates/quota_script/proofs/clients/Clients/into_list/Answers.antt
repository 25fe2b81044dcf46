use Rattle.std.proofs.Common.{◌≡◌, ◌∙◌, ap, string_bytes}
use Rattle.std.proofs.lemmas.Iterator.{items_from_collect}
use Rattle.std.proofs.lemmas.Iterator.Consumers.{YieldsList-from_rest}
use Rattle.quota_script.proofs.ClientLemmas.{clients_in, where_ok}
use Rattle.quota_script.proofs.clients.Clients.into_list.Goals as goal

pub returns : goal.returns
returns c = record {
  list = where_ok (λ list. list.items ≡ c.self.inside.limits.entries) _ c.collect.result
      (λ list is. ap (λ es. clients_in string_bytes es) is ∙ c.self.view_is)
      (items_from_collect c.collect.result c.collect.ensures.ran
      (YieldsList-from_rest c.self.inside.limits.entries c.into_iter.ensures.into_iter_gives.0));
}
