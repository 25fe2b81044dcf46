use Rattle.std.proofs.Common.{◌∙◌, string_bytes}
use Rattle.quota.proofs.ClientLemmas.{placed}
use Rattle.quota.proofs.clients.Clients.place_of.Goals as goal

pub returns-clause-place : goal.returns-clause-place
returns-clause-place c = rw (← c.self.view_is) (c.get_index_of.ensures.index
    ∙ placed string_bytes c.args.name.now c.self.inside.limits.entries)
