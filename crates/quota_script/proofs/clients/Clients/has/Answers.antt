use Rattle.std.proofs.Common.{◌∙◌, string_bytes}
use Rattle.quota_script.proofs.ClientLemmas.{listed_is}
use Rattle.quota_script.proofs.clients.Clients.has.Goals as goal

pub returns : goal.returns
returns c = record {
  listed = rw (← c.self.view_is)
      (c.contains_key.ensures ∙ listed_is string_bytes c.args.name.now c.self.inside.limits.entries);
}
