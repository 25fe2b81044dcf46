use Rattle.std.proofs.Common.{refl, string_bytes}
use Rattle.quota_script.proofs.ClientLemmas.{listed_last}
use Rattle.quota_script.proofs.clients.Clients.push.Goals as goal

pub returns : goal.returns
returns c = record {
  pushed = rw (← c.self.view_is) (listed_last _ string_bytes (λ j k. refl) c.into_inner-name.result c.args.name
      c.args.limit c.self.inside.limits.entries c.insert.new.self.entries c.into_inner-name.ensures.text
      (rw c.self.view_is c.requires.new) c.in_ok-insert.ensures.entries);
}
