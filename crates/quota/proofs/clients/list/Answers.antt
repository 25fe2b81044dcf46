use Rattle.std.proofs.Common.{◌∙◌}
use Rattle.std.specs.String.{string_eq}
use Rattle.indexmap.proofs.CallerLemmas.{insert_entry-new}
use Rattle.quota.proofs.clients.list.Goals as goal

pub returns-clause-entries : goal.returns-clause-entries
returns-clause-entries c = c.in-Ok.ensures.entries
    ∙ insert_entry-new string_eq c.args.limits.now c.args.name c.args.limit c.requires.new
