use Rattle.std.proofs.Common.{sym, ap, ◌∙◌}
use Rattle.serde_json.specs.Read.{read}
use Rattle.disk_cache.proofs.JsonLemmas.{json_of-utf8, json_of_none}
use Rattle.disk_cache.proofs.weak_map.json_of.Goals as goal

pub returns-in_default : goal.returns-in_default
returns-in_default c = sym (json_of_none c.args.bytes.now c.in_default.ensures.cases.0)

pub returns-in-Ok-from_str : goal.returns-in-Ok-from_str
returns-in-Ok-from_str c =
    sym (json_of-utf8 c.args.bytes.now c.in-Ok.ensures.cases.1 ∙ ap read (sym c.in-Ok.ensures.cases.0)
    ∙ c.in-Ok-from_str.ensures.ok)
