use Rattle.std.proofs.Common.{sym, ap, ◌∙◌}
use Rattle.serde_json.specs.View.{view}
use Rattle.disk_cache.specs.WeakMaps.{recorded}
use Rattle.disk_cache.proofs.JsonLemmas.{has_texts, recorded_in}
use Rattle.disk_cache.proofs.weak_map.WeakMap.recorded.Goals as goal

pub returns : goal.returns
returns c =
    c.text_at.ensures
    ∙ (sym (recorded_in c.args.key.now (view c.self.inside.value) _ (has_texts _ c.self.invariant))
    ∙ ap (recorded c.args.key.now) c.self.view_is)
