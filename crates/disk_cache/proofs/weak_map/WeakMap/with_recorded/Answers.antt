use Rattle.std.proofs.Common.{is_some, unwrap_or, [], ap, ◌∙◌}
use Rattle.disk_cache.specs.WeakMaps.{with_recorded}
use Rattle.disk_cache.proofs.JsonLemmas.{has_texts, recorded_value}
use Rattle.disk_cache.proofs.weak_map.WeakMap.with_recorded.Goals as goal

pub invariant_of-result : goal.invariant_of-result
invariant_of-result c =
    ap is_some (recorded_value c.self.inside.value c.in_ok-members.field-0 c.in-Object.members
    c.in_ok-members-2.members c.args.key.now c.args.tc.now c.archive_id.result.now _
    (has_texts _ c.self.invariant) c.in_ok-members.ensures.cases c.in-Object.is c.in_ok-members-2.ensures
    c.archive_id.ensures.id)

pub returns : goal.returns
returns c =
    ap (λ o. unwrap_or o [])
    (recorded_value c.self.inside.value c.in_ok-members.field-0 c.in-Object.members
    c.in_ok-members-2.members c.args.key.now c.args.tc.now c.archive_id.result.now _
    (has_texts _ c.self.invariant) c.in_ok-members.ensures.cases c.in-Object.is c.in_ok-members-2.ensures
    c.archive_id.ensures.id)
    ∙ ap (with_recorded c.args.key.now c.args.tc.now) c.self.view_is
