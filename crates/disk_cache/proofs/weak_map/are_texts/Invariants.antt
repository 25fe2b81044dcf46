-- All members are texts where those left are.
use Rattle.std.proofs.Common.{◌≡◌, is_some}
use Rattle.serde_json.specs.View.{members_view}
use Rattle.disk_cache.specs.WeakMaps.{texts_in}
use Rattle.disk_cache.proofs.weak_map.are_texts.Given as goal

abbrev pub invariant-loop-member : goal.invariant-loop-member
invariant-loop-member l = is_some (texts_in (members_view l.member-iterator)) ≡ is_some
    (texts_in (members_view l.members.entries))
