use Rattle.std.proofs.Common.{◌≡◌}
use Rattle.std.specs.Option.{option_map}
use Rattle.run_lines.specs.Fields.{items_behind, archive_at}
use Rattle.run_lines.proofs.PartLemmas.{put_before, room_of}
use Rattle.run_lines.proofs.lists.archives_behind.Given as goal

abbrev pub invariant-loop-left : goal.invariant-loop-left
invariant-loop-left l = put_before l.list.items (items_behind archive_at (option_map (λ rest. rest.now) l.left))
    ≡ items_behind archive_at (option_map (λ rest. rest.now) l.fn.behind)

abbrev pub decreases-loop-left : goal.decreases-loop-left
decreases-loop-left l = room_of (option_map (λ rest. rest.now) l.left)
