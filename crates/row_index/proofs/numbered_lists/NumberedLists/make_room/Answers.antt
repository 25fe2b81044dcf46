use Rattle.std.proofs.Common.{◌∙◌}
use Rattle.row_index.proofs.ListLemmas.{room_made, same_seen}
use Rattle.row_index.proofs.numbered_lists.NumberedLists.make_room.Goals as goal

pub returns-clause-lists : goal.returns-clause-lists
returns-clause-lists c = let s = c.self.inside in
    rw (← c.self.view_is) (room_made (λ v. v.items) s.lists.entries c.reserve.new.self.entries
    c.remove.new.self.entries c.insert.new.self.entries c.args.number c.remove.result c.reserve-grown.new.self
    c.reserve.ensures.entries.2 c.remove.ensures.updates.0 c.remove.ensures.value
    (c.reserve-grown.ensures.items ∙ c.or_empty-list.ensures) c.in-Ok.ensures.updates.0)

pub returns-in_err-grown-clause-lists : goal.returns-in_err-grown-clause-lists
returns-in_err-grown-clause-lists c = let s = c.self.inside in
    rw (← c.self.view_is) (room_made (λ v. v.items) s.lists.entries c.reserve.new.self.entries
    c.remove.new.self.entries c.insert.new.self.entries c.args.number c.remove.result c.reserve-grown.new.self
    c.reserve.ensures.entries.2 c.remove.ensures.updates.0 c.remove.ensures.value
    (c.reserve-grown.ensures.items ∙ c.or_empty-list.ensures) c.in-Ok.ensures.updates.0)

pub returns-then-has_room-clause-lists : goal.returns-then-has_room-clause-lists
returns-then-has_room-clause-lists c = let s = c.self.inside in
    rw (← c.self.view_is) (same_seen (λ v. v.items) s.lists.entries c.reserve.new.self.entries
    c.reserve.ensures.entries.2)
