use Rattle.std.proofs.Common.{◌≡◌, ◌∙◌, filter, sym, subst}
use Rattle.core_rules.proofs.StateLemmas.{on_ok}
use Rattle.row_index.specs.Lists.{list_at}
use Rattle.reservations.specs.Own.{is_own_at, IsOwnList}
use Rattle.reservations.proofs.OwnRowLemmas.{own_put, own_kept, own_alike, own_swept}
use Rattle.reservations.proofs.own.sweep.Goals as goal

pub returns-clause-own : goal.returns-clause-own
returns-clause-own g c =
    let bs = c.args.bookings.now.rows in
    let old = c.args.own.now.lists in
    let reg = c.args.reg in
    let kept : c.in_ok-kept.kept.items ≡ filter (is_own_at reg bs) (list_at old reg) =
    rw (c.rows.ensures, c.of.ensures) at c.in_ok-kept.ensures.kept in
    own_alike bs c.replace.new.self.lists c.make_room.new.self.lists
    (own_put bs old c.replace.new.self.lists reg c.in_ok-kept.kept.items c.requires.own
    (subst (IsOwnList reg bs) (sym kept) (own_kept reg bs (list_at old reg) (c.requires.own reg)))
    c.replace.ensures.lists) c.make_room.ensures.lists

pub returns-clause-swept : goal.returns-clause-swept
returns-clause-swept g c =
    let bs = c.args.bookings.now.rows in
    let old = c.args.own.now.lists in
    let reg = c.args.reg in
    let kept : c.in_ok-kept.kept.items ≡ filter (is_own_at reg bs) (list_at old reg) =
    rw (c.rows.ensures, c.of.ensures) at c.in_ok-kept.ensures.kept in
    on_ok c.make_room.result (list_at c.make_room.new.self.lists reg ≡ filter (is_own_at reg bs) (list_at old reg))
    (own_swept old c.replace.new.self.lists c.make_room.new.self.lists reg c.in_ok-kept.kept.items
    c.replace.ensures.lists c.make_room.ensures.lists ∙ kept)
