use Rattle.std.proofs.Common.{◌∙◌, sym}
use Rattle.reservations.proofs.BookingLemmas.{reserve_leaves, commit_leaves, undo_leaves, update_leaves}
use Rattle.reservations.proofs.BookingLemmas.{refused_leaves}
use Rattle.reservations.proofs.OwnRowLemmas.{own_after, beat_is, drain_is}
use Rattle.reservations.proofs.own.absorb.Goals as goal

pub returns-in-Reserve-clause-rows : goal.returns-in-Reserve-clause-rows
returns-in-Reserve-clause-rows c = rw c.in-Reserve.is (reserve_leaves c.args.step.now.now c.in-Reserve.field-0
    c.args.bookings.now.rows)

pub settle-requires : goal.settle-requires
settle-requires c = rw c.in-Commit.is (commit_leaves c.args.step.now.now c.in-Commit.job c.in-Commit.state c.in-Commit.kept)

pub settle-requires-in-Undo : goal.settle-requires-in-Undo
settle-requires-in-Undo c = rw c.in-Undo.is (undo_leaves c.args.step.now.now c.in-Undo.job c.in-Undo.noted c.in-Undo.ended)

pub settle-requires-then-accepted : goal.settle-requires-then-accepted
settle-requires-then-accepted c = rw c.in-Update.is
    (update_leaves c.args.step.now.now c.in-Update.server c.in-Update.job c.in-Update.state c.in-Update.answer)

pub returns-in-Commit-clause-own : goal.returns-in-Commit-clause-own
returns-in-Commit-clause-own c = let a = c.args in
    rw c.settle.ensures.rows (own_after a.step.now a.bookings.now.rows a.own.now.lists c.requires)

pub returns-in-Undo-clause-own : goal.returns-in-Undo-clause-own
returns-in-Undo-clause-own c = let a = c.args in
    rw c.settle-in-Undo.ensures.rows (own_after a.step.now a.bookings.now.rows a.own.now.lists c.requires)

pub returns-then-accepted-clause-own : goal.returns-then-accepted-clause-own
returns-then-accepted-clause-own c = let a = c.args in
    rw c.settle-then-accepted.ensures.rows
    (own_after a.step.now a.bookings.now.rows a.own.now.lists c.requires)

pub returns-else-accepted-clause-rows : goal.returns-else-accepted-clause-rows
returns-else-accepted-clause-rows c = rw c.in-Update.is
    (refused_leaves c.args.step.now.now c.in-Update.server c.in-Update.job c.in-Update.state
    c.in-Update.answer
    (sym c.accepted.ensures ∙ c.if-accepted.false) c.args.bookings.now.rows)

pub returns-in-Beat-clause-rows : goal.returns-in-Beat-clause-rows
returns-in-Beat-clause-rows c =
    let does = rw (c.get.ensures.items, c.get-in-Beat.ensures.items) at c.beat.ensures.rows in
    rw c.in-Beat.is (does ∙ beat_is c.args.step.now.now c.in-Beat.server c.in-Beat.nonce c.in-Beat.cpus c.in-Beat.key
    c.in-Beat.pruned
    c.in-Beat.reaped c.in-Beat.replaced c.in-Beat.is_new c.args.bookings.now.rows)

pub returns-in-Drain-clause-rows : goal.returns-in-Drain-clause-rows
returns-in-Drain-clause-rows c = rw c.in-Drain.is (drain_is c.args.step.now.now c.in-Drain.server c.in-Drain.nonce
    c.in-Drain.on c.in-Drain.reg c.args.bookings.now.rows)
