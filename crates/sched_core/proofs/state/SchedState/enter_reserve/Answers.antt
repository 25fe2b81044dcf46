use Rattle.std.proofs.Common.{length, ap, sym, subst, ◌∙◌}
use Rattle.core_rules.specs.declared.entry.CoreEntry.{CoreEntry}
use Rattle.core_rules.specs.declared.entry.CoreKind.TheVariants.{Reserve}
use Rattle.core_rules.specs.Laws.{IsRule}
use Rattle.core_rules.specs.declared.call.Call.TheVariants as call
use Rattle.core_rules.proofs.LegalLemmas.{core_of}
use Rattle.sched_core.proofs.BookLemmas.{log_room-one}
use Rattle.core_rules.proofs.StateLemmas.{reserved_row}
use Rattle.std.proofs.Common.{◌≤◌, ◌+◌, ◌*◌, ◌^◌, refl, arith}
use Rattle.sched_core.specs.Most.{most_standing}
use Rattle.sched_core.specs.Registrations.{forgiven_in, decide_looks}
use Rattle.sched_core.proofs.LookLemmas.{decided_looks, reserve_bound, twice_power}
use Rattle.sched_core.proofs.MostLemmas.{still_state}
use Rattle.sched_core.proofs.state.SchedState.enter_reserve.Goals as goal

pub returns-in_err-reserved-clause-looks : goal.returns-in_err-reserved-clause-looks
returns-in_err-reserved-clause-looks g c =
    let s = c.self.inside in
    rw (← c.self.view_is) (decided_looks s.start s.journal.log.items s.journal.books _ _ _ c.args.now _ _ _ _
    c.self.invariant c.from.ensures (c.from-2.ensures ∙ c.made.ensures) c.reserved.ensures.looks)

pub made_next-requires-clause-stands : goal.made_next-requires-clause-stands
made_next-requires-clause-stands g c κs within =
    rw (c.in_ok-make_job_room.ensures.lists, c.in_ok-reserved.ensures.reserved)
    (reserved_row c.self.inside.journal.books.lists.rows c.args.now c.self.inside.start.base _)

pub take-requires-clause-rule : goal.take-requires-clause-rule
take-requires-clause-rule g c κs within =
    let s = c.self.inside in
    let step : CoreEntry = record { now = c.args.now; kind = Reserve c.in_ok-reserved.reserved } in
    let reserved = rw (
      c.from.ensures,
      c.from-2.ensures,
      c.made.ensures,
      c.self.invariant.books.rows,
      c.self.invariant.books.made,
    ) at c.in_ok-reserved.ensures.reserved in
    subst (λ l. IsRule (core_of s.start l) step) (sym c.in_ok-make_job_room.ensures.log)
    (call.Reserve c.args.now, tt, ap (λ r. record { now = c.args.now; kind = Reserve r }) reserved)

pub returns-in_err-make_job_room-clause-looks : goal.returns-in_err-make_job_room-clause-looks
returns-in_err-make_job_room-clause-looks g c =
    let s = c.self.inside in
    rw (← c.self.view_is) (decided_looks s.start s.journal.log.items s.journal.books _ _ _ c.args.now _ _ _ _
    c.self.invariant c.from.ensures (c.from-2.ensures ∙ c.made.ensures) c.reserved.ensures.looks)

pub take-requires-clause-log_room : goal.take-requires-clause-log_room
take-requires-clause-log_room g c κs within = rw c.in_ok-make_job_room.ensures.lists
    (log_room-one c.self.inside.journal.books.lists
    (record { now = c.args.now; kind = Reserve c.in_ok-reserved.reserved })
    (length c.make_job_room.new.log.items) c.make_job_room.new.log.len
    c.make_job_room.new.log.capacity c.in_ok-make_job_room.ensures.spare)

pub take-requires-clause-state : goal.take-requires-clause-state
take-requires-clause-state g c κs within =
    let j = c.self.inside.journal in
    let new = c.make_job_room.new in
    let roomy = c.in_ok-make_job_room.ensures in
    let top = roomy.top in
    let places = roomy.places in
    still_state c.self.inside.start j.books new.books _ _ j.log.items new.log.items
    j.log.len j.log.capacity new.log.len new.log.capacity c.self.invariant roomy.lists
    refl roomy.log roomy.log_room roomy.first (omega (arith, top)) (omega (arith, places))

pub returns-in_err-made-clause-looks : goal.returns-in_err-made-clause-looks
returns-in_err-made-clause-looks g c =
    let s = c.self.inside in
    rw (← c.self.view_is) (decided_looks s.start s.journal.log.items s.journal.books _ _ _ c.args.now _ _ _ _
    c.self.invariant c.from.ensures (c.from-2.ensures ∙ c.made.ensures) c.reserved.ensures.looks)

pub returns-clause-looks : goal.returns-clause-looks
returns-clause-looks g c = rw (← c.self.view_is) (λ h fits.
    let s = c.self.inside in
    let chain = rw (
      c.from.ensures,
      c.from-2.ensures,
      c.made.ensures,
      c.self.invariant.books.rows,
      c.self.invariant.books.made,
    )
    at c.reserved.ensures.looks in
    let is = rw (
      c.from.ensures,
      c.from-2.ensures,
      c.made.ensures,
      c.self.invariant.books.rows,
      c.self.invariant.books.made,
    )
    at c.in_ok-reserved.ensures.reserved in
    let small : s.journal.books.places ≤ 2 ^ (h + 1) =
    twice_power s.journal.books.places (most_standing s.journal.log.items) h c.self.invariant.places fits in
    let room : c.make_job_room.new.books.places ≤ 2 ^ (h + 1) =
    subst (λ n. n ≤ 2 ^ (h + 1)) (sym c.in_ok-make_job_room.ensures.places) small in
    subst (λ r. c.take.new.steps ≤ c.args.steps.now + (6 * h + 8) * (1 + length (forgiven_in r))) is
    (reserve_bound c.in_ok-reserved.reserved h c.args.steps.now c.reserved.new.steps c.take.new.steps
    (subst (λ r. c.reserved.new.steps ≤ c.args.steps.now + decide_looks r (h + 1)) (sym is)
    (chain (h + 1) small))
    (c.take.ensures.looks (h + 1) room)))
