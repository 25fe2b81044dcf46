use Rattle.std.proofs.Common.{◌≡◌, ◌+◌, ◌++◌, ◌∷◌, [], map, take, length, refl, ap, ◌∙◌, sym, subst, arith}
use Rattle.std.proofs.lemmas.List.{take_more, take_all}
use Rattle.std.proofs.lemmas.Option.{slice_get_read}
use Rattle.std.proofs.lemmas.Result.{err_from_is_err_and}
use Rattle.build_server.specs.Builds.{builder_of}
use Rattle.farm_laws.proofs.NextLemmas.{run_lawful}
use Rattle.farm_laws.proofs.ReliableLemmas.{run_reliable}
use Rattle.farm_entries.specs.Weather.{calm, free}
use Rattle.farm_run.specs.Farm.{Runs}
use Rattle.farm_run.specs.Stops.{AreGiven}
use Rattle.farm_run.proofs.FarmLemmas.{Runs-push, Runs-entries, Runs-is, Runs-own, Runs-calm, Runs-builds}
use Rattle.farm_run.proofs.FarmLemmas.{Runs-back, Runs-stopped, Runs-grants, run_once, run_grants}
use Rattle.farm_run.proofs.StayLemmas.{Runs-stay}
use Rattle.farm_run.proofs.run.Farm.run.Goals as goal

pub loop-event-preserved : goal.loop-event-preserved
loop-event-preserved g c =
    let more : take (c.loop-event.event-index + 1) c.args.events.now ≡ take c.loop-event.event-index
    c.args.events.now ++ c.event-item.result ∷ [] =
    take_more c.args.events.now c.loop-event.event-index c.event-item.result c.loop-event-test.true
    ∙ ap (λ x. take c.loop-event.event-index c.args.events.now ++ x ∷ []) (sym c.event-item.is) in
    let (w, e, next, moved, is) = c.in_ok-farm.ensures.ok in
    rw more (Runs-push c.args.self (take c.loop-event.event-index c.args.events.now) c.event-item.result
    c.loop-event.farm c.in_ok-farm.farm w e c.loop-event.invariant next moved is)

-- the entries before the event that memory ran out in
pub returns-in_err-farm-clause-err : goal.returns-in_err-farm-clause-err
returns-in_err-farm-clause-err g c =
    let p = err_from_is_err_and c.from_residual.result c.from_residual.ensures.1 in
    rw (p.1, p.2) (
      c.loop-event.event-index,
      (
        c.event-item.result,
        slice_get_read c.args.events.now (length c.args.events.now) c.loop-event.event-index
            c.event-item.result refl c.loop-event-test.true c.event-item.is,
        (
          c.loop-event.farm.outside,
          (
            c.loop-event.farm.hands,
            Runs-entries c.args.self (take c.loop-event.event-index c.args.events.now) c.loop-event.farm
                c.in_err-farm.field-0.0.entries c.loop-event.invariant c.in_err-farm.ensures.err,
            Runs-back c.args.self (take c.loop-event.event-index c.args.events.now) c.loop-event.farm
                c.in_err-farm.field-0.0.entries c.event-item.result.kind
                (map g.F.Folder.held c.in_err-farm.field-0.0.folders.items)
                (λ hs. AreGiven (builder_of g.B.BuilderIncoming.built g.B.BuilderIncoming.refusals)
                g.B.BuilderIncoming.answers hs c.in_err-farm.field-0.0.builders.items) c.loop-event.invariant c.in_err-farm.ensures.err
                c.in_err-farm.ensures.back,
          ),
        ),
      ),
    )

pub returns-in_err-farm-clause-stopped_laws : goal.returns-in_err-farm-clause-stopped_laws
returns-in_err-farm-clause-stopped_laws g c =
    let p = err_from_is_err_and c.from_residual.result c.from_residual.ensures.1 in
    rw (p.1, p.2) (
    run_lawful c.args.self.setup c.in_err-farm.field-0.0.entries c.words.ensures.count
    (Runs-is c.args.self (take c.loop-event.event-index c.args.events.now) c.loop-event.farm
    c.in_err-farm.field-0.0.entries c.loop-event.invariant c.in_err-farm.ensures.err
    c.in_err-farm.ensures.run)
    )

pub returns-in_err-farm-clause-stopped_builds : goal.returns-in_err-farm-clause-stopped_builds
returns-in_err-farm-clause-stopped_builds g c =
    let p = err_from_is_err_and c.from_residual.result c.from_residual.ensures.1 in
    rw (p.1, p.2) (
    Runs-stopped c.args.self (take c.loop-event.event-index c.args.events.now) c.loop-event.farm
    c.in_err-farm.field-0.0.entries c.words.ensures.count c.words.ensures.words c.loop-event.invariant
    c.in_err-farm.ensures.err c.in_err-farm.ensures.run
    )

pub returns-in_err-farm-clause-stopped_once : goal.returns-in_err-farm-clause-stopped_once
returns-in_err-farm-clause-stopped_once g c =
    let p = err_from_is_err_and c.from_residual.result c.from_residual.ensures.1 in
    rw (p.1, p.2) (
    run_once c.args.self.setup c.in_err-farm.field-0.0.entries c.words.ensures.count
    (Runs-is c.args.self (take c.loop-event.event-index c.args.events.now) c.loop-event.farm
    c.in_err-farm.field-0.0.entries c.loop-event.invariant c.in_err-farm.ensures.err
    c.in_err-farm.ensures.run)
    )

pub returns-in_err-farm-clause-stopped_grants : goal.returns-in_err-farm-clause-stopped_grants
returns-in_err-farm-clause-stopped_grants g c =
    let p = err_from_is_err_and c.from_residual.result c.from_residual.ensures.1 in
    rw (p.1, p.2) (
    run_grants c.args.self.setup c.in_err-farm.field-0.0.entries c.words.ensures.words
    (Runs-is c.args.self (take c.loop-event.event-index c.args.events.now) c.loop-event.farm
    c.in_err-farm.field-0.0.entries c.loop-event.invariant c.in_err-farm.ensures.err
    c.in_err-farm.ensures.run)
    )

pub returns-in_err-farm-clause-stopped_reliable : goal.returns-in_err-farm-clause-stopped_reliable
returns-in_err-farm-clause-stopped_reliable g c =
    let p = err_from_is_err_and c.from_residual.result c.from_residual.ensures.1 in
    rw (p.1, p.2) (
    run_reliable free c.args.self.setup c.in_err-farm.field-0.0.entries
    (Runs-is c.args.self (take c.loop-event.event-index c.args.events.now) c.loop-event.farm
    c.in_err-farm.field-0.0.entries c.loop-event.invariant c.in_err-farm.ensures.err
    c.in_err-farm.ensures.run)
    )

pub returns-in_err-farm-clause-stopped_calmly : goal.returns-in_err-farm-clause-stopped_calmly
returns-in_err-farm-clause-stopped_calmly g c =
    let p = err_from_is_err_and c.from_residual.result c.from_residual.ensures.1 in
    rw (p.1, p.2) (λ own.
    run_reliable calm c.args.self.setup c.in_err-farm.field-0.0.entries
    (Runs-calm c.args.self (take c.loop-event.event-index c.args.events.now) c.loop-event.farm
    c.in_err-farm.field-0.0.entries c.loop-event.invariant c.in_err-farm.ensures.err
    c.in_err-farm.ensures.calmly own)
    )

-- all events were run
pub returns-clause-ok : goal.returns-clause-ok
returns-clause-ok g c =
    subst (λ events. Runs c.args.self events c.loop-event.farm)
    (take_all c.loop-event.event-index c.args.events.now (omega (arith, c.loop-event-test.false)))
    c.loop-event.invariant

pub returns-clause-stays : goal.returns-clause-stays
returns-clause-stays g c =
    Runs-stay c.args.self (take c.loop-event.event-index c.args.events.now) c.loop-event.farm
    c.loop-event.invariant

pub returns-clause-laws : goal.returns-clause-laws
returns-clause-laws g c = run_lawful c.loop-event.farm.setup c.loop-event.farm.entries c.obey.ensures.fits
    c.obey.ensures.run

pub returns-clause-builds : goal.returns-clause-builds
returns-clause-builds g c =
    Runs-builds c.args.self (take c.loop-event.event-index c.args.events.now) c.loop-event.farm
    c.words.ensures.count c.words.ensures.words c.loop-event.invariant c.obey.ensures.run

pub returns-clause-once : goal.returns-clause-once
returns-clause-once g c =
    run_once c.loop-event.farm.setup c.loop-event.farm.entries c.obey.ensures.fits c.obey.ensures.run

pub returns-clause-grants : goal.returns-clause-grants
returns-clause-grants g c =
    Runs-grants c.args.self (take c.loop-event.event-index c.args.events.now) c.loop-event.farm
    c.words.ensures.words c.loop-event.invariant c.obey.ensures.run

pub returns-clause-reliable : goal.returns-clause-reliable
returns-clause-reliable g c =
    run_reliable free c.loop-event.farm.setup c.loop-event.farm.entries c.obey.ensures.run

pub returns-clause-calmly : goal.returns-clause-calmly
returns-clause-calmly g c = λ own.
    run_reliable calm c.loop-event.farm.setup c.loop-event.farm.entries (c.obey.ensures.calmly
    (Runs-own c.args.self (take c.loop-event.event-index c.args.events.now) c.loop-event.farm
    c.loop-event.invariant own))
