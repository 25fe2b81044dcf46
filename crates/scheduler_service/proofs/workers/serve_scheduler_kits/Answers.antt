use Rattle.std.proofs.Common.{◌≡◌, length, map, ap, sym, ◌∙◌, arith, subst}
use Rattle.std.specs.Prelude.{All}
use Rattle.std.specs.List.{sum_by}
use Rattle.std.proofs.lemmas.List.{length-map}
use Rattle.std.proofs.lemmas.List.Elements.{All-map}
use Rattle.sched.specs.Outside.{moments}
use Rattle.sched.specs.Pass.{IsPassOf, IsSplit, held_of, split_off, Rises}
use Rattle.http_connections.specs.Tally.{Worked}
use Rattle.http_connections.proofs.KitLemmas.{slice_back}
use Rattle.scheduler_service.specs.Connection.{IsReplied}
use Rattle.scheduler_service.specs.Workers.{around, AreJoined, AreTakenBack}
use Rattle.scheduler_service.proofs.HeldLemmas.{none_taken, on_err, sum_same, sum_mapped, all_back}
use Rattle.scheduler_service.proofs.HeldLemmas.{counting_of}
use Rattle.scheduler_service.proofs.HiredLemmas.{each_worker, hired_of, stayed_of, hired_late, hired_early}
use Rattle.scheduler_service.proofs.HiredLemmas.{gathered_all}
use Rattle.scheduler_service.proofs.workers.serve_scheduler_kits.Goals as goal

pub returns-in_err-back-clause-left : goal.returns-in_err-back-clause-left
returns-in_err-back-clause-left g c =
    on_err c.from_residual.result (AreTakenBack (length c.args.kits.now.items) c.args.pass.now
    c.args.pass.now)
    (none_taken (length c.args.kits.now.items) c.args.pass.now)

pub returns-in_err-workers-clause-left : goal.returns-in_err-workers-clause-left
returns-in_err-workers-clause-left g c =
    on_err c.from_residual-in_err-workers.result
    (AreTakenBack (length c.args.kits.now.items) c.args.pass.now c.args.pass.now)
    (none_taken (length c.args.kits.now.items) c.args.pass.now)

pub returns-in_err-passes-clause-left : goal.returns-in_err-passes-clause-left
returns-in_err-passes-clause-left g c =
    on_err c.from_residual-in_err-passes.result
    (AreTakenBack (length c.args.kits.now.items) c.args.pass.now c.args.pass.now)
    (none_taken (length c.args.kits.now.items) c.args.pass.now)

pub hire-workers-requires-clause-split : goal.hire-workers-requires-clause-split
hire-workers-requires-clause-split g c κs within =
    hired_late _ c.args.pass.now _ _ c.in_ok-passes-2.ensures.counted c.in_ok-passes-2.ensures.split

pub work_all-requires-clause-passes : goal.work_all-requires-clause-passes
work_all-requires-clause-passes g c κs within =
    rw c.deref_mut.ensures.value
    (hired_of (λ w. w.pass) c.args.scheduler.now c.args.pass.now c.hire-workers.result.items c.requires.pass
    (hired_early (λ w. w.pass) _ c.args.pass.now _ c.hire-workers.result.items c.in_ok-passes-2.ensures.counted
    c.hire-workers.ensures.split))

pub gather-requires-clause-pass : goal.gather-requires-clause-pass
gather-requires-clause-pass g c κs within =
    rw c.in_ok-passes-2.ensures.counted (counting_of c.args.scheduler.now _ c.args.pass.now c.requires.pass)

pub gather-requires-clause-passes : goal.gather-requires-clause-passes
gather-requires-clause-passes g c κs within =
    let hired = c.hire-workers.result in
    let theirs = c.work_all.new.workers in
    let same : length theirs ≡ length hired.items =
    omega (arith, c.work_all.auto.workers, ap length c.deref_mut.ensures.value) in
    let back = slice_back theirs hired.items hired.len same (omega (arith, hired.ok.0)) in
    subst (λ ws. All (λ w. IsPassOf c.args.scheduler.now w.pass) ws) (sym back)
    (stayed_of (λ w. w.pass) c.args.scheduler.now hired.items theirs same
    (hired_of (λ w. w.pass) c.args.scheduler.now c.args.pass.now hired.items c.requires.pass
    (hired_early (λ w. w.pass) _ c.args.pass.now _ hired.items c.in_ok-passes-2.ensures.counted
    c.hire-workers.ensures.split))
    (rw c.deref_mut.ensures.value at c.work_all.ensures.stay))

pub returns-clause-worked : goal.returns-clause-worked
returns-clause-worked g c =
    let hired = c.hire-workers.result in
    let theirs = c.work_all.new.workers in
    let number : c.len-number.result ≡ length c.args.kits.now.items =
    omega (arith, c.len-number.ensures, c.args.kits.now.ok.0) in
    let kits : map (λ w. w.kit) hired.items ≡ c.args.kits.now.items =
    rw c.replace-given.ensures.value at c.hire-workers.ensures.kits in
    let same : length theirs ≡ length hired.items =
    omega (arith, c.work_all.auto.workers, ap length c.deref_mut.ensures.value) in
    let many : length hired.items ≡ length c.args.kits.now.items =
    sym (length-map hired.items (λ w. w.kit)) ∙ ap length kits in
    let back = slice_back theirs hired.items hired.len same (omega (arith, hired.ok.0)) in (
      map (λ w. w.pass) hired.items,
      map (λ w. w.pass) theirs,
      length-map hired.items (λ w. w.pass) ∙ many,
      length-map theirs (λ w. w.pass) ∙ (same ∙ many),
      All-map (λ p. IsSplit c.args.pass.now p) (λ w. w.pass) hired.items
          (hired_early (λ w. w.pass) _ c.args.pass.now _ hired.items c.in_ok-passes-2.ensures.counted
          c.hire-workers.ensures.split),
      subst (λ ws. AreJoined (map (λ w. w.pass) ws)
          (split_off (length c.args.kits.now.items) c.args.pass.now) c.gather.new.pass) back
          (rw (c.in_ok-passes-2.ensures.counted, number) at c.gather.ensures.joined),
      each_worker (λ w. w.kit) (λ w. w.pass)
          (λ a p b q. Worked (IsReplied g.K.ClientAuthCheck.may_answer g.K.ClientAuthCheck.shown
          (g.V.ServerAuthCheck.server_of c.args.server.now))
          (λ l. record {
            left = g.T.L.Source.left l;
            held = g.T.L.Sink.held l;
            reads = g.T.L.Source.faults l;
            writes = g.T.L.Sink.faults l;
          })
          (g.T.Tasks.told a.tasks) (g.T.Tasks.told b.tasks)
          (around (moments g.C.Clock.moments g.C.Clock.last) g.D.Dialer.asked g.D.Dialer.faults p a)
          (around (moments g.C.Clock.moments g.C.Clock.last) g.D.Dialer.asked g.D.Dialer.faults q b))
          hired.items theirs _ _
          kits (c.gather.ensures.kits ∙ ap (map (λ w. w.kit)) back) same
          (λ d p. record { kit = d; pass = p })
          (rw c.deref_mut.ensures.value at c.work_all.ensures.worked),
    )

pub returns-clause-holds : goal.returns-clause-holds
returns-clause-holds g c =
    let hired = c.hire-workers.result in
    let theirs = c.work_all.new.workers in
    let number : c.len-number.result ≡ length c.args.kits.now.items =
    omega (arith, c.len-number.ensures, c.args.kits.now.ok.0) in
    let hold : sum_by (λ w. held_of w.pass) hired.items ≡ length c.args.kits.now.items =
    rw c.replace-given.ensures.value at c.hire-workers.ensures.hold in
    let same : length theirs ≡ length hired.items =
    omega (arith, c.work_all.auto.workers, ap length c.deref_mut.ensures.value) in
    let back = slice_back theirs hired.items hired.len same (omega (arith, hired.ok.0)) in
    let stay = rw c.deref_mut.ensures.value at c.work_all.ensures.stay in
    let held = sum_same (λ w. held_of w.pass) hired.items theirs same (λ i d below. (stay i d below).held) in
    let joined : AreJoined (map (λ w. w.pass) theirs)
    (split_off (length c.args.kits.now.items) c.args.pass.now) c.gather.new.pass =
    subst (λ ws. AreJoined (map (λ w. w.pass) ws)
    (split_off (length c.args.kits.now.items) c.args.pass.now) c.gather.new.pass) back
    (rw (c.in_ok-passes-2.ensures.counted, number) at c.gather.ensures.joined) in
    subst (λ n. Rises n (held_of c.args.pass.now) (held_of c.gather.new.pass))
    (sum_mapped (λ w. w.pass) held_of theirs ∙ (held ∙ hold)) joined.held

pub returns-in_err-passes-2-clause-back : goal.returns-in_err-passes-2-clause-back
returns-in_err-passes-2-clause-back g c = all_back _ c.args.pass.now _ c.in_err-passes-2.ensures.left

pub returns-clause-back : goal.returns-clause-back
returns-clause-back g c =
    let hired = c.hire-workers.result in
    let theirs = c.work_all.new.workers in
    let number : c.len-number.result ≡ length c.args.kits.now.items =
    omega (arith, c.len-number.ensures, c.args.kits.now.ok.0) in
    let hold : sum_by (λ w. held_of w.pass) hired.items ≡ length c.args.kits.now.items =
    rw c.replace-given.ensures.value at c.hire-workers.ensures.hold in
    let same : length theirs ≡ length hired.items =
    omega (arith, c.work_all.auto.workers, ap length c.deref_mut.ensures.value) in
    let back = slice_back theirs hired.items hired.len same (omega (arith, hired.ok.0)) in
    gathered_all (λ w. w.pass) (length c.args.kits.now.items) c.args.pass.now c.gather.new.pass hired.items theirs
    same
    (hired_early (λ w. w.pass) _ c.args.pass.now _ hired.items c.in_ok-passes-2.ensures.counted
    c.hire-workers.ensures.split) hold (rw c.deref_mut.ensures.value at c.work_all.ensures.stay)
    (subst (λ ws. AreJoined (map (λ w. w.pass) ws)
    (split_off (length c.args.kits.now.items) c.args.pass.now) c.gather.new.pass) back
    (rw (c.in_ok-passes-2.ensures.counted, number) at c.gather.ensures.joined))
