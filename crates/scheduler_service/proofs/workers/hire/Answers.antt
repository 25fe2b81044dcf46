use Rattle.std.proofs.Common.{◌∷◌, [], Some, ◌∙◌, arith}
use Rattle.std.proofs.lemmas.List.{length-append}
use Rattle.std.proofs.lemmas.List.Elements.{All-pop}
use Rattle.sched.specs.Pass.{IsSplit, held_of}
use Rattle.scheduler_service.proofs.HiredLemmas.{one_hired}
use Rattle.scheduler_service.proofs.workers.hire.Goals as goal

pub loop-kit-preserved : goal.loop-kit-preserved
loop-kit-preserved g c =
    let so_far = c.loop-kit.invariant in
    let popped = All-pop (λ p. IsSplit c.args.pass.now p) c.loop-kit.passes.items c.pop.new.self.items
    (Some c.in-Some-pop.pass) c.in-Some-pop.ensures.items so_far.left in
    let hired = one_hired (λ w. w.kit) (λ w. w.pass) held_of (λ p. IsSplit c.args.pass.now p)
    c.loop-kit.workers.items c.push_reserved.new.self.items c.loop-kit.yielded
    (record { kit = c.in-Some.kit; pass = c.in-Some-pop.pass })
    so_far.kits so_far.split so_far.hold c.push_reserved.ensures.items popped.1 popped.1.held in
    record {
      kits = hired.0;
      split = hired.1;
      hold = hired.2;
      room = c.push_reserved.ensures.capacity ∙ so_far.room;
      enough = omega (
        arith,
        c.in-Some-pop.ensures.cases,
        so_far.enough,
        length-append c.loop-kit.yielded (c.in-Some.kit ∷ []),
      );
      left = popped.0;
    }
