use Rattle.std.proofs.Common.{◌≡◌, ◌<◌, ap, subst, ◌∙◌, List, length, get_or, arith}
use Rattle.line_program.specs.Side.{side}
use Rattle.mirror_script.specs.declared.line.Step.{Step}
use Rattle.mirror_run.specs.Program.{rooms_of}
use Rattle.mirror_run.proofs.StepLemmas.{begun, did_in, more, no_memory, none_done, no_write}
use Rattle.mirror_run.proofs.program.run_steps.Goals as goal

pub returns-in-Err : goal.returns-in-Err
returns-in-Err g c = record {
  run = none_done (rooms_of c.args.script.now) c.args.script.now.steps
      (side g.K.Sink.held g.K.Sink.faults c.args.out.now);
}

pub loop-step-init : goal.loop-step-init
loop-step-init g c =
    begun (rooms_of c.args.script.now) c.args.script.now.steps c.in-Ok.sites
    (side g.K.Sink.held g.K.Sink.faults c.args.out.now) c.in-Ok.ensures.opened

pub returns-in-Err-line_of : goal.returns-in-Err-line_of
returns-in-Err-line_of g c = record {
  run = no_memory (rooms_of c.args.script.now) c.args.script.now.steps c.loop-step.step-index c.loop-step.sites
      (side g.K.Sink.held g.K.Sink.faults c.args.out.now) (side g.K.Sink.held g.K.Sink.faults c.loop-step.out)
      c.loop-step.invariant;
}

pub loop-step-preserved : goal.loop-step-preserved
loop-step-preserved g c =
    let steps = c.args.script.now.steps in
    let i = c.loop-step.step-index in
    let same : c.get-step-items.result.now ≡ steps = c.get-step-items.ensures.items in
    let below : i < length steps = subst (λ (xs : List Step). i < length xs) same (omega (arith, c.loop-step-test.true)) in
    let item : c.step-item.result ≡ get_or steps i c.step-item.result =
    c.step-item.is ∙ ap (λ (xs : List Step). get_or xs i c.step-item.result) same in
    more (rooms_of c.args.script.now) steps i c.step-item.result c.as_bytes.result.now c.loop-step.sites
    c.line_of.new.sites (side g.K.Sink.held g.K.Sink.faults c.args.out.now)
    (side g.K.Sink.held g.K.Sink.faults c.loop-step.out) (side g.K.Sink.held g.K.Sink.faults c.write_all.new.out)
    below item c.loop-step.invariant
    (did_in (rooms_of c.args.script.now) c.step-item.result c.as_bytes.result.now c.loop-step.sites
    c.line_of.new.sites (rw c.as_bytes.ensures.value c.in-Ok-line_of.ensures.does))
    c.in-Ok-write_all.ensures.ok c.in-Ok-write_all.ensures.steady

pub returns-in-Err-write_all : goal.returns-in-Err-write_all
returns-in-Err-write_all g c =
    let steps = c.args.script.now.steps in
    let i = c.loop-step.step-index in
    let same : c.get-step-items.result.now ≡ steps = c.get-step-items.ensures.items in
    let below : i < length steps = subst (λ (xs : List Step). i < length xs) same (omega (arith, c.loop-step-test.true)) in
    let item : c.step-item.result ≡ get_or steps i c.step-item.result =
    c.step-item.is ∙ ap (λ (xs : List Step). get_or xs i c.step-item.result) same in
    record {
      run = no_write (rooms_of c.args.script.now) steps i c.step-item.result c.as_bytes.result.now c.loop-step.sites
          c.line_of.new.sites (side g.K.Sink.held g.K.Sink.faults c.args.out.now)
          (side g.K.Sink.held g.K.Sink.faults c.loop-step.out)
          (side g.K.Sink.held g.K.Sink.faults c.write_all.new.out) below item c.loop-step.invariant
          (did_in (rooms_of c.args.script.now) c.step-item.result c.as_bytes.result.now c.loop-step.sites
          c.line_of.new.sites (rw c.as_bytes.ensures.value c.in-Ok-line_of.ensures.does))
          c.in-Err-write_all.ensures.began c.in-Err-write_all.ensures.cause;
    }
