use Rattle.line_program.specs.Side.{side}
use Rattle.mirror_run.specs.Program.{rooms_of}
use Rattle.mirror_run.proofs.StepLemmas.{SoFar}
use Rattle.mirror_run.proofs.program.run_steps.Given as goal

abbrev pub invariant-loop-step : goal.invariant-loop-step
invariant-loop-step g l =
    SoFar (rooms_of l.fn.script) l.fn.script.steps l.step-index l.sites
    (side g.K.Sink.held g.K.Sink.faults l.fn.out) (side g.K.Sink.held g.K.Sink.faults l.out)
