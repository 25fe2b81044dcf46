use Rattle.mirror_run.proofs.ProgramLemmas.{no_run, ran}
use Rattle.mirror_run.proofs.program.run_script.Goals as goal

pub returns-in-Err : goal.returns-in-Err
returns-in-Err g c = record {
  run = λ content enough. no_run c.in-Err.fault c.args.bytes.now content _ enough c.in-Err.ensures.faulty;
}

pub returns : goal.returns
returns g c = record {
  run = λ content enough. ran c.run_steps.result c.args.bytes.now c.in-Ok.script content _ _ enough
      c.in-Ok.ensures.exact c.run_steps.ensures.run;
}
