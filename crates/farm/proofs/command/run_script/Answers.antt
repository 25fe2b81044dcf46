use Rattle.std.proofs.Common.{string_bytes}
use Rattle.line_program.proofs.ProgramLemmas.{written, half_written}
use Rattle.farm.specs.Command.{farm_runs}
use Rattle.farm.proofs.ScriptRunLemmas.{no_run, text_run}
use Rattle.farm.proofs.command.run_script.Goals as goal

pub returns-in-Err : goal.returns-in-Err
returns-in-Err g c = record {
  run = λ content enough. no_run c.in-Err.fault c.args.bytes.now content _ enough c.in-Err.ensures.err;
}

pub returns-in-Ok-write_all : goal.returns-in-Ok-write_all
returns-in-Ok-write_all g c = record {
  run = λ content enough. written farm_runs (string_bytes c.in-Ok.text) content _ _
      (text_run c.args.bytes.now (string_bytes c.in-Ok.text) content enough c.in-Ok.ensures.ok)
      (rw c.as_bytes.ensures.value at c.in-Ok-write_all.ensures.ok) c.in-Ok-write_all.ensures.steady;
}

pub returns : goal.returns
returns g c = record {
  run = λ content enough. half_written farm_runs (string_bytes c.in-Ok.text) content _ _
      (text_run c.args.bytes.now (string_bytes c.in-Ok.text) content enough c.in-Ok.ensures.ok)
      (rw c.as_bytes.ensures.value at c.in-Err-write_all.ensures.began) c.in-Err-write_all.ensures.cause;
}
