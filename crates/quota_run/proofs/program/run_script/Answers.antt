use Rattle.std.proofs.Common.{◌∙◌}
use Rattle.line_program.proofs.ProgramLemmas.{short_run, written, half_written}
use Rattle.quota_script.specs.Script.{said_of}
use Rattle.quota_run.specs.Program.{quota_runs}
use Rattle.quota_run.proofs.ProgramLemmas.{no_run, quota_text}
use Rattle.quota_run.proofs.program.run_script.Goals as goal

pub returns-in-Err : goal.returns-in-Err
returns-in-Err g c = record {
  run = λ content enough. no_run c.in-Err.fault c.args.bytes.now content _ enough c.in-Err.ensures.faulty;
}

pub returns-in-Err-script_lines : goal.returns-in-Err-script_lines
returns-in-Err-script_lines g c = record { run = λ content enough. short_run quota_runs content _ }

pub returns-in-Ok-write_all : goal.returns-in-Ok-write_all
returns-in-Ok-write_all g c = record {
  run = λ content enough. written quota_runs c.as_bytes.result.now content _ _
      (quota_text c.args.bytes.now c.as_bytes.result.now (said_of c.in-Ok.script) content enough c.in-Ok.ensures.exact
      (c.as_bytes.ensures.value ∙ c.in-Ok-script_lines.ensures))
      c.in-Ok-write_all.ensures.ok c.in-Ok-write_all.ensures.steady;
}

pub returns : goal.returns
returns g c = record {
  run = λ content enough. half_written quota_runs c.as_bytes.result.now content _ _
      (quota_text c.args.bytes.now c.as_bytes.result.now (said_of c.in-Ok.script) content enough c.in-Ok.ensures.exact
      (c.as_bytes.ensures.value ∙ c.in-Ok-script_lines.ensures))
      c.in-Err-write_all.ensures.began c.in-Err-write_all.ensures.cause;
}
