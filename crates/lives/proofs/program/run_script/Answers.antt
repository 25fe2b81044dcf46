use Rattle.std.proofs.Common.{subst, sym}
use Rattle.line_program.proofs.ProgramLemmas.{short_run, written, half_written}
use Rattle.lives.specs.Text.{IsScriptRun}
use Rattle.lives.specs.Program.{lives_runs}
use Rattle.lives.proofs.ProgramLemmas.{no_run, lives_text}
use Rattle.lives.proofs.program.run_script.Goals as goal

pub returns-in-Err : goal.returns-in-Err
returns-in-Err g c = record {
  run = λ content enough. no_run c.in-Err.fault c.args.bytes.now content _ enough c.in-Err.ensures.faulty;
}

pub returns-in-Err-lives_of : goal.returns-in-Err-lives_of
returns-in-Err-lives_of g c = record { run = λ content enough. short_run lives_runs content _ }

pub returns-in-Ok-write_all : goal.returns-in-Ok-write_all
returns-in-Ok-write_all g c = record {
  run = λ content enough. written lives_runs c.as_bytes.result.now content _ _
      (lives_text c.args.bytes.now c.as_bytes.result.now c.in-Ok.script content enough c.in-Ok.ensures.exact
      (subst (IsScriptRun c.in-Ok.script) (sym c.as_bytes.ensures.value) c.in-Ok-lives_of.ensures.text))
      c.in-Ok-write_all.ensures.ok c.in-Ok-write_all.ensures.steady;
}

pub returns : goal.returns
returns g c = record {
  run = λ content enough. half_written lives_runs c.as_bytes.result.now content _ _
      (lives_text c.args.bytes.now c.as_bytes.result.now c.in-Ok.script content enough c.in-Ok.ensures.exact
      (subst (IsScriptRun c.in-Ok.script) (sym c.as_bytes.ensures.value) c.in-Ok-lives_of.ensures.text))
      c.in-Err-write_all.ensures.began c.in-Err-write_all.ensures.cause;
}
