use Rattle.std.proofs.Common.{inr, refl}
use Rattle.line_program.proofs.ReportLemmas.{then_began}
use Rattle.line_program.proofs.report.say.Goals as goal

pub returns-in-Err-write_all : goal.returns-in-Err-write_all
returns-in-Err-write_all g c = record {
  said = inr (
    refl,
    then_began c.args.program.now c.args.text.now _ _ _ (rw c.as_bytes.ensures.value at c.in-Ok.ensures.ok)
        c.in-Err-write_all.ensures.began,
    rw c.in-Ok.ensures.steady at c.in-Err-write_all.ensures.cause,
  );
}
