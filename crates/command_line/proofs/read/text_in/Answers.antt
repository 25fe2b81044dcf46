use Rattle.std.proofs.Common.{refl}
use Rattle.dist_types.proofs.CommandLemmas.{is_text, is_no_text}
use Rattle.command_line.proofs.read.text_in.Goals as goal

pub returns-in-Ok : goal.returns-in-Ok
returns-in-Ok c = rw (is_text _ c.in-Ok.ensures.cases.1, c.in-Ok.ensures.cases.0) refl

pub returns-in-Err : goal.returns-in-Err
returns-in-Err c = rw (is_no_text _ c.in-Err.ensures.cases.0) refl
