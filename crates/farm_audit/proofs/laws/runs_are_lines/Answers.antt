use Rattle.std.proofs.Common.{sym}
use Rattle.farm_audit.proofs.RunTextLemmas.{run_is}
use Rattle.farm_audit.proofs.laws.runs_are_lines.Goals as goal

pub returns : goal.returns
returns c = λ setup entries. sym (run_is setup entries)
