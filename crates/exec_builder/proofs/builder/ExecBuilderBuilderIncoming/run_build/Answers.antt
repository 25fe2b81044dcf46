use Rattle.std.proofs.Common.{Err, refl, inr}
use Rattle.exec_builder.proofs.builder.ExecBuilderBuilderIncoming.run_build.Goals as goal

pub returns-in-Err-clause-asks : goal.returns-in-Err-clause-asks
returns-in-Err-clause-asks g c = record {
  end = Err (record {});
  builds = inr (inr (refl, refl));
  gives = refl;
  held = refl;
  counts = refl;
  same = refl;
}
