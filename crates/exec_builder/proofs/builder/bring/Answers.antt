use Rattle.std.proofs.Common.{Err, refl, inr, rules}
use Rattle.dist_types.specs.declared.outgoing.CallFault.TheVariants.{Memory}
use Rattle.exec_builder.proofs.builder.bring.Goals as goal

pub returns-in-Err : goal.returns-in-Err
returns-in-Err g c = record {
  answer = Err Memory;
  asks = record {
    answers = inr (refl, refl);
    cause = search rules;
    steady = λ other. refl;
    later = search rules;
  };
  says = refl;
}
