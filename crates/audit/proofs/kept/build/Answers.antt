use Rattle.std.proofs.Common.{refl}
use Rattle.audit.proofs.KeptLemmas.{not_due}
use Rattle.audit.proofs.kept.build.Goals as goal

pub returns-in-None : goal.returns-in-None
returns-in-None c = λ s fits legal is.
    let k = c.args.kept.now in
    record {
      told = not_due k.rows.first k.rows.rows k.held.items k.built.items s c.args.job fits legal is c.in-None.ensures;
      kept = is;
      built = refl;
    }
