use Rattle.std.proofs.Common.{ℕ, subst, sym}
use Rattle.audit.specs.Kept.{AreKept}
use Rattle.core_rules.specs.Log.{logged}
use Rattle.audit.proofs.KeptLemmas.{kept_begun}
use Rattle.audit.proofs.kept.begin.Goals as goal

pub returns-clause-begun : goal.returns-clause-begun
returns-clause-begun c = λ s e is begins.
    let k = c.args.kept.now in
    subst (λ (n : ℕ). AreKept n c.begin_row.new.rows.rows k.held.items
    (record { core = logged s e; built = k.built.items })) (sym c.begin_row.ensures.first)
    (kept_begun k.rows.first k.rows.rows c.begin_row.new.rows.rows k.held.items k.built.items s e c.args.job
    c.begin_row.ensures.rows begins is)
