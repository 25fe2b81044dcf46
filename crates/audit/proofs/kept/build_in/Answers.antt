use Rattle.std.proofs.Common.{refl, sym, ◌∙◌}
use Rattle.audit.proofs.KeptLemmas.{is_due_as, built_kept}
use Rattle.audit.proofs.kept.build_in.Goals as goal

pub returns-then-not-is_due : goal.returns-then-not-is_due
returns-then-not-is_due c = λ s fits legal is.
    let k = c.args.kept.now in
    record {
      told = sym c.if-not-is_due.true ∙ is_due_as k.rows.first k.rows.rows k.held.items k.built.items s c.args.job
          c.args.place c.is_due.result is c.requires (c.is_due.ensures c.requires);
      kept = is;
      built = refl;
    }

pub returns : goal.returns
returns c = λ s fits legal is.
    let k = c.args.kept.now in
    let good = sym c.if-not-is_due.false ∙ is_due_as k.rows.first k.rows.rows k.held.items k.built.items s c.args.job
    c.args.place c.is_due.result is c.requires (c.is_due.ensures c.requires) in
    record {
      told = good;
      kept = built_kept k.rows.first c.build_at.new.rows.first k.rows.rows c.build_at.new.rows.rows k.held.items
          k.built.items c.push_built.new.built.items s c.args.job c.build_at.ensures.first c.build_at.ensures.rows
          c.in_ok-push_built.ensures good is;
      built = c.in_ok-push_built.ensures;
    }
