use Rattle.std.proofs.Common.{sym, ◌∙◌}
use Rattle.audit.proofs.KeptLemmas.{tells_begins, kept_unbegun}
use Rattle.audit.proofs.kept.note_state.Goals as goal

pub returns-then-is_start-clause-noted : goal.returns-then-is_start-clause-noted
returns-then-is_start-clause-noted c = λ s e is tells.
    c.begin.ensures.begun s e is (tells_begins e.kind c.args.job c.args.state c.args.is_accepted
    (sym c.is_start.ensures ∙ c.if-is_start.true) tells)

pub returns-else-is_start-clause-noted : goal.returns-else-is_start-clause-noted
returns-else-is_start-clause-noted c = λ s e is tells.
    let k = c.args.kept.now in
    kept_unbegun k.rows.first k.rows.rows k.held.items k.built.items s e.now e.kind c.args.job c.args.state
    c.args.is_accepted (sym c.is_start.ensures ∙ c.if-is_start.false) tells is
