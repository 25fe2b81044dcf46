use Rattle.std.proofs.Common.{List, Option, sym, subst}
use Rattle.core_rules.specs.Ticket.{Ticket}
use Rattle.audit.specs.Kept.{IsTaken}
use Rattle.audit.proofs.KeptLemmas.{taken_at, none_taken}
use Rattle.audit.proofs.kept.take.Goals as goal

pub returns-in-Some-clause-taken : goal.returns-in-Some-clause-taken
returns-in-Some-clause-taken c = λ s is.
    let k = c.args.kept.now in
    subst (λ (held : List (Option Ticket)). IsTaken k.rows.first k.rows.rows held k.built.items c.args.job s
    c.take_at.result) (sym c.take_at.ensures.left)
    (taken_at k.rows.first k.rows.rows k.held.items k.built.items s c.args.job c.in-Some.place c.take_at.result
    c.in-Some.ensures c.take_at.ensures.taken is)

pub returns-in-None-clause-taken : goal.returns-in-None-clause-taken
returns-in-None-clause-taken c = λ s is.
    let k = c.args.kept.now in
    none_taken k.rows.first k.rows.rows k.held.items k.built.items s c.args.job c.in-None.ensures is
