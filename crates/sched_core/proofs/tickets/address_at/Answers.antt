use Rattle.std.proofs.Common.{◌∙◌, sym}
use Rattle.core_rules.proofs.StateLemmas.{row_address, row_found}
use Rattle.sched_core.proofs.tickets.address_at.Goals as goal

pub unreachable-requires : goal.unreachable-requires
unreachable-requires c = row_found c.args.books.now.lists.rows c.args.reg c.requires
    (sym c.row.ensures ∙ c.in-None.is)

pub returns : goal.returns
returns c = λ log stand. row_address log c.args.books.now.lists.rows c.args.reg c.in-Some.row stand
    (sym c.row.ensures ∙ c.in-Some.is)
