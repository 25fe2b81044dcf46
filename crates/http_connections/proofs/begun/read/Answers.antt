use Rattle.std.proofs.Common.{sym, ◌∙◌}
use Rattle.http_connections.proofs.WholeLemmas.{plain_read, found_read}
use Rattle.http_connections.proofs.begun.read.Goals as goal

pub returns-then-is_plain : goal.returns-then-is_plain
returns-then-is_plain c = plain_read c.args.role c.args.stop.now (sym c.is_plain.ensures ∙ c.if-is_plain.true)

pub returns : goal.returns
returns c = found_read c.args.role c.args.stop.now c.opened_of.result _ c.in_ok-head.ensures c.opened_of.ensures
