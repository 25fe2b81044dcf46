use Rattle.std.proofs.Common.{sym, ap, ◌∙◌, Some}
use Rattle.command_line.proofs.TableLemmas.{known_more, unknown_more}
use Rattle.command_line.proofs.look_up.least_with.Goals as goal

pub returns-then-is_one_of : goal.returns-then-is_one_of
returns-then-is_one_of c = known_more c.args.known.now _ c.args.key.now
    (sym c.is_one_of.ensures ∙ c.if-is_one_of.true)

pub returns-else-is_one_of : goal.returns-else-is_one_of
returns-else-is_one_of c =
    ap Some c.lesser.ensures ∙ unknown_more c.args.known.now _ c.args.key.now
    (sym c.is_one_of.ensures ∙ c.if-is_one_of.false)
