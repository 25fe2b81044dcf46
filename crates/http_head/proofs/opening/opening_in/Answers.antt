use Rattle.std.proofs.Common.{◌∙◌}
use Rattle.http_head.proofs.OpeningLemmas.{announces_none}
use Rattle.http_head.proofs.opening.opening_in.Goals as goal

pub returns-in_default : goal.returns-in_default
returns-in_default c =
    announces_none c.args.bytes.now c.in-Head.len c.parse_head.new.head
    (rw c.in-Head.is at c.parse_head.ensures)
    (λ n w. c.in_default.not-Some _ (c.read_body_length.ensures ∙ w))
