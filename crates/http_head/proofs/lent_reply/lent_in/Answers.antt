use Rattle.std.proofs.Common.{sym, ◌∙◌}
use Rattle.http_head.proofs.ReplyLemmas.{is_reply, no_reply}
use Rattle.http_head.proofs.lent_reply.lent_in.Goals as goal

pub returns-then-not-allows : goal.returns-then-not-allows
returns-then-not-allows c =
    no_reply c.args.bytes.now c.after-body.result.now c.parse_reply_head.new.head c.in-Head.len
    (rw c.in-Head.is at c.parse_reply_head.ensures) c.after-body.ensures
    (λ allowed. let none = c.if-not-allows.true in cc (c.allows.ensures, allowed))

pub returns : goal.returns
returns c = (
  _,
  is_reply c.args.bytes.now c.after-body.result.now c.parse_reply_head.new.head c.unwrap-code.result
      c.in-Head.len
      (rw c.in-Head.is at c.parse_reply_head.ensures) c.unwrap-code.ensures c.after-body.ensures
      (sym c.allows.ensures ∙ c.if-not-allows.false),
)
