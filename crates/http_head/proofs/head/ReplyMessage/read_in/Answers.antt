use Rattle.std.proofs.Common.{sym, ◌∙◌}
use Rattle.std.proofs.lemmas.Result.{err_from_is_err_and}
use Rattle.http_head.proofs.ReplyLemmas.{is_reply, no_reply}
use Rattle.http_head.proofs.head.ReplyMessage.read_in.Goals as goal

pub returns-then-not-allows-clause-err : goal.returns-then-not-allows-clause-err
returns-then-not-allows-clause-err c =
    no_reply c.args.bytes.now c.after-body.result.now c.parse_reply_head.new.head c.in-Head.len
    (rw c.in-Head.is at c.parse_reply_head.ensures) c.after-body.ensures
    (λ allowed. let none = c.if-not-allows.true in cc (c.allows.ensures, allowed))

pub returns-in_err-reply-clause-err : goal.returns-in_err-reply-clause-err
returns-in_err-reply-clause-err c =
    let p = err_from_is_err_and c.from_residual.result c.from_residual.ensures.1 in
    rw (p.1, p.2) (
      _,
      is_reply c.args.bytes.now c.after-body.result.now c.parse_reply_head.new.head c.unwrap-code.result
          c.in-Head.len
          (rw c.in-Head.is at c.parse_reply_head.ensures) c.unwrap-code.ensures c.after-body.ensures
          (sym c.allows.ensures ∙ c.if-not-allows.false),
    )

pub returns-clause-ok : goal.returns-clause-ok
returns-clause-ok c =
    rw c.in_ok-reply.ensures
    (is_reply c.args.bytes.now c.after-body.result.now c.parse_reply_head.new.head c.unwrap-code.result
    c.in-Head.len
    (rw c.in-Head.is at c.parse_reply_head.ensures) c.unwrap-code.ensures c.after-body.ensures
    (sym c.allows.ensures ∙ c.if-not-allows.false))
