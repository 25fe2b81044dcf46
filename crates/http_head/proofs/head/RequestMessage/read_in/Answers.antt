use Rattle.std.proofs.lemmas.Result.{err_from_is_err_and}
use Rattle.http_head.proofs.HeadLemmas.{is_request, no_request}
use Rattle.http_head.proofs.head.RequestMessage.read_in.Goals as goal

pub returns-then-not-is_body-clause-err : goal.returns-then-not-is_body-clause-err
returns-then-not-is_body-clause-err c =
    no_request c.args.bytes.now c.after-body.result.now c.parse_head.new.head c.in-Head.len
    (rw c.in-Head.is at c.parse_head.ensures) c.after-body.ensures
    (λ says. let yes = c.is_body.ensures.1 says in cc)

pub returns-in_err-request-clause-err : goal.returns-in_err-request-clause-err
returns-in_err-request-clause-err c =
    let p = err_from_is_err_and c.from_residual.result c.from_residual.ensures.1 in
    rw (p.1, p.2) (
      _,
      is_request c.args.bytes.now c.after-body.result.now c.parse_head.new.head c.unwrap-method.result
          c.unwrap-target.result c.in-Head.len
          (rw c.in-Head.is at c.parse_head.ensures) c.unwrap-method.ensures c.unwrap-target.ensures
          c.after-body.ensures
          (c.is_body.ensures.0 c.if-not-is_body.false),
    )

pub returns-clause-ok : goal.returns-clause-ok
returns-clause-ok c =
    rw c.in_ok-request.ensures
    (is_request c.args.bytes.now c.after-body.result.now c.parse_head.new.head c.unwrap-method.result
    c.unwrap-target.result c.in-Head.len
    (rw c.in-Head.is at c.parse_head.ensures) c.unwrap-method.ensures c.unwrap-target.ensures
    c.after-body.ensures
    (c.is_body.ensures.0 c.if-not-is_body.false))
