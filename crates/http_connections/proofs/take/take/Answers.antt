use Rattle.std.proofs.Common.{arith}
use Rattle.dist_types.proofs.Contents.{taken_then}
use Rattle.http_connections.proofs.TakingLemmas.{has_no_head, is_request, is_no_request, on_err}
use Rattle.http_connections.proofs.TakingLemmas.{stop_within, whole_within, body_within}
use Rattle.http_connections.proofs.TakingLemmas.{taken_whole, taken_bare, lacks_front}
use Rattle.http_connections.proofs.take.take.Goals as goal

pub returns-in_default-clause-cut : goal.returns-in_default-clause-cut
returns-in_default-clause-cut g c =
    has_no_head _ _ _ c.in_ok-stop.ensures.stop c.in_ok-stop.ensures.taken
    (rw (c.in_default.is, c.deref.ensures.value) at c.in_ok-head.ensures)

pub returns-in-Err-clause-front : goal.returns-in-Err-clause-front
returns-in-Err-clause-front g c =
    let lacks = rw c.deref-then-is_settled.ensures.value at c.in-Err.ensures.lacks in
    lacks_front _ _ _ _ _ _ c.in_ok-stop.ensures.taken lacks

pub returns-in-Err-clause-within : goal.returns-in-Err-clause-within
returns-in-Err-clause-within g c =
    let found = rw (c.in-Some.is, c.deref.ensures.value) at c.in_ok-head.ensures in
    let lacks = rw c.deref-then-is_settled.ensures.value at c.in-Err.ensures.lacks in
    body_within _ _ _ c.in_ok-stop.stop.items c.in-Some.head c.in_ok-stop.ensures.stop
    c.in_ok-stop.ensures.taken found lacks

pub returns-then-came-body_len-clause-cut : goal.returns-then-came-body_len-clause-cut
returns-then-came-body_len-clause-cut g c =
    let stop = c.in_ok-stop.ensures in
    let found = rw (c.in-Some.is, c.deref.ensures.value) at c.in_ok-head.ensures in
    let body = rw c.deref-then-is_settled.ensures.value at c.in-Ok.ensures.body in
    is_no_request _ _ _ c.in_ok-stop.stop.items body.0 c.in-Some.head stop.stop stop.taken found body.2
    (λ e. absurd (omega (arith, body.1, e, c.if-came-body_len.true)))

pub returns-then-is_settled-clause-cut : goal.returns-then-is_settled-clause-cut
returns-then-is_settled-clause-cut g c =
    let stop = c.in_ok-stop.ensures in
    let found = rw (c.in-Some.is, c.deref.ensures.value) at c.in_ok-head.ensures in
    let body = rw c.deref-then-is_settled.ensures.value at c.in-Ok.ensures.body in
    rw (c.request_of-request.ensures, c.new.ensures.items)
    (taken_bare (g.T.HeadTest.settled c.args.test.now) _ _ c.in-Some.head body.0
    (rw (c.request_of-request.ensures, c.new.ensures.items) at c.is_settled.ensures c.if-is_settled.true)
    (is_request _ _ _ c.in_ok-stop.stop.items body.0 c.in-Some.head stop.stop stop.taken found body.2
    (omega (arith, body.1, c.if-came-body_len.false))))

pub returns-in-Err-body_of-clause-front : goal.returns-in-Err-body_of-clause-front
returns-in-Err-body_of-clause-front g c =
    let front = c.in-Err-body_of.ensures.front in
    (_, taken_then _ _ _ _ _ c.in_ok-stop.ensures.taken front.1)

pub returns-in-Err-body_of-clause-within : goal.returns-in-Err-body_of-clause-within
returns-in-Err-body_of-clause-within g c =
    let found = rw (c.in-Some.is, c.deref.ensures.value) at c.in_ok-head.ensures in
    let lacks = rw c.deref-2.ensures.value at c.in-Err-body_of.ensures.lacks in
    body_within _ _ _ c.in_ok-stop.stop.items c.in-Some.head c.in_ok-stop.ensures.stop
    c.in_ok-stop.ensures.taken found lacks

pub returns-then-len-body_len-clause-cut : goal.returns-then-len-body_len-clause-cut
returns-then-len-body_len-clause-cut g c =
    let stop = c.in_ok-stop.ensures in
    let found = rw (c.in-Some.is, c.deref.ensures.value) at c.in_ok-head.ensures in
    let body = rw c.deref-2.ensures.value at c.in-Ok-body_of.ensures.body in
    is_no_request _ _ _ c.in_ok-stop.stop.items c.in-Ok-body_of.body.items c.in-Some.head stop.stop stop.taken
    found body
    (λ e. absurd (omega (arith, c.in-Ok-body_of.body.ok.0, c.len.ensures)))

pub returns-clause-cut : goal.returns-clause-cut
returns-clause-cut g c =
    let stop = c.in_ok-stop.ensures in
    let found = rw (c.in-Some.is, c.deref.ensures.value) at c.in_ok-head.ensures in
    let body = rw c.deref-2.ensures.value at c.in-Ok-body_of.ensures.body in
    rw (c.with_body.ensures, c.request_of-request.ensures)
    (taken_whole (g.T.HeadTest.settled c.args.test.now) _ _ _
    (is_request _ _ _ c.in_ok-stop.stop.items c.in-Ok-body_of.body.items c.in-Some.head stop.stop stop.taken
    found body
    (omega (arith, c.in-Ok-body_of.body.ok.0, c.len.ensures))))

pub returns-in_err-stop-clause-within : goal.returns-in_err-stop-clause-within
returns-in_err-stop-clause-within g c =
    on_err c.from_residual.result (stop_within _ _ c.in_err-stop.ensures.within)

pub returns-in_err-head-clause-within : goal.returns-in_err-head-clause-within
returns-in_err-head-clause-within g c =
    on_err c.from_residual-in_err-head.result
    (whole_within _ _ _ c.in_ok-stop.ensures.stop c.in_ok-stop.ensures.taken)
