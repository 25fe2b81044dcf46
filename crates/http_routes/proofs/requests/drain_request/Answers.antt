use Rattle.std.proofs.Common.{◌∙◌}
use Rattle.dist_wire.specs.Written.{drain_text}
use Rattle.http_head.specs.WrittenRequest.{request_text}
use Rattle.http_routes.specs.Requests.{post_with, drain_with}
use Rattle.http_routes.proofs.requests.drain_request.Goals as goal

pub returns-clause-ok : goal.returns-clause-ok
unfolding drain_with
returns-clause-ok c =
    c.in_ok-bytes.ensures.ok
    ∙ (λ i. request_text
    (post_with (c.in_ok-target.ensures.ok i) (c.in_ok-host.ensures.ok i) c.args.token.now
    (drain_text c.args.drain.now)))
