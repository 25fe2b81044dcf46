use Rattle.std.proofs.Common.{◌∙◌}
use Rattle.http_head.specs.WrittenRequest.{request_text}
use Rattle.http_routes.specs.Requests.{post_with, submit_with}
use Rattle.http_calls.proofs.server_calls.submit_text.Goals as goal

pub returns-clause-text : goal.returns-clause-text
unfolding submit_with
returns-clause-text c =
    c.in_ok-bytes.ensures.text
    ∙ (λ i. request_text
    (post_with (c.in_ok-target.ensures.ok i) (c.in_ok-host.ensures.ok i) c.args.token.now
    (c.in_ok-body.ensures.bytes i)))
