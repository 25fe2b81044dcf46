use Rattle.std.proofs.Common.{ap, ◌∙◌}
use Rattle.dist_wire.specs.Written.{state_bytes}
use Rattle.url.specs.Parts.{Parts}
use Rattle.http_head.specs.WrittenRequest.{request_text}
use Rattle.http_routes.specs.Builder.{target_of, host_of}
use Rattle.http_routes.specs.Requests.{post_with}
use Rattle.http_calls.proofs.UrlLemmas.{state_written}
use Rattle.http_calls.proofs.scheduler_calls.state_text.Goals as goal

pub returns-clause-text : goal.returns-clause-text
returns-clause-text c =
    c.in_ok-bytes.ensures.text
    ∙ ap request_text
    (ap (λ (u : Parts). post_with (target_of u) (host_of u) c.args.token.now (state_bytes c.args.state))
    c.in_ok-url.ensures.ok
    ∙ state_written c.args.base.now c.args.token.now c.args.job c.args.state)
