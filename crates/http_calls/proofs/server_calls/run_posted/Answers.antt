use Rattle.std.proofs.Common.{◌∙◌, arith}
use Rattle.http_head.specs.WrittenRequest.{request_text}
use Rattle.http_routes.specs.Requests.{post_with}
use Rattle.http_calls.proofs.server_calls.run_posted.Goals as goal

pub returns-clause-text : goal.returns-clause-text
returns-clause-text c =
    c.in_ok-bytes.ensures.text
    ∙ (λ i. request_text (post_with (c.in_ok-target.ensures.ok i)
    (c.in_ok-host.ensures.ok i) c.args.token.now c.args.body))

pub returns-clause-fits : goal.returns-clause-fits
returns-clause-fits c = (rw c.addr.ensures.addr at c.fits.ensures, omega arith)
