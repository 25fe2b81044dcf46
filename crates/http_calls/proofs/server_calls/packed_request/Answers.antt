use Rattle.std.proofs.Common.{sym, subst}
use Rattle.http_calls.specs.Calls.{ReadsRun}
use Rattle.http_calls.proofs.CallLemmas.{run_asks}
use Rattle.http_calls.proofs.PackLemmas.{posted_run}
use Rattle.http_calls.proofs.server_calls.packed_request.Goals as goal

pub returns-in-Ok-run_posted : goal.returns-in-Ok-run_posted
returns-in-Ok-run_posted g c =
    let (inputs, packs, body, spelled) = c.in-Ok.ensures in
    let is = posted_run c.args.job.now c.args.run.now inputs c.in-Ok.body c.get.result.now
    c.in-Ok-run_posted.bytes c.in-Ok-run_posted.ensures.text c.get.ensures.text body in (
      inputs,
      packs,
      is,
      subst (λ b. ReadsRun c.args.job.now c.args.run.now inputs b) (sym is)
          (run_asks c.args.job.now.server_id c.in-Ok-run_posted.ensures.fits.0 c.args.job.now.auth
          c.args.job.now.job_id c.in-Ok-run_posted.ensures.fits.1 c.args.run.now inputs spelled packs.1),
    )
