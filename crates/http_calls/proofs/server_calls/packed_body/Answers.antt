use Rattle.std.proofs.Common.{◌∙◌}
use Rattle.http_calls.proofs.PackLemmas.{packs_from}
use Rattle.http_calls.proofs.server_calls.packed_body.Goals as goal

pub returns-in-Ok-write_inputs : goal.returns-in-Ok-write_inputs
returns-in-Ok-write_inputs g c =
    let told = c.in-Ok-write_inputs.ensures in
    let w = packs_from _ c.args.run.now c.into_inner-body.result.items c.write_inputs.new.out.items
    (c.into_inner-body.ensures.bytes ∙ c.in-Ok.ensures.body) told.0 in (
      w.0,
      (w.1, c.in-Ok.ensures.low, told.1.1.0, told.1.1.1.1.1.1),
      c.new.ensures.bytes ∙ w.2,
      c.in-Ok.ensures.spelled,
    )
