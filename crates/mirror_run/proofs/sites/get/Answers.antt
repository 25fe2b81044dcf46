use Rattle.mirror_run.proofs.SiteLemmas.{got_ok}
use Rattle.mirror_run.proofs.sites.get.Goals as goal

pub returns : goal.returns
returns c = record {
  does = got_ok c.got_said.result _ _ c.args.tc.now c.get-got.result c.args.sites.now c.get-got.new.self
      c.archive_id-id.ensures.long c.get-got.ensures.gets c.get-got.ensures.rules c.got_said.ensures.said;
}
