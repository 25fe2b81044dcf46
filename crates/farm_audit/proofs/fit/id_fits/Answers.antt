use Rattle.farm_audit.proofs.fit.id_fits.Goals as goal

pub returns : goal.returns
returns c = (c.archive_id-id.ensures.long, c.archive_id-id.ensures.lower)
