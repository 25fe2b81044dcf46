use Rattle.dist_types.proofs.AddrLemmas.{text_is}
use Rattle.farm_audit.proofs.fit.addr_fits.Goals as goal

pub returns : goal.returns
returns c = text_is c.args.address c.is_addr.ensures
