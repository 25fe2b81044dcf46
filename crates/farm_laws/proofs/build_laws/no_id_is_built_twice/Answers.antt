use Rattle.std.proofs.Common.{[]}
use Rattle.farm_laws.proofs.FreeLemmas.{each_free}
use Rattle.farm_laws.proofs.BuildLemmas.{built_once}
use Rattle.farm_laws.proofs.build_laws.no_id_is_built_twice.Goals as goal

pub returns : goal.returns
returns c = λ w setup events entries fits words each.
    built_once setup events entries fits words (each_free w setup [] events entries each)
