use Rattle.std.proofs.Common.{[]}
use Rattle.farm_laws.proofs.FreeLemmas.{each_free}
use Rattle.farm_laws.proofs.BuildLemmas.{are_builds}
use Rattle.farm_laws.proofs.build_laws.builds_are_accepted.Goals as goal

pub returns : goal.returns
returns c = λ w setup events entries fits words each.
    are_builds setup events entries fits words (each_free w setup [] events entries each)
