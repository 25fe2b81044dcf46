use Rattle.std.proofs.Common.{[]}
use Rattle.farm_laws.proofs.FreeLemmas.{each_free}
use Rattle.farm_laws.proofs.NextLemmas.{runs_lawful}
use Rattle.farm_laws.proofs.laws.runs_are_lawful.Goals as goal

pub returns : goal.returns
returns c = λ w setup events entries fits each.
    runs_lawful setup events entries fits (each_free w setup [] events entries each)
