use Rattle.farm_laws.proofs.GrantLemmas.{returns_grant}
use Rattle.farm_laws.proofs.build_laws.returned_reports_are_granted.Goals as goal

pub returns : goal.returns
returns c = λ w setup events entries words each. returns_grant w setup words events entries each
