use Rattle.farm_audit.proofs.RunHoldsLemmas.{run_holds}
use Rattle.farm_audit.proofs.laws.runs_hold.Goals as goal

pub returns : goal.returns
returns c = λ w setup events entries count words each fits all short.
    run_holds w setup events entries count each
    (c.runs_are_lawful.ensures w setup events entries count each)
    (c.builds_are_accepted.ensures w setup events entries count words each) fits all short
