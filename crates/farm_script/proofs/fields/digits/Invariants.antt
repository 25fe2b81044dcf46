use Rattle.std.proofs.Common.{◌≡◌, drop}
use Rattle.farm_script.specs.Fields.{digits_on}
use Rattle.farm_script.proofs.fields.digits.Given as goal

abbrev pub invariant-loop-b : goal.invariant-loop-b
invariant-loop-b l = digits_on l.n (drop l.b-index l.word) ≡ digits_on 0 l.word
