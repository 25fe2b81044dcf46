use Rattle.std.proofs.Common.{◌∙◌, sym, ap}
use Rattle.std.specs.Prelude.{option_and_then}
use Rattle.core_rules.specs.Standing.{address_of}
use Rattle.core_reference.proofs.IndexLemmas.{address_is}
use Rattle.core_reference.proofs.jobs.address_if.Goals as goal

pub returns-in-Some : goal.returns-in-Some
returns-in-Some c = c.address_in.ensures ∙ sym (address_is c.args.log.now c.in-Some.reg)
    ∙ ap (option_and_then (address_of c.args.log.now)) (sym c.in-Some.is)
