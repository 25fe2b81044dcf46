use Rattle.std.proofs.Common.{sym, ap, subst, ◌∙◌}
use Rattle.std.specs.Option.{option_copied}
use Rattle.quota_run.specs.Hand.{found_at, AreFound}
use Rattle.quota_run.proofs.HandLemmas.{taken_left, taken_are}
use Rattle.quota_run.proofs.hand.Hand.take.Goals as goal

pub invariant_of-self : goal.invariant_of-self
invariant_of-self c =
    let s = c.self.inside in
    subst (AreFound c.take_out.new.self.entries) (sym c.take_at.ensures.left)
    (taken_are s.places.entries c.take_out.new.self.entries s.held.items c.args.job.0 c.in-Some.place.now
    c.self.invariant (sym c.get.ensures ∙ ap option_copied c.in-Some.is) c.take_out.ensures.values)

pub returns-in-Some-clause-left : goal.returns-in-Some-clause-left
returns-in-Some-clause-left c = λ other.
    let s = c.self.inside in
    rw (← c.self.view_is) (ap (λ h. found_at c.take_out.new.self.entries h other) c.take_at.ensures.left
    ∙ taken_left s.places.entries c.take_out.new.self.entries s.held.items c.args.job.0 c.in-Some.place.now other
    c.self.invariant (sym c.get.ensures ∙ ap option_copied c.in-Some.is) c.take_out.ensures.values)
