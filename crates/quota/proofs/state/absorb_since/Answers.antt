use Rattle.std.proofs.Common.{◌∙◌, refl, ap, sym}
use Rattle.std.specs.Prelude.{slice_get}
use Rattle.std.specs.Option.{option_copied}
use Rattle.quota.proofs.SinceLemmas.{since_some, since_none}
use Rattle.quota.proofs.state.absorb_since.Goals as goal

pub returns-in-Some-clause-owned : goal.returns-in-Some-clause-owned
returns-in-Some-clause-owned g c = λ core made is left.
    since_some core c.args.state.now made c.args.before c.in-Some.entry.now c.args.holdings.now.owned
    c.absorb.new.self.owned
    (ap (λ l. slice_get l c.args.before) (sym c.history.ensures.log) ∙ sym c.entry_at.ensures
    ∙ ap option_copied c.in-Some.is) is left c.absorb.ensures.owned

pub returns-in-None-clause-owned : goal.returns-in-None-clause-owned
returns-in-None-clause-owned g c = λ core made is left.
    since_none core c.args.state.now made c.args.before c.args.holdings.now.owned c.args.holdings.now.owned
    (ap (λ l. slice_get l c.args.before) (sym c.history.ensures.log) ∙ sym c.entry_at.ensures
    ∙ ap option_copied c.in-None.is) is left refl
