use Rattle.std.proofs.Common.{◌≡◌, ℕ, ◌⊎◌, ◌↔◌, sym, subst}
use Rattle.audit.specs.declared.verdict.Verdict.{Verdict}
use Rattle.audit.specs.declared.verdict.Verdict.TheVariants.{Holds, Refused}
use Rattle.line_program.specs.declared.why.Why.{Why}
use Rattle.line_program.specs.declared.why.Why.TheVariants as why
use Rattle.audit.specs.Reading.{Read}
use Rattle.audit.specs.FirstBad.{IsFirstBad, IsPrinted}
use Rattle.audit.specs.Held.{IsHeld, IsFault, IsWrongBook}
use Rattle.audit.proofs.audit.audit.Goals as goal

pub returns-clause-holds : goal.returns-clause-holds
returns-clause-holds c = subst (λ (v : Verdict). (v ≡ Holds) ↔ IsHeld c.args.text.now)
    (sym c.in_ok-answer.ensures) (c.what_holds_is_held.ensures c.args.text.now)

pub returns-clause-text : goal.returns-clause-text
returns-clause-text c = subst (λ (v : Verdict). (n : ℕ) → (v ≡ Refused n why.Text) ↔ IsFirstBad c.args.text.now n)
    (sym c.in_ok-answer.ensures) (c.refusals_are_first_faults.ensures.text c.args.text.now)

pub returns-clause-judged : goal.returns-clause-judged
returns-clause-judged c = subst (λ (v : Verdict). (n : ℕ) (w : Why) → (w ≡ why.Core) ⊎ (w ≡ why.Build)
    → (v ≡ Refused n w) ↔ ((r : Read) × IsPrinted c.args.text.now r × IsFault r (n, w)))
    (sym c.in_ok-answer.ensures) (c.refusals_are_first_faults.ensures.judged c.args.text.now)

pub returns-clause-books : goal.returns-clause-books
returns-clause-books c = subst (λ (v : Verdict). (n : ℕ) → (v ≡ Refused n why.Books) ↔ IsWrongBook c.args.text.now n)
    (sym c.in_ok-answer.ensures) (c.refusals_are_first_faults.ensures.books c.args.text.now)
