use Rattle.std.proofs.Common.{◌∙◌, sym, ap, Ok, false}
use Rattle.std.specs.Prelude.{List, ℕ}
use Rattle.path_pkg.proofs.TakenLemmas.{simple_ok, simple_err}
use Rattle.path_pkg.proofs.simplify.simplify_path.Goals as goal

pub returns-in_ok-simple-in-Ok-clause-simplified : goal.returns-in_ok-simple-in-Ok-clause-simplified
returns-in_ok-simple-in-Ok-clause-simplified g c = λ t e.
    simple_ok false t c.args.path.now _ (c.in-Ok.ensures.simplified t e) ∙ ap (λ (x : List ℕ). Ok x)
    (sym c.in_ok-simple-in-Ok.ensures)

pub returns-in-Err-clause-simplified : goal.returns-in-Err-clause-simplified
returns-in-Err-clause-simplified g c = λ t e d. simple_err false t c.args.path.now _
    (c.in-Err.ensures.simplified t e d)
