use Rattle.std.proofs.Common.{◌∙◌, ap, Some, List, ℕ}
use Rattle.path_pkg.proofs.NodeLemmas.{text_found}
use Rattle.path_pkg.proofs.windows.local.Goals as goal

pub returns-in-Some : goal.returns-in-Some
returns-in-Some c = ap (λ (x : List ℕ). Some x) c.get-in-Some.ensures.text ∙ c.in-Some.ensures.value
    ∙ text_found c.args.p.now c.args.mapped.now.entries

pub returns-in-None : goal.returns-in-None
returns-in-None c = c.in-None.ensures.value ∙ text_found c.args.p.now c.args.mapped.now.entries
