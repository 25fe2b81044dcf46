use Rattle.std.proofs.Common.{◌∙◌, sym, ap, Some, None, List, ℕ, if◌then◌else◌}
use Rattle.dist_types.proofs.CommandLemmas.{is_text, is_no_text}
use Rattle.path_pkg.proofs.unix.text_in.Goals as goal

pub returns-in-Ok : goal.returns-in-Ok
returns-in-Ok c =
    let bs : List ℕ = c.args.bytes.now in
    ap (λ (x : List ℕ). Some x) c.in-Ok.ensures.cases.0
    ∙ sym (ap (λ b. if b then Some bs else None) (is_text bs c.in-Ok.ensures.cases.1))

pub returns-in-Err : goal.returns-in-Err
returns-in-Err c =
    let bs : List ℕ = c.args.bytes.now in
    sym (ap (λ b. if b then Some bs else None) (is_no_text bs c.in-Err.ensures.cases.0))
