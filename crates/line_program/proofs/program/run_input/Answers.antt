use Rattle.std.proofs.Common.{List, ℕ, subst, sym}
use Rattle.line_program.specs.Program.{IsEnough}
use Rattle.line_program.proofs.ProgramLemmas.{whole_run}
use Rattle.line_program.proofs.program.run_input.Goals as goal

pub returns : goal.returns
returns g c =
    let content = g.S.Source.left c.args.input.now in
    let enough = subst (λ (v : List ℕ). IsEnough v content) (sym c.deref.ensures.value)
    (g.S.Source.left c.read_input.new.input, c.in-Ok.ensures.taken, c.in-Ok.ensures.whole) in
    record { run = whole_run g.P.Program.runs c.run.result _ _ _ _ c.in-Ok.ensures.read (c.run.ensures.run content enough) }
