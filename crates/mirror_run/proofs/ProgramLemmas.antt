-- What came of a script that was read.
use Rattle.std.proofs.Common.{◌≡◌, ◌⊎◌, inr, ℕ, List, [], ◌∷◌, Option, Result, Ok, Err, refl, sym, subst, ◌∙◌, append-nil}
use Rattle.std.specs.Prelude.{⊤, IfSome}
use Rattle.std.proofs.lemmas.Option.{IfSome_then}
use Rattle.dist_types.specs.Content.{Added}
use Rattle.line_program.specs.declared.fault.FarmFault.{FarmFault}
use Rattle.line_program.specs.declared.fault.FarmFault.TheVariants.{WriteFault, Memory}
use Rattle.line_program.specs.Program.{IsEnough, HasRun, Called, IsDoneBy, IsOutcome}
use Rattle.line_program.specs.Side.{Side}
use Rattle.line_program.proofs.FirstFaultyLemmas.{refused_enough, fine_enough}
use Rattle.line_program.proofs.ProgramLemmas as programs
use Rattle.line_program.proofs.ProgramLemmas.{written, half_written}
use Rattle.mirror_script.specs.Script.{line_reader, finished, nothing_read, script}
use Rattle.mirror_script.specs.FirstFaulty.{of_scripts, IsFirstFaulty, IsFaultless}
use Rattle.mirror_script.specs.declared.line.Step.{Step}
use Rattle.mirror_script.specs.declared.said.Said.{Said}
use Rattle.mirror_script.specs.declared.script.Script.{Script}
use Rattle.mirror_script.proofs.FirstFaultyLemmas.{Matches, matches_nothing, follows}
use Rattle.mirror_script.proofs.SpelledLemmas.{script_says}
use Rattle.mirror_run.specs.Program.{rooms_of, RunsTo, mirror_runs}
use Rattle.mirror_run.specs.Sites.{Begins, StepsRun}
use Rattle.mirror_run.specs.LinesAsOne.{AreAsOne}
use Rattle.mirror_run.specs.Steps.{Lines, empty, lines_text}
use Rattle.mirror_run.proofs.LinesAsOneLemmas.{are_as_one}

-- why there was no script
pub no_run : (f : FarmFault) (v : List ℕ) (content : Option (List ℕ)) (o : Side) → IsEnough v content
    → (f ≡ Memory) ⊎ IsFirstFaulty v f → HasRun mirror_runs (Err f) content o o
no_run f v content o enough why = programs.no_run mirror_runs f content o
    (refused_enough of_scripts line_reader finished Matches follows nothing_read matches_nothing f v content enough why)

-- the input says the script
says : (v : List ℕ) (s : Script) (content : Option (List ℕ)) → IsEnough v content → script v ≡ Ok s
    → IfSome content (λ bytes. IsFaultless bytes × (script bytes ≡ Ok s))
says v s content enough is =
    fine_enough of_scripts line_reader finished Matches follows nothing_read matches_nothing s v content enough is

runs_to : (bytes : List ℕ) (s : Script) (ls : List Said) (left : List Step)
    → IsFaultless bytes × (script bytes ≡ Ok s) → Begins (rooms_of s) s.steps left ls → RunsTo bytes ls left
runs_to bytes s ls left p b = record {
  script = s;
  fine = p.0;
  says = script_says bytes s p.1;
  done = b.done;
  steps = b.all;
  lines = b.lines;
}

pub ran : (result : Result ⊤ FarmFault) (v : List ℕ) (s : Script) (content : Option (List ℕ)) (o p : Side)
    → IsEnough v content → script v ≡ Ok s → StepsRun (rooms_of s) s.steps result o p
    → HasRun mirror_runs result content o p
ran (Ok x) v s content o p enough is h = written mirror_runs (lines_text h.0) content o p
    (IfSome_then content (says v s content enough is) (λ bytes q. (
      q.0,
      (
        h.0,
        runs_to bytes s h.0 [] q (record { done = s.steps; all = sym (append-nil s.steps); lines = h.1 }),
        refl,
      ),
    )))
    h.2 h.3
ran (Err WriteFault) v s content o p enough is h = half_written mirror_runs (lines_text h.0) content o p
    (IfSome_then content (says v s content enough is)
    (λ bytes q. (q.0, (h.0, h.1, runs_to bytes s h.0 h.1 q h.2, refl)))) h.3 h.4
ran (Err Memory) v s content o p enough is h = (
  h.4,
  inr (
    lines_text h.0,
    IfSome_then content (says v s content enough is) (λ bytes q. (h.0, h.1, runs_to bytes s h.0 h.1 q h.2, refl)),
    h.3,
  ),
)
ran (Err other) v s content o p enough is h = absurd h

-- ---- one cache

whole_lines : (bytes : List ℕ) (ls : List Said) (run : RunsTo bytes ls [])
    → Lines (rooms_of run.script) empty run.script.steps ls
whole_lines bytes ls run =
    subst (λ (xs : List Step). Lines (rooms_of run.script) empty xs ls) (sym (run.steps ∙ append-nil run.done))
    run.lines

as_one_by : (words : List (List ℕ)) (c : Called) → IsDoneBy mirror_runs words (Ok tt) c → IfSome c.input.content
    (λ bytes. (ls : List Said) × (run : RunsTo bytes ls []) × Added (lines_text ls) c.out.content c.out_after.content
    × AreAsOne run.script ls)
as_one_by [] c h = absurd cc
as_one_by (name ∷ []) c h = IfSome_then c.input.content h.1.1 (λ bytes r.
    let w = r.1 in
    let t = w.1 in (
      t.0,
      t.1,
      subst (λ (x : List ℕ). Added x c.out.content c.out_after.content) t.2 w.2,
      are_as_one t.1.script t.0 (whole_lines bytes t.0 t.1),
    ))
as_one_by (name ∷ word ∷ words) c h = absurd cc

pub as_one_of : (answer : ℕ) (c : Called) (e x : Side) → IsOutcome mirror_runs answer c e x → answer ≡ 0
    → IfSome c.input.content (λ bytes. (ls : List Said) × (run : RunsTo bytes ls [])
    × Added (lines_text ls) c.out.content c.out_after.content × AreAsOne run.script ls)
as_one_of answer c e x o zero_is = as_one_by c.words c (o.answered.done zero_is).0
