-- A script is read as what its lines spell.
use Rattle.std.proofs.Common.{◌≡◌, ◌↔◌, ◌⊎◌, ℕ, ◌≤◌, List, [], ◌∷◌, length, Option, Some, None, Result, Ok, refl}
use Rattle.std.proofs.Common.{sym, ap, subst, ◌∙◌}
use Rattle.std.specs.Prelude.{option_to_list, IfErr}
use Rattle.std.specs.List.{filter_map, AllByRecursion}
use Rattle.line_program.specs.FirstFaulty.{EachLine}
use Rattle.line_program.specs.Lines.{IsScriptFault, IsScriptAnswer}
use Rattle.line_program.specs.Pieces.{pieces, text_of}
use Rattle.line_program.specs.declared.fault.FarmFault.{FarmFault}
use Rattle.line_program.specs.declared.fault.FarmFault.TheVariants as fault
use Rattle.line_program.proofs.FirstFaultyLemmas as scripts
use Rattle.line_program.proofs.FirstFaultyLemmas.{SaysRest}
use Rattle.mirror_script.specs.Grammar.{Spells}
use Rattle.mirror_script.specs.Place.{near_in, far_in, step_in}
use Rattle.mirror_script.specs.Script.{line_reader, finished, finished_with, nothing_read, script, IsShort}
use Rattle.mirror_script.specs.FirstFaulty.{of_scripts, IsFirstFaulty, IsFaultless}
use Rattle.mirror_script.specs.Spelled.{SpellsScript}
use Rattle.mirror_script.specs.declared.line.Step.{Step}
use Rattle.mirror_script.specs.declared.line.Line.{Line}
use Rattle.mirror_script.specs.declared.line.Line.TheVariants as lines
use Rattle.mirror_script.specs.declared.script.Script.{Script}
use Rattle.mirror_script.proofs.LineLemmas.{one_value, step_short}
use Rattle.mirror_script.proofs.FirstFaultyLemmas.{Matches, matches_nothing, follows}

all_read : (bytes : List ℕ) (x : Script) → script bytes ≡ Ok x → SaysRest of_scripts finished Matches [] (pieces bytes) x
all_read = scripts.says_all of_scripts line_reader finished Matches follows nothing_read matches_nothing

short_line : (t : List ℕ) (l : Line) (ls : List Line) → Spells t l → length t ≤ 2097152
    → AllByRecursion IsShort (filter_map step_in ls) → AllByRecursion IsShort (filter_map step_in (l ∷ ls))
short_line t lines.Skip ls says most rest = rest
short_line t (lines.Capacity site n) ls says most rest = rest
short_line t (lines.Step s) ls says most rest = (step_short t s says most, rest)

short_lines : (ps : List (List ℕ)) (ls : List Line) → EachLine Spells ps ls
    → EachLine {L = Line} (λ t l. length t ≤ 2097152) ps ls → AllByRecursion IsShort (filter_map step_in ls)
short_lines [] [] each most = tt
short_lines (p ∷ ps) (l ∷ ls) each most =
    short_line (text_of p) l ls each.0 most.0 (short_lines ps ls each.1 most.1)
short_lines [] (l ∷ ls) each most = absurd each
short_lines (p ∷ ps) [] each most = absurd each

-- what a reader had at the end of a script
record IsFinished (near far : Option ℕ) (steps : List Step) (x : Script) : Type 0 where
  pub near_is : near ≡ Some x.near
  pub far_is : far ≡ Some x.far
  pub steps_are : steps ≡ x.steps

finished_parts : (number : ℕ) (near far : Option ℕ) (steps : List Step) (x : Script)
    → finished_with number near far steps ≡ Ok x → IsFinished near far steps x
finished_parts number None far steps x e = absurd cc
finished_parts number (Some n) None steps x e = absurd cc
finished_parts number (Some n) (Some m) steps x e =
    let made : Script = record { near = n; far = m; steps = steps } in
    let same : made ≡ x = cc in
    subst (IsFinished (Some n) (Some m) steps) same (record { near_is = refl; far_is = refl; steps_are = refl })

pub script_says : (bytes : List ℕ) (x : Script) → script bytes ≡ Ok x → SpellsScript bytes x
script_says bytes x e =
    let rest = all_read bytes x e in
    let parts = finished_parts rest.number rest.end.near rest.end.far rest.end.steps x rest.finished in
    record {
      lines = rest.rest;
      each = rest.each;
      near_is = rest.keeps.near ∙ ap (λ (o : Option ℕ). option_to_list o) parts.near_is;
      far_is = rest.keeps.far ∙ ap (λ (o : Option ℕ). option_to_list o) parts.far_is;
      steps_are = rest.keeps.steps ∙ parts.steps_are;
    }

-- no step has more bytes than a line can say
pub script_short : (bytes : List ℕ) (x : Script) → script bytes ≡ Ok x → AllByRecursion IsShort x.steps
script_short bytes x e =
    let rest = all_read bytes x e in
    let parts = finished_parts rest.number rest.end.near rest.end.far rest.end.steps x rest.finished in
    subst (λ (steps : List Step). AllByRecursion IsShort steps) (rest.keeps.steps ∙ parts.steps_are)
    (short_lines (pieces bytes) rest.rest rest.each rest.short)

head_is : (a b : ℕ) (xs : List ℕ) → xs ≡ a ∷ [] → xs ≡ b ∷ [] → a ≡ b
head_is a b xs p q = cc

abbrev made : ℕ → ℕ → List Step → Script
made near far steps = record { near = near; far = far; steps = steps }

one_script_of : (s t : Script) → s.near ≡ t.near → s.far ≡ t.far → s.steps ≡ t.steps → s ≡ t
one_script_of s t e f g = ap (λ (x : ℕ). made x s.far s.steps) e ∙ ap (λ (x : ℕ). made t.near x s.steps) f
    ∙ ap (λ (xs : List Step). made t.near t.far xs) g

one_script : (bytes : List ℕ) (s t : Script) → SpellsScript bytes s → SpellsScript bytes t → s ≡ t
one_script bytes s t p q =
    let same = scripts.one_each Spells one_value (pieces bytes) p.lines q.lines p.each q.each in
    let nears : filter_map near_in p.lines ≡ t.near ∷ [] =
    ap (λ (ls : List Line). filter_map near_in ls) same ∙ q.near_is in
    let fars : filter_map far_in p.lines ≡ t.far ∷ [] =
    ap (λ (ls : List Line). filter_map far_in ls) same ∙ q.far_is in
    one_script_of s t (head_is s.near t.near (filter_map near_in p.lines) p.near_is nears)
    (head_is s.far t.far (filter_map far_in p.lines) p.far_is fars)
    (sym p.steps_are ∙ ap (λ (ls : List Line). filter_map step_in ls) same ∙ q.steps_are)

-- a script is read exactly where no line is faulty, as what its lines spell
pub script_is_said : (bytes : List ℕ) (s : Script)
    → (script bytes ≡ Ok s) ↔ (IsFaultless bytes × SpellsScript bytes s)
script_is_said = scripts.is_said of_scripts line_reader finished Matches follows nothing_read matches_nothing
    SpellsScript script_says one_script

-- ---- what the reader answers

pub told_faulty : (f : FarmFault) (bytes : List ℕ) → IsScriptFault f (script bytes)
    → (f ≡ fault.Memory) ⊎ IsFirstFaulty bytes f
told_faulty = scripts.told_faulty of_scripts line_reader finished Matches follows nothing_read matches_nothing

pub read_faulty : {X : Type 0} (view : X → Script) (r : Result X FarmFault) (bytes : List ℕ)
    → IsScriptAnswer view r (script bytes) → IfErr r (λ f. (f ≡ fault.Memory) ⊎ IsFirstFaulty bytes f)
read_faulty = scripts.read_faulty of_scripts line_reader finished Matches follows nothing_read matches_nothing
