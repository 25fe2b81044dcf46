-- Lines of steps, one after the other.
use Rattle.std.proofs.Common.{◌≡◌, ℕ, suc, ◌+◌, ◌<◌, ◌≤◌, List, [], ◌∷◌, ◌++◌, length, get_or, take, drop, Option}
use Rattle.std.proofs.Common.{Result, Ok, Err, refl, sym, ap, subst, ◌∙◌, append_assoc, arith}
use Rattle.std.specs.Prelude.{⊤}
use Rattle.std.proofs.lemmas.List.{append-nil, take_more, take_all, take-append-drop}
use Rattle.dist_types.specs.Cause.{Rose}
use Rattle.dist_types.specs.Content.{Added, Began}
use Rattle.dist_types.proofs.Contents.{added_none, added_then}
use Rattle.line_program.specs.declared.fault.FarmFault.{FarmFault}
use Rattle.line_program.specs.declared.fault.FarmFault.TheVariants.{WriteFault, Memory}
use Rattle.line_program.specs.Side.{Side}
use Rattle.line_program.proofs.ReportLemmas.{then_began}
use Rattle.mirror_script.specs.Said.{said_text}
use Rattle.mirror_script.specs.declared.line.Step.{Step}
use Rattle.mirror_script.specs.declared.said.Said.{Said}
use Rattle.mirror.specs.Sides.{Sides}
use Rattle.mirror_run.specs.Sites.{InMemory, IsAt, Does, Begins, StepsRun}
use Rattle.mirror_run.specs.Steps.{Rooms, Says, after, after_all, Lines, empty, lines_text}

after_push : (rooms : Rooms) (xs : List Step) (x : Step) (s : Sides)
    → after_all rooms (xs ++ x ∷ []) s ≡ after rooms x (after_all rooms xs s)
after_push rooms [] x s = refl
after_push rooms (y ∷ ys) x s = after_push rooms ys x (after rooms y s)

lines_push : (rooms : Rooms) (s : Sides) (xs : List Step) (ls : List Said) (x : Step) (l : Said)
    → Lines rooms s xs ls → Says rooms (after_all rooms xs s) x l → Lines rooms s (xs ++ x ∷ []) (ls ++ l ∷ [])
lines_push rooms s [] [] x l h says = (says, tt)
lines_push rooms s (y ∷ ys) (k ∷ ks) x l h says = (h.0, lines_push rooms (after rooms y s) ys ks x l h.1 says)
lines_push rooms s [] (k ∷ ks) x l h says = absurd h
lines_push rooms s (y ∷ ys) [] x l h says = absurd h

text_push : (ls : List Said) (l : Said) → lines_text (ls ++ l ∷ []) ≡ lines_text ls ++ said_text l
text_push [] l = append-nil (said_text l)
text_push (k ∷ ks) l = ap (λ (t : List ℕ). said_text k ++ t) (text_push ks l)
    ∙ sym (append_assoc (said_text k) (lines_text ks) (said_text l))

-- the first steps are done, and their lines are written
pub record SoFar (rooms : Rooms) (steps : List Step) (i : ℕ) (m : InMemory) (o p : Side) : Type 0 where
  pub ls : List Said
  pub lines : Lines rooms empty (take i steps) ls
  pub at : IsAt rooms (after_all rooms (take i steps) empty) m
  pub added : Added (lines_text ls) o.content p.content
  pub steady : p.faults ≡ o.faults

pub begun : (rooms : Rooms) (steps : List Step) (m : InMemory) (o : Side) → IsAt rooms empty m
    → SoFar rooms steps 0 m o o
begun rooms steps m o at = record {
  ls = [];
  lines = tt;
  at = at;
  added = added_none o.content;
  steady = refl;
}

-- a step was done, and this is its line
pub record Did (rooms : Rooms) (x : Step) (line : List ℕ) (m n : InMemory) : Type 0 where
  pub said : Said
  pub text : line ≡ said_text said
  pub does : (s : Sides) → IsAt rooms s m → Says rooms s x said × IsAt rooms (after rooms x s) n

pub did_in : (rooms : Rooms) (x : Step) (line : List ℕ) (m n : InMemory)
    → ((l : Said) × (line ≡ said_text l) × Does x l m n) → Did rooms x line m n
did_in rooms x line m n h = record { said = h.0; text = h.1; does = h.2 rooms }

taken : (steps : List Step) (i : ℕ) (x : Step) → i < length steps → x ≡ get_or steps i x
    → take (i + 1) steps ≡ take i steps ++ x ∷ []
taken steps i x below is = take_more steps i x below ∙ ap (λ (y : Step). take i steps ++ y ∷ []) (sym is)

pub more : (rooms : Rooms) (steps : List Step) (i : ℕ) (x : Step) (line : List ℕ) (m n : InMemory) (o p q : Side)
    → i < length steps → x ≡ get_or steps i x → SoFar rooms steps i m o p → Did rooms x line m n
    → Added line p.content q.content → q.faults ≡ p.faults → SoFar rooms steps (i + 1) n o q
more rooms steps i x line m n o p q below is so did added steady =
    let front = taken steps i x below is in
    let d = did.does (after_all rooms (take i steps) empty) so.at in
    record {
      ls = so.ls ++ did.said ∷ [];
      lines = subst (λ (xs : List Step). Lines rooms empty xs (so.ls ++ did.said ∷ [])) (sym front)
          (lines_push rooms empty (take i steps) so.ls x did.said so.lines d.0);
      at = subst (λ (xs : List Step). IsAt rooms (after_all rooms xs empty) n) (sym front)
          (subst (λ (s : Sides). IsAt rooms s n) (sym (after_push rooms (take i steps) x empty)) d.1);
      added = subst (λ (t : List ℕ). Added t o.content q.content) (sym (text_push so.ls did.said))
          (subst (λ (t : List ℕ). Added (lines_text so.ls ++ t) o.content q.content) did.text
          (added_then (lines_text so.ls) line o.content p.content q.content so.added added));
      steady = steady ∙ so.steady;
    }

-- all steps are done
pub all_done : (rooms : Rooms) (steps : List Step) (i : ℕ) (m : InMemory) (o p : Side) → length steps ≤ i
    → SoFar rooms steps i m o p → StepsRun rooms steps (Ok tt) o p
all_done rooms steps i m o p past so = (
  so.ls,
  subst (λ (xs : List Step). Lines rooms empty xs so.ls) (take_all i steps past) so.lines,
  so.added,
  so.steady,
)

-- memory ran out
pub no_memory : (rooms : Rooms) (steps : List Step) (i : ℕ) (m : InMemory) (o p : Side)
    → SoFar rooms steps i m o p → StepsRun rooms steps (Err Memory) o p
no_memory rooms steps i m o p so = (
  so.ls,
  drop i steps,
  record { done = take i steps; all = sym (take-append-drop i steps); lines = so.lines },
  so.added,
  so.steady,
)

-- memory ran out at once
pub none_done : (rooms : Rooms) (steps : List Step) (o : Side) → StepsRun rooms steps (Err Memory) o o
none_done rooms steps o = (
  [],
  steps,
  record { done = []; all = refl; lines = tt },
  added_none o.content,
  refl,
)

-- a line was not written whole
pub no_write : (rooms : Rooms) (steps : List Step) (i : ℕ) (x : Step) (line : List ℕ) (m n : InMemory)
    (o p q : Side) → i < length steps → x ≡ get_or steps i x → SoFar rooms steps i m o p → Did rooms x line m n
    → Began line p.content q.content → Rose p.faults q.faults → StepsRun rooms steps (Err WriteFault) o q
no_write rooms steps i x line m n o p q below is so did began rose =
    let front = taken steps i x below is in
    let d = did.does (after_all rooms (take i steps) empty) so.at in (
      so.ls ++ did.said ∷ [],
      drop (i + 1) steps,
      record {
        done = take (i + 1) steps;
        all = sym (take-append-drop (i + 1) steps);
        lines = subst (λ (xs : List Step). Lines rooms empty xs (so.ls ++ did.said ∷ [])) (sym front)
            (lines_push rooms empty (take i steps) so.ls x did.said so.lines d.0);
      },
      subst (λ (t : List ℕ). Began t o.content q.content) (sym (text_push so.ls did.said))
          (subst (λ (t : List ℕ). Began (lines_text so.ls ++ t) o.content q.content) did.text
          (then_began (lines_text so.ls) line o.content p.content q.content so.added began)),
      subst (λ (k : ℕ). Rose k q.faults) so.steady rose,
    )
