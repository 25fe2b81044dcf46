-- What reading a script answers is its first faulty line, with its cause.
use Rattle.std.proofs.Common.{◌≡◌, ℕ, ◌↔◌, true, false, List, [], ◌∷◌, ◌++◌, map, Option, Some, None, Err, refl, sym}
use Rattle.std.proofs.Common.{ap, subst, ◌∙◌}
use Rattle.std.specs.Prelude.{option_to_list}
use Rattle.std.specs.List.{filter_map, list_any}
use Rattle.line_program.specs.declared.fault.FarmFault.{FarmFault}
use Rattle.line_program.specs.declared.fault.FarmFault.TheVariants.{BadLine}
use Rattle.line_program.proofs.FirstFaultyLemmas as scripts
use Rattle.line_program.proofs.FirstFaultyLemmas.{Follows, err_is}
use Rattle.farm_script.specs.declared.lines.Scopes.{Scopes}
use Rattle.farm_script.specs.declared.lines.Scopes.TheVariants.{Refused, Taken}
use Rattle.farm_script.specs.declared.setup.SetupScheduler.{SetupScheduler}
use Rattle.lives_script.specs.Grammar.{Spells}
use Rattle.lives_script.specs.Ids.{Ids, IsRange, MeetSome, meets}
use Rattle.lives_script.specs.Place.{Before, before_of, ids_in, ids_of, misplaced, duplicate, overlapping}
use Rattle.lives_script.specs.Script.{Read, lives_of, before, line_reader, finished, finished_with, script, nothing_read}
use Rattle.lives_script.specs.FirstFaulty.{Overlaps, of_scripts, IsFirstFaulty}
use Rattle.lives_script.specs.declared.line.Line.{Line}
use Rattle.lives_script.specs.declared.line.Line.TheVariants as lines
use Rattle.lives_script.specs.declared.script.Life.{Life}
use Rattle.lives_script.proofs.IdLemmas.{ids_from, any_sound, any_complete}
use Rattle.lives_script.proofs.LineLemmas.{line_sound, line_complete, spells_taken}
use Rattle.lives_script.proofs.MatchLemmas.{Matches, before_is, matches_nothing, matches_next}

-- ---- ranges that meet

-- a life whose range meets that of an earlier one, by their numbers and by their ids
overlaps : (rs : List Ids) (l : Line) (two : Before) → two.lives ≡ rs → overlapping two l ≡ true
    → (ids : Ids) × (ids_in l ≡ Some ids) × (list_any (λ r. meets r ids) rs ≡ true)
overlaps rs lines.Skip two is e = absurd cc
overlaps rs (lines.Setup s) two is e = absurd cc
overlaps rs (lines.Life from count) two is e = (
  ids_from from count,
  refl,
  ap (list_any (λ r. meets r (ids_from from count)))
      (sym is) ∙ e,
)
overlaps rs (lines.Event x) two is e = absurd cc

alone_is : (l : Line) (ids : Ids) (two : Before) → ids_in l ≡ Some ids → overlapping two l ≡ false
    → list_any (λ r. meets r ids) two.lives ≡ false
alone_is lines.Skip ids two is e = absurd cc
alone_is (lines.Setup s) ids two is e = absurd cc
alone_is (lines.Life from count) ids two is e =
    let same : ids_from from count ≡ ids = cc in
    subst (λ (s : Ids). list_any (λ r. meets r s) two.lives ≡ false) same e
alone_is (lines.Event x) ids two is e = absurd cc

-- a life that is spelled has a range
range_of : (scopes : Scopes) (t : List ℕ) (l : Line) (ids : Ids) → Spells scopes t l → ids_in l ≡ Some ids
    → IsRange ids
range_of scopes t lines.Skip ids is e = absurd cc
range_of scopes t (lines.Setup s) ids is e = absurd cc
range_of scopes t (lines.Life from count) ids is e =
    let same : ids_from from count ≡ ids = cc in
    subst IsRange same is.range
range_of scopes t (lines.Event x) ids is e = absurd cc

overlap : (r : Read) (said : List Line) (t : List ℕ) (l : Line) → Matches r said → Spells Refused t l
    → overlapping (before r) l ≡ true → Overlaps said l
overlap r said t l m says e =
    let met = overlaps (map ids_of (lives_of r)) l (before r) refl e in
    let some = any_sound (map ids_of (lives_of r)) met.0 m.ranges (range_of Refused t l met.0 says met.1) met.2 in
    (met.0, met.1, subst (λ (rs : List Ids). MeetSome rs met.0) (sym m.ids) some)

no_overlap : (r : Read) (said : List Line) (t : List ℕ) (l : Line) → Matches r said → Spells Refused t l
    → overlapping (before r) l ≡ false → Overlaps said l → ⊥
no_overlap r said t l m says e (ids, is, some) =
    let met : list_any (λ x. meets x ids) (map ids_of (lives_of r)) ≡ true =
    any_complete (map ids_of (lives_of r)) ids m.ranges (range_of Refused t l ids says is)
    (subst (λ (rs : List Ids). MeetSome rs ids) m.ids some) in
    let clash : true ≡ false = sym met ∙ alone_is l ids (before r) is e in
    absurd cc

-- a server is no life
not_both : (b : Before) (l : Line) (ids : Ids) → duplicate b l ≡ true → ids_in l ≡ Some ids → ⊥
not_both b lines.Skip ids e is = absurd cc
not_both b (lines.Setup s) ids e is = absurd cc
not_both b (lines.Life from count) ids e is = absurd cc
not_both b (lines.Event x) ids e is = absurd cc

-- ---- the end

-- at the end there is no life
none_said : (over : List Life) (o : Option Life) → (o ≡ None → over ≡ []) → o ≡ None
    → map ids_of (over ++ option_to_list o) ≡ []
none_said over o kept e = ap (λ (x : Option Life). map ids_of (over ++ option_to_list x)) e
    ∙ ap (λ (ls : List Life). map ids_of (ls ++ [])) (kept e)

said_none : (over : List Life) (o : Option Life) → map ids_of (over ++ option_to_list o) ≡ [] → o ≡ None
said_none over None e = refl
said_none [] (Some l) e = absurd cc
said_none (m ∷ over) (Some l) e = absurd cc

ended : (r : Read) (number : ℕ) (f : FarmFault) (s : Option SetupScheduler) (o : Option Life)
    → (s ≡ None → o ≡ None) → finished_with number r s o ≡ Err f → (o ≡ None) × (f ≡ BadLine number)
ended r number f s None scheduled e = (refl, sym (err_is (BadLine number) f e))
ended r number f None (Some l) scheduled e = let clash : Some l ≡ None = scheduled refl in absurd cc
ended r number f (Some s) (Some l) scheduled e = absurd cc

at_end : (r : Read) (said : List Line) (number : ℕ) (f : FarmFault) → Matches r said → finished number r ≡ Err f
    → (filter_map ids_in said ≡ []) × (f ≡ BadLine number)
at_end r said number f m e =
    let is = ended r number f r.setup.scheduler r.last m.scheduled e in
    (m.ids ∙ none_said r.over r.last m.kept is.0, is.1)

lacks : (r : Read) (number : ℕ) (s : Option SetupScheduler) (o : Option Life) → o ≡ None
    → finished_with number r s o ≡ Err (BadLine number)
lacks r number s None none = refl
lacks r number s (Some l) none = absurd cc

-- what was read so far judges each line as the grammar does
pub follows : Follows of_scripts line_reader finished Matches
follows = record {
  sound = line_sound Refused;
  complete = line_complete Refused;
  scoped_sound = line_sound Taken;
  scoped_complete = line_complete Taken;
  loosens = λ t l says. spells_taken Refused t l says;
  place = λ r said l m. ap (λ (b : Before). misplaced b l) (sym (before_is r said m));
  again = λ r said t l m says e. ap (λ (b : Before). duplicate b l) (sym (before_is r said m)) ∙ e;
  first = λ r said t l m says e d.
      let clash : true ≡ false = sym d ∙ ap (λ (b : Before). duplicate b l) (sym (before_is r said m)) ∙ e in
      absurd cc;
  meets = overlap;
  apart = no_overlap;
  not_both = λ said l d o. not_both (before_of said) l o.0 d o.1;
  next = matches_next;
  ended = at_end;
  lacks = λ r said number m none.
      lacks r number r.setup.scheduler r.last (said_none r.over r.last (sym m.ids ∙ none));
}

pub first_faulty : (bytes : List ℕ) (f : FarmFault) → (script bytes ≡ Err f) ↔ IsFirstFaulty bytes f
first_faulty = scripts.first_faulty of_scripts line_reader finished Matches follows nothing_read matches_nothing
