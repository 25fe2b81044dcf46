-- What a line says is spelled so, and what is spelled so is said.
use Rattle.std.proofs.Common.{◌≡◌, ℕ, ◌==◌, ◌≤◌, false, List, ◌∷◌, ◌++◌, Option, Some, None}
use Rattle.std.proofs.Common.{codes, refl, sym, ap, subst, ◌∙◌, inl, inr, arith}
use Rattle.std.specs.Fmt.{decimal}
use Rattle.std.proofs.lemmas.Bool.Decides.{nat_tests}
use Rattle.std.proofs.lemmas.Option.{same_Some}
use Rattle.dist_types.specs.Addr.{◌>>=◌}
use Rattle.dist_types.proofs.AddrLemmas.{bind_some}
use Rattle.line_program.specs.Texts.{◌⧺◌}
use Rattle.farm_script.specs.Words.{first_word, strip, field}
use Rattle.farm_script.specs.Fields.{number_at, digits_on}
use Rattle.farm_script.specs.Grammar as farm_grammar
use Rattle.farm_script.specs.Grammar.{IsNumber}
use Rattle.farm_script.specs.Lines.{event_at, said_at}
use Rattle.farm_script.specs.Lines as farm
use Rattle.farm_script.specs.declared.lines.Scopes.{Scopes}
use Rattle.farm_script.specs.declared.lines.Scopes.TheVariants.{Taken}
use Rattle.farm_script.specs.declared.lines.Line as farm_line
use Rattle.farm_script.specs.declared.lines.Line.TheVariants as farm_lines
use Rattle.farm_script.proofs.FieldLemmas.{number_law, decimal_lacks, cond_off}
use Rattle.farm_script.proofs.LineLemmas as farm_lemmas
use Rattle.farm_script.proofs.WordLemmas.{bind_is, guard_off, strip_sound, behind_is, behind_cases, follow}
use Rattle.farm_script.proofs.WordLemmas.{visible_lacks, first_word_complete, field_sound, field_complete}
use Rattle.lives_script.specs.Ids.{IsRange}
use Rattle.lives_script.proofs.IdLemmas.{ids_from}
use Rattle.lives_script.specs.Line.{life_at, line_of, line_at}
use Rattle.lives_script.specs.Grammar.{IsLifeLine, Spells}
use Rattle.lives_script.specs.Place.{HasRange}
use Rattle.lives_script.specs.declared.line.Line.{Line}
use Rattle.lives_script.specs.declared.line.Line.TheVariants as lines

-- ---- the line of a life

some_count : (n : ℕ) → (n == 0) ≡ false → 1 ≤ n
some_count n e = grind (arith, nat_tests)

no_zero : (n : ℕ) → 1 ≤ n → (n == 0) ≡ false
no_zero n some = grind (arith, nat_tests)

life_sound : (scopes : Scopes) (r : List ℕ) (l : Line) → life_at r ≡ Some l → Spells scopes (codes "life " ++ r) l
unfolding life_at
life_sound scopes r l e =
    let a = bind_some (field number_at r) _ l e in
    let b = bind_some (number_at a.0.1) _ l a.2 in
    let c = guard_off (b.0 == 0) (Some (lines.Life a.0.0 b.0)) l b.2 in
    let fa = field_sound number_at IsNumber number_law r a.0.0 a.0.1 a.1 in
    let fb = number_law.sound a.0.1 b.0 b.1 in
    let is : IsLifeLine (codes "life " ++ r) (ids_from a.0.0 b.0) = record {
      range = record { from_fits = fa.1.1; some = some_count b.0 c.0; count_fits = fb.1 };
      spelled = ap (λ (x : List ℕ). codes "life " ++ x) (follow _ _ _ _ _ fa.2 fa.1.0 fb.0);
    } in
    subst (Spells scopes (codes "life " ++ r)) (same_Some (lines.Life a.0.0 b.0) l c.1) is

life_complete : (from count : ℕ) → IsRange (ids_from from count)
    → life_at (decimal from ⧺ codes " " ⧺ decimal count) ≡ Some (lines.Life from count)
unfolding life_at
life_complete from count is =
    bind_is _ _ _ _ (field_complete number_at IsNumber number_law (decimal from) from (decimal count)
    (refl, is.from_fits) (decimal_lacks from is.from_fits))
    (bind_is _ _ _ _ (number_law.complete (decimal count) count (refl, is.count_fits))
    (cond_off (count == 0) None (Some (lines.Life from count)) (no_zero count is.some)))

life_first : (scopes : Scopes) (r : List ℕ) → line_at scopes (codes "life " ++ r) ≡ life_at r
unfolding line_at
life_first scopes r = behind_is (codes "life ") r life_at (farm.line_at scopes (codes "life " ++ r) >>= λ l. Some (line_of l))

-- ---- the lines of a farm's script

bind_none : {A B : Type 0} (o : Option A) (f : A → Option B) → o ≡ None → (o >>= f) ≡ None
bind_none o f e = ap (λ (p : Option _). p >>= f) e

-- none of them begins a life
life_word : (r : List ℕ) → field number_at (codes "life " ++ r) ≡ None
unfolding digits_on
life_word r = bind_is (first_word (codes "life" ++ 32 ∷ r)) _ (codes "life", r) None
    (first_word_complete (codes "life") r (visible_lacks (codes "life") refl)) refl

no_event : (scopes : Scopes) (r : List ℕ) → event_at scopes (codes "life " ++ r) ≡ None
unfolding event_at
no_event scopes r = bind_none (field number_at (codes "life " ++ r)) _ (life_word r)

no_farm_line : (scopes : Scopes) (r : List ℕ) → farm.line_at scopes (codes "life " ++ r) ≡ None
unfolding farm.line_at said_at
no_farm_line scopes r =
    bind_none (event_at scopes (codes "life " ++ r)) (λ e. Some (farm_lines.Event e)) (no_event scopes r)

no_life : (scopes : Scopes) (t : List ℕ) (l : farm_line.Line) (o : Option (List ℕ)) → farm.line_at scopes t ≡ Some l
    → strip (codes "life ") t ≡ o → o ≡ None
no_life scopes t l None is e = refl
no_life scopes t l (Some r) is e =
    let clash : None ≡ Some l = sym (no_farm_line scopes r) ∙ ap (farm.line_at scopes)
    (sym (strip_sound (codes "life ") t r e)) ∙ is in
    absurd cc

farm_first : (scopes : Scopes) (t : List ℕ) (l : farm_line.Line) → farm.line_at scopes t ≡ Some l
    → line_at scopes t ≡ Some (line_of l)
unfolding line_at
farm_first scopes t l is =
    let none : strip (codes "life ") t ≡ None = no_life scopes t l (strip (codes "life ") t) is refl in
    rw (none, is) refl

farm_spelled : (scopes : Scopes) (t : List ℕ) (l : farm_line.Line) → farm_grammar.Spells scopes t l
    → Spells scopes t (line_of l)
farm_spelled scopes t farm_lines.Skip is = is
farm_spelled scopes t (farm_lines.Setup s) is = is
farm_spelled scopes t (farm_lines.Event e) is = is

-- ---- all lines

pub line_sound : (scopes : Scopes) (t : List ℕ) (l : Line) → line_at scopes t ≡ Some l → Spells scopes t l
unfolding line_at
line_sound scopes t l e =
    let others : Option Line = farm.line_at scopes t >>= λ l. Some (line_of l) in
    elim (behind_cases (codes "life ") t life_at others (strip (codes "life ") t) l refl e) [
      | inl p ↦ subst (λ (x : List ℕ). Spells scopes x l) (sym p.1) (life_sound scopes p.0 l p.2)
      | inr e2 ↦
          let a = bind_some (farm.line_at scopes t) _ l e2 in
          subst (Spells scopes t) (same_Some (line_of a.0) l a.2)
          (farm_spelled scopes t a.0 (farm_lemmas.line_sound scopes t a.0 a.1))
    ]

pub line_complete : (scopes : Scopes) (t : List ℕ) (l : Line) → Spells scopes t l → line_at scopes t ≡ Some l
line_complete scopes t lines.Skip is =
    farm_first scopes t farm_lines.Skip (farm_lemmas.line_complete scopes t farm_lines.Skip is)
line_complete scopes t (lines.Setup s) is =
    farm_first scopes t (farm_lines.Setup s) (farm_lemmas.line_complete scopes t (farm_lines.Setup s) is)
line_complete scopes t (lines.Life from count) is = ap (line_at scopes) is.spelled
    ∙ life_first scopes (decimal from ⧺ codes " " ⧺ decimal count) ∙ life_complete from count is.range
line_complete scopes t (lines.Event e) is =
    farm_first scopes t (farm_lines.Event e) (farm_lemmas.line_complete scopes t (farm_lines.Event e) is)

-- a line without scopes is one where scopes are taken
pub spells_taken : (scopes : Scopes) (t : List ℕ) (l : Line) → Spells scopes t l → Spells Taken t l
spells_taken scopes t lines.Skip is = farm_lemmas.spells_taken scopes t farm_lines.Skip is
spells_taken scopes t (lines.Setup s) is = farm_lemmas.spells_taken scopes t (farm_lines.Setup s) is
spells_taken scopes t (lines.Life from count) is = is
spells_taken scopes t (lines.Event e) is = farm_lemmas.spells_taken scopes t (farm_lines.Event e) is

pub one_value : (scopes : Scopes) (t : List ℕ) (k l : Line) → Spells scopes t k → Spells scopes t l → k ≡ l
one_value scopes t k l p q = same_Some k l (sym (line_complete scopes t k p) ∙ line_complete scopes t l q)

-- ---- a life that is read has an id

has_range : (scopes : Scopes) (t : List ℕ) (l : Line) → Spells scopes t l → HasRange l
has_range scopes t lines.Skip is = tt
has_range scopes t (lines.Setup s) is = tt
has_range scopes t (lines.Life from count) is = is.range.some
has_range scopes t (lines.Event e) is = tt

pub life_range : (r : List ℕ) (l : Line) → life_at r ≡ Some l → HasRange l
life_range r l e = has_range Taken (codes "life " ++ r) l (life_sound Taken r l e)
