-- Versions, words and events: what their readers read is their one text, and that text is read.
use Rattle.std.proofs.Common.{◌≡◌, ℕ, ◌^◌, ◌<◌, ◌⊎◌, ◌==◌, ◌||◌, arith, Bool, true, false, List, Option, Some, codes}
use Rattle.std.proofs.Common.{refl, sym, ap, subst, ◌∙◌, inl, inr}
use Rattle.std.specs.Fmt.{decimal}
use Rattle.std.proofs.lemmas.Bool.{eqb-true}
use Rattle.std.proofs.lemmas.Option.{same_Some, cond_some}
use Rattle.dist_types.specs.Addr.{◌>>=◌}
use Rattle.dist_types.proofs.AddrLemmas.{bind_some}
use Rattle.farm_script.specs.Fields.{number_at}
use Rattle.farm_script.specs.Lines.{line_at}
use Rattle.farm_script.specs.Place.{event_in}
use Rattle.farm_script.specs.Grammar.{IsLine}
use Rattle.farm_script.specs.declared.lines.Scopes.TheVariants.{Refused}
use Rattle.farm_script.specs.declared.lines.Line.{Line}
use Rattle.farm_script.specs.declared.lines.Line.TheVariants as script
use Rattle.farm_script.specs.declared.event.Event.{Event}
use Rattle.farm_script.proofs.FieldLemmas.{number_law, decimal_lacks}
use Rattle.farm_script.proofs.LineLemmas.{line_sound, line_complete}
use Rattle.farm_script.proofs.WordLemmas.{IsReader, Lacks, bind_is}
use Rattle.farm_entries.specs.declared.entry.EntryWord.{EntryWord}
use Rattle.farm_entries.specs.declared.entry.EntryWord.TheVariants as word
use Rattle.run_lines.specs.Texts.{event_text, word_text}
use Rattle.run_lines.specs.Fields.{exactly}
use Rattle.run_lines.specs.Lines.{word_at, as_version, version_at, printed_event_at}
use Rattle.run_lines.proofs.FieldLemmas.{Exact, Anything, then_word, this_value, exactly_sound, exactly_complete}

word_sound : (t : List ℕ) (k : EntryWord) → word_at t ≡ Some k → Exact word_text Anything t k
word_sound t k e = then_word (codes "void") t _ _ k (Exact word_text Anything t k) e
    (λ is f. this_value word_text Anything t word.Void k f is tt)
    (λ e2. then_word (codes "down") t _ _ k (Exact word_text Anything t k) e2
    (λ is f. this_value word_text Anything t word.Down k f is tt)
    (λ e3. then_word (codes "waiting") t _ _ k (Exact word_text Anything t k) e3
    (λ is f. this_value word_text Anything t word.Waiting k f is tt)
    (λ e4. then_word (codes "died") t _ _ k (Exact word_text Anything t k) e4
    (λ is f. this_value word_text Anything t word.Died k f is tt) (λ e5. absurd cc))))

word_complete : (k : EntryWord) → word_at (word_text k) ≡ Some k
word_complete word.Void = refl
word_complete word.Down = refl
word_complete word.Waiting = refl
word_complete word.Died = refl

pub word_law : IsReader word_at (Exact word_text Anything)
word_law = record { sound = word_sound; complete = λ t k is. ap word_at is.0 ∙ word_complete k }

-- the two versions
abbrev pub IsVersion : ℕ → Type 0
IsVersion v = (v ≡ 1) ⊎ (v ≡ 2)

one_of_two : (a b : Bool) → (a || b) ≡ true → (a ≡ true) ⊎ (b ≡ true)
one_of_two true b e = inl refl
one_of_two false b e = inr e

is_version : (v : ℕ) → ((v == 1) || (v == 2)) ≡ true → IsVersion v
is_version v e = elim (one_of_two (v == 1) (v == 2) e) [
  | inl one ↦ inl (eqb-true v 1 one)
  | inr two ↦ inr (eqb-true v 2 two)
]

version_fits : (v : ℕ) → IsVersion v → v < 2 ^ 64
version_fits v (inl one) = omega (arith, one)
version_fits v (inr two) = omega (arith, two)

taken_version : (v : ℕ) → IsVersion v → as_version v ≡ Some v
taken_version v (inl one) = ap as_version one ∙ ap (λ (n : ℕ). Some n) (sym one)
taken_version v (inr two) = ap as_version two ∙ ap (λ (n : ℕ). Some n) (sym two)

pub version_law : IsReader version_at (Exact decimal IsVersion)
version_law = record {
  sound = λ t v e.
      let a = bind_some (number_at t) as_version v e in
      let g = cond_some ((a.0 == 1) || (a.0 == 2)) a.0 v a.2 in
      let s = number_law.sound t a.0 a.1 in
      (s.0 ∙ ap decimal g.1, subst IsVersion g.1 (is_version a.0 g.0));
  complete = λ t v is. bind_is (number_at t) as_version v (Some v)
      (number_law.complete t v (is.0, version_fits v is.1)) (taken_version v is.1);
}

pub version_lacks : (v : ℕ) → IsVersion v → Lacks (decimal v)
version_lacks v is = decimal_lacks v (version_fits v is)

-- ---- events

-- the event has a line in scripts, as it is printed
abbrev pub HasLine : Event → Type 0
HasLine e = IsLine (event_text e) (script.Event e)

event_is : (l : Line) (e : Event) → event_in l ≡ Some e → l ≡ script.Event e
event_is script.Skip e is = absurd cc
event_is (script.Setup s) e is = cases s is
  where
    cases : (s : _) → event_in (script.Setup s) ≡ Some e → script.Setup s ≡ script.Event e
    cases s is = absurd cc
event_is (script.Event x) e is = ap (λ (y : Event). script.Event y) (same_Some x e is)

pub event_law : IsReader printed_event_at (Exact event_text HasLine)
unfolding printed_event_at
event_law = record {
  sound = λ t e h.
      let a = bind_some (line_at Refused t >>= event_in) (exactly event_text t) e h in
      let b = bind_some (line_at Refused t) event_in a.0 a.1 in
      let g = exactly_sound event_text t a.0 e a.2 in
      let said : IsLine t b.0 = line_sound Refused t b.0 b.1 in
      let is : IsLine t (script.Event e) = subst (IsLine t) (event_is b.0 a.0 b.2
      ∙ ap (λ (y : Event). script.Event y) g.1) said in
      (g.0, subst (λ (x : List ℕ). IsLine x (script.Event e)) g.0 is);
  complete = λ t e is.
      ap (λ (x : List ℕ). line_at Refused x >>= event_in >>= exactly event_text x) is.0
      ∙ bind_is (line_at Refused (event_text e) >>= event_in) (exactly event_text (event_text e)) e (Some e)
      (bind_is (line_at Refused (event_text e)) event_in (script.Event e) (Some e)
      (line_complete Refused (event_text e) (script.Event e) is.1) refl) (exactly_complete event_text e);
}
