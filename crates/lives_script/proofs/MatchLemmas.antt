-- What was read so far is what the lines so far say.
use Rattle.std.proofs.Common.{◌≡◌, ℕ, true, false, not, ◌&&◌, ◌||◌, ◌==◌, List, [], ◌∷◌, ◌++◌}
use Rattle.std.proofs.Common.{map, Option, Some, None, refl, sym, ap, subst, ◌∙◌, inl, inr}
use Rattle.std.proofs.Common.{eqb-true}
use Rattle.std.specs.Prelude.{option_to_list}
use Rattle.std.specs.Option.{option_map}
use Rattle.std.specs.List.{filter_map, AllByRecursion}
use Rattle.std.proofs.lemmas.Bool.{or_parts, cases_Bool}
use Rattle.line_program.proofs.FirstFaultyLemmas.{push_none, push_some}
use Rattle.farm_script.specs.Place as farm_place
use Rattle.farm_script.specs.Place.{is_nil}
use Rattle.farm_script.specs.Script as farm
use Rattle.farm_script.specs.declared.event.Event.{Event}
use Rattle.farm_script.specs.declared.lines.Scopes.TheVariants.{Refused}
use Rattle.farm_script.specs.declared.lines.Line as farm_line
use Rattle.farm_script.specs.declared.lines.Line.TheVariants as farm_lines
use Rattle.farm_script.specs.declared.lines.SetupLine.{SetupLine}
use Rattle.farm_script.specs.declared.lines.SetupLine.TheVariants.{Version2, Scheduler, Server, Builder}
use Rattle.farm_script.specs.declared.setup.SetupScheduler.{SetupScheduler}
use Rattle.farm_script.proofs.MatchLemmas as farm_matches
use Rattle.farm_script.proofs.VisibleLemmas.{both}
use Rattle.lives_script.specs.Grammar.{Spells}
use Rattle.lives_script.specs.Ids.{Ids, IsRange, AreApartIds}
use Rattle.lives_script.specs.Place.{setup_in, ids_in, ids_of, events_in, lives_in, has_ids, Before, before_of}
use Rattle.lives_script.specs.Place.{misplaced, duplicate, overlapping}
use Rattle.lives_script.specs.Script.{Read, lives_of, before, with_event, with_line, nothing_read, IsLastKept}
use Rattle.lives_script.specs.declared.line.Line.{Line}
use Rattle.lives_script.specs.declared.line.Line.TheVariants as lines
use Rattle.lives_script.specs.declared.script.Life.{Life}
use Rattle.lives_script.proofs.IdLemmas.{ids_from, ranges_push, apart_push, any_complete}

-- ---- lists

map_push : (ls : List Life) (l : Life) → map ids_of (ls ++ l ∷ []) ≡ map ids_of ls ++ ids_of l ∷ []
map_push [] l = refl
map_push (m ∷ ls) l = ap (λ (rs : List Ids). ids_of m ∷ rs) (map_push ls l)

-- ---- lives, line by line

-- a line that begins no life and in which nothing happens
record IsQuiet (l : Line) : Type 0 where
  events : events_in (l ∷ []) ≡ []
  next : (ls : List Line) → (events_in (l ∷ ls) ≡ events_in ls) × (lives_in (l ∷ ls) ≡ lives_in ls)

quiet_skip : IsQuiet lines.Skip
quiet_skip = record { events = refl; next = λ ls. (refl, refl) }

quiet_setup : (s : SetupLine) → IsQuiet (lines.Setup s)
quiet_setup s = record { events = refl; next = λ ls. (refl, refl) }

events_quiet : (said : List Line) (l : Line) → IsQuiet l → events_in (said ++ l ∷ []) ≡ events_in said
events_quiet [] l q = q.events
events_quiet (lines.Skip ∷ said) l q = events_quiet said l q
events_quiet (lines.Setup s ∷ said) l q = events_quiet said l q
events_quiet (lines.Life from count ∷ said) l q = refl
events_quiet (lines.Event e ∷ said) l q = ap (λ (es : List Event). e ∷ es) (events_quiet said l q)

abbrev life : ℕ → ℕ → List Event → Life
life from count events = record { from = from; count = count; events = events }

lives_quiet : (said : List Line) (l : Line) → IsQuiet l → lives_in (said ++ l ∷ []) ≡ lives_in said
lives_quiet [] l q = (q.next []).1
lives_quiet (lines.Skip ∷ said) l q = lives_quiet said l q
lives_quiet (lines.Setup s ∷ said) l q = lives_quiet said l q
lives_quiet (lines.Life from count ∷ said) l q =
    ap (λ (es : List Event). life from count es ∷ lives_in (said ++ l ∷ []))
    (events_quiet said l q)
    ∙ ap (λ (ls : List Life). life from count (events_in said) ∷ ls)
    (lives_quiet said l q)
lives_quiet (lines.Event e ∷ said) l q = lives_quiet said l q

events_begun : (said : List Line) (from count : ℕ) → events_in (said ++ lines.Life from count ∷ []) ≡ events_in said
events_begun [] from count = refl
events_begun (lines.Skip ∷ said) from count = events_begun said from count
events_begun (lines.Setup s ∷ said) from count = events_begun said from count
events_begun (lines.Life f n ∷ said) from count = refl
events_begun (lines.Event e ∷ said) from count = ap (λ (es : List Event). e ∷ es) (events_begun said from count)

lives_begun : (said : List Line) (from count : ℕ) → lives_in (said ++ lines.Life from count ∷ [])
    ≡ lives_in said ++ life from count [] ∷ []
lives_begun [] from count = refl
lives_begun (lines.Skip ∷ said) from count = lives_begun said from count
lives_begun (lines.Setup s ∷ said) from count = lives_begun said from count
lives_begun (lines.Life f n ∷ said) from count =
    ap (λ (es : List Event). life f n es ∷ lives_in (said ++ lines.Life from count ∷ []))
    (events_begun said from count)
    ∙ ap (λ (ls : List Life). life f n (events_in said) ∷ ls)
    (lives_begun said from count)
lives_begun (lines.Event e ∷ said) from count = lives_begun said from count

-- what happens before the next life, where one thing more happens behind these lives
abbrev events_with : Event → List Event → List Life → List Event
events_with e es [] = es ++ e ∷ []
events_with e es (l ∷ ls) = es

events_more : (said : List Line) (e : Event) → events_in (said ++ lines.Event e ∷ [])
    ≡ events_with e (events_in said) (lives_in said)
events_more [] e = refl
events_more (lines.Skip ∷ said) e = events_more said e
events_more (lines.Setup s ∷ said) e = events_more said e
events_more (lines.Life f n ∷ said) e = refl
events_more (lines.Event d ∷ said) e = ap (λ (es : List Event). d ∷ es) (events_more said e)
    ∙ more_with d e (events_in said) (lives_in said)
  where
    more_with : (d e : Event) (es : List Event) (ls : List Life) → d ∷ events_with e es ls
        ≡ events_with e (d ∷ es) ls
    more_with d e es [] = refl
    more_with d e es (l ∷ ls) = refl

-- the last life has one thing more that happens
abbrev last_with : Event → List Life → List Life
last_with e [] = []
last_with e (l ∷ []) = with_event e l ∷ []
last_with e (l ∷ m ∷ ls) = l ∷ last_with e (m ∷ ls)

lives_more : (said : List Line) (e : Event) → lives_in (said ++ lines.Event e ∷ []) ≡ last_with e (lives_in said)
lives_more [] e = refl
lives_more (lines.Skip ∷ said) e = lives_more said e
lives_more (lines.Setup s ∷ said) e = lives_more said e
lives_more (lines.Life f n ∷ said) e =
    ap (λ (es : List Event). life f n es ∷ lives_in (said ++ lines.Event e ∷ []))
    (events_more said e)
    ∙ ap (λ (ls : List Life). life f n (events_with e (events_in said) (lives_in said)) ∷ ls)
    (lives_more said e)
    ∙ first_with f n e (events_in said) (lives_in said)
  where
    first_with : (f n : ℕ) (e : Event) (es : List Event) (ls : List Life)
        → life f n (events_with e es ls) ∷ last_with e ls
        ≡ last_with e (life f n es ∷ ls)
    first_with f n e es [] = refl
    first_with f n e es (l ∷ ls) = refl
lives_more (lines.Event d ∷ said) e = lives_more said e

last_is : (over : List Life) (l : Life) (e : Event) → last_with e (over ++ l ∷ []) ≡ over ++ with_event e l ∷ []
last_is [] l e = refl
last_is (m ∷ []) l e = refl
last_is (m ∷ n ∷ over) l e = ap (λ (ls : List Life). m ∷ ls) (last_is (n ∷ over) l e)

-- ---- what was read so far

pub record Matches (r : Read) (said : List Line) : Type 0 where
  pub setup : farm_matches.Matches r.setup (filter_map setup_in said)
  pub lives : lives_in said ≡ lives_of r
  pub ids : filter_map ids_in said ≡ map ids_of (lives_of r)
  pub kept : IsLastKept r
  pub scheduled : r.setup.scheduler ≡ None → r.last ≡ None
  pub fresh : (s : SetupScheduler) → r.setup.scheduler ≡ Some s → (s.base ≡ 0) × (s.count ≡ 0)
  pub ranges : AllByRecursion IsRange (map ids_of (lives_of r))
  pub apart : AreApartIds (map ids_of (lives_of r))

pub matches_nothing : Matches nothing_read []
matches_nothing = record {
  setup = farm_matches.matches_nothing;
  lives = refl;
  ids = refl;
  kept = λ e. refl;
  scheduled = λ e. refl;
  fresh = λ s e. absurd cc;
  ranges = tt;
  apart = tt;
}

abbrev before_with : farm_place.Before → List Ids → Before
before_with setup lives = record { setup = setup; lives = lives }

pub before_is : (r : Read) (said : List Line) → Matches r said → before r ≡ before_of said
before_is r said m =
    ap (λ (b : farm_place.Before). before_with b (map ids_of (lives_of r)))
    (farm_matches.before_is r.setup (filter_map setup_in said) m.setup)
    ∙ ap (λ (rs : List Ids). before_with (farm_place.before_of (filter_map setup_in said)) rs) (sym m.ids)

-- a scheduler in its place has no ids
no_ids : (base count : ℕ) → not (base == 0 && count == 0) ≡ false → (base ≡ 0) × (count ≡ 0)
no_ids base count e = elim (cases_Bool (base == 0 && count == 0)) [
  | inl a ↦ let p = both (base == 0) (count == 0) a in (eqb-true base 0 p.0, eqb-true count 0 p.1)
  | inr a ↦
      let clash : true ≡ false = sym (ap not a) ∙ e in
      absurd cc
]

-- a setup line in its place keeps what is said of the scheduler
fresh_with : (r : farm.Read) (s : SetupLine) (t : SetupScheduler) → has_ids s ≡ false
    → ((u : SetupScheduler) → r.scheduler ≡ Some u → (u.base ≡ 0) × (u.count ≡ 0))
    → (farm.with_line r (farm_lines.Setup s)).scheduler ≡ Some t → (t.base ≡ 0) × (t.count ≡ 0)
fresh_with r Version2 t fresh old e = old t e
fresh_with r (Scheduler s) t fresh old e =
    let same : s ≡ t = cc in
    subst (λ (u : SetupScheduler). (u.base ≡ 0) × (u.count ≡ 0)) same (no_ids s.base s.count fresh)
fresh_with r (Server s) t fresh old e = old t e
fresh_with r (Builder addr answer) t fresh old e = old t e

-- no life stands before a setup line that is in its place
no_lives : (r : Read) → IsLastKept r → not (is_nil (map ids_of (lives_of r))) ≡ false → r.last ≡ None
no_lives r kept e = split r.over r.last e
  where
    split : (over : List Life) (o : Option Life) → not (is_nil (map ids_of (over ++ option_to_list o))) ≡ false
        → o ≡ None
    split over None e = refl
    split [] (Some l) e = absurd cc
    split (m ∷ over) (Some l) e = absurd cc

matches_setup : (r : Read) (said : List Line) (t : List ℕ) (s : SetupLine) → Matches r said
    → Spells Refused t (lines.Setup s) → misplaced (before r) (lines.Setup s) ≡ false
    → duplicate (before r) (lines.Setup s) ≡ false
    → Matches (with_line r (lines.Setup s)) (said ++ lines.Setup s ∷ [])
matches_setup r said t s m is place first =
    let p = or_parts (not (is_nil (before r).lives) || has_ids s)
    (farm_place.misplaced (farm.before r.setup) (farm_lines.Setup s)) place in
    let q = or_parts (not (is_nil (before r).lives)) (has_ids s) p.0 in
    let none : r.last ≡ None = no_lives r m.kept q.0 in
    record {
      setup = subst (λ (ls : List farm_line.Line). farm_matches.Matches
          (farm.with_line r.setup (farm_lines.Setup s)) ls)
          (sym (push_some setup_in said (lines.Setup s) (farm_lines.Setup s) refl))
          (farm_matches.matches_next r.setup (filter_map setup_in said) t (farm_lines.Setup s) m.setup is p.1 first);
      lives = lives_quiet said (lines.Setup s) (quiet_setup s) ∙ m.lives;
      ids = push_none ids_in said (lines.Setup s) refl ∙ m.ids;
      kept = m.kept;
      scheduled = λ e. none;
      fresh = λ u e. fresh_with r.setup s u q.1 m.fresh e;
      ranges = m.ranges;
      apart = m.apart;
    }

-- behind the scheduler
is_scheduled : (o : Option SetupScheduler) → is_nil (map (λ s. s.addr) (option_to_list o)) ≡ false → o ≡ None → ⊥
is_scheduled None e f = absurd cc
is_scheduled (Some s) e f = absurd cc

matches_life : (r : Read) (said : List Line) (from count : ℕ) → Matches r said
    → IsRange (ids_from from count) → misplaced (before r) (lines.Life from count) ≡ false
    → overlapping (before r) (lines.Life from count) ≡ false
    → Matches (with_line r (lines.Life from count)) (said ++ lines.Life from count ∷ [])
matches_life r said from count m range place alone =
    let more = map_push (lives_of r) (life from count []) in
    record {
      setup = subst (farm_matches.Matches r.setup) (sym (push_none setup_in said (lines.Life from count) refl)) m.setup;
      lives = lives_begun said from count
          ∙ ap (λ (ls : List Life). ls ++ life from count [] ∷ []) m.lives;
      ids = push_some ids_in said (lines.Life from count) (ids_from from count) refl
          ∙ ap (λ (rs : List Ids). rs ++ ids_from from count ∷ []) m.ids ∙ sym more;
      kept = λ e. absurd cc;
      scheduled = λ e. absurd (is_scheduled r.setup.scheduler place e);
      fresh = m.fresh;
      ranges = subst (AllByRecursion IsRange) (sym more)
          (ranges_push (map ids_of (lives_of r)) (ids_from from count) m.ranges range);
      apart = subst AreApartIds (sym more)
          (apart_push (map ids_of (lives_of r)) (ids_from from count) m.apart
          (λ some. let clash : true ≡ false = sym (any_complete (map ids_of (lives_of r))
          (ids_from from count) m.ranges range some) ∙ alone in absurd cc));
    }

-- a life with one thing more that happens has the same ids
same_ids : (over : List Life) (o : Option Life) (e : Event) → map ids_of (over ++ option_to_list (option_map (with_event e) o))
    ≡ map ids_of (over ++ option_to_list o)
same_ids over None e = refl
same_ids over (Some l) e = map_push over (with_event e l) ∙ sym (map_push over l)

some_last : (over : List Life) (o : Option Life) (e : Event) → (o ≡ None → over ≡ [])
    → last_with e (over ++ option_to_list o) ≡ over ++ option_to_list (option_map (with_event e) o)
some_last over None e kept = ap (λ (ls : List Life). last_with e (ls ++ [])) (kept refl)
    ∙ sym (ap (λ (ls : List Life). ls ++ []) (kept refl))
some_last over (Some l) e kept = last_is over l e

mapped_none : (o : Option Life) (e : Event) → option_map (with_event e) o ≡ None → o ≡ None
mapped_none None e is = refl
mapped_none (Some l) e is = absurd cc

matches_event : (r : Read) (said : List Line) (e : Event) → Matches r said
    → Matches (with_line r (lines.Event e)) (said ++ lines.Event e ∷ [])
matches_event r said e m =
    let same = same_ids r.over r.last e in
    record {
      setup = subst (farm_matches.Matches r.setup) (sym (push_none setup_in said (lines.Event e) refl)) m.setup;
      lives = lives_more said e ∙ ap (last_with e) m.lives ∙ some_last r.over r.last e m.kept;
      ids = push_none ids_in said (lines.Event e) refl ∙ m.ids ∙ sym same;
      kept = λ none. m.kept (mapped_none r.last e none);
      scheduled = λ none. ap (option_map (with_event e)) (m.scheduled none);
      fresh = m.fresh;
      ranges = subst (AllByRecursion IsRange) (sym same) m.ranges;
      apart = subst AreApartIds (sym same) m.apart;
    }

-- one line more
pub matches_next : (r : Read) (said : List Line) (t : List ℕ) (l : Line) → Matches r said → Spells Refused t l
    → misplaced (before r) l ≡ false → duplicate (before r) l ≡ false → overlapping (before r) l ≡ false
    → Matches (with_line r l) (said ++ l ∷ [])
matches_next r said t lines.Skip m is place first alone = record {
  setup = subst (farm_matches.Matches r.setup) (sym (push_none setup_in said lines.Skip refl)) m.setup;
  lives = lives_quiet said lines.Skip quiet_skip ∙ m.lives;
  ids = push_none ids_in said lines.Skip refl ∙ m.ids;
  kept = m.kept;
  scheduled = m.scheduled;
  fresh = m.fresh;
  ranges = m.ranges;
  apart = m.apart;
}
matches_next r said t (lines.Setup s) m is place first alone = matches_setup r said t s m is place first
matches_next r said t (lines.Life from count) m is place first alone =
    matches_life r said from count m is.range place alone
matches_next r said t (lines.Event e) m is place first alone = matches_event r said e m
