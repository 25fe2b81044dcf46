-- What clap reads of words that may stand is what the rows say of them: by one word after the other.
use Rattle.std.proofs.Common.{◌≡◌, ◌⊎◌, inl, inr, ℕ, List, [], ◌∷◌, ◌++◌, Bool, true, false, ◌||◌, ◌&&◌, not}
use Rattle.std.proofs.Common.{◌==◌, cond, if◌then◌else◌, Option, Some, None, map, refl, sym, ◌∙◌, ap, ap₂}
use Rattle.std.proofs.Common.{subst, append-nil}
use Rattle.std.specs.Prelude.{fold, codes}
use Rattle.std.specs.List.{list_all}
use Rattle.std.specs.Str.{bytes_eq}
use Rattle.std.proofs.lemmas.Slice.Eq.{bytes_eq-Decides}
use Rattle.clap.specs.Faults.{default_fault, defaults_fault, fault_of, given_default_fault}
use Rattle.clap.specs.Faults.{is_simple_and_free, settle_fault, turn_fault, use_fault, walk_fault}
use Rattle.clap.specs.Kinds.{IsAmong, Kinds, or_else}
use Rattle.clap.specs.Lexer.{long_of, short_of}
use Rattle.clap.specs.Matches.{first_value}
use Rattle.clap.specs.Simple.{Shape, built, filled, is_simple, matches_of}
use Rattle.clap.specs.Walk.{Held, Row, Rule, Text, Waiting, Walk, idle, option, arg_by_id, arg_by_index}
use Rattle.clap.specs.Walk.{arg_by_long, at_row, first_of, has_row, more_values, nothing_held, reading_by}
use Rattle.clap.specs.Walk.{rows_of, settled, settled_rows, used, walked, with_default, without}
use Rattle.clap.specs.declared.error.kind.ErrorKind.{ErrorKind}
use Rattle.clap.specs.declared.error.kind.ErrorKind.TheVariants as kind
use Rattle.clap.specs.declared.parser.matches.Found.{Found}
use Rattle.clap.specs.declared.parser.matches.ValueSource.TheVariants.{CommandLine}
use Rattle.clap.proofs.FaultLemmas.{leaf_fault}
use Rattle.clap.proofs.WalkLemmas.{first_value-rows}
use Rattle.command_line.specs.Clap.{option_rule, options_app, said_in}
use Rattle.command_line.specs.Options.{Pairs, State, complete, has_option, is_among, is_option_word, is_value}
use Rattle.command_line.specs.Options.{may_stand, option_names, options_in, pairs_from, said_by, value_of}

pub first_value_rows : (f : Found) (id : Text) → first_value f id ≡ first_of id (rows_of f)
first_value_rows f id = first_value-rows f id

-- ---- tests

is_same : (a b : List ℕ) → bytes_eq a b ≡ true → a ≡ b
is_same a b e = (bytes_eq-Decides a b).0 e

is_itself : (a : List ℕ) → bytes_eq a a ≡ true
is_itself a = (bytes_eq-Decides a a).1 refl

first_of_two : (a b : Bool) → a && b ≡ true → a ≡ true
first_of_two true b e = refl
first_of_two false b e = e

second_of_two : (a b : Bool) → a && b ≡ true → b ≡ true
second_of_two true b e = e
second_of_two false b e = cc e

-- a test of what each is seen as
pub all_seen : {X : Type 0} (f : X → Text) (xs : List X)
    → list_all (λ x. may_stand (f x)) xs ≡ list_all may_stand (map f xs)
all_seen f [] = refl
all_seen f (x ∷ xs) = ap (λ b. may_stand (f x) && b) (all_seen f xs)

-- ---- what a word is

-- an option, or what stands by itself
abbrev Kind : Text → Type 0
Kind word = ((p : Text × Option Text) × (long_of word ≡ Some p) × (is_value word ≡ false))
    ⊎ ((long_of word ≡ None) × (short_of word ≡ None) × (is_value word ≡ true))

long_kind : (word : Text) → is_value word ≡ false → is_option_word (long_of word) ≡ true → Kind word
long_kind word v e = by (long_of word) refl e
  where
    by : (o : Option (Text × Option Text)) → long_of word ≡ o → is_option_word o ≡ true → Kind word
    by None l e = cc e
    by (Some p) l e = inl (p, l, v)

kind_of : (word : Text) → may_stand word ≡ true → Kind word
kind_of [] e = cc e
kind_of (byte ∷ []) e = inr (by (byte == 45) refl, at (byte == 45) refl, refl)
  where
    by : (b : Bool) → (byte == 45) ≡ b → long_of (byte ∷ []) ≡ None
    by true d = rw d refl
    by false d = rw d refl

    at : (b : Bool) → (byte == 45) ≡ b → short_of (byte ∷ []) ≡ None
    at true d = rw d refl
    at false d = rw d refl
kind_of (byte ∷ next ∷ rest) e = by (byte == 45) refl e
  where
    by : (b : Bool) → (byte == 45) ≡ b
        → (if b then is_option_word (long_of (byte ∷ next ∷ rest)) else true) ≡ true
        → Kind (byte ∷ next ∷ rest)
    by true d e = long_kind (byte ∷ next ∷ rest) (ap not d) e
    by false d e = inr (rw d refl, rw d refl, ap not d)

-- no word that may stand is `--`
no_dashes : (word : Text) → may_stand word ≡ true → bytes_eq word (45 ∷ 45 ∷ []) ≡ false
no_dashes word e = by (bytes_eq word (45 ∷ 45 ∷ [])) refl
  where
    by : (b : Bool) → bytes_eq word (45 ∷ 45 ∷ []) ≡ b → b ≡ false
    by false d = refl
    by true d = let none : false ≡ true = subst (λ w. may_stand w ≡ true) (is_same word (45 ∷ 45 ∷ []) d) e in
        absurd (cc none)

-- ---- the command's rules

abbrev built_rule : Text → Rule
built_rule name = filled (option_rule name)

abbrev rules : List Text → List Rule
rules names = map built_rule names

abbrev shape : List Text → Shape
shape names = record (built options_app).top { rules = rules names }

long_known : (names : List Text) (name : Text) → is_among names name ≡ true
    → arg_by_long (rules names) name ≡ Some (built_rule name)
long_known [] name h = cc h
long_known (n ∷ names) name h = by (bytes_eq n name) refl h (long_known names name)
  where
    by : (b : Bool) → bytes_eq n name ≡ b → b || is_among names name ≡ true
        → (is_among names name ≡ true → arg_by_long (rules names) name ≡ Some (built_rule name))
        → cond (b || false) (Some (built_rule n)) (arg_by_long (rules names) name) ≡ Some (built_rule name)
    by true e h next = ap (λ w. Some (built_rule w)) (is_same n name e)
    by false e h next = next h

long_unknown : (names : List Text) (name : Text) → is_among names name ≡ false
    → arg_by_long (rules names) name ≡ None
long_unknown [] name h = refl
long_unknown (n ∷ names) name h = by (bytes_eq n name) h (long_unknown names name)
  where
    by : (b : Bool) → b || is_among names name ≡ false
        → (is_among names name ≡ false → arg_by_long (rules names) name ≡ None)
        → cond (b || false) (Some (built_rule n)) (arg_by_long (rules names) name) ≡ None
    by true h next = cc h
    by false h next = next h

id_known : (names : List Text) (name : Text) → is_among names name ≡ true
    → arg_by_id (rules names) name ≡ Some (built_rule name)
id_known [] name h = cc h
id_known (n ∷ names) name h = by (bytes_eq n name) refl h (id_known names name)
  where
    by : (b : Bool) → bytes_eq n name ≡ b → b || is_among names name ≡ true
        → (is_among names name ≡ true → arg_by_id (rules names) name ≡ Some (built_rule name))
        → cond b (Some (built_rule n)) (arg_by_id (rules names) name) ≡ Some (built_rule name)
    by true e h next = ap (λ w. Some (built_rule w)) (is_same n name e)
    by false e h next = next h

no_positional : (names : List Text) (i : ℕ) → arg_by_index (rules names) i ≡ None
no_positional [] i = refl
no_positional (n ∷ names) i = no_positional names i

-- ---- the rows of matches

abbrev row : Text × Text → Row
row p = record {
  id = p.0;
  values = p.1 ∷ [];
  count = None;
  source = Some CommandLine;
  reading = reading_by (built_rule p.0);
}

abbrev rows : Pairs → List Row
rows pairs = map row pairs

rows_more : (pairs : Pairs) (p : Text × Text) → rows (pairs ++ p ∷ []) ≡ rows pairs ++ row p ∷ []
rows_more [] p = refl
rows_more (q ∷ pairs) p = ap (λ rs. row q ∷ rs) (rows_more pairs p)

has_rows : (id : Text) (pairs : Pairs) → has_row id (rows pairs) ≡ has_option id pairs
has_rows id [] = refl
has_rows id (p ∷ pairs) = ap (λ b. bytes_eq p.0 id || b) (has_rows id pairs)

first_rows : (id : Text) (pairs : Pairs) → first_of id (rows pairs) ≡ value_of id pairs
first_rows id [] = refl
first_rows id (p ∷ pairs) = by (bytes_eq p.0 id) refl (first_rows id pairs)
  where
    by : (b : Bool) → bytes_eq p.0 id ≡ b → first_of id (rows pairs) ≡ value_of id pairs
        → first_of id (rows (p ∷ pairs)) ≡ value_of id (p ∷ pairs)
    by true e next = rw e refl
    by false e next = rw e next

at_none : (id : Text) (change : Row → List Row) (missing rs : List Row) → has_row id rs ≡ false
    → at_row id change missing rs ≡ rs ++ missing
at_none id change missing [] h = refl
at_none id change missing (r ∷ rs) h = by (bytes_eq r.id id) h (at_none id change missing rs)
  where
    by : (b : Bool) → b || has_row id rs ≡ false
        → (has_row id rs ≡ false → at_row id change missing rs ≡ rs ++ missing)
        → (if b then change r ++ rs else r ∷ at_row id change missing rs) ≡ r ∷ (rs ++ missing)
    by true h next = cc h
    by false h next = ap (λ xs. r ∷ xs) (next h)

without_none : (id : Text) (rs : List Row) → has_row id rs ≡ false → without id rs ≡ rs
without_none id rs h = at_none id (λ _. []) [] rs h ∙ append-nil rs

used_first : (id v : Text) (rs : List Row) → has_row id rs ≡ false
    → used (built_rule id) (v ∷ []) rs ≡ rs ++ row (id, v) ∷ []
used_first id v rs h =
    rw (without_none id rs h) (at_none id (more_values CommandLine (v ∷ [])) (row (id, v) ∷ []) rs h)

-- ---- one use of an option

use_none : (id : Text) (rs : List Row) → use_fault false (built_rule id) [] rs ≡ kind.InvalidValue ∷ []
use_none id rs = refl

use_first : (id v : Text) (rs : List Row) → has_row id rs ≡ false
    → use_fault false (built_rule id) (v ∷ []) rs ≡ []
use_first id v rs h = rw h refl

use_again : (id v : Text) (rs : List Row) → has_row id rs ≡ true
    → use_fault false (built_rule id) (v ∷ []) rs ≡ kind.ArgumentConflict ∷ []
use_again id v rs h = rw h refl

abbrev held : List Row → Option (Text × List Text) → Held
held rs pending = record { rows = rs; pending = pending; skip = 0 }

settle_known : (names : List Text) (id : Text) (vs : List Text) (rs : List Row) → is_among names id ≡ true
    → settle_fault (rules names) false (held rs (Some (id, vs))) ≡ use_fault false (built_rule id) vs rs
settle_known names id vs rs h = rw (id_known names id h) refl

settled_known : (names : List Text) (id : Text) (vs : List Text) (rs : List Row) → is_among names id ≡ true
    → settled_rows (rules names) (Some (id, vs)) rs ≡ used (built_rule id) vs rs
settled_known names id vs rs h = rw (id_known names id h) refl

-- ---- where a walk stands

abbrev at : List Row → Option (Text × List Text) → Waiting → Walk
at rs pending waiting = record {
  held = held rs pending;
  waiting = waiting;
  position = 1;
  is_trailing = false;
  stopped = None;
}

abbrev wait : Option Text → Waiting
wait None = idle
wait (Some id) = option id

-- all that a walk over words comes to
abbrev last : List Text → Walk → List Text → Held
last names w words = (fold (walked (rules names) []) w words).held

abbrev faults : List Text → Walk → List Text → Kinds
faults names w words = or_else (walk_fault (shape names) [] w words)
    (or_else (settle_fault (rules names) false (last names w words)) [])

abbrev found : List Text → Walk → List Text → List Row
found names w words = (settled (rules names) (last names w words)).rows

-- No fault where the rows say something, and the matches are that; and a fault where they say nothing.
abbrev Agrees : Kinds → Option Pairs → List Row → Type 0
Agrees [] None rs = ⊥
Agrees [] (Some pairs) rs = rs ≡ rows pairs
Agrees (k ∷ ks) None rs = Unit {0}
Agrees (k ∷ ks) (Some pairs) rs = ⊥

-- one word, by its fault and where the walk stands behind it
abbrev by_turn : List Text → Kinds → Walk → List Text → Kinds
by_turn names turn w words = or_else (or_else turn (walk_fault (shape names) [] w words))
    (or_else (settle_fault (rules names) false (last names w words)) [])

turn_first : (names : List Text) (w : Walk) (word : Text) (words : List Text)
    → faults names w (word ∷ words)
    ≡ by_turn names (turn_fault (shape names) [] w word) (walked (rules names) [] w word) words
unfolding walk_fault
turn_first names w word words = refl

goes_on : (names : List Text) (w next : Walk) (word : Text) (words : List Text) (o : Option Pairs)
    → turn_fault (shape names) [] w word ≡ [] → walked (rules names) [] w word ≡ next
    → Agrees (faults names next words) o (found names next words)
    → Agrees (faults names w (word ∷ words)) o (found names w (word ∷ words))
goes_on names w next word words o none same a =
    subst (λ f. Agrees f o (found names w (word ∷ words))) (sym (turn_first names w word words))
    (subst (λ t. Agrees (by_turn names t (walked (rules names) [] w word) words) o
    (found names (walked (rules names) [] w word) words)) (sym none)
    (subst (λ x. Agrees (by_turn names [] x words) o (found names x words)) (sym same) a))

stops : (names : List Text) (w : Walk) (word : Text) (words : List Text) (k : ErrorKind) (ks : Kinds)
    → turn_fault (shape names) [] w word ≡ k ∷ ks
    → Agrees (faults names w (word ∷ words)) None (found names w (word ∷ words))
stops names w word words k ks some =
    subst (λ f. Agrees f None (found names w (word ∷ words))) (sym (turn_first names w word words))
    (subst (λ t. Agrees (by_turn names t (walked (rules names) [] w word) words) None
    (found names (walked (rules names) [] w word) words)) (sym some) tt)

at_end : (names : List Text) (w : Walk) (o : Option Pairs)
    → Agrees (or_else (settle_fault (rules names) false w.held) []) o (settled (rules names) w.held).rows
    → Agrees (faults names w []) o (found names w [])
unfolding walk_fault
at_end names w o a = a

-- ---- turns

module _ (names : List Text) (rs : List Row) (pending : Option (Text × List Text)) (word : Text)
    (dashes : bytes_eq word (45 ∷ 45 ∷ []) ≡ false) where
  begin_turn : (waiting : Option Text) (name : Text) → long_of word ≡ Some (name, None)
      → is_among names name ≡ true
      → turn_fault (shape names) [] (at rs pending (wait waiting)) word
      ≡ or_else (settle_fault (rules names) false (held rs pending)) []
  begin_turn None name l h = rw (dashes, l, long_known names name h) refl
  begin_turn (Some id) name l h = rw (dashes, l, long_known names name h) refl

  begin_walk : (name : Text) → long_of word ≡ Some (name, None) → is_among names name ≡ true
      → walked (rules names) [] (at rs pending idle) word
      ≡ at (settled_rows (rules names) pending rs) (Some (name, [])) (option name)
  unfolding walked
  begin_walk name l h = rw (dashes, l, long_known names name h) refl

  value_turn : (waiting : Option Text) (name v : Text) → long_of word ≡ Some (name, Some v)
      → is_among names name ≡ true
      → turn_fault (shape names) [] (at rs pending (wait waiting)) word
      ≡ or_else (or_else (settle_fault (rules names) false (held rs pending))
      (use_fault false (built_rule name) (v ∷ []) (settled_rows (rules names) pending rs))) []
  value_turn None name v l h = rw (dashes, l, long_known names name h) refl
  value_turn (Some id) name v l h = rw (dashes, l, long_known names name h) refl

  value_walk : (name v : Text) → long_of word ≡ Some (name, Some v) → is_among names name ≡ true
      → walked (rules names) [] (at rs pending idle) word
      ≡ at (used (built_rule name) (v ∷ []) (settled_rows (rules names) pending rs)) None idle
  unfolding walked
  value_walk name v l h = rw (dashes, l, long_known names name h) refl

  unknown_turn : (waiting : Option Text) (name : Text) (v : Option Text) → long_of word ≡ Some (name, v)
      → is_among names name ≡ false
      → turn_fault (shape names) [] (at rs pending (wait waiting)) word ≡ kind.UnknownArgument ∷ []
  unknown_turn None name v l h = rw (dashes, l, long_unknown names name h) refl
  unknown_turn (Some id) name v l h = rw (dashes, l, long_unknown names name h) refl

  stray_turn : long_of word ≡ None → short_of word ≡ None
      → turn_fault (shape names) [] (at rs pending idle) word ≡ kind.UnknownArgument ∷ []
  stray_turn l s = rw (dashes, l, s, no_positional names 1) refl

given_turn : (names : List Text) (rs : List Row) (id word : Text) → bytes_eq word (45 ∷ 45 ∷ []) ≡ false
    → long_of word ≡ None → short_of word ≡ None
    → turn_fault (shape names) [] (at rs (Some (id, [])) (option id)) word ≡ []
given_turn names rs id word dashes l s = rw (dashes, l, s) refl

given_walk : (names : List Text) (rs : List Row) (id word : Text) → bytes_eq word (45 ∷ 45 ∷ []) ≡ false
    → long_of word ≡ None → short_of word ≡ None → is_among names id ≡ true
    → walked (rules names) [] (at rs (Some (id, [])) (option id)) word ≡ at rs (Some (id, word ∷ [])) idle
unfolding walked
given_walk names rs id word dashes l s h = rw (dashes, l, s, id_known names id h, is_itself id) refl

-- ---- what stays refused

-- an option whose use is refused, whatever follows
late : (names : List Text) (rs : List Row) (pending : Option (Text × List Text)) (words : List Text)
    (k : ErrorKind)
    (ks : Kinds) → list_all may_stand words ≡ true
    → settle_fault (rules names) false (held rs pending) ≡ k ∷ ks
    → Agrees (faults names (at rs pending idle) words) None (found names (at rs pending idle) words)
late names rs pending [] k ks m e = at_end names (at rs pending idle) None
    (subst (λ f. Agrees (or_else f []) None (settled_rows (rules names) pending rs)) (sym e) tt)
late names rs pending (word ∷ words) k ks m e =
    by (kind_of word (first_of_two (may_stand word) (list_all may_stand words) m))
  where
    dashes : bytes_eq word (45 ∷ 45 ∷ []) ≡ false
    dashes = no_dashes word (first_of_two (may_stand word) (list_all may_stand words) m)

    known : (name : Text) (v : Option Text) → long_of word ≡ Some (name, v) → is_among names name ≡ true
        → Agrees (faults names (at rs pending idle) (word ∷ words)) None
        (found names (at rs pending idle) (word ∷ words))
    known name None l h = stops names (at rs pending idle) word words k ks
        (begin_turn names rs pending word dashes None name l h ∙ ap (λ f. or_else f []) e)
    known name (Some v) l h = stops names (at rs pending idle) word words k ks
        (value_turn names rs pending word dashes None name v l h
        ∙ ap (λ f. or_else (or_else f (use_fault false (built_rule name) (v ∷ [])
        (settled_rows (rules names) pending rs))) []) e)

    named : (name : Text) (v : Option Text) (b : Bool) → long_of word ≡ Some (name, v)
        → is_among names name ≡ b
        → Agrees (faults names (at rs pending idle) (word ∷ words)) None
        (found names (at rs pending idle) (word ∷ words))
    named name v true l h = known name v l h
    named name v false l h = stops names (at rs pending idle) word words kind.UnknownArgument []
        (unknown_turn names rs pending word dashes None name v l h)

    by : Kind word → Agrees (faults names (at rs pending idle) (word ∷ words)) None
        (found names (at rs pending idle) (word ∷ words))
    by (inl (p, l, v)) = named p.0 p.1 (is_among names p.0) l refl
    by (inr (l, s, v)) = stops names (at rs pending idle) word words kind.UnknownArgument []
        (stray_turn names rs pending word dashes l s)

-- ---- one word more

abbrev Related : List Text → Pairs → Option Text → List Row → Option (Text × List Text) → Type 0
Related names pairs None rs pending = (settle_fault (rules names) false (held rs pending) ≡ [])
    × (settled_rows (rules names) pending rs ≡ rows pairs)
Related names pairs (Some id) rs pending = (is_among names id ≡ true) × (rs ≡ rows pairs)
    × (pending ≡ Some (id, []))

abbrev state : Pairs → Option Text → State
state pairs waiting = record { pairs = pairs; waiting = waiting }

abbrev AgreesFrom : List Text → List Text → Type 0
AgreesFrom names words = (pairs : Pairs) (waiting : Option Text) (rs : List Row)
    (pending : Option (Text × List Text))
    → Related names pairs waiting rs pending
    → Agrees (faults names (at rs pending (wait waiting)) words)
    (pairs_from names (state pairs waiting) words)
    (found names (at rs pending (wait waiting)) words)

ended_holds : (names : List Text) → AgreesFrom names []
ended_holds names pairs None rs pending r = at_end names (at rs pending idle) (Some pairs)
    (subst (λ f. Agrees (or_else f []) (Some pairs) (settled_rows (rules names) pending rs)) (sym (r.0))
    (r.1))
ended_holds names pairs (Some id) rs pending r = at_end names (at rs pending (option id)) None
    (subst (λ f. Agrees (or_else f []) None (settled_rows (rules names) pending rs)) (sym e) tt)
  where
    e : settle_fault (rules names) false (held rs pending) ≡ kind.InvalidValue ∷ []
    e = ap (λ p. settle_fault (rules names) false (held rs p)) (r.2) ∙ settle_known names id [] rs (r.0)
        ∙ use_none id rs

module _ (names : List Text) (word : Text) (words : List Text) (dashes : bytes_eq word (45 ∷ 45 ∷ []) ≡ false)
    (m : list_all may_stand words ≡ true) (next : AgreesFrom names words) where
  abbrev Goal : Pairs → Option Text → List Row → Option (Text × List Text) → Type 0
  Goal pairs waiting rs pending = Agrees (faults names (at rs pending (wait waiting)) (word ∷ words))
      (pairs_from names (state pairs waiting) (word ∷ words))
      (found names (at rs pending (wait waiting)) (word ∷ words))

  -- where the rows say nothing, the walk has a fault
  nothing : (pairs : Pairs) (waiting : Option Text) (rs : List Row) (pending : Option (Text × List Text))
      (k : ErrorKind) (ks : Kinds) → pairs_from names (state pairs waiting) (word ∷ words) ≡ None
      → turn_fault (shape names) [] (at rs pending (wait waiting)) word ≡ k ∷ ks
      → Goal pairs waiting rs pending
  nothing pairs waiting rs pending k ks own some =
      subst (λ o. Agrees (faults names (at rs pending (wait waiting)) (word ∷ words)) o
      (found names (at rs pending (wait waiting)) (word ∷ words))) (sym own)
      (stops names (at rs pending (wait waiting)) word words k ks some)

  begins : (pairs : Pairs) (rs : List Row) (pending : Option (Text × List Text)) (name : Text)
      → Related names pairs None rs pending → long_of word ≡ Some (name, None) → is_among names name ≡ true
      → Goal pairs None rs pending
  begins pairs rs pending name r l h =
      subst (λ o. Agrees (faults names (at rs pending idle) (word ∷ words)) o
      (found names (at rs pending idle) (word ∷ words))) (sym own)
      (goes_on names (at rs pending idle) (at (settled_rows (rules names) pending rs) (Some (name, []))
      (option name))
      word words _ (begin_turn names rs pending word dashes None name l h ∙ ap (λ f. or_else f []) (r.0))
      (begin_walk names rs pending word dashes name l h)
      (next pairs (Some name) (settled_rows (rules names) pending rs) (Some (name, [])) (h, r.1, refl)))
    where
      own : pairs_from names (state pairs None) (word ∷ words) ≡ pairs_from names
          (state pairs (Some name)) words
      own = rw (l, h) refl

  has_value : (pairs : Pairs) (rs : List Row) (pending : Option (Text × List Text)) (name v : Text) (b : Bool)
      → Related names pairs None rs pending → long_of word ≡ Some (name, Some v) → is_among names name ≡ true
      → has_option name pairs ≡ b → Goal pairs None rs pending
  has_value pairs rs pending name v true r l h again =
      nothing pairs None rs pending kind.ArgumentConflict [] (rw (l, h, again) refl)
      (value_turn names rs pending word dashes None name v l h
      ∙ ap₂ (λ f g. or_else (or_else f g) []) (r.0)
      (use_again name v (settled_rows (rules names) pending rs)
      (ap (has_row name) (r.1) ∙ has_rows name pairs ∙ again)))
  has_value pairs rs pending name v false r l h first =
      subst (λ o. Agrees (faults names (at rs pending idle) (word ∷ words)) o
      (found names (at rs pending idle) (word ∷ words))) (sym own)
      (goes_on names (at rs pending idle)
      (at (used (built_rule name) (v ∷ []) (settled_rows (rules names) pending rs)) None idle)
      word words _ turn (value_walk names rs pending word dashes name v l h)
      (next (pairs ++ (name, v) ∷ []) None
      (used (built_rule name) (v ∷ []) (settled_rows (rules names) pending rs)) None (refl, more)))
    where
      own : pairs_from names (state pairs None) (word ∷ words)
          ≡ pairs_from names (state (pairs ++ (name, v) ∷ []) None) words
      own = rw (l, h, first) refl

      lacks : has_row name (settled_rows (rules names) pending rs) ≡ false
      lacks = ap (has_row name) (r.1) ∙ has_rows name pairs ∙ first

      turn : turn_fault (shape names) [] (at rs pending idle) word ≡ []
      turn = value_turn names rs pending word dashes None name v l h
          ∙ ap₂ (λ f g. or_else (or_else f g) []) (r.0)
          (use_first name v (settled_rows (rules names) pending rs) lacks)

      more : used (built_rule name) (v ∷ []) (settled_rows (rules names) pending rs) ≡ rows
          (pairs ++ (name, v) ∷ [])
      more = used_first name v (settled_rows (rules names) pending rs) lacks
          ∙ ap (λ rs. rs ++ row (name, v) ∷ []) (r.1) ∙ sym (rows_more pairs (name, v))

  known_idle : (pairs : Pairs) (rs : List Row) (pending : Option (Text × List Text)) (name : Text)
      (v : Option Text)
      → Related names pairs None rs pending → long_of word ≡ Some (name, v) → is_among names name ≡ true
      → Goal pairs None rs pending
  known_idle pairs rs pending name None r l h = begins pairs rs pending name r l h
  known_idle pairs rs pending name (Some v) r l h =
      has_value pairs rs pending name v (has_option name pairs) r l h refl

  unknown_says : (pairs : Pairs) (name : Text) (v : Option Text) → long_of word ≡ Some (name, v)
      → is_among names name ≡ false → pairs_from names (state pairs None) (word ∷ words) ≡ None
  unknown_says pairs name None l h = rw (l, h) refl
  unknown_says pairs name (Some v) l h = rw (l, h) refl

  named_idle : (pairs : Pairs) (rs : List Row) (pending : Option (Text × List Text)) (name : Text)
      (v : Option Text)
      (b : Bool) → Related names pairs None rs pending → long_of word ≡ Some (name, v)
      → is_among names name ≡ b
      → Goal pairs None rs pending
  named_idle pairs rs pending name v true r l h = known_idle pairs rs pending name v r l h
  named_idle pairs rs pending name v false r l h =
      nothing pairs None rs pending kind.UnknownArgument [] (unknown_says pairs name v l h)
      (unknown_turn names rs pending word dashes None name v l h)

  idle_holds : (pairs : Pairs) (rs : List Row) (pending : Option (Text × List Text)) → Kind word
      → Related names pairs None rs pending → Goal pairs None rs pending
  idle_holds pairs rs pending (inl (p, l, v)) r =
      named_idle pairs rs pending p.0 p.1 (is_among names p.0) r l refl
  idle_holds pairs rs pending (inr (l, s, v)) r =
      nothing pairs None rs pending kind.UnknownArgument [] (rw l refl)
      (stray_turn names rs pending word dashes l s)

  -- an option that waits for its value
  short_of_value : (id : Text) (pairs : Pairs) (rs : List Row) (pending : Option (Text × List Text))
      → Related names pairs (Some id) rs pending
      → settle_fault (rules names) false (held rs pending) ≡ kind.InvalidValue ∷ []
  short_of_value id pairs rs pending r = ap (λ p. settle_fault (rules names) false (held rs p)) (r.2)
      ∙ settle_known names id [] rs (r.0) ∙ use_none id rs

  known_waits : (id : Text) (pairs : Pairs) (rs : List Row) (pending : Option (Text × List Text))
      (name : Text)
      (v : Option Text) → Related names pairs (Some id) rs pending → is_value word ≡ false
      → long_of word ≡ Some (name, v) → is_among names name ≡ true → Goal pairs (Some id) rs pending
  known_waits id pairs rs pending name None r fails l h =
      nothing pairs (Some id) rs pending kind.InvalidValue [] (rw fails refl)
      (begin_turn names rs pending word dashes (Some id) name l h
      ∙ ap (λ f. or_else f []) (short_of_value id pairs rs pending r))
  known_waits id pairs rs pending name (Some v) r fails l h =
      nothing pairs (Some id) rs pending kind.InvalidValue [] (rw fails refl)
      (value_turn names rs pending word dashes (Some id) name v l h
      ∙ ap (λ f. or_else (or_else f (use_fault false (built_rule name) (v ∷ [])
      (settled_rows (rules names) pending rs))) []) (short_of_value id pairs rs pending r))

  named_waits : (id : Text) (pairs : Pairs) (rs : List Row) (pending : Option (Text × List Text))
      (name : Text)
      (v : Option Text) (b : Bool) → Related names pairs (Some id) rs pending → is_value word ≡ false
      → long_of word ≡ Some (name, v) → is_among names name ≡ b → Goal pairs (Some id) rs pending
  named_waits id pairs rs pending name v true r fails l h = known_waits id pairs rs pending name v r fails l h
  named_waits id pairs rs pending name v false r fails l h =
      nothing pairs (Some id) rs pending kind.UnknownArgument [] (rw fails refl)
      (unknown_turn names rs pending word dashes (Some id) name v l h)

  -- its value comes
  value_comes : (id : Text) (pairs : Pairs) (b : Bool) → is_among names id ≡ true → long_of word ≡ None
      → short_of word ≡ None → is_value word ≡ true → has_option id pairs ≡ b
      → Goal pairs (Some id) (rows pairs) (Some (id, []))
  value_comes id pairs true h l s fits again =
      subst (λ o. Agrees (faults names (at (rows pairs) (Some (id, [])) (option id)) (word ∷ words)) o
      (found names (at (rows pairs) (Some (id, [])) (option id)) (word ∷ words))) (sym own)
      (goes_on names (at (rows pairs) (Some (id, [])) (option id))
      (at (rows pairs) (Some (id, word ∷ [])) idle)
      word words None (given_turn names (rows pairs) id word dashes l s)
      (given_walk names (rows pairs) id word dashes l s h)
      (late names (rows pairs) (Some (id, word ∷ [])) words kind.ArgumentConflict [] m
      (settle_known names id (word ∷ []) (rows pairs) h
      ∙ use_again id word (rows pairs) (has_rows id pairs ∙ again))))
    where
      own : pairs_from names (state pairs (Some id)) (word ∷ words) ≡ None
      own = rw (fits, again) refl
  value_comes id pairs false h l s fits first =
      subst (λ o. Agrees (faults names (at (rows pairs) (Some (id, [])) (option id)) (word ∷ words)) o
      (found names (at (rows pairs) (Some (id, [])) (option id)) (word ∷ words))) (sym own)
      (goes_on names (at (rows pairs) (Some (id, [])) (option id))
      (at (rows pairs) (Some (id, word ∷ [])) idle)
      word words _ (given_turn names (rows pairs) id word dashes l s)
      (given_walk names (rows pairs) id word dashes l s h)
      (next (pairs ++ (id, word) ∷ []) None (rows pairs) (Some (id, word ∷ [])) (
        settle_known names id (word ∷ []) (rows pairs) h ∙ use_first id word (rows pairs) lacks,
        settled_known names id (word ∷ []) (rows pairs) h ∙ used_first id word (rows pairs) lacks
            ∙ sym (rows_more pairs (id, word)),
      )))
    where
      own : pairs_from names (state pairs (Some id)) (word ∷ words)
          ≡ pairs_from names (state (pairs ++ (id, word) ∷ []) None) words
      own = rw (fits, first) refl

      lacks : has_row id (rows pairs) ≡ false
      lacks = has_rows id pairs ∙ first

  waits_holds : (id : Text) (pairs : Pairs) (rs : List Row) (pending : Option (Text × List Text)) → Kind word
      → Related names pairs (Some id) rs pending → Goal pairs (Some id) rs pending
  waits_holds id pairs rs pending (inl (p, l, v)) r =
      named_waits id pairs rs pending p.0 p.1 (is_among names p.0) r v l refl
  waits_holds id pairs rs pending (inr (l, s, v)) r =
      subst (λ x. Goal pairs (Some id) x pending) (sym (r.1))
      (subst (λ x. Goal pairs (Some id) (rows pairs) x) (sym (r.2))
      (value_comes id pairs (has_option id pairs) (r.0) l s v refl))

  word_holds : Kind word → AgreesFrom names (word ∷ words)
  word_holds k pairs None rs pending r = idle_holds pairs rs pending k r
  word_holds k pairs (Some id) rs pending r = waits_holds id pairs rs pending k r

holds : (names words : List Text) → list_all may_stand words ≡ true → AgreesFrom names words
holds names [] m = ended_holds names
holds names (word ∷ words) m = let first = first_of_two (may_stand word) (list_all may_stand words) m in
    let later = second_of_two (may_stand word) (list_all may_stand words) m in
    word_holds names word words (no_dashes word first) later (holds names words later) (kind_of word first)

-- ---- after the walk

default_none : (n : Text) (rs : List Row) → default_fault rs (built_rule n) ≡ []
default_none n rs = by (has_row n rs)
  where
    by : (b : Bool) → (if b || true then [] else given_default_fault (built_rule n) []) ≡ []
    by true = refl
    by false = refl

with_none : (n : Text) (rs : List Row) → with_default rs (built_rule n) ≡ rs
with_none n rs = by (has_row n rs)
  where
    by : (b : Bool) → (if b then rs else rs) ≡ rs
    by true = refl
    by false = refl

defaults_none : (names : List Text) (rs : List Row) → defaults_fault rs (rules names) ≡ []
unfolding defaults_fault
defaults_none [] rs = refl
defaults_none (n ∷ names) rs =
    ap₂ or_else (default_none n rs) (defaults_none names (with_default rs (built_rule n)))

defaults_rows : (names : List Text) (rs : List Row) → fold with_default rs (rules names) ≡ rs
defaults_rows [] rs = refl
defaults_rows (n ∷ names) rs =
    ap (λ w. fold with_default w (rules names)) (with_none n rs) ∙ defaults_rows names rs

-- the command of the options has no fault but those of the walk
fault_is : (words : List Text) → fault_of options_app words ≡ faults option_names (at [] None idle) words
fault_is words = leaf_fault (built options_app) nothing_held words refl
    ∙ ap (λ f. or_else (walk_fault (shape option_names) [] (at [] None idle) words)
    (or_else (settle_fault (rules option_names) false (last option_names (at [] None idle) words)) f))
    (ap (λ f. or_else f []) (defaults_none option_names (found option_names (at [] None idle) words)))

matches_are : (words : List Text) → matches_of options_app words ≡ found option_names (at [] None idle) words
matches_are words = defaults_rows option_names (found option_names (at [] None idle) words)

pub agrees : (words : List Text) → list_all may_stand words ≡ true
    → Agrees (fault_of options_app words) (pairs_from option_names (complete []) words)
    (matches_of options_app words)
agrees words m =
    subst (λ f. Agrees f (pairs_from option_names (complete []) words) (matches_of options_app words))
    (sym (fault_is words))
    (subst (λ rs. Agrees (faults option_names (at [] None idle) words)
    (pairs_from option_names (complete []) words) rs)
    (sym (matches_are words)) (holds option_names words m [] None [] None (refl, refl)))

-- ---- for the caller

pub is_free : is_simple_and_free options_app ≡ true
is_free = refl

pub simple : is_simple options_app ≡ true
simple = refl

said_same : (pairs : Pairs) → said_in (rows pairs) ≡ said_by pairs
said_same pairs = rw (
  first_rows (codes "bits") pairs,
  first_rows (codes "server") pairs,
  first_rows (codes "secret-key") pairs,
  first_rows (codes "config") pairs,
) refl

-- where clap takes the words, its matches say what the rows say
pub taken_says : (words : List Text) (rs : List Row) → list_all may_stand words ≡ true
    → fault_of options_app words ≡ [] → rs ≡ matches_of options_app words
    → Some (said_in rs) ≡ options_in words
taken_says words rs m none same = by (pairs_from option_names (complete []) words) refl
    (subst (λ f. Agrees f (pairs_from option_names (complete []) words) (matches_of options_app words)) none
    (agrees words m))
  where
    says : (pairs : Pairs) → pairs_from option_names (complete []) words ≡ Some pairs
        → options_in words ≡ Some (said_by pairs)
    says pairs e = rw (m, e) refl

    by : (o : Option Pairs) → pairs_from option_names (complete []) words ≡ o
        → Agrees [] o (matches_of options_app words) → Some (said_in rs) ≡ options_in words
    by None e a = absurd a
    by (Some pairs) e a = ap (λ x. Some (said_in x)) (same ∙ a) ∙ ap Some (said_same pairs)
        ∙ sym (says pairs e)

-- where clap refuses the words, they say nothing
pub refused_says : (words : List Text) (k : ErrorKind) → list_all may_stand words ≡ true
    → IsAmong k (fault_of options_app words) → None ≡ options_in words
refused_says words k m among = by (fault_of options_app words) (pairs_from option_names (complete []) words)
    refl among
    (agrees words m)
  where
    by : (f : Kinds) (o : Option Pairs) → pairs_from option_names (complete []) words ≡ o → IsAmong k f
        → Agrees f o (matches_of options_app words) → None ≡ options_in words
    by [] o e i a = absurd i
    by (x ∷ xs) None e i a = rw (m, e) refl
    by (x ∷ xs) (Some pairs) e i a = absurd a
