-- Words that spell options are what is read as options, and the order of the options does not matter.
use Rattle.std.proofs.Common.{◌≡◌, ◌⊎◌, inl, inr, ◌≢◌, ℕ, zero, suc, List, [], ◌∷◌, ◌++◌, Bool, true, false}
use Rattle.std.proofs.Common.{◌||◌, ◌&&◌, not, ◌==◌, if◌then◌else◌, Option, Some, None, map, refl}
use Rattle.std.proofs.Common.{sym, ◌∙◌, ap, ap₂, subst, append-nil, append_assoc, arith, eqb-true}
use Rattle.std.specs.Prelude.{codes, option_map, option_and_then, IsPermutation}
use Rattle.std.specs.List.{list_all, list_any, AllByRecursion, IsDistinct}
use Rattle.std.specs.Str.{bytes_eq}
use Rattle.std.proofs.lemmas.List.Sorted.{list_any-IsPermutation}
use Rattle.std.proofs.lemmas.Slice.Eq.{bytes_eq-Decides}
use Rattle.clap.specs.Lexer.{strip_byte, name_and_value, long_of_rest, long_of}
use Rattle.clap.proofs.CutLemmas.{Lacks}
use Rattle.clap.proofs.LexerLemmas.{name_and_value-at, name_and_value-without}
use Rattle.command_line.specs.Options.{Pairs, State, Said, complete, has_option, with_option, is_among}
use Rattle.command_line.specs.Options.{is_empty, is_option_word, is_value, may_stand, option_names, begun}
use Rattle.command_line.specs.Options.{pairs_from, value_of, said_by, options_in}
use Rattle.command_line.specs.Asked.{shared_by, token_by, file_of, scheduler, server}
use Rattle.command_line.specs.Spelled.{BeginsWith, AreSpelled, Spells, AskAlike}

abbrev Text : Type 0
Text = List ℕ

-- ---- tests

is_same : (a b : Text) → bytes_eq a b ≡ true → a ≡ b
is_same a b e = (bytes_eq-Decides a b).0 e

both : (a b : Bool) → a ≡ true → b ≡ true → a && b ≡ true
both true b e f = f
both false b e f = e

each : (a b : Bool) → a && b ≡ true → (a ≡ true) × (b ≡ true)
each true b e = (refl, e)
each false b e = cc e

neither : (a b : Bool) → a || b ≡ false → (a ≡ false) × (b ≡ false)
neither true b e = cc e
neither false b e = (refl, e)

none_of : (a b : Bool) → a ≡ false → b ≡ false → a || b ≡ false
none_of true b e f = cc e
none_of false b e f = f

-- ---- an option's word, taken apart

-- a text has no `=`, or is cut at the first
abbrev IsCut : Text → Type 0
IsCut text = ((front : Text) × (back : Text) × (text ≡ front ++ 61 ∷ back) × Lacks 61 front) ⊎ Lacks 61 text

lacks_more : (c x : ℕ) (xs : Text) → x ≢ c → Lacks c xs → Lacks c (x ∷ xs)
lacks_more c x xs ne h zero lt = ne
lacks_more c x xs ne h (suc i) lt = h i (omega (arith, lt))

cut : (text : Text) → IsCut text
cut [] = inr (λ i lt. absurd (omega (arith, lt)))
cut (x ∷ xs) = by (x == 61) refl (cut xs)
  where
    differs : (x == 61) ≡ false → x ≢ 61
    differs e is = let yes : (x == 61) ≡ true = rw is refl in absurd (cc (sym e ∙ yes))

    by : (b : Bool) → (x == 61) ≡ b → IsCut xs → IsCut (x ∷ xs)
    by true e rest = inl ([], xs, ap (λ n. n ∷ xs) (eqb-true x 61 e), λ i lt. absurd (omega (arith, lt)))
    by false e (inl p) = inl (
      x ∷ p.0,
      p.1,
      ap (λ t. x ∷ t) p.2,
      lacks_more 61 x p.0 (differs e) p.3,
    )
    by false e (inr h) = inr (lacks_more 61 x xs (differs e) h)

-- what a word is whose name and value are these
abbrev IsWord : Text → Text → Option Text → Type 0
IsWord word name None = word ≡ 45 ∷ 45 ∷ name
IsWord word name (Some value) = word ≡ 45 ∷ 45 ∷ (name ++ 61 ∷ value)

cut_is : (word text name : Text) (o : Option Text) → word ≡ 45 ∷ 45 ∷ text
    → Some (name_and_value text) ≡ Some (name, o) → IsWord word name o
cut_is word text name o w e = by (cut text)
  where
    by : IsCut text → IsWord word name o
    by (inl p) =
        let parts : name_and_value text ≡ (p.0, Some p.1) =
        ap name_and_value p.2 ∙ name_and_value-at p.0 p.1 p.3 in
        let some = sym (ap (λ (q : Text × Option Text). Some q) parts) ∙ e in
        let same : (p.0, Some p.1) ≡ (name, o) = cc some in
        subst (λ (q : Text × Option Text). IsWord word q.0 q.1) same (w ∙ ap (λ t. 45 ∷ 45 ∷ t) p.2)
    by (inr h) =
        let parts : name_and_value text ≡ (text, None) = name_and_value-without text h in
        let some = sym (ap (λ (q : Text × Option Text). Some q) parts) ∙ e in
        let same : (text, None) ≡ (name, o) = cc some in
        subst (λ (q : Text × Option Text). IsWord word q.0 q.1) same w

word_is : (word name : Text) (o : Option Text) → long_of word ≡ Some (name, o) → IsWord word name o
word_is [] name o e = cc e
word_is (a ∷ []) name o e = by (a == 45) e
  where
    by : (b : Bool) → option_and_then long_of_rest (option_and_then (strip_byte 45) (if b then Some [] else None))
        ≡ Some (name, o) → IsWord (a ∷ []) name o
    by true e = cc e
    by false e = cc e
word_is (a ∷ b ∷ rest) name o e = by (a == 45) refl e
  where
    text : (rest : Text) → b ≡ 45 → a ≡ 45 → long_of_rest rest ≡ Some (name, o) → IsWord (a ∷ b ∷ rest) name o
    text [] eb ea e = cc e
    text (x ∷ xs) eb ea e = cut_is (a ∷ b ∷ x ∷ xs) (x ∷ xs) name o
        (ap₂ (λ h t. h ∷ t) ea (ap (λ h. h ∷ x ∷ xs) eb)) e

    second : (u : Bool) → (b == 45) ≡ u → a ≡ 45
        → option_and_then long_of_rest (if u then Some rest else None) ≡ Some (name, o)
        → IsWord (a ∷ b ∷ rest) name o
    second true eb ea e = text rest (eqb-true b 45 eb) ea e
    second false eb ea e = cc e

    by : (t : Bool) → (a == 45) ≡ t
        → option_and_then long_of_rest (option_and_then (strip_byte 45) (if t then Some (b ∷ rest) else None))
        ≡ Some (name, o) → IsWord (a ∷ b ∷ rest) name o
    by true ea e = second (b == 45) refl (eqb-true a 45 ea) e
    by false ea e = cc e

-- a word that begins with two hyphens may stand where it is an option's
stands : (word text : Text) → word ≡ 45 ∷ 45 ∷ text → may_stand word ≡ is_option_word (long_of word)
stands word text e = subst (λ w. may_stand w ≡ is_option_word (long_of w)) (sym e) refl

-- ---- an option's word, put together

abbrev Reads : Text → Type 0
Reads name = (long_of (codes "--" ++ name) ≡ Some (name, None))
    × ((value : Text) → long_of (codes "--" ++ name ++ 61 ∷ value) ≡ Some (name, Some value))

reads_at : (known name : Text) → Reads known → bytes_eq known name ≡ true → Reads name
reads_at known name r e = subst Reads (is_same known name e) r

known_reads : (name : Text) → is_among option_names name ≡ true → Reads name
known_reads name k = by (bytes_eq (codes "bits") name) (bytes_eq (codes "server") name)
    (bytes_eq (codes "secret-key") name) (bytes_eq (codes "config") name) refl refl refl refl k
  where
    by : (a b c d : Bool) → bytes_eq (codes "bits") name ≡ a → bytes_eq (codes "server") name ≡ b
        → bytes_eq (codes "secret-key") name ≡ c → bytes_eq (codes "config") name ≡ d
        → a || (b || (c || (d || false))) ≡ true → Reads name
    by true b c d e f g h k = reads_at (codes "bits") name (refl, λ value. refl) e
    by false true c d e f g h k = reads_at (codes "server") name (refl, λ value. refl) f
    by false false true d e f g h k = reads_at (codes "secret-key") name (refl, λ value. refl) g
    by false false false true e f g h k = reads_at (codes "config") name (refl, λ value. refl) h
    by false false false false e f g h k = cc k

value_stands : (value : Text) → is_value value ≡ true → may_stand value ≡ true
value_stands [] e = cc e
value_stands (byte ∷ []) e = refl
value_stands (byte ∷ next ∷ rest) e = by (byte == 45) e
  where
    by : (b : Bool) → not b ≡ true
        → (if b then is_option_word (long_of (byte ∷ next ∷ rest)) else true) ≡ true
    by true e = cc e
    by false e = refl

-- ---- names that stand once

has_pushed : (name : Text) (pairs : Pairs) (p : Text × Text)
    → has_option name (pairs ++ p ∷ []) ≡ has_option name pairs || (bytes_eq p.0 name || false)
has_pushed name [] p = refl
has_pushed name (q ∷ pairs) p = by (bytes_eq q.0 name) (has_pushed name pairs p)
  where
    by : (b : Bool)
        → has_option name (pairs ++ p ∷ []) ≡ has_option name pairs || (bytes_eq p.0 name || false)
        → b || has_option name (pairs ++ p ∷ []) ≡ (b || has_option name pairs) || (bytes_eq p.0 name || false)
    by true e = refl
    by false e = e

-- none of these names was said before
abbrev AreNew : Pairs → List Text → Type 0
AreNew pairs names = AllByRecursion (λ name. has_option name pairs ≡ false) names

abbrev AreOthers : Text → List Text → Type 0
AreOthers known names = AllByRecursion (λ name. bytes_eq known name ≡ false) names

new_parts : (pairs : Pairs) (p : Text × Text) (names : List Text) → AreNew (pairs ++ p ∷ []) names
    → AreNew pairs names × AreOthers p.0 names
new_parts pairs p [] h = (tt, tt)
new_parts pairs p (name ∷ names) h =
    let first = neither (has_option name pairs) (bytes_eq p.0 name || false) (sym (has_pushed name pairs p) ∙ h.0) in
    let later = new_parts pairs p names h.1 in
    ((first.0, later.0), ((neither (bytes_eq p.0 name) false first.1).0, later.1))

new_more : (pairs : Pairs) (p : Text × Text) (names : List Text) → AreNew pairs names → AreOthers p.0 names
    → AreNew (pairs ++ p ∷ []) names
new_more pairs p [] h g = tt
new_more pairs p (name ∷ names) h g = (
  has_pushed name pairs p
      ∙ none_of (has_option name pairs) (bytes_eq p.0 name || false) h.0 (none_of (bytes_eq p.0 name) false g.0 refl),
  new_more pairs p names h.1 g.1,
)

new_at_first : (names : List Text) → AreNew [] names
new_at_first [] = tt
new_at_first (name ∷ names) = (refl, new_at_first names)

abbrev names_of : Pairs → List Text
names_of pairs = map (λ p. p.0) pairs

abbrev are_known : Pairs → Bool
are_known pairs = list_all (λ p. is_among option_names p.0) pairs

-- ---- from words to pairs

-- the words are read behind what was said before: they spell some options more
record Read (said : Pairs) (words : List Text) (all : Pairs) : Type 0 where
  pairs : Pairs
  is : all ≡ said ++ pairs
  spelled : AreSpelled pairs words
  known : are_known pairs ≡ true
  new : AreNew said (names_of pairs)
  once : IsDistinct bytes_eq (names_of pairs)

one_more : (name value : Text) (rest words : List Text) (said all : Pairs)
    → is_among option_names name ≡ true → BeginsWith name value rest words → has_option name said ≡ false
    → Read (said ++ (name, value) ∷ []) rest all → Read said words all
unfolding IsDistinct
one_more name value rest words said all k b h r =
    let parts = new_parts said (name, value) (names_of r.pairs) r.new in
    record {
      pairs = (name, value) ∷ r.pairs;
      is = r.is ∙ append_assoc said ((name, value) ∷ []) r.pairs;
      spelled = (rest, b, r.spelled);
      known = both (is_among option_names name) (are_known r.pairs) k r.known;
      new = (h, parts.0);
      once = (parts.1, r.once);
    }

no_more : (said all : Pairs) → Some said ≡ Some all → Read said [] all
unfolding IsDistinct
no_more said all e = record {
  pairs = [];
  is = let same : said ≡ all = cc e in sym same ∙ sym (append-nil said);
  spelled = refl;
  known = refl;
  new = tt;
  once = tt;
}

-- the same where an option waits: the first word is its value
abbrev ReadFrom : Pairs → Option Text → List Text → Pairs → Type 0
ReadFrom said None words all = Read said words all
ReadFrom said (Some name) words all = (value : Text) × (rest : List Text) × (words ≡ value ∷ rest)
    × (is_value value ≡ true) × (has_option name said ≡ false) × Read (said ++ (name, value) ∷ []) rest all

abbrev AreRead : List Text → Type 0
AreRead words = (said : Pairs) (waiting : Option Text) (all : Pairs) → list_all may_stand words ≡ true
    → pairs_from option_names (record { pairs = said; waiting = waiting }) words ≡ Some all
    → ReadFrom said waiting words all

module _ (word : Text) (words : List Text) (next : AreRead words) where
  abbrev go : State → Option Pairs
  go state = pairs_from option_names state words

  not_empty : (name value : Text) → may_stand word ≡ true → long_of word ≡ Some (name, Some value)
      → is_empty value ≡ false
  not_empty name value m l =
      by (is_empty value) (sym (ap is_option_word l) ∙ sym (stands word (name ++ 61 ∷ value)
      (word_is word name (Some value) l)) ∙ m)
    where
      by : (b : Bool) → not b ≡ true → b ≡ false
      by true e = cc e
      by false e = refl

  begin : (name : Text) (said all : Pairs) (b : Bool) → is_among option_names name ≡ b
      → list_all may_stand words ≡ true → long_of word ≡ Some (name, None)
      → option_and_then go (if b then Some (record { pairs = said; waiting = Some name }) else None) ≡ Some all
      → Read said (word ∷ words) all
  begin name said all true k m l e =
      let r = next said (Some name) all m e in
      one_more name r.0 r.1 (word ∷ words) said all k
      (inl (ap₂ (λ h t. h ∷ t) (word_is word name None l) r.2, r.3)) r.4 r.5
  begin name said all false k m l e = cc e

  whole : (name value : Text) (said all : Pairs) (b : Bool) → is_among option_names name ≡ true
      → has_option name said ≡ b → may_stand word ≡ true → list_all may_stand words ≡ true
      → long_of word ≡ Some (name, Some value)
      → option_and_then go (option_map complete (if b then None else Some (said ++ (name, value) ∷ []))) ≡ Some all
      → Read said (word ∷ words) all
  whole name value said all true k h f m l e = cc e
  whole name value said all false k h f m l e =
      one_more name value words (word ∷ words) said all k
      (inr (ap (λ w. w ∷ words) (word_is word name (Some value) l), not_empty name value f l)) h
      (next (said ++ (name, value) ∷ []) None all m e)

  known_whole : (name value : Text) (said all : Pairs) (b : Bool) → is_among option_names name ≡ b
      → may_stand word ≡ true → list_all may_stand words ≡ true → long_of word ≡ Some (name, Some value)
      → option_and_then go (if b then option_map complete (with_option said name value) else None) ≡ Some all
      → Read said (word ∷ words) all
  known_whole name value said all true k f m l e = whole name value said all (has_option name said) k refl f m l e
  known_whole name value said all false k f m l e = cc e

  named : (name : Text) (o : Option Text) (said all : Pairs) → may_stand word ≡ true
      → list_all may_stand words ≡ true → long_of word ≡ Some (name, o)
      → option_and_then go (begun option_names said (Some (name, o))) ≡ Some all → Read said (word ∷ words) all
  named name None said all f m l e = begin name said all (is_among option_names name) refl m l e
  named name (Some value) said all f m l e =
      known_whole name value said all (is_among option_names name) refl f m l e

  first : (o : Option (Text × Option Text)) (said all : Pairs) → may_stand word ≡ true
      → list_all may_stand words ≡ true → long_of word ≡ o
      → option_and_then go (begun option_names said o) ≡ Some all → Read said (word ∷ words) all
  first None said all f m l e = cc e
  first (Some p) said all f m l e = named p.0 p.1 said all f m l e

  given : (name : Text) (said all : Pairs) (v b : Bool) → is_value word ≡ v → has_option name said ≡ b
      → list_all may_stand words ≡ true
      → option_and_then go (if v then option_map complete (if b then None else Some (said ++ (name, word) ∷ []))
      else None) ≡ Some all → ReadFrom said (Some name) (word ∷ words) all
  given name said all true true fits h m e = cc e
  given name said all true false fits h m e =
      (word, words, refl, fits, h, next (said ++ (name, word) ∷ []) None all m e)
  given name said all false b fits h m e = cc e

  one_word : AreRead (word ∷ words)
  one_word said None all m e =
      let may = each (may_stand word) (list_all may_stand words) m in
      first (long_of word) said all may.0 may.1 refl e
  one_word said (Some name) all m e =
      let may = each (may_stand word) (list_all may_stand words) m in
      given name said all (is_value word) (has_option name said) refl refl may.1 e

are_read : (words : List Text) → AreRead words
are_read [] said None all m e = no_more said all e
are_read [] said (Some name) all m e = cc e
are_read (word ∷ words) said waiting all m e = one_word word words (are_read words) said waiting all m e

-- ---- from pairs to words

separate_step : (names : List Text) (name value word : Text) (rest : List Text) (said : Pairs)
    → long_of word ≡ Some (name, None) → is_among names name ≡ true → is_value value ≡ true
    → has_option name said ≡ false
    → pairs_from names (complete said) (word ∷ value ∷ rest)
    ≡ pairs_from names (complete (said ++ (name, value) ∷ [])) rest
separate_step names name value word rest said l k v h = rw (l, k, v, h) refl

whole_step : (names : List Text) (name value word : Text) (rest : List Text) (said : Pairs)
    → long_of word ≡ Some (name, Some value) → is_among names name ≡ true → has_option name said ≡ false
    → pairs_from names (complete said) (word ∷ rest)
    ≡ pairs_from names (complete (said ++ (name, value) ∷ [])) rest
whole_step names name value word rest said l k h = rw (l, k, h) refl

-- the words may stand, and say these pairs behind those that were said
abbrev Say : Pairs → Pairs → List Text → Type 0
Say said pairs words = (list_all may_stand words ≡ true)
    × (pairs_from option_names (complete said) words ≡ Some (said ++ pairs))

say_one : (name value : Text) (rest words : List Text) (said pairs : Pairs)
    → is_among option_names name ≡ true → has_option name said ≡ false → BeginsWith name value rest words
    → Say (said ++ (name, value) ∷ []) pairs rest → Say said ((name, value) ∷ pairs) words
say_one name value rest words said pairs k h (inl b) r =
    let word : Text = codes "--" ++ name in
    let long : long_of word ≡ Some (name, None) = (known_reads name k).0 in
    let fits : may_stand word ≡ true = stands word name refl ∙ ap is_option_word long in
    subst (λ w. Say said ((name, value) ∷ pairs) w) (sym b.0) (
      both (may_stand word) (list_all may_stand (value ∷ rest)) fits
          (both (may_stand value) (list_all may_stand rest) (value_stands value b.1) r.0),
      separate_step option_names name value word rest said long k b.1 h
          ∙ r.1 ∙ ap (λ (ps : Pairs). Some ps) (append_assoc said ((name, value) ∷ []) pairs),
    )
say_one name value rest words said pairs k h (inr b) r =
    let word : Text = codes "--" ++ name ++ 61 ∷ value in
    let long : long_of word ≡ Some (name, Some value) = (known_reads name k).1 value in
    let fits : may_stand word ≡ true = stands word (name ++ 61 ∷ value) refl ∙ ap is_option_word long
    ∙ ap not b.1 in
    subst (λ w. Say said ((name, value) ∷ pairs) w) (sym b.0) (
      both (may_stand word) (list_all may_stand rest) fits r.0,
      whole_step option_names name value word rest said long k h
          ∙ r.1 ∙ ap (λ (ps : Pairs). Some ps) (append_assoc said ((name, value) ∷ []) pairs),
    )

say_all : (pairs said : Pairs) (words : List Text) → AreSpelled pairs words → are_known pairs ≡ true
    → AreNew said (names_of pairs) → IsDistinct bytes_eq (names_of pairs) → Say said pairs words
unfolding IsDistinct
say_all [] said words s k n d = subst (λ w. Say said [] w) (sym s)
    (refl, ap (λ (ps : Pairs). Some ps) (sym (append-nil said)))
say_all (p ∷ pairs) said words s k n d =
    let known = each (is_among option_names p.0) (are_known pairs) k in
    say_one p.0 p.1 s.0 words said pairs known.0 n.0 s.1
    (say_all pairs (said ++ p ∷ []) s.0 s.2 known.1 (new_more said p (names_of pairs) n.1 d.0) d.1)

-- ---- for the law

pub says : (pairs : Pairs) (words : List Text) → Spells pairs words → options_in words ≡ Some (said_by pairs)
says pairs words s =
    let say = say_all pairs [] words s.spelled s.known (new_at_first (names_of pairs)) s.once in
    rw (say.0, say.1) refl

pub was_spelled : (words : List Text) (said : Said) → options_in words ≡ Some said
    → (pairs : Pairs) × Spells pairs words × (said ≡ said_by pairs)
was_spelled words said e = by (list_all may_stand words) (pairs_from option_names (complete []) words) refl refl e
  where
    by : (b : Bool) (o : Option Pairs) → list_all may_stand words ≡ b
        → pairs_from option_names (complete []) words ≡ o
        → (if b then option_map said_by o else None) ≡ Some said
        → (pairs : Pairs) × Spells pairs words × (said ≡ said_by pairs)
    by true (Some all) m p e =
        let r = are_read words [] None all m p in
        let same : said_by all ≡ said = cc e in (
          r.pairs,
          record { spelled = r.spelled; known = r.known; once = r.once },
          sym same ∙ ap said_by r.is,
        )
    by true None m p e = cc e
    by false o m p e = cc e

-- ---- another order

abbrev is_pair : Text → Text → Text × Text → Bool
is_pair name value p = bytes_eq p.0 name && bytes_eq p.1 value

value_stands_there : (name value : Text) (pairs : Pairs) → value_of name pairs ≡ Some value
    → list_any (is_pair name value) pairs ≡ true
value_stands_there name value [] e = cc e
value_stands_there name value (p ∷ pairs) e =
    by (bytes_eq p.0 name) e (value_stands_there name value pairs)
  where
    by : (b : Bool) → (if b then Some p.1 else value_of name pairs) ≡ Some value
        → (value_of name pairs ≡ Some value → list_any (is_pair name value) pairs ≡ true)
        → (b && bytes_eq p.1 value) || list_any (is_pair name value) pairs ≡ true
    by true e next = let same : p.1 ≡ value = cc e in
        let is : bytes_eq p.1 value ≡ true = (bytes_eq-Decides p.1 value).1 same in
        ap (λ b. b || list_any (is_pair name value) pairs) is
    by false e next = next e

not_there : (known name value : Text) (pairs : Pairs) → bytes_eq known name ≡ true
    → AreOthers known (names_of pairs) → list_any (is_pair name value) pairs ≡ true → ⊥
not_there known name value [] k n e = cc e
not_there known name value (p ∷ pairs) k n e =
    by (bytes_eq p.0 name) refl e (not_there known name value pairs k n.1)
  where
    by : (b : Bool) → bytes_eq p.0 name ≡ b
        → (b && bytes_eq p.1 value) || list_any (is_pair name value) pairs ≡ true
        → (list_any (is_pair name value) pairs ≡ true → ⊥) → ⊥
    by true h e next =
        let same : known ≡ p.0 = is_same known name k ∙ sym (is_same p.0 name h) in
        let yes : bytes_eq known p.0 ≡ true = (bytes_eq-Decides known p.0).1 same in
        absurd (cc (sym yes ∙ n.0))
    by false h e next = next e

is_its_value : (name value : Text) (pairs : Pairs) → IsDistinct bytes_eq (names_of pairs)
    → list_any (is_pair name value) pairs ≡ true → value_of name pairs ≡ Some value
unfolding IsDistinct
is_its_value name value [] d e = cc e
is_its_value name value (p ∷ pairs) d e =
    by (bytes_eq p.0 name) (bytes_eq p.1 value) refl refl e (is_its_value name value pairs d.1)
  where
    by : (b v : Bool) → bytes_eq p.0 name ≡ b → bytes_eq p.1 value ≡ v
        → (b && v) || list_any (is_pair name value) pairs ≡ true
        → (list_any (is_pair name value) pairs ≡ true → value_of name pairs ≡ Some value)
        → (if b then Some p.1 else value_of name pairs) ≡ Some value
    by true true h w e next = ap (λ (t : Text). Some t) (is_same p.1 value w)
    by true false h w e next = absurd (not_there p.0 name value pairs h d.0 e)
    by false v h w e next = next e

same_value : (name : Text) (pairs others : Pairs) → IsPermutation pairs others
    → IsDistinct bytes_eq (names_of pairs) → IsDistinct bytes_eq (names_of others)
    → value_of name pairs ≡ value_of name others
same_value name pairs others same d f = by (value_of name pairs) (value_of name others) refl refl
  where
    there : (value : Text)
        → list_any (is_pair name value) pairs ≡ list_any (is_pair name value) others
    there value = list_any-IsPermutation (is_pair name value) pairs others same

    by : (o q : Option Text) → value_of name pairs ≡ o → value_of name others ≡ q → o ≡ q
    by (Some value) q e g =
        sym (is_its_value name value others f (sym (there value) ∙ value_stands_there name value pairs e)) ∙ g
    by None (Some value) e g =
        sym e ∙ is_its_value name value pairs d (there value ∙ value_stands_there name value others g)
    by None None e g = refl

same_said : (pairs others : Pairs) → IsPermutation pairs others
    → IsDistinct bytes_eq (names_of pairs) → IsDistinct bytes_eq (names_of others)
    → said_by pairs ≡ said_by others
same_said pairs others same d f = rw (
  same_value (codes "bits") pairs others same d f,
  same_value (codes "server") pairs others same d f,
  same_value (codes "secret-key") pairs others same d f,
  same_value (codes "config") pairs others same d f,
) refl

ask_alike : (words others : List Text) → options_in words ≡ options_in others → AskAlike words others
ask_alike words others e = record {
  scheduler = λ program. ap (λ o. option_map scheduler (option_and_then file_of o)) e;
  server = λ program. ap (λ o. option_map server (option_and_then file_of o)) e;
  shared_token = λ program. ap (option_and_then shared_by) e;
  server_token = λ program. ap (option_and_then token_by) e;
}

pub any_order : (pairs others : Pairs) (words other_words : List Text) → IsPermutation pairs others
    → Spells pairs words → Spells others other_words
    → (options_in words ≡ options_in other_words) × AskAlike words other_words
any_order pairs others words other_words same s t =
    let e : options_in words ≡ options_in other_words =
    says pairs words s ∙ ap (λ (x : Said). Some x) (same_said pairs others same s.once t.once)
    ∙ sym (says others other_words t) in
    (e, ask_alike words other_words e)
