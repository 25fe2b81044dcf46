-- A line is cut into words, and put together from them.
use Rattle.std.proofs.Common.{◌≡◌, ℕ, ◌+◌, ◌≤◌, ◌==◌, Bool, true, false, cond, nat_eq, List, [], ◌∷◌, ◌++◌}
use Rattle.std.proofs.Common.{length, get_or, take, drop, Option, Some, None, refl, sym, ap, subst, ◌∙◌}
use Rattle.std.proofs.Common.{append_assoc, append-nil, arith, suc, ◌⊎◌, inl, inr}
use Rattle.std.specs.List.{position, position_from, list_all, onto_first}
use Rattle.std.specs.Cmp.Lexicographic.{pointwise}
use Rattle.std.specs.Option.{option_map}
use Rattle.std.proofs.lemmas.Bool.{eqb-true, ne_eqb}
use Rattle.std.proofs.lemmas.Bool.Decides.{nat_tests}
use Rattle.std.proofs.lemmas.Option.{cond_some, some_pair_parts}
use Rattle.std.proofs.lemmas.List.{take-append-drop, drop_more, take_at, drop_at, length-append}
use Rattle.std.proofs.lemmas.List.Quantifiers.{position-Some}
use Rattle.std.proofs.lemmas.Iterator.Adapters.{position_from-zero}
use Rattle.std.proofs.lemmas.Slice.Eq.{bytes_eq-Decides}
use Rattle.dist_types.specs.Addr.{◌>>=◌}
use Rattle.dist_types.proofs.AddrLemmas.{bind_some}
use Rattle.farm_script.specs.Words.{first_word, words, parted, next_word, strip, field, named, last, behind}
use Rattle.farm_script.specs.Words.{is_visible}
use Rattle.farm_script.proofs.VisibleLemmas.{both}

-- ---- steps that may fail

pub guard_off : {A : Type 0} (b : Bool) (o : Option A) (y : A) → cond b None o ≡ Some y → (b ≡ false)
    × (o ≡ Some y)
guard_off true o y e = absurd cc
guard_off false o y e = (refl, e)

-- a step that gave a value, and what the rest makes of it
pub bind_is : {A B : Type 0} (o : Option A) (f : A → Option B) (x : A) (y : Option B) → o ≡ Some x → f x ≡ y
    → (o >>= f) ≡ y
bind_is o f x y e h = ap (λ (p : Option _). p >>= f) e ∙ h

-- a reader of texts, and the relation that it decides
pub record IsReader {A : Type 0} (read : List ℕ → Option A) (Is : List ℕ → A → Type 0) : Type 0 where
  pub sound : (t : List ℕ) (x : A) → read t ≡ Some x → Is t x
  pub complete : (t : List ℕ) (x : A) → Is t x → read t ≡ Some x

-- ---- a byte that a text lacks

abbrev pub Lacks : List ℕ → Type 0
Lacks [] = Unit {0}
Lacks (b ∷ bs) = ((b == 32) ≡ false) × Lacks bs

pub visible_lacks : (t : List ℕ) → list_all is_visible t ≡ true → Lacks t
visible_lacks [] e = tt
visible_lacks (b ∷ bs) e =
    let p = both (is_visible b) (list_all is_visible bs) e in
    let seen : is_visible b ≡ true = p.0 in
    let low : 33 ≤ b = grind (arith, nat_tests) in
    (ne_eqb b 32 (λ same. absurd (omega arith)), visible_lacks bs p.1)

-- ---- cutting at the first space

found_at : (i : ℕ) (w rest : List ℕ) → Lacks w → position_from (λ b. b == 32) i (w ++ 32 ∷ rest) ≡ Some
    (i + length w)
found_at i [] rest l = ap (λ (n : ℕ). Some n) (omega arith)
found_at i (b ∷ bs) rest l =
    ap (λ (v : Bool). cond v (Some i) (position_from (λ b. b == 32) (i + 1) (bs ++ 32 ∷ rest))) l.0
    ∙ found_at (i + 1) bs rest l.1 ∙ ap (λ (n : ℕ). Some n) (omega arith)

space_behind : (w rest : List ℕ) → Lacks w → position (λ b. b == 32) (w ++ 32 ∷ rest) ≡ Some (length w)
space_behind w rest l = position_from-zero (λ b. b == 32) (w ++ 32 ∷ rest) ∙ found_at 0 w rest l
    ∙ ap (λ (n : ℕ). Some n) (omega arith)

pub first_word_complete : (w rest : List ℕ) → Lacks w → first_word (w ++ 32 ∷ rest) ≡ Some (w, rest)
first_word_complete w rest l =
    let place : position (λ b. b == 32) (w ++ 32 ∷ rest) ≡ Some (length w) = space_behind w rest l in
    let front : take (length w) (w ++ 32 ∷ rest) ≡ w = take_at w (32 ∷ rest) (length w) refl in
    let back : drop (length w + 1) (w ++ 32 ∷ rest) ≡ rest =
    ap (λ (x : List ℕ). drop (length w + 1) x) (sym (append_assoc w (32 ∷ []) rest))
    ∙ drop_at (w ++ 32 ∷ []) rest (length w + 1) (omega (arith, length-append w (32 ∷ []))) in
    rw (place, front, back) refl

pub first_place : (t w rest : List ℕ) (o : Option ℕ) → position (λ b. b == 32) t ≡ o
    → option_map {U = List ℕ × List ℕ} (λ i. (take i t, drop (i + 1) t)) o ≡ Some (w, rest)
    → t ≡ w ++ 32 ∷ rest
first_place t w rest None is e = absurd cc
first_place t w rest (Some i) is e =
    let at = position-Some (λ b. b == 32) t i 0 is in
    let here : get_or t i 0 ≡ 32 = eqb-true (get_or t i 0) 32 at.1 in
    let parts = some_pair_parts (take i t) w (drop (i + 1) t) rest e in
    sym (take-append-drop i t) ∙ rw (drop_more t i 0 at.0, here, parts.0, parts.1) refl

pub first_word_sound : (t w rest : List ℕ) → first_word t ≡ Some (w, rest) → t ≡ w ++ 32 ∷ rest
first_word_sound t w rest e = first_place t w rest (position (λ b. b == 32) t) refl e

-- ---- prefixes

pub strip_sound : (p t r : List ℕ) → strip p t ≡ Some r → t ≡ p ++ r
strip_sound p t r e =
    let g = cond_some (pointwise nat_eq (take (length p) t) p) (drop (length p) t) r e in
    let front : take (length p) t ≡ p = (bytes_eq-Decides (take (length p) t) p).0 g.0 in
    sym (take-append-drop (length p) t) ∙ rw (front, g.1) refl

pub strip_complete : (p r : List ℕ) → strip p (p ++ r) ≡ Some r
strip_complete p r =
    let same : pointwise nat_eq p p ≡ true = (bytes_eq-Decides p p).1 refl in
    rw (take_at p r (length p) refl, same, drop_at p r (length p) refl) refl

-- ---- a field and the space that ends it

pub field_sound : {A : Type 0} (read : List ℕ → Option A) (Is : List ℕ → A → Type 0) (law : IsReader read Is)
    (t : List ℕ) (x : A) (rest : List ℕ)
    → field read t ≡ Some (x, rest) → (w : List ℕ) × Is w x × (t ≡ w ++ 32 ∷ rest)
field_sound read Is law t x rest e =
    let a = bind_some (first_word t) (λ w. read w.0 >>= λ y. Some (y, w.1)) (x, rest) e in
    let b = bind_some (read a.0.0) (λ y. Some (y, a.0.1)) (x, rest) a.2 in
    let parts = some_pair_parts b.0 x a.0.1 rest b.2 in (
      a.0.0,
      law.sound a.0.0 x (b.1 ∙ ap (λ y. Some y) parts.0),
      first_word_sound t a.0.0 a.0.1 a.1
          ∙ ap (λ (r : List ℕ). a.0.0 ++ 32 ∷ r) parts.1,
    )

pub field_complete : {A : Type 0} (read : List ℕ → Option A) (Is : List ℕ → A → Type 0)
    (law : IsReader read Is) (w : List ℕ) (x : A) (rest : List ℕ)
    → Is w x → Lacks w → field read (w ++ 32 ∷ rest) ≡ Some (x, rest)
field_complete read Is law w x rest is l = rw (first_word_complete w rest l, law.complete w x is) refl

pub named_sound : {A : Type 0} (p : List ℕ) (read : List ℕ → Option A) (Is : List ℕ → A → Type 0)
    (law : IsReader read Is) (t : List ℕ) (x : A) (rest : List ℕ)
    → named p read t ≡ Some (x, rest) → (w : List ℕ) × Is w x × (t ≡ p ++ (w ++ 32 ∷ rest))
named_sound p read Is law t x rest e =
    let a = bind_some (strip p t) (λ r. field read r) (x, rest) e in
    let b = field_sound read Is law a.0 x rest a.2 in
    (b.0, b.1, strip_sound p t a.0 a.1 ∙ ap (λ (r : List ℕ). p ++ r) b.2)

pub named_complete : {A : Type 0} (p : List ℕ) (read : List ℕ → Option A) (Is : List ℕ → A → Type 0)
    (law : IsReader read Is) (w : List ℕ) (x : A) (rest : List ℕ)
    → Is w x → Lacks w → named p read (p ++ (w ++ 32 ∷ rest)) ≡ Some (x, rest)
named_complete p read Is law w x rest is l = ap (λ (o : Option (List ℕ)). o >>= λ r. field read r)
    (strip_complete p (w ++ 32 ∷ rest)) ∙ field_complete read Is law w x rest is l

pub last_sound : {A : Type 0} (p : List ℕ) (read : List ℕ → Option A) (Is : List ℕ → A → Type 0)
    (law : IsReader read Is) (t : List ℕ) (x : A)
    → last p read t ≡ Some x → (w : List ℕ) × Is w x × (t ≡ p ++ w)
last_sound p read Is law t x e =
    let a = bind_some (strip p t) read x e in
    (a.0, law.sound a.0 x a.2, strip_sound p t a.0 a.1)

pub last_complete : {A : Type 0} (p : List ℕ) (read : List ℕ → Option A) (Is : List ℕ → A → Type 0)
    (law : IsReader read Is) (w : List ℕ) (x : A)
    → Is w x → last p read (p ++ w) ≡ Some x
last_complete p read Is law w x is = ap (λ (o : Option (List ℕ)). o >>= read) (strip_complete p w)
    ∙ law.complete w x is

-- ---- the parts of a text, one after the other

-- a part is replaced, and what stands behind it
pub follow : (t w d r s : List ℕ) → t ≡ w ++ 32 ∷ r → w ≡ d → r ≡ s → t ≡ d ++ 32 ∷ s
follow t w d r s e same rest = cc

pub follow_named : (t p w r s : List ℕ) → t ≡ p ++ (w ++ 32 ∷ r) → r ≡ s → t ≡ p ++ (w ++ 32 ∷ s)
follow_named t p w r s e rest = cc

pub follow_number : (t p w d r s : List ℕ) → t ≡ p ++ (w ++ 32 ∷ r) → w ≡ d → r ≡ s → t ≡ p ++ (d ++ 32 ∷ s)
follow_number t p w d r s e same rest = cc

-- ---- the words of a text

off_words : (b : Bool) (c : ℕ) (ws : List (List ℕ)) → b ≡ false
    → cond b ([] ∷ ws) (onto_first c ws) ≡ onto_first c ws
off_words true c ws e = absurd cc
off_words false c ws e = refl

pub words_end : (w : List ℕ) → Lacks w → words w ≡ w ∷ []
unfolding words
words_end [] l = refl
words_end (c ∷ cs) l = off_words (c == 32) c (words cs) l.0 ∙ ap (onto_first c) (words_end cs l.1)

pub words_at : (w rest : List ℕ) → Lacks w → words (w ++ 32 ∷ rest) ≡ w ∷ words rest
unfolding words
words_at [] rest l = refl
words_at (c ∷ cs) rest l = off_words (c == 32) c (words (cs ++ 32 ∷ rest)) l.0
    ∙ ap (onto_first c) (words_at cs rest l.1)

-- what stands before the first space has none
none_lacks_step : (b : Bool) (i : ℕ) (o : Option ℕ) → cond b (Some i) o ≡ None → (b ≡ false) × (o ≡ None)
none_lacks_step true i o e = absurd cc
none_lacks_step false i o e = (refl, e)

none_from : (i : ℕ) (t : List ℕ) → position_from (λ b. b == 32) i t ≡ None → Lacks t
none_from i [] e = tt
none_from i (c ∷ cs) e =
    let p = none_lacks_step (c == 32) i (position_from (λ b. b == 32) (i + 1) cs) e in
    (p.0, none_from (i + 1) cs p.1)

pub none_lacks : (t : List ℕ) → position (λ b. b == 32) t ≡ None → Lacks t
none_lacks t e = none_from 0 t (sym (position_from-zero (λ b. b == 32) t) ∙ e)

some_step : (b : Bool) (i k : ℕ) (o : Option ℕ) → cond b (Some i) o ≡ Some k → ((b ≡ true) × (i ≡ k))
    ⊎ ((b ≡ false) × (o ≡ Some k))
some_step true i k o e = inl (refl, cc)
some_step false i k o e = inr (refl, e)

some_from : (i k : ℕ) (t : List ℕ) → position_from (λ b. b == 32) i t ≡ Some k → (j : ℕ) × (k ≡ i + j)
    × Lacks (take j t)
some_from i k [] e = absurd cc
some_from i k (c ∷ cs) e = elim (some_step (c == 32) i k (position_from (λ b. b == 32) (i + 1) cs) e) [
  | inl p ↦ (0, omega (arith, p.1), tt)
  | inr p ↦
      let r = some_from (i + 1) k cs p.1 in
      (suc r.0, omega (arith, r.1), (p.0, r.2))
]

pub some_lacks : (t : List ℕ) (k : ℕ) → position (λ b. b == 32) t ≡ Some k → Lacks (take k t)
some_lacks t k e =
    let r = some_from 0 k t (sym (position_from-zero (λ b. b == 32) t) ∙ e) in
    let same : r.0 ≡ k = omega (arith, r.1) in
    subst (λ (n : ℕ). Lacks (take n t)) same r.2

-- a space and what stands behind it, where there is one
abbrev pub spaced : Option (List ℕ) → List ℕ
spaced None = []
spaced (Some t) = 32 ∷ t

not_found : (i : ℕ) (w : List ℕ) → Lacks w → position_from (λ b. b == 32) i w ≡ None
not_found i [] l = refl
not_found i (b ∷ bs) l = ap (λ (v : Bool). cond v (Some i) (position_from (λ b. b == 32) (i + 1) bs)) l.0
    ∙ not_found (i + 1) bs l.1

pub next_word_at : (w : List ℕ) (o : Option (List ℕ)) → Lacks w → next_word (w ++ spaced o) ≡ (w, o)
next_word_at w None l =
    let none : position (λ b. b == 32) w ≡ None = position_from-zero (λ b. b == 32) w ∙ not_found 0 w l in
    ap next_word (append-nil w) ∙ ap (parted w) none
next_word_at w (Some rest) l =
    let place : position (λ b. b == 32) (w ++ 32 ∷ rest) ≡ Some (length w) = space_behind w rest l in
    let front : take (length w) (w ++ 32 ∷ rest) ≡ w = take_at w (32 ∷ rest) (length w) refl in
    let back : drop (length w + 1) (w ++ 32 ∷ rest) ≡ rest =
    ap (λ (x : List ℕ). drop (length w + 1) x) (sym (append_assoc w (32 ∷ []) rest))
    ∙ drop_at (w ++ 32 ∷ []) rest (length w + 1) (omega (arith, length-append w (32 ∷ []))) in
    ap (parted (w ++ 32 ∷ rest)) place ∙ cc

parted_text : (t : List ℕ) (o : Option ℕ) → position (λ b. b == 32) t ≡ o
    → t ≡ (parted t o).0 ++ spaced (parted t o).1
parted_text t None e = sym (append-nil t)
parted_text t (Some i) e = first_place t (take i t) (drop (i + 1) t) (Some i) e refl

pub next_word_text : (t : List ℕ) → t ≡ (next_word t).0 ++ spaced (next_word t).1
next_word_text t = parted_text t (position (λ b. b == 32) t) refl

-- a text that begins with a prefix, and one that does not
pub behind_is : {A : Type 0} (p r : List ℕ) (read : List ℕ → Option A) (other : Option A)
    → behind (strip p (p ++ r)) read other ≡ read r
behind_is p r read other = ap (λ (o : Option (List ℕ)). behind o read other) (strip_complete p r)

pub behind_cases : {A : Type 0} (p t : List ℕ) (read : List ℕ → Option A) (other : Option A)
    (o : Option (List ℕ)) (y : A) → strip p t ≡ o → behind o read other ≡ Some y
    → ((r : List ℕ) × (t ≡ p ++ r) × (read r ≡ Some y)) ⊎ (other ≡ Some y)
behind_cases p t read other (Some r) y is e = inl (r, strip_sound p t r is, e)
behind_cases p t read other None y is e = inr e
