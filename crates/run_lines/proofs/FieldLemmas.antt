-- What a field of a printed line reads is its one text, and that text is read.
use Rattle.std.proofs.Common.{◌≡◌, ℕ, ◌==◌, ◌&&◌, Bool, true, false, cond, nat_eq, List, [], ◌∷◌, ◌++◌}
use Rattle.std.proofs.Common.{length, map, Option, Some, None, codes, refl, sym, ap, subst, ◌∙◌, inl, inr, arith}
use Rattle.std.proofs.Common.{append_assoc}
use Rattle.std.specs.List.{list_all, flat_map}
use Rattle.std.specs.Char.{is_ascii_graphic}
use Rattle.std.specs.Cmp.Lexicographic.{pointwise}
use Rattle.std.specs.Option.{option_map}
use Rattle.std.specs.Fmt.{decimal}
use Rattle.std.proofs.lemmas.Bool.{eqb-true}
use Rattle.std.proofs.lemmas.Bool.Decides.{nat_tests}
use Rattle.std.proofs.lemmas.Fmt.{decimal_nonempty}
use Rattle.std.proofs.lemmas.List.{append-nil}
use Rattle.std.proofs.lemmas.Option.{cond_some, same_Some}
use Rattle.std.proofs.lemmas.Slice.Eq.{bytes_eq-Decides}
use Rattle.dist_types.specs.Addr.{◌>>=◌, addr_text, IsAddrText}
use Rattle.dist_types.specs.Ids.{state_text}
use Rattle.dist_types.specs.Toolchain.{is_lower_hex}
use Rattle.dist_types.specs.declared.addr.Addr.{Addr}
use Rattle.dist_types.specs.declared.ids.JobId.{JobId}
use Rattle.dist_types.specs.declared.results.JobState.{JobState}
use Rattle.dist_types.specs.declared.results.JobState.TheVariants.{Pending, Ready, Started, Complete}
use Rattle.dist_types.proofs.AddrLemmas.{bind_some, all_graphic, passes_weaker}
use Rattle.farm_script.specs.Words.{is_visible, strip, behind}
use Rattle.farm_script.specs.Fields.{addr_at, number_at, hex_at}
use Rattle.farm_script.specs.Grammar.{IsHex}
use Rattle.farm_script.proofs.FieldLemmas.{hex_law}
use Rattle.farm_entries.specs.Printed.{hex_text}
use Rattle.run_lines.specs.Grammar.{HasHex}
use Rattle.run_lines.specs.Fields.{lower_at}
use Rattle.farm_script.proofs.VisibleLemmas.{both}
use Rattle.line_program.proofs.FirstFaultyLemmas.{choice}
use Rattle.farm_script.proofs.FieldLemmas.{number_law, addr_law, decimal_digits, decimal_lacks, cond_is}
use Rattle.farm_script.proofs.WordLemmas.{IsReader, Lacks, bind_is, visible_lacks, strip_sound}
use Rattle.farm_entries.specs.Printed.{numbers_text, jobs_text, number_text, kept_text, ended_text, age_text}
use Rattle.farm_entries.specs.Printed.{claim_text, stage_text, on_text, ready_text}
use Rattle.run_lines.specs.Grammar.{AllFit, JobsFit, SomeFits, HasText, IsId}
use Rattle.run_lines.specs.Fields.{exactly, exact_at, numbers_at, job_of, jobs_at, maybe_at, state_at}
use Rattle.run_lines.specs.Fields.{either_at, stage_at, id_at}
use Rattle.run_lines.proofs.PartLemmas.{numbers_law, numbers_lack, no_dash}

-- the one text of a value that fits
abbrev pub Exact : {A : Type 0} → (A → List ℕ) → (A → Type 0) → List ℕ → A → Type 0
Exact text fits t x = (t ≡ text x) × fits x

-- nothing is asked
abbrev pub Anything : {A : Type 0} → A → Type 0
Anything x = Unit {0}

-- the texts are one
pub same_text : (a b : List ℕ) → pointwise nat_eq a b ≡ true → a ≡ b
same_text a b e = (bytes_eq-Decides a b).0 e

-- a text is tested for a word, and read otherwise
pub then_word : {A : Type 0} (w t : List ℕ) (o other : Option A) (k : A) (P : Type 0)
    → cond (pointwise nat_eq t w) o other ≡ Some k → (t ≡ w → o ≡ Some k → P) → (other ≡ Some k → P) → P
then_word w t o other k P e here there = elim (choice (pointwise nat_eq t w) o other (Some k) e) [
  | inl p ↦ here (same_text t w p.0) p.1
  | inr p ↦ there p.1
]

-- a text is tested for a prefix, and read otherwise
pub then_behind : {A : Type 0} (p t : List ℕ) (read : List ℕ → Option A) (other : Option A) (y : A) (P : Type 0)
    → behind (strip p t) read other ≡ Some y → ((r : List ℕ) → t ≡ p ++ r → read r ≡ Some y → P)
    → (other ≡ Some y → P) → P
then_behind {A} p t read other y P e here there = cases (strip p t) refl e
  where
    cases : (o : Option (List ℕ)) → strip p t ≡ o → behind o read other ≡ Some y → P
    cases (Some r) is f = here r (strip_sound p t r is) f
    cases None is f = there f

-- what was read is this value
pub this_value : {A : Type 0} (text : A → List ℕ) (fits : A → Type 0) (t : List ℕ) (x k : A)
    → Some x ≡ Some k → t ≡ text x → fits x → Exact text fits t k
this_value text fits t x k e is f = subst (Exact text fits t) (same_Some x k e) (is, f)

-- ---- addresses

pub exactly_sound : {A : Type 0} (text : A → List ℕ) (t : List ℕ) (x y : A) → exactly text t x ≡ Some y
    → (t ≡ text y) × (x ≡ y)
exactly_sound text t x y e =
    let g = cond_some (pointwise nat_eq (text x) t) x y e in
    (sym (same_text (text x) t g.0) ∙ ap text g.1, g.1)

pub exactly_complete : {A : Type 0} (text : A → List ℕ) (x : A) → exactly text (text x) x ≡ Some x
exactly_complete text x = cond_is (pointwise nat_eq (text x) (text x)) (Some x) None
    ((bytes_eq-Decides (text x) (text x)).1 refl)

graphic_visible : (b : ℕ) → is_ascii_graphic b ≡ true → is_visible b ≡ true
graphic_visible b e = grind (arith, nat_tests)

pub addr_visible : (a : Addr) → HasText a → list_all is_visible (addr_text a) ≡ true
addr_visible a has = passes_weaker is_ascii_graphic is_visible graphic_visible (addr_text a)
    (all_graphic (addr_text a) a has)

pub addr_lacks : (a : Addr) → HasText a → Lacks (addr_text a)
addr_lacks a has = visible_lacks (addr_text a) (addr_visible a has)

pub exact_law : IsReader exact_at (Exact addr_text HasText)
unfolding exact_at
exact_law = record {
  sound = λ t a e.
      let b = bind_some (addr_at t) (exactly addr_text t) a e in
      let g = exactly_sound addr_text t b.0 a b.2 in
      let is : IsAddrText t b.0 = (addr_law.sound t b.0 b.1).1 in
      (g.0, subst (λ (x : List ℕ). IsAddrText x a) g.0 (subst (IsAddrText t) g.1 is));
  complete = λ t a is.
      ap (λ (x : List ℕ). addr_at x >>= exactly addr_text x) is.0
      ∙ bind_is (addr_at (addr_text a)) (exactly addr_text (addr_text a)) a (Some a)
      (addr_law.complete (addr_text a) a (addr_visible a is.1, is.1)) (exactly_complete addr_text a);
}

-- ---- the numbers of jobs

jobs_numbers : (ns : List ℕ) → jobs_text (map job_of ns) ≡ numbers_text ns
jobs_numbers [] = refl
jobs_numbers (n ∷ ns) = ap (λ (x : List ℕ). decimal n ++ x) (rest ns)
  where
    rest : (ns : List ℕ) → flat_map (λ (k : JobId). codes "," ++ decimal k.0) (map job_of ns)
        ≡ flat_map (λ m. codes "," ++ decimal m) ns
    rest [] = refl
    rest (n ∷ ns) = ap (λ (x : List ℕ). 44 ∷ (decimal n ++ x)) (rest ns)

jobs_fit : (ns : List ℕ) → AllFit ns → JobsFit (map job_of ns)
jobs_fit [] fit = tt
jobs_fit (n ∷ ns) fit = (fit.0, jobs_fit ns fit.1)

abbrev numbers_in : List JobId → List ℕ
numbers_in js = map (λ j. j.0) js

numbers_fit : (js : List JobId) → JobsFit js → AllFit (numbers_in js)
numbers_fit [] fit = tt
numbers_fit (j ∷ js) fit = (fit.0, numbers_fit js fit.1)

jobs_back : (js : List JobId) → map job_of (numbers_in js) ≡ js
jobs_back [] = refl
jobs_back (j ∷ js) = ap (λ (ks : List JobId). j ∷ ks) (jobs_back js)

jobs_read : (t : List ℕ) (o : Option (List ℕ)) (js : List JobId) → numbers_at t ≡ o
    → option_map (map job_of) o ≡ Some js → Exact jobs_text JobsFit t js
jobs_read t None js is e = absurd cc
jobs_read t (Some ns) js is e =
    let s = numbers_law.sound t ns is in
    this_value jobs_text JobsFit t (map job_of ns) js e (s.0 ∙ sym (jobs_numbers ns)) (jobs_fit ns s.1)

pub jobs_law : IsReader jobs_at (Exact jobs_text JobsFit)
jobs_law = record {
  sound = λ t js e. jobs_read t (numbers_at t) js refl e;
  complete = λ t js is.
      let text : t ≡ numbers_text (numbers_in js) = is.0 ∙ ap jobs_text (sym (jobs_back js))
      ∙ jobs_numbers (numbers_in js) in
      ap (option_map (map job_of)) (numbers_law.complete t (numbers_in js) (text, numbers_fit js is.1))
      ∙ ap (λ (ks : List JobId). Some ks) (jobs_back js);
}

pub jobs_lack : (js : List JobId) → JobsFit js → Lacks (jobs_text js)
jobs_lack js fit = subst Lacks (sym (ap jobs_text (sym (jobs_back js)) ∙ jobs_numbers (numbers_in js)))
    (numbers_lack (numbers_in js) (numbers_fit js fit))

-- ---- a number or a dash

maybe_read : (t : List ℕ) (o : Option ℕ) (x : Option ℕ) → number_at t ≡ o → option_map Some o ≡ Some x
    → Exact number_text SomeFits t x
maybe_read t None x is e = absurd cc
maybe_read t (Some n) x is e = let s = number_law.sound t n is in this_value number_text SomeFits t (Some n) x e s.0 s.1

maybe_complete : (t : List ℕ) (x : Option ℕ) → Exact number_text SomeFits t x → maybe_at t ≡ Some x
maybe_complete t None is = ap maybe_at is.0
maybe_complete t (Some n) is =
    ap maybe_at is.0
    ∙ ap (λ (v : Bool). cond v (Some None) (option_map Some (number_at (decimal n))))
    (sym (ap (λ (x : List ℕ). pointwise nat_eq x (codes "-")) (append-nil (decimal n)))
    ∙ no_dash (decimal n) [] (decimal_nonempty n is.1) (decimal_digits n is.1))
    ∙ ap (option_map Some) (number_law.complete (decimal n) n (refl, is.1))

pub maybe_law : IsReader maybe_at (Exact number_text SomeFits)
maybe_law = record {
  sound = λ t x e. then_word (codes "-") t _ _ x (Exact number_text SomeFits t x) e
      (λ is f. this_value number_text SomeFits t None x f is tt)
      (λ f. maybe_read t (number_at t) x refl f);
  complete = maybe_complete;
}

pub maybe_lacks : (x : Option ℕ) → SomeFits x → Lacks (number_text x)
maybe_lacks None fits = (refl, tt)
maybe_lacks (Some n) fits = decimal_lacks n fits

-- ---- words

state_complete : (t : List ℕ) (s : JobState) → Exact state_text Anything t s → state_at t ≡ Some s
state_complete t Pending is = ap state_at is.0
state_complete t Ready is = ap state_at is.0
state_complete t Started is = ap state_at is.0
state_complete t Complete is = ap state_at is.0

pub state_law : IsReader state_at (Exact state_text Anything)
state_law = record {
  sound = λ t s e. then_word (codes "pending") t _ _ s (Exact state_text Anything t s) e
      (λ is f. this_value state_text Anything t Pending s f is tt)
      (λ e2. then_word (codes "ready") t _ _ s (Exact state_text Anything t s) e2
      (λ is f. this_value state_text Anything t Ready s f is tt)
      (λ e3. then_word (codes "started") t _ _ s (Exact state_text Anything t s) e3
      (λ is f. this_value state_text Anything t Started s f is tt)
      (λ e4. then_word (codes "complete") t _ _ s (Exact state_text Anything t s) e4
      (λ is f. this_value state_text Anything t Complete s f is tt)
      (λ e5. absurd cc))));
  complete = state_complete;
}

pub state_lacks : (s : JobState) → Lacks (state_text s)
state_lacks Pending = visible_lacks (codes "pending") refl
state_lacks Ready = visible_lacks (codes "ready") refl
state_lacks Started = visible_lacks (codes "started") refl
state_lacks Complete = visible_lacks (codes "complete") refl

stage_read : (t : List ℕ) (o : Option JobState) (x : Option JobState) → state_at t ≡ o → option_map Some o ≡ Some x
    → Exact stage_text Anything t x
stage_read t None x is e = absurd cc
stage_read t (Some s) x is e = this_value stage_text Anything t (Some s) x e (state_law.sound t s is).0 tt

stage_complete : (t : List ℕ) (x : Option JobState) → Exact stage_text Anything t x → stage_at t ≡ Some x
stage_complete t None is = ap stage_at is.0
stage_complete t (Some Pending) is = ap stage_at is.0
stage_complete t (Some Ready) is = ap stage_at is.0
stage_complete t (Some Started) is = ap stage_at is.0
stage_complete t (Some Complete) is = ap stage_at is.0

pub stage_law : IsReader stage_at (Exact stage_text Anything)
stage_law = record {
  sound = λ t x e. then_word (codes "reserved") t _ _ x (Exact stage_text Anything t x) e
      (λ is f. this_value stage_text Anything t None x f is tt)
      (λ f. stage_read t (state_at t) x refl f);
  complete = stage_complete;
}

pub stage_lacks : (x : Option JobState) → Lacks (stage_text x)
stage_lacks None = visible_lacks (codes "reserved") refl
stage_lacks (Some s) = state_lacks s

either_sound : (text : Bool → List ℕ) (t : List ℕ) (b : Bool) → either_at (text true) (text false) t ≡ Some b
    → Exact text Anything t b
either_sound text t b e = then_word (text true) t _ _ b (Exact text Anything t b) e
    (λ is f. this_value text Anything t true b f is tt)
    (λ e2. then_word (text false) t _ _ b (Exact text Anything t b) e2
    (λ is f. this_value text Anything t false b f is tt) (λ e3. absurd cc))

kept_complete : (t : List ℕ) (b : Bool) → Exact kept_text Anything t b
    → either_at (codes "kept") (codes "dropped") t ≡ Some b
kept_complete t true is = ap (either_at (codes "kept") (codes "dropped")) is.0
kept_complete t false is = ap (either_at (codes "kept") (codes "dropped")) is.0

pub kept_law : IsReader (either_at (codes "kept") (codes "dropped")) (Exact kept_text Anything)
kept_law = record { sound = either_sound kept_text; complete = kept_complete }

ended_complete : (t : List ℕ) (b : Bool) → Exact ended_text Anything t b
    → either_at (codes "yes") (codes "no") t ≡ Some b
ended_complete t true is = ap (either_at (codes "yes") (codes "no")) is.0
ended_complete t false is = ap (either_at (codes "yes") (codes "no")) is.0

pub ended_law : IsReader (either_at (codes "yes") (codes "no")) (Exact ended_text Anything)
ended_law = record { sound = either_sound ended_text; complete = ended_complete }

age_complete : (t : List ℕ) (b : Bool) → Exact age_text Anything t b
    → either_at (codes "new") (codes "old") t ≡ Some b
age_complete t true is = ap (either_at (codes "new") (codes "old")) is.0
age_complete t false is = ap (either_at (codes "new") (codes "old")) is.0

pub age_law : IsReader (either_at (codes "new") (codes "old")) (Exact age_text Anything)
age_law = record { sound = either_sound age_text; complete = age_complete }

on_complete : (t : List ℕ) (b : Bool) → Exact on_text Anything t b → either_at (codes "on") (codes "off") t ≡ Some b
on_complete t true is = ap (either_at (codes "on") (codes "off")) is.0
on_complete t false is = ap (either_at (codes "on") (codes "off")) is.0

pub on_law : IsReader (either_at (codes "on") (codes "off")) (Exact on_text Anything)
on_law = record { sound = either_sound on_text; complete = on_complete }

pub on_lacks : (b : Bool) → Lacks (on_text b)
on_lacks true = visible_lacks (codes "on") refl
on_lacks false = visible_lacks (codes "off") refl

ready_complete : (t : List ℕ) (b : Bool) → Exact ready_text Anything t b
    → either_at (codes "ready") (codes "pending") t ≡ Some b
ready_complete t true is = ap (either_at (codes "ready") (codes "pending")) is.0
ready_complete t false is = ap (either_at (codes "ready") (codes "pending")) is.0

pub ready_law : IsReader (either_at (codes "ready") (codes "pending")) (Exact ready_text Anything)
ready_law = record { sound = either_sound ready_text; complete = ready_complete }

claim_complete : (t : List ℕ) (b : Bool) → Exact claim_text Anything t b
    → either_at (codes "claimed") (codes "unclaimed") t ≡ Some b
claim_complete t true is = ap (either_at (codes "claimed") (codes "unclaimed")) is.0
claim_complete t false is = ap (either_at (codes "claimed") (codes "unclaimed")) is.0

pub claim_law : IsReader (either_at (codes "claimed") (codes "unclaimed")) (Exact claim_text Anything)
claim_law = record { sound = either_sound claim_text; complete = claim_complete }

-- ---- ids

-- it stands for itself
abbrev pub itself : List ℕ → List ℕ
itself t = t

pub id_law : IsReader id_at (Exact itself IsId)
id_law = record {
  sound = λ t x e.
      let g = cond_some ((length t == 64) && list_all is_lower_hex t) t x e in
      let p = both (length t == 64) (list_all is_lower_hex t) g.0 in
      (g.1, subst IsId g.1 (eqb-true (length t) 64 p.0, p.1));
  complete = λ t x is.
      let long : length x ≡ 64 = is.1.0 in
      rw (is.0, long, is.1.1) refl;
}

-- ---- bytes

pub lower_law : IsReader lower_at (Exact hex_text HasHex)
unfolding lower_at
lower_law = record {
  sound = λ t x e.
      let b = bind_some (hex_at t) (exactly hex_text t) x e in
      let g = exactly_sound hex_text t b.0 x b.2 in
      let is : IsHex t x = subst (IsHex t) g.1 (hex_law.sound t b.0 b.1) in
      (g.0, subst (λ (y : List ℕ). IsHex y x) g.0 is);
  complete = λ t x is.
      ap (λ (y : List ℕ). hex_at y >>= exactly hex_text y) is.0
      ∙ bind_is (hex_at (hex_text x)) (exactly hex_text (hex_text x)) x (Some x)
      (hex_law.complete (hex_text x) x is.1) (exactly_complete hex_text x);
}

-- ---- words before a value

-- a text behind another
abbrev pub pre : List ℕ → List ℕ → List ℕ
pre p t = p ++ t

-- a text behind a word that is read as one of a value
pub at_word : {A : Type 0} (text : A → List ℕ) (fits : A → Type 0) (p word w t : List ℕ) (k : A) → w ≡ word
    → p ≡ word ++ 32 ∷ [] → Exact text fits (pre p t) k → Exact text fits (w ++ 32 ∷ t) k
at_word text fits p word w t k same spaced is = subst (λ (x : List ℕ). Exact text fits x k) whole is
  where
    whole : pre p t ≡ w ++ 32 ∷ t
    whole = rw (spaced, same) (append_assoc word (32 ∷ []) t)
