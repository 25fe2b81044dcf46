-- Values joined by commas are read one after the other, and are put together from them.
use Rattle.std.proofs.Common.{◌≡◌, ℕ, ◌+◌, ◌<◌, ◌≤◌, ◌==◌, Bool, true, false, cond, nat_eq, List, [], ◌∷◌, ◌++◌}
use Rattle.std.proofs.Common.{length, get_or, take, drop, map, Option, Some, None, codes, refl, sym, ap, subst}
use Rattle.std.proofs.Common.{◌∙◌, append_assoc, append-nil, arith, suc, ◌⊎◌, inl, inr}
use Rattle.std.specs.List.{position, position_from, onto_first, flat_map}
use Rattle.std.specs.Char.{is_ascii_digit}
use Rattle.std.specs.Str.{all_ascii_digits}
use Rattle.std.specs.Cmp.Lexicographic.{pointwise}
use Rattle.std.specs.Option.{option_map}
use Rattle.std.specs.Fmt.{decimal}
use Rattle.std.proofs.lemmas.Bool.{eqb-true, ne_eqb}
use Rattle.std.proofs.lemmas.Bool.Decides.{nat_tests}
use Rattle.std.proofs.lemmas.Fmt.{decimal_nonempty}
use Rattle.std.proofs.lemmas.Option.{same_Some, some_pair_parts}
use Rattle.std.proofs.lemmas.List.{take-append-drop, drop_more, length-drop}
use Rattle.std.proofs.lemmas.List.Quantifiers.{position-Some}
use Rattle.std.proofs.lemmas.Iterator.Adapters.{position_from-zero}
use Rattle.std.proofs.lemmas.Slice.Eq.{bytes_eq-Decides}
use Rattle.dist_types.specs.Addr.{◌>>=◌}
use Rattle.dist_types.proofs.AddrLemmas.{bind_some}
use Rattle.line_program.specs.declared.fault.LineFault.{LineFault}
use Rattle.line_program.specs.declared.fault.LineFault.TheVariants as faults
use Rattle.farm_script.specs.Reading.{Fails}
use Rattle.farm_script.specs.Words.{parted}
use Rattle.farm_script.specs.Fields.{number_at}
use Rattle.farm_script.proofs.VisibleLemmas.{both}
use Rattle.line_program.proofs.FirstFaultyLemmas.{choice}
use Rattle.farm_script.proofs.FieldLemmas.{number_law, decimal_digits, decimal_lacks}
use Rattle.farm_script.proofs.WordLemmas.{IsReader, Lacks, bind_is}
use Rattle.farm_entries.specs.Printed.{numbers_text}
use Rattle.run_lines.specs.Grammar.{Each, Fits, AllFit}
use Rattle.run_lines.specs.Fields.{parts, next_part, item_part, items_of, items_behind, items_at, numbers_at}

-- a text without a comma
abbrev pub Free : List ℕ → Type 0
Free [] = Unit {0}
Free (b ∷ bs) = ((b == 44) ≡ false) × Free bs

off_parts : (b : Bool) (c : ℕ) (ws : List (List ℕ)) → b ≡ false
    → cond b ([] ∷ ws) (onto_first c ws) ≡ onto_first c ws
off_parts true c ws e = absurd cc
off_parts false c ws e = refl

parts_end : (w : List ℕ) → Free w → parts w ≡ w ∷ []
unfolding parts
parts_end [] l = refl
parts_end (c ∷ cs) l = off_parts (c == 44) c (parts cs) l.0 ∙ ap (onto_first c) (parts_end cs l.1)

parts_at : (w rest : List ℕ) → Free w → parts (w ++ 44 ∷ rest) ≡ w ∷ parts rest
unfolding parts
parts_at [] rest l = refl
parts_at (c ∷ cs) rest l = off_parts (c == 44) c (parts (cs ++ 44 ∷ rest)) l.0
    ∙ ap (onto_first c) (parts_at cs rest l.1)

none_step : (b : Bool) (i : ℕ) (o : Option ℕ) → cond b (Some i) o ≡ None → (b ≡ false) × (o ≡ None)
none_step true i o e = absurd cc
none_step false i o e = (refl, e)

none_from : (i : ℕ) (t : List ℕ) → position_from (λ b. b == 44) i t ≡ None → Free t
none_from i [] e = tt
none_from i (c ∷ cs) e =
    let p = none_step (c == 44) i (position_from (λ b. b == 44) (i + 1) cs) e in
    (p.0, none_from (i + 1) cs p.1)

none_free : (t : List ℕ) → position (λ b. b == 44) t ≡ None → Free t
none_free t e = none_from 0 t (sym (position_from-zero (λ b. b == 44) t) ∙ e)

some_step : (b : Bool) (i k : ℕ) (o : Option ℕ) → cond b (Some i) o ≡ Some k → ((b ≡ true) × (i ≡ k))
    ⊎ ((b ≡ false) × (o ≡ Some k))
some_step true i k o e = inl (refl, cc)
some_step false i k o e = inr (refl, e)

some_from : (i k : ℕ) (t : List ℕ) → position_from (λ b. b == 44) i t ≡ Some k → (j : ℕ) × (k ≡ i + j)
    × Free (take j t)
some_from i k [] e = absurd cc
some_from i k (c ∷ cs) e = elim (some_step (c == 44) i k (position_from (λ b. b == 44) (i + 1) cs) e) [
  | inl p ↦ (0, omega (arith, p.1), tt)
  | inr p ↦
      let r = some_from (i + 1) k cs p.1 in
      (suc r.0, omega (arith, r.1), (p.0, r.2))
]

some_free : (t : List ℕ) (k : ℕ) → position (λ b. b == 44) t ≡ Some k → Free (take k t)
some_free t k e =
    let r = some_from 0 k t (sym (position_from-zero (λ b. b == 44) t) ∙ e) in
    let same : r.0 ≡ k = omega (arith, r.1) in
    subst (λ (n : ℕ). Free (take n t)) same r.2

cut_place : (t : List ℕ) (i : ℕ) → position (λ b. b == 44) t ≡ Some i → t ≡ take i t ++ 44 ∷ drop (i + 1) t
cut_place t i is =
    let at = position-Some (λ b. b == 44) t i 0 is in
    let here : get_or t i 0 ≡ 44 = eqb-true (get_or t i 0) 44 at.1 in
    sym (take-append-drop i t) ∙ rw (drop_more t i 0 at.0, here) refl

-- ---- the loop

-- those that were read, before what is left
abbrev pub put_before : {A : Type 0} → List A → Option (List A) → Option (List A)
put_before xs o = option_map (λ ys. xs ++ ys) o

-- how much is left
abbrev pub room_of : Option (List ℕ) → ℕ
room_of None = 0
room_of (Some t) = length t + 1

abbrev parts_behind : Option (List ℕ) → List (List ℕ)
parts_behind None = []
parts_behind (Some t) = parts t

parts_cut : (t : List ℕ) (o : Option ℕ) → position (λ b. b == 44) t ≡ o
    → parts t ≡ (parted t o).0 ∷ parts_behind (parted t o).1
parts_cut t None e = parts_end t (none_free t e)
parts_cut t (Some i) e = ap parts (cut_place t i e) ∙ parts_at (take i t) (drop (i + 1) t) (some_free t i e)

behind_parts : {A : Type 0} (read : List ℕ → Option A) (o : Option (List ℕ))
    → items_of read (parts_behind o) ≡ items_behind read o
unfolding items_of
behind_parts read None = refl
behind_parts read (Some t) = refl

-- what the first value and the others make
abbrev pub then_items : {A : Type 0} → (List ℕ → Option A) → Option (A × Option (List ℕ)) → Option (List A)
then_items read o = o >>= λ x. items_behind read x.1 >>= λ xs. Some (x.0 ∷ xs)

grouped : {A : Type 0} (read : List ℕ → Option A) (x : Option A) (rest : Option (List ℕ))
    → (x >>= λ k. items_behind read rest >>= λ xs. Some (k ∷ xs)) ≡ then_items read (option_map (λ k. (k, rest)) x)
grouped read None rest = refl
grouped read (Some k) rest = refl

items_first : {A : Type 0} (read : List ℕ → Option A) (t : List ℕ)
    → items_behind read (Some t) ≡ then_items read (item_part read t)
unfolding items_of
items_first {A} read t =
    ap (items_of read) (parts_cut t (position (λ b. b == 44) t) refl)
    ∙ ap (λ (o : Option (List A)). read (next_part t).0 >>= λ k. o >>= λ xs. Some (k ∷ xs))
    (behind_parts read (next_part t).1)
    ∙ grouped read (read (next_part t).0) (next_part t).1

pushed : {A : Type 0} (xs : List A) (x : A) (o : Option (List A))
    → put_before xs (o >>= λ os. Some (x ∷ os)) ≡ put_before (xs ++ x ∷ []) o
pushed xs x None = refl
pushed {A} xs x (Some os) = ap (λ (ys : List A). Some ys) (sym (append_assoc xs (x ∷ []) os))

pub items_step : {A : Type 0} (read : List ℕ → Option A) (t : List ℕ) (xs : List A) (x : A)
    (rest : Option (List ℕ)) (total : Option (List A)) → item_part read t ≡ Some (x, rest)
    → put_before xs (items_behind read (Some t)) ≡ total → put_before (xs ++ x ∷ []) (items_behind read rest) ≡ total
items_step read t xs x rest total e so_far =
    sym (pushed xs x (items_behind read rest))
    ∙ sym (ap (put_before xs) (items_first read t ∙ ap (then_items read) e))
    ∙ so_far

pub items_stop : {A : Type 0} (read : List ℕ → Option A) (fault : LineFault) (t : List ℕ) (xs : List A)
    (total : Option (List A)) → Fails fault (item_part read t) → put_before xs (items_behind read (Some t)) ≡ total
    → Fails fault total
items_stop read faults.Memory t xs total e so_far = tt
items_stop read faults.Bad t xs total e so_far =
    sym so_far ∙ ap (put_before xs) (items_first read t ∙ ap (then_items read) e)

parted_room : (t : List ℕ) (o : Option ℕ) → position (λ b. b == 44) t ≡ o
    → room_of (parted t o).1 < room_of (Some t)
parted_room t None e = omega arith
parted_room t (Some i) e =
    let at = position-Some (λ b. b == 44) t i 0 e in
    omega (arith, length-drop (i + 1) t, at.0)

rest_is : {A : Type 0} (x : A) (rest : Option (List ℕ)) (o : Option A) (after : Option (List ℕ))
    → option_map {U = A × Option (List ℕ)} (λ n. (n, after)) o ≡ Some (x, rest) → after ≡ rest
rest_is x rest None after e = absurd cc
rest_is x rest (Some n) after e = (some_pair_parts n x after rest e).1

pub part_room : {A : Type 0} (read : List ℕ → Option A) (t : List ℕ) (x : A) (rest : Option (List ℕ))
    → item_part read t ≡ Some (x, rest) → room_of rest < room_of (Some t)
part_room read t x rest e =
    let same : (next_part t).1 ≡ rest = rest_is x rest (read (next_part t).0) (next_part t).1 e in
    subst (λ (o : Option (List ℕ)). room_of o < room_of (Some t)) same
    (parted_room t (position (λ b. b == 44) t) refl)

-- ---- the grammar

abbrev joined : List (List ℕ) → List ℕ
joined [] = []
joined (w ∷ ws) = 44 ∷ (w ++ joined ws)

text_step : (b : Bool) (c : ℕ) (cs : List ℕ) (ws : List (List ℕ)) → (b ≡ true → c ≡ 44)
    → 44 ∷ cs ≡ joined ws → 44 ∷ c ∷ cs ≡ joined (cond b ([] ∷ ws) (onto_first c ws))
text_step true c cs ws comma e = let here : c ≡ 44 = comma refl in cc
text_step false c cs [] comma e = absurd cc
text_step false c cs (w ∷ ws) comma e = let rest : cs ≡ w ++ joined ws =
    cc in ap (λ (x : List ℕ). 44 ∷ c ∷ x) rest

parts_text : (t : List ℕ) → 44 ∷ t ≡ joined (parts t)
unfolding parts
parts_text [] = refl
parts_text (c ∷ cs) = text_step (c == 44) c cs (parts cs) (λ e. eqb-true c 44 e) (parts_text cs)

-- a comma before each
abbrev commas : {A : Type 0} → (A → List ℕ) → List A → List ℕ
commas text xs = flat_map (λ x. codes "," ++ text x) xs

-- joined by commas, or a dash
abbrev pub items_text : {A : Type 0} → (A → List ℕ) → List A → List ℕ
items_text text [] = codes "-"
items_text text (x ∷ xs) = text x ++ commas text xs

-- A value that may stand between commas: its one text is read, and has no comma and no space; no list of
-- such texts is a dash.
pub record IsItem {A : Type 0} (read : List ℕ → Option A) (text : A → List ℕ) (fits : A → Type 0) : Type 0 where
  pub law : IsReader read (λ t x. (t ≡ text x) × fits x)
  pub free : (x : A) → fits x → Free (text x)
  pub lacks : (x : A) → fits x → Lacks (text x)
  pub no_dash : (x : A) (rest : List ℕ) → fits x → pointwise nat_eq (text x ++ rest) (codes "-") ≡ false

joined_items : {A : Type 0} (text : A → List ℕ) (xs : List A) → joined (map text xs) ≡ commas text xs
joined_items text [] = refl
joined_items text (x ∷ xs) = ap (λ (r : List ℕ). 44 ∷ (text x ++ r)) (joined_items text xs)

-- what parts say, and that it fits
abbrev SaidAs : {A : Type 0} → (A → List ℕ) → (A → Type 0) → List (List ℕ) → List A → Type 0
SaidAs text fits ws xs = (ws ≡ map text xs) × Each fits xs

items_said : {A : Type 0} (read : List ℕ → Option A) (text : A → List ℕ) (fits : A → Type 0)
    → IsItem read text fits → (ws : List (List ℕ)) (xs : List A) → items_of read ws ≡ Some xs
    → SaidAs text fits ws xs
unfolding items_of
items_said {A} read text fits item [] xs e = subst (SaidAs text fits []) (same_Some [] xs e) (refl, tt)
items_said {A} read text fits item (w ∷ ws) xs e =
    let a = bind_some (read w) _ xs e in
    let b = bind_some (items_of read ws) _ xs a.2 in
    let one = item.law.sound w a.0 a.1 in
    let rest = items_said read text fits item ws b.0 b.1 in
    let made : List A = a.0 ∷ b.0 in
    let is : SaidAs text fits (w ∷ ws) made = (
      ap (λ (x : List ℕ). x ∷ ws) one.0 ∙ ap (λ (vs : List (List ℕ)). text a.0 ∷ vs) rest.0,
      (one.1, rest.1),
    ) in
    subst (SaidAs text fits (w ∷ ws)) (same_Some made xs b.2) is

text_of_items : {A : Type 0} (text : A → List ℕ) (t : List ℕ) (xs : List A) → 44 ∷ t ≡ commas text xs
    → t ≡ items_text text xs
text_of_items text t [] e = absurd cc
text_of_items text t (x ∷ xs) e = cc

-- the one text of values that fit
abbrev pub JoinedAs : {A : Type 0} → (A → List ℕ) → (A → Type 0) → List ℕ → List A → Type 0
JoinedAs text fits t xs = (t ≡ items_text text xs) × Each fits xs

items_sound : {A : Type 0} (read : List ℕ → Option A) (text : A → List ℕ) (fits : A → Type 0)
    → IsItem read text fits → (t : List ℕ) (xs : List A) → items_at read t ≡ Some xs → JoinedAs text fits t xs
items_sound {A} read text fits item t xs e = elim
    (choice (pointwise nat_eq t (codes "-")) (Some []) (items_of read (parts t)) (Some xs) e) [
      | inl p ↦ subst (JoinedAs text fits t) (same_Some [] xs p.1) ((bytes_eq-Decides t (codes "-")).0 p.0, tt)
      | inr p ↦
          let said = items_said read text fits item (parts t) xs p.1 in
          (text_of_items text t xs (parts_text t ∙ ap joined said.0 ∙ joined_items text xs), said.1)
    ]

parts_list : {A : Type 0} (read : List ℕ → Option A) (text : A → List ℕ) (fits : A → Type 0)
    → IsItem read text fits → (w : List ℕ) (xs : List A) → Free w → Each fits xs
    → parts (w ++ commas text xs) ≡ w ∷ map text xs
parts_list read text fits item w [] free fit = ap parts (append-nil w) ∙ parts_end w free
parts_list read text fits item w (x ∷ xs) free fit = parts_at w (text x ++ commas text xs) free
    ∙ ap (λ (ws : List (List ℕ)). w ∷ ws)
    (parts_list read text fits item (text x) xs (item.free x fit.0) fit.1)

said_items : {A : Type 0} (read : List ℕ → Option A) (text : A → List ℕ) (fits : A → Type 0)
    → IsItem read text fits → (xs : List A) → Each fits xs → items_of read (map text xs) ≡ Some xs
unfolding items_of
said_items read text fits item [] fit = refl
said_items read text fits item (x ∷ xs) fit = bind_is _ _ _ _ (item.law.complete (text x) x (refl, fit.0))
    (bind_is _ _ _ _ (said_items read text fits item xs fit.1) refl)

items_complete : {A : Type 0} (read : List ℕ → Option A) (text : A → List ℕ) (fits : A → Type 0)
    → IsItem read text fits → (t : List ℕ) (xs : List A) → JoinedAs text fits t xs → items_at read t ≡ Some xs
items_complete read text fits item t [] is = ap (items_at read) is.0
items_complete {A} read text fits item t (x ∷ xs) is =
    ap (items_at read) is.0
    ∙ ap (λ (v : Bool). cond v (Some []) (items_of read (parts (text x ++ commas text xs))))
    (item.no_dash x (commas text xs) is.1.0)
    ∙ ap (items_of read) (parts_list read text fits item (text x) xs (item.free x is.1.0) is.1.1)
    ∙ said_items read text fits item (x ∷ xs) is.1

pub items_law : {A : Type 0} (read : List ℕ → Option A) (text : A → List ℕ) (fits : A → Type 0)
    → IsItem read text fits → IsReader (items_at read) (JoinedAs text fits)
items_law read text fits item = record {
  sound = items_sound read text fits item;
  complete = items_complete read text fits item;
}

pub lacks_both : (a b : List ℕ) → Lacks a → Lacks b → Lacks (a ++ b)
lacks_both [] b la lb = lb
lacks_both (c ∷ cs) b la lb = (la.0, lacks_both cs b la.1 lb)

commas_lack : {A : Type 0} (read : List ℕ → Option A) (text : A → List ℕ) (fits : A → Type 0)
    → IsItem read text fits → (xs : List A) → Each fits xs → Lacks (commas text xs)
commas_lack read text fits item [] fit = tt
commas_lack read text fits item (x ∷ xs) fit = (
  refl,
  lacks_both (text x) (commas text xs) (item.lacks x fit.0)
      (commas_lack read text fits item xs fit.1),
)

pub items_lack : {A : Type 0} (read : List ℕ → Option A) (text : A → List ℕ) (fits : A → Type 0)
    → IsItem read text fits → (xs : List A) → Each fits xs → Lacks (items_text text xs)
items_lack read text fits item [] fit = (refl, tt)
items_lack read text fits item (x ∷ xs) fit = lacks_both (text x) (commas text xs) (item.lacks x fit.0)
    (commas_lack read text fits item xs fit.1)

-- ---- numbers

digits_free : (t : List ℕ) → all_ascii_digits t ≡ true → Free t
digits_free [] e = tt
digits_free (b ∷ bs) e =
    let p = both (is_ascii_digit b) (all_ascii_digits bs) e in
    let digit : is_ascii_digit b ≡ true = p.0 in
    let low : 48 ≤ b = grind (arith, nat_tests) in
    (ne_eqb b 44 (λ same. absurd (omega arith)), digits_free bs p.1)

pub decimal_free : (n : ℕ) → Fits n → Free (decimal n)
decimal_free n fits = digits_free (decimal n) (decimal_digits n fits)

-- a text that begins with a digit is no dash
pub no_dash : (ds rest : List ℕ) → 0 < length ds → all_ascii_digits ds ≡ true
    → pointwise nat_eq (ds ++ rest) (codes "-") ≡ false
no_dash [] rest some e = absurd (omega arith)
no_dash (d ∷ ds) rest some e =
    let p = both (is_ascii_digit d) (all_ascii_digits ds) e in
    let digit : is_ascii_digit d ≡ true = p.0 in
    let low : 48 ≤ d = grind (arith, nat_tests) in
    let other : nat_eq d 45 ≡ false = ne_eqb d 45 (λ same. absurd (omega arith)) in
    rw other refl

pub number_item : IsItem number_at decimal Fits
number_item = record {
  law = number_law;
  free = decimal_free;
  lacks = decimal_lacks;
  no_dash = λ n rest fits. no_dash (decimal n) rest (decimal_nonempty n fits) (decimal_digits n fits);
}

numbers_same : (ns : List ℕ) → items_text decimal ns ≡ numbers_text ns
numbers_same [] = refl
numbers_same (n ∷ ns) = refl

pub numbers_law : IsReader numbers_at (λ t ns. (t ≡ numbers_text ns) × AllFit ns)
numbers_law = record {
  sound = λ t ns e. let s = (items_law number_at decimal Fits number_item).sound t ns e in
      (s.0 ∙ numbers_same ns, s.1);
  complete = λ t ns is. (items_law number_at decimal Fits number_item).complete t ns
      (is.0 ∙ sym (numbers_same ns), is.1);
}

pub numbers_lack : (ns : List ℕ) → AllFit ns → Lacks (numbers_text ns)
numbers_lack ns fit = subst Lacks (numbers_same ns) (items_lack number_at decimal Fits number_item ns fit)
