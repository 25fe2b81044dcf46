-- Paths of keys differ where the keys do.
use Rattle.std.proofs.Common.{◌≡◌, ℕ, ◌<◌, ◌^◌, ◌==◌, ◌&&◌, not, codes, Bool, true, false, List, [], ◌∷◌}
use Rattle.std.proofs.Common.{◌++◌, Result, Ok, Err, IfOk, rules, refl, sym, ap, subst, ◌∙◌, true≢false}
use Rattle.std.specs.Str.{bytes_eq}
use Rattle.std.proofs.lemmas.Slice.Eq.{bytes_eq-Decides}
use Rattle.std.proofs.lemmas.List.{append_cancel_left}
use Rattle.std.proofs.lemmas.List.Splits.{slice_split-cons_no}
use Rattle.std.proofs.lemmas.Fmt.{digits_decimal, digits_value-decimal}
use Rattle.std.specs.Char.{is_ascii_digit}
use Rattle.std.specs.Fmt.{decimal}
use Rattle.std.specs.List.{list_all, slice_split, onto_first}
use Rattle.std.specs.Str.Parse.{digits_value}
use Rattle.dist_types.proofs.AddrLemmas.{digits}
use Rattle.listed_files.specs.Key.{is_key, are_key, is_temporary, temp_name, insert_name}
use Rattle.folders.specs.Plain.{is_plain}
use Rattle.listed_files.specs.Disk.{IsKeyless}

-- texts behind one front are compared by what differs
pub same_front : (root p q : List ℕ) → bytes_eq (root ++ p) (root ++ q) ≡ bytes_eq p q
same_front root p q = by (bytes_eq (root ++ p) (root ++ q)) (bytes_eq p q) refl refl
  where
    by : (a b : Bool) → bytes_eq (root ++ p) (root ++ q) ≡ a → bytes_eq p q ≡ b → a ≡ b
    by true true long short = refl
    by false false long short = refl
    by true false long short =
        absurd (true≢false (sym ((bytes_eq-Decides p q).1
        (append_cancel_left root p q ((bytes_eq-Decides (root ++ p) (root ++ q)).0 long))) ∙ short))
    by false true long short =
        absurd (true≢false (sym ((bytes_eq-Decides (root ++ p) (root ++ q)).1
        (ap (λ x. root ++ x) ((bytes_eq-Decides p q).0 short))) ∙ long))

and_false : (b : Bool) → (b && false) ≡ false
and_false true = refl
and_false false = refl

-- digits have no `/`, so they are one part
digits_split : (ds : List ℕ) → list_all is_ascii_digit ds ≡ true → slice_split (λ b. b == 47) ds ≡ ds ∷ []
digits_split [] h = refl
digits_split (d ∷ ds) h =
    let rest = digits_split ds (all_rest d ds h) in
    slice_split-cons_no (λ b. b == 47) d ds (no_slash d (all_first d ds h)) ∙ ap (onto_first d) rest
  where
    all_first : (d : ℕ) (ds : List ℕ) → list_all is_ascii_digit (d ∷ ds) ≡ true → is_ascii_digit d ≡ true
    all_first d ds h = search (h, rules)

    all_rest : (d : ℕ) (ds : List ℕ) → list_all is_ascii_digit (d ∷ ds) ≡ true
        → list_all is_ascii_digit ds ≡ true
    all_rest d ds h = search (h, rules)

    no_slash : (d : ℕ) → is_ascii_digit d ≡ true → (d == 47) ≡ false
    no_slash d h = search (h, rules)

-- the name of a temporary file is one part
pub temp_split : (n : ℕ) → n < 2 ^ 64 → slice_split (λ b. b == 47) (temp_name n) ≡ temp_name n ∷ []
unfolding temp_name
temp_split n h =
    let one = digits_split (decimal n) (digits_decimal digits n h) in
    ap (λ parts. onto_first 46
    (onto_first 115 (onto_first 99
    (onto_first 99 (onto_first 97
    (onto_first 99 (onto_first 104
    (onto_first 101 (onto_first 116 (onto_first 109 (onto_first 112 parts))))))))))) one

pub begins_so : (n : ℕ) → is_temporary (temp_name n) ≡ true
unfolding is_temporary temp_name
begins_so n = refl

-- so it is no key
pub temp_is_none : (n : ℕ) → n < 2 ^ 64 → is_key (temp_name n) ≡ false
unfolding is_key
temp_is_none n h =
    ap are_key (temp_split n h) ∙ (ap (λ b. list_all is_plain (temp_name n ∷ []) && not b) (begins_so n)
    ∙ and_false (list_all is_plain (temp_name n ∷ [])))

-- and no key has it
pub temp_differs : (n : ℕ) (k : List ℕ) → n < 2 ^ 64 → is_key k ≡ true → bytes_eq k (temp_name n) ≡ false
temp_differs n k h is = by (bytes_eq k (temp_name n)) refl
  where
    by : (b : Bool) → bytes_eq k (temp_name n) ≡ b → b ≡ false
    by false other = refl
    by true same = absurd (true≢false
        (sym is ∙ (ap is_key ((bytes_eq-Decides k (temp_name n)).0 same) ∙ temp_is_none n h)))

number_of : (n m : ℕ) → n < 2 ^ 64 → m < 2 ^ 64 → temp_name n ≡ temp_name m → n ≡ m
unfolding temp_name
number_of n m h g same =
    let ends : decimal n ≡ decimal m = append_cancel_left (codes ".sccachetmp") (decimal n) (decimal m) same
    in
    sym (digits_value-decimal digits n h) ∙ (ap (digits_value 10) ends ∙ digits_value-decimal digits m g)

-- temporary files of different numbers have different paths
pub temps_differ : (root : List ℕ) (n m : ℕ) → n < 2 ^ 64 → m < 2 ^ 64 → ¬ (n ≡ m)
    → bytes_eq (root ++ temp_name n) (root ++ temp_name m) ≡ false
temps_differ root n m h g apart = by (bytes_eq (temp_name n) (temp_name m)) refl
  where
    by : (b : Bool) → bytes_eq (temp_name n) (temp_name m) ≡ b → bytes_eq (root ++ temp_name n)
        (root ++ temp_name m) ≡ false
    by false other = same_front root (temp_name n) (temp_name m) ∙ other
    by true same = absurd (apart (number_of n m h g ((bytes_eq-Decides (temp_name n) (temp_name m)).0 same)))

-- ---- the temporary files of inserts

pub insert_split : (n : ℕ) → n < 2 ^ 64 → slice_split (λ b. b == 47) (insert_name n) ≡ insert_name n ∷ []
unfolding insert_name
insert_split n h =
    let one = digits_split (decimal n) (digits_decimal digits n h) in
    ap (λ parts. onto_first 46
    (onto_first 115 (onto_first 99
    (onto_first 99 (onto_first 97
    (onto_first 99 (onto_first 104
    (onto_first 101 (onto_first 116 (onto_first 109 (onto_first 112 (onto_first 45 parts)))))))))))) one

pub insert_begins_so : (n : ℕ) → is_temporary (insert_name n) ≡ true
unfolding is_temporary insert_name
insert_begins_so n = refl

-- so it is no key
pub insert_is_none : (n : ℕ) → n < 2 ^ 64 → is_key (insert_name n) ≡ false
unfolding is_key
insert_is_none n h =
    ap are_key (insert_split n h)
    ∙ (ap (λ b. list_all is_plain (insert_name n ∷ []) && not b) (insert_begins_so n)
    ∙ and_false (list_all is_plain (insert_name n ∷ [])))

-- what is no key differs from each
pub none_differs : (name k : List ℕ) → is_key name ≡ false → is_key k ≡ true → bytes_eq k name ≡ false
none_differs name k none is = by (bytes_eq k name) refl
  where
    by : (b : Bool) → bytes_eq k name ≡ b → b ≡ false
    by false other = refl
    by true same = absurd (true≢false (sym is ∙ (ap is_key ((bytes_eq-Decides k name).0 same) ∙ none)))

insert_number_of : (n m : ℕ) → n < 2 ^ 64 → m < 2 ^ 64 → insert_name n ≡ insert_name m → n ≡ m
unfolding insert_name
insert_number_of n m h g same =
    let ends : decimal n ≡ decimal m = append_cancel_left (codes ".sccachetmp-") (decimal n) (decimal m) same
    in
    sym (digits_value-decimal digits n h) ∙ (ap (digits_value 10) ends ∙ digits_value-decimal digits m g)

-- those of different numbers have different paths
pub inserts_differ : (root : List ℕ) (n m : ℕ) → n < 2 ^ 64 → m < 2 ^ 64 → ¬ (n ≡ m)
    → bytes_eq (root ++ insert_name n) (root ++ insert_name m) ≡ false
inserts_differ root n m h g apart = by (bytes_eq (insert_name n) (insert_name m)) refl
  where
    by : (b : Bool) → bytes_eq (insert_name n) (insert_name m) ≡ b
        → bytes_eq (root ++ insert_name n) (root ++ insert_name m) ≡ false
    by false other = same_front root (insert_name n) (insert_name m) ∙ other
    by true same = absurd (apart (insert_number_of n m h g
        ((bytes_eq-Decides (insert_name n) (insert_name m)).0 same)))

kinds_apart : (n m : ℕ) → n < 2 ^ 64 → temp_name n ≡ insert_name m → ⊥
unfolding temp_name insert_name
kinds_apart n m h same =
    let ends : decimal n ≡ 45 ∷ decimal m =
    append_cancel_left (codes ".sccachetmp") (decimal n) (45 ∷ decimal m) same in
    let all : list_all is_ascii_digit (45 ∷ decimal m) ≡ true =
    subst (λ l. list_all is_ascii_digit l ≡ true) ends (digits_decimal digits n h) in
    true≢false (sym all)

-- and none has that of a reservation's
pub kinds_differ : (root : List ℕ) (n m : ℕ) → n < 2 ^ 64
    → bytes_eq (root ++ temp_name n) (root ++ insert_name m) ≡ false
kinds_differ root n m h = by (bytes_eq (temp_name n) (insert_name m)) refl
  where
    by : (b : Bool) → bytes_eq (temp_name n) (insert_name m) ≡ b
        → bytes_eq (root ++ temp_name n) (root ++ insert_name m) ≡ false
    by false other = same_front root (temp_name n) (insert_name m) ∙ other
    by true same = absurd (kinds_apart n m h ((bytes_eq-Decides (temp_name n) (insert_name m)).0 same))

-- both lie under a root, and are no key's

pub temp_keyless : (root from : List ℕ) (n : ℕ) → from ≡ root ++ temp_name n → n < 2 ^ 64 → IsKeyless root from
temp_keyless root from n is below = (temp_name n, temp_is_none n below, is)

pub insert_keyless : (root from : List ℕ) (n : ℕ) → from ≡ root ++ insert_name n → n < 2 ^ 64
    → IsKeyless root from
insert_keyless root from n is below = (insert_name n, insert_is_none n below, is)

-- an answer that names such a path
pub named_keyless : {T E : Type 0} (result : Result T E) (of : T → List ℕ) (root from : List ℕ)
    → IfOk result (λ t. of t ≡ from) → IsKeyless root from → IfOk result (λ t. IsKeyless root (of t))
named_keyless (Ok t) of root from is keyless = subst (IsKeyless root) (sym is) keyless
named_keyless (Err e) of root from is keyless = tt
