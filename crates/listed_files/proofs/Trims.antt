-- What trimming leaves of entries.
use Rattle.std.proofs.Common.{true≢false, is_some, Option, Some, None, ◌≡◌, ℕ, ◌+◌, ◌-◌, ◌<◌, ◌≤◌, Bool, true}
use Rattle.std.proofs.Common.{inl, inr, unwrap_or, Result, Ok, Err, OnOk, IfErr, IsSome}
use Rattle.std.proofs.Common.{false, cond, List, [], ◌∷◌, ◌++◌, refl, sym, ap, subst, ◌∙◌, arith, rules}
use Rattle.std.proofs.lemmas.List.Sums.{sum_by-append, sum_by-cons}
use Rattle.std.specs.List.{IsDistinct}
use Rattle.std.specs.Map.{lookup, lookup_entry, keys_of, remove_entry}
use Rattle.std.specs.Option.{option_map_or}
use Rattle.std.specs.Cmp.Lexicographic.{nat_list_eq_equiv}
use Rattle.std.proofs.lemmas.Map.{lookup-remove_entry}
use Rattle.std.proofs.lemmas.Slice.Eq.{bytes_eq-Decides}
use Rattle.lru_metered.proofs.Lookups.{others-none, look_up, total-hit}
use Rattle.lru_metered.specs.Fault.{refused_pair, IsOverflow}
use Rattle.lru_metered.specs.declared.fault.InsertFault.{InsertFault}
use Rattle.lru_metered.specs.declared.fault.InsertFault.TheVariants.{Overflow, Memory}
use Rattle.folders.proofs.Lookups.{itself}
use Rattle.std.specs.Str.{bytes_eq}
use Rattle.lru_metered.specs.Metered.{Metered, with_pairs, inserted, Overflows}
use Rattle.lru_metered.proofs.Trims.{trim-fits}
use Rattle.listed_files.specs.Entries.{Entries, Listed, total, sizes, trim, promoted_key, IsEnd}

-- one more entry adds its size
pub total_more : (es : Entries) (k : List ℕ) (n : ℕ) → total (es ++ (k, n) ∷ []) ≡ total es + n
total_more es k n =
    omega (
      arith,
      sum_by-append (λ (e : List ℕ × ℕ). e.1) es ((k, n) ∷ []),
      sum_by-cons (λ (e : List ℕ × ℕ). e.1) (k, n) [],
    )

-- entries that fit with one more stay
pub push_fits : (es : Entries) (k : List ℕ) (n capacity : ℕ) → total es + n ≤ capacity
    → trim capacity (es ++ (k, n) ∷ []) ≡ es ++ (k, n) ∷ []
push_fits es k n capacity fits =
    trim-fits sizes capacity (es ++ (k, n) ∷ []) (omega (arith, fits, total_more es k n))

pub trim_fits : (es : Entries) (limit : ℕ) → total es ≤ limit → trim limit es ≡ es
trim_fits es limit fits = trim-fits sizes limit es fits

-- an entry that goes was not to stay
pub trim_more : (e : List ℕ × ℕ) (es : Entries) (limit : ℕ) → limit < total (e ∷ es)
    → trim limit (e ∷ es) ≡ trim limit es
trim_more e es limit over = search rules

-- what the list of sizes is once a key is listed as the most recent
pub relisted : {M : Type 0} (before after : Metered (List ℕ) ℕ M) (now : Listed) (k : List ℕ) (n : ℕ)
    → record { capacity = before.capacity; entries = before.pairs } ≡ now
    → after ≡ with_pairs before (inserted sizes bytes_eq before.capacity before.pairs k n)
    → total (remove_entry (bytes_eq k) now.entries) + n ≤ now.capacity
    → record { capacity = after.capacity; entries = after.pairs } ≡ record now {
      entries = remove_entry (bytes_eq k) now.entries ++
          (k, n) ∷ [];
    }
relisted before after now k n view is =
    let P : Listed → Type 0 = λ l. total (remove_entry (bytes_eq k) l.entries) + n ≤ l.capacity
    → (let made : Listed = record { capacity = after.capacity; entries = after.pairs }
    in made ≡ record l { entries = remove_entry (bytes_eq k) l.entries ++ (k, n) ∷ [] }) in
    subst P view (λ fits.
    ap (λ c. record { capacity = c.capacity; entries = c.pairs }) is
    ∙ ap (λ es. record { capacity = before.capacity; entries = es })
    (push_fits (remove_entry (bytes_eq k) before.pairs) k n before.capacity fits))

-- where it was not there before
pub pushed : {M : Type 0} (before after : Metered (List ℕ) ℕ M) (now : Listed) (k : List ℕ) (n : ℕ)
    → record { capacity = before.capacity; entries = before.pairs } ≡ now
    → after ≡ with_pairs before (inserted sizes bytes_eq before.capacity before.pairs k n)
    → lookup (bytes_eq k) now.entries ≡ None → total now.entries + n ≤ now.capacity
    → record { capacity = after.capacity; entries = after.pairs } ≡ record now {
      entries = now.entries ++
          (k, n) ∷ [];
    }
pushed before after now k n view is absent fits =
    let same = others-none (bytes_eq k) now.entries absent in
    relisted before after now k n view is (omega (arith, fits, ap total same))
    ∙ ap (λ es. record now { entries = es ++ (k, n) ∷ [] }) same

-- where it was, no memory is wanted
pub arrived : {M : Type 0} (result : Result (Option ℕ) (InsertFault (List ℕ) ℕ))
    (before after : Metered (List ℕ) ℕ M) (now : Listed) (k : List ℕ) (n : ℕ)
    → record { capacity = before.capacity; entries = before.pairs } ≡ now
    → OnOk result (after ≡ with_pairs before (inserted sizes bytes_eq before.capacity before.pairs k n))
    → (result ≡ Err (Overflow k n) → Overflows sizes bytes_eq before.pairs k n)
    → IfErr result (λ e. refused_pair e ≡ (k, n))
    → IfErr result (λ e. ¬ (IsOverflow e) → lookup (bytes_eq k) before.pairs ≡ None)
    → IsSome (lookup (bytes_eq k) now.entries)
    → total (remove_entry (bytes_eq k) now.entries) + n ≤ now.capacity
    → now.capacity ≤ 18446744073709551615
    → record { capacity = after.capacity; entries = after.pairs } ≡ record now {
      entries = remove_entry (bytes_eq k) now.entries ++
          (k, n) ∷ [];
    }
arrived (Ok x) before after now k n view is overflow pair absent some fits range =
    relisted before after now k n view is fits
arrived (Err (Overflow a b)) before after now k n view is overflow pair absent some fits range =
    let over = overflow (ap (λ (p : List ℕ × ℕ). Err (Overflow p.0 p.1)) pair) in
    let same : total (remove_entry (bytes_eq k) before.pairs) ≡ total (remove_entry (bytes_eq k) now.entries) =
    ap (λ (l : Listed). total (remove_entry (bytes_eq k) l.entries)) view in
    absurd (omega (arith, over, same, fits, range))
arrived (Err (Memory a b)) before after now k n view is overflow pair absent some fits range =
    absurd (true≢false (sym (subst (λ o. IsSome o)
    (ap (λ (l : Listed). lookup (bytes_eq k) l.entries) (sym view) ∙ absent (λ b. b)) some)))

-- the sum of the sizes beside that of a key
pub beside_some : (key : List ℕ) (n whole : ℕ) (es : Entries) → whole ≡ total es
    → lookup (bytes_eq key) es ≡ Some n → (n ≤ whole) × (whole - n ≡ total (remove_entry (bytes_eq key) es))
beside_some key n whole es is found = elim (look_up (bytes_eq key) es) [
  | inl m ↦ absurd (true≢false (sym (ap is_some (sym m.value ∙ found))))
  | inr h ↦
      let own : h.pair.1 ≡ n = ap (λ o. unwrap_or o n) (sym h.value ∙ found) in
      let sum = total-hit (bytes_eq key) sizes es h in (
        omega (arith, is, own, sum),
        omega (arith, is, own, sum),
      )
]

-- a key that was pushed is taken out again
pub unpushed : (es : Entries) (k : List ℕ) (n : ℕ) → lookup (bytes_eq k) es ≡ None
    → remove_entry (bytes_eq k) (es ++ (k, n) ∷ []) ≡ es
unpushed [] k n absent = ap (λ b. cond b [] ((k, n) ∷ [])) (itself k)
unpushed (e ∷ es) k n absent = by (bytes_eq k e.0) absent (unpushed es k n)
  where
    by : (b : Bool) → cond b (Some e.1) (lookup (bytes_eq k) es) ≡ None
        → (lookup (bytes_eq k) es ≡ None → remove_entry (bytes_eq k) (es ++ (k, n) ∷ []) ≡ es)
        → cond b (es ++ (k, n) ∷ []) (e ∷ remove_entry (bytes_eq k) (es ++ (k, n) ∷ [])) ≡ e ∷ es
    by true some rest = absurd (true≢false (ap is_some some))
    by false none rest = ap (λ l. e ∷ l) (rest none)

-- a key at the end is listed
pub pushed_there : (es : Entries) (k : List ℕ) (n : ℕ) → IsSome (lookup (bytes_eq k) (es ++ (k, n) ∷ []))
pushed_there [] k n = ap (λ b. is_some (cond b (Some n) None)) (itself k)
pushed_there (e ∷ es) k n = by (bytes_eq k e.0) (pushed_there es k n)
  where
    by : (b : Bool) → IsSome (lookup (bytes_eq k) (es ++ (k, n) ∷ []))
        → IsSome (cond b (Some e.1) (lookup (bytes_eq k) (es ++ (k, n) ∷ [])))
    by true rest = refl
    by false rest = rest

-- a key that is out of a list whose keys differ is not in it
pub unlisted : (key : List ℕ) (es : Entries) → IsDistinct bytes_eq (keys_of es)
    → lookup (bytes_eq key) (remove_entry (bytes_eq key) es) ≡ None
unlisted key es distinct =
    lookup-remove_entry nat_list_eq_equiv (bytes_eq key)
    (λ x y is. ap (λ k. bytes_eq k y) ((bytes_eq-Decides key x).0 is)) key es distinct
    ∙ ap (λ b. cond b None (lookup (bytes_eq key) es)) (itself key)

past : (key : List ℕ) (gone rest : Entries) → lookup (bytes_eq key) (gone ++ rest) ≡ None
    → lookup (bytes_eq key) rest ≡ None
past key [] rest none = none
past key (e ∷ gone) rest none = one (bytes_eq key e.0) (past key gone rest) none
  where
    one : (b : Bool) → (lookup (bytes_eq key) (gone ++ rest) ≡ None → lookup (bytes_eq key) rest ≡ None)
        → cond b (Some e.1) (lookup (bytes_eq key) (gone ++ rest)) ≡ None → lookup (bytes_eq key) rest ≡ None
    one true next some = absurd (true≢false (ap is_some some))
    one false next nothing = next nothing

-- nor in an end of the list
pub absent_end : (key : List ℕ) (es rest : Entries) → IsEnd rest es → lookup (bytes_eq key) es ≡ None
    → lookup (bytes_eq key) rest ≡ None
absent_end key es rest end absent = past key end.0 rest (ap (lookup (bytes_eq key)) (sym end.1) ∙ absent)

-- taking out a key that is not there leaves the list
pub none_out : (key key_too : List ℕ) (es es_too : Entries) (b : Bool) → key ≡ key_too → es ≡ es_too
    → b ≡ is_some (lookup (bytes_eq key) es) → b ≡ false → remove_entry (bytes_eq key_too) es_too ≡ es_too
none_out key key_too es es_too b same list is off =
    others-none (bytes_eq key_too) es_too
    (absent (lookup (bytes_eq key_too) es_too)
    (sym (is ∙ (λ i. is_some (lookup (bytes_eq (same i)) (list i)))) ∙ off))
  where
    absent : (o : Option ℕ) → is_some o ≡ false → o ≡ None
    absent None h = refl
    absent (Some n) h = absurd (true≢false h)

-- nor does making it the most recent
pub none_promoted : (key key_too : List ℕ) (es es_too : Entries) (b : Bool) → key ≡ key_too → es ≡ es_too
    → b ≡ is_some (lookup (bytes_eq key) es) → b ≡ false → promoted_key key_too es_too ≡ es_too
none_promoted key key_too es es_too b same list is off =
    ap (λ o. option_map_or (λ p. remove_entry (bytes_eq key_too) es_too ++ p ∷ []) o es_too)
    (absent es_too (sym (is ∙ (λ i. is_some (lookup (bytes_eq (same i)) (list i)))) ∙ off))
  where
    absent : (xs : Entries) → is_some (lookup (bytes_eq key_too) xs) ≡ false
        → lookup_entry (bytes_eq key_too) xs ≡ None
    absent [] h = refl
    absent (x ∷ xs) h = by (bytes_eq key_too x.0) h (absent xs)
      where
        by : (c : Bool) → is_some (cond c (Some x.1) (lookup (bytes_eq key_too) xs)) ≡ false
            → (is_some (lookup (bytes_eq key_too) xs) ≡ false → lookup_entry (bytes_eq key_too) xs ≡ None)
            → cond c (Some x) (lookup_entry (bytes_eq key_too) xs) ≡ None
        by true some rest = absurd (true≢false some)
        by false none rest = rest none
