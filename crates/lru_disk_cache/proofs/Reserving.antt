-- Open reservations, and what stands behind each call on them.
use Rattle.std.proofs.Common.{◌≡◌, ℕ, ◌+◌, ◌<◌, ◌≤◌, ◌^◌, ◌==◌, ◌&&◌, ◌||◌, ◌⊎◌, Bool, true, false, cond, not}
use Rattle.std.proofs.Common.{is_some, List, [], ◌∷◌, ◌++◌, Option, Some, None, Result, Ok, Err, IfErr}
use Rattle.std.proofs.Common.{OnOk, inl, inr, refl, sym, ap, subst, ◌∙◌, true≢false, append_assoc, arith}
use Rattle.std.proofs.lemmas.Bool.{eqb-true, eqb-false}
use Rattle.std.proofs.lemmas.List.Sums.{sum_by-append, sum_by-cons}
use Rattle.std.proofs.lemmas.Slice.Eq.{bytes_eq-Decides}
use Rattle.std.proofs.lemmas.List.Splits.{slice_split-cons_yes, slice_split-cons_no}
use Rattle.std.specs.List.{AllByRecursion, onto_first, slice_split}
use Rattle.std.specs.Map.{lookup}
use Rattle.std.specs.Str.{bytes_eq}
use Rattle.folders.specs.Files.{Files, file_at, front}
use Rattle.folders.specs.Failures.{Failures, removal_failed}
use Rattle.folders.specs.Held.{Held, Holds, Lacks, Became}
use Rattle.dist_types.specs.declared.folder_fault.FolderFault.{FolderFault}
use Rattle.dist_types.specs.declared.folder_fault.FolderFault.TheVariants.{Missing, Failed, Memory}
use Rattle.dist_types.specs.declared.cache_error.Error.{Error}
use Rattle.dist_types.specs.declared.cache_error.Error.TheVariants.{FileTooLarge, FileNotInCache, Io}
use Rattle.dist_types.specs.declared.cache_error.Error.TheVariants.{PendingSpace, BadKey, NotPending}
use Rattle.dist_types.specs.declared.cache_error.Error.TheVariants.{WrongDigest, WriterRefused}
use Rattle.dist_types.specs.declared.cache_error.Error.TheVariants.{Memory as NoMemory}
use Rattle.listed_files.specs.Key.{is_key, is_temporary, last_behind, names_temporary, temp_name}
use Rattle.listed_files.specs.Key.{insert_name}
use Rattle.listed_files.specs.Entries.{Entries}
use Rattle.listed_files.specs.Disk.{AllKeys, ButThese}
use Rattle.folders.specs.Changed.{ButAt, Counts}
use Rattle.lru_disk_cache.specs.Reserved.{Reservation, AddEntry, IsReserved, AllReserved, AllSure}
use Rattle.lru_disk_cache.specs.Reserved.{KeepsReserved, NumbersDiffer, has, held_size, is_of, is_pending}
use Rattle.lru_disk_cache.specs.Reserved.{is_sure, temp_of, without_number, doubted, unsure}
use Rattle.lru_disk_cache.specs.Store.{Disk, IsStore}
use Rattle.lru_disk_cache.specs.Adding.{entry_path, abandoned, abandon_answer, WriteFails}
use Rattle.listed_files.specs.Calls.{CallFails}
use Rattle.lru_disk_cache.specs.Adding.{TempMissing}
use Rattle.lru_disk_cache.specs.Adding.{AbandonFails}
use Rattle.listed_files.specs.Told.{ToldClosed}
use Rattle.folders.proofs.Became.{became_map, became_same}
use Rattle.listed_files.proofs.Calls.{StaysThere}
use Rattle.listed_files.proofs.Fills.{temp_avoids, keeps_avoided, stands_kept}
use Rattle.listed_files.proofs.Paths.{same_front, temp_differs, temps_differ, temp_split, begins_so}
use Rattle.listed_files.proofs.Paths.{kinds_differ}
use Rattle.folders.proofs.Distinct.{apart}

-- ---- the path of a temporary file is none else

pub key_apart : (root key : List ℕ) (r : Reservation) → is_key key ≡ true → IsReserved root r
    → bytes_eq (root ++ key) r.temp ≡ false
key_apart root key r fit h =
    ap (bytes_eq (root ++ key)) h.temp
    ∙ (same_front root key (temp_name r.number) ∙ temp_differs r.number key h.number fit)

other_number : (n m : ℕ) → (m == n) ≡ false → ¬ (n ≡ m)
other_number n m other same = eqb-false m n other (sym same)

number_apart : (root : List ℕ) (n : ℕ) (r : Reservation) → n < 2 ^ 64 → (r.number == n) ≡ false
    → IsReserved root r → bytes_eq (root ++ temp_name n) r.temp ≡ false
number_apart root n r below other h =
    ap (bytes_eq (root ++ temp_name n)) h.temp ∙ temps_differ root n r.number below h.number
    (other_number n r.number other)

none_first : (a b : Bool) → (a || b) ≡ false → (a ≡ false) × (b ≡ false)
none_first false false h = (refl, refl)
none_first false true h = absurd (true≢false h)
none_first true false h = absurd (true≢false h)
none_first true true h = absurd (true≢false h)

module _ (root from path key : List ℕ) (es : Entries) (n : ℕ) (f g : Files) where
  these_each : (ps : List Reservation) → from ≡ root ++ temp_name n → n < 2 ^ 64 → has n ps ≡ false
      → path ≡ root ++ key → is_key key ≡ true → AllKeys es → AllReserved root ps
      → ButThese root from path es f g → KeepsReserved ps f g
  these_each [] from_is below free path_is fit keys all but = tt
  these_each (r ∷ rs) from_is below free path_is fit keys all but =
      let two = none_first (r.number == n) (has n rs) free in (
        but r.temp (ap (λ p. bytes_eq p r.temp) from_is ∙ number_apart root n r below two.0 all.0)
            (ap (λ p. bytes_eq p r.temp) path_is ∙ key_apart root key r fit all.0)
            (temp_avoids root r.temp r.number es all.0.number all.0.temp keys),
        these_each rs from_is below two.1 path_is fit keys all.1 but,
      )

  temp_each : (ps : List Reservation) → from ≡ root ++ temp_name n → n < 2 ^ 64 → has n ps ≡ false
      → AllKeys es → AllReserved root ps → ButThese root from from es f g → KeepsReserved ps f g
  temp_each [] from_is below free keys all but = tt
  temp_each (r ∷ rs) from_is below free keys all but =
      let two = none_first (r.number == n) (has n rs) free in
      let away = ap (λ p. bytes_eq p r.temp) from_is ∙ number_apart root n r below two.0 all.0 in (
        but r.temp away away (temp_avoids root r.temp r.number es all.0.number all.0.temp keys),
        temp_each rs from_is below two.1 keys all.1 but,
      )

  at_each : (ps : List Reservation) → from ≡ root ++ temp_name n → n < 2 ^ 64 → has n ps ≡ false
      → AllReserved root ps → ButAt from f g → KeepsReserved ps f g
  at_each [] from_is below free all but = tt
  at_each (r ∷ rs) from_is below free all but =
      let two = none_first (r.number == n) (has n rs) free in (
        but r.temp (ap (λ p. bytes_eq p r.temp) from_is ∙ number_apart root n r below two.0 all.0),
        at_each rs from_is below two.1 all.1 but,
      )

insert_each : (root from path key : List ℕ) (es : Entries) (n : ℕ) (f g : Files) (ps : List Reservation)
    → from ≡ root ++ insert_name n → path ≡ root ++ key → is_key key ≡ true → AllKeys es → AllReserved root ps
    → ButThese root from path es f g → KeepsReserved ps f g
insert_each root from path key es n f g [] from_is path_is fit keys all but = tt
insert_each root from path key es n f g (r ∷ rs) from_is path_is fit keys all but = (
  but r.temp
      (ap (λ p. bytes_eq p r.temp) from_is ∙ (ap (bytes_eq (root ++ insert_name n)) all.0.temp
      ∙ apart (root ++ temp_name r.number) (root ++ insert_name n) (kinds_differ root r.number n all.0.number)))
      (ap (λ p. bytes_eq p r.temp) path_is ∙ key_apart root key r fit all.0)
      (temp_avoids root r.temp r.number es all.0.number all.0.temp keys),
  insert_each root from path key es n f g rs from_is path_is fit keys all.1 but,
)

-- an insert keeps the reservations' files
pub insert_reserved : (root from path key : List ℕ) (es : Entries) (n : ℕ) (ps : List Reservation)
    (old new : Option Files) → from ≡ root ++ insert_name n → path ≡ root ++ key → is_key key ≡ true
    → AllKeys es → AllReserved root ps → Became (ButThese root from path es) old new
    → Became (KeepsReserved ps) old new
insert_reserved root from path key es n ps old new from_is path_is fit keys all but =
    became_map (ButThese root from path es) (KeepsReserved ps) old new
    (λ f g h. insert_each root from path key es n f g ps from_is path_is fit keys all h) but

-- so a step that takes another path keeps the reservations' files
pub these_reserved : (root from path key : List ℕ) (es : Entries) (n : ℕ) (ps : List Reservation)
    (old new : Option Files) → from ≡ root ++ temp_name n → n < 2 ^ 64 → has n ps ≡ false → path ≡ root ++ key
    → is_key key ≡ true → AllKeys es → AllReserved root ps → Became (ButThese root from path es) old new
    → Became (KeepsReserved ps) old new
these_reserved root from path key es n ps old new from_is below free path_is fit keys all but =
    became_map (ButThese root from path es) (KeepsReserved ps) old new
    (λ f g h. these_each root from path key es n f g ps from_is below free path_is fit keys all h) but

pub temp_reserved : (root from : List ℕ) (es : Entries) (n : ℕ) (ps : List Reservation)
    (old new : Option Files) → from ≡ root ++ temp_name n → n < 2 ^ 64 → has n ps ≡ false → AllKeys es
    → AllReserved root ps → Became (ButThese root from from es) old new → Became (KeepsReserved ps) old new
temp_reserved root from es n ps old new from_is below free keys all but =
    became_map (ButThese root from from es) (KeepsReserved ps) old new
    (λ f g h. temp_each root from from [] es n f g ps from_is below free keys all h) but

pub at_reserved : (root from : List ℕ) (n : ℕ) (ps : List Reservation) (old new : Option Files)
    → from ≡ root ++ temp_name n → n < 2 ^ 64 → has n ps ≡ false → AllReserved root ps
    → Became (ButAt from) old new → Became (KeepsReserved ps) old new
at_reserved root from n ps old new from_is below free all but =
    became_map (ButAt from) (KeepsReserved ps) old new
    (λ f g h. at_each root from from [] [] n f g ps from_is below free all h) but

key_each : (root key : List ℕ) (ps : List Reservation) (f g : Files) → is_key key ≡ true → AllReserved root ps
    → ButAt (root ++ key) f g → KeepsReserved ps f g
key_each root key [] f g fit all but = tt
key_each root key (r ∷ rs) f g fit all but =
    (but r.temp (key_apart root key r fit all.0), key_each root key rs f g fit all.1 but)

pub key_reserved : (root key : List ℕ) (ps : List Reservation) (old new : Option Files) → is_key key ≡ true
    → AllReserved root ps → Became (ButAt (root ++ key)) old new → Became (KeepsReserved ps) old new
key_reserved root key ps old new fit all but =
    became_map (ButAt (root ++ key)) (KeepsReserved ps) old new (λ f g h. key_each root key ps f g fit all h)
    but

-- a key that is listed is one
pub listed_key : (key : List ℕ) (es : Entries) → AllKeys es → is_some (lookup (bytes_eq key) es) ≡ true
    → is_key key ≡ true
listed_key key [] keys listed = absurd (true≢false (sym listed))
listed_key key (e ∷ es) keys listed = by (bytes_eq key e.0) refl listed (listed_key key es keys.1)
  where
    by : (b : Bool) → bytes_eq key e.0 ≡ b → is_some (cond b (Some e.1) (lookup (bytes_eq key) es)) ≡ true
        → (is_some (lookup (bytes_eq key) es) ≡ true → is_key key ≡ true) → is_key key ≡ true
    by true same found rest = ap is_key ((bytes_eq-Decides key e.0).0 same) ∙ keys.0
    by false other found rest = rest found

-- ---- one reservation less

module _ (P : Reservation → Type 0) (n : ℕ) where
  pub all_without : (ps : List Reservation) → AllByRecursion P ps → AllByRecursion P (without_number n ps)
  all_without [] h = tt
  all_without (r ∷ rs) h =
      elim (r.number == n) as (λ b.
      AllByRecursion P (cond (not b) (r ∷ without_number n rs) (without_number n rs)))
      [ true ↦ all_without rs h.1 | false ↦ (h.0, all_without rs h.1) ]

pub none_without : (n : ℕ) (ps : List Reservation) → has n (without_number n ps) ≡ false
none_without n [] = refl
none_without n (r ∷ rs) = by (r.number == n) refl (none_without n rs)
  where
    by : (b : Bool) → (r.number == n) ≡ b → has n (without_number n rs) ≡ false
        → has n (cond (not b) (r ∷ without_number n rs) (without_number n rs)) ≡ false
    by true is rest = rest
    by false is rest = ap (λ b. b || has n (without_number n rs)) is ∙ rest

fewer_has : (n m : ℕ) (ps : List Reservation) → has m ps ≡ false → has m (without_number n ps) ≡ false
fewer_has n m [] h = refl
fewer_has n m (r ∷ rs) h = let two = none_first (r.number == m) (has m rs) h in by (r.number == n) two.0
    (fewer_has n m rs two.1)
  where
    by : (b : Bool) → (r.number == m) ≡ false → has m (without_number n rs) ≡ false
        → has m (cond (not b) (r ∷ without_number n rs) (without_number n rs)) ≡ false
    by true other rest = rest
    by false other rest = ap (λ b. b || has m (without_number n rs)) other ∙ rest

pub differ_without : (n : ℕ) (ps : List Reservation) → NumbersDiffer ps → NumbersDiffer (without_number n ps)
differ_without n [] h = tt
differ_without n (r ∷ rs) h =
    elim (r.number == n) as (λ b.
    NumbersDiffer (cond (not b) (r ∷ without_number n rs) (without_number n rs)))
    [ true ↦ differ_without n rs h.1 | false ↦ (fewer_has n r.number rs h.0, differ_without n rs h.1) ]

pub held_without : (n : ℕ) (ps : List Reservation) → held_size (without_number n ps) ≤ held_size ps
held_without n [] = omega arith
held_without n (r ∷ rs) = by (r.number == n) (held_without n rs)
  where
    by : (b : Bool) → held_size (without_number n rs) ≤ held_size rs
        → held_size (cond (not b) (r ∷ without_number n rs) (without_number n rs)) ≤ held_size (r ∷ rs)
    by true rest = omega (arith, rest, sum_by-cons (λ (x : Reservation). x.size) r rs)
    by false rest = omega (
      arith,
      rest,
      sum_by-cons (λ (x : Reservation). x.size) r rs,
      sum_by-cons (λ (x : Reservation). x.size) r (without_number n rs),
    )

-- ---- one that is not sure any more

pub unsure_reserved : (root : List ℕ) (n : ℕ) (ps : List Reservation) → AllReserved root ps
    → AllReserved root (unsure n ps)
unsure_reserved root n [] h = tt
unsure_reserved root n (r ∷ rs) h =
    (record { key = h.0.key; number = h.0.number; temp = h.0.temp }, unsure_reserved root n rs h.1)

unsure_has : (n m : ℕ) (ps : List Reservation) → has m (unsure n ps) ≡ has m ps
unsure_has n m [] = refl
unsure_has n m (r ∷ rs) = ap (λ b. (r.number == m) || b) (unsure_has n m rs)

pub unsure_differ : (n : ℕ) (ps : List Reservation) → NumbersDiffer ps → NumbersDiffer (unsure n ps)
unsure_differ n [] h = tt
unsure_differ n (r ∷ rs) h = (unsure_has n r.number rs ∙ h.0, unsure_differ n rs h.1)

pub unsure_held : (n : ℕ) (ps : List Reservation) → held_size (unsure n ps) ≡ held_size ps
unsure_held n [] = refl
unsure_held n (r ∷ rs) =
    omega (
      arith,
      unsure_held n rs,
      sum_by-cons (λ (x : Reservation). x.size) r rs,
      sum_by-cons (λ (x : Reservation). x.size) (doubted n r) (unsure n rs),
    )

both_true : (a b : Bool) → (a && b) ≡ true → (a ≡ true) × (b ≡ true)
both_true true true h = (refl, refl)
both_true true false h = absurd (true≢false (sym h))
both_true false true h = absurd (true≢false (sym h))
both_true false false h = absurd (true≢false (sym h))

-- where the files of the others are as they were
pub unsure_sure : (n : ℕ) (ps : List Reservation) (f g : Files) → AllSure f ps
    → KeepsReserved (without_number n ps) f g → AllSure g (unsure n ps)
unsure_sure n [] f g h keeps = tt
unsure_sure n (r ∷ rs) f g h keeps = by (r.number == n) refl keeps (unsure_sure n rs f g h.1)
  where
    by : (b : Bool) → (r.number == n) ≡ b
        → KeepsReserved (cond (not b) (r ∷ without_number n rs) (without_number n rs)) f g
        → (KeepsReserved (without_number n rs) f g → AllSure g (unsure n rs)) → AllSure g (unsure n (r ∷ rs))
    by true is k rest = (
      λ sure lacks. absurd (true≢false (sym (both_true r.sure (not (r.number == n)) sure).1 ∙ ap not is)),
      rest k,
    )
    by false is k rest =
        (λ sure lacks. h.0 (both_true r.sure (not (r.number == n)) sure).0 (sym k.0 ∙ lacks), rest k.1)

-- ---- one more

module _ (P : Reservation → Type 0) where
  pub all_more : (ps : List Reservation) (r : Reservation) → AllByRecursion P ps → P r
      → AllByRecursion P (ps ++ r ∷ [])
  all_more [] r h last = (last, tt)
  all_more (q ∷ qs) r h last = (h.0, all_more qs r h.1 last)

pub held_more : (ps : List Reservation) (r : Reservation) → held_size (ps ++ r ∷ []) ≡ held_size ps + r.size
held_more ps r =
    omega (
      arith,
      sum_by-append (λ (x : Reservation). x.size) ps (r ∷ []),
      sum_by-cons (λ (x : Reservation). x.size) r [],
    )

or_false : (b : Bool) → b ≡ false → (b || false) ≡ false
or_false true h = absurd (true≢false h)
or_false false h = refl

has_more : (n : ℕ) (ps : List Reservation) (r : Reservation) → has n ps ≡ false → (r.number == n) ≡ false
    → has n (ps ++ r ∷ []) ≡ false
has_more n [] r h other = or_false (r.number == n) other
has_more n (q ∷ qs) r h other =
    let two = none_first (q.number == n) (has n qs) h in
    ap (λ b. b || has n (qs ++ r ∷ [])) two.0 ∙ has_more n qs r two.1 other

turned : (n m : ℕ) → (n == m) ≡ false → (m == n) ≡ false
turned n m h = by (m == n) refl
  where
    by : (b : Bool) → (m == n) ≡ b → b ≡ false
    by false is = refl
    by true is = absurd (eqb-false n m h (sym (eqb-true m n is)))

pub differ_more : (ps : List Reservation) (r : Reservation) → NumbersDiffer ps → has r.number ps ≡ false
    → NumbersDiffer (ps ++ r ∷ [])
differ_more [] r h free = (refl, tt)
differ_more (q ∷ qs) r h free =
    let two = none_first (q.number == r.number) (has r.number qs) free in
    (has_more q.number qs r h.0 (turned q.number r.number two.0), differ_more qs r h.1 two.1)

-- ---- the reservation of an entry

parts_of : (a b c : Bool) → (a && b && c) ≡ true → (a ≡ true) × (c ≡ true)
parts_of a b c h = let two = both_true (a && b) c h in ((both_true a b two.0).0, two.1)

pub own_path : (root : List ℕ) (e : AddEntry) (r : Reservation) → is_of e r ≡ true → IsReserved root r
    → (r.temp ≡ root ++ temp_name e.number) × (e.number < 2 ^ 64) × (is_key e.key ≡ true)
own_path root e r own h =
    let two = parts_of (r.number == e.number) (r.size == e.size) (bytes_eq e.key r.key) own in
    let same : r.number ≡ e.number = eqb-true r.number e.number two.0 in (
      h.temp ∙ ap (λ n. root ++ temp_name n) same,
      subst (λ n. n < 2 ^ 64) same h.number,
      ap is_key ((bytes_eq-Decides e.key r.key).0 two.1) ∙ h.key,
    )

pub temp_found : (root t : List ℕ) (e : AddEntry) (ps : List Reservation) → AllReserved root ps
    → temp_of e ps ≡ Some t → (t ≡ root ++ temp_name e.number) × (is_pending e ps ≡ true)
    × (e.number < 2 ^ 64) × (is_key e.key ≡ true)
temp_found root t e [] all found = absurd (true≢false (sym (ap is_some found)))
temp_found root t e (r ∷ rs) all found = by (is_of e r) refl found (temp_found root t e rs all.1)
  where
    by : (b : Bool) → is_of e r ≡ b → cond b (Some r.temp) (temp_of e rs) ≡ Some t
        → (temp_of e rs ≡ Some t → (t ≡ root ++ temp_name e.number) × (is_pending e rs ≡ true)
        × (e.number < 2 ^ 64) × (is_key e.key ≡ true)) → (t ≡ root ++ temp_name e.number)
        × ((is_of e r || is_pending e rs) ≡ true) × (e.number < 2 ^ 64) × (is_key e.key ≡ true)
    by true own some rest =
        let same : r.temp ≡ t = cc in
        let own_is = own_path root e r own all.0 in
        (sym same ∙ own_is.0, ap (λ b. b || is_pending e rs) own, own_is.1, own_is.2)
    by false other some rest =
        let later = rest some in
        (later.0, ap (λ b. b || is_pending e rs) other ∙ later.1, later.2, later.3)

pub temp_none : (e : AddEntry) (ps : List Reservation) → temp_of e ps ≡ None → is_pending e ps ≡ false
temp_none e [] none = refl
temp_none e (r ∷ rs) none = by (is_of e r) refl none (temp_none e rs)
  where
    by : (b : Bool) → is_of e r ≡ b → cond b (Some r.temp) (temp_of e rs) ≡ None
        → (temp_of e rs ≡ None → is_pending e rs ≡ false) → (is_of e r || is_pending e rs) ≡ false
    by true own some rest = absurd (true≢false (ap is_some some))
    by false other some rest = ap (λ b. b || is_pending e rs) other ∙ rest some

pub sure_there : (root : List ℕ) (e : AddEntry) (ps : List Reservation) (files : Files) → AllReserved root ps
    → AllSure files ps → Lacks (root ++ temp_name e.number) files → is_sure e ps ≡ false
sure_there root e [] files all sure lacks = refl
sure_there root e (r ∷ rs) files all sure lacks = by (is_of e r) r.sure refl refl
    (sure_there root e rs files all.1 sure.1 lacks)
  where
    by : (a b : Bool) → is_of e r ≡ a → r.sure ≡ b → is_sure e rs ≡ false
        → (is_of e r && r.sure || is_sure e rs) ≡ false
    by true true own is rest = absurd (sure.0 is (ap (file_at files) (own_path root e r own all.0).0 ∙ lacks))
    by true false own is rest = (λ i. own i && is i || is_sure e rs) ∙ rest
    by false b own is rest = ap (λ a. a && r.sure || is_sure e rs) own ∙ rest

not_told : (o : Option Files) (P : Type 0) → ((f : Files) → o ≡ Some f → P) → (o ≡ None) ⊎ P
not_told None P h = inl refl
not_told (Some f) P h = inr (h f refl)

each_same : (ps : List Reservation) (f : Files) → KeepsReserved ps f f
each_same [] f = tt
each_same (r ∷ rs) f = (refl, each_same rs f)

-- where nothing changed
pub none_reserved : (ps : List Reservation) (o : Option Files) → Became (KeepsReserved ps) o o
none_reserved ps o = became_same (KeepsReserved ps) o (λ f. each_same ps f)

-- ---- the reservations behind an addition

sure_each : (root path : List ℕ) (n : ℕ) (ps : List Reservation) (f g : Files) → path ≡ root ++ temp_name n
    → n < 2 ^ 64 → AllReserved root ps → ButAt path f g → StaysThere path f g → AllSure f ps → AllSure g ps
sure_each root path n [] f g is below all but stays h = tt
sure_each root path n (r ∷ rs) f g is below all but stays h =
    (by (r.number == n) refl, sure_each root path n rs f g is below all.1 but stays h.1)
  where
    by : (b : Bool) → (r.number == n) ≡ b → r.sure ≡ true → ¬ (Lacks r.temp g)
    by true same sure =
        let here : path ≡ r.temp = is ∙ (ap (λ m. root ++ temp_name m) (sym (eqb-true r.number n same))
        ∙ sym all.0.temp) in
        subst (λ q. ¬ (Lacks q f) → ¬ (Lacks q g)) here stays (h.0 sure)
    by false other sure = λ lacks.
        h.0 sure (sym (but r.temp (ap (λ p. bytes_eq p r.temp) is ∙ number_apart root n r below other all.0))
        ∙ lacks)

into_both : (P Q : Files → Files → Type 0) (o n : Option Files) (files : Files) → Became P o n → Became Q o n
    → n ≡ Some files → (before : Files) × (o ≡ Some before) × P before files × Q before files
into_both P Q None n files p q told = let none : None ≡ Some files = sym p ∙ told
    in absurd (true≢false (sym (ap is_some none)))
into_both P Q (Some f) n files p q told =
    let one : p.0 ≡ files = let both : Some p.0 ≡ Some files = sym p.1 ∙ told in cc in
    let two : q.0 ≡ files = let both : Some q.0 ≡ Some files = sym q.1 ∙ told in cc in
    (f, refl, subst (P f) one p.2, subst (Q f) two q.2)

-- a disk stands behind bytes that were added to the file of a reservation
pub added_store : (d : Disk) (path : List ℕ) (n : ℕ) (old new : Held) → IsStore old d
    → path ≡ d.root ++ temp_name n → n < 2 ^ 64 → Became (ButAt path) old.files new.files
    → Became (StaysThere path) old.files new.files → IsStore new d
added_store d path n old new h is below but stays = record {
  stands = stands_kept d.root d.entries old new h.stands
      (keeps_avoided d.root path d.entries old.files new.files
      (temp_avoids d.root path n d.entries below is h.stands.keys) but);
  root = h.root;
  fits = h.fits;
  reserved = h.reserved;
  numbers = h.numbers;
  sure = λ files told.
      let w = into_both (ButAt path) (StaysThere path) old.files new.files files but stays told in
      sure_each d.root path n d.pending w.0 files is below h.reserved w.2 w.3 (h.sure w.0 w.1);
}

-- ---- a path whose last part is no temporary file's

pub cut : (xs t : List ℕ) → (first : List ℕ) × (more : List (List ℕ))
    × (slice_split (λ b. b == 47) (xs ++ 47 ∷ t) ≡ first ∷ (more ++ slice_split (λ b. b == 47) t))
cut [] t = ([], [], slice_split-cons_yes (λ b. b == 47) 47 t refl)
cut (x ∷ xs) t = by (x == 47) refl (cut xs t)
  where
    by : (b : Bool) → (x == 47) ≡ b → (first : List ℕ) × (more : List (List ℕ))
        × (slice_split (λ b. b == 47) (xs ++ 47 ∷ t) ≡ first ∷ (more ++ slice_split (λ b. b == 47) t))
        → (first : List ℕ) × (more : List (List ℕ))
        × (slice_split (λ b. b == 47) (x ∷ xs ++ 47 ∷ t) ≡ first ∷ (more ++ slice_split (λ b. b == 47) t))
    by true is w = (
      [],
      w.0 ∷ w.1,
      slice_split-cons_yes (λ b. b == 47) x (xs ++ 47 ∷ t) is
          ∙ ap (λ l. [] ∷ l) w.2,
    )
    by false is w = (
      x ∷ w.0,
      w.1,
      slice_split-cons_no (λ b. b == 47) x (xs ++ 47 ∷ t) is
          ∙ ap (onto_first x) w.2,
    )

pub last_is : (part : List ℕ) (more : List (List ℕ)) (t : List ℕ) → last_behind part (more ++ t ∷ []) ≡ t
last_is part [] t = refl
last_is part (m ∷ ms) t = last_is m ms t

front_named : (p : List ℕ) (n : ℕ) → n < 2 ^ 64 → names_temporary (front p ++ temp_name n) ≡ true
front_named [] n below = ap (λ parts. is_temporary (last_behind [] parts)) (temp_split n below) ∙ begins_so n
front_named (b ∷ bs) n below =
    let w = cut (b ∷ bs) (temp_name n) in
    ap names_temporary (append_assoc (b ∷ bs) (47 ∷ []) (temp_name n))
    ∙ (ap (λ parts. is_temporary (last_behind [] parts))
    (w.2 ∙ ap (λ parts. w.0 ∷ (w.1 ++ parts)) (temp_split n below))
    ∙ (ap is_temporary (last_is w.0 w.1 (temp_name n)) ∙ begins_so n))

named_apart : (path root from : List ℕ) (r : Reservation) → root ≡ front path → names_temporary from ≡ false
    → IsReserved root r → bytes_eq from r.temp ≡ false
named_apart path root from r root_is named h = by (bytes_eq from r.temp) refl
  where
    by : (b : Bool) → bytes_eq from r.temp ≡ b → b ≡ false
    by false is = refl
    by true is =
        let same : from ≡ front path ++ temp_name r.number = (bytes_eq-Decides from r.temp).0 is
        ∙ (h.temp ∙ ap (λ x. x ++ temp_name r.number) root_is) in
        absurd (true≢false (sym (front_named path r.number h.number)
        ∙ (ap names_temporary (sym same) ∙ named)))

named_each : (path root from to key : List ℕ) (es : Entries) (ps : List Reservation) (f g : Files)
    → root ≡ front path → names_temporary from ≡ false → to ≡ root ++ key → is_key key ≡ true → AllKeys es
    → AllReserved root ps → ButThese root from to es f g → KeepsReserved ps f g
named_each path root from to key es [] f g root_is named to_is fit keys all but = tt
named_each path root from to key es (r ∷ rs) f g root_is named to_is fit keys all but = (
  but r.temp (named_apart path root from r root_is named all.0) (ap (λ p. bytes_eq p r.temp) to_is
      ∙ key_apart root key r fit all.0) (temp_avoids root r.temp r.number es all.0.number all.0.temp keys),
  named_each path root from to key es rs f g root_is named to_is fit keys all.1 but,
)

-- so moving its file keeps those of the reservations
pub named_reserved : (path root from to key : List ℕ) (es : Entries) (ps : List Reservation)
    (old new : Option Files) → root ≡ front path → names_temporary from ≡ false → to ≡ root ++ key
    → is_key key ≡ true → AllKeys es → AllReserved root ps → Became (ButThese root from to es) old new
    → Became (KeepsReserved ps) old new
named_reserved path root from to key es ps old new root_is named to_is fit keys all but =
    became_map (ButThese root from to es) (KeepsReserved ps) old new
    (λ f g h. named_each path root from to key es ps f g root_is named to_is fit keys all h) but

-- ---- the answers of the calls

-- why a call on the temporary file of an entry failed
pub write_fails : {T : Type 0} (e : AddEntry) (d now : Disk) (path : List ℕ) (result : Result T Error)
    (old new : Held) → IsStore old d → now ≡ d → path ≡ entry_path d e → is_pending e d.pending ≡ true
    → IfErr result (λ x. CallFails (Lacks path) x old new) → IfErr result (λ x. WriteFails e x d now old new)
write_fails e d now path (Ok x) old new h at is pending fails = tt
write_fails e d now path (Err (Io Missing)) old new h at is pending fails =
    let lacks : Holds old (Lacks (entry_path d e)) = λ f told. ap (file_at f) (sym is) ∙ fails.1 f told in (
      not_told old.files (TempMissing e d now old new) (λ f told. (
        at,
        fails.0,
        sure_there d.root e d.pending f h.reserved (h.sure f told) (lacks f told),
        lacks,
      )),
      pending,
    )
write_fails e d now path (Err (Io Failed)) old new h at is pending fails = (fails, pending)
write_fails e d now path (Err (Io Memory)) old new h at is pending fails = (fails, pending)
write_fails e d now path (Err NoMemory) old new h at is pending fails = pending
write_fails e d now path (Err BadKey) old new h at is pending fails = absurd fails
write_fails e d now path (Err FileTooLarge) old new h at is pending fails = absurd fails
write_fails e d now path (Err FileNotInCache) old new h at is pending fails = absurd fails
write_fails e d now path (Err PendingSpace) old new h at is pending fails = absurd fails
write_fails e d now path (Err NotPending) old new h at is pending fails = absurd fails
write_fails e d now path (Err WrongDigest) old new h at is pending fails = absurd fails
write_fails e d now path (Err WriterRefused) old new h at is pending fails = absurd fails

pub closed_ok : (P : Type 0) (answer : Result (Unit {0}) FolderFault)
    (result : Result (Unit {0}) (Error × Option AddEntry)) → result ≡ abandon_answer answer → OnOk answer P
    → OnOk result P
closed_ok P (Ok x) result is h = subst (λ r. OnOk r P) (sym is) h
closed_ok P (Err fault) result is h = subst (λ r. OnOk r P) (sym is) tt

pub closed_fails : (entry : AddEntry) (d e : Disk) (answer : Result (Unit {0}) FolderFault)
    (result : Result (Unit {0}) (Error × Option AddEntry)) (old new : Held) → result ≡ abandon_answer answer
    → ¬ (answer ≡ Err Missing) → Counts answer old new → e ≡ abandoned d entry
    → is_pending entry d.pending ≡ true → IfErr result (λ x. AbandonFails entry x.0 x.1 d e old new)
closed_fails entry d e (Ok x) result old new is found counts disk pending =
    subst (λ r. IfErr r (λ x. AbandonFails entry x.0 x.1 d e old new)) (sym is) tt
closed_fails entry d e (Err Missing) result old new is found counts disk pending = absurd (found refl)
closed_fails entry d e (Err Failed) result old new is found counts disk pending =
    subst (λ r. IfErr r (λ x. AbandonFails entry x.0 x.1 d e old new)) (sym is)
    (refl, disk, pending, counts.0)
closed_fails entry d e (Err Memory) result old new is found counts disk pending =
    subst (λ r. IfErr r (λ x. AbandonFails entry x.0 x.1 d e old new)) (sym is) (refl, disk, pending)

-- ---- closing one gives its size back

none_taken : (n : ℕ) (ps : List Reservation) → has n ps ≡ false → without_number n ps ≡ ps
none_taken n [] h = refl
none_taken n (r ∷ rs) h =
    let two = none_first (r.number == n) (has n rs) h in
    ap (λ b. cond (not b) (r ∷ without_number n rs) (without_number n rs)) two.0
    ∙ ap (λ l. r ∷ l) (none_taken n rs two.1)

own_size : (e : AddEntry) (r : Reservation) → is_of e r ≡ true → (r.number ≡ e.number) × (r.size ≡ e.size)
own_size e r own =
    let two = both_true (r.number == e.number && r.size == e.size) (bytes_eq e.key r.key) own in
    let one = both_true (r.number == e.number) (r.size == e.size) two.0 in
    (eqb-true r.number e.number one.0, eqb-true r.size e.size one.1)

pending_has : (e : AddEntry) (ps : List Reservation) → is_pending e ps ≡ true → has e.number ps ≡ true
pending_has e [] h = absurd (true≢false (sym h))
pending_has e (r ∷ rs) h = by (is_of e r) refl h (pending_has e rs)
  where
    by : (b : Bool) → is_of e r ≡ b → (b || is_pending e rs) ≡ true
        → (is_pending e rs ≡ true → has e.number rs ≡ true)
        → ((r.number == e.number) || has e.number rs) ≡ true
    by true own some rest =
        let two = both_true (r.number == e.number && r.size == e.size) (bytes_eq e.key r.key) own in
        ap (λ b. b || has e.number rs) (both_true (r.number == e.number) (r.size == e.size) two.0).0
    by false other some rest = either (r.number == e.number) (rest some)
      where
        either : (b : Bool) → has e.number rs ≡ true → (b || has e.number rs) ≡ true
        either true later = refl
        either false later = later

pub gives_back : (e : AddEntry) (ps : List Reservation) → NumbersDiffer ps → is_pending e ps ≡ true
    → held_size (without_number e.number ps) + e.size ≡ held_size ps
gives_back e [] differ h = absurd (true≢false (sym h))
gives_back e (r ∷ rs) differ h = by (is_of e r) refl (r.number == e.number) refl h (gives_back e rs differ.1)
  where
    by : (b : Bool) → is_of e r ≡ b → (c : Bool) → (r.number == e.number) ≡ c → (b || is_pending e rs) ≡ true
        → (is_pending e rs ≡ true → held_size (without_number e.number rs) + e.size ≡ held_size rs)
        → held_size (cond (not c) (r ∷ without_number e.number rs) (without_number e.number rs)) + e.size
        ≡ held_size (r ∷ rs)
    by true own true same some rest =
        let two = own_size e r own in
        let out = none_taken e.number rs (subst (λ n. has n rs ≡ false) two.0 differ.0) in
        omega (arith, ap held_size out, two.1, sum_by-cons (λ (x : Reservation). x.size) r rs)
    by true own false other some rest =
        absurd (eqb-false r.number e.number other (own_size e r own).0)
    by false not_own true same some rest =
        absurd (true≢false (sym (pending_has e rs some) ∙ subst (λ n. has n rs ≡ false)
        (eqb-true r.number e.number same) differ.0))
    by false not_own false other some rest =
        omega (
          arith,
          rest some,
          sum_by-cons (λ (x : Reservation). x.size) r rs,
          sum_by-cons (λ (x : Reservation). x.size) r (without_number e.number rs),
        )

-- a reservation that is closed
pub closed_told : (answer : Result (Unit {0}) FolderFault) (f g : Failures)
    (result : Result (Unit {0}) (Error × Option AddEntry)) → result ≡ abandon_answer answer
    → ¬ (answer ≡ Err Missing) → g ≡ removal_failed answer f → IfErr result (λ e. ToldClosed e.0 f g)
closed_told answer f g result is other counts =
    subst (λ r. IfErr r (λ e. ToldClosed e.0 f g)) (sym is) (by answer other counts)
  where
    by : (answer : Result (Unit {0}) FolderFault) → ¬ (answer ≡ Err Missing) → g ≡ removal_failed answer f
        → IfErr (abandon_answer answer) (λ e. ToldClosed e.0 f g)
    by (Ok x) other counts = tt
    by (Err Missing) other counts = absurd (other refl)
    by (Err Failed) other counts = (ap (λ c. c.renames) counts, ap (λ c. c.removals) counts)
    by (Err Memory) other counts = (
      (ap (λ c. c.renames) counts, ap (λ c. c.removals) counts),
      ap (λ c. c.memory) counts,
    )
