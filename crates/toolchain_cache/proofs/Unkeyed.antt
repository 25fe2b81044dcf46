-- Archives seen through their keys: each step on keys with sizes is that on ids.
use Rattle.std.proofs.Common.{◌≡◌, ℕ, ◌≤◌, Bool, true, false, cond, is_some, nat_le, List, [], ◌∷◌, ◌++◌}
use Rattle.std.proofs.Common.{length, Option, Some, None, inl, inr, refl, sym, ap, subst, ◌∙◌, true≢false}
use Rattle.std.proofs.Common.{arith, Result, Ok, Err}
use Rattle.std.specs.List.{AllByRecursion, IsDistinct}
use Rattle.std.specs.Map.{keys_of, lookup, lookup_entry, remove_entry}
use Rattle.std.specs.Option.{option_map, option_map_or}
use Rattle.std.specs.Str.{bytes_eq}
use Rattle.std.proofs.lemmas.List.{map-append}
use Rattle.std.proofs.lemmas.List.Sums.{sum_by-cons}
use Rattle.std.proofs.lemmas.Slice.Eq.{bytes_eq-Decides}
use Rattle.lru_metered.specs.Metered.{promoted}
use Rattle.folders.specs.Failures.{Failures}
use Rattle.folders.specs.Files.{Files, file_at, front}
use Rattle.folders.specs.Held.{Held}
use Rattle.listed_files.specs.Entries.{Entries, total, trim, promoted_key}
use Rattle.listed_files.specs.Disk.{without_key, staying, stored, dropped, Left}
use Rattle.lru_disk_cache.specs.Store.{Disk}
use Rattle.listed_files.specs.Told.{ToldStored}
use Rattle.toolchain_cache.specs.Archives.{is_id, archive_key, archive_of, AllVerified, IsArchiveStore}
use Rattle.toolchain_cache.specs.Keyed.{id_in, unkeyed, IsArchiveKey, AllArchiveKeys, AllHold, IsKeyed}
use Rattle.toolchain_cache.proofs.KeyLemmas.{id_long}

-- ---- one key

pub id_of_key : (id : List ℕ) → length id ≡ 64 → id_in (archive_key id) ≡ id
unfolding archive_key
id_of_key [] long = absurd (omega (arith, long))
id_of_key (a ∷ []) long = absurd (omega (arith, long))
id_of_key (a ∷ b ∷ rest) long = refl

-- two keys are one where their ids are
pub same_key : (id key : List ℕ) → is_id id ≡ true → IsArchiveKey key
    → bytes_eq (archive_key id) key ≡ bytes_eq id (id_in key)
same_key id key fit is = by (bytes_eq (archive_key id) key) (bytes_eq id (id_in key)) refl refl
  where
    by : (a b : Bool) → bytes_eq (archive_key id) key ≡ a → bytes_eq id (id_in key) ≡ b → a ≡ b
    by true true p q = refl
    by false false p q = refl
    by true false p q =
        let ids : id ≡ id_in key = sym (id_of_key id (id_long id fit))
        ∙ ap id_in ((bytes_eq-Decides (archive_key id) key).0 p) in
        absurd (true≢false (sym ((bytes_eq-Decides id (id_in key)).1 ids) ∙ q))
    by false true p q =
        let keys : archive_key id ≡ key = ap archive_key ((bytes_eq-Decides id (id_in key)).0 q) ∙ sym is.path
        in
        absurd (true≢false (sym ((bytes_eq-Decides (archive_key id) key).1 keys) ∙ p))

pub key_is_archive : (id : List ℕ) → is_id id ≡ true → IsArchiveKey (archive_key id)
key_is_archive id fit =
    let same = sym (id_of_key id (id_long id fit)) in
    record { path = ap archive_key same; id = subst (λ i. is_id i ≡ true) same fit }

-- ---- lists of keys, read by a test

abbrev pub un : List ℕ × ℕ → List ℕ × ℕ
un e = (id_in e.0, e.1)

module _ (test other : List ℕ → Bool) where
  -- a test of the keys and one of the ids agree
  abbrev pub Agree : Entries → Type 0
  Agree es = AllByRecursion (λ e. other (id_in e.0) ≡ test e.0) es

  pub looked : (es : Entries) → Agree es → lookup other (unkeyed es) ≡ lookup test es
  looked [] h = refl
  looked (e ∷ es) h = λ i. cond (h.0 i) (Some e.1) (looked es h.1 i)

  looked_entry : (es : Entries) → Agree es → lookup_entry other (unkeyed es) ≡ option_map un
      (lookup_entry test es)
  looked_entry [] h = refl
  looked_entry (e ∷ es) h = (λ i. cond (h.0 i) (Some (un e)) (looked_entry es h.1 i)) ∙ by (test e.0)
    where
      by : (b : Bool) → cond b (Some (un e)) (option_map un (lookup_entry test es)) ≡ option_map un
          (cond b (Some e) (lookup_entry test es))
      by true = refl
      by false = refl

  pub removed_un : (es : Entries) → Agree es → remove_entry other (unkeyed es) ≡ unkeyed
      (remove_entry test es)
  removed_un [] h = refl
  removed_un (e ∷ es) h = (λ i. cond (h.0 i) (unkeyed es) (un e ∷ removed_un es h.1 i)) ∙ by (test e.0)
    where
      by : (b : Bool) → cond b (unkeyed es) (un e ∷ unkeyed (remove_entry test es)) ≡ unkeyed
          (cond b es (e ∷ remove_entry test es))
      by true = refl
      by false = refl

  pub promoted_un : (es : Entries) → Agree es → promoted other (unkeyed es) ≡ unkeyed (promoted test es)
  promoted_un es h =
      ap (λ o. option_map_or (λ p. remove_entry other (unkeyed es) ++ p ∷ []) o (unkeyed es))
      (looked_entry es h) ∙ by (lookup_entry test es)
    where
      by : (o : Option (List ℕ × ℕ)) → option_map_or (λ p. remove_entry other (unkeyed es) ++ p ∷ [])
          (option_map un o) (unkeyed es) ≡ unkeyed (option_map_or (λ p. remove_entry test es ++ p ∷ []) o es)
      by None = refl
      by (Some p) = ap (λ l. l ++ un p ∷ []) (removed_un es h)
          ∙ sym (map-append un (remove_entry test es) (p ∷ []))

agree : (id : List ℕ) (es : Entries) → is_id id ≡ true → AllArchiveKeys es → Agree (bytes_eq (archive_key id))
    (bytes_eq id) es
agree id [] fit keys = tt
agree id (e ∷ es) fit keys = (sym (same_key id e.0 fit keys.0), agree id es fit keys.1)

pub looked_up_un : (id : List ℕ) (es : Entries) → is_id id ≡ true → AllArchiveKeys es
    → lookup (bytes_eq id) (unkeyed es) ≡ lookup (bytes_eq (archive_key id)) es
looked_up_un id es fit keys = looked (bytes_eq (archive_key id)) (bytes_eq id) es (agree id es fit keys)

pub without_un : (id : List ℕ) (es : Entries) → is_id id ≡ true → AllArchiveKeys es
    → without_key id (unkeyed es) ≡ unkeyed (without_key (archive_key id) es)
without_un id es fit keys = removed_un (bytes_eq (archive_key id)) (bytes_eq id) es (agree id es fit keys)

pub promoted_key_un : (id : List ℕ) (es : Entries) → is_id id ≡ true → AllArchiveKeys es
    → promoted_key id (unkeyed es) ≡ unkeyed (promoted_key (archive_key id) es)
promoted_key_un id es fit keys = promoted_un (bytes_eq (archive_key id)) (bytes_eq id) es
    (agree id es fit keys)

-- ---- sizes

pub total_un : (es : Entries) → total (unkeyed es) ≡ total es
total_un [] = refl
total_un (e ∷ es) =
    omega (
      arith,
      sum_by-cons (λ (x : List ℕ × ℕ). x.1) (un e) (unkeyed es),
      sum_by-cons (λ (x : List ℕ × ℕ). x.1) e es,
      total_un es,
    )

pub trim_un : (limit : ℕ) (es : Entries) → trim limit (unkeyed es) ≡ unkeyed (trim limit es)
trim_un limit [] = refl
trim_un limit (e ∷ es) =
    (λ i. cond (nat_le (total_un (e ∷ es) i) limit) (unkeyed (e ∷ es)) (trim_un limit es i))
    ∙ by (nat_le (total (e ∷ es)) limit)
  where
    by : (b : Bool) → cond b (unkeyed (e ∷ es)) (unkeyed (trim limit es)) ≡ unkeyed
        (cond b (e ∷ es) (trim limit es))
    by true = refl
    by false = refl

-- ---- what keys all have stays

pub keys_trimmed : (P : List ℕ × ℕ → Type 0) (limit : ℕ) (es : Entries) → AllByRecursion P es
    → AllByRecursion P (trim limit es)
keys_trimmed P limit [] h = tt
keys_trimmed P limit (e ∷ es) h =
    elim (nat_le (total (e ∷ es)) limit) as (λ b. AllByRecursion P (cond b (e ∷ es) (trim limit es)))
    [ true ↦ h | false ↦ keys_trimmed P limit es h.1 ]

pub keys_out : (P : List ℕ × ℕ → Type 0) (test : List ℕ → Bool) (es : Entries) → AllByRecursion P es
    → AllByRecursion P (remove_entry test es)
keys_out P test [] h = tt
keys_out P test (e ∷ es) h =
    elim (test e.0) as (λ b. AllByRecursion P (cond b es (e ∷ remove_entry test es))) [
      | true ↦ h.1
      | false ↦
          (h.0, keys_out P test es h.1)
    ]

pub keys_end : (P : List ℕ × ℕ → Type 0) (es : Entries) (e : List ℕ × ℕ) → AllByRecursion P es → P e
    → AllByRecursion P (es ++ e ∷ [])
keys_end P [] e h last = (last, tt)
keys_end P (f ∷ fs) e h last = (h.0, keys_end P fs e h.1 last)

keys_behind : (P : List ℕ × ℕ → Type 0) (gone rest : Entries) → AllByRecursion P (gone ++ rest)
    → AllByRecursion P rest
keys_behind P [] rest h = h
keys_behind P (e ∷ gone) rest h = keys_behind P gone rest h.1

pub keys_of_end : (P : List ℕ × ℕ → Type 0) (all rest gone : Entries) → all ≡ gone ++ rest
    → AllByRecursion P all → AllByRecursion P rest
keys_of_end P all rest gone is h = keys_behind P gone rest (subst (AllByRecursion P) is h)

entry_has : (P : List ℕ × ℕ → Type 0) (test : List ℕ → Bool) (es : Entries) → AllByRecursion P es
    → (o : Option (List ℕ × ℕ)) → lookup_entry test es ≡ o → (e : List ℕ × ℕ) → o ≡ Some e → P e
entry_has P test [] h o is e some = absurd (true≢false (ap is_some (sym some ∙ sym is)))
entry_has P test (f ∷ fs) h o is e some = by (test f.0) is (λ later. entry_has P test fs h.1 o later e some)
  where
    by : (b : Bool) → cond b (Some f) (lookup_entry test fs) ≡ o → (lookup_entry test fs ≡ o → P e) → P e
    by true here rest = let same : f ≡ e = let both : Some f ≡ Some e = here ∙ some in cc in subst P same h.0
    by false later rest = rest later

pub keys_promoted : (P : List ℕ × ℕ → Type 0) (test : List ℕ → Bool) (es : Entries) → AllByRecursion P es
    → AllByRecursion P (promoted test es)
keys_promoted P test es h = by (lookup_entry test es) refl
  where
    by : (o : Option (List ℕ × ℕ)) → lookup_entry test es ≡ o
        → AllByRecursion P (option_map_or (λ p. remove_entry test es ++ p ∷ []) o es)
    by None is = h
    by (Some p) is = keys_end P (remove_entry test es) p (keys_out P test es h)
        (entry_has P test es h (Some p) is p refl)

pub staying_has : (P : List ℕ × ℕ → Type 0) (key : List ℕ) (limit : ℕ) (es : Entries) → AllByRecursion P es
    → AllByRecursion P (staying key limit es)
staying_has P key limit es h = keys_trimmed P limit (without_key key es) (keys_out P (bytes_eq key) es h)

pub keys_stored : (P : List ℕ × ℕ → Type 0) (key : List ℕ) (size limit : ℕ) (es : Entries)
    → AllByRecursion P es → P (key, size) → AllByRecursion P (stored key size limit es)
keys_stored P key size limit es h last =
    keys_end P (staying key limit es) (key, size)
    (keys_trimmed P limit (without_key key es) (keys_out P (bytes_eq key) es h)) last

-- ---- what a store is

others_un : (key : List ℕ) (es : Entries) → IsArchiveKey key → AllArchiveKeys es
    → AllByRecursion (λ k. bytes_eq key k ≡ false) (keys_of es)
    → AllByRecursion (λ k. bytes_eq (id_in key) k ≡ false) (keys_of (unkeyed es))
others_un key [] is keys h = tt
others_un key (e ∷ es) is keys h = (
  sym (same_key (id_in key) e.0 is.id keys.0) ∙ (ap (λ k. bytes_eq k e.0) (sym is.path) ∙ h.0),
  others_un key es is keys.1 h.1,
)

distinct_un : (es : Entries) → AllArchiveKeys es → IsDistinct bytes_eq (keys_of es)
    → IsDistinct bytes_eq (keys_of (unkeyed es))
unfolding IsDistinct
distinct_un [] keys h = tt
distinct_un (e ∷ es) keys h = (others_un e.0 es keys.0 keys.1 h.0, distinct_un es keys.1 h.1)

ids_un : (es : Entries) → AllArchiveKeys es → AllByRecursion (λ a. is_id a.0 ≡ true) (unkeyed es)
ids_un [] keys = tt
ids_un (e ∷ es) keys = (keys.0.id, ids_un es keys.1)

verified_un : (path root : List ℕ) (files : Files) (es : Entries) → root ≡ front path → AllArchiveKeys es
    → AllHold root files es → AllVerified path files (unkeyed es)
verified_un path root files [] is keys h = tt
verified_un path root files (e ∷ es) is keys h = (
  ap (λ p. option_map archive_of (file_at files p)) (λ i. sym is i ++ sym keys.0.path i) ∙ h.0,
  verified_un path root files es is keys.1 h.1,
)

pub keyed_store : (held : Held) (d : Disk) → IsKeyed held d → IsDistinct bytes_eq (keys_of d.entries)
    → total d.entries ≤ d.capacity → IsArchiveStore d.path d.capacity (unkeyed d.entries) held
keyed_store held d is distinct fits = record {
  ids = ids_un d.entries is.keys;
  distinct = distinct_un d.entries is.keys distinct;
  fits = omega (arith, total_un d.entries, fits);
  verified = λ files told. verified_un d.path d.root files d.entries is.root is.keys (is.hold files told);
}

-- what an insert and its failure leave
pub stored_un : (id : List ℕ) (size limit : ℕ) (es : Entries) → is_id id ≡ true → AllArchiveKeys es
    → stored id size limit (unkeyed es) ≡ unkeyed (stored (archive_key id) size limit es)
stored_un id size limit es fit keys =
    ap (λ l. l ++ (id, size) ∷ []) (ap (trim limit) (without_un id es fit keys)
    ∙ trim_un limit (without_key (archive_key id) es))
    ∙ (ap (λ k. unkeyed (staying (archive_key id) limit es) ++ (k, size) ∷ [])
    (sym (id_of_key id (id_long id fit)))
    ∙ sym (map-append un (staying (archive_key id) limit es) ((archive_key id, size) ∷ [])))

pub left_un : (id : List ℕ) (limit : ℕ) (es new : Entries) → is_id id ≡ true → AllArchiveKeys es
    → Left (archive_key id) limit es new → Left id limit (unkeyed es) (unkeyed new)
left_un id limit es new fit keys left = elim left [
  | inl same ↦ inl (ap unkeyed same)
  | inr less ↦ inr (
    (unkeyed less.0.0, without_un id es fit keys ∙ (ap unkeyed less.0.1 ∙ map-append un less.0.0 new)),
    trim_un limit new ∙ (ap unkeyed less.1
        ∙ sym (ap (trim limit) (without_un id es fit keys)
        ∙ trim_un limit (without_key (archive_key id) es))),
  )
]

-- and what the counts tell of it
pub told_un : {T E : Type 0} (result : Result T E) (id : List ℕ) (limit : ℕ) (es new : Entries) (f g : Failures)
    → is_id id ≡ true → AllArchiveKeys es → ToldStored result (archive_key id) limit es new f g
    → ToldStored result id limit (unkeyed es) (unkeyed new) f g
told_un (Ok x) id limit es new f g fit keys told = told
told_un (Err e) id limit es new f g fit keys told =
    let without = without_un id es fit keys in
    elim told [
      | inl same ↦ inl (ap unkeyed same.0, same.1)
      | inr some ↦ elim some [
        | inl up ↦ inr (inl (
          (
            unkeyed up.0.0,
            un up.0.1,
            without ∙ (ap unkeyed up.0.2 ∙ map-append un up.0.0 (up.0.1 ∷ new)),
          ),
          up.1,
        ))
        | inr all ↦ inr (inr (
          ap unkeyed all.0
              ∙ sym (ap (trim limit) without ∙ trim_un limit (without_key (archive_key id) es)),
          all.1,
        ))
      ]
    ]

pub dropped_un : (limit : ℕ) (es : Entries) → dropped limit (unkeyed es) ≡ unkeyed (dropped limit es)
dropped_un limit [] = refl
dropped_un limit (e ∷ es) =
    (λ i. cond (nat_le (total_un (e ∷ es) i) limit) [] (un e ∷ dropped_un limit es i))
    ∙ by (nat_le (total (e ∷ es)) limit)
  where
    by : (b : Bool) → cond b [] (un e ∷ unkeyed (dropped limit es)) ≡ unkeyed
        (cond b [] (e ∷ dropped limit es))
    by true = refl
    by false = refl

pub keys_dropped : (limit : ℕ) (es : Entries) → AllArchiveKeys es → AllArchiveKeys (dropped limit es)
keys_dropped limit [] keys = tt
keys_dropped limit (e ∷ es) keys =
    elim (nat_le (total (e ∷ es)) limit) as (λ b. AllArchiveKeys (cond b [] (e ∷ dropped limit es)))
    [ true ↦ tt | false ↦ (keys.0, keys_dropped limit es keys.1) ]
