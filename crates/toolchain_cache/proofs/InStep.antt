-- The archives among the files, behind each step.
use Rattle.std.proofs.Common.{◌≡◌, ℕ, Bool, true, false, cond, not, List, [], ◌∷◌, ◌++◌, length, drop}
use Rattle.std.proofs.Common.{get_or, is_some, Option, Some, None, refl, sym, ap, subst, ◌∙◌, true≢false}
use Rattle.std.proofs.Common.{arith}
use Rattle.std.specs.List.{IsDistinct, cons_option}
use Rattle.std.specs.Map.{keys_of, lookup, remove_entry}
use Rattle.std.specs.Option.{option_map, option_map_or}
use Rattle.std.specs.Str.{bytes_eq}
use Rattle.std.proofs.lemmas.List.Elements.{filter_map-append}
use Rattle.std.proofs.lemmas.Slice.Eq.{bytes_eq-Decides}
use Rattle.folders.specs.Files.{Files, file_at, front, without, put, touched, put_found}
use Rattle.listed_files.specs.Key.{insert_name}
use Rattle.listed_files.specs.Entries.{Entries, trim, promoted_key}
use Rattle.listed_files.specs.Disk.{Avoids, dropped, without_each, files_stored, without_key, stored}
use Rattle.toolchain_cache.specs.Archives.{Archives, id_of, archive_of, archive_key, archive_path, archive_in}
use Rattle.toolchain_cache.specs.Archives.{archives_in}
use Rattle.toolchain_cache.specs.Keyed.{id_in, unkeyed, AllArchiveKeys}
use Rattle.folders.proofs.Distinct.{apart}
use Rattle.listed_files.proofs.Listings.{but_key, out_kept, out_gone}
use Rattle.folders.proofs.Lookups.{itself, put_same}
use Rattle.listed_files.proofs.Paths.{same_front}
use Rattle.listed_files.proofs.Outs.{but_each, but_each_later, out_once, front_out, dropped_and_rest}
use Rattle.listed_files.proofs.Outs.{distinct_out, there_still, found_entry}

-- archives with one key have one id
pub key_once : (a b : List ℕ) → archive_key a ≡ archive_key b → a ≡ b
unfolding archive_key
key_once [] [] same = refl
key_once [] (y ∷ []) same = let long = ap length same in absurd (omega (arith, long))
key_once [] (y ∷ z ∷ bs) same = let long = ap length same in absurd (omega (arith, long))
key_once (x ∷ []) [] same = let long = ap length same in absurd (omega (arith, long))
key_once (x ∷ []) (y ∷ []) same = ap (drop 3) same
key_once (x ∷ []) (y ∷ z ∷ bs) same = let long = ap length same in absurd (omega (arith, long))
key_once (w ∷ x ∷ more) [] same = let long = ap length same in absurd (omega (arith, long))
key_once (w ∷ x ∷ more) (y ∷ []) same = let long = ap length same in absurd (omega (arith, long))
key_once (w ∷ x ∷ more) (y ∷ z ∷ bs) same = ap (drop 4) same

pub path_once : (path a b : List ℕ) → bytes_eq (archive_path path a) (archive_path path b) ≡ bytes_eq a b
path_once path a b = same_front (front path) (archive_key a) (archive_key b)
    ∙ by (bytes_eq (archive_key a) (archive_key b)) (bytes_eq a b) refl refl
  where
    by : (x y : Bool) → bytes_eq (archive_key a) (archive_key b) ≡ x → bytes_eq a b ≡ y → x ≡ y
    by true true p q = refl
    by false false p q = refl
    by true false p q =
        absurd (true≢false (sym ((bytes_eq-Decides a b).1
        (key_once a b ((bytes_eq-Decides (archive_key a) (archive_key b)).0 p))) ∙ q))
    by false true p q =
        absurd (true≢false (sym ((bytes_eq-Decides (archive_key a) (archive_key b)).1
        (ap archive_key ((bytes_eq-Decides a b).0 q))) ∙ p))

slash_differs : (n : ℕ) (key : List ℕ) → get_or key 1 0 ≡ 47 → bytes_eq (insert_name n) key ≡ false
unfolding insert_name
slash_differs n key second = by (bytes_eq (insert_name n) key) refl
  where
    by : (b : Bool) → bytes_eq (insert_name n) key ≡ b → b ≡ false
    by false is = refl
    by true is =
        let same : insert_name n ≡ key = (bytes_eq-Decides (insert_name n) key).0 is in
        let both : 115 ≡ 47 = ap (λ (l : List ℕ). get_or l 1 0) same ∙ second in
        absurd (omega (arith, both))

slash_second : (id : List ℕ) → get_or (archive_key id) 1 0 ≡ 47
unfolding archive_key
slash_second [] = refl
slash_second (x ∷ []) = refl
slash_second (x ∷ y ∷ id) = refl

-- no archive has the name of a temporary file
pub temp_no_key : (n : ℕ) (id : List ℕ) → bytes_eq (insert_name n) (archive_key id) ≡ false
temp_no_key n id = slash_differs n (archive_key id) (slash_second id)

pub in_more : (path : List ℕ) (f : List ℕ × List ℕ) (fs : Files) (b : Bool)
    → bytes_eq f.0 (archive_path path (id_of f.1)) ≡ b → archives_in path (f ∷ fs) ≡ cond b
    (archive_of f.1 ∷ archives_in path fs) (archives_in path fs)
in_more path f fs true is = ap (λ b. cons_option (cond b (Some (archive_of f.1)) None) (archives_in path fs))
    is
in_more path f fs false is = ap (λ b. cons_option (cond b (Some (archive_of f.1)) None) (archives_in path fs))
    is

pub in_without : (path id : List ℕ) (fs : Files)
    → archives_in path (without (archive_path path id) fs) ≡ but_key id (archives_in path fs)
in_without path id [] = refl
in_without path id (f ∷ fs) = by (bytes_eq (archive_path path id) f.0)
    (bytes_eq f.0 (archive_path path (id_of f.1))) refl refl (in_without path id fs)
  where
    by : (s m : Bool) → bytes_eq (archive_path path id) f.0 ≡ s
        → bytes_eq f.0 (archive_path path (id_of f.1)) ≡ m
        → archives_in path (without (archive_path path id) fs) ≡ but_key id (archives_in path fs)
        → archives_in path (cond (not s) (f ∷ without (archive_path path id) fs)
        (without (archive_path path id) fs)) ≡ but_key id (archives_in path (f ∷ fs))
    by true true same is rest =
        let one : bytes_eq id (id_of f.1) ≡ true = sym (path_once path id (id_of f.1))
        ∙ (ap (λ p. bytes_eq (archive_path path id) p)
        (sym ((bytes_eq-Decides f.0 (archive_path path (id_of f.1))).0 is)) ∙ same) in
        rest ∙ sym (ap (but_key id) (in_more path f fs true is) ∙ out_gone id (archive_of f.1)
        (archives_in path fs) one)
    by true false same is rest = rest ∙ sym (ap (but_key id) (in_more path f fs false is))
    by false true other is rest =
        let two : bytes_eq id (id_of f.1) ≡ false = sym (path_once path id (id_of f.1))
        ∙ (ap (λ p. bytes_eq (archive_path path id) p)
        (sym ((bytes_eq-Decides f.0 (archive_path path (id_of f.1))).0 is)) ∙ other) in
        in_more path f (without (archive_path path id) fs) true is
        ∙ (ap (λ l. archive_of f.1 ∷ l) rest
        ∙ sym (ap (but_key id) (in_more path f fs true is) ∙ out_kept id (archive_of f.1)
        (archives_in path fs) two))
    by false false other is rest =
        in_more path f (without (archive_path path id) fs) false is
        ∙ (rest ∙ sym (ap (but_key id) (in_more path f fs false is)))

-- a file that is no archive's tells nothing
pub in_without_other : (path other : List ℕ) (fs : Files)
    → ((id : List ℕ) → bytes_eq other (archive_path path id) ≡ false)
    → archives_in path (without other fs) ≡ archives_in path fs
in_without_other path other [] away = refl
in_without_other path other (f ∷ fs) away =
    by (bytes_eq other f.0) (bytes_eq f.0 (archive_path path (id_of f.1))) refl refl
    (in_without_other path other fs away)
  where
    by : (s m : Bool) → bytes_eq other f.0 ≡ s → bytes_eq f.0 (archive_path path (id_of f.1)) ≡ m
        → archives_in path (without other fs) ≡ archives_in path fs
        → archives_in path (cond (not s) (f ∷ without other fs) (without other fs)) ≡ archives_in path
        (f ∷ fs)
    by true true same is rest =
        let P : List ℕ → Type 0 = λ p. bytes_eq other p ≡ true in
        absurd (true≢false (sym (subst P ((bytes_eq-Decides f.0 (archive_path path (id_of f.1))).0 is) same)
        ∙ away (id_of f.1)))
    by true false same is rest = rest ∙ sym (in_more path f fs false is)
    by false true not is rest = in_more path f (without other fs) true is
        ∙ (ap (λ l. archive_of f.1 ∷ l) rest ∙ sym (in_more path f fs true is))
    by false false not is rest = in_more path f (without other fs) false is
        ∙ (rest ∙ sym (in_more path f fs false is))

pub in_put : (path id bytes : List ℕ) (fs : Files) → id_of bytes ≡ id
    → archives_in path (put (archive_path path id) bytes fs) ≡ but_key id (archives_in path fs) ++
    (id, length bytes) ∷ []
in_put path id bytes fs is =
    let here : bytes_eq (archive_path path id) (archive_path path (id_of bytes)) ≡ true =
    path_once path id (id_of bytes) ∙ (ap (bytes_eq id) is ∙ itself id) in
    filter_map-append (archive_in path) (without (archive_path path id) fs)
    ((archive_path path id, bytes) ∷ [])
    ∙ ((λ i. in_without path id fs i ++ in_more path (archive_path path id, bytes) [] true here i)
    ∙ ap (λ k. but_key id (archives_in path fs) ++ (k, length bytes) ∷ []) is)

pub in_put_other : (path other bytes : List ℕ) (fs : Files)
    → ((id : List ℕ) → bytes_eq other (archive_path path id) ≡ false)
    → archives_in path (put other bytes fs) ≡ archives_in path fs
in_put_other path other bytes fs away =
    filter_map-append (archive_in path) (without other fs) ((other, bytes) ∷ [])
    ∙ ((λ i. in_without_other path other fs away i ++ in_more path (other, bytes) [] false
    (away (id_of bytes)) i)
    ∙ none (archives_in path fs))
  where
    none : (l : Archives) → l ++ [] ≡ l
    none [] = refl
    none (x ∷ xs) = ap (λ l. x ∷ l) (none xs)

pub in_each : (path root : List ℕ) (gone : Entries) (fs : Files) → root ≡ front path → AllArchiveKeys gone
    → archives_in path (without_each root gone fs) ≡ but_each (unkeyed gone) (archives_in path fs)
in_each path root [] fs is keys = refl
in_each path root (g ∷ gone) fs is keys =
    in_each path root gone (without (root ++ g.0) fs) is keys.1
    ∙ ap (but_each (unkeyed gone)) (ap (λ p. archives_in path (without p fs)) (λ i. is i ++ keys.0.path i)
    ∙ in_without path (id_in g.0) fs)

keys_avoid : (path root : List ℕ) (n : ℕ) (es : Entries) → AllArchiveKeys es
    → Avoids root (root ++ insert_name n) es
keys_avoid path root n [] keys = tt
keys_avoid path root n (e ∷ es) keys = (
  same_front root e.0 (insert_name n)
      ∙ (ap (λ k. bytes_eq k (insert_name n)) keys.0.path ∙ apart (insert_name n) (archive_key (id_in e.0))
      (temp_no_key n (id_in e.0))),
  keys_avoid path root n es keys.1,
)

-- the archives among the files once one is stored
pub in_stored : (path id bytes : List ℕ) (n limit : ℕ) (gone : Entries) (es : Archives) (fs : Files)
    → id_of bytes ≡ id → AllArchiveKeys gone → unkeyed gone ≡ dropped limit (without_key id es)
    → IsDistinct bytes_eq (keys_of es)
    → archives_in path fs ≡ es
    → archives_in path (files_stored (front path) (front path ++ insert_name n)
    (archive_path path id) bytes gone fs) ≡ stored id (length bytes) limit es
in_stored path id bytes n limit gone es fs is keys gone_is distinct in_step =
    let temp = front path ++ insert_name n in
    let away : (k : List ℕ) → bytes_eq temp (archive_path path k) ≡ false = λ k. same_front (front path)
    (insert_name n) (archive_key k) ∙ temp_no_key n k in
    let two = without_each (front path) gone (put temp bytes fs) in
    let found : file_at two temp ≡ Some bytes = there_still (front path) temp bytes gone (put temp bytes fs)
    (keys_avoid path (front path) n gone keys) (put_same temp bytes fs) in
    let here : archives_in path two ≡ but_each (dropped limit (without_key id es)) es =
    in_each path (front path) gone (put temp bytes fs) refl keys
    ∙ (λ i. but_each (gone_is i) ((in_put_other path temp bytes fs away ∙ in_step) i)) in
    let rest : but_each (dropped limit (without_key id es)) (but_key id es) ≡ trim limit (without_key id es) =
    ap (but_each (dropped limit (without_key id es)))
    (sym (out_once id es distinct) ∙ dropped_and_rest limit (without_key id es))
    ∙ front_out (dropped limit (without_key id es)) (trim limit (without_key id es))
    (subst (λ l. IsDistinct bytes_eq (keys_of l)) (dropped_and_rest limit (without_key id es))
    (distinct_out (bytes_eq id) es distinct)) in
    ap (λ o. archives_in path (put_found o (archive_path path id) two (without temp two))) found
    ∙ (in_put path id bytes (without temp two) is
    ∙ ap (λ l. l ++ (id, length bytes) ∷ [])
    (ap (but_key id) (in_without_other path temp two away ∙ here)
    ∙ (but_each_later id (dropped limit (without_key id es)) es ∙ rest)))

listed_again : (path id bytes : List ℕ) (n : ℕ) (es : Archives) (fs : Files) → archive_of bytes ≡ (id, n)
    → lookup (bytes_eq id) es ≡ Some n → IsDistinct bytes_eq (keys_of es) → archives_in path fs ≡ es
    → archives_in path (put (archive_path path id) bytes fs) ≡ promoted_key id es
listed_again path id bytes n es fs is found distinct in_step =
    let size : length bytes ≡ n = ap (λ p. p.1) is in
    in_put path id bytes fs (ap (λ p. p.0) is)
    ∙ ((λ i. but_key id (in_step i) ++ (id, size i) ∷ [])
    ∙ (ap (λ l. l ++ (id, n) ∷ []) (sym (out_once id es distinct))
    ∙ sym (ap (λ o. option_map_or (λ p. remove_entry (bytes_eq id) es ++ p ∷ []) o es)
    (found_entry id n es found))))

-- the file of an archive that is listed is the most recent
pub in_touched : (path id : List ℕ) (n : ℕ) (es : Archives) (fs : Files)
    → option_map archive_of (file_at fs (archive_path path id)) ≡ Some (id, n)
    → lookup (bytes_eq id) es ≡ Some n → IsDistinct bytes_eq (keys_of es) → archives_in path fs ≡ es
    → archives_in path (touched (archive_path path id) fs) ≡ promoted_key id es
in_touched path id n es fs held found distinct in_step = by (file_at fs (archive_path path id)) held
  where
    by : (o : Option (List ℕ)) → option_map archive_of o ≡ Some (id, n)
        → archives_in path (put_found o (archive_path path id) fs fs) ≡ promoted_key id es
    by None none = absurd (true≢false (sym (ap is_some none)))
    by (Some b) some = let is : archive_of b ≡ (id, n) =
        cc in listed_again path id b n es fs is found distinct in_step

-- the file of an archive is gone
pub in_gone : (path id : List ℕ) (es : Archives) (fs : Files) → IsDistinct bytes_eq (keys_of es)
    → archives_in path fs ≡ es → archives_in path (without (archive_path path id) fs) ≡ without_key id es
in_gone path id es fs distinct in_step =
    in_without path id fs ∙ (ap (but_key id) in_step ∙ sym (out_once id es distinct))
