-- The keys among the files, behind each step: what keeps a list in step with them.
use Rattle.std.proofs.Common.{◌≡◌, ℕ, Bool, true, false, cond, not, nat_le, List, [], ◌∷◌, ◌++◌, length, drop}
use Rattle.std.proofs.Common.{filter, Option, Some, None, refl, sym, ap, subst, ◌∙◌, true≢false}
use Rattle.std.specs.List.{AllByRecursion, IsDistinct}
use Rattle.std.specs.Map.{keys_of, lookup, remove_entry}
use Rattle.std.specs.Option.{option_map, option_map_or}
use Rattle.std.specs.Str.{bytes_eq}
use Rattle.std.proofs.Math.Seq.{take-append_seam}
use Rattle.std.proofs.lemmas.List.Elements.{filter-append}
use Rattle.std.proofs.lemmas.Slice.Eq.{bytes_eq-Decides}
use Rattle.folders.specs.Files.{Files, file_at, put, put_found, without, touched, appended}
use Rattle.folders.specs.Files.{is_behind}
use Rattle.listed_files.specs.Key.{is_key}
use Rattle.listed_files.specs.Entries.{Entries, total, trim, promoted_key}
use Rattle.listed_files.specs.Disk.{Avoids, dropped, without_each, without_key, stored, files_placed}
use Rattle.listed_files.specs.Opened.{listing}
use Rattle.folders.proofs.Distinct.{apart}
use Rattle.listed_files.proofs.Outs.{but_each, but_each_later, out_once, front_out, dropped_and_rest}
use Rattle.listed_files.proofs.Outs.{rest_out, there_still, found_entry}
use Rattle.listed_files.proofs.Listings.{entry, but_key, listing_more, listing_without, none_out}
use Rattle.folders.proofs.Lookups.{itself}
use Rattle.listed_files.proofs.Paths.{same_front}
use Rattle.listed_files.proofs.Strips.{begins}

-- the keys among the files, with their sizes
abbrev pub keys_in : List ℕ → Files → Entries
keys_in root files = filter (λ e. is_key e.0) (listing root files)

-- ---- lists

commute : (p q : List ℕ × ℕ → Bool) (es : Entries) → filter p (filter q es) ≡ filter q (filter p es)
commute p q [] = refl
commute p q (e ∷ es) = by (p e) (q e) refl refl (commute p q es)
  where
    by : (a b : Bool) → p e ≡ a → q e ≡ b → filter p (filter q es) ≡ filter q (filter p es)
        → filter p (cond b (e ∷ filter q es) (filter q es)) ≡ filter q
        (cond a (e ∷ filter p es) (filter p es))
    by true true x y rest =
        ap (λ c. cond c (e ∷ filter p (filter q es)) (filter p (filter q es))) x
        ∙ (ap (λ l. e ∷ l) rest ∙ sym
        (ap (λ c. cond c (e ∷ filter q (filter p es)) (filter q (filter p es))) y))
    by true false x y rest = rest
        ∙ sym (ap (λ c. cond c (e ∷ filter q (filter p es)) (filter q (filter p es))) y)
    by false true x y rest = ap (λ c. cond c (e ∷ filter p (filter q es)) (filter p (filter q es))) x ∙ rest
    by false false x y rest = rest

all_pass : (es : Entries) → AllByRecursion (λ e. is_key e.0 ≡ true) (filter (λ e. is_key e.0) es)
all_pass [] = tt
all_pass (e ∷ es) = by (is_key e.0) refl (all_pass es)
  where
    by : (b : Bool) → is_key e.0 ≡ b → AllByRecursion (λ x. is_key x.0 ≡ true) (filter (λ x. is_key x.0) es)
        → AllByRecursion (λ x. is_key x.0 ≡ true)
        (cond b (e ∷ filter (λ x. is_key x.0) es) (filter (λ x. is_key x.0) es))
    by true is rest = (is, rest)
    by false is rest = rest

key_differs : (k q : List ℕ) → is_key k ≡ false → is_key q ≡ true → bytes_eq k q ≡ false
key_differs k q none fit = by (bytes_eq k q) refl
  where
    by : (b : Bool) → bytes_eq k q ≡ b → b ≡ false
    by false is = refl
    by true is = absurd (true≢false (sym fit ∙ (ap is_key (sym ((bytes_eq-Decides k q).0 is)) ∙ none)))

none_has : (k : List ℕ) (es : Entries) → is_key k ≡ false → AllByRecursion (λ e. is_key e.0 ≡ true) es
    → AllByRecursion (λ q. bytes_eq k q ≡ false) (keys_of es)
none_has k [] none all = tt
none_has k (e ∷ es) none all = (key_differs k e.0 none all.0, none_has k es none all.1)

end_none : (l : Entries) → l ++ [] ≡ l
end_none [] = refl
end_none (x ∷ xs) = ap (λ l. x ∷ l) (end_none xs)

-- ---- one file more or less

pub keys_without : (root k : List ℕ) (fs : Files) → keys_in root (without (root ++ k) fs) ≡ but_key k
    (keys_in root fs)
keys_without root k fs =
    ap (filter (λ (e : List ℕ × ℕ). is_key e.0)) (listing_without root k fs) ∙ commute (λ e. is_key e.0)
    (λ e. not (bytes_eq k e.0)) (listing root fs)

-- a file that is no key's tells nothing
pub keys_without_other : (root k : List ℕ) (fs : Files) → is_key k ≡ false
    → keys_in root (without (root ++ k) fs) ≡ keys_in root fs
keys_without_other root k fs none =
    keys_without root k fs ∙ none_out k (keys_in root fs)
    (none_has k (keys_in root fs) none (all_pass (listing root fs)))

listing_append : (root : List ℕ) (xs ys : Files)
    → listing root (xs ++ ys) ≡ listing root xs ++ listing root ys
listing_append root [] ys = refl
listing_append root (f ∷ fs) ys = by (is_behind root f.0) refl (listing_append root fs ys)
  where
    by : (b : Bool) → is_behind root f.0 ≡ b → listing root (fs ++ ys) ≡ listing root fs ++ listing root ys
        → listing root (f ∷ fs ++ ys) ≡ listing root (f ∷ fs) ++ listing root ys
    by true is rest =
        listing_more root f (fs ++ ys) true is
        ∙ (ap (λ l. entry root f ∷ l) rest ∙ ap (λ l. l ++ listing root ys)
        (sym (listing_more root f fs true is)))
    by false is rest =
        listing_more root f (fs ++ ys) false is
        ∙ (rest ∙ ap (λ l. l ++ listing root ys) (sym (listing_more root f fs false is)))

behind_front : (root k : List ℕ) → is_behind root (root ++ k) ≡ true
behind_front root k = ap (λ t. bytes_eq root t) (take-append_seam root k) ∙ itself root

drop_front : (root k : List ℕ) → drop (length root) (root ++ k) ≡ k
drop_front [] k = refl
drop_front (x ∷ xs) k = drop_front xs k

listing_one : (root k b : List ℕ) → listing root ((root ++ k, b) ∷ []) ≡ (k, length b) ∷ []
listing_one root k b =
    listing_more root (root ++ k, b) [] true (behind_front root k) ∙ ap (λ (x : List ℕ). (x, length b) ∷ [])
    (drop_front root k)

put_keys : (root k b : List ℕ) (fs : Files) → keys_in root (put (root ++ k) b fs) ≡ keys_in root
    (without (root ++ k) fs) ++ cond (is_key k) ((k, length b) ∷ []) []
put_keys root k b fs =
    ap (filter (λ (e : List ℕ × ℕ). is_key e.0))
    (listing_append root (without (root ++ k) fs) ((root ++ k, b) ∷ [])
    ∙ ap (λ l. listing root (without (root ++ k) fs) ++ l) (listing_one root k b))
    ∙ filter-append (λ (e : List ℕ × ℕ). is_key e.0) (listing root (without (root ++ k) fs))
    ((k, length b) ∷ [])

pub keys_put : (root k b : List ℕ) (fs : Files) → is_key k ≡ true
    → keys_in root (put (root ++ k) b fs) ≡ but_key k (keys_in root fs) ++ (k, length b) ∷ []
keys_put root k b fs fit =
    put_keys root k b fs ∙ (λ i. keys_without root k fs i ++ cond (fit i) ((k, length b) ∷ []) [])

pub keys_put_other : (root k b : List ℕ) (fs : Files) → is_key k ≡ false
    → keys_in root (put (root ++ k) b fs) ≡ keys_in root fs
keys_put_other root k b fs none =
    put_keys root k b fs ∙ ((λ i. keys_without_other root k fs none i ++ cond (none i)
    ((k, length b) ∷ []) []) ∙ end_none (keys_in root fs))

-- ---- those that go

pub keys_each : (root : List ℕ) (gone : Entries) (fs : Files)
    → keys_in root (without_each root gone fs) ≡ but_each gone (keys_in root fs)
keys_each root [] fs = refl
keys_each root (g ∷ gone) fs =
    keys_each root gone (without (root ++ g.0) fs) ∙ ap (but_each gone) (keys_without root g.0 fs)

-- ---- a file takes the place of a key

pub keys_placed : (root from key b : List ℕ) (limit : ℕ) (es : Entries) (fs : Files) → is_key key ≡ true
    → file_at (without_each root (dropped limit (without_key key es)) fs) from ≡ Some b
    → keys_in root (without from (without_each root (dropped limit (without_key key es)) fs)) ≡ keys_in root
    (without_each root (dropped limit (without_key key es)) fs) → IsDistinct bytes_eq (keys_of es)
    → keys_in root fs ≡ es
    → keys_in root (files_placed root from (root ++ key) (dropped limit (without_key key es)) fs) ≡ stored key
    (length b) limit es
keys_placed root from key b limit es fs fit found same distinct in_step =
    let gone = dropped limit (without_key key es) in
    let two = without_each root gone fs in
    ap (λ o. keys_in root (put_found o (root ++ key) two (without from two))) found
    ∙ (keys_put root key b (without from two) fit
    ∙ ap (λ l. l ++ (key, length b) ∷ [])
    (ap (but_key key) (same ∙ (keys_each root gone fs ∙ ap (but_each gone) in_step))
    ∙ (but_each_later key gone es ∙ rest_out key limit es distinct)))

avoids_less : (root from key : List ℕ) (limit : ℕ) (es : Entries) → Avoids root from es
    → Avoids root from (dropped limit (without_key key es))
avoids_less root from key limit es avoids = front_of limit (without_key key es) (out es avoids)
  where
    out : (es : Entries) → Avoids root from es → Avoids root from (without_key key es)
    out [] h = tt
    out (e ∷ es) h = elim (bytes_eq key e.0) as (λ b. Avoids root from (cond b es (e ∷ without_key key es)))
        [ true ↦ h.1 | false ↦ (h.0, out es h.1) ]

    front_of : (limit : ℕ) (es : Entries) → Avoids root from es → Avoids root from (dropped limit es)
    front_of limit [] h = tt
    front_of limit (e ∷ es) h = elim (nat_le (total (e ∷ es)) limit) as
        (λ b. Avoids root from (cond b [] (e ∷ dropped limit es)))
        [ true ↦ tt | false ↦ (h.0, front_of limit es h.1) ]

-- by way of a temporary file
pub temp_placed : (root temp key b : List ℕ) (limit : ℕ) (es : Entries) (fs : Files) → is_key key ≡ true
    → is_key temp ≡ false → Avoids root (root ++ temp) es → file_at fs (root ++ temp) ≡ Some b
    → IsDistinct bytes_eq (keys_of es) → keys_in root fs ≡ es
    → keys_in root (files_placed root (root ++ temp) (root ++ key) (dropped limit (without_key key es)) fs)
    ≡ stored key (length b) limit es
temp_placed root temp key b limit es fs fit none avoids there distinct in_step =
    let gone = dropped limit (without_key key es) in
    keys_placed root (root ++ temp) key b limit es fs fit
    (there_still root (root ++ temp) b gone fs (avoids_less root (root ++ temp) key limit es avoids)
    there) (keys_without_other root temp (without_each root gone fs) none) distinct in_step

-- ---- one is looked up, or announced, or its file is written

pub keys_touched : (root key b : List ℕ) (n : ℕ) (es : Entries) (fs : Files) → is_key key ≡ true
    → file_at fs (root ++ key) ≡ Some b → length b ≡ n → lookup (bytes_eq key) es ≡ Some n
    → IsDistinct bytes_eq (keys_of es) → keys_in root fs ≡ es
    → keys_in root (touched (root ++ key) fs) ≡ promoted_key key es
keys_touched root key b n es fs fit there size found distinct in_step =
    ap (λ o. keys_in root (put_found o (root ++ key) fs fs)) there
    ∙ (keys_put root key b fs fit
    ∙ ((λ i. but_key key (in_step i) ++ (key, size i) ∷ [])
    ∙ (ap (λ l. l ++ (key, n) ∷ []) (sym (out_once key es distinct))
    ∙ sym (ap (λ o. option_map_or (λ p. remove_entry (bytes_eq key) es ++ p ∷ []) o es)
    (found_entry key n es found)))))

pub keys_prepared : (root temp : List ℕ) (limit : ℕ) (es : Entries) (fs : Files) → is_key temp ≡ false
    → IsDistinct bytes_eq (keys_of es) → keys_in root fs ≡ es
    → keys_in root (without_each root (dropped limit es) (put (root ++ temp) [] fs)) ≡ trim limit es
keys_prepared root temp limit es fs none distinct in_step =
    keys_each root (dropped limit es) (put (root ++ temp) [] fs)
    ∙ (ap (but_each (dropped limit es)) (keys_put_other root temp [] fs none
    ∙ (in_step ∙ dropped_and_rest limit es))
    ∙ front_out (dropped limit es) (trim limit es)
    (subst (λ l. IsDistinct bytes_eq (keys_of l)) (dropped_and_rest limit es) distinct))

pub keys_appended : (root temp bytes : List ℕ) (fs : Files) → is_key temp ≡ false
    → keys_in root (appended (root ++ temp) bytes fs) ≡ keys_in root fs
keys_appended root temp bytes fs none = by (file_at fs (root ++ temp))
  where
    by : (o : Option (List ℕ))
        → keys_in root (put_found (option_map (λ old. old ++ bytes) o) (root ++ temp) fs fs) ≡ keys_in root fs
    by None = refl
    by (Some b) = keys_put_other root temp (b ++ bytes) fs none

pub keys_gone : (root key : List ℕ) (es : Entries) (fs : Files) → IsDistinct bytes_eq (keys_of es)
    → keys_in root fs ≡ es → keys_in root (without (root ++ key) fs) ≡ without_key key es
keys_gone root key es fs distinct in_step =
    keys_without root key fs ∙ (ap (but_key key) in_step ∙ sym (out_once key es distinct))

-- ---- a file that stood elsewhere

listing_elsewhere : (root p : List ℕ) (fs : Files) → is_behind root p ≡ false
    → listing root (without p fs) ≡ listing root fs
listing_elsewhere root p [] away = refl
listing_elsewhere root p (f ∷ fs) away = by (bytes_eq p f.0) (is_behind root f.0) refl refl
    (listing_elsewhere root p fs away)
  where
    by : (s r : Bool) → bytes_eq p f.0 ≡ s → is_behind root f.0 ≡ r
        → listing root (without p fs) ≡ listing root fs
        → listing root (cond (not s) (f ∷ without p fs) (without p fs)) ≡ listing root (f ∷ fs)
    by true true same is rest =
        absurd (true≢false (sym is ∙ (ap (is_behind root) (sym ((bytes_eq-Decides p f.0).0 same)) ∙ away)))
    by true false same is rest = rest ∙ sym (listing_more root f fs false is)
    by false true other is rest =
        listing_more root f (without p fs) true is
        ∙ (ap (λ l. entry root f ∷ l) rest ∙ sym (listing_more root f fs true is))
    by false false other is rest = listing_more root f (without p fs) false is
        ∙ (rest ∙ sym (listing_more root f fs false is))

avoids_key : (root k : List ℕ) (es : Entries) → Avoids root (root ++ k) es
    → AllByRecursion (λ q. bytes_eq k q ≡ false) (keys_of es)
avoids_key root k [] h = tt
avoids_key root k (e ∷ es) h = (apart e.0 k (sym (same_front root e.0 k) ∙ h.0), avoids_key root k es h.1)

-- a file that no listed key has tells nothing either
pub keys_moved_out : (root from : List ℕ) (gone es : Entries) (fs : Files) → Avoids root from es
    → keys_in root fs ≡ es → keys_in root (without from (without_each root gone fs)) ≡ keys_in root
    (without_each root gone fs)
keys_moved_out root from gone es fs avoids in_step = by (is_behind root from) refl
  where
    two : Files
    two = without_each root gone fs

    by : (b : Bool) → is_behind root from ≡ b → keys_in root (without from two) ≡ keys_in root two
    by false is = ap (filter (λ (e : List ℕ × ℕ). is_key e.0)) (listing_elsewhere root from two is)
    by true is =
        let k = drop (length root) from in
        let path : from ≡ root ++ k = begins from root is in
        let now : keys_in root two ≡ but_each gone es = keys_each root gone fs ∙ ap (but_each gone) in_step in
        ap (λ p. keys_in root (without p two)) path
        ∙ (keys_without root k two
        ∙ (ap (but_key k) now
        ∙ (but_each_later k gone es
        ∙ (ap (but_each gone) (none_out k es
        (avoids_key root k es (subst (λ p. Avoids root p es) path avoids)))
        ∙ sym now))))

pub moved_placed : (root from key b : List ℕ) (limit : ℕ) (es : Entries) (fs : Files) → is_key key ≡ true
    → Avoids root from es → file_at fs from ≡ Some b → IsDistinct bytes_eq (keys_of es) → keys_in root fs ≡ es
    → keys_in root (files_placed root from (root ++ key) (dropped limit (without_key key es)) fs) ≡ stored key
    (length b) limit es
moved_placed root from key b limit es fs fit avoids there distinct in_step =
    let gone = dropped limit (without_key key es) in
    keys_placed root from key b limit es fs fit
    (there_still root from b gone fs (avoids_less root from key limit es avoids) there)
    (keys_moved_out root from gone es fs avoids in_step) distinct in_step
