-- The files under a root as a list of keys and sizes.
use Rattle.std.proofs.Common.{◌≡◌, ℕ, Bool, true, false, cond, not, List, [], ◌∷◌, ◌++◌, length, drop, map}
use Rattle.std.proofs.Common.{filter, Some, None, refl, sym, ap, subst, ◌∙◌, true≢false}
use Rattle.std.specs.List.{AllByRecursion, IsDistinct}
use Rattle.std.specs.Map.{keys_of, lookup}
use Rattle.std.specs.Option.{option_map}
use Rattle.std.specs.Str.{bytes_eq}
use Rattle.std.proofs.Math.Seq.{take-append_seam}
use Rattle.std.proofs.lemmas.Slice.Eq.{bytes_eq-Decides}
use Rattle.folders.specs.Files.{Files, without, is_behind}
use Rattle.folders.specs.Held.{Held, Became}
use Rattle.folders.specs.declared.folder.Found.{Found}
use Rattle.folders.proofs.Became.{became_from}
use Rattle.folders.proofs.Distinct.{apart, without_distinct}
use Rattle.folders.proofs.Lookups.{itself}
use Rattle.listed_files.specs.Entries.{Entries}
use Rattle.listed_files.specs.Disk.{Backed}
use Rattle.listed_files.specs.Opened.{with_key, keyed, listing, Shows}
use Rattle.listed_files.proofs.Paths.{same_front}
use Rattle.listed_files.proofs.Standing.{all_both}
use Rattle.listed_files.proofs.Strips.{begins}

-- the entry that a file gives
abbrev pub entry : List ℕ → List ℕ × List ℕ → List ℕ × ℕ
entry root f = (drop (length root) f.0, length f.1)

pub listing_more : (root : List ℕ) (f : List ℕ × List ℕ) (fs : Files) (b : Bool) → is_behind root f.0 ≡ b
    → listing root (f ∷ fs) ≡ cond b (entry root f ∷ listing root fs) (listing root fs)
listing_more root f fs true is =
    ap (λ b. keyed root (map
    (λ (x : List ℕ × List ℕ). let made : Found = record { path = x.0; size = length x.1 } in made)
    (cond b (f ∷ filter (λ x. is_behind root x.0) fs) (filter (λ x. is_behind root x.0) fs)))) is
    ∙ ap (λ b. with_key (cond b (Some (drop (length root) f.0)) None) (length f.1) (listing root fs)) is
listing_more root f fs false is =
    ap (λ b. keyed root (map
    (λ (x : List ℕ × List ℕ). let made : Found = record { path = x.0; size = length x.1 } in made)
    (cond b (f ∷ filter (λ x. is_behind root x.0) fs) (filter (λ x. is_behind root x.0) fs)))) is

-- what holds of each path holds of each listed one
pub all_listing : (P : List ℕ → Type 0) (root : List ℕ) (fs : Files) → AllByRecursion P (keys_of fs)
    → AllByRecursion (λ e. P (root ++ e.0)) (listing root fs)
all_listing P root [] h = tt
all_listing P root (f ∷ fs) h = by (is_behind root f.0) refl (all_listing P root fs h.1)
  where
    by : (b : Bool) → is_behind root f.0 ≡ b → AllByRecursion (λ e. P (root ++ e.0)) (listing root fs)
        → AllByRecursion (λ e. P (root ++ e.0)) (listing root (f ∷ fs))
    by true is rest =
        subst (λ l. AllByRecursion (λ e. P (root ++ e.0)) l) (sym (listing_more root f fs true is))
        (subst P (begins f.0 root is) h.0, rest)
    by false is rest =
        subst (λ l. AllByRecursion (λ e. P (root ++ e.0)) l) (sym (listing_more root f fs false is)) rest

keys_all : (P : List ℕ → Type 0) (es : Entries) → AllByRecursion (λ e. P e.0) es
    → AllByRecursion P (keys_of es)
keys_all P [] h = tt
keys_all P (e ∷ es) h = (h.0, keys_all P es h.1)

-- the keys listed differ
pub distinct_listing : (root : List ℕ) (fs : Files) → IsDistinct bytes_eq (keys_of fs)
    → IsDistinct bytes_eq (keys_of (listing root fs))
unfolding IsDistinct
distinct_listing root [] h = tt
distinct_listing root (f ∷ fs) h = by (is_behind root f.0) refl (distinct_listing root fs h.1)
  where
    others : is_behind root f.0 ≡ true → AllByRecursion (λ k. bytes_eq (drop (length root) f.0) k ≡ false)
        (keys_of (listing root fs))
    others is =
        let apart_paths = all_listing (λ q. bytes_eq f.0 q ≡ false) root fs h.0 in
        keys_all (λ k. bytes_eq (drop (length root) f.0) k ≡ false) (listing root fs)
        (all_both (listing root fs) apart_paths apart_paths (λ e other again.
        sym (same_front root (drop (length root) f.0) e.0)
        ∙ (ap (λ p. bytes_eq p (root ++ e.0)) (sym (begins f.0 root is)) ∙ other)))

    by : (b : Bool) → is_behind root f.0 ≡ b → IsDistinct bytes_eq (keys_of (listing root fs))
        → IsDistinct bytes_eq (keys_of (listing root (f ∷ fs)))
    by true is rest =
        subst (λ l. IsDistinct bytes_eq (keys_of l)) (sym (listing_more root f fs true is)) (others is, rest)
    by false is rest = subst (λ l. IsDistinct bytes_eq (keys_of l)) (sym (listing_more root f fs false is))
        rest

-- each has its file
pub backed_listing : (root : List ℕ) (fs : Files) → IsDistinct bytes_eq (keys_of fs)
    → Backed root fs (listing root fs)
unfolding IsDistinct
backed_listing root [] h = tt
backed_listing root (f ∷ fs) h = by (is_behind root f.0) refl (backed_listing root fs h.1)
  where
    more : Backed root fs (listing root fs) → Backed root (f ∷ fs) (listing root fs)
    more rest =
        all_both (listing root fs) rest (all_listing (λ q. bytes_eq f.0 q ≡ false) root fs h.0)
        (λ e sized other.
        ap (λ b. option_map length (cond b (Some f.1) (lookup (bytes_eq (root ++ e.0)) fs)))
        (apart f.0 (root ++ e.0) other) ∙ sized)

    by : (b : Bool) → is_behind root f.0 ≡ b → Backed root fs (listing root fs)
        → Backed root (f ∷ fs) (listing root (f ∷ fs))
    by true is rest =
        let here : bytes_eq (root ++ drop (length root) f.0) f.0 ≡ true =
        (bytes_eq-Decides (root ++ drop (length root) f.0) f.0).1 (sym (begins f.0 root is)) in
        subst (λ l. Backed root (f ∷ fs) l) (sym (listing_more root f fs true is)) (
          ap (λ b. option_map length
              (cond b (Some f.1) (lookup (bytes_eq (root ++ drop (length root) f.0)) fs))) here,
          more rest,
        )
    by false is rest = subst (λ l. Backed root (f ∷ fs) l) (sym (listing_more root f fs false is)) (more rest)

-- ---- taking a file out

abbrev pub but_key : List ℕ → Entries → Entries
but_key k es = filter (λ e. not (bytes_eq k e.0)) es

pub out_kept : (k : List ℕ) (e : List ℕ × ℕ) (es : Entries) → bytes_eq k e.0 ≡ false
    → but_key k (e ∷ es) ≡ e ∷ but_key k es
out_kept k e es other = ap (λ b. cond (not b) (e ∷ but_key k es) (but_key k es)) other

pub out_gone : (k : List ℕ) (e : List ℕ × ℕ) (es : Entries) → bytes_eq k e.0 ≡ true
    → but_key k (e ∷ es) ≡ but_key k es
out_gone k e es same = ap (λ b. cond (not b) (e ∷ but_key k es) (but_key k es)) same

pub listing_without : (root k : List ℕ) (fs : Files) → listing root (without (root ++ k) fs) ≡ but_key k
    (listing root fs)
listing_without root k [] = refl
listing_without root k (f ∷ fs) = by (bytes_eq (root ++ k) f.0) (is_behind root f.0) refl refl
    (listing_without root k fs)
  where
    by : (s r : Bool) → bytes_eq (root ++ k) f.0 ≡ s → is_behind root f.0 ≡ r
        → listing root (without (root ++ k) fs) ≡ but_key k (listing root fs)
        → listing root (cond (not s) (f ∷ without (root ++ k) fs) (without (root ++ k) fs)) ≡ but_key k
        (listing root (f ∷ fs))
    by true true same is rest =
        let key : bytes_eq k (drop (length root) f.0) ≡ true =
        sym (same_front root k (drop (length root) f.0))
        ∙ (ap (λ p. bytes_eq (root ++ k) p) (sym (begins f.0 root is)) ∙ same) in
        rest ∙ sym (ap (but_key k) (listing_more root f fs true is) ∙ out_gone k (entry root f)
        (listing root fs) key)
    by true false same is rest =
        let path : f.0 ≡ root ++ k = sym ((bytes_eq-Decides (root ++ k) f.0).0 same) in
        let front : is_behind root (root ++ k) ≡ true = ap (λ t. bytes_eq root t) (take-append_seam root k)
        ∙ itself root in
        absurd (true≢false (sym front ∙ (ap (is_behind root) (sym path) ∙ is)))
    by false true other is rest =
        let key : bytes_eq k (drop (length root) f.0) ≡ false =
        sym (same_front root k (drop (length root) f.0))
        ∙ (ap (λ p. bytes_eq (root ++ k) p) (sym (begins f.0 root is)) ∙ other) in
        listing_more root f (without (root ++ k) fs) true is
        ∙ (ap (λ l. entry root f ∷ l) rest
        ∙ sym (ap (but_key k) (listing_more root f fs true is) ∙ out_kept k (entry root f)
        (listing root fs) key))
    by false false other is rest =
        listing_more root f (without (root ++ k) fs) false is
        ∙ (rest ∙ sym (ap (but_key k) (listing_more root f fs false is)))

pub none_out : (k : List ℕ) (es : Entries) → AllByRecursion (λ q. bytes_eq k q ≡ false) (keys_of es)
    → but_key k es ≡ es
none_out k [] h = refl
none_out k (e ∷ es) h = out_kept k e es h.0 ∙ ap (λ l. e ∷ l) (none_out k es h.1)

pub at_middle : (P : List ℕ → Type 0) (front : Entries) (e : List ℕ × ℕ) (rest : Entries)
    → AllByRecursion P (keys_of (front ++ e ∷ rest)) → P e.0
at_middle P [] e rest h = h.0
at_middle P (f ∷ fs) e rest h = at_middle P fs e rest h.1

one_out : (k : List ℕ) (n : ℕ) (front rest : Entries) → IsDistinct bytes_eq (keys_of (front ++ (k, n) ∷ rest))
    → but_key k (front ++ (k, n) ∷ rest) ≡ front ++ rest
unfolding IsDistinct
one_out k n [] rest h = out_gone k (k, n) rest (itself k) ∙ none_out k rest h.0
one_out k n (f ∷ fs) rest h =
    out_kept k f (fs ++ (k, n) ∷ rest)
    (apart f.0 k (at_middle (λ q. bytes_eq f.0 q ≡ false) fs (k, n) rest h.0))
    ∙ ap (λ l. f ∷ l) (one_out k n fs rest h.1)

-- what is shown once the file of one entry is gone
pub shows_without : (root k : List ℕ) (n : ℕ) (front rest : Entries) (old new : Held)
    → Became (λ f g. g ≡ without (root ++ k) f) old.files new.files → Shows root old (front ++ (k, n) ∷ rest)
    → Shows root new (front ++ rest)
shows_without root k n front rest old new became shows files told =
    let w = became_from (λ f g. g ≡ without (root ++ k) f) old.files new.files files became told in
    let was = shows w.0 w.1 in
    let keys = subst (λ l. IsDistinct bytes_eq (keys_of l)) was.1 (distinct_listing root w.0 was.0) in (
      without_distinct (root ++ k) w.0 files w.2 was.0,
      ap (listing root) w.2
          ∙ (listing_without root k w.0 ∙ (ap (but_key k) was.1 ∙ one_out k n front rest keys)),
    )
