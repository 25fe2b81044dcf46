-- What an opening leaves of the files that it lists, whether it succeeds or not.
use Rattle.std.proofs.Common.{◌≡◌, ℕ, ◌+◌, ◌≤◌, ◌<◌, zero, suc, Bool, true, false, cond, ◌&&◌, nat_le, List, [], ◌∷◌, ◌++◌, length}
use Rattle.std.proofs.Common.{drop, filter, Option, Some, None, refl, sym, ap, subst, ◌∙◌, true≢false, arith}
use Rattle.std.proofs.Common.{is_some, leb-true}
use Rattle.std.specs.List.{AllByRecursion, IsDistinct}
use Rattle.std.specs.Map.{keys_of}
use Rattle.std.specs.Option.{option_map}
use Rattle.std.specs.Str.{bytes_eq}
use Rattle.std.proofs.lemmas.Slice.Eq.{bytes_eq-Decides}
use Rattle.folders.specs.Files.{Files, file_at, size_at, found_behind}
use Rattle.folders.specs.Held.{Held, Holds, Became}
use Rattle.folders.specs.declared.folder.Found.{Found}
use Rattle.folders.proofs.Became.{became_map, became_same, became_then}
use Rattle.listed_files.specs.Key.{is_key}
use Rattle.listed_files.specs.Entries.{Entries, trim}
use Rattle.folders.specs.Changed.{SameAt, OnlyRemoved, RemovedAt}
use Rattle.listed_files.specs.Disk.{Backed, Keeps}
use Rattle.listed_files.specs.Opened.{is_kept, kept, listing, opened, Shows, KeepsKept, KeepsOpened}
use Rattle.listed_files.proofs.Listings.{backed_listing, distinct_listing}
use Rattle.listed_files.proofs.Opens.{trim_has}
use Rattle.listed_files.proofs.Paths.{same_front}
use Rattle.listed_files.proofs.Standing.{all_both}

-- ---- what holds of all entries

all_of : (P : List ℕ × ℕ → Type 0) → ((e : List ℕ × ℕ) → P e) → (es : Entries) → AllByRecursion P es
all_of P h [] = tt
all_of P h (e ∷ es) = (h e, all_of P h es)

at_entry : (P : List ℕ × ℕ → Type 0) (front : Entries) (e : List ℕ × ℕ) (rest : Entries)
    → AllByRecursion P (front ++ e ∷ rest) → P e
at_entry P [] e rest h = h.0
at_entry P (f ∷ fs) e rest h = at_entry P fs e rest h.1

all_dropped : (P : List ℕ × ℕ → Type 0) (n : ℕ) (es : Entries) → AllByRecursion P es
    → AllByRecursion P (drop n es)
all_dropped P zero es h = h
all_dropped P (suc n) [] h = tt
all_dropped P (suc n) (e ∷ es) h = all_dropped P n es h.1

pub all_later : (P : List ℕ × ℕ → Type 0) (a b : ℕ) (es : Entries) → a ≤ b → AllByRecursion P (drop a es)
    → AllByRecursion P (drop b es)
all_later P zero b es within h = all_dropped P b es h
all_later P (suc a) zero es within h = absurd (omega (arith, within))
all_later P (suc a) (suc b) [] within h = tt
all_later P (suc a) (suc b) (e ∷ es) within h = all_later P a b es (omega (arith, within)) h

filter_has : (P : List ℕ × ℕ → Type 0) (test : List ℕ × ℕ → Bool) (es : Entries) → AllByRecursion P es
    → AllByRecursion (λ e. (test e ≡ true) × P e) (filter test es)
filter_has P test [] h = tt
filter_has P test (e ∷ es) h = by (test e) refl (filter_has P test es h.1)
  where
    by : (b : Bool) → test e ≡ b → AllByRecursion (λ e. (test e ≡ true) × P e) (filter test es)
        → AllByRecursion (λ e. (test e ≡ true) × P e) (cond b (e ∷ filter test es) (filter test es))
    by true is rest = ((is, h.0), rest)
    by false is rest = rest

-- ---- sorting out

pub none_out_kept : (root : List ℕ) (capacity : ℕ) (o : Option Files) → Became (KeepsKept root capacity) o o
none_out_kept root capacity o = became_same (KeepsKept root capacity) o (λ f k b fits found. found)

kept_same : (root : List ℕ) (capacity : ℕ) (old new : Option Files) → Became SameAt old new
    → Became (KeepsKept root capacity) old new
kept_same root capacity old new h =
    became_map SameAt (KeepsKept root capacity) old new (λ f g same k b fits found. same (root ++ k) ∙ found) h

pub kept_both : (root : List ℕ) (capacity : ℕ) (one two three : Option Files)
    → Became (KeepsKept root capacity) one two → Became (KeepsKept root capacity) two three
    → Became (KeepsKept root capacity) one three
kept_both root capacity one two three a b =
    became_then (KeepsKept root capacity) (KeepsKept root capacity) (KeepsKept root capacity) one two three
    (λ f g h x y k c fits found. y k c fits (x k c fits found)) a b

pub not_key : (capacity : ℕ) (key : List ℕ) (size : ℕ) → is_key key ≡ false → is_kept capacity (key, size) ≡ false
not_key capacity key size is = ap (λ b. b && nat_le size capacity) is

pub too_large : (capacity : ℕ) (key : List ℕ) (size : ℕ) → capacity < size → is_kept capacity (key, size) ≡ false
too_large capacity key size more = by (is_key key) (nat_le size capacity) refl
  where
    by : (a b : Bool) → nat_le size capacity ≡ b → (a && b) ≡ false
    by true true is = absurd (omega (arith, more, leb-true size capacity is))
    by true false is = refl
    by false b is = refl

-- the file of a key that is not kept goes, or not
but_one : (root key : List ℕ) (size capacity : ℕ) (f g : Files) → is_kept capacity (key, size) ≡ false
    → RemovedAt (root ++ key) f g → size_at f (root ++ key) ≡ Some size → KeepsKept root capacity f g
but_one root key size capacity f g not part sized = λ k b fits found.
    by k b fits found (bytes_eq key k) refl
  where
    by : (k b : List ℕ) → is_kept capacity (k, length b) ≡ true → file_at f (root ++ k) ≡ Some b
        → (x : Bool) → bytes_eq key k ≡ x → file_at g (root ++ k) ≡ Some b
    by k b fits found false other = part.1 (root ++ k) (same_front root key k ∙ other) ∙ found
    by k b fits found true same =
        let is : key ≡ k = (bytes_eq-Decides key k).0 same in
        let both : Some size ≡ Some (length b) = sym sized
        ∙ (ap (λ q. size_at f (root ++ q)) is ∙ ap (option_map length) found) in
        let long : size ≡ length b = cc in
        absurd (true≢false (sym fits ∙ (sym (λ i. is_kept capacity (is i, long i)) ∙ not)))

pub kept_but : (root key : List ℕ) (size capacity : ℕ) (front rest : Entries) (old new : Held)
    → is_kept capacity (key, size) ≡ false → Became (RemovedAt (root ++ key)) old.files new.files
    → Shows root old (front ++ (key, size) ∷ rest) → Became (KeepsKept root capacity) old.files new.files
kept_but root key size capacity front rest old new not part shows = by old.files part shows
  where
    by : (o : Option Files) → Became (RemovedAt (root ++ key)) o new.files
        → ((f : Files) → o ≡ Some f → IsDistinct bytes_eq (keys_of f)
        × (listing root f ≡ front ++ (key, size) ∷ rest))
        → Became (KeepsKept root capacity) o new.files
    by None h shown = h
    by (Some f) h shown =
        let is = shown f refl in
        let backed = subst (λ l. Backed root f l) is.1 (backed_listing root f is.0) in (
          h.0,
          h.1,
          but_one root key size capacity f h.0 not h.2
              (at_entry (λ e. size_at f (root ++ e.0) ≡ Some e.1) front (key, size) rest backed),
        )

-- ---- dropping what is least recent

-- a file of this size that is left is as it was
still : (p : List ℕ) (n : ℕ) (f g : Files) → OnlyRemoved f g → size_at g p ≡ Some n → file_at g p ≡ file_at f p
still p n f g removed sized = by (file_at g p) refl sized
  where
    by : (o : Option (List ℕ)) → file_at g p ≡ o → option_map length o ≡ Some n → o ≡ file_at f p
    by None is none = absurd (true≢false (sym (ap is_some none)))
    by (Some b) is some = sym (removed p b is)

-- what is shown was there
pub shown_keeps : (root : List ℕ) (es : Entries) (old new : Held) → Shows root new es
    → Became OnlyRemoved old.files new.files → Became (Keeps root es) old.files new.files
shown_keeps root es old new shows part = by old.files part
  where
    by : (o : Option Files) → Became OnlyRemoved o new.files → Became (Keeps root es) o new.files
    by None h = h
    by (Some f) h =
        let is = shows h.0 h.1 in
        let backed = subst (λ l. Backed root h.0 l) is.1 (backed_listing root h.0 is.0) in
        (h.0, h.1, all_both es backed backed (λ e sized again. still (root ++ e.0) e.1 f h.0 h.2 sized))

apart_all : (root k : List ℕ) (es : Entries) (f g : Files) → RemovedAt (root ++ k) f g
    → AllByRecursion (λ q. bytes_eq k q ≡ false) (keys_of es) → Keeps root es f g
apart_all root k [] f g part h = tt
apart_all root k (e ∷ es) f g part h =
    (part.1 (root ++ e.0) (same_front root k e.0 ∙ h.0), apart_all root k es f g part h.1)

-- the file of the first entry goes, or not
first_keeps : (root : List ℕ) (e : List ℕ × ℕ) (es : Entries) (old new : Held) → Shows root old (e ∷ es)
    → Became (RemovedAt (root ++ e.0)) old.files new.files → Became (Keeps root es) old.files new.files
unfolding IsDistinct
first_keeps root e es old new shows part = by old.files part shows
  where
    others : (l : Entries) → l ≡ e ∷ es → IsDistinct bytes_eq (keys_of l)
        → AllByRecursion (λ q. bytes_eq e.0 q ≡ false) (keys_of es)
    others l is h = (subst (λ l. IsDistinct bytes_eq (keys_of l)) is h).0

    by : (o : Option Files) → Became (RemovedAt (root ++ e.0)) o new.files
        → ((f : Files) → o ≡ Some f → IsDistinct bytes_eq (keys_of f) × (listing root f ≡ e ∷ es))
        → Became (Keeps root es) o new.files
    by None h shown = h
    by (Some f) h shown =
        let is = shown f refl in (
          h.0,
          h.1,
          apart_all root e.0 es f h.0 h.2
              (others (listing root f) is.1 (distinct_listing root f is.0)),
        )

keeps_then : (root : List ℕ) (es : Entries) (one two three : Option Files) → Became (Keeps root es) one two
    → Became (Keeps root es) two three → Became (Keeps root es) one three
keeps_then root es one two three a b =
    became_then (Keeps root es) (Keeps root es) (Keeps root es) one two three
    (λ f g h x y. all_both es x y (λ e p q. q ∙ p)) a b

-- of those that are to go one goes, or not, and those behind them stay
pub later_keeps : (root : List ℕ) (i m : ℕ) (good : Entries) (e : List ℕ × ℕ) (old now new : Held) → i < m
    → drop i good ≡ e ∷ drop (i + 1) good → Shows root now (drop i good)
    → Became OnlyRemoved old.files now.files → Became (RemovedAt (root ++ e.0)) now.files new.files
    → Became (Keeps root (drop m good)) old.files new.files
later_keeps root i m good e old now new within split shows was part =
    let tail = drop (i + 1) good in
    let shown = subst (λ l. Shows root now l) split shows in
    let before = became_map (Keeps root (e ∷ tail)) (Keeps root tail) old.files now.files (λ f g h. h.1)
    (shown_keeps root (e ∷ tail) old now shown was) in
    let after = first_keeps root e tail now new shown part in
    became_map (Keeps root tail) (Keeps root (drop m good)) old.files new.files
    (λ f g h. all_later (λ x. file_at g (root ++ x.0) ≡ file_at f (root ++ x.0)) (i + 1) m good
    (omega (arith, within)) h) (keeps_then root tail old.files now.files new.files before after)

-- ---- an opening

pub none_opened : (root : List ℕ) (capacity : ℕ) (o : Option Files) → Became (KeepsOpened root capacity) o o
none_opened root capacity o = became_same (KeepsOpened root capacity) o
    (λ f. all_of (λ e. file_at f (root ++ e.0) ≡ file_at f (root ++ e.0)) (λ e. refl) (opened root capacity f))

pub opened_same : (root : List ℕ) (capacity : ℕ) (old new : Option Files) → Became SameAt old new
    → Became (KeepsOpened root capacity) old new
opened_same root capacity old new h = became_map SameAt (KeepsOpened root capacity) old new
    (λ f g same. all_of (λ e. file_at g (root ++ e.0) ≡ file_at f (root ++ e.0)) (λ e. same (root ++ e.0))
    (opened root capacity f)) h

kept_file : (root : List ℕ) (capacity : ℕ) (e : List ℕ × ℕ) (f g : Files) → KeepsKept root capacity f g
    → is_kept capacity e ≡ true → size_at f (root ++ e.0) ≡ Some e.1
    → file_at g (root ++ e.0) ≡ file_at f (root ++ e.0)
kept_file root capacity e f g keeps fits sized = by (file_at f (root ++ e.0)) refl sized
  where
    by : (o : Option (List ℕ)) → file_at f (root ++ e.0) ≡ o → option_map length o ≡ Some e.1
        → file_at g (root ++ e.0) ≡ o
    by None is none = absurd (true≢false (sym (ap is_some none)))
    by (Some b) is some =
        let long : length b ≡ e.1 = cc in
        keeps e.0 b (ap (λ n. is_kept capacity (e.0, n)) long ∙ fits) is

opened_keeps : (root : List ℕ) (capacity : ℕ) (f g : Files) → IsDistinct bytes_eq (keys_of f)
    → KeepsKept root capacity f g → KeepsOpened root capacity f g
opened_keeps root capacity f g distinct keeps =
    let P : List ℕ × ℕ → Type 0 = λ e. size_at f (root ++ e.0) ≡ Some e.1 in
    let Q : List ℕ × ℕ → Type 0 = λ e. (is_kept capacity e ≡ true) × P e in
    let all = trim_has (λ l. AllByRecursion Q l) (λ e es h. h.1) capacity
    (filter (is_kept capacity) (listing root f))
    (filter_has P (is_kept capacity) (listing root f) (backed_listing root f distinct)) in
    all_both (opened root capacity f) all all
    (λ e h again. kept_file root capacity e f g keeps h.0 h.1)

-- what is sorted out leaves them
pub sorted_opened : (root : List ℕ) (capacity : ℕ) (old one two : Held)
    → Holds old (λ f. IsDistinct bytes_eq (keys_of f)) → Became SameAt old.files one.files
    → Became (KeepsKept root capacity) one.files two.files
    → Became (KeepsOpened root capacity) old.files two.files
sorted_opened root capacity old one two distinct same keeps =
    by old.files distinct
    (kept_both root capacity old.files one.files two.files
    (kept_same root capacity old.files one.files same) keeps)
  where
    by : (o : Option Files) → ((f : Files) → o ≡ Some f → IsDistinct bytes_eq (keys_of f))
        → Became (KeepsKept root capacity) o two.files → Became (KeepsOpened root capacity) o two.files
    by None d h = h
    by (Some f) d h = (h.0, h.1, opened_keeps root capacity f h.0 (d f refl) h.2)

-- and so does what is dropped then
pub dropped_opened : (root front : List ℕ) (capacity : ℕ) (found : List Found) (good : Entries)
    (old two three : Held) → front ≡ root → good ≡ kept root capacity found
    → Holds old (λ f. found ≡ found_behind front f) → Became (KeepsOpened root capacity) old.files two.files
    → Became (Keeps root (trim capacity good)) two.files three.files
    → Became (KeepsOpened root capacity) old.files three.files
dropped_opened root front capacity found good old two three is good_is found_is sorted stays =
    by old.files found_is sorted
  where
    by : (o : Option Files) → ((f : Files) → o ≡ Some f → found ≡ found_behind front f)
        → Became (KeepsOpened root capacity) o two.files → Became (KeepsOpened root capacity) o three.files
    by None told h =
        let P : Option Files → Type 0 = λ o. Became (Keeps root (trim capacity good)) o three.files in
        subst P h stays
    by (Some f) told h =
        let P : Option Files → Type 0 = λ o. Became (Keeps root (trim capacity good)) o three.files in
        let after = subst P h.1 stays in
        let all : trim capacity good ≡ opened root capacity f =
        ap (trim capacity) good_is ∙ ap (λ l. trim capacity (kept root capacity l))
        (told f refl ∙ ap (λ p. found_behind p f) is) in (
          after.0,
          after.1,
          all_both (opened root capacity f) h.2
              (subst (λ l. Keeps root l h.0 after.0) all after.2) (λ e p q. q ∙ p),
        )
