-- What an opening sorts out, file by file.
use Rattle.std.proofs.Common.{◌≡◌, ℕ, ◌+◌, ◌≤◌, true, false, cond, List, [], ◌∷◌, ◌++◌, Option, Some, None}
use Rattle.std.proofs.Common.{Result, Ok, Err, OnOk, refl, sym, ap, subst, ◌∙◌, append_assoc, append-nil}
use Rattle.std.proofs.Common.{arith, zero, suc, ◌<◌, ◌-◌, length, take, drop, get_or, filter}
use Rattle.std.proofs.lemmas.List.{take_more, drop_more, get_or-take, length-take, take-append-drop}
use Rattle.std.proofs.lemmas.List.Elements.{filter-append}
use Rattle.std.proofs.lemmas.List.Sums.{sum_by-cons}
use Rattle.std.specs.List.{IsDistinct}
use Rattle.std.specs.Map.{keys_of, remove_entry}
use Rattle.std.specs.Str.{bytes_eq}
use Rattle.folders.specs.Files.{without}
use Rattle.folders.specs.Held.{Held, Became}
use Rattle.folders.specs.declared.folder.Found.{Found}
use Rattle.dist_types.specs.declared.folder_fault.FolderFault.{FolderFault}
use Rattle.listed_files.specs.Key.{is_key}
use Rattle.listed_files.specs.Entries.{Entries, Listed, total, sizes, trim}
use Rattle.listed_files.specs.Disk.{AllKeys}
use Rattle.listed_files.specs.Opened.{stripped, with_key, keyed, is_kept, kept, Shows}
use Rattle.lru_metered.proofs.Lookups.{size-others}
use Rattle.folders.proofs.Distinct.{apart}
use Rattle.listed_files.proofs.Listings.{shows_without, at_middle}
use Rattle.listed_files.proofs.Standing.{all_push, all_removed}
use Rattle.listed_files.proofs.Trims.{total_more, trim_fits, trim_more}

-- the file of an entry is removed
pub one_dropped : (root path key : List ℕ) (n : ℕ) (front rest : Entries)
    (result : Result (Unit {0}) FolderFault) (old new : Held) → stripped root path ≡ Some key
    → OnOk result (Became (λ f g. g ≡ without (root ++ key) f) old.files new.files)
    → Shows root old (front ++ (with_key (stripped root path) n [] ++ rest))
    → OnOk result (Shows root new (front ++ rest))
one_dropped root path key n front rest (Ok x) old new is became shows =
    shows_without root key n front rest old new became
    (subst (λ o. Shows root old (front ++ (with_key o n [] ++ rest))) is shows)
one_dropped root path key n front rest (Err e) old new is became shows = tt

-- it is kept
pub one_kept : (root path key : List ℕ) (n : ℕ) (front rest now : Entries) (held : Held)
    → stripped root path ≡ Some key → now ≡ front ++ (key, n) ∷ []
    → Shows root held (front ++ (with_key (stripped root path) n [] ++ rest)) → Shows root held (now ++ rest)
one_kept root path key n front rest now held is now_is shows =
    subst (λ l. Shows root held l)
    (sym (ap (λ l. l ++ rest) now_is ∙ append_assoc front ((key, n) ∷ []) rest))
    (subst (λ o. Shows root held (front ++ (with_key o n [] ++ rest))) is shows)

with_key_more : (o : Option (List ℕ)) (n : ℕ) (es : Entries) → with_key o n es ≡ with_key o n [] ++ es
with_key_more None n es = refl
with_key_more (Some k) n es = refl

-- one file and then the others
pub keyed_more : (root : List ℕ) (f : Found) (fs : List Found) → keyed root (f ∷ fs) ≡ keyed root
    (f ∷ []) ++ keyed root fs
keyed_more root f fs = with_key_more (stripped root f.path) f.size (keyed root fs)

with_key_append : (o : Option (List ℕ)) (n : ℕ) (es rest : Entries)
    → with_key o n (es ++ rest) ≡ with_key o n es ++ rest
with_key_append None n es rest = refl
with_key_append (Some k) n es rest = refl

keyed_append : (root : List ℕ) (fs gs : List Found) → keyed root (fs ++ gs) ≡ keyed root fs ++ keyed root gs
keyed_append root [] gs = refl
keyed_append root (f ∷ fs) gs =
    ap (with_key (stripped root f.path) f.size) (keyed_append root fs gs)
    ∙ with_key_append (stripped root f.path) f.size (keyed root fs) (keyed root gs)

kept_append : (root : List ℕ) (capacity : ℕ) (fs gs : List Found)
    → kept root capacity (fs ++ gs) ≡ kept root capacity fs ++ kept root capacity gs
kept_append root capacity fs gs =
    ap (filter (is_kept capacity)) (keyed_append root fs gs)
    ∙ filter-append (is_kept capacity) (keyed root fs) (keyed root gs)

-- the first so many and one more
next_taken : {A : Type 0} (i : ℕ) (xs : List A) (x : A) → i < length xs → x ≡ get_or xs i x
    → take (i + 1) xs ≡ take i xs ++ x ∷ []
next_taken i xs x within is = take_more xs i x within ∙ ap (λ y. take i xs ++ y ∷ []) (sym is)

-- and what is behind them, one first
next_left : {A : Type 0} (i : ℕ) (xs : List A) (x : A) → i < length xs → x ≡ get_or xs i x
    → drop i xs ≡ x ∷ drop (i + 1) xs
next_left i xs x within is = drop_more xs i x within ∙ ap (λ y. y ∷ drop (i + 1) xs) (sym is)

pub none_kept : (root : List ℕ) (capacity : ℕ) (found : List Found) (es : Entries)
    → es ≡ es ++ kept root capacity (take 0 found)
none_kept root capacity found es = sym (append-nil es)

pub kept_more : (root : List ℕ) (capacity i : ℕ) (found : List Found) (f : Found) (old now new : Entries)
    → i < length found → f ≡ get_or found i f → now ≡ old ++ kept root capacity (take i found)
    → new ≡ now ++ kept root capacity (f ∷ []) → new ≡ old ++ kept root capacity (take (i + 1) found)
kept_more root capacity i found f old now new within is so_far step =
    step ∙ (ap (λ l. l ++ kept root capacity (f ∷ [])) so_far
    ∙ (append_assoc old (kept root capacity (take i found)) (kept root capacity (f ∷ []))
    ∙ ap (λ l. old ++ l) (sym (kept_append root capacity (take i found) (f ∷ []))
    ∙ ap (kept root capacity) (sym (next_taken i found f within is)))))

pub shows_more : (root : List ℕ) (i : ℕ) (found : List Found) (f : Found) (front : Entries) (held : Held)
    → i < length found → f ≡ get_or found i f → Shows root held (front ++ keyed root (drop i found))
    → Shows root held (front ++ (keyed root (f ∷ []) ++ keyed root (drop (i + 1) found)))
shows_more root i found f front held within is shows =
    subst (λ l. Shows root held (front ++ l))
    (ap (keyed root) (next_left i found f within is) ∙ keyed_more root f (drop (i + 1) found)) shows

-- ---- what is listed

pub room_out : (key : List ℕ) (n : ℕ) (table now : Listed)
    → now ≡ record table { entries = remove_entry (bytes_eq key) table.entries }
    → total table.entries + n ≤ table.capacity → total now.entries + n ≤ now.capacity
room_out key n table now is room =
    omega (
      arith,
      room,
      ap (λ (t : Listed). total t.entries) is,
      ap (λ (t : Listed). t.capacity) is,
      size-others (bytes_eq key) sizes table.entries,
    )

pub room_more : (key : List ℕ) (n i : ℕ) (table now : Listed) (good : Entries) → i < length good
    → (key, n) ≡ get_or good i (key, n)
    → now ≡ record table { entries = remove_entry (bytes_eq key) table.entries ++ (key, n) ∷ [] }
    → total table.entries + total (drop i good) ≤ table.capacity
    → total now.entries + total (drop (i + 1) good) ≤ now.capacity
room_more key n i table now good within item is room =
    omega (
      arith,
      room,
      ap (λ (t : Listed). total t.entries) is,
      ap (λ (t : Listed). t.capacity) is,
      total_more (remove_entry (bytes_eq key) table.entries) key n,
      size-others (bytes_eq key) sizes table.entries,
      ap total (next_left i good (key, n) within item),
      sum_by-cons (λ (e : List ℕ × ℕ). e.1)
          (key, n) (drop (i + 1) good),
    )

not_in : (key : List ℕ) (n : ℕ) (es rest : Entries) → IsDistinct bytes_eq (keys_of (es ++ (key, n) ∷ rest))
    → remove_entry (bytes_eq key) es ≡ es
unfolding IsDistinct
not_in key n [] rest distinct = refl
not_in key n (e ∷ es) rest distinct =
    let other = apart e.0 key (at_middle (λ q. bytes_eq e.0 q ≡ false) es (key, n) rest distinct.0) in
    ap (λ b. cond b es (e ∷ remove_entry (bytes_eq key) es)) other
    ∙ ap (λ l. e ∷ l) (not_in key n es rest distinct.1)

pub list_more : (key : List ℕ) (n i : ℕ) (es now new good : Entries) → i < length good
    → (key, n) ≡ get_or good i (key, n) → new ≡ remove_entry (bytes_eq key) now ++ (key, n) ∷ []
    → (IsDistinct bytes_eq (keys_of (es ++ good)) → now ≡ es ++ take i good)
    → IsDistinct bytes_eq (keys_of (es ++ good)) → new ≡ es ++ take (i + 1) good
list_more key n i es now new good within item is so_far distinct =
    let front = es ++ take i good in
    let rest = drop (i + 1) good in
    let whole : es ++ good ≡ front ++ (key, n) ∷ rest =
    ap (λ l. es ++ l) (sym (take-append-drop i good)
    ∙ ap (λ l. take i good ++ l) (next_left i good (key, n) within item))
    ∙ sym (append_assoc es (take i good) ((key, n) ∷ rest)) in
    let same : remove_entry (bytes_eq key) now ≡ front =
    ap (remove_entry (bytes_eq key)) (so_far distinct)
    ∙ not_in key n front rest (subst (λ l. IsDistinct bytes_eq (keys_of l)) whole distinct) in
    is ∙ (ap (λ l. l ++ (key, n) ∷ []) same ∙ (append_assoc es (take i good) ((key, n) ∷ [])
    ∙ ap (λ l. es ++ l) (sym (next_taken i good (key, n) within item))))

pub keys_more : (key : List ℕ) (n i : ℕ) (es now new good : Entries) → i < length good
    → (key, n) ≡ get_or good i (key, n) → new ≡ remove_entry (bytes_eq key) now ++ (key, n) ∷ []
    → (AllKeys es → AllKeys good → AllKeys now × AllKeys (drop i good))
    → AllKeys es → AllKeys good → AllKeys new × AllKeys (drop (i + 1) good)
keys_more key n i es now new good within item is so_far before after =
    let P : List ℕ × ℕ → Type 0 = λ e. is_key e.0 ≡ true in
    let both = so_far before after in
    let parts = subst AllKeys (next_left i good (key, n) within item) both.1 in (
      subst AllKeys (sym is)
          (all_push P (remove_entry (bytes_eq key) now) (key, n) (all_removed P (bytes_eq key) now both.0)
          parts.0),
      parts.1,
    )

-- ---- what is dropped

total_behind : (i : ℕ) (es : Entries) → total (drop i es) ≤ total es
total_behind zero es = omega arith
total_behind (suc i) [] = omega arith
total_behind (suc i) (e ∷ es) =
    omega (arith, total_behind i es, sum_by-cons (λ (x : List ℕ × ℕ). x.1) e es)

cut : (i : ℕ) (es : Entries) (capacity : ℕ) → total (drop (suc i) es) ≤ capacity
    → capacity < total (drop i es) → drop (suc i) es ≡ trim capacity es
cut zero [] capacity fits over = absurd (omega (arith, over))
cut zero (e ∷ es) capacity fits over = sym (trim_more e es capacity over ∙ trim_fits es capacity fits)
cut (suc i) [] capacity fits over = absurd (omega (arith, over))
cut (suc i) (e ∷ es) capacity fits over =
    cut i es capacity fits over
    ∙ sym (trim_more e es capacity
    (omega (arith, over, total_behind i es, sum_by-cons (λ (x : List ℕ × ℕ). x.1) e es)))

-- where the end fits, and not with one more, it is what trimming leaves
cut_at : (i : ℕ) (es : Entries) (capacity : ℕ) → total (drop (i + 1) es) ≤ capacity
    → capacity < total (drop i es) → drop (i + 1) es ≡ trim capacity es
cut_at i es capacity fits over =
    let more : i + 1 ≡ suc i = omega arith in
    subst (λ k. total (drop k es) ≤ capacity → drop k es ≡ trim capacity es) (sym more)
    (λ f. cut i es capacity f over) fits

-- one entry and those behind it
total_at : (i : ℕ) (es : Entries) (e : List ℕ × ℕ) → i < length es → e ≡ get_or es i e
    → total (drop i es) ≡ e.1 + total (drop (i + 1) es)
total_at i es e within is =
    ap total (next_left i es e within is) ∙ sum_by-cons (λ (x : List ℕ × ℕ). x.1) e (drop (i + 1) es)

-- where there is no room for one more
pub ends_here : (first room capacity : ℕ) (es : Entries) (e : List ℕ × ℕ) → 0 < first → first ≤ length es
    → e ≡ get_or es (first - 1) e → total (drop first es) + room ≡ capacity → room < e.1
    → drop first es ≡ trim capacity es
ends_here first room capacity es e some within is room_is over =
    let i = first - 1 in
    let more : first ≡ i + 1 = omega (arith, some) in
    let at = total_at i es e (omega (arith, some, within)) is in
    let fits = subst (λ k. total (drop k es) + room ≡ capacity) more room_is in
    subst (λ k. drop k es ≡ trim capacity es) (sym more)
    (cut_at i es capacity (omega (arith, fits)) (omega (arith, fits, at, over)))

-- where none is left
pub all_stay : (first room capacity : ℕ) (es : Entries) → first ≤ 0 → total (drop first es) + room ≡ capacity
    → drop first es ≡ trim capacity es
all_stay first room capacity es none room_is =
    let is : 0 ≡ first = omega (arith, none) in
    subst (λ k. total (drop k es) + room ≡ capacity → drop k es ≡ trim capacity es) is
    (λ fits. sym (trim_fits es capacity (omega (arith, fits)))) room_is

-- of a front one entry, and those behind it
pub at_front : (i m : ℕ) (good : Entries) (e : List ℕ × ℕ) → m ≤ length good → i < length (take m good)
    → e ≡ get_or (take m good) i e → (i < m) × (drop i good ≡ e ∷ drop (i + 1) good)
at_front i m good e most within is =
    let below : i < m = omega (arith, within, length-take m good) in
    (below, next_left i good e (omega (arith, below, most)) (is ∙ get_or-take m good i e below))

-- the file of the first entry goes
pub one_gone : (root : List ℕ) (i m : ℕ) (good : Entries) (e : List ℕ × ℕ) (old new : Held)
    → m ≤ length good → i < length (take m good) → e ≡ get_or (take m good) i e
    → Became (λ f g. g ≡ without (root ++ e.0) f) old.files new.files → Shows root old (drop i good)
    → Shows root new (drop (i + 1) good)
one_gone root i m good e old new most within is became shows =
    let below : i < m = omega (arith, within, length-take m good) in
    shows_without root e.0 e.1 [] (drop (i + 1) good) old new became
    (subst (Shows root old)
    (next_left i good e (omega (arith, below, most)) (is ∙ get_or-take m good i e below)) shows)
