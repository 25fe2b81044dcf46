-- What is left of the files under a root, one file after the other.
use Rattle.std.proofs.Common.{◌≡◌, ℕ, zero, suc, ◌+◌, ◌<◌, Bool, true, false, cond, not, nat_le, ◌&&◌}
use Rattle.std.proofs.Common.{if◌then◌else◌, List, [], ◌∷◌, ◌++◌, length, take, drop, map, filter, get_or}
use Rattle.std.proofs.Common.{is_some, Option, Some, None, refl, sym, ap, subst, ◌∙◌, true≢false}
use Rattle.std.proofs.Common.{append_assoc, arith}
use Rattle.std.specs.List.{AllByRecursion, IsDistinct}
use Rattle.std.specs.Map.{keys_of}
use Rattle.std.specs.Str.{bytes_eq}
use Rattle.std.proofs.lemmas.List.{length-append}
use Rattle.std.proofs.lemmas.List.Elements.{filter-append}
use Rattle.std.proofs.lemmas.Slice.Eq.{bytes_eq-Decides}
use Rattle.folders.specs.Files.{Files, file_at, without, is_behind}
use Rattle.folders.specs.Held.{Held, Holds, Became, Lacks}
use Rattle.folders.specs.declared.folder.Found.{Found}
use Rattle.toolchain_cache.specs.Archives.{id_of, archive_key}
use Rattle.folders.specs.Changed.{ButUnder, RemovedAt, RemovedUnder}
use Rattle.toolchain_cache.specs.Cleaned.{found_of, under, is_sound}
use Rattle.folders.proofs.Became.{became_from}
use Rattle.folders.proofs.Distinct.{apart, distinct_filtered, without_distinct}
use Rattle.toolchain_cache.proofs.Ids.{id_length, key_length}
use Rattle.folders.proofs.Lookups.{itself, without_other}
use Rattle.listed_files.proofs.Strips.{begins}

-- of the first files those that are sound are left, and of the others all, and files elsewhere stay
abbrev pub SoFar : List ℕ → ℕ → ℕ → Files → Files → Type 0
SoFar root capacity i old new =
    IsDistinct bytes_eq (keys_of new)
    × (under root new ≡ filter (is_sound root capacity) (take i (under root old)) ++ drop i
    (under root old)) × ButUnder root old new

-- ---- a file in the middle

at_middle : (P : List ℕ → Type 0) (front : Files) (f : List ℕ × List ℕ) (rest : Files)
    → AllByRecursion P (keys_of (front ++ f ∷ rest)) → P f.0
at_middle P [] f rest h = h.0
at_middle P (g ∷ gs) f rest h = at_middle P gs f rest h.1

found_middle : (front : Files) (f : List ℕ × List ℕ) (rest : Files)
    → IsDistinct bytes_eq (keys_of (front ++ f ∷ rest)) → file_at (front ++ f ∷ rest) f.0 ≡ Some f.1
unfolding IsDistinct
found_middle [] f rest h = ap (λ b. cond b (Some f.1) (file_at rest f.0)) (itself f.0)
found_middle (g ∷ gs) f rest h =
    ap (λ b. cond b (Some g.1) (file_at (gs ++ f ∷ rest) f.0))
    (apart g.0 f.0 (at_middle (λ q. bytes_eq g.0 q ≡ false) gs f rest h.0)) ∙ found_middle gs f rest h.1

none_out : (p : List ℕ) (fs : Files) → AllByRecursion (λ q. bytes_eq p q ≡ false) (keys_of fs)
    → without p fs ≡ fs
none_out p [] h = refl
none_out p (f ∷ fs) h = ap (λ b. cond (not b) (f ∷ without p fs) (without p fs)) h.0
    ∙ ap (λ l. f ∷ l) (none_out p fs h.1)

one_out : (front : Files) (f : List ℕ × List ℕ) (rest : Files)
    → IsDistinct bytes_eq (keys_of (front ++ f ∷ rest)) → without f.0 (front ++ f ∷ rest) ≡ front ++ rest
unfolding IsDistinct
one_out [] f rest h =
    ap (λ b. cond (not b) (f ∷ without f.0 rest) (without f.0 rest)) (itself f.0) ∙ none_out f.0 rest h.0
one_out (g ∷ gs) f rest h =
    ap (λ b. cond (not b) (g ∷ without f.0 (gs ++ f ∷ rest)) (without f.0 (gs ++ f ∷ rest)))
    (apart g.0 f.0 (at_middle (λ q. bytes_eq g.0 q ≡ false) gs f rest h.0))
    ∙ ap (λ l. g ∷ l) (one_out gs f rest h.1)

-- ---- the files under a root

under_more : (root : List ℕ) (f : List ℕ × List ℕ) (fs : Files) (b : Bool) → is_behind root f.0 ≡ b
    → under root (f ∷ fs) ≡ cond b (f ∷ under root fs) (under root fs)
under_more root f fs b is = ap (λ x. cond x (f ∷ under root fs) (under root fs)) is

all_behind : (root : List ℕ) (fs : Files) → AllByRecursion (λ q. is_behind root q ≡ true)
    (keys_of (under root fs))
all_behind root [] = tt
all_behind root (f ∷ fs) = by (is_behind root f.0) refl (all_behind root fs)
  where
    by : (b : Bool) → is_behind root f.0 ≡ b → AllByRecursion (λ q. is_behind root q ≡ true)
        (keys_of (under root fs)) → AllByRecursion (λ q. is_behind root q ≡ true)
        (keys_of (cond b (f ∷ under root fs) (under root fs)))
    by true is rest = (is, rest)
    by false is rest = rest

found_under : (root p b : List ℕ) (fs : Files) → is_behind root p ≡ true → file_at (under root fs) p ≡ Some b
    → file_at fs p ≡ Some b
found_under root p b [] behind found = found
found_under root p b (f ∷ fs) behind found = by (is_behind root f.0) (bytes_eq p f.0) refl refl
    (found_under root p b fs behind)
  where
    by : (x y : Bool) → is_behind root f.0 ≡ x → bytes_eq p f.0 ≡ y
        → (file_at (under root fs) p ≡ Some b → file_at fs p ≡ Some b)
        → cond y (Some f.1) (file_at fs p) ≡ Some b
    by true true is same rest =
        sym (ap (λ y. cond y (Some f.1) (file_at (under root fs) p)) same)
        ∙ (sym (ap (λ l. file_at l p) (under_more root f fs true is)) ∙ found)
    by true false is other rest =
        rest (sym (ap (λ y. cond y (Some f.1) (file_at (under root fs) p)) other)
        ∙ (sym (ap (λ l. file_at l p) (under_more root f fs true is)) ∙ found))
    by false true is same rest =
        absurd (true≢false (sym behind ∙ (ap (is_behind root) ((bytes_eq-Decides p f.0).0 same) ∙ is)))
    by false false is other rest = rest (sym (ap (λ l. file_at l p) (under_more root f fs false is)) ∙ found)

pub there_at : (root : List ℕ) (fs front rest : Files) (f : List ℕ × List ℕ)
    → IsDistinct bytes_eq (keys_of fs) → under root fs ≡ front ++ f ∷ rest → file_at fs f.0 ≡ Some f.1
there_at root fs front rest f distinct is =
    let P : Files → Type 0 = λ l. IsDistinct bytes_eq (keys_of l) in
    let Q : Files → Type 0 = λ l. AllByRecursion (λ q. is_behind root q ≡ true) (keys_of l) in
    found_under root f.0 f.1 fs
    (at_middle (λ q. is_behind root q ≡ true) front f rest (subst Q is (all_behind root fs)))
    (ap (λ l. file_at l f.0) is ∙ found_middle front f rest
    (subst P is (distinct_filtered (λ x. is_behind root x.0) fs distinct)))

under_without : (root p : List ℕ) (fs : Files) → under root (without p fs) ≡ without p (under root fs)
under_without root p [] = refl
under_without root p (f ∷ fs) = by (is_behind root f.0) (bytes_eq p f.0) refl refl (under_without root p fs)
  where
    by : (x y : Bool) → is_behind root f.0 ≡ x → bytes_eq p f.0 ≡ y → under root (without p fs) ≡ without p
        (under root fs)
        → under root (cond (not y) (f ∷ without p fs) (without p fs)) ≡ without p
        (cond x (f ∷ under root fs) (under root fs))
    by true true is same rest = rest
        ∙ sym (ap (λ y. cond (not y) (f ∷ without p (under root fs)) (without p (under root fs))) same)
    by true false is other rest =
        under_more root f (without p fs) true is
        ∙ (ap (λ l. f ∷ l) rest ∙ sym
        (ap (λ y. cond (not y) (f ∷ without p (under root fs)) (without p (under root fs))) other))
    by false true is same rest = rest
    by false false is other rest = under_more root f (without p fs) false is ∙ rest

-- ---- one file after the other

-- the file at a place of those found
pub nth : (found : List Found) (fs : Files) (i : ℕ) (d : Found) → found ≡ map found_of fs → i < length found
    → (f : List ℕ × List ℕ) × (get_or found i d ≡ found_of f) × (drop i fs ≡ f ∷ drop (suc i) fs)
    × (take (suc i) fs ≡ take i fs ++ f ∷ [])
nth found [] i d is below = let none = ap length is in absurd (omega (arith, below, none))
nth found (f ∷ fs) zero d is below = (f, ap (λ l. get_or l 0 d) is, refl, refl)
nth [] (f ∷ fs) (suc i) d is below = absurd (omega (arith, below))
nth (x ∷ found) (f ∷ fs) (suc i) d is below =
    let w = nth found fs i d (ap (drop 1) is) (omega (arith, below)) in
    (w.0, w.1, w.2, ap (λ l. f ∷ l) w.3)

-- the file at a path is kept or not
abbrev pub KeptOrNot : List ℕ → ℕ → Found → Files → Files → Type 0
KeptOrNot root capacity file old new = (bytes : List ℕ) → file_at old file.path ≡ Some bytes
    → file.size ≡ length bytes → new ≡ (if is_sound root capacity (file.path, bytes) then old
    else without file.path old)

-- what is left with one file judged
settled : (root : List ℕ) (capacity : ℕ) (now new front rest : Files) (f : List ℕ × List ℕ) (b : Bool)
    → is_sound root capacity f ≡ b → IsDistinct bytes_eq (keys_of now) → under root now ≡ front ++ f ∷ rest
    → new ≡ cond (is_sound root capacity f) now (without f.0 now)
    → (all : Files) → filter (is_sound root capacity) all ≡ front ++ filter (is_sound root capacity) (f ∷ [])
    → IsDistinct bytes_eq (keys_of new) × (under root new ≡ filter (is_sound root capacity) all ++ rest)
settled root capacity now new front rest f true is distinct so become all all_is =
    let same : new ≡ now = become ∙ ap (λ b. cond b now (without f.0 now)) is in (
      subst (λ l. IsDistinct bytes_eq (keys_of l)) (sym same) distinct,
      ap (under root) same
          ∙ (so ∙ (sym (append_assoc front (f ∷ []) rest)
          ∙ sym (ap (λ l. l ++ rest) (all_is ∙ ap (λ b. front ++ cond b (f ∷ []) []) is)))),
    )
settled root capacity now new front rest f false is distinct so become all all_is =
    let out : new ≡ without f.0 now = become ∙ ap (λ b. cond b now (without f.0 now)) is in
    let P : Files → Type 0 = λ l. IsDistinct bytes_eq (keys_of l) in
    let middle = subst P so (distinct_filtered (λ x. is_behind root x.0) now distinct) in (
      without_distinct f.0 now new out distinct,
      ap (under root) out
          ∙ (under_without root f.0 now
          ∙ (ap (without f.0) so ∙
          (one_out front f rest middle
          ∙ sym (ap (λ l. l ++ rest) (all_is ∙ (ap (λ b. front ++ cond b (f ∷ []) []) is ∙ none front)))))),
    )
  where
    none : (l : Files) → l ++ [] ≡ l
    none [] = refl
    none (x ∷ xs) = ap (λ l. x ∷ l) (none xs)

-- files elsewhere stay
outside_judged : (root : List ℕ) (old now new : Files) (f : List ℕ × List ℕ) (b : Bool)
    → is_behind root f.0 ≡ true → new ≡ cond b now (without f.0 now) → ButUnder root old now
    → ButUnder root old new
outside_judged root old now new f true behind is h q away = ap (λ l. file_at l q) is ∙ h q away
outside_judged root old now new f false behind is h q away =
    ap (λ l. file_at l q) is
    ∙ (without_other f.0 q now (ap (λ p. bytes_eq p q) (begins f.0 root behind)
    ∙ away (drop (length root) f.0)) ∙ h q away)

so_far_more : (root : List ℕ) (capacity i : ℕ) (found : List Found) (file : Found) (old now new : Files)
    → found ≡ map found_of (under root old) → i < length found → file ≡ get_or found i file
    → SoFar root capacity i old now → KeptOrNot root capacity file now new
    → SoFar root capacity (suc i) old new
so_far_more root capacity i found file old now new is below file_is so_far step =
    let U = under root old in
    let w = nth found U i file is below in
    let f = w.0 in
    let here : file ≡ found_of f = file_is ∙ w.1 in
    let front = filter (is_sound root capacity) (take i U) in
    let rest = drop (suc i) U in
    let so : under root now ≡ front ++ f ∷ rest = so_far.1 ∙ ap (λ l. front ++ l) w.2 in
    let there = there_at root now front rest f so_far.0 so in
    let P : Found → Type 0 = λ x. KeptOrNot root capacity x now new in
    let become : new ≡ (if is_sound root capacity f then now else without f.0 now) =
    subst P here step f.1 there refl in
    let all : filter (is_sound root capacity) (take (suc i) U) ≡ front ++ filter (is_sound root capacity)
    (f ∷ []) = ap (filter (is_sound root capacity)) w.3 ∙ filter-append (is_sound root capacity)
    (take i U) (f ∷ []) in
    let Q : Files → Type 0 = λ l. AllByRecursion (λ q. is_behind root q ≡ true) (keys_of l) in
    let behind = at_middle (λ q. is_behind root q ≡ true) front f rest (subst Q so (all_behind root now)) in
    let judged = settled root capacity now new front rest f (is_sound root capacity f) refl so_far.0 so become
    (take (suc i) U) all in
    (judged.0, judged.1, outside_judged root old now new f (is_sound root capacity f) behind become so_far.2)

pub cleaned_more : (root : List ℕ) (capacity i : ℕ) (found : List Found) (file : Found)
    (old now new : Option Files) → ((f : Files) → old ≡ Some f → found ≡ map found_of (under root f))
    → i < length found → file ≡ get_or found i file
    → Became (SoFar root capacity i) old now → Became (KeptOrNot root capacity file) now new
    → Became (SoFar root capacity (i + 1)) old new
cleaned_more root capacity i found file None now new found_is below file_is so_far step =
    let P : Option Files → Type 0 = λ o. Became (KeptOrNot root capacity file) o new in
    subst P so_far step
cleaned_more root capacity i found file (Some f) now new found_is below file_is so_far step =
    let P : Option Files → Type 0 = λ o. Became (KeptOrNot root capacity file) o new in
    let w = subst P so_far.1 step in
    let more : suc i ≡ i + 1 = omega arith in (
      w.0,
      w.1,
      subst (λ k. SoFar root capacity k f w.0) more
          (so_far_more root capacity i found file f so_far.0 w.0 (found_is f refl) below file_is so_far.2
          w.2),
    )

-- a file that is still to be judged is there
pub still_there : (root : List ℕ) (capacity i : ℕ) (found : List Found) (file : Found) (old now : Held)
    → Holds old (λ f. found ≡ map found_of (under root f)) → i < length found → file ≡ get_or found i file
    → Became (SoFar root capacity i) old.files now.files → Holds now (λ f. ¬ (Lacks file.path f))
still_there root capacity i found file old now found_is below file_is so_far files told lacks =
    let b = became_from (SoFar root capacity i) old.files now.files files so_far told in
    let w = nth found (under root b.0) i file (found_is b.0 b.1) below in
    let there = there_at root files (filter (is_sound root capacity) (take i (under root b.0)))
    (drop (suc i) (under root b.0)) w.0 b.2.0
    (b.2.1 ∙ ap (λ l. filter (is_sound root capacity) (take i (under root b.0)) ++ l) w.2) in
    let here : file.path ≡ w.0.0 = ap (λ (x : Found). x.path) (file_is ∙ w.1) in
    true≢false (ap is_some (sym there ∙ (ap (file_at files) (sym here) ∙ lacks)))

-- what a part of its removal changes lies below the root
pub one_spared : (root : List ℕ) (capacity i : ℕ) (found : List Found) (file : Found) (old now : Held)
    (new : Option Files) → Holds old (λ f. found ≡ map found_of (under root f)) → i < length found
    → file ≡ get_or found i file → Became (SoFar root capacity i) old.files now.files
    → Became (RemovedAt file.path) now.files new → Became (RemovedUnder root) now.files new
one_spared root capacity i found file old now new found_is below file_is so_far step =
    by now.files refl step
  where
    by : (o : Option Files) → now.files ≡ o → Became (RemovedAt file.path) o new
        → Became (RemovedUnder root) o new
    by None told h = h
    by (Some files) told h =
        let b = became_from (SoFar root capacity i) old.files now.files files so_far told in
        let w = nth found (under root b.0) i file (found_is b.0 b.1) below in
        let front = filter (is_sound root capacity) (take i (under root b.0)) in
        let rest = drop (suc i) (under root b.0) in
        let so : under root files ≡ front ++ w.0 ∷ rest = b.2.1 ∙ ap (λ l. front ++ l) w.2 in
        let Q : Files → Type 0 = λ l. AllByRecursion (λ q. is_behind root q ≡ true) (keys_of l) in
        let behind = at_middle (λ q. is_behind root q ≡ true) front w.0 rest (subst Q so (all_behind root files))
        in
        let here : file.path ≡ w.0.0 = ap (λ (x : Found). x.path) (file_is ∙ w.1) in (
          h.0,
          h.1,
          (
            h.2.0,
            λ q away. h.2.1 q (ap (λ p. bytes_eq p q) (here ∙ begins w.0.0 root behind)
                ∙ away (drop (length root) w.0.0)),
          ),
        )

-- a path of another length is no archive's
pub wrong_length : (root path bytes : List ℕ) (capacity : ℕ) → ¬ (length path ≡ length root + 68)
    → false ≡ is_sound root capacity (path, bytes)
wrong_length root path bytes capacity other = by (nat_le (length bytes) capacity)
    (bytes_eq path (root ++ archive_key (id_of bytes))) refl
  where
    by : (a b : Bool) → bytes_eq path (root ++ archive_key (id_of bytes)) ≡ b → false ≡ (a && b)
    by true true is =
        absurd (other (ap length ((bytes_eq-Decides path (root ++ archive_key (id_of bytes))).0 is)
        ∙ (length-append root (archive_key (id_of bytes)) ∙ ap (λ n. length root + n)
        (key_length (id_of bytes) (id_length bytes)))))
    by true false is = refl
    by false b is = refl
