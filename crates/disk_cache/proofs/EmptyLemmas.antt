-- What emptying a directory leaves.
use Rattle.std.proofs.Common.{◌≡◌, ℕ, ◌+◌, ◌<◌, ◌≤◌, zero, suc, Bool, true, false, cond, not, ◌||◌, List, []}
use Rattle.std.proofs.Common.{◌∷◌, ◌++◌, length, drop, map, filter, get_or, Option, Some, None}
use Rattle.std.proofs.Common.{option_map, refl, sym, ap, subst, ◌∙◌, true≢false, arith}
use Rattle.std.specs.List.{list_any, cons_option}
use Rattle.std.specs.Str.{bytes_eq}
use Rattle.std.proofs.Math.Seq.{take-append_seam}
use Rattle.std.proofs.lemmas.Slice.Eq.{bytes_eq-Decides}
use Rattle.folders.specs.Files.{Files, file_at, without, front, is_behind, found_behind, found_under}
use Rattle.folders.specs.Held.{Held, Holds, Became}
use Rattle.folders.specs.Changed.{ButUnder, OnlyRemoved, RemovedAt, RemovedUnder}
use Rattle.toolchain_cache.specs.Archives.{archives_in, archive_in, archive_path, archive_key, id_of}
use Rattle.toolchain_cache.specs.Cleaned.{found_of}
use Rattle.folders.specs.declared.folder.Found.{Found}
use Rattle.folders.proofs.Became.{became_map, became_then, became_from}
use Rattle.folders.proofs.Distinct.{apart}
use Rattle.folders.proofs.Exactly.{without_was}
use Rattle.toolchain_cache.proofs.InStep.{in_more}
use Rattle.folders.proofs.Lookups.{itself, without_other, without_same}
use Rattle.listed_files.proofs.Strips.{begins}
use Rattle.disk_cache.specs.Names.{IsBeside}
use Rattle.disk_cache.specs.Opening.{IsEmpty, AreApart, SameArchives}

-- whether a path is that of one of these files
abbrev pub is_among : List ℕ → List Found → Bool
is_among q found = list_any (λ f. bytes_eq f.path q) found

-- Of the files that were found so many are gone: only those left stand below the directory, and all else is
-- as it was.
pub record Emptying (under : List ℕ) (found : List Found) (i : ℕ) (old new : Files) : Type 0 where
  pub all : found ≡ found_under under old
  pub left : (q : List ℕ) → is_behind (front under) q ≡ true → is_among q (drop i found) ≡ false
      → file_at new q ≡ None
  pub others : ButUnder (front under) old new
  pub archives : (path : List ℕ) → AreApart path under → SameArchives path old new
  pub removed : OnlyRemoved old new

-- ---- at first

behind_is : (begun q : List ℕ) (f : List ℕ × List ℕ) → is_behind begun q ≡ true → bytes_eq q f.0 ≡ true
    → is_behind begun f.0 ≡ true
behind_is begun q f h same = subst (λ (p : List ℕ). is_behind begun p ≡ true)
    ((bytes_eq-Decides q f.0).0 same) h

none_among : (begun q : List ℕ) (files : Files) → is_behind begun q ≡ true
    → is_among q (found_behind begun files) ≡ false → file_at files q ≡ None
none_among begun q [] h none = refl
none_among begun q (f ∷ fs) h none = by (bytes_eq q f.0) refl (is_behind begun f.0) refl none
    (none_among begun q fs h)
  where
    by : (b : Bool) → bytes_eq q f.0 ≡ b → (c : Bool) → is_behind begun f.0 ≡ c
        → is_among q (map (λ (g : List ℕ × List ℕ). record { path = g.0; size = length g.1 })
        (cond c (f ∷ filter (λ (g : List ℕ × List ℕ). is_behind begun g.0) fs)
        (filter (λ (g : List ℕ × List ℕ). is_behind begun g.0) fs))) ≡ false
        → (is_among q (found_behind begun fs) ≡ false → file_at fs q ≡ None)
        → cond b (Some f.1) (file_at fs q) ≡ None
    by true same false behind none rest = absurd (true≢false (sym (behind_is begun q f h same) ∙ behind))
    by true same true behind none rest =
        let here : bytes_eq f.0 q ≡ true = (bytes_eq-Decides f.0 q).1 (sym ((bytes_eq-Decides q f.0).0 same))
        in
        absurd (true≢false (sym (ap (λ x. x || is_among q (found_behind begun fs)) here) ∙ none))
    by false other false behind none rest = rest none
    by false other true behind none rest =
        rest (second (bytes_eq f.0 q) (is_among q (found_behind begun fs)) none)
      where
        second : (a b : Bool) → (a || b) ≡ false → b ≡ false
        second true b h = absurd (true≢false h)
        second false b h = h

pub emptying_first : (under : List ℕ) (found : List Found) (files : Files) → found ≡ found_under under files
    → Emptying under found 0 files files
emptying_first under found files is = record {
  all = is;
  left = λ q behind none. none_among (front under) q files behind (ap (is_among q) (sym is) ∙ none);
  others = λ q away. refl;
  archives = λ path beside. refl;
  removed = λ q b found. found;
}

-- ---- one more

cut : (found : List Found) (i : ℕ) (f : Found) → i < length found → f ≡ get_or found i f
    → drop i found ≡ f ∷ drop (i + 1) found
cut [] i f lt is = absurd (omega (arith, lt))
cut (g ∷ gs) zero f lt is = ap (λ z. z ∷ gs) (sym is)
cut (g ∷ gs) (suc i) f lt is = let more : suc i + 1 ≡ suc (i + 1) = omega arith
    in rw more (cut gs i f (omega (arith, lt)) is)

all_behind : (begun : List ℕ) (files : Files) (i : ℕ) (f : Found) → i < length (found_behind begun files)
    → f ≡ get_or (found_behind begun files) i f → is_behind begun f.path ≡ true
all_behind begun [] i f lt is = absurd (omega (arith, lt))
all_behind begun (g ∷ gs) i f lt is = by (is_behind begun g.0) refl i lt is (all_behind begun gs)
  where
    by : (c : Bool) → is_behind begun g.0 ≡ c → (i : ℕ)
        → i < length (map found_of (cond c (g ∷ filter (λ (h : List ℕ × List ℕ). is_behind begun h.0) gs)
        (filter (λ (h : List ℕ × List ℕ). is_behind begun h.0) gs)))
        → f ≡ get_or (map found_of (cond c (g ∷ filter (λ (h : List ℕ × List ℕ). is_behind begun h.0) gs)
        (filter (λ (h : List ℕ × List ℕ). is_behind begun h.0) gs))) i f
        → ((j : ℕ) (e : Found) → j < length (found_behind begun gs) → e ≡ get_or (found_behind begun gs) j e
        → is_behind begun e.path ≡ true)
        → is_behind begun f.path ≡ true
    by false behind i lt is rest = rest i f lt is
    by true behind zero lt is rest = ap (λ (e : Found). is_behind begun e.path) is ∙ behind
    by true behind (suc i) lt is rest = rest i f (omega (arith, lt)) is

archive_out : (path q : List ℕ) (f : List ℕ × List ℕ) → IsBeside path q → bytes_eq q f.0 ≡ true
    → bytes_eq f.0 (archive_path path (id_of f.1)) ≡ false
archive_out path q f beside same =
    let is : q ≡ f.0 = (bytes_eq-Decides q f.0).0 same in
    apart (archive_path path (id_of f.1)) f.0
    (subst (λ (p : List ℕ). bytes_eq (front path ++ archive_key (id_of f.1)) p ≡ false) is
    (beside (archive_key (id_of f.1))))

pub archives_without : (path q : List ℕ) (files : Files) → IsBeside path q
    → archives_in path (without q files) ≡ archives_in path files
archives_without path q [] beside = refl
archives_without path q (f ∷ fs) beside = by (bytes_eq q f.0) refl (archives_without path q fs beside)
  where
    by : (b : Bool) → bytes_eq q f.0 ≡ b → archives_in path (without q fs) ≡ archives_in path fs
        → archives_in path (cond (not b) (f ∷ without q fs) (without q fs)) ≡ archives_in path (f ∷ fs)
    by true same rest = rest ∙ sym (in_more path f fs false (archive_out path q f beside same))
    by false other rest = ap (cons_option (archive_in path f)) rest

gone_or : (p q : List ℕ) (files : Files) (b : Bool) → bytes_eq p q ≡ b → (b ≡ false → file_at files q ≡ None)
    → file_at (without p files) q ≡ None
gone_or p q files true same rest = subst (λ (x : List ℕ). file_at (without p files) x ≡ None)
    ((bytes_eq-Decides p q).0 same) (without_same p files)
gone_or p q files false other rest = without_other p q files other ∙ rest refl

either_false : (a b : Bool) → a ≡ false → b ≡ false → (a || b) ≡ false
either_false a b x y = rw (x, y) refl

pub emptying_more : (under : List ℕ) (found : List Found) (i : ℕ) (f : Found) (old mid : Files)
    → i < length found → f ≡ get_or found i f → Emptying under found i old mid
    → Emptying under found (i + 1) old (without f.path mid)
emptying_more under found i f old mid lt is h =
    let within : i < length (found_under under old) = subst (λ (l : List Found). i < length l) h.all lt in
    let at : f ≡ get_or (found_under under old) i f = is ∙ ap (λ (l : List Found). get_or l i f) h.all in
    let behind : is_behind (front under) f.path ≡ true = all_behind (front under) old i f within at in
    let name : f.path ≡ front under ++ drop (length (front under)) f.path = begins f.path (front under) behind
    in
    record {
      all = h.all;
      left = λ q under_it none. gone_or f.path q mid (bytes_eq f.path q) refl (λ other.
          h.left q under_it (ap (is_among q) (cut found i f lt is) ∙ either_false (bytes_eq f.path q)
          (is_among q (drop (i + 1) found)) other none));
      others = λ q away.
          without_other f.path q mid (ap (λ (p : List ℕ). bytes_eq p q) name
          ∙ away (drop (length (front under)) f.path)) ∙ h.others q away;
      archives = λ path beside.
          archives_without path f.path mid
          (subst (λ (p : List ℕ). IsBeside path p) (sym name)
          (beside (drop (length (front under)) f.path))) ∙ h.archives path beside;
      removed = λ q b found. h.removed q b (without_was f.path q b mid found);
    }

-- one more, whose removal failed
emptying_part : (under : List ℕ) (found : List Found) (i : ℕ) (f : Found) (old mid new : Files)
    → i < length found → f ≡ get_or found i f → Emptying under found i old mid → RemovedAt f.path mid new
    → RemovedUnder (front under) old new
emptying_part under found i f old mid new lt is h part =
    let within : i < length (found_under under old) = subst (λ (l : List Found). i < length l) h.all lt in
    let at : f ≡ get_or (found_under under old) i f = is ∙ ap (λ (l : List Found). get_or l i f) h.all in
    let behind : is_behind (front under) f.path ≡ true = all_behind (front under) old i f within at in
    let name : f.path ≡ front under ++ drop (length (front under)) f.path = begins f.path (front under) behind
    in (
      λ q b there. h.removed q b (part.0 q b there),
      λ q away. part.1 q (ap (λ (p : List ℕ). bytes_eq p q) name ∙ away (drop (length (front under)) f.path))
          ∙ h.others q away,
    )

-- ---- at the end

front_behind : (begun k : List ℕ) → is_behind begun (begun ++ k) ≡ true
front_behind begun k = ap (λ (t : List ℕ). bytes_eq begun t) (take-append_seam begun k) ∙ itself begun

none_left : (found : List Found) (i : ℕ) → length found ≤ i → drop i found ≡ []
none_left [] zero le = refl
none_left [] (suc i) le = refl
none_left (f ∷ fs) zero le = absurd (omega (arith, le))
none_left (f ∷ fs) (suc i) le = none_left fs i (omega (arith, le))

pub emptying_last : (under : List ℕ) (found : List Found) (i : ℕ) (old new : Files) → length found ≤ i
    → Emptying under found i old new → IsEmpty under new
emptying_last under found i old new le h = λ k.
    h.left (front under ++ k) (front_behind (front under) k)
    (ap (is_among (front under ++ k)) (none_left found i le))

-- ---- over a folder that may not tell

pub listed_first : (under : List ℕ) (found : List Found) (old new : Held)
    → ((files : Files) → old.files ≡ Some files → found ≡ found_under under files)
    → new.files ≡ option_map (λ (f : Files). f) old.files
    → Became (Emptying under found 0) old.files new.files
listed_first under found old new all same = by old.files new.files all same
  where
    by : (o n : Option Files) → ((files : Files) → o ≡ Some files → found ≡ found_under under files)
        → n ≡ option_map (λ (f : Files). f) o → Became (Emptying under found 0) o n
    by None n all same = same
    by (Some f) n all same = (f, same, emptying_first under found f (all f refl))

pub listed_more : (under : List ℕ) (found : List Found) (i : ℕ) (f : Found) (one two three : Option Files)
    → i < length found → f ≡ get_or found i f
    → Became (Emptying under found i) one two → Became (λ old new. new ≡ without f.path old) two three
    → Became (Emptying under found (i + 1)) one three
listed_more under found i f one two three lt is a b =
    became_then (Emptying under found i) (λ old new. new ≡ without f.path old)
    (Emptying under found (i + 1)) one two three
    (λ x y z h gone. subst (λ (l : Files). Emptying under found (i + 1) x l) (sym gone)
    (emptying_more under found i f x y lt is h)) a b

pub listed_part : (under : List ℕ) (found : List Found) (i : ℕ) (f : Found) (one two three : Option Files)
    → i < length found → f ≡ get_or found i f → Became (Emptying under found i) one two
    → Became (RemovedAt f.path) two three → Became (RemovedUnder (front under)) one three
listed_part under found i f one two three lt is a b =
    became_then (Emptying under found i) (RemovedAt f.path) (RemovedUnder (front under)) one two three
    (λ x y z h part. emptying_part under found i f x y z lt is h part) a b

pub listed_removed : (under : List ℕ) (found : List Found) (i : ℕ) (one two : Option Files)
    → Became (Emptying under found i) one two → Became (RemovedUnder (front under)) one two
listed_removed under found i one two h =
    became_map (Emptying under found i) (RemovedUnder (front under)) one two
    (λ x y e. (e.removed, e.others)) h

pub listed_last : (under : List ℕ) (found : List Found) (i : ℕ) (old new : Held) → length found ≤ i
    → Became (Emptying under found i) old.files new.files → Holds new (IsEmpty under)
listed_last under found i old new le h = λ files told.
    let w = became_from (Emptying under found i) old.files new.files files h told in
    emptying_last under found i w.0 files le w.2
