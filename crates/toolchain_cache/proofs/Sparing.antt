-- What an opening spares, also one that fails: the files of the archives that it would list.
use Rattle.std.proofs.Common.{◌≡◌, ℕ, Bool, true, false, cond, List, [], ◌∷◌, ◌++◌, map, filter, length}
use Rattle.std.proofs.Common.{get_or, ◌<◌, suc, take, drop, Option, Some, None, is_some}
use Rattle.std.proofs.Common.{refl, sym, ap, subst, ◌∙◌, true≢false, append_assoc}
use Rattle.std.specs.List.{AllByRecursion, IsDistinct}
use Rattle.std.specs.Map.{keys_of}
use Rattle.std.specs.Option.{option_map}
use Rattle.std.specs.Str.{bytes_eq}
use Rattle.std.proofs.lemmas.Slice.Eq.{bytes_eq-Decides}
use Rattle.folders.specs.Files.{Files, file_at, front}
use Rattle.folders.specs.Held.{Held, Holds, Became}
use Rattle.folders.specs.Changed.{SameAt, OnlyRemoved, RemovedAt}
use Rattle.folders.specs.declared.folder.Found.{Found}
use Rattle.folders.proofs.Became.{became_map, became_same, became_then, became_from}
use Rattle.listed_files.specs.Disk.{Backed, Keeps}
use Rattle.listed_files.specs.Entries.{Entries}
use Rattle.listed_files.specs.Opened.{opened, KeepsOpened}
use Rattle.lru_disk_cache.specs.Store.{Disk, IsStore, opened_disk}
use Rattle.listed_files.proofs.Standing.{all_both}
use Rattle.toolchain_cache.specs.Archives.{Archives, id_of, archive_of, archive_key, archive_path}
use Rattle.toolchain_cache.specs.Archives.{sound_archives, opened_archives}
use Rattle.toolchain_cache.specs.Cleaned.{found_of, under, is_sound, Cleaned, KeepsSound, SparesSound}
use Rattle.toolchain_cache.specs.Keyed.{unkeyed}
use Rattle.toolchain_cache.specs.Stored.{KeepsArchives, KeepsListed}
use Rattle.toolchain_cache.proofs.ArchiveOpens.{sound_path, sound_is, opened_is, opened_keys, are_keys}
use Rattle.toolchain_cache.proofs.Judged.{SoFar, nth, there_at}
use Rattle.toolchain_cache.proofs.StoredLemmas.{keeps_un}
use Rattle.toolchain_cache.proofs.Unkeyed.{keys_trimmed}

-- ---- sound files

pub sound_stays : (root : List ℕ) (capacity : ℕ) (o : Option Files) → Became (KeepsSound root capacity) o o
sound_stays root capacity o = became_same (KeepsSound root capacity) o (λ f q b sound found. found)

pub sound_both : (root : List ℕ) (capacity : ℕ) (one two three : Option Files)
    → Became (KeepsSound root capacity) one two → Became (KeepsSound root capacity) two three
    → Became (KeepsSound root capacity) one three
sound_both root capacity one two three a b =
    became_then (KeepsSound root capacity) (KeepsSound root capacity) (KeepsSound root capacity) one two three
    (λ f g h x y q c sound found. y q c sound (x q c sound found)) a b

-- a file whose judgement changed nothing
pub same_spares : (root : List ℕ) (capacity : ℕ) (file : Found) (old new : Option Files)
    → Became SameAt old new → Became (SparesSound root capacity file) old new
same_spares root capacity file old new h =
    became_map SameAt (SparesSound root capacity file) old new
    (λ f g same bytes there size q b sound found. same q ∙ found) h

-- a file that is not sound, of whose removal a part was done
pub unsound_out : (root : List ℕ) (capacity : ℕ) (file : Found) (b : Bool) (old mid : Held)
    (new : Option Files) → Holds old (λ files. (bytes : List ℕ) → file_at files file.path ≡ Some bytes
    → file.size ≡ length bytes → b ≡ is_sound root capacity (file.path, bytes))
    → b ≡ false → mid.files ≡ old.files → Became (RemovedAt file.path) mid.files new
    → Became (SparesSound root capacity file) old.files new
unsound_out root capacity file b old mid new judged wrong same part =
    let P : Option Files → Type 0 = λ o. Became (RemovedAt file.path) o new in
    by old.files refl (subst P same part)
  where
    at : (f g : Files) → old.files ≡ Some f → RemovedAt file.path f g → SparesSound root capacity file f g
    at f g told gone bytes there size q c sound found = split (bytes_eq file.path q) refl
      where
        split : (x : Bool) → bytes_eq file.path q ≡ x → file_at g q ≡ Some c
        split false other = gone.1 q other ∙ found
        split true here =
            let path_is : file.path ≡ q = (bytes_eq-Decides file.path q).0 here in
            let both : Some bytes ≡ Some c = sym there ∙ (ap (file_at f) path_is ∙ found) in
            let bytes_is : bytes ≡ c = cc in
            absurd (true≢false (sym sound ∙ ((λ i. is_sound root capacity (sym path_is i, sym bytes_is i))
            ∙ (sym (judged f told bytes there size) ∙ wrong))))

    by : (o : Option Files) → old.files ≡ o → Became (RemovedAt file.path) o new
        → Became (SparesSound root capacity file) o new
    by None told h = h
    by (Some f) told h = (h.0, h.1, at f h.0 told h.2)

-- one of the files that were found was judged
pub one_sound : (root : List ℕ) (capacity i : ℕ) (found : List Found) (file : Found) (old now : Held)
    (new : Option Files) → Holds old (λ f. found ≡ map found_of (under root f)) → i < length found
    → file ≡ get_or found i file → Became (SoFar root capacity i) old.files now.files
    → Became (SparesSound root capacity file) now.files new → Became (KeepsSound root capacity) now.files new
one_sound root capacity i found file old now new found_is below file_is so_far step =
    by now.files refl step
  where
    by : (o : Option Files) → now.files ≡ o → Became (SparesSound root capacity file) o new
        → Became (KeepsSound root capacity) o new
    by None told h = h
    by (Some files) told h =
        let b = became_from (SoFar root capacity i) old.files now.files files so_far told in
        let w = nth found (under root b.0) i file (found_is b.0 b.1) below in
        let done = filter (is_sound root capacity) (take i (under root b.0)) in
        let so : under root files ≡ done ++ w.0 ∷ drop (suc i) (under root b.0) =
        b.2.1 ∙ ap (λ l. done ++ l) w.2 in
        let there : file_at files w.0.0 ≡ Some w.0.1 =
        there_at root files done (drop (suc i) (under root b.0)) w.0 b.2.0 so in
        let here : file ≡ found_of w.0 = file_is ∙ w.1 in (
          h.0,
          h.1,
          h.2 w.0.1 (ap (λ (x : Found). file_at files x.path) here ∙ there)
              (ap (λ (x : Found). x.size) here),
        )

-- ---- the archives that an opening lists

all_stay : (path : List ℕ) (archives : Archives) (f : Files) → KeepsArchives path archives f f
all_stay path [] f = tt
all_stay path (a ∷ rest) f = (refl, all_stay path rest f)

all_same : (path : List ℕ) (archives : Archives) (f g : Files) → SameAt f g → KeepsArchives path archives f g
all_same path [] f g same = tt
all_same path (a ∷ rest) f g same = (same (archive_path path a.0), all_same path rest f g same)

pub all_then : (path : List ℕ) (archives : Archives) (f g h : Files) → KeepsArchives path archives f g
    → KeepsArchives path archives g h → KeepsArchives path archives f h
all_then path [] f g h x y = tt
all_then path (a ∷ rest) f g h x y = (y.0 ∙ x.0, all_then path rest f g h x.1 y.1)

pub listed_stay : (path : List ℕ) (capacity : ℕ) (o : Option Files) → Became (KeepsListed path capacity) o o
listed_stay path capacity o = became_same (KeepsListed path capacity) o
    (λ f. all_stay path (opened_archives path capacity f) f)

pub listed_same : (path : List ℕ) (capacity : ℕ) (old new : Option Files) → Became SameAt old new
    → Became (KeepsListed path capacity) old new
listed_same path capacity old new h = became_map SameAt (KeepsListed path capacity) old new
    (λ f g same. all_same path (opened_archives path capacity f) f g same) h

each_kept : (path root : List ℕ) (capacity : ℕ) (old new before fs : Files) → root ≡ front path
    → IsDistinct bytes_eq (keys_of old) → under root old ≡ before ++ fs → KeepsSound root capacity old new
    → KeepsArchives path (map (λ f. archive_of f.1) (filter (is_sound root capacity) fs)) old new
each_kept path root capacity old new before [] is distinct so keeps = tt
each_kept path root capacity old new before (f ∷ fs) is distinct so keeps =
    by (is_sound root capacity f) refl (each_kept path root capacity old new (before ++ f ∷ []) fs is distinct
    (so ∙ sym (append_assoc before (f ∷ []) fs)) keeps)
  where
    by : (b : Bool) → is_sound root capacity f ≡ b
        → KeepsArchives path (map (λ f. archive_of f.1) (filter (is_sound root capacity) fs)) old new
        → KeepsArchives path (map (λ f. archive_of f.1)
        (cond b (f ∷ filter (is_sound root capacity) fs) (filter (is_sound root capacity) fs))) old new
    by false wrong rest = rest
    by true sound rest =
        let there : file_at old f.0 ≡ Some f.1 = there_at root old before fs f distinct so in
        let P : List ℕ → Type 0 = λ p. file_at new p ≡ file_at old p in
        let path_is : f.0 ≡ archive_path path (id_of f.1) = sound_path root capacity f sound
        ∙ ap (λ r. r ++ archive_key (id_of f.1)) is in
        (subst P path_is (keeps f.0 f.1 sound there ∙ sym there), rest)

listed_kept : (path root : List ℕ) (capacity : ℕ) (old new : Files) → root ≡ front path
    → IsDistinct bytes_eq (keys_of old) → KeepsSound root capacity old new → KeepsListed path capacity old new
listed_kept path root capacity old new is distinct keeps =
    let P : List ℕ × ℕ → Type 0 = λ a. file_at new (archive_path path a.0) ≡ file_at old
    (archive_path path a.0) in
    let all : map (λ (f : List ℕ × List ℕ). archive_of f.1) (filter (is_sound root capacity) (under root old))
    ≡ sound_archives path capacity old =
    ap (λ r. map (λ (f : List ℕ × List ℕ). archive_of f.1) (filter (is_sound r capacity) (under r old))) is
    ∙ sym (sound_is path capacity old) in
    keys_trimmed P capacity (sound_archives path capacity old)
    (subst (AllByRecursion P) all (each_kept path root capacity old new [] (under root old) is distinct refl
    keeps))

-- what was found is cleaned, whether that succeeds or not
pub sound_listed : (path root : List ℕ) (capacity : ℕ) (old : Held) (mid new : Option Files)
    → root ≡ front path → Holds old (λ f. IsDistinct bytes_eq (keys_of f)) → Became SameAt old.files mid
    → Became (KeepsSound root capacity) mid new → Became (KeepsListed path capacity) old.files new
sound_listed path root capacity old mid new is distinct same keeps =
    by old.files distinct (became_then SameAt (KeepsSound root capacity) (KeepsSound root capacity) old.files
    mid new (λ f g h x y q b sound found. y q b sound (x q ∙ found)) same keeps)
  where
    by : (o : Option Files) → ((f : Files) → o ≡ Some f → IsDistinct bytes_eq (keys_of f))
        → Became (KeepsSound root capacity) o new → Became (KeepsListed path capacity) o new
    by None d h = h
    by (Some f) d h = (h.0, h.1, listed_kept path root capacity f h.0 is (d f refl) h.2)

-- what is listed of the clean files is what an opening lists
opened_listed : (path root : List ℕ) (capacity : ℕ) (old mid new : Files) → root ≡ front path
    → Cleaned root capacity old mid → KeepsListed path capacity old mid
    → KeepsOpened (front path) capacity mid new → KeepsListed path capacity old new
opened_listed path root capacity old mid new is clean first keeps =
    let es = opened root capacity mid in
    let here : Keeps root es mid new = subst (λ r. KeepsOpened r capacity mid new) (sym is) keeps in
    let second : KeepsArchives path (unkeyed es) mid new =
    keeps_un path root es mid new is (are_keys es (opened_keys root capacity old mid clean)) here in
    all_then path (opened_archives path capacity old) old mid new first
    (subst (λ l. KeepsArchives path l mid new) (opened_is path root capacity old mid is clean) second)

pub refused_listed : (path root : List ℕ) (capacity : ℕ) (old mid new : Option Files) → root ≡ front path
    → Became (Cleaned root capacity) old mid → Became (KeepsListed path capacity) old mid
    → Became (KeepsOpened (front path) capacity) mid new → Became (KeepsListed path capacity) old new
refused_listed path root capacity None mid new is clean first keeps =
    let P : Option Files → Type 0 = λ o. Became (KeepsOpened (front path) capacity) o new in
    subst P first keeps
refused_listed path root capacity (Some f) mid new is clean first keeps =
    let P : Option Files → Type 0 = λ o. Became (KeepsOpened (front path) capacity) o new in
    let w = subst P clean.1 keeps in
    let told : Some first.0 ≡ Some clean.0 = sym first.1 ∙ clean.1 in
    let same : first.0 ≡ clean.0 = cc in (
      w.0,
      w.1,
      opened_listed path root capacity f clean.0 w.0 is clean.2
          (subst (λ g. KeepsListed path capacity f g) same first.2) w.2,
    )

-- a file that is there yet is as it was
backed_keeps : (root : List ℕ) (es : Entries) (f g : Files) → OnlyRemoved f g → Backed root g es
    → Keeps root es f g
backed_keeps root es f g only backed = all_both es backed backed (λ e sized again. by e (file_at g
    (root ++ e.0)) refl sized)
  where
    by : (e : List ℕ × ℕ) (o : Option (List ℕ)) → file_at g (root ++ e.0) ≡ o
        → option_map length (file_at g (root ++ e.0)) ≡ Some e.1
        → file_at g (root ++ e.0) ≡ file_at f (root ++ e.0)
    by e None is sized = absurd (true≢false (sym (ap is_some (sym (ap (option_map length) is) ∙ sized))))
    by e (Some b) is sized = is ∙ sym (only (root ++ e.0) b is)

-- what an opening of the disk cache that succeeds leaves
pub opened_keeps : (path : List ℕ) (capacity : ℕ) (mid new : Held) (d : Disk)
    → Holds mid (λ files. d ≡ opened_disk path capacity files) → Became OnlyRemoved mid.files new.files
    → IsStore new d → Became (KeepsOpened (front path) capacity) mid.files new.files
opened_keeps path capacity mid new d opens only stands = by mid.files refl only
  where
    by : (o : Option Files) → mid.files ≡ o → Became OnlyRemoved o new.files
        → Became (KeepsOpened (front path) capacity) o new.files
    by None told h = h
    by (Some f) told h =
        let disk = opens f told in
        let P : List ℕ → Entries → Type 0 = λ r es. Keeps r es f h.0 in
        let all : Keeps d.root d.entries f h.0 =
        backed_keeps d.root d.entries f h.0 h.2 (stands.stands.backed h.0 h.1) in (
          h.0,
          h.1,
          subst (P (front path)) (ap (λ (k : Disk). k.entries) disk)
              (subst (λ r. P r d.entries) (ap (λ (k : Disk). k.root) disk) all),
        )
