-- What an opening of a cache of archives lists, and what stands behind it.
use Rattle.std.proofs.Common.{◌≡◌, ℕ, ◌≤◌, ◌⊎◌, Bool, true, false, cond, ◌&&◌, nat_le, List, [], ◌∷◌, ◌++◌}
use Rattle.std.proofs.Common.{length, drop, map, filter, is_some, Option, Some, None, inl, inr, refl, sym, ap}
use Rattle.std.proofs.Common.{subst, ◌∙◌, true≢false, append_assoc, arith, le-leb}
use Rattle.std.specs.List.{AllByRecursion, IsDistinct}
use Rattle.std.specs.Map.{keys_of, lookup}
use Rattle.std.specs.Option.{option_map}
use Rattle.std.specs.Str.{bytes_eq}
use Rattle.std.proofs.Math.Seq.{take-append_seam, drop-append_seam}
use Rattle.std.proofs.lemmas.List.Sums.{sum_by-cons}
use Rattle.std.proofs.lemmas.Slice.Eq.{bytes_eq-Decides}
use Rattle.folders.specs.Files.{Files, file_at, front, is_behind}
use Rattle.listed_files.specs.Key.{is_key}
use Rattle.listed_files.specs.Entries.{Entries, trim}
use Rattle.listed_files.specs.Disk.{Backed, dropped}
use Rattle.folders.specs.Changed.{OnlyRemoved}
use Rattle.listed_files.specs.Opened.{stripped, with_key, keyed, is_kept, listing, opened}
use Rattle.toolchain_cache.specs.Archives.{Archives, id_of, is_id, archive_of, archive_key, archive_path}
use Rattle.toolchain_cache.specs.Archives.{archive_at, archives_in, sound_archives, opened_archives}
use Rattle.toolchain_cache.specs.Archives.{paths_under}
use Rattle.toolchain_cache.specs.Archiving.{Relists}
use Rattle.toolchain_cache.specs.Keyed.{id_in, unkeyed, AllArchiveKeys, AllHold}
use Rattle.toolchain_cache.specs.Cleaned.{found_of, under, is_sound, Cleaned, is_archive_key, are_archive_keys}
use Rattle.toolchain_cache.proofs.ArchiveKeys.{id_is_key}
use Rattle.folders.proofs.Distinct.{apart}
use Rattle.toolchain_cache.proofs.Ids.{id_length, digest_is_id}
use Rattle.toolchain_cache.proofs.InStep.{path_once, in_more}
use Rattle.listed_files.proofs.Outs.{dropped_and_rest}
use Rattle.toolchain_cache.proofs.Judged.{there_at}
use Rattle.listed_files.proofs.Listings.{listing_more, all_listing}
use Rattle.folders.proofs.Lookups.{itself}
use Rattle.listed_files.proofs.Standing.{all_both}
use Rattle.listed_files.proofs.Strips.{begins}
use Rattle.toolchain_cache.proofs.Unkeyed.{id_of_key, trim_un, keys_trimmed}

-- ---- sound files as entries

-- the entry of a sound file
abbrev key_entry : List ℕ × List ℕ → List ℕ × ℕ
key_entry f = (archive_key (id_of f.1), length f.1)

abbrev AllSound : List ℕ → ℕ → Files → Type 0
AllSound root capacity fs = AllByRecursion (λ f. is_sound root capacity f ≡ true) fs

sound_filter : (root : List ℕ) (capacity : ℕ) (fs : Files)
    → AllSound root capacity (filter (is_sound root capacity) fs)
sound_filter root capacity [] = tt
sound_filter root capacity (f ∷ fs) = by (is_sound root capacity f) refl (sound_filter root capacity fs)
  where
    by : (b : Bool) → is_sound root capacity f ≡ b
        → AllSound root capacity (filter (is_sound root capacity) fs)
        → AllSound root capacity
        (cond b (f ∷ filter (is_sound root capacity) fs) (filter (is_sound root capacity) fs))
    by true is rest = (is, rest)
    by false is rest = rest

and_false : (b : Bool) → (b && false) ≡ false
and_false true = refl
and_false false = refl

both_true : (a b : Bool) → (a && b) ≡ true → (a ≡ true) × (b ≡ true)
both_true true b h = (refl, h)
both_true false b h = absurd (true≢false (sym h))

pub sound_path : (root : List ℕ) (capacity : ℕ) (f : List ℕ × List ℕ) → is_sound root capacity f ≡ true
    → f.0 ≡ root ++ archive_key (id_of f.1)
sound_path root capacity f h =
    (bytes_eq-Decides f.0 (root ++ archive_key (id_of f.1))).0
    ((both_true (nat_le (length f.1) capacity) (bytes_eq f.0 (root ++ archive_key (id_of f.1))) h).1)

strip_front : (root k : List ℕ) → stripped root (root ++ k) ≡ Some k
strip_front root k =
    let front : is_behind root (root ++ k) ≡ true = ap (λ t. bytes_eq root t) (take-append_seam root k)
    ∙ itself root in
    ap (λ b. cond b (Some (drop (length root) (root ++ k))) None) front ∙ ap Some (drop-append_seam root k)

keyed_sound : (root : List ℕ) (capacity : ℕ) (fs : Files) → AllSound root capacity fs
    → keyed root (map found_of fs) ≡ map key_entry fs
keyed_sound root capacity [] h = refl
keyed_sound root capacity (f ∷ fs) h =
    let is : stripped root f.0 ≡ Some (archive_key (id_of f.1)) =
    ap (stripped root) (sound_path root capacity f h.0) ∙ strip_front root (archive_key (id_of f.1)) in
    λ i. with_key (is i) (length f.1) (keyed_sound root capacity fs h.1 i)

kept_sound : (root : List ℕ) (capacity : ℕ) (fs : Files) → AllSound root capacity fs
    → filter (is_kept capacity) (map key_entry fs) ≡ map key_entry fs
kept_sound root capacity [] h = refl
kept_sound root capacity (f ∷ fs) h =
    let one : is_key (archive_key (id_of f.1)) ≡ true = id_is_key (id_of f.1) (digest_is_id f.1) in
    let two : nat_le (length f.1) capacity ≡ true =
    (both_true (nat_le (length f.1) capacity) (bytes_eq f.0 (root ++ archive_key (id_of f.1))) h.0).0 in
    (λ i. cond (one i && two i) (key_entry f ∷ filter (is_kept capacity) (map key_entry fs))
    (filter (is_kept capacity) (map key_entry fs))) ∙ ap (λ l. key_entry f ∷ l)
    (kept_sound root capacity fs h.1)

-- what the opening below lists of files that are clean
opened_sound : (root : List ℕ) (capacity : ℕ) (files S : Files) → AllSound root capacity S
    → under root files ≡ S → opened root capacity files ≡ trim capacity (map key_entry S)
opened_sound root capacity files S sound is =
    ap (λ l. trim capacity (filter (is_kept capacity) (keyed root (map found_of l)))) is
    ∙ ap (trim capacity) (ap (filter (is_kept capacity)) (keyed_sound root capacity S sound)
    ∙ kept_sound root capacity S sound)

un_entry : (fs : Files) → unkeyed (map key_entry fs) ≡ map (λ f. archive_of f.1) fs
un_entry [] = refl
un_entry (f ∷ fs) = λ i. (id_of_key (id_of f.1) (id_length f.1) i, length f.1) ∷ un_entry fs i

-- the sound archives are those of the sound files
pub sound_is : (path : List ℕ) (capacity : ℕ) (fs : Files) → sound_archives path capacity fs ≡ map
    (λ f. archive_of f.1) (filter (is_sound (front path) capacity) (under (front path) fs))
sound_is path capacity [] = refl
sound_is path capacity (f ∷ fs) = by (bytes_eq f.0 (archive_path path (id_of f.1)))
    (nat_le (length f.1) capacity) (is_behind (front path) f.0) refl refl refl (sound_is path capacity fs)
  where
    by : (m n b : Bool) → bytes_eq f.0 (archive_path path (id_of f.1)) ≡ m → nat_le (length f.1) capacity ≡ n
        → is_behind (front path) f.0 ≡ b
        → filter (λ (a : List ℕ × ℕ). nat_le a.1 capacity) (archives_in path fs) ≡ map (λ f. archive_of f.1)
        (filter (is_sound (front path) capacity) (under (front path) fs))
        → filter (λ (a : List ℕ × ℕ). nat_le a.1 capacity) (archives_in path (f ∷ fs)) ≡ map
        (λ f. archive_of f.1) (filter (is_sound (front path) capacity)
        (cond b (f ∷ under (front path) fs) (under (front path) fs)))
    by true n false m_is n_is b_is rest =
        let front_is : is_behind (front path) (archive_path path (id_of f.1)) ≡ true =
        ap (λ t. bytes_eq (front path) t) (take-append_seam (front path) (archive_key (id_of f.1)))
        ∙ itself (front path) in
        absurd (true≢false (sym front_is
        ∙ (ap (is_behind (front path))
        (sym ((bytes_eq-Decides f.0 (archive_path path (id_of f.1))).0 m_is)) ∙ b_is)))
    by false n false m_is n_is b_is rest = ap (filter (λ (a : List ℕ × ℕ). nat_le a.1 capacity))
        (in_more path f fs false m_is) ∙ rest
    by false n true m_is n_is b_is rest =
        ap (filter (λ (a : List ℕ × ℕ). nat_le a.1 capacity)) (in_more path f fs false m_is)
        ∙ (rest ∙ sym (ap (λ x. map (λ (f : List ℕ × List ℕ). archive_of f.1)
        (cond x (f ∷ filter (is_sound (front path) capacity) (under (front path) fs))
        (filter (is_sound (front path) capacity) (under (front path) fs))))
        ((λ i. nat_le (length f.1) capacity && m_is i) ∙ and_false (nat_le (length f.1) capacity))))
    by true true true m_is n_is b_is rest =
        ap (filter (λ (a : List ℕ × ℕ). nat_le a.1 capacity)) (in_more path f fs true m_is)
        ∙ (ap (λ x. cond x (archive_of f.1 ∷ filter (λ (a : List ℕ × ℕ). nat_le a.1 capacity)
        (archives_in path fs)) (filter (λ (a : List ℕ × ℕ). nat_le a.1 capacity) (archives_in path fs)))
        n_is
        ∙ (ap (λ l. archive_of f.1 ∷ l) rest
        ∙ sym (λ i. map (λ (f : List ℕ × List ℕ). archive_of f.1)
        (cond (n_is i && m_is i) (f ∷ filter (is_sound (front path) capacity) (under (front path) fs))
        (filter (is_sound (front path) capacity) (under (front path) fs))))))
    by true false true m_is n_is b_is rest =
        ap (filter (λ (a : List ℕ × ℕ). nat_le a.1 capacity)) (in_more path f fs true m_is)
        ∙ (ap (λ x. cond x (archive_of f.1 ∷ filter (λ (a : List ℕ × ℕ). nat_le a.1 capacity)
        (archives_in path fs)) (filter (λ (a : List ℕ × ℕ). nat_le a.1 capacity) (archives_in path fs)))
        n_is
        ∙ (rest
        ∙ sym (λ i. map (λ (f : List ℕ × List ℕ). archive_of f.1)
        (cond (n_is i && m_is i) (f ∷ filter (is_sound (front path) capacity) (under (front path) fs))
        (filter (is_sound (front path) capacity) (under (front path) fs))))))

-- so the archives opened are those that the definition says
pub opened_is : (path root : List ℕ) (capacity : ℕ) (old files : Files) → root ≡ front path
    → Cleaned root capacity old files → unkeyed (opened root capacity files) ≡ opened_archives path capacity
    old
opened_is path root capacity old files is clean =
    let S = filter (is_sound root capacity) (under root old) in
    ap unkeyed (opened_sound root capacity files S (sound_filter root capacity (under root old)) clean.1)
    ∙ (sym (trim_un capacity (map key_entry S))
    ∙ ap (trim capacity) (un_entry S
    ∙ (ap (λ r. map (λ (f : List ℕ × List ℕ). archive_of f.1)
    (filter (is_sound r capacity) (under r old))) is ∙ sym (sound_is path capacity old))))

-- ---- every key is one of an archive

archive_key_is : (b : List ℕ) → is_archive_key (archive_key (id_of b)) ≡ true
archive_key_is b =
    let same : id_in (archive_key (id_of b)) ≡ id_of b = id_of_key (id_of b) (id_length b) in
    (λ i. is_id (same i) && bytes_eq (archive_key (id_of b)) (archive_key (same i)))
    ∙ (λ i. digest_is_id b i && itself (archive_key (id_of b)) i)

keys_sound : (fs : Files) → AllByRecursion (λ (e : List ℕ × ℕ). is_archive_key e.0 ≡ true) (map key_entry fs)
keys_sound [] = tt
keys_sound (f ∷ fs) = (archive_key_is f.1, keys_sound fs)

all_pass : (es : Entries) → AllByRecursion (λ (e : List ℕ × ℕ). is_archive_key e.0 ≡ true) es
    → are_archive_keys es ≡ true
all_pass [] h = refl
all_pass (e ∷ es) h = λ i. h.0 i && all_pass es h.1 i

pub opened_keys : (root : List ℕ) (capacity : ℕ) (old files : Files) → Cleaned root capacity old files
    → are_archive_keys (opened root capacity files) ≡ true
opened_keys root capacity old files clean =
    let S = filter (is_sound root capacity) (under root old) in
    ap are_archive_keys (opened_sound root capacity files S (sound_filter root capacity (under root old))
    clean.1)
    ∙ all_pass (trim capacity (map key_entry S))
    (keys_trimmed (λ e. is_archive_key e.0 ≡ true) capacity (map key_entry S) (keys_sound S))

pub are_keys : (es : Entries) → are_archive_keys es ≡ true → AllArchiveKeys es
are_keys [] h = tt
are_keys (e ∷ es) h =
    let first = both_true (is_archive_key e.0) (are_archive_keys es) h in
    let parts = both_true (is_id (id_in e.0)) (bytes_eq e.0 (archive_key (id_in e.0))) first.0 in (
      record { path = (bytes_eq-Decides e.0 (archive_key (id_in e.0))).0 parts.1; id = parts.0 },
      are_keys es first.1,
    )

-- ---- what the files hold

-- the file of each sound one
hold_middle : (root : List ℕ) (capacity : ℕ) (files front fs : Files) → IsDistinct bytes_eq (keys_of files)
    → under root files ≡ front ++ fs → AllSound root capacity fs → AllHold root files (map key_entry fs)
hold_middle root capacity files front [] distinct is sound = tt
hold_middle root capacity files front (f ∷ fs) distinct is sound =
    let there : file_at files (root ++ archive_key (id_of f.1)) ≡ Some f.1 =
    ap (file_at files) (sym (sound_path root capacity f sound.0))
    ∙ there_at root files front fs f distinct is in (
      ap (option_map archive_of) there ∙ ap (λ k. Some (k, length f.1))
          (sym (id_of_key (id_of f.1) (id_length f.1))),
      hold_middle root capacity files
          (front ++ f ∷ []) fs distinct (is ∙ sym (append_assoc front (f ∷ []) fs)) sound.1,
    )

-- a file that is only left holds what it held
hold_left : (root : List ℕ) (old new : Files) (es : Entries) → OnlyRemoved old new → Backed root new es
    → AllHold root old es → AllHold root new es
hold_left root old new es left backed hold = all_both es backed hold
    (λ e sized held. by e (file_at new (root ++ e.0)) refl sized held)
  where
    by : (e : List ℕ × ℕ) (o : Option (List ℕ)) → file_at new (root ++ e.0) ≡ o
        → option_map length (file_at new (root ++ e.0)) ≡ Some e.1
        → option_map archive_of (file_at old (root ++ e.0)) ≡ Some (id_in e.0, e.1)
        → option_map archive_of (file_at new (root ++ e.0)) ≡ Some (id_in e.0, e.1)
    by e None is sized held = absurd (true≢false (sym (ap is_some (sym (ap (option_map length) is) ∙ sized))))
    by e (Some b) is sized held = ap (option_map archive_of) (is ∙ sym (left (root ++ e.0) b is)) ∙ held

pub opened_hold : (root : List ℕ) (capacity : ℕ) (old files new : Files) (es : Entries)
    → Cleaned root capacity old files → es ≡ opened root capacity files → OnlyRemoved files new
    → Backed root new es → AllHold root new es
opened_hold root capacity old files new es clean is left backed =
    let S = filter (is_sound root capacity) (under root old) in
    let sound = sound_filter root capacity (under root old) in
    let all : AllHold root files (map key_entry S) =
    hold_middle root capacity files [] S clean.0 clean.1 sound in
    let ends : AllHold root files (trim capacity (map key_entry S)) =
    keys_trimmed (λ e. option_map archive_of (file_at files (root ++ e.0)) ≡ Some (id_in e.0, e.1))
    capacity (map key_entry S) all in
    hold_left root files new es left backed
    (subst (AllHold root files) (sym (is ∙ opened_sound root capacity files S sound clean.1)) ends)

-- ---- in step

hold_rest : (root : List ℕ) (f : List ℕ × List ℕ) (fs : Files) → IsDistinct bytes_eq (keys_of (f ∷ fs))
    → AllHold root (f ∷ fs) (listing root fs) → AllHold root fs (listing root fs)
unfolding IsDistinct
hold_rest root f fs distinct h =
    all_both (listing root fs) h (all_listing (λ q. bytes_eq f.0 q ≡ false) root fs distinct.0)
    (λ e held other.
    sym (ap (λ b. option_map archive_of (cond b (Some f.1) (file_at fs (root ++ e.0))))
    (apart f.0 (root ++ e.0) other)) ∙ held)

distinct_rest : (f : List ℕ × List ℕ) (fs : Files) → IsDistinct bytes_eq (keys_of (f ∷ fs))
    → IsDistinct bytes_eq (keys_of fs)
unfolding IsDistinct
distinct_rest f fs h = h.1

-- a file outside is no archive
outside : (path root : List ℕ) (f : List ℕ × List ℕ) → root ≡ front path → is_behind root f.0 ≡ false
    → bytes_eq f.0 (archive_path path (id_of f.1)) ≡ false
outside path root f root_is is = by (bytes_eq f.0 (archive_path path (id_of f.1))) refl
  where
    by : (b : Bool) → bytes_eq f.0 (archive_path path (id_of f.1)) ≡ b → b ≡ false
    by false other = refl
    by true same =
        let within : is_behind (front path) (archive_path path (id_of f.1)) ≡ true =
        ap (λ t. bytes_eq (front path) t) (take-append_seam (front path) (archive_key (id_of f.1)))
        ∙ itself (front path) in
        absurd (true≢false (sym within
        ∙ ((λ i. is_behind (sym root_is i)
        (sym ((bytes_eq-Decides f.0 (archive_path path (id_of f.1))).0 same) i)) ∙ is)))

-- archives among files that all hold what their keys say
pub held_in_step : (path root : List ℕ) (fs : Files) → root ≡ front path → IsDistinct bytes_eq (keys_of fs)
    → AllArchiveKeys (listing root fs) → AllHold root fs (listing root fs) → archives_in path fs ≡ unkeyed
    (listing root fs)
held_in_step path root [] root_is distinct keys hold = refl
held_in_step path root (f ∷ fs) root_is distinct keys hold =
    by (is_behind root f.0) refl keys hold
    (λ k h. held_in_step path root fs root_is (distinct_rest f fs distinct) k
    (hold_rest root f fs distinct h))
  where
    by : (b : Bool) → is_behind root f.0 ≡ b → AllArchiveKeys (listing root (f ∷ fs))
        → AllHold root (f ∷ fs) (listing root (f ∷ fs))
        → (AllArchiveKeys (listing root fs) → AllHold root (f ∷ fs) (listing root fs)
        → archives_in path fs ≡ unkeyed (listing root fs))
        → archives_in path (f ∷ fs) ≡ unkeyed (listing root (f ∷ fs))
    by true is k h rest =
        let key = drop (length root) f.0 in
        let more = listing_more root f fs true is in
        let kk = subst AllArchiveKeys more k in
        let hh = subst (AllHold root (f ∷ fs)) more h in
        let path_is : f.0 ≡ root ++ key = begins f.0 root is in
        let here : file_at (f ∷ fs) (root ++ key) ≡ Some f.1 =
        ap (λ b. cond b (Some f.1) (file_at fs (root ++ key)))
        ((bytes_eq-Decides (root ++ key) f.0).1 (sym path_is)) in
        let both : Some (archive_of f.1) ≡ Some (id_in key, length f.1) =
        sym (ap (option_map archive_of) here) ∙ hh.0 in
        let pair : archive_of f.1 ≡ (id_in key, length f.1) = cc in
        let id : id_of f.1 ≡ id_in key = ap (λ p. p.0) pair in
        let stands : bytes_eq f.0 (archive_path path (id_of f.1)) ≡ true =
        (bytes_eq-Decides f.0 (archive_path path (id_of f.1))).1
        (path_is ∙ (λ i. root_is i ++ (kk.0.path ∙ ap archive_key (sym id)) i)) in
        in_more path f fs true stands ∙ ((λ i. pair i ∷ rest kk.1 hh.1 i) ∙ sym (ap unkeyed more))
    by false is k h rest =
        let more = listing_more root f fs false is in
        in_more path f fs false (outside path root f root_is is)
        ∙ (rest (subst AllArchiveKeys more k) (subst (AllHold root (f ∷ fs)) more h)
        ∙ sym (ap unkeyed more))

-- ---- no other file is left

pub paths_left : (path root : List ℕ) (fs : Files) → root ≡ front path → AllArchiveKeys (listing root fs)
    → paths_under path fs ≡ map (λ a. archive_path path a.0) (unkeyed (listing root fs))
paths_left path root [] root_is keys = refl
paths_left path root (f ∷ fs) root_is keys = by (is_behind root f.0) refl keys
    (paths_left path root fs root_is)
  where
    by : (b : Bool) → is_behind root f.0 ≡ b → AllArchiveKeys (listing root (f ∷ fs))
        → (AllArchiveKeys (listing root fs) → paths_under path fs ≡ map (λ a. archive_path path a.0)
        (unkeyed (listing root fs)))
        → paths_under path (f ∷ fs) ≡ map (λ a. archive_path path a.0) (unkeyed (listing root (f ∷ fs)))
    by true is k rest =
        let more = listing_more root f fs true is in
        let kk = subst AllArchiveKeys more k in
        let first : f.0 ≡ archive_path path (id_in (drop (length root) f.0)) = begins f.0 root is
        ∙ (λ i. root_is i ++ kk.0.path i) in
        let behind : is_behind (front path) f.0 ≡ true = ap (λ r. is_behind r f.0) (sym root_is) ∙ is in
        ap (λ b. map (λ (x : List ℕ × List ℕ). x.0)
        (cond b (f ∷ under (front path) fs) (under (front path) fs))) behind
        ∙ ((λ i. first i ∷ rest kk.1 i)
        ∙ sym (ap (λ l. map (λ (a : List ℕ × ℕ). archive_path path a.0) (unkeyed l)) more))
    by false is k rest =
        let more = listing_more root f fs false is in
        let behind : is_behind (front path) f.0 ≡ false = ap (λ r. is_behind r f.0) (sym root_is) ∙ is in
        ap (λ b. map (λ (x : List ℕ × List ℕ). x.0)
        (cond b (f ∷ under (front path) fs) (under (front path) fs))) behind
        ∙ (rest (subst AllArchiveKeys more k)
        ∙ sym (ap (λ l. map (λ (a : List ℕ × ℕ). archive_path path a.0) (unkeyed l)) more))

-- ---- what had been listed

-- an archive whose file stands is among those of the files
found_in : (path id : List ℕ) (n : ℕ) (fs : Files) → archive_at path fs id ≡ Some (id, n)
    → lookup (bytes_eq id) (archives_in path fs) ≡ Some n
found_in path id n [] h = absurd (true≢false (sym (ap is_some h)))
found_in path id n (f ∷ fs) h = by (bytes_eq (archive_path path id) f.0)
    (bytes_eq f.0 (archive_path path (id_of f.1))) refl refl h (found_in path id n fs)
  where
    by : (s m : Bool) → bytes_eq (archive_path path id) f.0 ≡ s
        → bytes_eq f.0 (archive_path path (id_of f.1)) ≡ m
        → option_map archive_of (cond s (Some f.1) (file_at fs (archive_path path id))) ≡ Some (id, n)
        → (option_map archive_of (file_at fs (archive_path path id)) ≡ Some (id, n)
        → lookup (bytes_eq id) (archives_in path fs) ≡ Some n)
        → lookup (bytes_eq id) (archives_in path (f ∷ fs)) ≡ Some n
    by true m same m_is here rest =
        let pair : archive_of f.1 ≡ (id, n) = cc in
        let path_is : archive_path path id ≡ f.0 = (bytes_eq-Decides (archive_path path id) f.0).0 same in
        let id_is : id_of f.1 ≡ id = ap (λ p. p.0) pair in
        let stands : bytes_eq f.0 (archive_path path (id_of f.1)) ≡ true =
        (bytes_eq-Decides f.0 (archive_path path (id_of f.1))).1
        (sym path_is ∙ ap (archive_path path) (sym id_is)) in
        ap (lookup (bytes_eq id)) (in_more path f fs true stands)
        ∙ (ap (λ b. cond b (Some (length f.1)) (lookup (bytes_eq id) (archives_in path fs)))
        (ap (bytes_eq id) id_is ∙ itself id) ∙ ap (λ p. Some p.1) pair)
    by false true other m_is later rest =
        let differs : bytes_eq id (id_of f.1) ≡ false = sym (path_once path id (id_of f.1))
        ∙ (ap (bytes_eq (archive_path path id))
        (sym ((bytes_eq-Decides f.0 (archive_path path (id_of f.1))).0 m_is)) ∙ other) in
        ap (lookup (bytes_eq id)) (in_more path f fs true m_is)
        ∙ (ap (λ b. cond b (Some (length f.1)) (lookup (bytes_eq id) (archives_in path fs))) differs
        ∙ rest later)
    by false false other m_is later rest = ap (lookup (bytes_eq id)) (in_more path f fs false m_is)
        ∙ rest later

still_small : (id : List ℕ) (n capacity : ℕ) (es : Archives) → n ≤ capacity → lookup (bytes_eq id) es ≡ Some n
    → lookup (bytes_eq id) (filter (λ (a : List ℕ × ℕ). nat_le a.1 capacity) es) ≡ Some n
still_small id n capacity [] fits found = found
still_small id n capacity (e ∷ es) fits found = by (bytes_eq id e.0) (nat_le e.1 capacity) refl refl found
    (still_small id n capacity es fits)
  where
    by : (s m : Bool) → bytes_eq id e.0 ≡ s → nat_le e.1 capacity ≡ m
        → cond s (Some e.1) (lookup (bytes_eq id) es) ≡ Some n
        → (lookup (bytes_eq id) es ≡ Some n
        → lookup (bytes_eq id) (filter (λ (a : List ℕ × ℕ). nat_le a.1 capacity) es) ≡ Some n)
        → lookup (bytes_eq id) (cond m (e ∷ filter (λ (a : List ℕ × ℕ). nat_le a.1 capacity) es)
        (filter (λ (a : List ℕ × ℕ). nat_le a.1 capacity) es)) ≡ Some n
    by true true same m_is here rest =
        ap (λ b. cond b (Some e.1)
        (lookup (bytes_eq id) (filter (λ (a : List ℕ × ℕ). nat_le a.1 capacity) es))) same ∙ here
    by true false same m_is here rest =
        let size : e.1 ≡ n = cc in
        absurd (true≢false (sym (le-leb e.1 capacity (omega (arith, fits, size))) ∙ m_is))
    by false true other m_is later rest =
        ap (λ b. cond b (Some e.1)
        (lookup (bytes_eq id) (filter (λ (a : List ℕ × ℕ). nat_le a.1 capacity) es))) other ∙ rest later
    by false false other m_is later rest = rest later

in_either : (id : List ℕ) (n : ℕ) (gone rest : Archives) → lookup (bytes_eq id) (gone ++ rest) ≡ Some n
    → (lookup (bytes_eq id) rest ≡ Some n) ⊎ (lookup (bytes_eq id) gone ≡ Some n)
in_either id n [] rest found = inl found
in_either id n (g ∷ gone) rest found = by (bytes_eq id g.0) found (in_either id n gone rest)
  where
    by : (b : Bool) → cond b (Some g.1) (lookup (bytes_eq id) (gone ++ rest)) ≡ Some n
        → (lookup (bytes_eq id) (gone ++ rest) ≡ Some n → (lookup (bytes_eq id) rest ≡ Some n)
        ⊎ (lookup (bytes_eq id) gone ≡ Some n))
        → (lookup (bytes_eq id) rest ≡ Some n) ⊎ (cond b (Some g.1) (lookup (bytes_eq id) gone) ≡ Some n)
    by true found more = inr found
    by false found more = more found

pub relists : (path : List ℕ) (capacity : ℕ) (files : Files) (new : Archives)
    → new ≡ opened_archives path capacity files → Relists path capacity files new
relists path capacity files new is [] verified fits = tt
relists path capacity files new is (a ∷ old) verified fits =
    let sum = sum_by-cons (λ (x : List ℕ × ℕ). x.1) a old in
    let found = still_small a.0 a.1 capacity (archives_in path files) (omega (arith, fits, sum))
    (found_in path a.0 a.1 files verified.0) in
    let all = sound_archives path capacity files in
    let split = in_either a.0 a.1 (dropped capacity all) (trim capacity all)
    (ap (lookup (bytes_eq a.0)) (sym (dropped_and_rest capacity all)) ∙ found) in (
      elim split [ inl here ↦ inl (ap (lookup (bytes_eq a.0)) is ∙ here) | inr gone ↦ inr gone ],
      relists path capacity files new is old verified.1 (omega (arith, fits, sum)),
    )
