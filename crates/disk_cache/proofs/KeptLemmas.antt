-- What an opening keeps of the archives that it would list, step by step.
use Rattle.std.proofs.Common.{◌≡◌, ℕ, nat_le, List, [], ◌∷◌, ◌++◌, filter, map, Bool, true, false, ◌||◌}
use Rattle.std.proofs.Common.{Option, None, refl, sym, ap, subst, ◌∙◌, true≢false}
use Rattle.std.specs.List.{list_any}
use Rattle.std.specs.Str.{bytes_eq}
use Rattle.std.proofs.Math.Seq.{take-append_seam}
use Rattle.std.proofs.lemmas.Slice.Eq.{bytes_eq-Decides}
use Rattle.folders.specs.Files.{Files, file_at, front, is_behind}
use Rattle.folders.specs.Held.{Held, Holds, Became}
use Rattle.folders.specs.Changed.{RemovedUnder}
use Rattle.folders.proofs.Became.{became_map, became_then, became_from}
use Rattle.folders.proofs.Distinct.{apart}
use Rattle.listed_files.specs.Entries.{trim}
use Rattle.toolchain_cache.specs.Archives.{Archives, archive_key, archive_path, opened_archives, paths_under}
use Rattle.toolchain_cache.specs.Stored.{KeepsArchives, KeepsListed}
use Rattle.toolchain_cache.proofs.Sparing.{all_then}
use Rattle.disk_cache.specs.declared.names.Names.{Names}
use Rattle.disk_cache.specs.Names.{AreNames, cache_path, temp_dir, temp_path, weak_path}
use Rattle.disk_cache.specs.Opening.{SameArchives, HasOnly}
use Rattle.disk_cache.specs.Saving.{ButTwo}
use Rattle.disk_cache.proofs.LeftLemmas.{both}
use Rattle.disk_cache.proofs.NameLemmas.{cache_apart_temp, cache_beside_temp, cache_beside_weak}

-- each file below a path is as it was
abbrev SameBelow : List ℕ → Files → Files → Type 0
SameBelow path f g = (k : List ℕ) → file_at g (front path ++ k) ≡ file_at f (front path ++ k)

below_archives : (path : List ℕ) (archives : Archives) (f g : Files) → SameBelow path f g
    → KeepsArchives path archives f g
below_archives path [] f g same = tt
below_archives path (a ∷ rest) f g same = (same (archive_key a.0), below_archives path rest f g same)

temp_below : (dir : List ℕ) (f g : Files) → RemovedUnder (front (temp_dir dir)) f g
    → SameBelow (cache_path dir) f g
temp_below dir f g removed = λ k.
    removed.1 (front (cache_path dir) ++ k)
    (λ m. apart (front (cache_path dir) ++ k) (front (temp_dir dir) ++ m) (cache_apart_temp dir m k))

two_below : (dir : List ℕ) (f g : Files) → ButTwo (temp_path dir) (weak_path dir) f g
    → SameBelow (cache_path dir) f g
two_below dir f g others = λ k.
    others (front (cache_path dir) ++ k)
    (apart (front (cache_path dir) ++ k) (temp_path dir) (cache_beside_temp dir k))
    (apart (front (cache_path dir) ++ k) (weak_path dir) (cache_beside_weak dir k))

-- ---- an opening

module _ (n : Names) (dir path : List ℕ) (capacity : ℕ) (old mid : Option Files) (at : n.dir ≡ dir)
    (named : AreNames n) (is : path ≡ n.cache)
    (emptied : Became (RemovedUnder (front (temp_dir n.dir))) old mid) where
  in_dir : (one two : Option Files) → Became (KeepsListed (cache_path n.dir) capacity) one two
      → Became (KeepsListed (cache_path dir) capacity) one two
  in_dir one two h = subst (λ (d : List ℕ). Became (KeepsListed (cache_path d) capacity) one two) at h

  -- that is refused as the directory is emptied
  pub emptied_listed : Became (KeepsListed (cache_path dir) capacity) old mid
  emptied_listed = in_dir old mid
      (became_map (RemovedUnder (front (temp_dir n.dir))) (KeepsListed (cache_path n.dir) capacity) old mid
      (λ f g removed. below_archives (cache_path n.dir) (opened_archives (cache_path n.dir) capacity f) f g
      (temp_below n.dir f g removed)) emptied)

  module _ (same : Became (SameArchives (cache_path n.dir)) old mid) (opened : Option Files)
      (kept : Became (KeepsListed path capacity) mid opened) where
    in_cache : Became (KeepsListed (cache_path n.dir) capacity) old opened
    in_cache =
        let here : Became (KeepsListed (cache_path n.dir) capacity) mid opened =
        subst (λ (p : List ℕ). Became (KeepsListed p capacity) mid opened) (is ∙ named.cache_is) kept in
        became_then (λ f g. RemovedUnder (front (temp_dir n.dir)) f g × SameArchives (cache_path n.dir) f g)
        (KeepsListed (cache_path n.dir) capacity) (KeepsListed (cache_path n.dir) capacity) old mid opened
        (λ f g h a b. all_then (cache_path n.dir) (opened_archives (cache_path n.dir) capacity f) f g h
        (below_archives (cache_path n.dir) (opened_archives (cache_path n.dir) capacity f) f g
        (temp_below n.dir f g a.0))
        (subst (λ (l : Archives). KeepsArchives (cache_path n.dir) l g h)
        (ap (λ (l : Archives). trim capacity (filter (λ (x : List ℕ × ℕ). nat_le x.1 capacity) l)) a.1) b))
        (both (RemovedUnder (front (temp_dir n.dir))) (SameArchives (cache_path n.dir)) old mid emptied same)
        here

    -- by the cache
    pub cached_listed : Became (KeepsListed (cache_path dir) capacity) old opened
    cached_listed = in_dir old opened in_cache

    -- or behind it
    pub loaded_listed : (new : Option Files) → Became (ButTwo (temp_path n.dir) (weak_path n.dir)) opened new
        → Became (KeepsListed (cache_path dir) capacity) old new
    loaded_listed new loaded = in_dir old new
        (became_then (KeepsListed (cache_path n.dir) capacity) (ButTwo (temp_path n.dir) (weak_path n.dir))
        (KeepsListed (cache_path n.dir) capacity) old opened new
        (λ f g h a b. all_then (cache_path n.dir) (opened_archives (cache_path n.dir) capacity f) f g h a
        (below_archives (cache_path n.dir) (opened_archives (cache_path n.dir) capacity f) g h
        (two_below n.dir g h b))) in_cache loaded)

-- ---- what stands below the cache

any_map : {A B : Type 0} (p : B → Bool) (f : A → B) (xs : List A) → list_any p (map f xs) ≡ list_any
    (λ x. p (f x)) xs
any_map p f [] = refl
any_map p f (x ∷ xs) = ap (λ (b : Bool). p (f x) || b) (any_map p f xs)

abbrev behind : List ℕ → Files → List (List ℕ)
behind begun files = map (λ f. f.0) (filter (λ f. is_behind begun f.0) files)

rest_unlisted : (begun q : List ℕ) (f : List ℕ × List ℕ) (fs : Files) (b : Bool) → is_behind begun f.0 ≡ b
    → bytes_eq q f.0 ≡ false → list_any (bytes_eq q) (behind begun (f ∷ fs)) ≡ false
    → list_any (bytes_eq q) (behind begun fs) ≡ false
rest_unlisted begun q f fs true is other h = rw (is, other) at h
rest_unlisted begun q f fs false is other h = rw is at h

first_listed : (begun q : List ℕ) (f : List ℕ × List ℕ) (fs : Files) → is_behind begun q ≡ true
    → bytes_eq q f.0 ≡ true → list_any (bytes_eq q) (behind begun (f ∷ fs)) ≡ true
first_listed begun q f fs within same =
    let is : is_behind begun f.0 ≡ true =
    subst (λ (p : List ℕ). is_behind begun p ≡ true) ((bytes_eq-Decides q f.0).0 same) within in
    rw (is, same) refl

not_first : (q : List ℕ) (f : List ℕ × List ℕ) (fs : Files) → bytes_eq q f.0 ≡ false
    → file_at (f ∷ fs) q ≡ file_at fs q
not_first q f fs other = rw other refl

unlisted_by : (begun q : List ℕ) (f : List ℕ × List ℕ) (fs : Files) (b : Bool) → bytes_eq q f.0 ≡ b
    → is_behind begun q ≡ true → (list_any (bytes_eq q) (behind begun fs) ≡ false → file_at fs q ≡ None)
    → list_any (bytes_eq q) (behind begun (f ∷ fs)) ≡ false → file_at (f ∷ fs) q ≡ None
unlisted_by begun q f fs true is within later h =
    absurd (true≢false (sym (first_listed begun q f fs within is) ∙ h))
unlisted_by begun q f fs false is within later h =
    not_first q f fs is ∙ later (rest_unlisted begun q f fs (is_behind begun f.0) refl is h)

-- a path behind another that none of the files behind it has is no file's
unlisted : (begun q : List ℕ) (files : Files) → is_behind begun q ≡ true
    → list_any (bytes_eq q) (behind begun files) ≡ false → file_at files q ≡ None
unlisted begun q [] within h = refl
unlisted begun q (f ∷ fs) within h =
    unlisted_by begun q f fs (bytes_eq q f.0) refl within (unlisted begun q fs within) h

cleared_only : (path : List ℕ) (archives : Archives) (files : Files)
    → paths_under path files ≡ map (λ a. archive_path path a.0) archives → HasOnly path archives files
cleared_only path archives files cleared = λ k none.
    let q : List ℕ = front path ++ k in
    let within : is_behind (front path) q ≡ true =
    ap (λ (t : List ℕ). bytes_eq (front path) t) (take-append_seam (front path) k)
    ∙ (bytes_eq-Decides (front path) (front path)).1 refl in
    unlisted (front path) q files within
    (ap (list_any (bytes_eq q)) cleared ∙ any_map (bytes_eq q) (λ a. archive_path path a.0) archives ∙ none)

-- an opening leaves no file below the cache but those of the archives that it lists
pub loaded_only : (n : Names) (dir path : List ℕ) (archives later : Archives) (opened new : Held)
    → n.dir ≡ dir → AreNames n → path ≡ n.cache → later ≡ archives
    → Holds opened (λ files. paths_under path files ≡ map (λ a. archive_path path a.0) archives)
    → Became (ButTwo (temp_path n.dir) (weak_path n.dir)) opened.files new.files
    → Holds new (HasOnly (cache_path dir) later)
loaded_only n dir path archives later opened new at named is same cleared others =
    subst (λ (d : List ℕ). Holds new (HasOnly (cache_path d) later)) at
    (subst (λ (l : Archives). Holds new (HasOnly (cache_path n.dir) l)) (sym same)
    (λ files told.
    let w = became_from (ButTwo (temp_path n.dir) (weak_path n.dir)) opened.files new.files files others
    told in
    let here : paths_under (cache_path n.dir) w.0 ≡ map (λ a. archive_path (cache_path n.dir) a.0) archives =
    subst (λ (p : List ℕ). paths_under p w.0 ≡ map (λ a. archive_path p a.0) archives)
    (is ∙ named.cache_is) (cleared w.0 w.1) in
    λ k none. two_below n.dir w.0 files w.2 k
    ∙ cleared_only (cache_path n.dir) archives w.0 here k none))
