-- What a refused opening leaves of the files, step by step.
use Rattle.std.proofs.Common.{◌≡◌, ℕ, false, List, codes, Option, Some, None, inl, inr, refl, sym, ap}
use Rattle.std.proofs.Common.{subst, ◌∙◌}
use Rattle.std.specs.Str.{bytes_eq}
use Rattle.folders.specs.Files.{Files, file_at, front}
use Rattle.folders.specs.Held.{Held, Became}
use Rattle.folders.specs.Changed.{ButUnder, OnlyRemoved, RemovedUnder}
use Rattle.folders.proofs.Became.{became_map, became_same, became_then}
use Rattle.disk_cache.specs.declared.names.Names.{Names}
use Rattle.disk_cache.specs.Names.{AreNames, IsBeside, weak_path, temp_dir, temp_path}
use Rattle.disk_cache.specs.Opening.{LeftOpen}
use Rattle.disk_cache.specs.Saving.{ButTwo, OldOrBegun}
use Rattle.disk_cache.specs.WeakMaps.{weak_map_of}
use Rattle.disk_cache.proofs.NameLemmas.{temp_beside_weak, temp_there, weak_outside}

-- ---- the weak map is begun

pub left_none : (dir : List ℕ) (o : Option Files) → Became (LeftOpen dir) o o
left_none dir o = became_same (LeftOpen dir) o (λ f. record {
  others = λ q cache temp weak. refl;
  removed = λ q b temp weak found. found;
  weak = inl refl;
})

none_before : (dir : List ℕ) (f g : Files) → OldOrBegun dir f g → file_at g (weak_path dir) ≡ None
    → file_at f (weak_path dir) ≡ None
none_before dir f g a none = elim a [ inl was ↦ sym was ∙ none | inr begun ↦ begun.0 ]

weak_then : (dir : List ℕ) (f g h : Files) → OldOrBegun dir f g → OldOrBegun dir g h → OldOrBegun dir f h
weak_then dir f g h a (inr begun) = inr (none_before dir f g a begun.0, begun.1)
weak_then dir f g h (inl was) (inl same) = inl (same ∙ was)
weak_then dir f g h (inr begun) (inl same) = inr (begun.0, ap weak_map_of same ∙ begun.1)

pub left_then : (dir : List ℕ) (one two three : Option Files) → Became (LeftOpen dir) one two
    → Became (LeftOpen dir) two three → Became (LeftOpen dir) one three
left_then dir one two three x y =
    became_then (LeftOpen dir) (LeftOpen dir) (LeftOpen dir) one two three
    (λ f g h a b. record {
      others = λ q cache temp weak. b.others q cache temp weak ∙ a.others q cache temp weak;
      removed = λ q c temp weak found. a.removed q c temp weak (b.removed q c temp weak found);
      weak = weak_then dir f g h a.weak b.weak;
    }) x y

-- ---- the steps

pub temp_left : (dir : List ℕ) (one two : Option Files) → Became (RemovedUnder (front (temp_dir dir))) one two
    → Became (LeftOpen dir) one two
temp_left dir one two h =
    became_map (RemovedUnder (front (temp_dir dir))) (LeftOpen dir) one two
    (λ f g r. record {
      others = λ q cache temp weak. r.1 q temp;
      removed = λ q b temp weak found. r.0 q b found;
      weak = inl (r.1 (weak_path dir) (temp_beside_weak dir));
    }) h

pub cache_left : (n : Names) (path : List ℕ) (one two : Option Files) → AreNames n → path ≡ n.cache
    → Became (RemovedUnder (front path)) one two → Became (LeftOpen n.dir) one two
cache_left n path one two named is h =
    became_map (RemovedUnder (front path)) (LeftOpen n.dir) one two
    (λ f g r. record {
      others = λ q cache temp weak.
          r.1 q (subst (λ (p : List ℕ). IsBeside p q) (sym (is ∙ named.cache_is)) cache);
      removed = λ q b temp weak found. r.0 q b found;
      weak = inl (r.1 (weak_path n.dir)
          (weak_outside n path (weak_path n.dir) named is (sym named.weak_is)));
    }) h

pub both : (A B : Files → Files → Type 0) (o n : Option Files) → Became A o n → Became B o n
    → Became (λ f g. A f g × B f g) o n
both A B None n a b = a
both A B (Some f) n a b =
    let same : b.0 ≡ a.0 = let told : Some b.0 ≡ Some a.0 = sym b.1 ∙ a.1 in cc in
    (a.0, a.1, (a.2, subst (λ (g : Files). B f g) same b.2))

pub removed_left : (n : Names) (path : List ℕ) (one two : Option Files) → AreNames n → path ≡ n.cache
    → Became OnlyRemoved one two → Became (ButUnder (front path)) one two → Became (LeftOpen n.dir) one two
removed_left n path one two named is removed others =
    cache_left n path one two named is (both OnlyRemoved (ButUnder (front path)) one two removed others)

pub load_left : (dir : List ℕ) (one two : Option Files)
    → Became (ButTwo (temp_path dir) (weak_path dir)) one two → Became (OldOrBegun dir) one two
    → Became (LeftOpen dir) one two
load_left dir one two others weak =
    became_map (λ f g. ButTwo (temp_path dir) (weak_path dir) f g × OldOrBegun dir f g) (LeftOpen dir) one two
    (λ f g h. record {
      others = λ q cache temp apart.
          h.0 q (subst (λ (p : List ℕ). bytes_eq p q ≡ false) (temp_there dir) (temp (codes "weak_map.json")))
          apart;
      removed = λ q b temp apart found. sym (h.0 q temp apart) ∙ found;
      weak = h.1;
    }) (both (ButTwo (temp_path dir) (weak_path dir)) (OldOrBegun dir) one two others weak)

-- ---- an opening

module _ (n : Names) (dir path : List ℕ) (old mid : Held) (at : n.dir ≡ dir) (named : AreNames n)
    (is : path ≡ n.cache) (emptied : Became (RemovedUnder (front (temp_dir n.dir))) old.files mid.files) where
  -- that is refused as the directory is emptied
  pub emptied_left : Became (LeftOpen dir) old.files mid.files
  emptied_left = subst (λ (d : List ℕ). Became (LeftOpen d) old.files mid.files) at
      (temp_left n.dir old.files mid.files emptied)

  -- by the cache
  pub refused_left : (new : Held) → Became (RemovedUnder (front path)) mid.files new.files
      → Became (LeftOpen dir) old.files new.files
  refused_left new removed =
      subst (λ (d : List ℕ). Became (LeftOpen d) old.files new.files) at
      (left_then n.dir old.files mid.files new.files (temp_left n.dir old.files mid.files emptied)
      (cache_left n path mid.files new.files named is removed))

  -- or behind the weak map
  pub loaded_left : (opened new : Held) → Became OnlyRemoved mid.files opened.files
      → Became (ButUnder (front path)) mid.files opened.files
      → Became (ButTwo (temp_path n.dir) (weak_path n.dir)) opened.files new.files
      → Became (OldOrBegun n.dir) opened.files new.files → Became (LeftOpen dir) old.files new.files
  loaded_left opened new removed others two weak =
      subst (λ (d : List ℕ). Became (LeftOpen d) old.files new.files) at
      (left_then n.dir old.files opened.files new.files
      (left_then n.dir old.files mid.files opened.files (temp_left n.dir old.files mid.files emptied)
      (removed_left n path mid.files opened.files named is removed others))
      (load_left n.dir opened.files new.files two weak))
