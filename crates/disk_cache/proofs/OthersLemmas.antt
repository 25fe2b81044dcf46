-- What a call leaves of the files that it is not about: one call behind another.
use Rattle.std.proofs.Common.{◌≡◌, ◌≤◌, ◌++◌, ℕ, List, Option, Some, refl, ap, subst, ◌∙◌, arith}
use Rattle.std.specs.Prelude.{◌⊎◌}
use Rattle.std.proofs.Common.{inl, inr}
use Rattle.folders.specs.Files.{Files, front}
use Rattle.folders.specs.Held.{Became}
use Rattle.folders.proofs.Became.{became_map, became_same, became_then}
use Rattle.folders.proofs.Distinct.{apart}
use Rattle.listed_files.specs.Disk.{KeepsSpoiled}
use Rattle.listed_files.specs.Key.{insert_name}
use Rattle.lru_disk_cache.proofs.Spoiled.{none_spoiled}
use Rattle.disk_cache.specs.Names.{cache_path, weak_path, temp_path}
use Rattle.disk_cache.specs.Opening.{ButOwn}
use Rattle.disk_cache.specs.Others.{ButArchives, KeepsBeside, KeepsFailed, KeepsOthers, OldOrRecorded}
use Rattle.disk_cache.specs.Saving.{ButTwo}
use Rattle.disk_cache.specs.Toolchains.{Toolchains}
use Rattle.disk_cache.specs.WeakMaps.{weak_map_at, weak_map_of, with_recorded}
use Rattle.disk_cache.specs.Putting.{KeptOrRecorded}
use Rattle.disk_cache.proofs.NameLemmas.{cache_beside_temp, cache_beside_weak, temp_there}
use Rattle.std.specs.Str.{bytes_eq}
use Rattle.std.specs.Prelude.{false, codes}

-- nothing changed
failed_same : (t : Toolchains) → KeepsFailed t t
failed_same t = record {
  count = omega arith;
  files = none_spoiled (front (cache_path t.dir)) t.spoiled t.held.files;
}

pub beside_same : (t : Toolchains) → KeepsBeside t t
beside_same t = record {
  dir = refl;
  weak = refl;
  files = became_same (ButArchives t.dir) t.held.files (λ f q out. refl);
  failed = failed_same t;
}

-- what failed inserts left stays, one call behind another
failed_then : (old between new : Toolchains) → between.dir ≡ old.dir → KeepsFailed old between
    → KeepsFailed between new → KeepsFailed old new
failed_then old between new dir one two =
    let begun : old.spoiled ≤ between.spoiled = one.count in
    let ended : between.spoiled ≤ new.spoiled = two.count in
    record {
      count = omega (arith, begun, ended);
      files = became_then (KeepsSpoiled (front (cache_path old.dir)) old.spoiled)
          (KeepsSpoiled (front (cache_path between.dir)) between.spoiled)
          (KeepsSpoiled (front (cache_path old.dir)) old.spoiled) old.held.files between.held.files
          new.held.files
          (λ f g h a b n less fits.
          subst (λ (d : List ℕ). KeepsSpoiled (front (cache_path d)) between.spoiled g h) dir b n
          (omega (arith, less, begun)) fits ∙ a n less fits) one.files two.files;
    }

-- nor does what is written beside the cache touch it
pub two_spared : (dir : List ℕ) (spoiled : ℕ) (old new : Option Files)
    → Became (ButTwo (temp_path dir) (weak_path dir)) old new
    → Became (KeepsSpoiled (front (cache_path dir)) spoiled) old new
two_spared dir spoiled old new =
    became_map (ButTwo (temp_path dir) (weak_path dir)) (KeepsSpoiled (front (cache_path dir)) spoiled) old
    new (λ f g but n less fits. but (front (cache_path dir) ++ insert_name n)
    (apart (front (cache_path dir) ++ insert_name n) (temp_path dir) (cache_beside_temp dir (insert_name n)))
    (apart (front (cache_path dir) ++ insert_name n) (weak_path dir) (cache_beside_weak dir (insert_name n))))

weak_same : (dir : List ℕ) (f g : Files) → ButArchives dir f g → weak_map_at dir g ≡ weak_map_at dir f
weak_same dir f g but = ap weak_map_of (but (weak_path dir) (cache_beside_weak dir))

-- what leaves all but the archives leaves all but the client's own
pub others_of : (key : List ℕ) (old new : Toolchains) → KeepsBeside old new → KeepsOthers key old new
others_of key old new h = record {
  dir = h.dir;
  files = became_map (ButArchives old.dir) (ButOwn old.dir) old.held.files new.held.files
      (λ f g but q out temp weak. but q out) h.files;
  weak = became_map (ButArchives old.dir) (OldOrRecorded key old) old.held.files new.held.files
      (λ f g but. inl (weak_same old.dir f g but)) h.files;
  failed = h.failed;
}

recorded_then : (key : List ℕ) (old between : Toolchains) (f g h : Files) → between.dir ≡ old.dir
    → between.weak ≡ old.weak → ButArchives old.dir f g → OldOrRecorded key between g h
    → OldOrRecorded key old f h
recorded_then key old between f g h dir weak but (inl same) =
    let here : weak_map_at old.dir h ≡ weak_map_at old.dir g =
    subst (λ (d : List ℕ). weak_map_at d h ≡ weak_map_at d g) dir same in
    inl (here ∙ weak_same old.dir f g but)
recorded_then key old between f g h dir weak but (inr (id, is)) =
    inr (
      id,
      subst (λ (d : List ℕ). weak_map_at d h ≡ Some (with_recorded key id old.weak)) dir
          (subst (λ w. weak_map_at between.dir h ≡ Some (with_recorded key id w)) weak is),
    )

-- a look-up or a store, and then a record
pub others_then : (key : List ℕ) (old between new : Toolchains) → KeepsBeside old between
    → KeepsOthers key between new → KeepsOthers key old new
others_then key old between new one two = record {
  dir = two.dir ∙ one.dir;
  files = became_then (ButArchives old.dir) (ButOwn between.dir) (ButOwn old.dir) old.held.files
      between.held.files new.held.files
      (λ f g h but own q out temp weak.
      subst (λ (d : List ℕ). ButOwn d g h) one.dir own q out temp weak ∙ but q out) one.files two.files;
  weak = became_then (ButArchives old.dir) (OldOrRecorded key between) (OldOrRecorded key old)
      old.held.files between.held.files new.held.files
      (λ f g h. recorded_then key old between f g h one.dir one.weak) one.files two.weak;
  failed = failed_then old between new one.dir one.failed two.failed;
}

-- nothing of the files changed
pub own_same : (dir : List ℕ) (files : Option Files) → Became (ButOwn dir) files files
own_same dir files = became_same (ButOwn dir) files (λ f q cache temp weak. refl)

-- the file of the weak map, and where it is written before it is renamed, are the client's own
pub own_of_two : (dir : List ℕ) (old new : Option Files)
    → Became (ButTwo (temp_path dir) (weak_path dir)) old new → Became (ButOwn dir) old new
own_of_two dir old new = became_map (ButTwo (temp_path dir) (weak_path dir)) (ButOwn dir) old new
    (λ f g but q cache temp weak. but q (subst (λ (p : List ℕ). bytes_eq p q ≡ false) (temp_there dir)
    (temp (codes "weak_map.json"))) weak)

kept_or : (key id : List ℕ) (old : Toolchains) (f g : Files)
    → (weak_map_at old.dir g ≡ weak_map_at old.dir f)
    ⊎ (weak_map_at old.dir g ≡ Some (with_recorded key id old.weak)) → OldOrRecorded key old f g
kept_or key id old f g (inl same) = inl same
kept_or key id old f g (inr is) = inr (id, is)

-- what recording an id under a key leaves
pub others_recorded : (key id : List ℕ) (old new : Toolchains) → new.dir ≡ old.dir
    → Became (ButOwn old.dir) old.held.files new.held.files → KeptOrRecorded key id old new
    → Became (KeepsSpoiled (front (cache_path old.dir)) old.spoiled) old.held.files new.held.files
    → new.spoiled ≡ old.spoiled → KeepsOthers key old new
others_recorded key id old new dir own kept spared count = record {
  dir = dir;
  files = own;
  weak = became_map (λ f g. (weak_map_at old.dir g ≡ weak_map_at old.dir f)
      ⊎ (weak_map_at old.dir g ≡ Some (with_recorded key id old.weak))) (OldOrRecorded key old)
      old.held.files new.held.files (kept_or key id old) kept;
  failed = record { count = omega (arith, count); files = spared };
}
