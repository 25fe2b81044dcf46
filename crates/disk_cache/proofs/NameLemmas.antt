-- The client's own files stand beside each other.
use Rattle.std.proofs.Common.{◌≡◌, ℕ, false, List, [], ◌∷◌, ◌++◌, codes, refl, sym, ap, subst, ◌∙◌}
use Rattle.std.proofs.Common.{append_assoc}
use Rattle.std.specs.Str.{bytes_eq}
use Rattle.folders.specs.Files.{front}
use Rattle.listed_files.proofs.Paths.{same_front}
use Rattle.disk_cache.specs.declared.names.Names.{Names}
use Rattle.disk_cache.specs.Names.{AreNames, IsBeside, cache_path, weak_path, temp_dir, temp_path}
use Rattle.disk_cache.specs.Opening.{AreApart}

front_some : (xs ys : List ℕ) (c : ℕ) → front (xs ++ c ∷ ys) ≡ (xs ++ c ∷ ys) ++ 47 ∷ []
front_some [] ys c = refl
front_some (b ∷ bs) ys c = refl

front_at : (dir : List ℕ) (c : ℕ) (cs : List ℕ) → front (front dir ++ c ∷ cs) ≡ front dir ++
    (c ∷ cs ++ 47 ∷ [])
front_at dir c cs = front_some (front dir) cs c ∙ append_assoc (front dir) (c ∷ cs) (47 ∷ [])

beside : (dir : List ℕ) (c : ℕ) (cs name : List ℕ)
    → ((k : List ℕ) → bytes_eq ((c ∷ cs ++ 47 ∷ []) ++ k) name ≡ false)
    → IsBeside (front dir ++ c ∷ cs) (front dir ++ name)
beside dir c cs name differ = λ k.
    ap (λ (t : List ℕ). bytes_eq (t ++ k) (front dir ++ name)) (front_at dir c cs)
    ∙ (ap (λ (t : List ℕ). bytes_eq t (front dir ++ name)) (append_assoc (front dir) (c ∷ cs ++ 47 ∷ []) k)
    ∙ (same_front (front dir) ((c ∷ cs ++ 47 ∷ []) ++ k) name ∙ differ k))

pub cache_beside_weak : (dir : List ℕ) → IsBeside (cache_path dir) (weak_path dir)
cache_beside_weak dir = beside dir 116 (99 ∷ []) (codes "weak_map.json") (λ k. refl)

pub cache_beside_temp : (dir : List ℕ) → IsBeside (cache_path dir) (temp_path dir)
cache_beside_temp dir = beside dir 116 (99 ∷ []) (codes "toolchain_tmp/weak_map.json") (λ k. refl)

pub temp_beside_weak : (dir : List ℕ) → IsBeside (temp_dir dir) (weak_path dir)
temp_beside_weak dir = beside dir 116 (codes "oolchain_tmp") (codes "weak_map.json") (λ k. refl)

-- what stands below the directory of what is being written
pub below_temp : (dir k : List ℕ) → front (temp_dir dir) ++ k ≡ front dir ++ (codes "toolchain_tmp/" ++ k)
below_temp dir k =
    ap (λ (t : List ℕ). t ++ k) (front_at dir 116 (codes "oolchain_tmp")) ∙ append_assoc (front dir)
    (codes "toolchain_tmp/") k

pub temp_there : (dir : List ℕ) → front (temp_dir dir) ++ codes "weak_map.json" ≡ temp_path dir
temp_there dir = below_temp dir (codes "weak_map.json")

pub cache_apart_temp : (dir : List ℕ) → AreApart (cache_path dir) (temp_dir dir)
cache_apart_temp dir = λ k.
    subst (λ (t : List ℕ). IsBeside (cache_path dir) t) (sym (below_temp dir k))
    (beside dir 116 (99 ∷ []) (codes "toolchain_tmp/" ++ k) (λ m. refl))

pub temp_not_weak : (dir : List ℕ) → bytes_eq (temp_path dir) (weak_path dir) ≡ false
temp_not_weak dir = same_front (front dir) (codes "toolchain_tmp/weak_map.json") (codes "weak_map.json")
    ∙ refl

-- the same of the names of a path
pub temp_outside : (n : Names) (path at : List ℕ) → AreNames n → path ≡ n.cache → at ≡ n.temp
    → IsBeside path at
temp_outside n path at names is there =
    subst (λ (p : List ℕ). IsBeside p at) (sym (is ∙ names.cache_is))
    (subst (λ (a : List ℕ). IsBeside (cache_path n.dir) a) (sym (there ∙ names.temp_is))
    (cache_beside_temp n.dir))

pub weak_outside : (n : Names) (path at : List ℕ) → AreNames n → path ≡ n.cache → at ≡ n.weak
    → IsBeside path at
weak_outside n path at names is there =
    subst (λ (p : List ℕ). IsBeside p at) (sym (is ∙ names.cache_is))
    (subst (λ (a : List ℕ). IsBeside (cache_path n.dir) a) (sym (there ∙ names.weak_is))
    (cache_beside_weak n.dir))
