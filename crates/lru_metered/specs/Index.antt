-- The buckets by which a table finds a key: which entries each lists, and in which order.
use Rattle.std.specs.Prelude.{◌≡◌, ℕ, ◌-◌, ◌↔◌, Bool, true, List, [], ◌∷◌, length, Option, Some, None}
use Rattle.std.specs.Prelude.{slice_index_or, bit_and, fold, MatchOption, IsSomeAnd, Contains, if◌then◌else◌}
use Rattle.std.specs.Prelude.{nat_eq, nat_lt}
use Rattle.std.specs.Hash.{HashWrites}
use Rattle.std.specs.Option.{option_map}
use Rattle.std.specs.declared.hash.Hasher as hasher
use Rattle.std.specs.declared.hash.BuildHasher as builder
use Rattle.slab.specs.Slab.{Slab, get, slab_len}
use Rattle.lru_metered.specs.declared.index.Entry.{Entry}
use Rattle.lru_metered.specs.Chain.{Chained, first_or, Apart}

-- what a hasher makes of a key that is written so
abbrev pub hash_of : {S H : Type 0} → builder.Ghosts S H → hasher.Ghosts H → S → HashWrites → ℕ
hash_of b h s writes = h.finish (fold h.write (b.build_hasher s) writes)

-- the bucket of a hash, of so many
abbrev pub bucket_in : ℕ → ℕ → ℕ
bucket_in buckets hash = bit_and hash (buckets - 1)

module _ {K V : Type 0} where
  abbrev pub pair_of : Entry K V → K × V
  pair_of e = (e.key, e.value)

  -- the pair at each key of the slab
  abbrev pub pairs_at : Slab (Entry K V) → ℕ → Option (K × V)
  pairs_at items x = option_map pair_of (get items x)

  -- the next in its bucket, of the entry at each key
  abbrev pub nexts : Slab (Entry K V) → ℕ → Option (Option ℕ)
  nexts items x = option_map (λ e. e.next) (get items x)

  -- the bucket of the entry at each key, by the bucket of its own key
  abbrev pub homes : (K → ℕ) → (ℕ → Option (K × V)) → ℕ → Option ℕ
  homes place pairs x = option_map (λ p. place p.0) (pairs x)

  -- the pair at this key of the slab has a key that passes
  abbrev pub Matches : (K → Bool) → (ℕ → Option (K × V)) → ℕ → Type 0
  Matches test pairs x = IsSomeAnd (pairs x) (λ p. test p.0 ≡ true)

  -- at most what entries name as their next changed
  pub record Relinks (old new : Chained (Entry K V)) : Type 0 where
    pub order : new.order ≡ old.order
    pub pairs : (x : ℕ) → pairs_at new.items x ≡ pairs_at old.items x
    pub len : slab_len new.items ≡ slab_len old.items

-- each of the entries names the one behind it
abbrev pub Run : (ℕ → Option (Option ℕ)) → List ℕ → Type 0
Run next [] = Unit {0}
Run next (x ∷ xs) = (next x ≡ Some (first_or xs None)) × Run next xs

-- a bucket that begins here lists these entries
pub record Lists (next : ℕ → Option (Option ℕ)) (head : Option ℕ) (list : List ℕ) : Type 0 where
  pub starts : head ≡ first_or list None
  pub run : Run next list
  pub apart : Apart list

-- each bucket lists exactly the entries that belong there
pub record IsBucketed (next : ℕ → Option (Option ℕ)) (home : ℕ → Option ℕ)
    (heads : List (Option ℕ)) : Type 0 where
  pub lists : ℕ → List ℕ
  pub runs : (b : ℕ) → Lists next (slice_index_or heads b None) (lists b)
  pub members : (b x : ℕ) → Contains (lists b) x ↔ (home x ≡ Some b)

-- the entries of the slab, each in the bucket of its key's hash
abbrev pub IsIndexed : {K V : Type 0} → (K → ℕ) → Slab (Entry K V) → List (Option ℕ) → Type 0
IsIndexed hash items heads =
    IsBucketed (nexts items) (homes (λ k. bucket_in (length heads) (hash k)) (pairs_at items)) heads

-- an entry belongs to this bucket now, or to none
abbrev pub placed : ℕ → Option ℕ → (ℕ → Option ℕ) → ℕ → Option ℕ
placed at bucket home x = if nat_eq x at then bucket else home x

-- only the entries below a key belong anywhere
abbrev pub below : ℕ → (ℕ → Option ℕ) → ℕ → Option ℕ
below bound home x = if nat_lt x bound then home x else None

-- in the bucket that begins at the head the previous entry names this one, or with none the head does
abbrev pub Leads : (ℕ → Option (Option ℕ)) → Option ℕ → Option ℕ → Option ℕ → Type 0
Leads next head previous at =
    (list : List ℕ) → Lists next head list → MatchOption previous (head ≡ at)
    (λ p. Contains list p × (next p ≡ Some at))
