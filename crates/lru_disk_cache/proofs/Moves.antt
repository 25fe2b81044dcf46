-- Storing a file of the folder, or what a closure writes.
use Rattle.std.proofs.Common.{◌≡◌, ◌+◌, ℕ, Bool, true, false, not, nat_lt, if◌then◌else◌, List, length, is_ok}
use Rattle.std.proofs.Common.{true≢false, ap, Result, Ok, Err, IfErr, OnOk, inl, inr, refl}
use Rattle.folders.specs.Held.{Held, Lacks}
use Rattle.dist_types.specs.declared.folder_fault.FolderFault.TheVariants.{Missing, Failed, Memory}
use Rattle.dist_types.specs.declared.cache_error.Error.{Error}
use Rattle.dist_types.specs.declared.cache_error.Error.TheVariants.{FileTooLarge, FileNotInCache, Io}
use Rattle.dist_types.specs.declared.cache_error.Error.TheVariants.{PendingSpace, BadKey, NotPending}
use Rattle.dist_types.specs.declared.cache_error.Error.TheVariants.{WrongDigest, WriterRefused}
use Rattle.dist_types.specs.declared.cache_error.Error.TheVariants.{Memory as NoMemory}
use Rattle.lru_disk_cache.specs.declared.error.WriteFault.{WriteFault}
use Rattle.lru_disk_cache.specs.Store.{Disk, insert_verdict, InsertFails}
use Rattle.listed_files.specs.Key.{is_key}
use Rattle.lru_disk_cache.specs.Reserved.{held_size}
use Rattle.listed_files.specs.Calls.{CallFails}
use Rattle.lru_disk_cache.specs.Moving.{MoveFails, WriterFails, WithFails}
use Rattle.lru_disk_cache.specs.Spoiling.{MaySpoil}

-- where the file that is to be moved is not measured
pub move_failed : (key path : List ℕ) (d e : Disk) (error : Error) (old new : Held) → e ≡ d
    → is_key key ≡ true → CallFails (Lacks path) error old new → MoveFails key path error d e old new
move_failed key path d e (Io Missing) old new is fit h = (inl is, inr (is, h.0, h.1), fit)
move_failed key path d e (Io Failed) old new is fit h = (inl is, h, fit)
move_failed key path d e (Io Memory) old new is fit h = absurd h
move_failed key path d e NoMemory old new is fit h = (inl is, fit)
move_failed key path d e BadKey old new is fit h = absurd h
move_failed key path d e FileTooLarge old new is fit h = absurd h
move_failed key path d e FileNotInCache old new is fit h = absurd h
move_failed key path d e PendingSpace old new is fit h = absurd h
move_failed key path d e NotPending old new is fit h = absurd h
move_failed key path d e WrongDigest old new is fit h = absurd h
move_failed key path d e WriterRefused old new is fit h = absurd h

-- a verdict of BadKey says that the key is none
bad_key : (key : List ℕ) (size : ℕ) (d : Disk) → insert_verdict d key size ≡ Err BadKey → is_key key ≡ false
bad_key key size d h = by (is_key key) refl h
  where
    rest : Result (Unit {0}) Error
    rest = if nat_lt d.capacity size then Err FileTooLarge
        else if nat_lt d.capacity (held_size d.pending + size) then Err PendingSpace else Ok (tt {0})

    large : (a b : Bool) → (if a then Err FileTooLarge else if b then Err PendingSpace else Ok (tt {0}))
        ≡ Err BadKey → ⊥
    large true b same = let wrong : FileTooLarge ≡ BadKey = cc in cc
    large false true same = let wrong : PendingSpace ≡ BadKey = cc in cc
    large false false same = true≢false (ap is_ok same)

    by : (b : Bool) → is_key key ≡ b → (if not b then Err BadKey else rest) ≡ Err BadKey → b ≡ false
    by false is same = refl
    by true is same = absurd
        (large (nat_lt d.capacity size) (nat_lt d.capacity (held_size d.pending + size)) same)

module _ (wrote : Result (Unit {0}) WriteFault → List ℕ → Type 0) where
  -- where the closure wrote nothing
  pub with_failed : (key : List ℕ) (d : Disk) (error : Error) (spoiled : ℕ) (old : Held) → is_key key ≡ true
      → WriterFails wrote error
      → WithFails wrote key error d d old old × MaySpoil error spoiled spoiled old old
  with_failed key d WriterRefused spoiled old fit h = ((refl, refl, h, fit), (refl, refl))
  with_failed key d NoMemory spoiled old fit h = (inl (refl, refl, fit), inr (refl, refl))
  with_failed key d BadKey spoiled old fit h = absurd h
  with_failed key d FileTooLarge spoiled old fit h = absurd h
  with_failed key d FileNotInCache spoiled old fit h = absurd h
  with_failed key d (Io fault) spoiled old fit h = absurd h
  with_failed key d PendingSpace spoiled old fit h = absurd h
  with_failed key d NotPending spoiled old fit h = absurd h
  with_failed key d WrongDigest spoiled old fit h = absurd h

  -- and where what it wrote is not stored
  pub with_fails : (key bytes : List ℕ) (d e : Disk) (result : Result (Unit {0}) Error) (old new : Held)
      → wrote (Ok (tt {0})) bytes → IfErr result (λ x. InsertFails key (length bytes) x d e old new)
      → IfErr result (λ x. WithFails wrote key x d e old new)
  with_fails key bytes d e (Ok x) old new w h = tt
  with_fails key bytes d e (Err BadKey) old new w h = (h.0, h.1, bad_key key (length bytes) d h.2)
  with_fails key bytes d e (Err FileTooLarge) old new w h = (bytes, w, h)
  with_fails key bytes d e (Err PendingSpace) old new w h = (bytes, w, h)
  with_fails key bytes d e (Err (Io fault)) old new w h = (bytes, w, h)
  with_fails key bytes d e (Err NoMemory) old new w h = inr (bytes, w, h)
  with_fails key bytes d e (Err FileNotInCache) old new w h = absurd h
  with_fails key bytes d e (Err NotPending) old new w h = absurd h
  with_fails key bytes d e (Err WrongDigest) old new w h = absurd h
  with_fails key bytes d e (Err WriterRefused) old new w h = absurd h

  -- and where it is
  pub with_ok : {T E : Type 0} (P Q R : List ℕ → Type 0) (bytes : List ℕ) (result : Result T E)
      → wrote (Ok (tt {0})) bytes → OnOk result (P bytes) → OnOk result (Q bytes) → OnOk result (R bytes)
      → OnOk result ((x : List ℕ) × wrote (Ok (tt {0})) x × P x × Q x × R x)
  with_ok P Q R bytes (Ok x) w p q r = (bytes, w, p, q, r)
  with_ok P Q R bytes (Err e) w p q r = tt
