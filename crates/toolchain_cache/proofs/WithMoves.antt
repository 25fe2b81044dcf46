-- A closure that wrote nothing, and bytes of it that are not stored.
use Rattle.std.proofs.Common.{ℕ, List}
use Rattle.std.proofs.Common.{Result, Ok, Err, IfErr, inl, inr, refl}
use Rattle.folders.specs.Held.{Held}
use Rattle.dist_types.specs.declared.cache_error.Error.{Error}
use Rattle.dist_types.specs.declared.cache_error.Error.TheVariants.{FileTooLarge, FileNotInCache, Io}
use Rattle.dist_types.specs.declared.cache_error.Error.TheVariants.{PendingSpace, BadKey, NotPending}
use Rattle.dist_types.specs.declared.cache_error.Error.TheVariants.{WrongDigest, WriterRefused}
use Rattle.dist_types.specs.declared.cache_error.Error.TheVariants.{Memory as NoMemory}
use Rattle.lru_disk_cache.specs.declared.error.WriteFault.{WriteFault}
use Rattle.toolchain_cache.specs.Archives.{Archives}
use Rattle.toolchain_cache.specs.Archiving.{StoreFails}
use Rattle.lru_disk_cache.specs.Moving.{WriterFails}
use Rattle.lru_disk_cache.specs.Spoiling.{MaySpoil}
use Rattle.toolchain_cache.specs.Archiving.{StoreWithFails}

module _ (wrote : Result (Unit {0}) WriteFault → List ℕ → Type 0) where
  pub store_failed : (capacity : ℕ) (id : List ℕ) (a : Archives) (error : Error) (spoiled : ℕ) (old : Held)
      → WriterFails wrote error
      → StoreWithFails wrote capacity id error a a old old × MaySpoil error spoiled spoiled old old
  store_failed capacity id a WriterRefused spoiled old h = ((refl, refl, h), (refl, refl))
  store_failed capacity id a NoMemory spoiled old h = (inl (refl, refl), inr (refl, refl))
  store_failed capacity id a BadKey spoiled old h = absurd h
  store_failed capacity id a FileTooLarge spoiled old h = absurd h
  store_failed capacity id a FileNotInCache spoiled old h = absurd h
  store_failed capacity id a (Io fault) spoiled old h = absurd h
  store_failed capacity id a PendingSpace spoiled old h = absurd h
  store_failed capacity id a NotPending spoiled old h = absurd h
  store_failed capacity id a WrongDigest spoiled old h = absurd h

  pub store_fails : (capacity : ℕ) (id bytes : List ℕ) (a b : Archives) (result : Result (Unit {0}) Error)
      (old new : Held) → wrote (Ok (tt {0})) bytes
      → IfErr result (λ x. StoreFails capacity id bytes x a b old new)
      → IfErr result (λ x. StoreWithFails wrote capacity id x a b old new)
  store_fails capacity id bytes a b (Ok x) old new w h = tt
  store_fails capacity id bytes a b (Err WrongDigest) old new w h = (bytes, w, h)
  store_fails capacity id bytes a b (Err FileTooLarge) old new w h = (bytes, w, h)
  store_fails capacity id bytes a b (Err (Io fault)) old new w h = (bytes, w, h)
  store_fails capacity id bytes a b (Err NoMemory) old new w h = inr (bytes, w, h)
  store_fails capacity id bytes a b (Err BadKey) old new w h = absurd h
  store_fails capacity id bytes a b (Err PendingSpace) old new w h = absurd h
  store_fails capacity id bytes a b (Err FileNotInCache) old new w h = absurd h
  store_fails capacity id bytes a b (Err NotPending) old new w h = absurd h
  store_fails capacity id bytes a b (Err WriterRefused) old new w h = absurd h
