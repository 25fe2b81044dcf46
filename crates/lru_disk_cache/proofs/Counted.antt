-- How inserts that failed are counted.
use Rattle.std.proofs.Common.{ℕ, List, Result, Ok, Err, IfErr, inl}
use Rattle.folders.specs.Held.{Held}
use Rattle.dist_types.specs.declared.cache_error.Error.{Error}
use Rattle.dist_types.specs.declared.cache_error.Error.TheVariants.{FileTooLarge, FileNotInCache, Io}
use Rattle.dist_types.specs.declared.cache_error.Error.TheVariants.{PendingSpace, BadKey, NotPending}
use Rattle.dist_types.specs.declared.cache_error.Error.TheVariants.{WrongDigest, WriterRefused}
use Rattle.dist_types.specs.declared.cache_error.Error.TheVariants.{Memory as NoMemory}
use Rattle.lru_disk_cache.specs.Store.{Disk, InsertFails, Spoils}
use Rattle.lru_disk_cache.specs.Spoiling.{MaySpoil}

pub may_spoil : (key : List ℕ) (size : ℕ) (d e : Disk) (old new : Held) (spoiled later : ℕ)
    (result : Result (Unit {0}) Error) → IfErr result (λ r. InsertFails key size r d e old new)
    → IfErr result (λ r. Spoils r spoiled later) → IfErr result (λ r. MaySpoil r spoiled later old new)
may_spoil key size d e old new spoiled later (Ok x) fails spoils = tt
may_spoil key size d e old new spoiled later (Err (Io fault)) fails spoils = spoils
may_spoil key size d e old new spoiled later (Err NoMemory) fails spoils = inl spoils
may_spoil key size d e old new spoiled later (Err BadKey) fails spoils = (spoils, fails.1)
may_spoil key size d e old new spoiled later (Err FileTooLarge) fails spoils = (spoils, fails.1)
may_spoil key size d e old new spoiled later (Err PendingSpace) fails spoils = (spoils, fails.1)
may_spoil key size d e old new spoiled later (Err FileNotInCache) fails spoils = absurd fails
may_spoil key size d e old new spoiled later (Err NotPending) fails spoils = absurd fails
may_spoil key size d e old new spoiled later (Err WrongDigest) fails spoils = absurd fails
may_spoil key size d e old new spoiled later (Err WriterRefused) fails spoils = absurd fails
