-- What failed inserts of archives left stays.
use Rattle.std.proofs.Common.{ℕ, Option, subst}
use Rattle.folders.specs.Files.{Files, front}
use Rattle.folders.specs.Held.{Held, Became}
use Rattle.listed_files.specs.Disk.{ButInsert, KeepsSpoiled}
use Rattle.lru_disk_cache.specs.Store.{Disk}
use Rattle.toolchain_cache.specs.Keyed.{IsKeyed}

pub keyed_spoiled : (held : Held) (d : Disk) (spoiled : ℕ) (old new : Option Files) → IsKeyed held d
    → Became (KeepsSpoiled d.root spoiled) old new → Became (KeepsSpoiled (front d.path) spoiled) old new
keyed_spoiled held d spoiled old new keyed stays =
    subst (λ r. Became (KeepsSpoiled r spoiled) old new) keyed.root stays

pub keyed_inserted : (held : Held) (d : Disk) (number : ℕ) (old new : Option Files) → IsKeyed held d
    → Became (ButInsert d.root number) old new → Became (ButInsert (front d.path) number) old new
keyed_inserted held d number old new keyed stays =
    subst (λ r. Became (ButInsert r number) old new) keyed.root stays
