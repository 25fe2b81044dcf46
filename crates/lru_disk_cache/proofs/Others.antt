-- The other reservations keep their files, where a call on one touches no file but its own and what is named.
use Rattle.std.proofs.Common.{◌≡◌, ℕ, ◌<◌, ◌^◌, true, List, ◌++◌, Option}
use Rattle.folders.specs.Files.{Files}
use Rattle.folders.specs.Held.{Became}
use Rattle.listed_files.specs.Key.{is_key, temp_name}
use Rattle.listed_files.specs.Entries.{Entries}
use Rattle.listed_files.specs.Disk.{AllKeys, ButThese}
use Rattle.folders.specs.Changed.{ButAt}
use Rattle.lru_disk_cache.specs.Reserved.{Reservation, IsReserved, AllReserved, KeepsReserved, without_number}
use Rattle.lru_disk_cache.proofs.Reserving.{at_reserved, these_reserved, none_without, all_without}

-- its own file alone
pub others_at : (root from : List ℕ) (n : ℕ) (ps : List Reservation) (old new : Option Files)
    → from ≡ root ++ temp_name n → n < 2 ^ 64 → AllReserved root ps → Became (ButAt from) old new
    → Became (KeepsReserved (without_number n ps)) old new
others_at root from n ps old new from_is below all but =
    at_reserved root from n (without_number n ps) old new from_is below (none_without n ps)
    (all_without (IsReserved root) n ps all) but

-- its own file, that of a key and what is listed
pub others_these : (root from path key : List ℕ) (es : Entries) (n : ℕ) (ps : List Reservation)
    (old new : Option Files) → from ≡ root ++ temp_name n → n < 2 ^ 64 → path ≡ root ++ key
    → is_key key ≡ true → AllKeys es → AllReserved root ps → Became (ButThese root from path es) old new
    → Became (KeepsReserved (without_number n ps)) old new
others_these root from path key es n ps old new from_is below path_is fit keys all but =
    these_reserved root from path key es n (without_number n ps) old new from_is below (none_without n ps)
    path_is fit keys (all_without (IsReserved root) n ps all) but
