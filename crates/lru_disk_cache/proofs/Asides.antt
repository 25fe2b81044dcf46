-- Calls on files that lie elsewhere, and what stands behind them.
use Rattle.std.proofs.Common.{◌≡◌, ℕ, false, List, [], ◌∷◌, ◌++◌, Option, Result}
use Rattle.std.proofs.Common.{refl, sym, ap, subst, ◌∙◌}
use Rattle.std.specs.Str.{bytes_eq}
use Rattle.folders.specs.Files.{Files, file_at, front, put, moved, PartWritten}
use Rattle.folders.specs.Files.{DoneOrNot, Same}
use Rattle.folders.specs.Held.{Held, Holds, Lacks, Never, Became, Changes}
use Rattle.dist_types.specs.declared.folder_fault.FolderFault.{FolderFault}
use Rattle.listed_files.specs.Key.{temp_name}
use Rattle.listed_files.specs.Entries.{Entries}
use Rattle.listed_files.specs.Disk.{Keeps}
use Rattle.folders.specs.Changed.{SameBelow, SameAt, IsOutside}
use Rattle.lru_disk_cache.specs.Reserved.{Reservation, AllReserved, AllSure, KeepsReserved}
use Rattle.lru_disk_cache.specs.Store.{Disk, IsStore}
use Rattle.folders.proofs.Became.{became_of, became_map, became_from}
use Rattle.folders.proofs.Distinct.{apart}
use Rattle.listed_files.proofs.Calls.{equal_became, keeps_equal}
use Rattle.listed_files.proofs.Fills.{stands_kept}
use Rattle.folders.proofs.Lookups.{put_other, part_other, moved_other, done_or_not}

-- ---- the temporary files of reservations

sure_by : (ps : List Reservation) (f g : Files) → KeepsReserved ps f g → AllSure f ps → AllSure g ps
sure_by [] f g keeps h = tt
sure_by (r ∷ rs) f g keeps h = (λ sure lacks. h.0 sure (sym keeps.0 ∙ lacks), sure_by rs f g keeps.1 h.1)

pub sure_kept : (ps : List Reservation) (old new : Held) → Holds old (λ f. AllSure f ps)
    → Became (KeepsReserved ps) old.files new.files → Holds new (λ f. AllSure f ps)
sure_kept ps old new h keeps files told =
    let w = became_from (KeepsReserved ps) old.files new.files files keeps told in
    sure_by ps w.0 files w.2 (h w.0 w.1)

pub reserved_same : (ps : List Reservation) (f g : Files) → SameAt f g → KeepsReserved ps f g
reserved_same [] f g same = tt
reserved_same (r ∷ rs) f g same = (same r.temp, reserved_same rs f g same)

-- a disk stands behind a step that leaves its files
pub store_after : (d : Disk) (old new : Held) → IsStore old d
    → Became (Keeps d.root d.entries) old.files new.files
    → Became (KeepsReserved d.pending) old.files new.files → IsStore new d
store_after d old new h keeps temps = record {
  stands = stands_kept d.root d.entries old new h.stands keeps;
  root = h.root;
  fits = h.fits;
  reserved = h.reserved;
  numbers = h.numbers;
  sure = sure_kept d.pending old new h.sure temps;
}

-- ---- nothing below the root changes

below_keeps : (root : List ℕ) (es : Entries) (f g : Files) → SameBelow root f g → Keeps root es f g
below_keeps root [] f g same = tt
below_keeps root (e ∷ es) f g same = (same e.0, below_keeps root es f g same)

below_reserved : (root : List ℕ) (ps : List Reservation) (f g : Files) → AllReserved root ps
    → SameBelow root f g → KeepsReserved ps f g
below_reserved root [] f g all same = tt
below_reserved root (r ∷ rs) f g all same =
    let P : List ℕ → Type 0 = λ q. file_at g q ≡ file_at f q in
    (subst P (sym all.0.temp) (same (temp_name r.number)), below_reserved root rs f g all.1 same)

pub kept_below : (root : List ℕ) (es : Entries) (old new : Option Files) → Became (SameBelow root) old new
    → Became (Keeps root es) old new
kept_below root es old new h = became_map (SameBelow root) (Keeps root es) old new
    (λ f g same. below_keeps root es f g same) h

pub below_store : (d : Disk) (old new : Held) → IsStore old d → Became (SameBelow d.root) old.files new.files
    → IsStore new d
below_store d old new h same =
    store_after d old new h (kept_below d.root d.entries old.files new.files same)
    (became_map (SameBelow d.root) (KeepsReserved d.pending) old.files new.files
    (λ f g below. below_reserved d.root d.pending f g h.reserved below) same)

pub below_same : {T : Type 0} (root : List ℕ) (lacking : Files → Type 0) (result : Result T FolderFault)
    (old new : Held) → Changes lacking (λ files. files) Same result old new
    → Became (SameBelow root) old.files new.files
below_same root lacking result old new h =
    became_of lacking (λ files. files) Same (SameBelow root) result old new (λ f k. refl) (λ f k. refl)
    (λ f g same k. ap (λ l. file_at l (root ++ k)) same) h

-- a path outside a root is none below it
outside_each : (root path q k : List ℕ) → root ≡ front path → IsOutside path q
    → bytes_eq q (root ++ k) ≡ false
outside_each root path q k is away = apart (root ++ k) q (ap (λ r. bytes_eq (r ++ k) q) is ∙ away k)

pub below_wrote : (root path q bytes : List ℕ) (result : Result (Unit {0}) FolderFault) (old new : Held)
    → root ≡ front path → IsOutside path q → Changes Never (put q bytes) (PartWritten q bytes) result old new
    → Became (SameBelow root) old.files new.files
below_wrote root path q bytes result old new is away h =
    became_of Never (put q bytes) (PartWritten q bytes) (SameBelow root) result old new (λ f k. refl)
    (λ f k. put_other q (root ++ k) bytes f (outside_each root path q k is away))
    (λ f g part k. part_other q (root ++ k) bytes f g part (outside_each root path q k is away)) h

pub below_renamed : (root path from to : List ℕ) (result : Result (Unit {0}) FolderFault) (old new : Held)
    → root ≡ front path → IsOutside path from → IsOutside path to → Changes (Lacks from) (moved from to)
    (DoneOrNot (moved from to)) result old new → Became (SameBelow root) old.files new.files
below_renamed root path from to result old new is one two h =
    let moves : (f : Files) (k : List ℕ) → file_at (moved from to f) (root ++ k) ≡ file_at f (root ++ k) =
    λ f k. moved_other from to (root ++ k) f (outside_each root path from k is one)
    (outside_each root path to k is two) in
    became_of (Lacks from) (moved from to) (DoneOrNot (moved from to)) (SameBelow root) result old new
    (λ f k. refl) moves (λ f g part k. done_or_not (moved from to) (root ++ k) f g part (moves f k)) h

-- ---- the files are those that they were

pub reserved_equal : (ps : List Reservation) (old new : Option Files) → new ≡ old
    → Became (KeepsReserved ps) old new
reserved_equal ps old new is =
    equal_became (KeepsReserved ps) old new is (λ f. reserved_same ps f f (λ q. refl))

pub store_equal : (d : Disk) (old new : Held) → IsStore old d → new.files ≡ old.files → IsStore new d
store_equal d old new h is =
    store_after d old new h (keeps_equal d.root d.entries old.files new.files is)
    (reserved_equal d.pending old.files new.files is)
