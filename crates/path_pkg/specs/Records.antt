-- What a package is made of, and what each call adds to it.
use Rattle.std.specs.Prelude.{◌≡◌, ℕ, List, [], ◌∷◌, ◌++◌, map, length, Bool, true, false, ◌&&◌, ◌||◌, ◌==◌}
use Rattle.std.specs.Prelude.{nat_le, if◌then◌else◌, Result, Ok, Err}
use Rattle.std.specs.List.{list_all}
use Rattle.path_pkg.specs.Told.{Nodes}
use Rattle.path_pkg.specs.Path.{is_absolute, joined}
use Rattle.path_pkg.specs.Spot.{Spot, spot_text}
use Rattle.path_pkg.specs.Tree.{kind_at, is_link}
use Rattle.path_pkg.specs.Simplified.{simplified}
use Rattle.path_pkg.specs.Resolved.{target_kind_at, paths_below}
use Rattle.path_pkg.specs.declared.node.Kind.{Kind}
use Rattle.path_pkg.specs.declared.node.Kind.TheVariants as Kinds
use Rattle.path_pkg.specs.declared.record.Record.{Record}
use Rattle.path_pkg.specs.declared.record.Record.TheVariants.{Dir, File, Link}
use Rattle.path_pkg.specs.declared.record.Packed.{Packed}
use Rattle.path_pkg.specs.declared.record.Packed.TheVariants as Packs
use Rattle.path_pkg.specs.declared.fault.PackError.{PackError}
use Rattle.path_pkg.specs.declared.fault.PackError.TheVariants.{NotAbsolute, NotDir, NotFile, PathTooLong}

-- a path without its leading `/`
abbrev pub unrooted : List ℕ → List ℕ
unrooted [] = []
unrooted (b ∷ rest) = if b == 47 then rest else b ∷ rest

-- whether no path of a record is longer than 65,535 bytes
abbrev pub record_fits : Record → Bool
record_fits (Dir path) = nat_le (length path) 65535
record_fits (File path) = nat_le (length path) 65535
record_fits (Link path target) = nat_le (length path) 65535 && nat_le (length target) 65535

-- the links that were replaced on a path
abbrev pub link_records : List (List ℕ × List ℕ) → List Record
link_records links = map (λ l. Link (unrooted l.0) l.1) links

abbrev pub record_of : Packed → List ℕ → Record
record_of Packs.Dir path = Dir path
record_of Packs.File path = File path

-- what stands at the end of a path; the root adds nothing
abbrev pub own_record : Packed → List (List ℕ) → List Record
own_record what [] = []
own_record what (part ∷ parts) = record_of what (joined (part ∷ parts)) ∷ []

-- what a path adds: the links on its way, and what stands at its end
abbrev pub records_at : Packed → Spot → List Record
records_at what s = link_records s.links ++ own_record what s.parts

-- the records, unless one is too long
abbrev pub checked : List Record → Result (List Record) PackError
checked records = if list_all record_fits records then Ok records else Err PathTooLong

abbrev pub then_checked : Packed → Result Spot PackError → Result (List Record) PackError
then_checked what (Ok s) = checked (records_at what s)
then_checked what (Err e) = Err e

abbrev pub is_dir_kind : Kind → Bool
is_dir_kind Kinds.Dir = true
is_dir_kind _ = false

abbrev pub is_file_kind : Kind → Bool
is_file_kind Kinds.File = true
is_file_kind _ = false

-- whether this kind is the one that is to be packed
abbrev pub is_wanted : Packed → Kind → Bool
is_wanted Packs.Dir kind = is_dir_kind kind
is_wanted Packs.File kind = is_file_kind kind

abbrev pub unwanted : Packed → PackError
unwanted Packs.Dir = NotDir
unwanted Packs.File = NotFile

-- what adding a directory or a file adds
unfoldable pub added : Packed → Nodes → List ℕ → Result (List Record) PackError
added what t path =
    if is_absolute path
    then (if is_wanted what (target_kind_at t path) then then_checked what (simplified true t path)
    else Err (unwanted what))
    else Err NotAbsolute

-- whether a path in a directory is packed: a file, or a link that leads to one
abbrev pub is_packed : Nodes → List ℕ → Bool
is_packed t path = is_file_kind (kind_at t path) || (is_link t path && is_file_kind (target_kind_at t path))

abbrev pub then_records : Result Spot PackError → Result (List Record) PackError
then_records (Ok s) = Ok (records_at Packs.File s)
then_records (Err e) = Err e

-- what a path in a directory adds
unfoldable pub found : Nodes → List ℕ → Result (List Record) PackError
found t path = if is_packed t path then then_records (simplified true t path) else Ok []

-- behind what was found before
abbrev pub onto : List Record → Result (List Record) PackError → Result (List Record) PackError
onto before (Ok more) = Ok (before ++ more)
onto before (Err e) = Err e

abbrev pub then_onto : Result (List Record) PackError → Result (List Record) PackError
    → Result (List Record) PackError
then_onto (Ok before) more = onto before more
then_onto (Err e) more = Err e

-- what the paths in a directory add
unfoldable pub all_found : Nodes → List (List ℕ) → Result (List Record) PackError
all_found t [] = Ok []
all_found t (path ∷ paths) = then_onto (found t path) (all_found t paths)

abbrev pub then_check : Result (List Record) PackError → Result (List Record) PackError
then_check (Ok records) = checked records
then_check (Err e) = Err e

-- what was found in a directory, with the links on its way in front; nothing, where nothing was found
abbrev pub behind_links : List (List ℕ × List ℕ) → List Record → List Record
behind_links links [] = []
behind_links links (r ∷ rs) = link_records links ++ r ∷ rs

abbrev pub then_behind : List (List ℕ × List ℕ) → Result (List Record) PackError
    → Result (List Record) PackError
then_behind links (Ok records) = Ok (behind_links links records)
then_behind links (Err e) = Err e

-- each file and each link to a file in a directory, with the links on the directory's way where there is such
-- a file, unless one is too long
unfoldable pub found_at : Nodes → Spot → Result (List Record) PackError
found_at t s = then_check (then_behind s.links (all_found t (paths_below t (spot_text s))))

abbrev pub then_found : Nodes → Result Spot PackError → Result (List Record) PackError
then_found t (Ok s) = found_at t s
then_found t (Err e) = Err e

-- what adding the contents of a directory adds
unfoldable pub contents_records : Nodes → List ℕ → Result (List Record) PackError
contents_records t path =
    if is_absolute path
    then (if is_dir_kind (target_kind_at t path) then then_found t (simplified true t path) else Err NotDir)
    else Err NotAbsolute

-- no path of a record is longer than 65,535 bytes
abbrev pub RecordsFit : List Record → Type 0
RecordsFit records = list_all record_fits records ≡ true
