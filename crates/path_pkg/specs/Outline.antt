-- What is written of a package over any tree: its paths and links, and some content for each file.
use Rattle.std.specs.Prelude.{◌≡◌, ℕ, List, ◌++◌, map, ◌==◌, if◌then◌else◌, Option, Result}
use Rattle.std.specs.List.{flat_map}
use Rattle.path_pkg.specs.Framed.{Frame, frame_bytes, spelled}
use Rattle.path_pkg.specs.Framed.Frame.{DirFrame, FileFrame, LinkFrame}
use Rattle.path_pkg.specs.Written.{Entry, sorted, Puts}
use Rattle.path_pkg.specs.declared.record.Record.{Record}
use Rattle.path_pkg.specs.declared.record.Record.TheVariants.{Dir, File, Link}
use Rattle.path_pkg.specs.declared.fault.PackError.{PackError}

-- what a frame says, but for the content of a file
abbrev pub outline : Frame → Record
outline (DirFrame path) = Dir path
outline (FileFrame path content) = File path
outline (LinkFrame path target) = Link path target

-- the record that an entry of a kind stands for
abbrev pub record_at : ℕ → Entry → Record
record_at rank e = if rank == 0 then Dir e.0 else if rank == 1 then File e.0 else Link e.0 e.1

-- the records of a package in the order in which they are written, of each kind and path the last
unfoldable pub written_order : List Record → List Record
written_order records =
    map (record_at 0) (sorted 0 records) ++ (map (record_at 1) (sorted 1 records) ++ map (record_at 2)
    (sorted 2 records))

-- frames of these records, with some content for each file, were written, or after a refusal a front of them
pub record PutsFrames {T : Type 0} (result : Result T PackError) (records : List Record)
    (old new : Option (List ℕ)) : Type 0 where
  pub frames : List Frame
  pub outlines : map outline frames ≡ records
  pub puts : Puts result (flat_map frame_bytes frames) old new

-- the same with the byte at the end
pub record PutsPackage {T : Type 0} (result : Result T PackError) (records : List Record)
    (old new : Option (List ℕ)) : Type 0 where
  pub frames : List Frame
  pub outlines : map outline frames ≡ records
  pub puts : Puts result (spelled frames) old new
