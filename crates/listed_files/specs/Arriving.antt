-- How a key is listed before its file comes, and what taking out the least recent leaves.
use Rattle.std.specs.Prelude.{◌≡◌, ℕ, ◌<◌, ◌≤◌, List, [], ◌∷◌, ◌++◌, length, take, drop, map, Option, Result}
use Rattle.std.specs.Prelude.{OnOk, OnErr}
use Rattle.folders.specs.Files.{Files, without}
use Rattle.folders.specs.Held.{BecameBy}
use Rattle.dist_types.specs.declared.folder_fault.FolderFault.{FolderFault}
use Rattle.listed_files.specs.Entries.{Entries}
use Rattle.listed_files.specs.Disk.{without_key}

-- the entries once a key is listed as the most recent, with no size yet
abbrev pub awaited : List ℕ → Entries → Entries
awaited key entries = without_key key entries ++ (key, 0) ∷ []

-- the paths of the files of entries
abbrev pub paths_of : List ℕ → Entries → List (List ℕ)
paths_of root entries = map (λ e. root ++ e.0) entries

-- without the files at these paths
abbrev pub without_paths : List (List ℕ) → Files → Files
without_paths [] files = files
without_paths (p ∷ ps) files = without_paths ps (without p files)

-- Entries went from the front, and the files at the first paths, of which an error leaves the last as it was
-- or gone. All went where there is no error, and some where there is.
pub record Cut (result : Result (Unit {0}) FolderFault) (paths : List (List ℕ)) (old new : Entries)
    (before after : Option Files) : Type 0 where
  pub out : ℕ
  pub gone : ℕ
  pub within : out ≤ length paths
  pub behind : gone ≤ out
  pub rest : new ≡ drop out old
  pub files : BecameBy (without_paths (take gone paths)) before after
  pub all : OnOk result ((out ≡ length paths) × (gone ≡ length paths))
  pub some : OnErr result (0 < out)
