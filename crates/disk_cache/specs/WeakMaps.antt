-- Weak maps: the weak keys of compilers, each with the id of the archive that was packaged for it.
use Rattle.std.specs.Prelude.{ℕ, List, [], ◌∷◌, if◌then◌else◌, Option, Some, None}
use Rattle.std.specs.Prelude.{option_map, option_and_then}
use Rattle.std.specs.BTreeMap.{insert_entry}
use Rattle.std.specs.Cmp.Lexicographic.{slice_cmp}
use Rattle.std.specs.Map.{lookup}
use Rattle.std.specs.Ordering.{nat_cmp}
use Rattle.std.specs.Str.{is_utf8, bytes_eq}
use Rattle.serde_json.specs.Data.{Data, Members, no_members, member}
use Rattle.serde_json.specs.Find.{as_str, as_object}
use Rattle.serde_json.specs.Read.{read}
use Rattle.dist_types.specs.Toolchain.{digest_in}
use Rattle.folders.specs.Files.{Files, file_at}
use Rattle.disk_cache.specs.Names.{weak_path}

-- weak keys, in the order of their bytes, each with a text
abbrev pub Weak : Type 0
Weak = List (List ℕ × List ℕ)

abbrev pub with_text : List ℕ → Option (List ℕ) → Option Weak → Option Weak
with_text key None rest = None
with_text key (Some text) rest = option_map (λ texts. (key, text) ∷ texts) rest

-- the texts of members, where each value is one
abbrev pub texts_in : Members → Option Weak
texts_in no_members = Some []
texts_in (member key value rest) = with_text key (as_str value) (texts_in rest)

-- the texts of an object of texts
abbrev pub object_texts : Data → Option Weak
object_texts value = option_and_then texts_in (as_object value)

-- the value that bytes are as JSON
abbrev pub json_of : List ℕ → Option Data
json_of bytes = if is_utf8 bytes then read bytes else None

-- the weak map that bytes are: an object of texts in JSON
unfoldable pub weak_map_in : List ℕ → Option Weak
weak_map_in bytes = option_and_then object_texts (json_of bytes)

-- the weak map of a file; where there is none, nothing is recorded
abbrev pub weak_map_of : Option (List ℕ) → Option Weak
weak_map_of None = Some []
weak_map_of (Some bytes) = weak_map_in bytes

-- the weak map that is found below a path
abbrev pub weak_map_at : List ℕ → Files → Option Weak
weak_map_at dir files = weak_map_of (file_at files (weak_path dir))

-- what is recorded under a weak key
abbrev pub recorded : List ℕ → Weak → Option (List ℕ)
recorded key weak = lookup (bytes_eq key) weak

-- the id that is recorded under a weak key; a text that is no id records none
abbrev pub recorded_id : List ℕ → Weak → Option (List ℕ)
recorded_id key weak = option_and_then digest_in (recorded key weak)

-- the weak map with an id recorded under a key
abbrev pub with_recorded : List ℕ → List ℕ → Weak → Weak
with_recorded key id weak = insert_entry (slice_cmp nat_cmp) weak key id
