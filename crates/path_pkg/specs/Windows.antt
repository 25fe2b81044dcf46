-- Paths of Windows, as they are sent.
use Rattle.std.specs.Prelude.{ℕ, zero, suc, ◌+◌, List, [], ◌∷◌, ◌++◌, map, filter, drop, slice_index, codes}
use Rattle.std.specs.Prelude.{Bool, false, not, ◌&&◌, ◌||◌, ◌==◌, if◌then◌else◌, Option, Some, None, String}
use Rattle.std.specs.Prelude.{string_bytes}
use Rattle.std.specs.List.{slice_split, flat_map, list_any}
use Rattle.std.specs.Map.{lookup}
use Rattle.std.specs.Char.{is_ascii_alphabetic, to_ascii_uppercase}
use Rattle.std.specs.Str.{is_utf8, bytes_eq}
use Rattle.path_pkg.specs.Path.{joined}
use Rattle.path_pkg.specs.Written.{Entry, put}

-- whether a byte is `/` or `\`
abbrev pub is_separator : ℕ → Bool
is_separator b = b == 47 || b == 92

-- whether a path begins with a letter, `:` and a separator
unfoldable pub is_plain : List ℕ → Bool
is_plain path = is_ascii_alphabetic (slice_index path 0) && slice_index path 1 == 58
    && is_separator (slice_index path 2)

-- whether a path begins with `\\?\`, a letter and `:\`
unfoldable pub is_verbatim : List ℕ → Bool
is_verbatim path =
    slice_index path 0 == 92 && slice_index path 1 == 92 && slice_index path 2 == 63
    && slice_index path 3 == 92
    && is_ascii_alphabetic (slice_index path 4) && slice_index path 5 == 58 && slice_index path 6 == 92

-- whether a path begins otherwise with a separator, or with a letter and `:`
unfoldable pub is_barred : List ℕ → Bool
is_barred path = is_separator (slice_index path 0)
    || (is_ascii_alphabetic (slice_index path 0) && slice_index path 1 == 58)

-- the parts between each two `\`, without the empty ones
abbrev pub is_full : List ℕ → Bool
is_full part = not (bytes_eq part [])

abbrev pub verbatim_parts : List ℕ → List (List ℕ)
verbatim_parts path = filter is_full (slice_split (λ b. b == 92) path)

-- the parts between each two separators, without the empty ones: cut at each `\`, and each piece at each `/`
abbrev pub parts_of : List ℕ → List (List ℕ)
parts_of path = flat_map (λ piece. filter is_full (slice_split (λ b. b == 47) piece))
    (slice_split (λ b. b == 92) path)

-- the parts without each `.`
abbrev pub without_dots : List (List ℕ) → List (List ℕ)
without_dots parts = filter (λ part. not (bytes_eq part (46 ∷ []))) parts

-- the parts without each `.` but one that leads
abbrev pub after_first : List (List ℕ) → List (List ℕ)
after_first [] = []
after_first (part ∷ parts) = part ∷ without_dots parts

-- the text of a disk in the other system
abbrev pub disk_text : ℕ → List ℕ
disk_text letter = codes "/prefix/disk-" ++ letter ∷ []

-- the text of a path on a disk
abbrev pub on_disk : ℕ → List (List ℕ) → List ℕ
on_disk letter parts = (disk_text (to_ascii_uppercase letter) ++ 47 ∷ []) ++ joined parts

-- the text that a path that is UTF-8 is sent as, on a disk
unfoldable pub abs_text : List ℕ → Option (List ℕ)
abs_text path =
    if is_verbatim path then Some (on_disk (slice_index path 4) (verbatim_parts (drop 7 path)))
    else if is_plain path then Some (on_disk (slice_index path 0) (without_dots (parts_of (drop 3 path))))
    else None

-- the same for any path
unfoldable pub any_text : List ℕ → Option (List ℕ)
any_text path =
    if is_verbatim path || is_plain path then abs_text path
    else if is_barred path then None
    else Some (joined (after_first (parts_of path)))

-- the text that a path is sent as
abbrev pub windows_dist : List ℕ → Option (List ℕ)
windows_dist path = if is_utf8 path then any_text path else None

-- the text that a path on a disk is sent as
abbrev pub windows_dist_abs : List ℕ → Option (List ℕ)
windows_dist_abs path = if is_utf8 path then abs_text path else None

-- what was mapped, after one path more
abbrev pub mapped_with : List Entry → List ℕ → Option (List ℕ) → List Entry
mapped_with mapped path (Some text) = put mapped (text, path)
mapped_with mapped path None = mapped

-- the path that was mapped to a text
abbrev pub local_of : List Entry → List ℕ → Option (List ℕ)
local_of mapped text = lookup (λ k. bytes_eq text k) mapped

-- whether a path is on the plain disk of this letter, in upper case
abbrev pub is_on_plain : ℕ → List ℕ → Bool
is_on_plain letter path = is_plain path && to_ascii_uppercase (slice_index path 0) == letter

-- whether a path is on the verbatim disk of this letter, in upper case
abbrev pub is_on_verbatim : ℕ → List ℕ → Bool
is_on_verbatim letter path = is_verbatim path && to_ascii_uppercase (slice_index path 4) == letter

-- so many letters, from one on
unfoldable pub letters_from : ℕ → ℕ → List ℕ
letters_from first zero = []
letters_from first (suc n) = first ∷ letters_from (first + 1) n

-- the plain disks of the paths that were mapped, each once, by letter
abbrev pub plain_mappings : List Entry → List ℕ → List Entry
plain_mappings mapped [] = []
plain_mappings mapped (x ∷ xs) =
    (if list_any (λ e. is_on_plain x e.1) mapped then (x ∷ 58 ∷ [], disk_text x) ∷ [] else [])
    ++ plain_mappings mapped xs

-- the verbatim disks of the paths that were mapped, each once, by letter
abbrev pub verbatim_mappings : List Entry → List ℕ → List Entry
verbatim_mappings mapped [] = []
verbatim_mappings mapped (x ∷ xs) =
    (if list_any (λ e. is_on_verbatim x e.1) mapped then (92 ∷ 92 ∷ 63 ∷ 92 ∷ x ∷ 58 ∷ [], disk_text x) ∷ []
    else []) ++ verbatim_mappings mapped xs

-- the disks of the paths that were mapped, each with its text: the plain ones and then the verbatim ones
abbrev pub mappings : List Entry → List Entry
mappings mapped = plain_mappings mapped (letters_from 65 26) ++ verbatim_mappings mapped (letters_from 65 26)

-- pairs of strings as pairs of texts
abbrev pub pairs_of : {A B : Type 0} → List (String A × String B) → List Entry
pairs_of pairs = map (λ p. (string_bytes p.0, string_bytes p.1)) pairs

-- what was mapped, after paths with the texts that they are sent as, one after another
abbrev pub mapped_all : List Entry → List (List ℕ × Option (List ℕ)) → List Entry
mapped_all mapped [] = mapped
mapped_all mapped (m ∷ ms) = mapped_all (mapped_with mapped m.0 m.1) ms

-- whether a path is sent as this text
abbrev pub is_sent_as : List ℕ → Option (List ℕ) → Bool
is_sent_as text None = false
is_sent_as text (Some sent) = bytes_eq text sent

-- the last of the paths that is sent as this text, if one is, and else the one before them
abbrev pub last_sent_as : List ℕ → Option (List ℕ) → List (List ℕ × Option (List ℕ)) → Option (List ℕ)
last_sent_as text before [] = before
last_sent_as text before (m ∷ ms) = last_sent_as text (if is_sent_as text m.1 then Some m.0 else before) ms
