-- What a package is written as.
use Rattle.std.specs.Prelude.{◌≡◌, ℕ, ◌≤◌, List, [], ◌∷◌, ◌++◌, map, length, ◌==◌, if◌then◌else◌, Option, true}
use Rattle.std.specs.Prelude.{Some, None, Result, Ok, Err, String, string_bytes}
use Rattle.std.specs.List.{filter_map, list_all}
use Rattle.std.specs.Option.{unwrap_or, option_map, is_some}
use Rattle.std.specs.BTreeMap.{insert_entry}
use Rattle.std.specs.Cmp.Lexicographic.{slice_cmp}
use Rattle.std.specs.Ordering.{nat_cmp}
use Rattle.dist_types.specs.Cause.{Rose}
use Rattle.dist_types.specs.Content.{Added, Began}
use Rattle.path_pkg.specs.Told.{Told, Nodes, Refused}
use Rattle.path_pkg.specs.Resolved.{content_at}
use Rattle.path_pkg.specs.Framed.{Frame, frame_bytes}
use Rattle.path_pkg.specs.Framed.Frame.{DirFrame, FileFrame, LinkFrame}
use Rattle.path_pkg.specs.declared.record.Record.{Record}
use Rattle.path_pkg.specs.declared.record.Record.TheVariants.{Dir, File, Link}
use Rattle.path_pkg.specs.declared.fault.PackError.{PackError}
use Rattle.path_pkg.specs.declared.fault.PackError.TheVariants as Packs

-- a path, and a link's target
abbrev pub Entry : Type 0
Entry = List ℕ × List ℕ

-- the entries of a map with texts as keys
abbrev pub texts_of : {A : Type 0} → List (String A × List ℕ) → List Entry
texts_of entries = map (λ e. (string_bytes e.0, e.1)) entries

-- one entry more, at its place in the byte order of paths, or in place of the entry of that path
abbrev pub put : List Entry → Entry → List Entry
put entries e = insert_entry (slice_cmp nat_cmp) entries e.0 e.1

-- one entry more after another
abbrev pub put_all : List Entry → List Entry → List Entry
put_all entries [] = entries
put_all entries (e ∷ es) = put_all (put entries e) es

-- the place of a record: directories, then files, then links
abbrev pub rank_of : Record → ℕ
rank_of (Dir path) = 0
rank_of (File path) = 1
rank_of (Link path target) = 2

abbrev pub entry_of : Record → Entry
entry_of (Dir path) = (path, [])
entry_of (File path) = (path, [])
entry_of (Link path target) = (path, target)

abbrev pub in_rank : ℕ → Record → Option Entry
in_rank rank r = if rank_of r == rank then Some (entry_of r) else None

-- the records of one kind: by path in byte order, of each path the last
unfoldable pub sorted : ℕ → List Record → List Entry
sorted rank records = put_all [] (filter_map (in_rank rank) records)

-- the content of the file at a packed path, or nothing where it is gone
abbrev pub content_in : Nodes → List ℕ → List ℕ
content_in t path = unwrap_or (content_at t (47 ∷ path)) []

-- what the record of an entry says
abbrev pub frame_at : Nodes → ℕ → Entry → Frame
frame_at t rank e =
    if rank == 0 then DirFrame e.0
    else if rank == 1 then FileFrame e.0 (content_in t e.0)
    else LinkFrame e.0 e.1

-- what the records of a package say, in the order in which they are written
abbrev pub frames : Nodes → List Record → List Frame
frames t records =
    map (frame_at t 0) (sorted 0 records) ++ (map (frame_at t 1) (sorted 1 records) ++ map (frame_at t 2)
    (sorted 2 records))

-- the bytes of the record of an entry; none, where it is of a file that is gone
abbrev pub piece_at : Nodes → ℕ → Entry → Option (List ℕ)
piece_at t rank e =
    if rank == 0 then Some (frame_bytes (DirFrame e.0))
    else if rank == 1 then option_map (λ content. frame_bytes (FileFrame e.0 content)) (content_at t (47 ∷ e.0))
    else Some (frame_bytes (LinkFrame e.0 e.1))

-- what is written of a package, piece by piece: its records and the end byte
unfoldable pub pieces : Nodes → List Record → List (Option (List ℕ))
pieces t records =
    map (piece_at t 0) (sorted 0 records) ++ (map (piece_at t 1) (sorted 1 records)
    ++ (map (piece_at t 2) (sorted 2 records) ++ Some (69 ∷ []) ∷ []))

-- the pieces up to the first that is gone, one after another
abbrev pub up_to_gone : List (Option (List ℕ)) → List ℕ
up_to_gone [] = []
up_to_gone (None ∷ ps) = []
up_to_gone (Some bytes ∷ ps) = bytes ++ up_to_gone ps

-- no piece is gone
abbrev pub AreThere : List (Option (List ℕ)) → Type 0
AreThere ps = list_all is_some ps ≡ true

-- the cause of a refusal: one count of the tree or of the sink rose and the others stayed; want of memory
-- raises none
abbrev pub WriteCause : PackError → ℕ → ℕ → Told → Told → Type 0
WriteCause Packs.TreeFault f f2 old new = Rose old.faults new.faults × (new.misnamed ≡ old.misnamed)
    × (f2 ≡ f)
WriteCause Packs.NotUtf8 f f2 old new = Rose old.misnamed new.misnamed × (new.faults ≡ old.faults) × (f2 ≡ f)
WriteCause Packs.SinkFault f f2 old new = Rose f f2 × (new ≡ old)
WriteCause Packs.Memory f f2 old new = (new ≡ old) × (f2 ≡ f)
WriteCause _ f f2 old new = ⊥

-- an answer leaves the tree and the sink's count as they were, and a refusal is a fault or want of memory and
-- has its cause
abbrev pub Writes : {T : Type 0} → Result T PackError → Told → Told → ℕ → ℕ → Type 0
Writes (Ok x) old new f f2 = (new ≡ old) × (f2 ≡ f)
Writes (Err e) old new f f2 = Refused (WriteCause e f f2) old new × (f ≤ f2)

-- the text was written, or after a refusal a front of it
abbrev pub Puts : {T : Type 0} → Result T PackError → List ℕ → Option (List ℕ) → Option (List ℕ) → Type 0
Puts (Ok x) text old new = Added text old new
Puts (Err e) text old new = Began text old new

-- no piece is gone and all were written, or after a refusal a front of those before the first that is gone
abbrev pub PutsPieces : {T : Type 0} → Result T PackError → List (Option (List ℕ)) → Option (List ℕ)
    → Option (List ℕ) → Type 0
PutsPieces (Ok x) ps old new = AreThere ps × Added (up_to_gone ps) old new
PutsPieces (Err e) ps old new = Began (up_to_gone ps) old new

-- no path and no target is longer than 65,535 bytes
abbrev pub EntriesFit : List Entry → Type 0
EntriesFit [] = Unit {0}
EntriesFit (e ∷ es) = (length e.0 ≤ 65535) × (length e.1 ≤ 65535) × EntriesFit es
