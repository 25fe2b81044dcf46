-- The framed list: how a package is written.
use Rattle.std.specs.Prelude.{◌≡◌, ℕ, ◌<◌, ◌^◌, List, [], ◌∷◌, ◌++◌, length, Bool, true, ◌&&◌, ◌||◌, ◌==◌}
use Rattle.std.specs.Prelude.{nat_lt}
use Rattle.std.specs.Int.{w32, w64, to_be_bytes}
use Rattle.std.specs.Ordering.{is_lt, nat_cmp}
use Rattle.std.specs.Cmp.Lexicographic.{slice_cmp}

-- what one record says: a directory's path, a file's path and content, or a link's path and target
pub data Frame : Type 0 where
  DirFrame : List ℕ → Frame
  FileFrame : List ℕ → List ℕ → Frame
  LinkFrame : List ℕ → List ℕ → Frame

-- the length of a path in four bytes, high byte first, and the path
unfoldable pub path_bytes : List ℕ → List ℕ
path_bytes path = to_be_bytes w32 (length path) ++ path

-- the length of a file in eight bytes, high byte first, and its content
unfoldable pub content_bytes : List ℕ → List ℕ
content_bytes content = to_be_bytes w64 (length content) ++ content

-- the bytes of a record: its letter, its path, and what belongs to it
abbrev pub frame_bytes : Frame → List ℕ
frame_bytes (DirFrame path) = 68 ∷ path_bytes path
frame_bytes (FileFrame path content) = 70 ∷ (path_bytes path ++ content_bytes content)
frame_bytes (LinkFrame path target) = 76 ∷ (path_bytes path ++ path_bytes target)

-- the bytes of a list: those of its records, one after another, and the end byte
abbrev pub spelled : List Frame → List ℕ
spelled [] = 69 ∷ []
spelled (f ∷ fs) = frame_bytes f ++ spelled fs

-- a record's lengths fit their four and eight bytes
abbrev pub FrameFits : Frame → Type 0
FrameFits (DirFrame path) = length path < 2 ^ 32
FrameFits (FileFrame path content) = (length path < 2 ^ 32) × (length content < 2 ^ 64)
FrameFits (LinkFrame path target) = (length path < 2 ^ 32) × (length target < 2 ^ 32)

-- each record's lengths fit
abbrev pub FramesFit : List Frame → Type 0
FramesFit [] = Unit {0}
FramesFit (f ∷ fs) = FrameFits f × FramesFit fs

-- the place of a record: directories, then files, then links
abbrev pub frame_rank : Frame → ℕ
frame_rank (DirFrame path) = 0
frame_rank (FileFrame path content) = 1
frame_rank (LinkFrame path target) = 2

abbrev pub frame_path : Frame → List ℕ
frame_path (DirFrame path) = path
frame_path (FileFrame path content) = path
frame_path (LinkFrame path target) = path

-- whether one record stands before another: by its kind, then by its path in byte order
abbrev pub stands_before : Frame → Frame → Bool
stands_before f g =
    nat_lt (frame_rank f) (frame_rank g)
    || (frame_rank f == frame_rank g && is_lt (slice_cmp nat_cmp (frame_path f) (frame_path g)))

-- each record stands before the next one
abbrev pub IsInOrder : List Frame → Type 0
IsInOrder [] = Unit {0}
IsInOrder (f ∷ []) = Unit {0}
IsInOrder (f ∷ g ∷ fs) = (stands_before f g ≡ true) × IsInOrder (g ∷ fs)

-- the text is a framed list of these records
pub record IsFramedList (text : List ℕ) (frames : List Frame) : Type 0 where
  pub in_order : IsInOrder frames
  pub fit : FramesFit frames
  pub written : text ≡ spelled frames
