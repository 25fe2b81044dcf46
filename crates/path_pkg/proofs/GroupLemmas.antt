-- Writing one piece after another.
use Rattle.std.proofs.Common.{◌≡◌, ℕ, List, [], ◌∷◌, ◌++◌, map, Bool, true, false, ◌==◌, if◌then◌else◌, Option}
use Rattle.std.proofs.Common.{Some, None, Result, Ok, Err, refl, sym, ap, ◌∙◌, append_assoc, subst}
use Rattle.std.specs.Option.{option_map, unwrap_or}
use Rattle.std.proofs.lemmas.List.{append-nil}
use Rattle.dist_types.specs.Content.{Added, Began}
use Rattle.dist_types.proofs.Contents.{added_then}
use Rattle.path_pkg.specs.Told.{Nodes}
use Rattle.path_pkg.specs.Resolved.{content_at}
use Rattle.path_pkg.specs.Framed.{Frame, frame_bytes, spelled}
use Rattle.path_pkg.specs.Framed.Frame.{DirFrame, FileFrame, LinkFrame}
use Rattle.path_pkg.specs.declared.record.Record.{Record}
use Rattle.path_pkg.specs.declared.fault.PackError.{PackError}
use Rattle.path_pkg.specs.Written.{Entry, sorted, frame_at, frames, piece_at, pieces, up_to_gone, AreThere}
use Rattle.path_pkg.specs.Written.{EntriesFit, Puts, PutsPieces}
use Rattle.path_pkg.proofs.WrittenLemmas.{began_front, began_after}

abbrev Piece : Type 0
Piece = Option (List ℕ)

-- ---- pieces

all_there : (ps qs : List Piece) → AreThere ps → AreThere qs → AreThere (ps ++ qs)
all_there [] qs h k = k
all_there (None ∷ ps) qs h k = h
all_there (Some bytes ∷ ps) qs h k = all_there ps qs h k

-- pieces behind such as are there
behind_there : (ps qs : List Piece) → AreThere ps → up_to_gone (ps ++ qs) ≡ up_to_gone ps ++ up_to_gone qs
behind_there [] qs h = refl
behind_there (None ∷ ps) qs h = absurd (let no : false ≡ true = h in cc)
behind_there (Some bytes ∷ ps) qs h =
    ap (λ l. bytes ++ l) (behind_there ps qs h) ∙ sym (append_assoc bytes (up_to_gone ps) (up_to_gone qs))

-- pieces behind any
behind_any : (ps qs : List Piece) → (more : List ℕ) × (up_to_gone (ps ++ qs) ≡ up_to_gone ps ++ more)
behind_any [] qs = (up_to_gone qs, refl)
behind_any (None ∷ ps) qs = ([], refl)
behind_any (Some bytes ∷ ps) qs =
    let later = behind_any ps qs in
    (later.0, ap (λ l. bytes ++ l) later.1 ∙ sym (append_assoc bytes (up_to_gone ps) later.0))

-- one piece
pub one_piece : {T : Type 0} (r : Result T PackError) (bytes : List ℕ) (o p : Option (List ℕ))
    → Puts r bytes o p → PutsPieces r (Some bytes ∷ []) o p
one_piece (Ok x) bytes o p h =
    let P : List ℕ → Type 0 = λ l. Added l o p in
    (refl, subst P (sym (append-nil bytes)) h)
one_piece (Err e) bytes o p h = began_front bytes [] o p h

-- pieces, and then others
pub pieces_then : {T : Type 0} (r : Result T PackError) (ps qs : List Piece) (o p q : Option (List ℕ))
    → AreThere ps × Added (up_to_gone ps) o p → PutsPieces r qs p q → PutsPieces r (ps ++ qs) o q
pieces_then (Ok x) ps qs o p q h k =
    let P : List ℕ → Type 0 = λ l. Added l o q in (
      all_there ps qs h.0 k.0,
      subst P (sym (behind_there ps qs h.0)) (added_then (up_to_gone ps) (up_to_gone qs) o p q h.1 k.1),
    )
pieces_then (Err e) ps qs o p q h k =
    let P : List ℕ → Type 0 = λ l. Began l o q in
    subst P (sym (behind_there ps qs h.0)) (began_after (up_to_gone ps) (up_to_gone qs) o p q h.1 k)

-- pieces that were not all written, and others
pub pieces_stopped : (ps qs : List Piece) (o p : Option (List ℕ)) → Began (up_to_gone ps) o p
    → Began (up_to_gone (ps ++ qs)) o p
pieces_stopped ps qs o p h =
    let P : List ℕ → Type 0 = λ l. Began l o p in
    let later = behind_any ps qs in
    subst P (sym later.1) (began_front (up_to_gone ps) later.0 o p h)

pub pieces_same : {T : Type 0} (r : Result T PackError) (ps qs : List Piece) (o p : Option (List ℕ)) → ps ≡ qs
    → PutsPieces r ps o p → PutsPieces r qs o p
pieces_same r ps qs o p e h = let P : List Piece → Type 0 = λ l. PutsPieces r l o p in subst P e h

-- ---- the piece of one record

pub file_piece : {T : Type 0} (r : Result T PackError) (t : Nodes) (path content : List ℕ)
    (o p : Option (List ℕ))
    → content_at t (47 ∷ path) ≡ Some content → Puts r (frame_bytes (FileFrame path content)) o p
    → PutsPieces r (piece_at t 1 (path, []) ∷ []) o p
file_piece r t path content o p is h =
    let P : Piece → Type 0 =
    λ x. PutsPieces r (option_map (λ c. frame_bytes (FileFrame path c)) x ∷ []) o p in
    subst P (sym is) (one_piece r (frame_bytes (FileFrame path content)) o p h)

-- ---- the records of one kind

-- the pieces of the entries before these were written
pub record PiecesSoFar (t : Nodes) (rank : ℕ) (rest all : List Entry) (old new : Option (List ℕ))
    : Type 0 where
  pub done : List Piece
  pub whole : done ++ map (piece_at t rank) rest ≡ map (piece_at t rank) all
  pub there : AreThere done
  pub added : Added (up_to_gone done) old new

pub none_done : (t : Nodes) (rank : ℕ) (all : List Entry) (o : Option (List ℕ)) → Added [] o o
    → PiecesSoFar t rank all all o o
none_done t rank all o h = record { done = []; whole = refl; there = refl; added = h }

next_is : (t : Nodes) (rank : ℕ) (rest rest2 : List Entry) (path target path2 target2 : List ℕ)
    → rest ≡ (path, target) ∷ rest2 → path2 ≡ path → target2 ≡ target
    → map (piece_at t rank) rest ≡ piece_at t rank (path2, target2) ∷ map (piece_at t rank) rest2
next_is t rank rest rest2 path target path2 target2 er ep et =
    let same : (path, target) ≡ (path2, target2) = cc in
    ap (map (piece_at t rank)) er ∙ ap (λ e. piece_at t rank e ∷ map (piece_at t rank) rest2) same

-- one record more
pub one_more_done : (t : Nodes) (rank : ℕ) (rest rest2 all : List Entry) (path target path2 target2 : List ℕ)
    (o p q : Option (List ℕ))
    → rest ≡ (path, target) ∷ rest2 → path2 ≡ path → target2 ≡ target → PiecesSoFar t rank rest all o p
    → AreThere (piece_at t rank (path2, target2) ∷ [])
    × Added (up_to_gone (piece_at t rank (path2, target2) ∷ [])) p q → PiecesSoFar t rank rest2 all o q
one_more_done t rank rest rest2 all path target path2 target2 o p q er ep et h k =
    let next = next_is t rank rest rest2 path target path2 target2 er ep et in
    let one : List Piece = piece_at t rank (path2, target2) ∷ [] in
    let r : Result (Unit {0}) PackError = Ok (tt {0}) in
    let both = pieces_then r h.done one o p q (h.there, h.added) k in
    record {
      done = h.done ++ one;
      whole = append_assoc h.done one (map (piece_at t rank) rest2)
          ∙ ap (λ l. h.done ++ l) (sym next) ∙ h.whole;
      there = both.0;
      added = both.1;
    }

-- a record that was refused
pub one_refused : (e : PackError) (t : Nodes) (rank : ℕ) (rest rest2 all : List Entry)
    (path target path2 target2 : List ℕ) (o p q : Option (List ℕ))
    → rest ≡ (path, target) ∷ rest2 → path2 ≡ path → target2 ≡ target → PiecesSoFar t rank rest all o p
    → Began (up_to_gone (piece_at t rank (path2, target2) ∷ [])) p q
    → Began (up_to_gone (map (piece_at t rank) all)) o q
one_refused e t rank rest rest2 all path target path2 target2 o p q er ep et h k =
    let next = next_is t rank rest rest2 path target path2 target2 er ep et in
    let one : List Piece = piece_at t rank (path2, target2) ∷ [] in
    let r : Result (Unit {0}) PackError = Err e in
    pieces_same r _ _ o q (ap (λ l. h.done ++ l) (sym next) ∙ h.whole)
    (pieces_then r h.done (one ++ map (piece_at t rank) rest2) o p q (h.there, h.added)
    (pieces_stopped one (map (piece_at t rank) rest2) p q k))

-- all records
pub all_done : (t : Nodes) (rank : ℕ) (rest all : List Entry) (o p : Option (List ℕ))
    → PiecesSoFar t rank rest all o p → rest ≡ []
    → AreThere (map (piece_at t rank) all) × Added (up_to_gone (map (piece_at t rank) all)) o p
all_done t rank rest all o p h none =
    let r : Result (Unit {0}) PackError = Ok (tt {0}) in
    let same : h.done ≡ map (piece_at t rank) all =
    sym (append-nil h.done) ∙ ap (λ l. h.done ++ map (piece_at t rank) l) (sym none) ∙ h.whole in
    pieces_same r h.done _ o p same (h.there, h.added)

pub fit_rest : (rest rest2 : List Entry) (e : Entry) → rest ≡ e ∷ rest2 → EntriesFit rest → EntriesFit rest2
fit_rest rest rest2 e er fit = let P : List Entry → Type 0 = EntriesFit in let h : EntriesFit (e ∷ rest2) =
    subst P er fit in h.2

-- ---- a package

pub pieces_are : (t : Nodes) (records : List Record) (dirs files links : List Entry) → dirs ≡ sorted 0 records
    → files ≡ sorted 1 records → links ≡ sorted 2 records
    → map (piece_at t 0) dirs ++ (map (piece_at t 1) files ++ (map (piece_at t 2) links ++ Some (69 ∷ []) ∷ []))
    ≡ pieces t records
unfolding pieces
pieces_are t records dirs files links ed ef el = rw (ed, ef, el) refl

-- a piece that is there is the bytes of its record
piece_by : (is_dir is_file : Bool) (content : Option (List ℕ)) (path target bytes : List ℕ)
    → (if is_dir then Some (frame_bytes (DirFrame path))
    else if is_file then option_map (λ c. frame_bytes (FileFrame path c)) content
    else Some (frame_bytes (LinkFrame path target))) ≡ Some bytes
    → bytes ≡ frame_bytes (if is_dir then DirFrame path
    else if is_file then FileFrame path (unwrap_or content []) else LinkFrame path target)
piece_by true is_file content path target bytes h = cc
piece_by false true (Some content) path target bytes h = cc
piece_by false true None path target bytes h = absurd (let no : None ≡ Some bytes = h in cc)
piece_by false false content path target bytes h = cc

piece_is : (t : Nodes) (rank : ℕ) (e : Entry) (bytes : List ℕ) → piece_at t rank e ≡ Some bytes
    → bytes ≡ frame_bytes (frame_at t rank e)
piece_is t rank e bytes h =
    piece_by (rank == 0) (rank == 1) (content_at t (47 ∷ e.0)) e.0 e.1 bytes h

one_spelled : (piece : Piece) (f : Frame) (qs : List Piece) (fs : List Frame)
    → ((bytes : List ℕ) → piece ≡ Some bytes → bytes ≡ frame_bytes f)
    → AreThere (piece ∷ qs) → (AreThere qs → up_to_gone qs ≡ spelled fs)
    → up_to_gone (piece ∷ qs) ≡ spelled (f ∷ fs)
one_spelled None f qs fs is there later = absurd (let no : false ≡ true = there in cc)
one_spelled (Some bytes) f qs fs is there later =
    ap (λ b. b ++ up_to_gone qs) (is bytes refl) ∙ ap (λ l. frame_bytes f ++ l) (later there)

group_spelled : (t : Nodes) (rank : ℕ) (es : List Entry) (qs : List Piece) (fs : List Frame)
    → AreThere (map (piece_at t rank) es ++ qs) → (AreThere qs → up_to_gone qs ≡ spelled fs)
    → up_to_gone (map (piece_at t rank) es ++ qs) ≡ spelled (map (frame_at t rank) es ++ fs)
group_spelled t rank [] qs fs there later = later there
group_spelled t rank (e ∷ es) qs fs there later =
    one_spelled (piece_at t rank e) (frame_at t rank e) (map (piece_at t rank) es ++ qs)
    (map (frame_at t rank) es ++ fs) (piece_is t rank e) there
    (λ rest. group_spelled t rank es qs fs rest later)

-- a package of which no file is gone
pub all_pieces : (t : Nodes) (records : List Record) → AreThere (pieces t records)
    → up_to_gone (pieces t records) ≡ spelled (frames t records)
unfolding pieces
all_pieces t records there =
    group_spelled t 0 (sorted 0 records) _ _ there
    (λ files. group_spelled t 1 (sorted 1 records) _ _ files
    (λ links. group_spelled t 2 (sorted 2 records) (Some (69 ∷ []) ∷ []) [] links (λ end. refl)
    ∙ ap spelled (append-nil (map (frame_at t 2) (sorted 2 records)))))

-- the same text
pub puts_same : {T : Type 0} (r : Result T PackError) (a b : List ℕ) (o p : Option (List ℕ)) → a ≡ b
    → Puts r a o p → Puts r b o p
puts_same (Ok x) a b o p e h = let P : List ℕ → Type 0 = λ x. Added x o p in subst P e h
puts_same (Err x) a b o p e h = let P : List ℕ → Type 0 = λ x. Began x o p in subst P e h
