-- The record of a file in two pieces.
use Rattle.std.proofs.Common.{◌≡◌, ℕ, List, ◌∷◌, ◌++◌, length, ap, ◌∙◌, append_assoc}
use Rattle.std.specs.Int.{w64, to_be_bytes}
use Rattle.path_pkg.specs.Framed.{path_bytes, content_bytes, frame_bytes}
use Rattle.path_pkg.specs.Framed.Frame.{FileFrame}

pub file_frame : (path content head : List ℕ)
    → head ≡ 70 ∷ (path_bytes path ++ to_be_bytes w64 (length content)) → head ++ content ≡ frame_bytes
    (FileFrame path content)
unfolding content_bytes
file_frame path content head e = ap (λ h. h ++ content) e
    ∙ ap (λ l. 70 ∷ l) (append_assoc (path_bytes path) (to_be_bytes w64 (length content)) content)
