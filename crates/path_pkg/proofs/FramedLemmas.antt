-- A framed list is read in one way.
use Rattle.std.proofs.Common.{◌≡◌, ℕ, ◌<◌, ◌^◌, List, [], ◌∷◌, ◌++◌, length, refl, sym, ap, ◌∙◌, append_assoc}
use Rattle.std.proofs.Common.{arith}
use Rattle.std.specs.Int.{w32, w64, to_be_bytes, from_be_bytes}
use Rattle.std.proofs.lemmas.Nat.{from_be_bytes-to_be_bytes_4, from_be_bytes-to_be_bytes_8}
use Rattle.path_pkg.specs.Framed.Frame.{DirFrame, FileFrame, LinkFrame}
use Rattle.path_pkg.specs.Framed.{Frame, path_bytes, content_bytes, spelled, FramesFit, IsFramedList}

-- two fronts of one length
pub cut_same : (a b x y : List ℕ) → length a ≡ length b → a ++ x ≡ b ++ y → (a ≡ b) × (x ≡ y)
cut_same [] [] x y l e = (refl, e)
cut_same [] (d ∷ b) x y l e = absurd (omega arith)
cut_same (c ∷ a) [] x y l e = absurd (omega arith)
cut_same (c ∷ a) (d ∷ b) x y l e =
    let first : c ≡ d = cc in
    let others : a ++ x ≡ b ++ y = cc in
    let rest = cut_same a b x y (omega arith) others in
    (cc (first, rest.0), rest.1)

-- a length before a list, in n bytes that say it
sized_same : (put : ℕ → List ℕ) (get : List ℕ → ℕ) (top : ℕ) → ((n m : ℕ) → length (put n) ≡ length (put m))
    → ((n : ℕ) → n < top → get (put n) ≡ n)
    → (p q x y : List ℕ) → length p < top → length q < top
    → (put (length p) ++ p) ++ x ≡ (put (length q) ++ q) ++ y → (p ≡ q) × (x ≡ y)
sized_same put get top even back p q x y hp hq e =
    let e2 : put (length p) ++ (p ++ x) ≡ put (length q) ++ (q ++ y) = sym (append_assoc (put (length p)) p x)
    ∙ e ∙ append_assoc (put (length q)) q y in
    let heads = cut_same (put (length p)) (put (length q)) (p ++ x) (q ++ y) (even (length p) (length q)) e2
    in
    let same : length p ≡ length q = sym (back (length p) hp) ∙ ap get heads.0 ∙ back (length q) hq in
    cut_same p q x y same heads.1

pub path_same : (p q x y : List ℕ) → length p < 2 ^ 32 → length q < 2 ^ 32
    → path_bytes p ++ x ≡ path_bytes q ++ y → (p ≡ q) × (x ≡ y)
unfolding path_bytes
path_same p q x y hp hq e = sized_same (to_be_bytes w32) (from_be_bytes w32) (2 ^ 32)
    (λ n m. refl) from_be_bytes-to_be_bytes_4 p q x y hp hq e

pub content_same : (p q x y : List ℕ) → length p < 2 ^ 64 → length q < 2 ^ 64
    → content_bytes p ++ x ≡ content_bytes q ++ y → (p ≡ q) × (x ≡ y)
unfolding content_bytes
content_same p q x y hp hq e = sized_same (to_be_bytes w64) (from_be_bytes w64) (2 ^ 64)
    (λ n m. refl) from_be_bytes-to_be_bytes_8 p q x y hp hq e

three : (a b c d : List ℕ) → ((a ++ b) ++ c) ++ d ≡ a ++ (b ++ (c ++ d))
three a b c d = simp append_assoc

first_same : (a b : ℕ) (x y : List ℕ) → a ∷ x ≡ b ∷ y → a ≡ b
first_same a b x y e = cc

others_same : (a b : ℕ) (x y : List ℕ) → a ∷ x ≡ b ∷ y → x ≡ y
others_same a b x y e = cc

pub frames_same : (fs gs : List Frame) (x y : List ℕ) → FramesFit fs → FramesFit gs
    → spelled fs ++ x ≡ spelled gs ++ y → (fs ≡ gs) × (x ≡ y)
frames_same [] [] x y hf hg e = (refl, others_same 69 69 x y e)
frames_same [] (DirFrame q ∷ gs) x y hf hg e = let d = first_same 69 68 _ _ e in absurd (omega arith)
frames_same [] (FileFrame q c ∷ gs) x y hf hg e = let d = first_same 69 70 _ _ e in absurd (omega arith)
frames_same [] (LinkFrame q t ∷ gs) x y hf hg e = let d = first_same 69 76 _ _ e in absurd (omega arith)
frames_same (DirFrame p ∷ fs) [] x y hf hg e = let d = first_same 68 69 _ _ e in absurd (omega arith)
frames_same (FileFrame p c ∷ fs) [] x y hf hg e = let d = first_same 70 69 _ _ e in absurd (omega arith)
frames_same (LinkFrame p t ∷ fs) [] x y hf hg e = let d = first_same 76 69 _ _ e in absurd (omega arith)
frames_same (DirFrame p ∷ fs) (FileFrame q c ∷ gs) x y hf hg e = let d = first_same 68 70 _ _ e
    in absurd (omega arith)
frames_same (DirFrame p ∷ fs) (LinkFrame q t ∷ gs) x y hf hg e = let d = first_same 68 76 _ _ e
    in absurd (omega arith)
frames_same (FileFrame p c ∷ fs) (DirFrame q ∷ gs) x y hf hg e = let d = first_same 70 68 _ _ e
    in absurd (omega arith)
frames_same (FileFrame p c ∷ fs) (LinkFrame q t ∷ gs) x y hf hg e = let d = first_same 70 76 _ _ e
    in absurd (omega arith)
frames_same (LinkFrame p t ∷ fs) (DirFrame q ∷ gs) x y hf hg e = let d = first_same 76 68 _ _ e
    in absurd (omega arith)
frames_same (LinkFrame p t ∷ fs) (FileFrame q c ∷ gs) x y hf hg e = let d = first_same 76 70 _ _ e
    in absurd (omega arith)
frames_same (DirFrame p ∷ fs) (DirFrame q ∷ gs) x y hf hg e =
    let tails : (path_bytes p ++ spelled fs) ++ x ≡ (path_bytes q ++ spelled gs) ++ y =
    others_same 68 68 _ _ e in
    let paths = path_same p q (spelled fs ++ x) (spelled gs ++ y) hf.0 hg.0
    (sym (append_assoc (path_bytes p) (spelled fs) x) ∙ tails ∙ append_assoc (path_bytes q)
    (spelled gs) y) in
    let rest = frames_same fs gs x y hf.1 hg.1 paths.1 in
    (cc (paths.0, rest.0), rest.1)
frames_same (FileFrame p c ∷ fs) (FileFrame q d ∷ gs) x y hf hg e =
    let tails : ((path_bytes p ++ content_bytes c) ++ spelled fs) ++ x ≡
    ((path_bytes q ++ content_bytes d) ++ spelled gs) ++ y = others_same 70 70 _ _ e in
    let paths = path_same p q (content_bytes c ++ (spelled fs ++ x)) (content_bytes d ++ (spelled gs ++ y))
    hf.0.0 hg.0.0 (sym (three (path_bytes p) (content_bytes c) (spelled fs) x) ∙ tails
    ∙ three (path_bytes q) (content_bytes d) (spelled gs) y) in
    let contents = content_same c d (spelled fs ++ x) (spelled gs ++ y) hf.0.1 hg.0.1 paths.1 in
    let rest = frames_same fs gs x y hf.1 hg.1 contents.1 in
    (cc (paths.0, contents.0, rest.0), rest.1)
frames_same (LinkFrame p c ∷ fs) (LinkFrame q d ∷ gs) x y hf hg e =
    let tails : ((path_bytes p ++ path_bytes c) ++ spelled fs) ++ x ≡
    ((path_bytes q ++ path_bytes d) ++ spelled gs) ++ y = others_same 76 76 _ _ e in
    let paths = path_same p q (path_bytes c ++ (spelled fs ++ x)) (path_bytes d ++ (spelled gs ++ y)) hf.0.0
    hg.0.0 (sym (three (path_bytes p) (path_bytes c) (spelled fs) x) ∙ tails
    ∙ three (path_bytes q) (path_bytes d) (spelled gs) y) in
    let targets = path_same c d (spelled fs ++ x) (spelled gs ++ y) hf.0.1 hg.0.1 paths.1 in
    let rest = frames_same fs gs x y hf.1 hg.1 targets.1 in
    (cc (paths.0, targets.0, rest.0), rest.1)

pub lists_same : (a b rest more : List ℕ) (fs gs : List Frame) → IsFramedList a fs → IsFramedList b gs
    → a ++ rest ≡ b ++ more → (fs ≡ gs) × (a ≡ b) × (rest ≡ more)
lists_same a b rest more fs gs ia ib e =
    let same = frames_same fs gs rest more ia.fit ib.fit (ap (λ t. t ++ rest) (sym ia.written) ∙ e
    ∙ ap (λ t. t ++ more) ib.written) in
    (same.0, ia.written ∙ ap spelled same.0 ∙ sym ib.written, same.1)
