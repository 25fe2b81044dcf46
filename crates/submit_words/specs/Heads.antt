-- What is shown of a head.
use Rattle.std.specs.Prelude.{ℕ, List, [], ◌∷◌, ◌++◌, Bool, ◌==◌, nat_eq, codes, if◌then◌else◌}
use Rattle.std.specs.List.{flat_map, slice_split, starts_with}

-- a line with a token
abbrev pub has_token : List ℕ → Bool
has_token line = starts_with nat_eq line (codes "Authorization:")

-- a line as it is, but of one with a token no more than that
abbrev pub shown_line : List ℕ → List ℕ
shown_line line = if has_token line then codes "Authorization: (hidden)" else line

-- each line behind a mark, with a line end
abbrev pub shown_lines : List ℕ → List (List ℕ) → List ℕ
shown_lines mark lines = flat_map (λ line. (mark ++ shown_line line) ++ 10 ∷ []) lines

-- What is shown of a head: of each of its lines.
abbrev pub shown_head : List ℕ → List ℕ → List ℕ
shown_head mark head = shown_lines mark (slice_split (λ b. b == 10) head)
