-- The words of a line, which are parted by one space.
use Rattle.std.specs.Prelude.{ℕ, ◌+◌, ◌==◌, ◌&&◌, nat_eq, nat_le, Bool, if◌then◌else◌, List, [], ◌∷◌, length}
use Rattle.std.specs.Prelude.{take, drop, Option, Some, None, position}
use Rattle.std.specs.Cmp.Lexicographic.{pointwise}
use Rattle.std.specs.List.{onto_first}
use Rattle.std.specs.Option.{option_map}
use Rattle.dist_types.specs.Addr.{◌>>=◌}

-- what stands before the first space, and what stands behind it
abbrev pub first_word : List ℕ → Option (List ℕ × List ℕ)
first_word t = option_map (λ i. (take i t, drop (i + 1) t)) (position (λ b. b == 32) t)

-- the words of a text
unfoldable pub words : List ℕ → List (List ℕ)
words [] = [] ∷ []
words (b ∷ bs) = if b == 32 then [] ∷ words bs else onto_first b (words bs)

-- a word, and what stands behind the space behind it, where there is one
abbrev pub parted : List ℕ → Option ℕ → List ℕ × Option (List ℕ)
parted t None = (t, None)
parted t (Some i) = (take i t, Some (drop (i + 1) t))

-- the first word, and what stands behind it
abbrev pub next_word : List ℕ → List ℕ × Option (List ℕ)
next_word t = parted t (position (λ b. b == 32) t)

-- what stands behind the prefix
abbrev pub strip : List ℕ → List ℕ → Option (List ℕ)
strip p t = if pointwise nat_eq (take (length p) t) p then Some (drop (length p) t) else None

-- a value and a space, and what stands behind them
abbrev pub field : {A : Type 0} → (List ℕ → Option A) → List ℕ → Option (A × List ℕ)
field read t = first_word t >>= λ w. read w.0 >>= λ x. Some (x, w.1)

-- a word, and a value and a space behind it
abbrev pub named : {A : Type 0} → List ℕ → (List ℕ → Option A) → List ℕ → Option (A × List ℕ)
named p read t = strip p t >>= field read

-- a word, and a value up to the end
abbrev pub last : {A : Type 0} → List ℕ → (List ℕ → Option A) → List ℕ → Option A
last p read t = strip p t >>= read

-- what stands behind the prefix, read so, or the text read otherwise
abbrev pub behind : {A : Type 0} → Option (List ℕ) → (List ℕ → Option A) → Option A → Option A
behind (Some rest) read other = read rest
behind None read other = other

-- a byte from 0x21 to 0x7e
abbrev pub is_visible : ℕ → Bool
is_visible c = nat_le 33 c && nat_le c 126
