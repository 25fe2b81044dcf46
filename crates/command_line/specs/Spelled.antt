-- What option words say, as a grammar: options with their values, each in one of two spellings.
use Rattle.std.specs.Prelude.{◌≡◌, ◌⊎◌, ℕ, List, [], ◌∷◌, ◌++◌, true, false, map, codes}
use Rattle.std.specs.List.{list_all, IsDistinct}
use Rattle.std.specs.Str.{bytes_eq}
use Rattle.command_line.specs.Options.{Pairs, option_names, is_among, is_empty, is_value}
use Rattle.command_line.specs.Asked.{asked_by}

-- The words begin with an option and its value, and go on with the rest: the option is `--name` and the next
-- word is its value, which does not begin with `-` where it has two or more bytes; or it is `--name=value` (61 is
-- `=`), and the value is not empty.
abbrev pub BeginsWith : List ℕ → List ℕ → List (List ℕ) → List (List ℕ) → Type 0
BeginsWith name value rest words =
    ((words ≡ (codes "--" ++ name) ∷ value ∷ rest) × (is_value value ≡ true))
    ⊎ ((words ≡ (codes "--" ++ name ++ 61 ∷ value) ∷ rest) × (is_empty value ≡ false))

-- the words are these options with their values, one behind the other
abbrev pub AreSpelled : Pairs → List (List ℕ) → Type 0
AreSpelled [] words = words ≡ []
AreSpelled (p ∷ pairs) words = (rest : List (List ℕ)) × BeginsWith p.0 p.1 rest words × AreSpelled pairs rest

-- The words are these options with their values: each is an option that there is, and none stands twice.
pub record Spells (pairs : Pairs) (words : List (List ℕ)) : Type 0 where
  pub spelled : AreSpelled pairs words
  pub known : list_all (λ p. is_among option_names p.0) pairs ≡ true
  pub once : IsDistinct bytes_eq (map (λ p. p.0) pairs)

-- Behind each command that has options, these words and those ask for the same.
pub record AskAlike (words others : List (List ℕ)) : Type 0 where
  pub scheduler : (program : List ℕ)
      → asked_by (program ∷ codes "scheduler" ∷ words) ≡ asked_by (program ∷ codes "scheduler" ∷ others)
  pub server : (program : List ℕ)
      → asked_by (program ∷ codes "server" ∷ words) ≡ asked_by (program ∷ codes "server" ∷ others)
  pub shared_token : (program : List ℕ)
      → asked_by (program ∷ codes "auth" ∷ codes "generate-shared-token" ∷ words)
      ≡ asked_by (program ∷ codes "auth" ∷ codes "generate-shared-token" ∷ others)
  pub server_token : (program : List ℕ)
      → asked_by (program ∷ codes "auth" ∷ codes "generate-jwt-hs256-server-token" ∷ words)
      ≡ asked_by (program ∷ codes "auth" ∷ codes "generate-jwt-hs256-server-token" ∷ others)
