-- What a client is told that holds as many reservations as it may.
use Rattle.std.specs.Prelude.{ℕ, List, ◌++◌, codes}
use Rattle.std.specs.Fmt.{decimal}

-- so many of so many reservations are held
abbrev pub full_text : ℕ → ℕ → List ℕ
full_text held limit =
    codes "Client quota reached: " ++ decimal held ++ codes " of " ++ decimal limit ++ codes " reservations held"
