-- What the scanner knows of the lines.
use Rattle.std.specs.Prelude.{◌≡◌, ℕ, Bool, true, false, ◌==◌, List, [], ◌∷◌, if◌then◌else◌}
use Rattle.http_connections.specs.declared.scan.Line.{Line}
use Rattle.http_connections.specs.declared.scan.Line.TheVariants.{Nothing, Cr, More}
use Rattle.http_connections.specs.declared.scan.Scan.{Scan}
use Rattle.http_head.specs.Stop.{Lines, is_full}

-- what a line that is begun is seen as
abbrev pub line_of : List ℕ → Line
line_of [] = Nothing
line_of (b ∷ []) = if b == 13 then Cr else More
line_of (b ∷ c ∷ bytes) = More

-- what it is seen as with one byte more
abbrev pub grown : Line → ℕ → Line
grown Nothing b = if b == 13 then Cr else More
grown Cr b = More
grown More b = More

-- it is a line that is not empty
abbrev pub is_more : Line → Bool
is_more Nothing = false
is_more Cr = false
is_more More = true

-- the scanner knows these of the lines
pub record Sees (scan : Scan) (ls : Lines) : Type 0 where
  pub line : scan.line ≡ line_of ls.begun
  pub full : scan.full ≡ is_full ls.whole
