-- The grammar of lines: which bytes spell which value.
use Rattle.std.specs.Prelude.{◌≡◌, ℕ, ◌^◌, ◌<◌, ◌⊎◌, true, List, [], ◌++◌, map, codes}
use Rattle.std.specs.Char.{to_ascii_lowercase}
use Rattle.std.specs.Fmt.{decimal}
use Rattle.dist_types.specs.Toolchain.{is_digest}
use Rattle.line_program.specs.Texts.{◌⧺◌}
use Rattle.farm_script.specs.Grammar.{IsHex}
use Rattle.mirror_script.specs.declared.line.Site.{Site}
use Rattle.mirror_script.specs.declared.line.Site.TheVariants.{Near, Far}
use Rattle.mirror_script.specs.declared.line.Step.{Step}
use Rattle.mirror_script.specs.declared.line.Step.TheVariants.{Put, Get, Lose, Lie}
use Rattle.mirror_script.specs.declared.line.Line.{Line}
use Rattle.mirror_script.specs.declared.line.Line.TheVariants as lines

-- the name of a cache
abbrev pub site_text : Site → List ℕ
site_text Near = codes "near"
site_text Far = codes "far"

-- 64 hex digits of either case, which say an id in lower case
abbrev pub IsId : List ℕ → List ℕ → Type 0
IsId t id = (is_digest t ≡ true) × (id ≡ map to_ascii_lowercase t)

-- put near HEX, put far HEX, get ID, lose and lie HEX
abbrev pub IsStepLine : List ℕ → Step → Type 0
IsStepLine t (Put site bytes) = (hex : List ℕ) × IsHex hex bytes
    × (t ≡ codes "put " ⧺ site_text site ⧺ codes " " ⧺ hex)
IsStepLine t (Get id) = (word : List ℕ) × IsId word id × (t ≡ codes "get " ⧺ word)
IsStepLine t Lose = t ≡ codes "lose"
IsStepLine t (Lie body) = (hex : List ℕ) × IsHex hex body × (t ≡ codes "lie " ⧺ hex)

-- A line is skipped, or says how many bytes a cache takes, as near N and far N, or what is done.
abbrev pub Spells : List ℕ → Line → Type 0
Spells t lines.Skip = (t ≡ []) ⊎ ((rest : List ℕ) × (t ≡ codes "#" ++ rest))
Spells t (lines.Capacity site n) = (n < 2 ^ 64) × (t ≡ site_text site ⧺ codes " " ⧺ decimal n)
Spells t (lines.Step s) = IsStepLine t s
