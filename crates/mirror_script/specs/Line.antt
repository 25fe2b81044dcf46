-- What a line says, as its reader finds it.
use Rattle.std.specs.Prelude.{ℕ, nat_eq, if◌then◌else◌, List, Option, Some, None, codes}
use Rattle.std.specs.List.{list_all}
use Rattle.std.specs.Cmp.Lexicographic.{pointwise}
use Rattle.dist_types.specs.Addr.{◌>>=◌}
use Rattle.dist_types.specs.Toolchain.{digest_in}
use Rattle.farm_script.specs.Words.{first_word, strip, last, behind, is_visible}
use Rattle.farm_script.specs.Fields.{number_at, hex_at}
use Rattle.farm_script.specs.Lines.{is_skipped}
use Rattle.mirror_script.specs.declared.line.Site.{Site}
use Rattle.mirror_script.specs.declared.line.Site.TheVariants.{Near, Far}
use Rattle.mirror_script.specs.declared.line.Step.{Step}
use Rattle.mirror_script.specs.declared.line.Step.TheVariants.{Put, Get, Lose, Lie}
use Rattle.mirror_script.specs.declared.line.Line.{Line}
use Rattle.mirror_script.specs.declared.line.Line.TheVariants as lines

-- 64 hex digits of either case say an id in lower case
abbrev pub id_at : List ℕ → Option (List ℕ)
id_at t = if list_all is_visible t then digest_in t else None

-- behind the name of a cache, how many bytes it takes
abbrev pub capacity_at : Site → List ℕ → Option Line
capacity_at site t = number_at t >>= λ n. Some (lines.Capacity site n)

-- behind the word put
unfoldable pub put_at : List ℕ → Option Step
put_at t =
    behind (strip (codes "near ") t) (λ r. hex_at r >>= λ bytes. Some (Put Near bytes))
    (last (codes "far ") hex_at t >>= λ bytes. Some (Put Far bytes))

-- a line, by its first word and what stands behind it
abbrev pub line_behind : List ℕ → List ℕ → Option Line
line_behind w t =
    if pointwise nat_eq w (codes "near") then capacity_at Near t
    else if pointwise nat_eq w (codes "far") then capacity_at Far t
    else if pointwise nat_eq w (codes "put") then (put_at t >>= λ s. Some (lines.Step s))
    else if pointwise nat_eq w (codes "get") then (id_at t >>= λ tc. Some (lines.Step (Get tc)))
    else if pointwise nat_eq w (codes "lie") then (hex_at t >>= λ body. Some (lines.Step (Lie body)))
    else None

-- what a line says that is not skipped
unfoldable pub said_at : List ℕ → Option Line
said_at t = if pointwise nat_eq t (codes "lose") then Some (lines.Step Lose)
    else (first_word t >>= λ w. line_behind w.0 w.1)

-- the value that the whole line spells, if it spells one
unfoldable pub line_at : List ℕ → Option Line
line_at t = if is_skipped t then Some lines.Skip else said_at t
