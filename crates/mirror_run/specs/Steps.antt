-- The rules of a script: what each step gives, and what it leaves, over what the steps before it left.
use Rattle.std.specs.Prelude.{◌≡◌, ℕ, ◌≤◌, true, false, nat_lt, if◌then◌else◌, List, [], ◌∷◌, ◌++◌, length, Ok, Err}
use Rattle.std.specs.List.{flat_map, AllByRecursion}
use Rattle.toolchain_cache.specs.Archives.{id_of}
use Rattle.mirror_script.specs.Said.{said_text}
use Rattle.mirror_script.specs.declared.line.Site.TheVariants as site
use Rattle.mirror_script.specs.declared.line.Step.{Step}
use Rattle.mirror_script.specs.declared.line.Step.TheVariants as step
use Rattle.mirror_script.specs.declared.said.Said.{Said}
use Rattle.mirror_script.specs.declared.said.Said.TheVariants as said
use Rattle.mirror.specs.Getting.{Answer}
use Rattle.mirror.specs.Sides.{Sides, put_bytes, after_get, Gives}
use Rattle.mirror.specs.declared.error.MirrorError.TheVariants as mirror
use Rattle.mirror.specs.declared.far.Wait.TheVariants as wait
use Rattle.mirror.specs.declared.got.Got.TheVariants.{Near, Fetched}

-- how many bytes the two caches take
pub record Rooms : Type 0 where
  pub near : ℕ
  pub far : ℕ

-- the line of a put
abbrev pub put_said : ℕ → List ℕ → Said
put_said room bytes = if nat_lt room (length bytes) then said.TooLarge else said.Put (id_of bytes)

-- the line of an answer
abbrev pub IsSaid : Answer → Said → Type 0
IsSaid (Ok (Near v)) l = l ≡ said.Near v.items
IsSaid (Ok (Fetched v true)) l = l ≡ said.Fetched v.items
IsSaid (Ok (Fetched v false)) l = l ≡ said.Unlisted v.items
IsSaid (Err mirror.NotAnywhere) l = l ≡ said.NotAnywhere
IsSaid (Err mirror.FetchFault) l = l ≡ said.FetchFault
IsSaid (Err (mirror.BadReply code)) l = l ≡ said.BadReply code
IsSaid (Err mirror.WrongDigest) l = l ≡ said.WrongDigest
IsSaid (Err (mirror.Near e)) l = ⊥
IsSaid (Err mirror.Memory) l = ⊥

-- the line of a step
abbrev pub Says : Rooms → Sides → Step → Said → Type 0
Says rooms s (step.Put site.Near bytes) l = l ≡ put_said rooms.near bytes
Says rooms s (step.Put site.Far bytes) l = l ≡ put_said rooms.far bytes
Says rooms s (step.Get id) l = (answer : Answer) × Gives rooms.near id s answer × IsSaid answer l
Says rooms s step.Lose l = l ≡ said.Lose
Says rooms s (step.Lie body) l = l ≡ said.Lie

-- what a step leaves
abbrev pub after : Rooms → Step → Sides → Sides
after rooms (step.Put site.Near bytes) s =
    record { near = put_bytes rooms.near bytes s.near; far = s.far; waiting = s.waiting }
after rooms (step.Put site.Far bytes) s =
    record { near = s.near; far = put_bytes rooms.far bytes s.far; waiting = s.waiting }
after rooms (step.Get id) s = after_get rooms.near id s
after rooms step.Lose s = record { near = s.near; far = s.far; waiting = s.waiting ++ wait.Lose ∷ [] }
after rooms (step.Lie body) s =
    record { near = s.near; far = s.far; waiting = s.waiting ++ wait.Lie body ∷ [] }

-- what steps leave, one after the other
abbrev pub after_all : Rooms → List Step → Sides → Sides
after_all rooms [] s = s
after_all rooms (x ∷ xs) s = after_all rooms xs (after rooms x s)

-- each step has its line, over the steps before it
abbrev pub Lines : Rooms → Sides → List Step → List Said → Type 0
Lines rooms s [] [] = Unit {0}
Lines rooms s (x ∷ xs) (l ∷ ls) = Says rooms s x l × Lines rooms (after rooms x s) xs ls
Lines rooms s [] (l ∷ ls) = ⊥
Lines rooms s (x ∷ xs) [] = ⊥

-- at first neither cache lists anything, and nothing waits
abbrev pub empty : Sides
empty = record { near = []; far = []; waiting = [] }

-- the text of lines, each with its end
abbrev pub lines_text : List Said → List ℕ
lines_text ls = flat_map said_text ls
