-- The text of lives.
use Rattle.std.specs.Prelude.{◌≡◌, ℕ, ◌+◌, List, [], ◌∷◌, ◌++◌, map, codes}
use Rattle.std.specs.Fmt.{decimal}
use Rattle.std.specs.List.{AllByRecursion}
use Rattle.farm_entries.specs.Printed.{run_text}
use Rattle.line_program.specs.Texts.{◌⧺◌}
use Rattle.lives_script.specs.declared.script.Life.{Life}
use Rattle.lives_script.specs.declared.script.Script.{Script}
use Rattle.lives.specs.Lives.{Lived, AreLives, AreBuiltOnceIn, GivesIds}

-- life K from FROM ids N
abbrev pub life_line : ℕ → Life → List ℕ
life_line number life = codes "life " ⧺ decimal number ⧺ codes " from " ⧺ decimal life.from ⧺ codes " ids "
    ⧺ decimal life.count ⧺ codes "\n"

-- the line of a life, and the text of its run
abbrev pub life_text : ℕ → Lived → List ℕ
life_text number l = life_line number l.life ++ run_text l.site l.entries

-- the texts of lives, which are numbered from this one on
abbrev pub lives_text : ℕ → List Lived → List ℕ
lives_text number [] = []
lives_text number (l ∷ ls) = life_text number l ++ lives_text (number + 1) ls

-- The text is that of a script's lives: each is a run, and begins with what the one before it left. Over all of them no
-- id is built twice. Each gives the ids of its range in their order, and says that they are spent behind the last of them
-- alone.
pub record IsScriptRun (s : Script) (text : List ℕ) : Type 0 where
  pub lived : List Lived
  pub are : AreLives s lived
  pub once : AreBuiltOnceIn (map (λ l. l.entries) lived)
  pub given : AllByRecursion GivesIds lived
  pub is : text ≡ lives_text 0 lived
