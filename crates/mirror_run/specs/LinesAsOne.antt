-- Lines of a script's run as those of one cache that takes all that is put.
use Rattle.std.specs.Prelude.{◌≡◌, ◌⊎◌, ℕ, Bool, true, false, List, [], ◌∷◌, Option, Some, None}
use Rattle.build_server.specs.Books.{is_listed}
use Rattle.mirror_script.specs.declared.line.Site.TheVariants as site
use Rattle.mirror_script.specs.declared.line.Step.{Step}
use Rattle.mirror_script.specs.declared.line.Step.TheVariants as step
use Rattle.mirror_script.specs.declared.said.Said.{Said}
use Rattle.mirror_script.specs.declared.said.Said.TheVariants as said
use Rattle.mirror_script.specs.declared.script.Script.{Script}
use Rattle.toolchain_cache.specs.Archives.{Archives, id_of}
use Rattle.mirror.specs.OneCache.{Deed, Capacities, one_next, HasRoom}

-- what a step does; nothing where an ask is lost, or a reply made up
abbrev pub deed_of : Step → Option Deed
deed_of (step.Put site.Near bytes) = Some (Deed.put_near bytes)
deed_of (step.Put site.Far bytes) = Some (Deed.put_far bytes)
deed_of (step.Get id) = Some (Deed.get id)
deed_of step.Lose = None
deed_of (step.Lie body) = None

-- no ask is lost, no reply is made up, and the steps do this
abbrev pub AreDeeds : List Step → List Deed → Type 0
AreDeeds [] [] = Unit {0}
AreDeeds (x ∷ xs) (d ∷ ds) = (deed_of x ≡ Some d) × AreDeeds xs ds
AreDeeds [] (d ∷ ds) = ⊥
AreDeeds (x ∷ xs) [] = ⊥

-- The line of a get, by whether the one cache lists the id: bytes that have the id as SHA-256; or that there are none.
abbrev pub IsOneLine : List ℕ → Bool → Said → Type 0
IsOneLine id true l = (bytes : List ℕ) × (id_of bytes ≡ id)
    × ((l ≡ said.Near bytes) ⊎ ((l ≡ said.Fetched bytes) ⊎ (l ≡ said.Unlisted bytes)))
IsOneLine id false l = l ≡ said.NotAnywhere

-- the line of what is done, over the one cache
abbrev pub AsOneLine : Archives → Deed → Said → Type 0
AsOneLine one (Deed.put_near bytes) l = Unit {0}
AsOneLine one (Deed.put_far bytes) l = Unit {0}
AsOneLine one (Deed.get id) l = IsOneLine id (is_listed id one) l

-- each line is that of what is done, over the one cache as what was done before left it
abbrev pub AllAsOne : Capacities → Archives → List Deed → List Said → Type 0
AllAsOne c one [] ls = Unit {0}
AllAsOne c one (d ∷ ds) (l ∷ ls) = AsOneLine one d l × AllAsOne c (one_next c one d) ds ls
AllAsOne c one (d ∷ ds) [] = ⊥

-- Where no ask is lost and no reply made up, and there is room for all near, far, and in one cache that takes all
-- that is put, each get has the line of that cache.
abbrev pub AreAsOne : Script → List Said → Type 0
AreAsOne s ls = (c : Capacities) (deeds : List Deed) → c.near ≡ s.near → c.far ≡ s.far → AreDeeds s.steps deeds
    → HasRoom c deeds → AllAsOne c [] deeds ls
