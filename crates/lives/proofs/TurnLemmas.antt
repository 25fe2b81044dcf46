-- Lives that follow one another, one more at a time.
use Rattle.std.proofs.Common.{◌≡◌, ℕ, ◌+◌, List, [], ◌∷◌, ◌++◌, length, map, refl, sym, ap, ◌∙◌, arith, append_assoc}
use Rattle.std.proofs.Common.{append-nil}
use Rattle.std.specs.List.{AllByRecursion}
use Rattle.farm_script.specs.declared.setup.SetupScheduler.{SetupScheduler}
use Rattle.farm_entries.specs.declared.site.Site.{Site}
use Rattle.farm_entries.specs.declared.entry.Entry.{Entry}
use Rattle.lives.specs.Lives.{Lived, AreInTurn, site_for}
use Rattle.lives.specs.Text.{life_text, lives_text}
use Rattle.lives.proofs.GivenLemmas.{HasIds}

-- a farm and its entries
pub record Ended : Type 0 where
  pub site : Site
  pub entries : List Entry

-- the farm and its entries behind those lives
abbrev pub end_of : Site → List Entry → List Lived → Ended
end_of site log [] = record { site = site; entries = log }
end_of site log (l ∷ ls) = end_of l.site l.entries ls

pub end_push : (site : Site) (log : List Entry) (ls : List Lived) (m : Lived)
    → end_of site log (ls ++ m ∷ []) ≡ record { site = m.site; entries = m.entries }
end_push site log [] m = refl
end_push site log (l ∷ ls) m = end_push l.site l.entries ls m

pub turn_push : (site : Site) (log : List Entry) (ls : List Lived) (m : Lived) → AreInTurn site log ls
    → m.site ≡ site_for m.life (end_of site log ls).site (end_of site log ls).entries
    → AreInTurn site log (ls ++ m ∷ [])
turn_push site log [] m turn is = (is, tt)
turn_push site log (l ∷ ls) m turn is = (turn.0, turn_push l.site l.entries ls m turn.1 is)

pub text_push : (n : ℕ) (ls : List Lived) (m : Lived)
    → lives_text n (ls ++ m ∷ []) ≡ lives_text n ls ++ life_text (n + length ls) m
text_push n [] m =
    let same : n ≡ n + 0 = omega arith in
    append-nil (life_text n m) ∙ ap (λ (k : ℕ). life_text k m) same
text_push n (l ∷ ls) m =
    let same : n + 1 + length ls ≡ n + length (l ∷ ls) = omega arith in
    ap (λ (t : List ℕ). life_text n l ++ t) (text_push (n + 1) ls m)
    ∙ sym (append_assoc (life_text n l) (lives_text (n + 1) ls) (life_text (n + 1 + length ls) m))
    ∙ ap (λ (k : ℕ). (life_text n l ++ lives_text (n + 1) ls) ++ life_text k m) same

-- each of them has its ids
pub all_ids : (site : Site) (log : List Entry) (ls : List Lived) → AreInTurn site log ls → AllByRecursion HasIds ls
all_ids site log [] turn = tt
all_ids site log (l ∷ ls) turn = (
  record {
    base = ap (λ (s : Site). s.scheduler.base) turn.0;
    given = ap (λ (s : Site). s.scheduler.count) turn.0;
  },
  all_ids l.site l.entries ls turn.1,
)
