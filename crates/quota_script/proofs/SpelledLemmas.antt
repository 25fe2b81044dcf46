-- A script is read as what its lines spell.
use Rattle.std.proofs.Common.{◌≡◌, ◌↔◌, ◌⊎◌, ℕ, List, [], ◌∷◌, Option, Some, None, Result, Ok, refl, sym, ap}
use Rattle.std.proofs.Common.{subst, ◌∙◌}
use Rattle.std.specs.Prelude.{option_to_list, IfErr}
use Rattle.std.specs.List.{filter_map}
use Rattle.line_program.specs.Lines.{IsScriptFault, IsScriptAnswer}
use Rattle.line_program.specs.Pieces.{pieces}
use Rattle.line_program.specs.declared.fault.FarmFault.{FarmFault}
use Rattle.line_program.specs.declared.fault.FarmFault.TheVariants as fault
use Rattle.line_program.proofs.FirstFaultyLemmas as scripts
use Rattle.line_program.proofs.FirstFaultyLemmas.{SaysRest}
use Rattle.farm_script.specs.declared.lines.Scopes.TheVariants.{Refused}
use Rattle.quota_script.specs.Grammar.{Spells}
use Rattle.quota_script.specs.Place.{Client, base_in, client_in, event_in, AreNamedOnce}
use Rattle.quota_script.specs.Script.{Read, Said, line_reader, finished, finished_with, nothing_read, script}
use Rattle.quota_script.specs.FirstFaulty.{of_scripts, IsFirstFaulty, IsFaultless}
use Rattle.quota_script.specs.Spelled.{SpellsScript}
use Rattle.quota_script.specs.declared.event.Event.{Event}
use Rattle.quota_script.specs.declared.line.Line.{Line}
use Rattle.quota_script.proofs.LineLemmas.{one_value}
use Rattle.quota_script.proofs.FirstFaultyLemmas.{Matches, matches_nothing, follows}

all_read : (bytes : List ℕ) (x : Said) → script bytes ≡ Ok x → SaysRest of_scripts finished Matches [] (pieces bytes) x
all_read = scripts.says_all of_scripts line_reader finished Matches follows nothing_read matches_nothing

-- what a reader had at the end of a script
record IsFinished (r : Read) (x : Said) : Type 0 where
  pub base : r.base ≡ Some x.base
  pub clients : r.clients ≡ x.clients
  pub events : r.events ≡ x.events

finished_parts : (number : ℕ) (r : Read) (o : Option ℕ) (x : Said) → r.base ≡ o
    → finished_with number r o ≡ Ok x → IsFinished r x
finished_parts number r None x is e = absurd cc
finished_parts number r (Some b) x is e =
    let made : Said = record { base = b; clients = r.clients; events = r.events } in
    let same : made ≡ x = cc in
    subst (IsFinished r) same (record { base = is; clients = refl; events = refl })

pub script_says : (bytes : List ℕ) (x : Said) → script bytes ≡ Ok x → SpellsScript bytes x
script_says bytes x e =
    let rest = all_read bytes x e in
    let parts = finished_parts rest.number rest.end rest.end.base x refl rest.finished in
    record {
      lines = rest.rest;
      each = rest.each;
      base_is = rest.keeps.base ∙ ap (λ (o : Option ℕ). option_to_list o) parts.base;
      clients_are = rest.keeps.clients ∙ parts.clients;
      events_are = rest.keeps.events ∙ parts.events;
    }

-- no client is read twice
pub script_names_once : (bytes : List ℕ) (x : Said) → script bytes ≡ Ok x → AreNamedOnce x.clients
script_names_once bytes x e =
    let rest = all_read bytes x e in
    let parts = finished_parts rest.number rest.end rest.end.base x refl rest.finished in
    subst AreNamedOnce parts.clients rest.keeps.once

head_is : (a b : ℕ) (xs : List ℕ) → xs ≡ a ∷ [] → xs ≡ b ∷ [] → a ≡ b
head_is a b xs p q = cc

abbrev made : ℕ → List Client → List Event → Said
made base clients events = record { base = base; clients = clients; events = events }

one_script_of : (s t : Said) → s.base ≡ t.base → s.clients ≡ t.clients → s.events ≡ t.events → s ≡ t
one_script_of s t e f g = ap (λ (x : ℕ). made x s.clients s.events) e
    ∙ ap (λ (xs : List Client). made t.base xs s.events) f ∙ ap (λ (xs : List Event). made t.base t.clients xs) g

one_script : (bytes : List ℕ) (s t : Said) → SpellsScript bytes s → SpellsScript bytes t → s ≡ t
one_script bytes s t p q =
    let same = scripts.one_each (Spells Refused) (one_value Refused) (pieces bytes) p.lines q.lines p.each q.each in
    let bases : filter_map base_in p.lines ≡ t.base ∷ [] =
    ap (λ (ls : List Line). filter_map base_in ls) same ∙ q.base_is in
    one_script_of s t (head_is s.base t.base (filter_map base_in p.lines) p.base_is bases)
    (sym p.clients_are ∙ ap (λ (ls : List Line). filter_map client_in ls) same ∙ q.clients_are)
    (sym p.events_are ∙ ap (λ (ls : List Line). filter_map event_in ls) same ∙ q.events_are)

-- a script is read exactly where no line is faulty, as what its lines spell
pub script_is_said : (bytes : List ℕ) (s : Said)
    → (script bytes ≡ Ok s) ↔ (IsFaultless bytes × SpellsScript bytes s)
script_is_said = scripts.is_said of_scripts line_reader finished Matches follows nothing_read matches_nothing
    SpellsScript script_says one_script

-- ---- what the reader answers

pub told_faulty : (f : FarmFault) (bytes : List ℕ) → IsScriptFault f (script bytes)
    → (f ≡ fault.Memory) ⊎ IsFirstFaulty bytes f
told_faulty = scripts.told_faulty of_scripts line_reader finished Matches follows nothing_read matches_nothing

pub read_faulty : {X : Type 0} (view : X → Said) (r : Result X FarmFault) (bytes : List ℕ)
    → IsScriptAnswer view r (script bytes) → IfErr r (λ f. (f ≡ fault.Memory) ⊎ IsFirstFaulty bytes f)
read_faulty = scripts.read_faulty of_scripts line_reader finished Matches follows nothing_read matches_nothing
