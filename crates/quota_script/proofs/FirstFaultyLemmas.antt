-- What reading a script answers is its first faulty line, with its cause.
use Rattle.std.proofs.Common.{◌≡◌, ℕ, ◌↔◌, true, false, not, ◌||◌, List, [], ◌∷◌, ◌++◌, Option, Some, None, Err}
use Rattle.std.proofs.Common.{refl, sym, ap, ◌∙◌}
use Rattle.std.specs.Prelude.{option_to_list}
use Rattle.std.specs.List.{filter_map}
use Rattle.std.proofs.lemmas.Bool.{or_parts}
use Rattle.line_program.specs.declared.fault.FarmFault.{FarmFault}
use Rattle.line_program.specs.declared.fault.FarmFault.TheVariants.{BadLine}
use Rattle.line_program.proofs.FirstFaultyLemmas as scripts
use Rattle.line_program.proofs.FirstFaultyLemmas.{Follows, err_is, push_none, push_some}
use Rattle.farm_script.specs.Place.{is_nil}
use Rattle.farm_script.specs.declared.lines.Scopes.TheVariants.{Refused, Taken}
use Rattle.farm_script.proofs.MatchLemmas.{pushed_first}
use Rattle.quota_script.specs.Place.{Client, base_in, client_in, event_in, is_listed, AreNamedOnce}
use Rattle.quota_script.specs.Place.{Before, before_of, misplaced}
use Rattle.quota_script.specs.Script.{Read, before, with_line, line_reader, finished, finished_with, script, nothing_read}
use Rattle.quota_script.specs.FirstFaulty.{of_scripts, IsFirstFaulty}
use Rattle.quota_script.specs.declared.event.Event.{Event}
use Rattle.quota_script.specs.declared.line.Line.{Line}
use Rattle.quota_script.specs.declared.line.Line.TheVariants as lines
use Rattle.quota_script.proofs.ClientLemmas.{once_more}
use Rattle.quota_script.proofs.LineLemmas.{line_sound, line_complete, spells_taken}

-- ---- what was read so far is what the lines so far say, and lists no client twice

pub record Matches (r : Read) (said : List Line) : Type 0 where
  pub base : filter_map base_in said ≡ option_to_list r.base
  pub clients : filter_map client_in said ≡ r.clients
  pub events : filter_map event_in said ≡ r.events
  pub once : AreNamedOnce r.clients

-- the name in a line of a client that is in its place
unlisted : (b : Before) (name : List ℕ) (limit : ℕ) → misplaced b (lines.Client name limit) ≡ false
    → is_listed name b.names ≡ false
unlisted b name limit place =
    (or_parts (is_nil b.base || not (is_nil b.events)) (is_listed name b.names) place).1

before_is : (r : Read) (said : List Line) → Matches r said → before_of said ≡ before r
before_is r said m = rw (m.base, m.clients, m.events) refl

matches_next : (r : Read) (said : List Line) (l : Line) → Matches r said → misplaced (before r) l ≡ false
    → Matches (with_line r l) (said ++ l ∷ [])
matches_next r said lines.Skip m place = record {
  base = push_none base_in said lines.Skip refl ∙ m.base;
  clients = push_none client_in said lines.Skip refl ∙ m.clients;
  events = push_none event_in said lines.Skip refl ∙ m.events;
  once = m.once;
}
matches_next r said (lines.Ids n) m place = record {
  base = push_some base_in said (lines.Ids n) n refl ∙ ap (λ (xs : List ℕ). xs ++ n ∷ []) m.base
      ∙ pushed_first (option_to_list r.base) n place;
  clients = push_none client_in said (lines.Ids n) refl ∙ m.clients;
  events = push_none event_in said (lines.Ids n) refl ∙ m.events;
  once = m.once;
}
matches_next r said (lines.Client name limit) m place = record {
  base = push_none base_in said (lines.Client name limit) refl ∙ m.base;
  clients = push_some client_in said (lines.Client name limit) (name, limit) refl
      ∙ ap (λ (xs : List Client). xs ++ (name, limit) ∷ []) m.clients;
  events = push_none event_in said (lines.Client name limit) refl ∙ m.events;
  once = once_more name limit r.clients (unlisted (before r) name limit place) m.once;
}
matches_next r said (lines.Event e) m place = record {
  base = push_none base_in said (lines.Event e) refl ∙ m.base;
  clients = push_none client_in said (lines.Event e) refl ∙ m.clients;
  events = push_some event_in said (lines.Event e) e refl ∙ ap (λ (xs : List Event). xs ++ e ∷ []) m.events;
  once = m.once;
}

pub matches_nothing : Matches nothing_read []
matches_nothing = record { base = refl; clients = refl; events = refl; once = tt }

-- ---- what it judges

ended : (r : Read) (said : List Line) (number : ℕ) (f : FarmFault) (o : Option ℕ)
    → filter_map base_in said ≡ option_to_list o → finished_with number r o ≡ Err f
    → (filter_map base_in said ≡ []) × (f ≡ BadLine number)
ended r said number f (Some n) is e = absurd cc
ended r said number f None is e = (is, sym (err_is (BadLine number) f e))

lacks : (r : Read) (said : List Line) (number : ℕ) (o : Option ℕ) → filter_map base_in said ≡ option_to_list o
    → filter_map base_in said ≡ [] → finished_with number r o ≡ Err (BadLine number)
lacks r said number (Some n) is none = let clash : [] ≡ n ∷ [] = sym none ∙ is in absurd cc
lacks r said number None is none = refl

-- what was read so far judges each line as the grammar does
pub follows : Follows of_scripts line_reader finished Matches
follows = record {
  sound = line_sound Refused;
  complete = line_complete Refused;
  scoped_sound = line_sound Taken;
  scoped_complete = line_complete Taken;
  loosens = λ t l says. spells_taken Refused t l says;
  place = λ r said l m. ap (λ (b : Before). misplaced b l) (before_is r said m);
  again = λ r said t l m says e. absurd cc;
  first = λ r said t l m says e d. d;
  meets = λ r said t l m says e. absurd cc;
  apart = λ r said t l m says e o. o;
  not_both = λ said l d o. o;
  next = λ r said t l m says place first apart. matches_next r said l m place;
  ended = λ r said number f m e. ended r said number f r.base m.base e;
  lacks = λ r said number m none. lacks r said number r.base m.base none;
}

pub first_faulty : (bytes : List ℕ) (f : FarmFault) → (script bytes ≡ Err f) ↔ IsFirstFaulty bytes f
first_faulty = scripts.first_faulty of_scripts line_reader finished Matches follows nothing_read matches_nothing
