-- A script is read as what its lines spell.
use Rattle.std.proofs.Common.{◌≡◌, ◌↔◌, ◌⊎◌, ℕ, ◌≤◌, List, [], ◌∷◌, ◌++◌, length, map, Option, Some, None}
use Rattle.std.proofs.Common.{Result, Ok, refl, sym, ap, subst, ◌∙◌}
use Rattle.std.specs.Prelude.{option_to_list, IfErr}
use Rattle.std.specs.List.{filter_map, AllByRecursion}
use Rattle.dist_types.specs.declared.rules.Rules.{Rules}
use Rattle.line_program.specs.Lines.{IsScriptFault, IsScriptAnswer}
use Rattle.line_program.specs.Pieces.{pieces}
use Rattle.line_program.specs.declared.fault.FarmFault.{FarmFault}
use Rattle.line_program.specs.declared.fault.FarmFault.TheVariants as fault
use Rattle.line_program.proofs.FirstFaultyLemmas as scripts
use Rattle.line_program.proofs.FirstFaultyLemmas.{SaysRest}
use Rattle.farm_script.specs.declared.setup.Setup.{Setup}
use Rattle.farm_script.specs.declared.setup.SetupScheduler.{SetupScheduler}
use Rattle.farm_script.specs.declared.setup.SetupServer.{SetupServer}
use Rattle.farm_script.specs.declared.event.Event.{Event}
use Rattle.farm_script.specs.declared.lines.Scopes.TheVariants.{Refused}
use Rattle.farm_script.specs.declared.lines.Line.{Line}
use Rattle.farm_script.specs.Grammar.{HasKeyLength, IsLine}
use Rattle.farm_script.specs.Place.{rules_in, scheduler_in, server_in, event_in}
use Rattle.farm_script.specs.Setups.{AreApart, IsSetup}
use Rattle.farm_script.specs.Script.{Read, line_reader, finished, finished_with, script, nothing_read}
use Rattle.farm_script.specs.FirstFaulty.{of_scripts, IsFirstFaulty, IsFaultless}
use Rattle.farm_script.specs.Spelled.{with_answers, SpellsScript}
use Rattle.farm_script.proofs.LineLemmas.{one_value}
use Rattle.farm_script.proofs.MatchLemmas.{Matches, matches_nothing}
use Rattle.farm_script.proofs.FirstFaultyLemmas.{follows}

abbrev setup_with : Rules → SetupScheduler → List SetupServer → Setup
setup_with rules scheduler servers = record { rules = rules; scheduler = scheduler; servers = servers }

all_read : (bytes : List ℕ) (x : Setup × List Event) → script bytes ≡ Ok x → SaysRest of_scripts finished Matches [] (pieces bytes) x
all_read = scripts.says_all of_scripts line_reader finished Matches follows nothing_read matches_nothing

-- what a reader had at the end of a script
pub record IsFinished (r : Read) (x : Setup × List Event) : Type 0 where
  pub rules : r.rules ≡ x.0.rules
  pub scheduler : r.scheduler ≡ Some x.0.scheduler
  pub servers : r.servers ≡ x.0.servers
  pub events : r.events ≡ x.1

finished_parts : (number : ℕ) (r : Read) (o : Option SetupScheduler) (x : Setup × List Event)
    → r.scheduler ≡ o → finished_with number r o ≡ Ok x → IsFinished r x
finished_parts number r None x is e = absurd cc
finished_parts number r (Some s) x is e =
    let made : Setup × List Event = (setup_with r.rules s r.servers, r.events) in
    let same : made ≡ x = cc in
    subst (IsFinished r) same (record { rules = refl; scheduler = is; servers = refl; events = refl })

pub script_says : (bytes : List ℕ) (x : Setup × List Event) → script bytes ≡ Ok x → SpellsScript bytes x.0 x.1
script_says bytes x e =
    let rest = all_read bytes x e in
    let parts = finished_parts rest.number rest.end rest.end.scheduler x refl rest.finished in
    record {
      lines = rest.rest;
      each = rest.each;
      rules_are = rest.keeps.rules ∙ parts.rules;
      scheduler_is = rest.keeps.scheduler
          ∙ ap (λ (o : Option SetupScheduler). option_to_list o) parts.scheduler;
      servers_are = rest.keeps.servers ∙ parts.servers;
      events_are = rest.keeps.events ∙ parts.events;
    }

-- what each setup has that is read
pub script_setup : (bytes : List ℕ) (x : Setup × List Event) → script bytes ≡ Ok x → IsSetup x.0
script_setup bytes x e =
    let rest = all_read bytes x e in
    let parts = finished_parts rest.number rest.end rest.end.scheduler x refl rest.finished in
    let m = rest.keeps in
    let tokens = m.tokens x.0.scheduler parts.scheduler in
    let apart = subst (λ (o : Option SetupScheduler). AreApart
    (map (λ s. s.addr) (option_to_list o) ++ map (λ s. s.addr) rest.end.servers)) parts.scheduler m.apart
    in
    record {
      apart = subst (λ (ss : List SetupServer). AreApart (x.0.scheduler.addr ∷ map (λ s. s.addr) ss))
          parts.servers apart;
      few = subst (λ (ss : List SetupServer). length ss ≤ 1000) parts.servers m.few;
      client = tokens.client;
      auth = tokens.auth;
      keys = subst (λ (ss : List SetupServer). AllByRecursion (λ s. HasKeyLength s.key) ss) parts.servers
          m.keys;
    }

head_is : (a b : SetupScheduler) (xs : List SetupScheduler) → xs ≡ a ∷ [] → xs ≡ b ∷ [] → a ≡ b
head_is a b xs p q = cc

one_setup : (s t : Setup) → s.rules ≡ t.rules → s.scheduler ≡ t.scheduler → s.servers ≡ t.servers → s ≡ t
one_setup s t d e f = ap (λ (v : Rules). setup_with v s.scheduler s.servers) d
    ∙ ap (λ (x : SetupScheduler). setup_with t.rules x s.servers) e
    ∙ ap (λ (xs : List SetupServer). setup_with t.rules t.scheduler xs) f

pub one_script : (bytes : List ℕ) (s t : Setup) (es fs : List Event) → SpellsScript bytes s es
    → SpellsScript bytes t fs
    → (s ≡ t) × (es ≡ fs)
one_script bytes s t es fs p q =
    let same = scripts.one_each IsLine (one_value Refused) (pieces bytes) p.lines q.lines p.each q.each in
    let schedulers : filter_map scheduler_in p.lines ≡ t.scheduler ∷ [] =
    ap (λ (ls : List Line). filter_map scheduler_in ls) same ∙ q.scheduler_is in
    let rules : s.rules ≡ t.rules = sym p.rules_are ∙ ap rules_in same ∙ q.rules_are in
    let servers : s.servers ≡ t.servers = sym p.servers_are
    ∙ ap (λ (ls : List Line). map (with_answers ls) (filter_map server_in ls)) same ∙ q.servers_are in (
      one_setup s t rules (head_is s.scheduler t.scheduler (filter_map scheduler_in p.lines) p.scheduler_is
          schedulers) servers,
      sym p.events_are ∙ ap (λ (ls : List Line). filter_map event_in ls) same ∙ q.events_are,
    )

one_read : (bytes : List ℕ) (x y : Setup × List Event) → SpellsScript bytes x.0 x.1 → SpellsScript bytes y.0 y.1 → x ≡ y
one_read bytes x y p q =
    let same = one_script bytes x.0 y.0 x.1 y.1 p q in
    ap (λ (s : Setup). (s, x.1)) same.0 ∙ ap (λ (es : List Event). (y.0, es)) same.1

-- a script is read exactly where no line is faulty, as what its lines spell
pub script_is_said : (bytes : List ℕ) (setup : Setup) (events : List Event)
    → (script bytes ≡ Ok (setup, events)) ↔ (IsFaultless bytes × SpellsScript bytes setup events)
script_is_said bytes setup events =
    scripts.is_said of_scripts line_reader finished Matches follows nothing_read matches_nothing
    (λ b x. SpellsScript b x.0 x.1) script_says one_read bytes (setup, events)

-- ---- what the reader answers

pub told_faulty : (f : FarmFault) (bytes : List ℕ) → IsScriptFault f (script bytes)
    → (f ≡ fault.Memory) ⊎ IsFirstFaulty bytes f
told_faulty = scripts.told_faulty of_scripts line_reader finished Matches follows nothing_read matches_nothing

pub read_faulty : {X : Type 0} (view : X → Setup × List Event) (r : Result X FarmFault) (bytes : List ℕ)
    → IsScriptAnswer view r (script bytes) → IfErr r (λ f. (f ≡ fault.Memory) ⊎ IsFirstFaulty bytes f)
read_faulty = scripts.read_faulty of_scripts line_reader finished Matches follows nothing_read matches_nothing
