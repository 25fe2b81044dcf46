-- A script is read as what its lines spell.
use Rattle.std.proofs.Common.{◌≡◌, ◌↔◌, ◌⊎◌, ℕ, ◌≤◌, List, [], ◌∷◌, ◌++◌, length, map, Option, Some, None}
use Rattle.std.proofs.Common.{Result, Ok, refl, sym, ap, subst, ◌∙◌, arith}
use Rattle.std.specs.Prelude.{option_to_list, IfErr}
use Rattle.std.specs.List.{filter_map, AllByRecursion}
use Rattle.std.proofs.lemmas.List.{length-append}
use Rattle.dist_types.specs.declared.rules.Rules.{Rules}
use Rattle.line_program.specs.Lines.{IsScriptFault, IsScriptAnswer}
use Rattle.line_program.specs.Pieces.{pieces}
use Rattle.line_program.specs.declared.fault.FarmFault.{FarmFault}
use Rattle.line_program.specs.declared.fault.FarmFault.TheVariants as fault
use Rattle.line_program.proofs.FirstFaultyLemmas as scripts
use Rattle.line_program.proofs.FirstFaultyLemmas.{SaysRest}
use Rattle.farm_script.specs.Grammar.{HasKeyLength}
use Rattle.farm_script.specs.Place.{rules_in, scheduler_in, server_in}
use Rattle.farm_script.specs.Setups.{AreApart, IsSetup}
use Rattle.farm_script.specs.Spelled.{with_answers}
use Rattle.farm_script.specs.declared.setup.SetupScheduler.{SetupScheduler}
use Rattle.farm_script.specs.declared.setup.SetupServer.{SetupServer}
use Rattle.farm_script.specs.declared.lines.Scopes.TheVariants.{Refused}
use Rattle.farm_script.specs.declared.lines.Line as farm_line
use Rattle.lives_script.specs.Grammar.{Spells}
use Rattle.lives_script.specs.Ids.{IsRange, AreApartIds}
use Rattle.lives_script.specs.Place.{ids_of, setup_in, lives_in}
use Rattle.lives_script.specs.Script.{Read, lives_of, line_reader, made_of, finished, finished_with, script, nothing_read}
use Rattle.lives_script.specs.FirstFaulty.{of_scripts, IsFirstFaulty, IsFaultless}
use Rattle.lives_script.specs.Spelled.{SpellsLives}
use Rattle.lives_script.specs.declared.line.Line.{Line}
use Rattle.lives_script.specs.declared.script.Life.{Life}
use Rattle.lives_script.specs.declared.script.Script.{Script}
use Rattle.lives_script.proofs.LineLemmas.{one_value}
use Rattle.lives_script.proofs.MatchLemmas.{Matches, matches_nothing}
use Rattle.lives_script.proofs.FirstFaultyLemmas.{follows}

-- what a reader had at the end of a script
record IsFinished (r : Read) (x : Script) : Type 0 where
  pub rules : r.setup.rules ≡ x.setup.rules
  pub scheduler : r.setup.scheduler ≡ Some x.setup.scheduler
  pub servers : r.setup.servers ≡ x.setup.servers
  pub lives : lives_of r ≡ x.lives
  pub some : 1 ≤ length x.lives

finished_parts : (number : ℕ) (r : Read) (s : Option SetupScheduler) (o : Option Life) (x : Script)
    → r.setup.scheduler ≡ s → r.last ≡ o → finished_with number r s o ≡ Ok x → IsFinished r x
finished_parts number r s None x is last e = absurd cc
finished_parts number r None (Some l) x is last e = absurd cc
finished_parts number r (Some s) (Some l) x is last e =
    let same : made_of r s l ≡ x = cc in
    subst (IsFinished r) same
    (record {
      rules = refl;
      scheduler = is;
      servers = refl;
      lives = ap (λ (o : Option Life). r.over ++ option_to_list o) last;
      some = omega (arith, length-append r.over (l ∷ []));
    })

-- what was read at the end
record IsRead (bytes : List ℕ) (x : Script) : Type 0 where
  pub rest : SaysRest of_scripts finished Matches [] (pieces bytes) x
  pub parts : IsFinished rest.end x

all_read : (bytes : List ℕ) (x : Script) → script bytes ≡ Ok x → IsRead bytes x
all_read bytes x e =
    let rest = scripts.says_all of_scripts line_reader finished Matches follows nothing_read matches_nothing bytes x e in
    record {
      rest = rest;
      parts = finished_parts rest.number rest.end rest.end.setup.scheduler rest.end.last x refl refl rest.finished;
    }

pub script_says : (bytes : List ℕ) (x : Script) → script bytes ≡ Ok x → SpellsLives bytes x
script_says bytes x e =
    let read = all_read bytes x e in
    let m = read.rest.keeps in
    record {
      lines = read.rest.rest;
      each = read.rest.each;
      rules_are = m.setup.rules ∙ read.parts.rules;
      scheduler_is = m.setup.scheduler ∙ ap (λ (o : Option SetupScheduler). option_to_list o) read.parts.scheduler;
      servers_are = m.setup.servers ∙ read.parts.servers;
      lives_are = m.lives ∙ read.parts.lives;
    }

-- what each setup has that is read
script_setup : (bytes : List ℕ) (x : Script) → script bytes ≡ Ok x → IsSetup x.setup
script_setup bytes x e =
    let read = all_read bytes x e in
    let m = read.rest.keeps.setup in
    let parts = read.parts in
    let tokens = m.tokens x.setup.scheduler parts.scheduler in
    let apart = subst (λ (o : Option SetupScheduler). AreApart
    (map (λ s. s.addr) (option_to_list o) ++ map (λ s. s.addr) read.rest.end.setup.servers)) parts.scheduler m.apart
    in
    record {
      apart = subst (λ (ss : List SetupServer). AreApart (x.setup.scheduler.addr ∷ map (λ s. s.addr) ss))
          parts.servers apart;
      few = subst (λ (ss : List SetupServer). length ss ≤ 1000) parts.servers m.few;
      client = tokens.client;
      auth = tokens.auth;
      keys = subst (λ (ss : List SetupServer). AllByRecursion (λ s. HasKeyLength s.key) ss) parts.servers
          m.keys;
    }

-- what all lives have that are read
pub record AreLives (x : Script) : Type 0 where
  pub setup : IsSetup x.setup
  pub fresh : (x.setup.scheduler.base ≡ 0) × (x.setup.scheduler.count ≡ 0)
  pub some : 1 ≤ length x.lives
  pub apart : AreApartIds (map ids_of x.lives)
  pub counts : AllByRecursion (λ life. IsRange (ids_of life)) x.lives

each_range : (ls : List Life) → AllByRecursion IsRange (map ids_of ls)
    → AllByRecursion (λ life. IsRange (ids_of life)) ls
each_range [] all = tt
each_range (l ∷ ls) all = (all.0, each_range ls all.1)

pub script_lives : (bytes : List ℕ) (x : Script) → script bytes ≡ Ok x → AreLives x
script_lives bytes x e =
    let read = all_read bytes x e in
    let m = read.rest.keeps in
    record {
      setup = script_setup bytes x e;
      fresh = m.fresh x.setup.scheduler read.parts.scheduler;
      some = read.parts.some;
      apart = subst (λ (ls : List Life). AreApartIds (map ids_of ls)) read.parts.lives m.apart;
      counts = each_range x.lives
          (subst (λ (ls : List Life). AllByRecursion IsRange (map ids_of ls)) read.parts.lives m.ranges);
    }

head_is : (a b : SetupScheduler) (xs : List SetupScheduler) → xs ≡ a ∷ [] → xs ≡ b ∷ [] → a ≡ b
head_is a b xs p q = cc

abbrev script_with : Rules → SetupScheduler → List SetupServer → List Life → Script
script_with rules scheduler servers lives = record {
  setup = record { rules = rules; scheduler = scheduler; servers = servers };
  lives = lives;
}

one_script_of : (s t : Script) → s.setup.rules ≡ t.setup.rules → s.setup.scheduler ≡ t.setup.scheduler
    → s.setup.servers ≡ t.setup.servers → s.lives ≡ t.lives → s ≡ t
one_script_of s t d e f g =
    ap (λ (v : Rules). script_with v s.setup.scheduler s.setup.servers s.lives) d
    ∙ ap (λ (x : SetupScheduler). script_with t.setup.rules x s.setup.servers s.lives) e
    ∙ ap (λ (xs : List SetupServer). script_with t.setup.rules t.setup.scheduler xs s.lives) f
    ∙ ap (λ (xs : List Life). script_with t.setup.rules t.setup.scheduler t.setup.servers xs) g

one_script : (bytes : List ℕ) (s t : Script) → SpellsLives bytes s → SpellsLives bytes t → s ≡ t
one_script bytes s t p q =
    let same = scripts.one_each (Spells Refused) (one_value Refused) (pieces bytes) p.lines q.lines p.each q.each in
    let setups : filter_map setup_in p.lines ≡ filter_map setup_in q.lines =
    ap (λ (ls : List Line). filter_map setup_in ls) same in
    let schedulers : filter_map scheduler_in (filter_map setup_in p.lines) ≡ t.setup.scheduler ∷ [] =
    ap (λ (ls : List farm_line.Line). filter_map scheduler_in ls) setups ∙ q.scheduler_is in
    one_script_of s t (sym p.rules_are ∙ ap rules_in setups ∙ q.rules_are)
    (head_is s.setup.scheduler t.setup.scheduler (filter_map scheduler_in (filter_map setup_in p.lines))
    p.scheduler_is schedulers)
    (sym p.servers_are
    ∙ ap (λ (ls : List farm_line.Line). map (with_answers ls) (filter_map server_in ls)) setups ∙ q.servers_are)
    (sym p.lives_are ∙ ap lives_in same ∙ q.lives_are)

-- a script is read exactly where no line is faulty, as what its lines spell
pub script_is_said : (bytes : List ℕ) (s : Script)
    → (script bytes ≡ Ok s) ↔ (IsFaultless bytes × SpellsLives bytes s)
script_is_said = scripts.is_said of_scripts line_reader finished Matches follows nothing_read matches_nothing
    SpellsLives script_says one_script

-- ---- what the reader answers

pub told_faulty : (f : FarmFault) (bytes : List ℕ) → IsScriptFault f (script bytes)
    → (f ≡ fault.Memory) ⊎ IsFirstFaulty bytes f
told_faulty = scripts.told_faulty of_scripts line_reader finished Matches follows nothing_read matches_nothing

pub read_faulty : {X : Type 0} (view : X → Script) (r : Result X FarmFault) (bytes : List ℕ)
    → IsScriptAnswer view r (script bytes) → IfErr r (λ f. (f ≡ fault.Memory) ⊎ IsFirstFaulty bytes f)
read_faulty = scripts.read_faulty of_scripts line_reader finished Matches follows nothing_read matches_nothing
