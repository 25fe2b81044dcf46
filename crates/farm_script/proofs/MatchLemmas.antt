-- What was read so far is what the lines so far say.
use Rattle.std.proofs.Common.{◌≡◌, ◌≢◌, ℕ, ◌≤◌, Bool, true, false, not, cond, ◌||◌, nat_le, append_assoc}
use Rattle.std.proofs.Common.{List, [], ◌∷◌, ◌++◌, length, map, Option, Some, None, refl, sym, ap, subst, ◌∙◌}
use Rattle.std.proofs.Common.{inl, inr, arith}
use Rattle.std.specs.Prelude.{option_to_list}
use Rattle.std.specs.List.{filter_map, list_any, AllByRecursion}
use Rattle.std.proofs.lemmas.Bool.{or_parts, cases_Bool, leb-false}
use Rattle.std.proofs.lemmas.Option.{same_Some}
use Rattle.std.proofs.lemmas.List.{map-append, length-append, length-map}
use Rattle.dist_types.specs.declared.addr.Addr.{Addr}
use Rattle.dist_types.specs.Addr.{same_addr}
use Rattle.dist_types.specs.declared.rules.Rules.{Rules}
use Rattle.dist_types.specs.declared.rules.Rules.TheVariants.{One, Two}
use Rattle.line_program.proofs.FirstFaultyLemmas.{push_none, push_some}
use Rattle.farm_script.specs.declared.setup.BuilderLine.{BuilderLine}
use Rattle.farm_script.specs.declared.setup.SetupAuth.{SetupAuth}
use Rattle.farm_script.specs.declared.setup.SetupAuth.TheVariants.{Plain, Jwt}
use Rattle.farm_script.specs.declared.setup.SetupScheduler.{SetupScheduler}
use Rattle.farm_script.specs.declared.setup.SetupServer.{SetupServer}
use Rattle.farm_script.specs.declared.event.Event.{Event}
use Rattle.farm_script.specs.declared.lines.Scopes.TheVariants.{Refused}
use Rattle.farm_script.specs.declared.lines.SetupLine.TheVariants.{Version2, Scheduler, Server, Builder}
use Rattle.farm_script.specs.declared.lines.Line.{Line}
use Rattle.farm_script.specs.declared.lines.Line.TheVariants as lines
use Rattle.farm_script.specs.Grammar.{IsToken, HasKeyLength, IsAuth, IsLine, IsSchedulerLine, IsServerLine}
use Rattle.farm_script.specs.Place.{Before, before_of, says_two, is_two, rules_in, scheduler_in, server_in}
use Rattle.farm_script.specs.Place.{event_in, is_nil, has_addr, misplaced, duplicate}
use Rattle.farm_script.specs.Spelled.{answer_for, with_answers}
use Rattle.farm_script.specs.Setups.{AreApart, HasAuth}
use Rattle.farm_script.specs.Script.{Read, before, answered, with_line, nothing_read}
use Rattle.farm_script.proofs.FieldLemmas.{cond_is, cond_off, off_by}
use Rattle.farm_script.proofs.PlaceLemmas.{same_is, same_self}

-- ---- lists

-- the first of its kind
pub pushed_first : (xs : List ℕ) (n : ℕ) → not (is_nil xs) ≡ false → xs ++ n ∷ [] ≡ n ∷ []
pushed_first [] n e = refl
pushed_first (x ∷ xs) n e = absurd cc

map_same : (f g : SetupServer → SetupServer) → ((s : SetupServer) → f s ≡ g s) → (ss : List SetupServer)
    → map f ss ≡ map g ss
map_same f g h [] = refl
map_same f g h (s ∷ ss) = ap (λ (x : SetupServer). x ∷ map f ss) (h s)
    ∙ ap (λ (xs : List SetupServer). g s ∷ xs) (map_same f g h ss)

all_push : {X : Type 0} (P : X → Type 0) (xs : List X) (y : X) → AllByRecursion P xs → P y
    → AllByRecursion P (xs ++ y ∷ [])
all_push P [] y all h = (h, tt)
all_push P (x ∷ xs) y all h = (all.0, all_push P xs y all.1 h)

-- the addresses of servers
abbrev pub addrs : List SetupServer → List Addr
addrs ss = map (λ s. s.addr) ss

-- those of schedulers
abbrev pub scheduler_addrs : List SetupScheduler → List Addr
scheduler_addrs ss = map (λ s. s.addr) ss

-- ---- addresses that differ

not_same : (a b : Addr) → same_addr a b ≡ false → b ≢ a
not_same a b e same = let on : same_addr a b ≡ true = ap (same_addr a) same ∙ same_self a
    in let clash : true ≡ false = sym on ∙ e in absurd cc

other_addr : (a b : Addr) → b ≢ a → same_addr b a ≡ false
other_addr a b h = off_by (same_addr b a) (λ on. h (same_is b a on))

pub apart_push : (list : List Addr) (b : Addr) → AreApart list → has_addr b list ≡ false
    → AreApart (list ++ b ∷ [])
apart_push [] b apart e = (tt, tt)
apart_push (a ∷ list) b apart e =
    let p = or_parts (same_addr a b) (has_addr b list) e in
    (all_push (λ x. x ≢ a) list b apart.0 (not_same a b p.0), apart_push list b apart.1 p.1)

pub apart_right : (xs ys : List Addr) → AreApart (xs ++ ys) → AreApart ys
apart_right [] ys apart = apart
apart_right (x ∷ xs) ys apart = apart_right xs ys apart.1

has_append : (a : Addr) (xs ys : List Addr) → has_addr a xs ≡ false → has_addr a ys ≡ false
    → has_addr a (xs ++ ys) ≡ false
has_append a [] ys e f = f
has_append a (x ∷ xs) ys e f =
    let p = or_parts (same_addr x a) (has_addr a xs) e in
    ap (λ (v : Bool). v || has_addr a (xs ++ ys)) p.0 ∙ has_append a xs ys p.1 f

has_front : (a : Addr) (xs ys : List Addr) → has_addr a (xs ++ ys) ≡ false → has_addr a xs ≡ false
has_front a [] ys e = refl
has_front a (x ∷ xs) ys e =
    let p = or_parts (same_addr x a) (has_addr a (xs ++ ys)) e in
    ap (λ (v : Bool). v || has_addr a xs) p.0 ∙ has_front a xs ys p.1

-- ---- answers

-- an answer of a builder changes no address
answered_step : (b : Bool) (s t : SetupServer) (ss ts : List SetupServer) → s.addr ≡ t.addr
    → addrs ts ≡ addrs ss → addrs (cond b (t ∷ ss) (s ∷ ts)) ≡ s.addr ∷ addrs ss
answered_step true s t ss ts e f = ap (λ (a : Addr). a ∷ addrs ss) (sym e)
answered_step false s t ss ts e f = ap (λ (list : List Addr). s.addr ∷ list) f

pub answered_addrs : (addr : Addr) (answer : BuilderLine) (ss : List SetupServer)
    → addrs (answered addr answer ss) ≡ addrs ss
answered_addrs addr answer [] = refl
answered_addrs addr answer (s ∷ ss) =
    answered_step (same_addr s.addr addr) s (record s { builder = s.builder ++ answer ∷ [] }) ss
    (answered addr answer ss) refl (answered_addrs addr answer ss)

keys_step : (b : Bool) (s t : SetupServer) (ss ts : List SetupServer) → s.key ≡ t.key
    → AllByRecursion (λ x. HasKeyLength x.key) (s ∷ ss) → AllByRecursion (λ x. HasKeyLength x.key) ts
    → AllByRecursion (λ x. HasKeyLength x.key) (cond b (t ∷ ss) (s ∷ ts))
keys_step true s t ss ts e all rest = (subst HasKeyLength e all.0, all.1)
keys_step false s t ss ts e all rest = (all.0, rest)

answered_keys : (addr : Addr) (answer : BuilderLine) (ss : List SetupServer)
    → AllByRecursion (λ x. HasKeyLength x.key) ss → AllByRecursion (λ x. HasKeyLength x.key)
    (answered addr answer ss)
answered_keys addr answer [] all = tt
answered_keys addr answer (s ∷ ss) all =
    keys_step (same_addr s.addr addr) s (record s { builder = s.builder ++ answer ∷ [] }) ss
    (answered addr answer ss) refl all (answered_keys addr answer ss all.1)

answered_length : (addr : Addr) (answer : BuilderLine) (ss : List SetupServer)
    → length (answered addr answer ss) ≡ length ss
answered_length addr answer ss = sym (length-map (answered addr answer ss) (λ s. s.addr))
    ∙ ap (λ (list : List Addr). length list) (answered_addrs addr answer ss) ∙ length-map ss (λ s. s.addr)

with_none : (said : List Line) (l : Line) → ((a : Addr) → answer_for a l ≡ None) → (ss : List SetupServer)
    → map (with_answers (said ++ l ∷ [])) ss ≡ map (with_answers said) ss
with_none said l none ss = map_same (with_answers (said ++ l ∷ [])) (with_answers said)
    (λ s. ap (λ (b : List BuilderLine). record s { builder = b })
    (push_none (answer_for s.addr) said l (none s.addr))) ss

-- servers at other addresses get nothing
with_other : (said : List Line) (addr : Addr) (answer : BuilderLine) (ss : List SetupServer)
    → AllByRecursion (λ b. b ≢ addr) (addrs ss)
    → map (with_answers (said ++ lines.Setup (Builder addr answer) ∷ [])) ss ≡ map (with_answers said) ss
with_other said addr answer [] all = refl
with_other said addr answer (s ∷ ss) all =
    let none : answer_for s.addr (lines.Setup (Builder addr answer)) ≡ None = cond_off (same_addr s.addr addr)
    (Some answer) None (other_addr addr s.addr all.0) in
    let first : with_answers (said ++ lines.Setup (Builder addr answer) ∷ []) s ≡ with_answers said s =
    ap (λ (b : List BuilderLine). record s { builder = b })
    (push_none (answer_for s.addr) said (lines.Setup (Builder addr answer)) none) in
    let rest = with_other said addr answer ss all.1 in
    ap (λ (x : SetupServer). x ∷ map (with_answers (said ++ lines.Setup (Builder addr answer) ∷ [])) ss) first
    ∙ ap (λ (xs : List SetupServer). with_answers said s ∷ xs) rest

-- the server that is named gets the answer
pub with_answer : (said : List Line) (addr : Addr) (answer : BuilderLine) (ss : List SetupServer)
    → AreApart (addrs ss)
    → map (with_answers (said ++ lines.Setup (Builder addr answer) ∷ [])) ss ≡ answered addr answer
    (map (with_answers said) ss)
with_answer said addr answer [] apart = refl
with_answer said addr answer (s ∷ ss) apart = elim (cases_Bool (same_addr s.addr addr)) [
  | inl on ↦
      let same : s.addr ≡ addr = same_is s.addr addr on in
      let given : answer_for s.addr (lines.Setup (Builder addr answer)) ≡ Some answer =
      cond_is (same_addr s.addr addr) (Some answer) None on in
      let first : with_answers (said ++ lines.Setup (Builder addr answer) ∷ []) s ≡ record s
      { builder = filter_map (answer_for s.addr) said ++ answer ∷ [] } =
      ap (λ (b : List BuilderLine). record s { builder = b })
      (push_some (answer_for s.addr) said (lines.Setup (Builder addr answer)) answer given) in
      let rest = with_other said addr answer ss
      (subst (λ (a : Addr). AllByRecursion (λ b. b ≢ a) (addrs ss)) same apart.0) in
      ap (λ (x : SetupServer). x ∷ map (with_answers (said ++ lines.Setup (Builder addr answer) ∷ [])) ss)
      first
      ∙ ap (λ (xs : List SetupServer). record s {
        builder = filter_map (answer_for s.addr) said ++ answer ∷ [];
      } ∷ xs) rest
      ∙ sym (cond_is (same_addr s.addr addr)
      (record s { builder = filter_map (answer_for s.addr) said ++ answer ∷ [] } ∷ map
      (with_answers said) ss)
      (with_answers said s ∷ answered addr answer (map (with_answers said) ss)) on)
  | inr off ↦
      let none : answer_for s.addr (lines.Setup (Builder addr answer)) ≡ None =
      cond_off (same_addr s.addr addr) (Some answer) None off in
      let first : with_answers (said ++ lines.Setup (Builder addr answer) ∷ []) s ≡ with_answers said s =
      ap (λ (b : List BuilderLine). record s { builder = b })
      (push_none (answer_for s.addr) said (lines.Setup (Builder addr answer)) none) in
      let rest = with_answer said addr answer ss apart.1 in
      ap (λ (x : SetupServer). x ∷ map (with_answers (said ++ lines.Setup (Builder addr answer) ∷ [])) ss)
      first
      ∙ ap (λ (xs : List SetupServer). with_answers said s ∷ xs) rest
      ∙ sym (cond_off (same_addr s.addr addr)
      (record s { builder = filter_map (answer_for s.addr) said ++ answer ∷ [] } ∷ map
      (with_answers said) ss)
      (with_answers said s ∷ answered addr answer (map (with_answers said) ss)) off)
]

with_addrs : (said : List Line) (ss : List SetupServer) → addrs (map (with_answers said) ss) ≡ addrs ss
with_addrs said [] = refl
with_addrs said (s ∷ ss) = ap (λ (list : List Addr). s.addr ∷ list) (with_addrs said ss)

-- ---- the rules

-- a line that says nothing of them leaves them
two_off : (said : List Line) (l : Line) → says_two l ≡ false
    → list_any says_two (said ++ l ∷ []) ≡ list_any says_two said
two_off [] l e = ap (λ (v : Bool). v || false) e
two_off (k ∷ said) l e = ap (λ (v : Bool). says_two k || v) (two_off said l e)

or_true : (b : Bool) → (b || true) ≡ true
or_true true = refl
or_true false = refl

-- a line that says version 2 is among the lines
two_on : (said : List Line) (l : Line) → says_two l ≡ true → list_any says_two (said ++ l ∷ []) ≡ true
two_on [] l e = ap (λ (v : Bool). v || false) e
two_on (k ∷ said) l e = ap (λ (v : Bool). says_two k || v) (two_on said l e) ∙ or_true (says_two k)

-- whether version 2 is said, told by the rules
two_is : (b : Bool) → is_two (cond b Two One) ≡ b
two_is true = refl
two_is false = refl

rules_off : (said : List Line) (l : Line) → says_two l ≡ false → rules_in (said ++ l ∷ []) ≡ rules_in said
rules_off said l e = ap (λ (v : Bool). cond v Two One) (two_off said l e)

rules_on : (said : List Line) (l : Line) → says_two l ≡ true → rules_in (said ++ l ∷ []) ≡ Two
rules_on said l e = ap (λ (v : Bool). cond v Two One) (two_on said l e)

-- ---- what was read, and what the lines say

-- the scheduler's words have their lengths
pub record IsSchedulerSetup (s : SetupScheduler) : Type 0 where
  pub client : IsToken s.client s.client
  pub auth : HasAuth s.auth

pub record Matches (r : Read) (said : List Line) : Type 0 where
  pub rules : rules_in said ≡ r.rules
  pub scheduler : filter_map scheduler_in said ≡ option_to_list r.scheduler
  pub servers : map (with_answers said) (filter_map server_in said) ≡ r.servers
  pub events : filter_map event_in said ≡ r.events
  pub others : (a : Addr) → has_addr a (addrs r.servers) ≡ false → filter_map (answer_for a) said ≡ []
  pub alone : r.scheduler ≡ None → r.servers ≡ []
  pub apart : AreApart (scheduler_addrs (option_to_list r.scheduler) ++ addrs r.servers)
  pub few : length r.servers ≤ 1000
  pub tokens : (s : SetupScheduler) → r.scheduler ≡ Some s → IsSchedulerSetup s
  pub keys : AllByRecursion (λ x. HasKeyLength x.key) r.servers

pub matches_nothing : Matches nothing_read []
matches_nothing = record {
  rules = refl;
  scheduler = refl;
  servers = refl;
  events = refl;
  others = λ a e. refl;
  alone = λ e. refl;
  apart = tt;
  few = omega arith;
  tokens = λ s e. absurd cc;
  keys = tt;
}

said_addrs : (r : Read) (said : List Line) → Matches r said
    → addrs (filter_map server_in said) ≡ addrs r.servers
said_addrs r said m = sym (with_addrs said (filter_map server_in said)) ∙ ap addrs m.servers

abbrev before_with : Bool → List Addr → List Addr → List Event → Before
before_with two schedulers servers events =
    record { two = two; schedulers = schedulers; servers = servers; events = events }

-- what decides where a line may stand is the same
pub before_is : (r : Read) (said : List Line) → Matches r said → before r ≡ before_of said
before_is r said m =
    let a : scheduler_addrs (option_to_list r.scheduler) ≡ scheduler_addrs (filter_map scheduler_in said) =
    ap scheduler_addrs (sym m.scheduler) in
    let b : addrs r.servers ≡ addrs (filter_map server_in said) = sym (said_addrs r said m) in
    let c : r.events ≡ filter_map event_in said = sym m.events in
    let v = list_any says_two said in
    let schedulers = scheduler_addrs (filter_map scheduler_in said) in
    let two : is_two r.rules ≡ v = ap is_two (sym m.rules) ∙ two_is v in
    ap (λ (x : Bool). before_with x (scheduler_addrs (option_to_list r.scheduler)) (addrs r.servers) r.events)
    two
    ∙ ap (λ (x : List Addr). before_with v x (addrs r.servers) r.events) a
    ∙ ap (λ (x : List Addr). before_with v schedulers x r.events) b
    ∙ ap (λ (x : List Event). before_with v schedulers (addrs (filter_map server_in said)) x) c

no_scheduler : (o : Option SetupScheduler) → not (is_nil (scheduler_addrs (option_to_list o))) ≡ false
    → o ≡ None
no_scheduler None e = refl
no_scheduler (Some s) e = absurd cc

token_self : (t v : List ℕ) → IsToken t v → IsToken v v
token_self t v is = subst (λ (x : List ℕ). IsToken x v) (sym is.same) is

auth_self : (t : List ℕ) (a : SetupAuth) → IsAuth t a → HasAuth a
auth_self t (Plain token) is = token_self is.0 token is.1
auth_self t (Jwt key) is = is.1.1

matches_quiet : (r : Read) (said : List Line) (l : Line) → scheduler_in l ≡ None → server_in l ≡ None
    → ((a : Addr) → answer_for a l ≡ None) → Matches r said
    → (rules : Rules) → rules_in (said ++ l ∷ []) ≡ rules
    → (events : List Event) → filter_map event_in (said ++ l ∷ []) ≡ events
    → Matches (record r { rules = rules; events = events }) (said ++ l ∷ [])
matches_quiet r said l no_scheduler_line no_server none m rules rules_are events is = record {
  rules = rules_are;
  scheduler = push_none scheduler_in said l no_scheduler_line ∙ m.scheduler;
  servers = ap (map (with_answers (said ++ l ∷ []))) (push_none server_in said l no_server)
      ∙ with_none said l none (filter_map server_in said) ∙ m.servers;
  events = is;
  others = λ a e. push_none (answer_for a) said l (none a) ∙ m.others a e;
  alone = m.alone;
  apart = m.apart;
  few = m.few;
  tokens = m.tokens;
  keys = m.keys;
}

matches_scheduler : (r : Read) (said : List Line) (t : List ℕ) (s : SetupScheduler)
    → IsSchedulerLine Refused t s → misplaced (before r) (lines.Setup (Scheduler s)) ≡ false → Matches r said
    → Matches (with_line r (lines.Setup (Scheduler s))) (said ++ lines.Setup (Scheduler s) ∷ [])
matches_scheduler r said t s is e m =
    let none : (a : Addr) → answer_for a (lines.Setup (Scheduler s)) ≡ None = λ a. refl in
    let p = or_parts (not (is_nil r.events)) (not (is_nil (scheduler_addrs (option_to_list r.scheduler)))) e
    in
    let first : r.scheduler ≡ None = no_scheduler r.scheduler p.1 in
    let empty : r.servers ≡ [] = m.alone first in
    record {
      rules = rules_off said (lines.Setup (Scheduler s)) refl ∙ m.rules;
      scheduler = push_some scheduler_in said (lines.Setup (Scheduler s)) s refl
          ∙ ap (λ (xs : List SetupScheduler). xs ++ s ∷ [])
          (m.scheduler ∙ ap (λ (o : Option SetupScheduler). option_to_list o) first);
      servers = ap (map (with_answers (said ++ lines.Setup (Scheduler s) ∷ [])))
          (push_none server_in said (lines.Setup (Scheduler s)) refl)
          ∙ with_none said (lines.Setup (Scheduler s)) none (filter_map server_in said) ∙ m.servers;
      events = push_none event_in said (lines.Setup (Scheduler s)) refl ∙ m.events;
      others = λ a f. push_none (answer_for a) said (lines.Setup (Scheduler s)) refl ∙ m.others a f;
      alone = λ f. absurd cc;
      apart = subst (λ (ss : List SetupServer). AreApart (s.addr ∷ addrs ss)) (sym empty) (tt, tt);
      few = m.few;
      tokens = λ x f. subst IsSchedulerSetup (same_Some s x f)
          (record {
            client = token_self is.client s.client is.is_client;
            auth = auth_self is.auth s.auth is.is_auth;
          });
      keys = m.keys;
    }

some_scheduler : (o : Option SetupScheduler) → is_nil (scheduler_addrs (option_to_list o)) ≡ false → o ≡ None
    → ⊥
some_scheduler None e f = absurd cc
some_scheduler (Some s) e f = absurd cc

matches_server : (r : Read) (said : List Line) (t : List ℕ) (s : SetupServer) → IsServerLine Refused t s
    → misplaced (before r) (lines.Setup (Server s)) ≡ false
    → duplicate (before r) (lines.Setup (Server s)) ≡ false → Matches r said
    → Matches (with_line r (lines.Setup (Server s))) (said ++ lines.Setup (Server s) ∷ [])
matches_server r said t s is e d m =
    let none : (a : Addr) → answer_for a (lines.Setup (Server s)) ≡ None = λ a. refl in
    let p = or_parts (not (is_nil r.events) || is_nil (scheduler_addrs (option_to_list r.scheduler)))
    (nat_le 1000 (length (addrs r.servers))) e in
    let q = or_parts (not (is_nil r.events)) (is_nil (scheduler_addrs (option_to_list r.scheduler))) p.0 in
    let new = or_parts (has_addr s.addr (scheduler_addrs (option_to_list r.scheduler)))
    (has_addr s.addr (addrs r.servers)) d in
    let bare : with_answers (said ++ lines.Setup (Server s) ∷ []) s ≡ s =
    ap (λ (b : List BuilderLine). record s { builder = b })
    (push_none (answer_for s.addr) said (lines.Setup (Server s)) refl ∙ m.others s.addr new.1
    ∙ sym is.builder) in
    let longer : addrs (r.servers ++ s ∷ []) ≡ addrs r.servers ++ s.addr ∷ [] =
    map-append (λ x. x.addr) r.servers (s ∷ []) in
    record {
      rules = rules_off said (lines.Setup (Server s)) refl ∙ m.rules;
      scheduler = push_none scheduler_in said (lines.Setup (Server s)) refl ∙ m.scheduler;
      servers = ap (map (with_answers (said ++ lines.Setup (Server s) ∷ [])))
          (push_some server_in said (lines.Setup (Server s)) s refl)
          ∙ map-append (with_answers (said ++ lines.Setup (Server s) ∷ [])) (filter_map server_in said)
          (s ∷ [])
          ∙ ap (λ (xs : List SetupServer). xs ++ with_answers (said ++ lines.Setup (Server s) ∷ []) s ∷ [])
          (with_none said (lines.Setup (Server s)) none (filter_map server_in said) ∙ m.servers)
          ∙ ap (λ (x : SetupServer). r.servers ++ x ∷ []) bare;
      events = push_none event_in said (lines.Setup (Server s)) refl ∙ m.events;
      others = λ a f. push_none (answer_for a) said (lines.Setup (Server s)) refl
          ∙ m.others a (has_front a (addrs r.servers) (s.addr ∷ [])
          (subst (λ (list : List Addr). has_addr a list ≡ false) longer f));
      alone = λ f. absurd (some_scheduler r.scheduler q.1 f);
      apart = subst AreApart
          (append_assoc (scheduler_addrs (option_to_list r.scheduler)) (addrs r.servers) (s.addr ∷ [])
          ∙ ap (λ (list : List Addr). scheduler_addrs (option_to_list r.scheduler) ++ list) (sym longer))
          (apart_push (scheduler_addrs (option_to_list r.scheduler) ++ addrs r.servers) s.addr m.apart
          (has_append s.addr (scheduler_addrs (option_to_list r.scheduler))
          (addrs r.servers) new.0 new.1));
      few = omega (
        arith,
        leb-false 1000 (length (addrs r.servers)) p.1,
        length-map r.servers
            (λ (x : SetupServer). x.addr),
        length-append r.servers (s ∷ []),
      );
      tokens = m.tokens;
      keys = all_push (λ x. HasKeyLength x.key) r.servers s m.keys is.is_key.1;
    }

not_off : (b : Bool) → not b ≡ false → b ≡ true
not_off true e = refl
not_off false e = absurd cc

nil_answered : (addr : Addr) (answer : BuilderLine) (ss : List SetupServer) → ss ≡ []
    → answered addr answer ss ≡ []
nil_answered addr answer ss e = ap (answered addr answer) e

matches_builder : (r : Read) (said : List Line) (addr : Addr) (answer : BuilderLine)
    → misplaced (before r) (lines.Setup (Builder addr answer)) ≡ false → Matches r said
    → Matches (with_line r (lines.Setup (Builder addr answer)))
    (said ++ lines.Setup (Builder addr answer) ∷ [])
matches_builder r said addr answer e m =
    let p = or_parts (not (is_nil r.events)) (not (has_addr addr (addrs r.servers))) e in
    let there : has_addr addr (addrs r.servers) ≡ true = not_off (has_addr addr (addrs r.servers)) p.1 in
    let same = answered_addrs addr answer r.servers in
    let apart_servers : AreApart (addrs (filter_map server_in said)) =
    subst AreApart (sym (said_addrs r said m)) (apart_right (scheduler_addrs (option_to_list r.scheduler))
    (addrs r.servers) m.apart) in
    record {
      rules = rules_off said (lines.Setup (Builder addr answer)) refl ∙ m.rules;
      scheduler = push_none scheduler_in said (lines.Setup (Builder addr answer)) refl ∙ m.scheduler;
      servers = ap (map (with_answers (said ++ lines.Setup (Builder addr answer) ∷ [])))
          (push_none server_in said (lines.Setup (Builder addr answer)) refl)
          ∙ with_answer said addr answer (filter_map server_in said) apart_servers
          ∙ ap (answered addr answer) m.servers;
      events = push_none event_in said (lines.Setup (Builder addr answer)) refl ∙ m.events;
      others = λ a f.
          let away : has_addr a (addrs r.servers) ≡ false =
          subst (λ (list : List Addr). has_addr a list ≡ false) same f in
          let differs : same_addr a addr ≡ false = off_by (same_addr a addr)
          (λ on. let clash : true ≡ false = sym there
          ∙ subst (λ (x : Addr). has_addr x (addrs r.servers) ≡ false) (same_is a addr on) away
          in absurd cc) in
          push_none (answer_for a) said (lines.Setup (Builder addr answer))
          (cond_off (same_addr a addr) (Some answer) None differs) ∙ m.others a away;
      alone = λ f. nil_answered addr answer r.servers (m.alone f);
      apart = subst (λ (list : List Addr). AreApart (scheduler_addrs (option_to_list r.scheduler) ++ list))
          (sym same) m.apart;
      few = omega (arith, m.few, answered_length addr answer r.servers);
      tokens = m.tokens;
      keys = answered_keys addr answer r.servers m.keys;
    }

-- one line more
pub matches_next : (r : Read) (said : List Line) (t : List ℕ) (l : Line) → Matches r said → IsLine t l
    → misplaced (before r) l ≡ false → duplicate (before r) l ≡ false
    → Matches (with_line r l) (said ++ l ∷ [])
matches_next r said t lines.Skip m is e d =
    matches_quiet r said lines.Skip refl refl (λ a. refl) m r.rules (rules_off said lines.Skip refl ∙ m.rules)
    r.events (push_none event_in said lines.Skip refl ∙ m.events)
matches_next r said t (lines.Setup Version2) m is e d =
    matches_quiet r said (lines.Setup Version2) refl refl (λ a. refl) m Two
    (rules_on said (lines.Setup Version2) refl) r.events
    (push_none event_in said (lines.Setup Version2) refl ∙ m.events)
matches_next r said t (lines.Setup (Scheduler s)) m is e d = matches_scheduler r said t s is e m
matches_next r said t (lines.Setup (Server s)) m is e d = matches_server r said t s is e d m
matches_next r said t (lines.Setup (Builder addr answer)) m is e d = matches_builder r said addr answer e m
matches_next r said t (lines.Event event) m is e d =
    matches_quiet r said (lines.Event event) refl refl (λ a. refl) m r.rules
    (rules_off said (lines.Event event) refl ∙ m.rules) (r.events ++ event ∷ [])
    (push_some event_in said (lines.Event event) event refl
    ∙ ap (λ (es : List Event). es ++ event ∷ []) m.events)
