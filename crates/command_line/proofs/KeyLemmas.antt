-- Which key of a configuration file is told, key by key.
use Rattle.std.proofs.Common.{◌≡◌, ℕ, List, [], ◌∷◌, Bool, true, false, Option, Some, None, refl, ap, sym}
use Rattle.std.proofs.Common.{subst}
use Rattle.std.specs.Prelude.{◌==◌, pos, negsuc, if◌then◌else◌, is_some, option_and_then, unwrap_or}
use Rattle.std.specs.Prelude.{Result, Ok, codes}
use Rattle.std.proofs.lemmas.Bool.{eq-eqb, eqb-true}
use Rattle.toml.specs.Data.{Data, string, integer, float, boolean, datetime, array, table, Members, get_member}
use Rattle.dist_types.specs.declared.rules.Rules.{Rules}
use Rattle.dist_types.specs.declared.rules.Rules.TheVariants.{One, Two}
use Rattle.line_program.specs.declared.fault.ConfigCause.{ConfigCause}
use Rattle.command_line.specs.Keys.{KeyRows, first_bad, bad_key, Tells, scheduler_rows, scheduler_bad}
use Rattle.command_line.specs.Keys.{server_rows, server_bad, IsRulesAt}
use Rattle.command_line.specs.Profile.{known_or, typed_at, client_auth_of, server_auth_of, builder_of}
use Rattle.command_line.specs.Profile.{scheduler_auth_of, address_or, scheduler_in, server_in, scheduler_keys}
use Rattle.command_line.specs.Profile.{server_keys}
use Rattle.command_line.specs.Told.{◌>>=◌, needed}
use Rattle.command_line.specs.Unknown.{least_unknown}
use Rattle.command_line.specs.Values.{text_at, address_at, http_url_at, optional_number, optional_number_at}
use Rattle.command_line.specs.Values.{rules_in, rules_at}

-- all keys of a scheduler's file
scheduler_keys_tell : {X1 X2 X3 X4 C : Type 0} (unknown : Option (List ℕ)) (address : Option X1)
    (clients : Option X2) (servers : Option X3) (rules : Option X4) (made : X1 → X2 → X3 → X4 → C)
    → Tells (bad_key unknown ((codes "public_addr", is_some address)
    ∷ (codes "client_auth", is_some clients) ∷ (codes "server_auth", is_some servers)
    ∷ (codes "rules", is_some rules) ∷ []))
    (known_or unknown >>= (λ _. needed (codes "public_addr") address >>= (λ a.
    needed (codes "client_auth") clients >>= (λ c. needed (codes "server_auth") servers >>= (λ s.
    needed (codes "rules") rules >>= (λ r. Ok (made a c s r)))))))
scheduler_keys_tell (Some key) address clients servers rules made = refl
scheduler_keys_tell None None clients servers rules made = refl
scheduler_keys_tell None (Some a) None servers rules made = refl
scheduler_keys_tell None (Some a) (Some c) None rules made = refl
scheduler_keys_tell None (Some a) (Some c) (Some s) None made = refl
scheduler_keys_tell None (Some a) (Some c) (Some s) (Some r) made = (made a c s r, refl)

pub scheduler_tells : (members : Members) → Tells (scheduler_bad members) (scheduler_in members)
unfolding scheduler_in
scheduler_tells members = scheduler_keys_tell (least_unknown scheduler_keys members)
    (address_at (codes "public_addr") members) (typed_at client_auth_of (codes "client_auth") members)
    (typed_at server_auth_of (codes "server_auth") members) (rules_at (codes "rules") members)
    (λ a c s r. record { public_addr = a; client_auth = c; server_auth = s; rules = r })

-- the keys of a build server's file behind its address
server_behind : {X4 X5 X6 X7 C : Type 0} (bind : Option X4) (url : Option X5) (auth : Option X6)
    (size : Option X7) (made : X4 → X5 → X6 → X7 → C)
    → Tells (first_bad ((codes "bind_address", is_some bind) ∷ (codes "scheduler_url", is_some url)
    ∷ (codes "scheduler_auth", is_some auth) ∷ (codes "toolchain_cache_size", is_some size) ∷ []))
    (needed (codes "bind_address") bind >>= (λ b. needed (codes "scheduler_url") url >>= (λ u.
    needed (codes "scheduler_auth") auth >>= (λ a. needed (codes "toolchain_cache_size") size >>= (λ s.
    Ok (made b u a s))))))
server_behind None url auth size made = refl
server_behind (Some b) None auth size made = refl
server_behind (Some b) (Some u) None size made = refl
server_behind (Some b) (Some u) (Some a) None made = refl
server_behind (Some b) (Some u) (Some a) (Some s) made = (made b u a s, refl)

-- all its keys
server_keys_tell : {X1 X2 X3 X4 X5 X6 X7 C : Type 0} (unknown : Option (List ℕ)) (builder : Option X1)
    (dir : Option X2) (address : Option X3) (bind : X3 → Option X4) (url : Option X5) (auth : X3 → Option X6)
    (size : Option X7) (made : X2 → X3 → X4 → X5 → X6 → X7 → C)
    → Tells (bad_key unknown ((codes "builder", is_some builder) ∷ (codes "cache_dir", is_some dir)
    ∷ (codes "public_addr", is_some address)
    ∷ (codes "bind_address", is_some (option_and_then bind address)) ∷ (codes "scheduler_url", is_some url)
    ∷ (codes "scheduler_auth", is_some (option_and_then auth address))
    ∷ (codes "toolchain_cache_size", is_some size) ∷ []))
    (known_or unknown >>= (λ _. needed (codes "builder") builder >>= (λ _.
    needed (codes "cache_dir") dir >>= (λ d. needed (codes "public_addr") address >>= (λ a.
    needed (codes "bind_address") (bind a) >>= (λ b. needed (codes "scheduler_url") url >>= (λ u.
    needed (codes "scheduler_auth") (auth a) >>= (λ t. needed (codes "toolchain_cache_size") size >>= (λ s.
    Ok (made d a b u t s))))))))))
server_keys_tell (Some key) builder dir address bind url auth size made = refl
server_keys_tell None None dir address bind url auth size made = refl
server_keys_tell None (Some x) None address bind url auth size made = refl
server_keys_tell None (Some x) (Some d) None bind url auth size made = refl
server_keys_tell None (Some x) (Some d) (Some a) bind url auth size made =
    server_behind (bind a) url (auth a) size (made d a)

pub server_tells : (members : Members) → Tells (server_bad members) (server_in members)
unfolding server_in
server_tells members = server_keys_tell (least_unknown server_keys members)
    (typed_at builder_of (codes "builder") members) (text_at (codes "cache_dir") members)
    (address_at (codes "public_addr") members)
    (λ a. address_or a (get_member (codes "bind_address") members) (codes "bind_address") members)
    (http_url_at (codes "scheduler_url") members)
    (λ a. typed_at (scheduler_auth_of a) (codes "scheduler_auth") members)
    (optional_number_at (codes "toolchain_cache_size") members) (λ d a b u t s. record {
      cache_dir = d;
      public_addr = a;
      bind_address = b;
      scheduler_url = u;
      scheduler_auth = t;
      toolchain_cache_size = unwrap_or s 10737418240;
    })

pub rules_are : (value : Option Data) → IsRulesAt value (option_and_then rules_in (optional_number value))
rules_are None = refl
rules_are (Some (integer (pos n))) = by (n == 1) (n == 2) refl refl
  where
    by : (a b : Bool) → (n == 1) ≡ a → (n == 2) ≡ b → IsRulesAt (Some (integer (pos n)))
        (if a then Some One else if b then Some Two else None)
    by true b e f = ap (λ k. integer (pos k)) (eqb-true n 1 e)
    by false true e f = ap (λ k. integer (pos k)) (eqb-true n 2 f)
    by false false e f = (
      λ same. let one : n ≡ 1 = cc in let is = eq-eqb n 1 one in absurd cc,
      λ same. let two : n ≡ 2 = cc in let is = eq-eqb n 2 two in absurd cc,
    )
rules_are (Some (integer (negsuc n))) = (λ same. absurd cc, λ same. absurd cc)
rules_are (Some (string text)) = (λ same. absurd cc, λ same. absurd cc)
rules_are (Some (float f)) = (λ same. absurd cc, λ same. absurd cc)
rules_are (Some (boolean b)) = (λ same. absurd cc, λ same. absurd cc)
rules_are (Some (datetime d)) = (λ same. absurd cc, λ same. absurd cc)
rules_are (Some (array items)) = (λ same. absurd cc, λ same. absurd cc)
rules_are (Some (table inner)) = (λ same. absurd cc, λ same. absurd cc)
