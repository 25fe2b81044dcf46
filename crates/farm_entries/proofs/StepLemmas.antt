-- One more entry and one more step of a server.
use Rattle.std.proofs.Common.{◌≡◌, ℕ, Bool, true, false, cond, List, [], ◌∷◌, ◌++◌, Option, Some, None}
use Rattle.std.proofs.Common.{refl, ap, ◌∙◌}
use Rattle.std.specs.Prelude.{fold}
use Rattle.std.proofs.lemmas.List.Sums.{fold-append}
use Rattle.dist_types.specs.Addr.{same_addr}
use Rattle.core_rules.proofs.AddressLemmas.{same_self}
use Rattle.farm_entries.specs.declared.site.SiteServer.{SiteServer as SetupServer}
use Rattle.farm_entries.specs.declared.entry.Entry.{Entry}
use Rattle.farm_entries.specs.declared.entry.Step.{Step}
use Rattle.farm_entries.specs.declared.entry.StepKind.{StepKind}
use Rattle.farm_entries.specs.declared.entry.StepKind.TheVariants as kinds
use Rattle.farm_entries.specs.Servers.{ServerNow, server_begun, kind_after, restart_by, restarted, stepped}
use Rattle.farm_entries.specs.Servers.{server_after, server_of}
use Rattle.toolchain_cache.specs.Archives.{Archives}
use Rattle.farm_entries.specs.Reliable.{reopened}
use Rattle.farm_entries.specs.Weather.{opened_effect}

pub server-push : (s : SetupServer) (log : List Entry) (e : Entry)
    → server_of s (log ++ e ∷ []) ≡ server_after (server_of s log) e
server-push s log e = fold-append server_after (server_begun s) log (e ∷ [])

stepped_setup : (step : Option Step) (s : ServerNow) → (stepped step s).setup ≡ s.setup
stepped_setup None s = refl
stepped_setup (Some step) s = by_test (same_addr step.server s.setup.addr)
  where
    open_kind : (k : StepKind) → (kind_after k s).setup ≡ s.setup
    open_kind (kinds.Heard as_what) = refl
    open_kind (kinds.Assigned job tc ready) = refl
    open_kind (kinds.Submitted job outcome) = refl
    open_kind (kinds.Ran job ran result) = refl
    open_kind (kinds.Finished job) = refl
    open_kind (kinds.Unreported job) = refl
    open_kind (kinds.Opened archives) = refl

    by_test : (b : Bool) → (cond b (kind_after step.kind s) s).setup ≡ s.setup
    by_test true = open_kind step.kind
    by_test false = refl

restarted_setup : (o : Option (List ℕ × ℕ)) (s : ServerNow) → (restarted o s).setup ≡ s.setup
restarted_setup None s = refl
restarted_setup (Some p) s = refl

after_setup : (s : ServerNow) (e : Entry) → (server_after s e).setup ≡ s.setup
after_setup s e = stepped_setup e.step (restarted (restart_by s.setup.addr e.event.kind) s)
    ∙ restarted_setup (restart_by s.setup.addr e.event.kind) s

fold_setup : (s : ServerNow) (log : List Entry) → (fold server_after s log).setup ≡ s.setup
fold_setup s [] = refl
fold_setup s (e ∷ es) = fold_setup (server_after s e) es ∙ after_setup s e

pub server_setup : (s : SetupServer) (log : List Entry) → (server_of s log).setup ≡ s
server_setup s log = fold_setup (server_begun s) log

-- a step of the server itself
pub own_step : (s : ServerNow) (k : StepKind) → stepped (Some (record { server = s.setup.addr; kind = k })) s
    ≡ kind_after k s
own_step s k = ap (λ (b : Bool). cond b (kind_after k s) s) (same_self s.setup.addr)

-- what a restart leaves, by what its opening came to
pub reopened_is : (s : ServerNow) (key : List ℕ) (nonce : ℕ) (o : Option Archives)
    → stepped (opened_effect s o).step (restarted (Some (key, nonce)) s) ≡ reopened s key nonce o
reopened_is s key nonce None = refl
reopened_is s key nonce (Some list) = own_step (restarted (Some (key, nonce)) s) (kinds.Opened list)
