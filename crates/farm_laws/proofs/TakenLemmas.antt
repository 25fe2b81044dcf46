-- What a server holds, it took in the life that it is in.
use Rattle.std.proofs.Common.{◌≡◌, ◌⊎◌, inl, inr, ℕ, zero, suc, ◌<◌, not, nat_lt, Bool, true, false, cond}
use Rattle.std.proofs.Common.{List, [], ◌∷◌, ◌++◌, take, Option, Some, None, refl, ap, ◌∙◌, sym, subst, arith}
use Rattle.std.specs.Prelude.{slice_get}
use Rattle.std.proofs.lemmas.Bool.{eqb-true}
use Rattle.std.proofs.lemmas.Option.{same_Some}
use Rattle.dist_types.specs.Addr.{same_addr}
use Rattle.dist_types.specs.declared.addr.Addr.{Addr}
use Rattle.dist_types.specs.declared.ids.JobId.{JobId}
use Rattle.core_rules.proofs.AddressLemmas.{same_is}
use Rattle.build_server.specs.Books.{Table, is_job, held_for, placed, without_job}
use Rattle.farm_entries.specs.declared.site.SiteServer.{SiteServer as SetupServer}
use Rattle.farm_entries.specs.declared.entry.Entry.{Entry}
use Rattle.farm_entries.specs.declared.entry.Step.{Step}
use Rattle.farm_entries.specs.declared.entry.StepKind.{StepKind}
use Rattle.farm_entries.specs.declared.entry.StepKind.TheVariants as kinds
use Rattle.farm_entries.specs.Servers.{ServerNow, restart_by, restarted, kind_after, stepped, server_of}
use Rattle.farm_entries.proofs.StepLemmas.{server-push, server_setup}

-- ---- tables

-- a toolchain that is held for a job
abbrev IsHeldFor : JobId → Table → Type 0
IsHeldFor job table = (tc : List ℕ) × (held_for job table ≡ Some tc)

held_cons : (job : JobId) (h : JobId × List ℕ) (hs : Table) → IsHeldFor job hs → IsHeldFor job (h ∷ hs)
held_cons job h hs holds = by_test (is_job job h.0)
  where
    by_test : (b : Bool) → (tc : List ℕ) × (cond b (Some h.1) (held_for job hs) ≡ Some tc)
    by_test true = (h.1, refl)
    by_test false = holds

-- what is held beside a job that was placed was held
held_placed : (job j : JobId) (tc : List ℕ) (table : Table) → IsHeldFor job (placed j tc table)
    → (is_job job j ≡ true) ⊎ IsHeldFor job table
held_placed job j tc [] holds = by_test (is_job job j) refl holds
  where
    by_test : (b : Bool) → is_job job j ≡ b → (t : List ℕ) × (cond b (Some tc) None ≡ Some t)
        → (is_job job j ≡ true) ⊎ IsHeldFor job []
    by_test true is h = inl is
    by_test false is h = inr h
held_placed job j tc (h ∷ hs) holds = by_order (nat_lt j.0 h.0.0) holds (held_placed job j tc hs)
  where
    at_first : (b : Bool) → is_job job j ≡ b → (t : List ℕ)
        × (cond b (Some tc) (held_for job (h ∷ hs)) ≡ Some t) → (is_job job j ≡ true) ⊎ IsHeldFor job (h ∷ hs)
    at_first true is k = inl is
    at_first false is k = inr k

    more : (is_job job j ≡ true) ⊎ IsHeldFor job hs → (is_job job j ≡ true) ⊎ IsHeldFor job (h ∷ hs)
    more (inl is) = inl is
    more (inr k) = inr (held_cons job h hs k)

    later : (b : Bool) → is_job job h.0 ≡ b → (t : List ℕ)
        × (cond b (Some h.1) (held_for job (placed j tc hs)) ≡ Some t)
        → (IsHeldFor job (placed j tc hs) → (is_job job j ≡ true) ⊎ IsHeldFor job hs)
        → (is_job job j ≡ true) ⊎ IsHeldFor job (h ∷ hs)
    later true is k rest = inr (h.1, ap (λ (c : Bool). cond c (Some h.1) (held_for job hs)) is)
    later false is k rest = more (rest k)

    by_order : (b : Bool) → IsHeldFor job (cond b ((j, tc) ∷ h ∷ hs) (h ∷ placed j tc hs))
        → (IsHeldFor job (placed j tc hs) → (is_job job j ≡ true) ⊎ IsHeldFor job hs) → (is_job job j ≡ true)
        ⊎ IsHeldFor job (h ∷ hs)
    by_order true k rest = at_first (is_job job j) refl k
    by_order false k rest = later (is_job job h.0) refl k rest

-- what is held without a job was held
held_without : (job j : JobId) (table : Table) → IsHeldFor job (without_job j table) → IsHeldFor job table
held_without job j [] holds = holds
held_without job j (h ∷ hs) holds = by_kept (not (is_job j h.0)) holds (held_without job j hs)
  where
    at_first : (b : Bool) → is_job job h.0 ≡ b → (t : List ℕ)
        × (cond b (Some h.1) (held_for job (without_job j hs)) ≡ Some t)
        → (IsHeldFor job (without_job j hs) → IsHeldFor job hs) → IsHeldFor job (h ∷ hs)
    at_first true is k rest = (h.1, ap (λ (c : Bool). cond c (Some h.1) (held_for job hs)) is)
    at_first false is k rest = held_cons job h hs (rest k)

    by_kept : (b : Bool) → IsHeldFor job (cond b (h ∷ without_job j hs) (without_job j hs))
        → (IsHeldFor job (without_job j hs) → IsHeldFor job hs) → IsHeldFor job (h ∷ hs)
    by_kept true k rest = at_first (is_job job h.0) refl k rest
    by_kept false k rest = held_cons job h hs (rest k)

-- ---- one more step

-- a step of the server at an address that takes the job
pub record Takes (step : Option Step) (addr : Addr) (job : JobId) : Type 0 where
  pub tc : List ℕ
  pub ready : Bool
  pub is : step ≡ Some (record { server = addr; kind = kinds.Assigned job tc ready })

same_number : (a b : JobId) → is_job a b ≡ true → b ≡ a
same_number a b t = ap (λ (n : ℕ). let j : JobId = record { 0 = n } in j) (sym (eqb-true a.0 b.0 t))

step_life : (step : Option Step) (s : ServerNow) → (stepped step s).life ≡ s.life
step_life None s = refl
step_life (Some step) s = by_test (same_addr step.server s.setup.addr)
  where
    by_kind : (k : StepKind) → (kind_after k s).life ≡ s.life
    by_kind (kinds.Heard as_what) = refl
    by_kind (kinds.Assigned job tc ready) = refl
    by_kind (kinds.Submitted job outcome) = refl
    by_kind (kinds.Ran job ran result) = refl
    by_kind (kinds.Finished job) = refl
    by_kind (kinds.Unreported job) = refl
    by_kind (kinds.Opened archives) = refl

    by_test : (b : Bool) → (cond b (kind_after step.kind s) s).life ≡ s.life
    by_test true = by_kind step.kind
    by_test false = refl

-- what is held behind a step was held before, or is what the step takes
step_held : (step : Option Step) (s : ServerNow) (job : JobId) → IsHeldFor job (stepped step s).held
    → Takes step s.setup.addr job ⊎ IsHeldFor job s.held
step_held None s job holds = inr holds
step_held (Some step) s job holds = by_test (same_addr step.server s.setup.addr) refl holds
  where
    placed_here : (j : JobId) (tc : List ℕ) (ready : Bool) → step.kind ≡ kinds.Assigned j tc ready
        → step.server ≡ s.setup.addr → (is_job job j ≡ true) ⊎ IsHeldFor job s.held
        → Takes (Some step) s.setup.addr job ⊎ IsHeldFor job s.held
    placed_here j tc ready is own (inr k) = inr k
    placed_here j tc ready is own (inl same) =
        let one : j ≡ job = same_number job j same in
        inl (record {
          tc = tc;
          ready = ready;
          is = λ i.
              Some (record {
                server = own i;
                kind = (is ∙ ap (λ (x : JobId). kinds.Assigned x tc ready) one)
                    i;
              });
        })

    by_kind : (k : StepKind) → step.kind ≡ k → step.server ≡ s.setup.addr → IsHeldFor job
        (kind_after k s).held
        → Takes (Some step) s.setup.addr job ⊎ IsHeldFor job s.held
    by_kind (kinds.Heard as_what) is own h = inr h
    by_kind (kinds.Assigned j tc ready) is own h = placed_here j tc ready is own
        (held_placed job j tc s.held h)
    by_kind (kinds.Submitted j outcome) is own h = inr h
    by_kind (kinds.Ran j ran result) is own h = inr (held_without job j s.held h)
    by_kind (kinds.Finished j) is own h = inr h
    by_kind (kinds.Unreported j) is own h = inr h
    by_kind (kinds.Opened archives) is own h = inr h

    by_test : (b : Bool) → same_addr step.server s.setup.addr ≡ b
        → IsHeldFor job (cond b (kind_after step.kind s) s).held → Takes (Some step) s.setup.addr job
        ⊎ IsHeldFor job s.held
    by_test true is h = by_kind step.kind refl (same_is step.server s.setup.addr is) h
    by_test false is h = inr h

-- ---- the entries of a front

-- that an entry before place n takes the job, in the life that the server is in at n
pub record Took (s : SetupServer) (log : List Entry) (n : ℕ) (job : JobId) : Type 0 where
  pub place : ℕ
  pub before : place < n
  pub entry : Entry
  pub there : slice_get log place ≡ Some entry
  pub takes : Takes entry.step s.addr job
  pub lives : (server_of s (take (suc place) log)).life ≡ (server_of s (take n log)).life

take_none : {X : Type 0} (xs : List X) (n : ℕ) → slice_get xs n ≡ None → take (suc n) xs ≡ take n xs
take_none [] zero e = refl
take_none [] (suc n) e = refl
take_none (x ∷ xs) zero e = absurd cc
take_none (x ∷ xs) (suc n) e = ap (λ (ys : List _). x ∷ ys) (take_none xs n e)

pub take_some : {X : Type 0} (xs : List X) (n : ℕ) (x : X) → slice_get xs n ≡ Some x
    → take (suc n) xs ≡ take n xs ++ x ∷ []
take_some [] n x e = absurd cc
take_some {X = X} (y ∷ ys) zero x e = ap (λ (z : X). z ∷ []) (same_Some y x e)
take_some (y ∷ ys) (suc n) x e = ap (λ (zs : List _). y ∷ zs) (take_some ys n x e)

after_held : (s : ServerNow) (r : Option (List ℕ × ℕ)) (step : Option Step) (job : JobId)
    → IsHeldFor job (stepped step (restarted r s)).held
    → Takes step s.setup.addr job ⊎ (IsHeldFor job s.held × ((stepped step (restarted r s)).life ≡ s.life))
after_held s None step job h = by_step (step_held step s job h)
  where
    by_step : Takes step s.setup.addr job ⊎ IsHeldFor job s.held → Takes step s.setup.addr job
        ⊎ (IsHeldFor job s.held × ((stepped step s).life ≡ s.life))
    by_step (inl t) = inl t
    by_step (inr k) = inr (k, step_life step s)
after_held s (Some p) step job h = by_step (step_held step (restarted (Some p) s) job h)
  where
    by_step : Takes step s.setup.addr job ⊎ IsHeldFor job [] → Takes step s.setup.addr job
        ⊎ (IsHeldFor job s.held × ((stepped step (restarted (Some p) s)).life ≡ s.life))
    by_step (inl t) = inl t
    by_step (inr k) = let none : None ≡ Some k.0 = k.1 in absurd cc

pub held_took : (s : SetupServer) (log : List Entry) (n : ℕ) (job : JobId) (tc : List ℕ)
    → held_for job (server_of s (take n log)).held ≡ Some tc → Took s log n job
held_took s log zero job tc e = let none : None ≡ Some tc = e in absurd cc
held_took s log (suc n) job tc e = by_entry (slice_get log n) refl (held_took s log n job)
  where
    by_none : take (suc n) log ≡ take n log → Took s log n job → Took s log (suc n) job
    by_none same t = record {
      place = t.place;
      before = omega (arith, t.before);
      entry = t.entry;
      there = t.there;
      takes = t.takes;
      lives = t.lives ∙ ap (λ (l : List Entry). (server_of s l).life) (sym same);
    }

    by_after : (x : Entry) → slice_get log n ≡ Some x → server_of s (take (suc n) log) ≡ stepped x.step
        (restarted (restart_by (server_of s (take n log)).setup.addr x.event.kind) (server_of s (take n log)))
        → ((t : List ℕ) → held_for job (server_of s (take n log)).held ≡ Some t → Took s log n job)
        → Takes x.step (server_of s (take n log)).setup.addr job
        ⊎ (IsHeldFor job (server_of s (take n log)).held
        × ((stepped x.step (restarted (restart_by (server_of s (take n log)).setup.addr x.event.kind)
        (server_of s (take n log)))).life ≡ (server_of s (take n log)).life))
        → Took s log (suc n) job
    by_after x at is rec (inl t) = record {
      place = n;
      before = omega arith;
      entry = x;
      there = at;
      takes = subst (λ (a : Addr). Takes x.step a job)
          (ap (λ (y : SetupServer). y.addr) (server_setup s (take n log))) t;
      lives = refl;
    }
    by_after x at is rec (inr (h, life)) =
        let t = rec h.0 h.1 in
        record {
          place = t.place;
          before = omega (arith, t.before);
          entry = t.entry;
          there = t.there;
          takes = t.takes;
          lives = t.lives ∙ sym (ap (λ (y : ServerNow). y.life) is ∙ life);
        }

    by_entry : (o : Option Entry) → slice_get log n ≡ o
        → ((t : List ℕ) → held_for job (server_of s (take n log)).held ≡ Some t → Took s log n job)
        → Took s log (suc n) job
    by_entry None at rec = let same = take_none log n at
        in by_none same (rec tc (ap (λ (l : List Entry). held_for job (server_of s l).held) (sym same) ∙ e))
    by_entry (Some x) at rec =
        let is = ap (server_of s) (take_some log n x at) ∙ server-push s (take n log) x in
        by_after x at is rec (after_held (server_of s (take n log))
        (restart_by (server_of s (take n log)).setup.addr x.event.kind) x.step job
        (tc, ap (λ (y : ServerNow). held_for job y.held) (sym is) ∙ e))
