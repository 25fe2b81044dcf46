-- What one more entry does to the registrations that stand.
use Rattle.std.proofs.Common.{◌≡◌, ℕ, List, [], ◌∷◌, ◌++◌, Bool, true, false, cond, not, ◌&&◌, ◌||◌, map}
use Rattle.std.proofs.Common.{filter, Option, Some, refl, ap, ◌∙◌, sym, subst, append_assoc}
use Rattle.std.specs.Prelude.{option_to_list}
use Rattle.std.specs.List.{list_any, filter_map}
use Rattle.std.specs.Option.{option_map}
use Rattle.std.proofs.lemmas.List.Elements.{filter-append, filter_map-append}
use Rattle.std.proofs.lemmas.Option.{cond_some}
use Rattle.core_rules.specs.Cuts.{Cut, cuts}
use Rattle.core_rules.proofs.Lists.{filter-map, list_any-push, followed, cuts_behind-push}
use Rattle.core_rules.proofs.Lists.{end_cut, cons_nil, latest-push}
use Rattle.core_rules.proofs.InLog.{GrowsIn, lasting_in-push}
use Rattle.core_rules.specs.declared.entry.CoreEntry.{CoreEntry}
use Rattle.core_rules.specs.declared.entry.CoreKind.{CoreKind}
use Rattle.core_rules.specs.declared.entry.CoreKind.TheVariants.{Beat, Reserve, Commit, Undo, Update}
use Rattle.core_rules.specs.declared.entry.CoreKind.TheVariants.{Status, Drain}
use Rattle.core_rules.specs.Log.{latest}
use Rattle.core_rules.specs.Standing.{Registered, registered_by, registered_at, ends_by, stands, standing}
use Rattle.core_rules.specs.Standing.{renews_by, serves, is_sign, last_sign, drains_by, is_draining}
use Rattle.core_rules.specs.Next.{draining_after}

-- the registration, with one more entry after it
abbrev pub grown : CoreEntry → Registered → Registered
grown e g = record g { later = g.later ++ e ∷ [] }

pub registered-grown : (k : CoreKind) (now : ℕ) (before : List CoreEntry) (at : CoreEntry)
    (later : List CoreEntry) (e : CoreEntry) → registered_by k now before at (later ++ e ∷ []) ≡ option_map
    (grown e) (registered_by k now before at later)
registered-grown (Beat server nonce cpus key pruned reaped replaced true) now before at later e = refl
registered-grown (Beat server nonce cpus key pruned reaped replaced false) now before at later e = refl
registered-grown (Reserve r) now before at later e = refl
registered-grown (Commit job state kept) now before at later e = refl
registered-grown (Undo job noted was_ended) now before at later e = refl
registered-grown (Update server job state answer) now before at later e = refl
registered-grown (Status pruned servers cpus jobs) now before at later e = refl
registered-grown (Drain addr nonce on named) now before at later e = refl

not_or : (a b : Bool) → not (a || b) ≡ (not a && not b)
not_or true b = refl
not_or false b = refl

-- a test of no later entry, with one more
pub none-push : (p : CoreEntry → Bool) (later : List CoreEntry) (e : CoreEntry)
    → not (list_any p (later ++ e ∷ [])) ≡ (not (list_any p later) && not (p e))
none-push p later e = ap not (list_any-push p later e) ∙ not_or (list_any p later) (p e)

pub registered_fresh : (k : CoreKind) (now : ℕ) (before : List CoreEntry) (at : CoreEntry)
    (later : List CoreEntry) → later ≡ []
    → filter stands (option_to_list (registered_by k now before at later)) ≡ option_to_list
    (registered_by k now before at later)
registered_fresh k now before at later none =
    subst (λ l. filter stands (option_to_list (registered_by k now before at l)) ≡ option_to_list
    (registered_by k now before at l)) (sym none) (at_none k)
  where
    at_none : (k : CoreKind) → filter stands (option_to_list (registered_by k now before at []))
        ≡ option_to_list (registered_by k now before at [])
    at_none (Beat server nonce cpus key pruned reaped replaced true) = refl
    at_none (Beat server nonce cpus key pruned reaped replaced false) = refl
    at_none (Reserve r) = refl
    at_none (Commit job state kept) = refl
    at_none (Undo job noted was_ended) = refl
    at_none (Update server job state answer) = refl
    at_none (Status pruned servers cpus jobs) = refl
    at_none (Drain addr nonce on named) = refl

-- what is registered at a cut has the whole log in its two parts
pub registered_whole : (k : CoreKind) (now : ℕ) (before : List CoreEntry) (at : CoreEntry)
    (later : List CoreEntry) (g : Registered) → registered_by k now before at later ≡ Some g
    → g.earlier ++ g.later ≡ before ++ at ∷ later
registered_whole (Beat server nonce cpus key pruned reaped replaced is_new) now before at later g e = let h =
    cond_some is_new _ _ e in ap (λ (x : Registered). x.earlier ++ x.later) (sym h.1)
    ∙ append_assoc before (at ∷ []) later
registered_whole (Reserve r) now before at later g e = cc
registered_whole (Commit job state kept) now before at later g e = cc
registered_whole (Undo job noted was_ended) now before at later g e = cc
registered_whole (Update server job state answer) now before at later g e = cc
registered_whole (Status pruned servers cpus jobs) now before at later g e = cc
registered_whole (Drain addr nonce on named) now before at later g e = cc

abbrev moment_of : Cut CoreEntry → ℕ
moment_of c = c.at.now

latest-append : (first : ℕ) (cs : List (Cut CoreEntry)) (b : Bool) (c : Cut CoreEntry)
    → latest first (map moment_of (cs ++ cond b (c ∷ []) [])) ≡ cond b c.at.now
    (latest first (map moment_of cs))
latest-append first [] true c = refl
latest-append first [] false c = refl
latest-append first (d ∷ ds) b c = latest-append d.at.now ds b c

latest-followed : (e : CoreEntry) (first : ℕ) (cs : List (Cut CoreEntry))
    → latest first (map moment_of (map (followed e) cs)) ≡ latest first (map moment_of cs)
latest-followed e first [] = refl
latest-followed e first (c ∷ cs) = latest-followed e c.at.now cs

and_true : (b : Bool) → (b && true) ≡ b
and_true true = refl
and_true false = refl

-- one more entry is the last sign of a registration that stands where it renews it, or serves one of its jobs
pub last_sign-grown : (log : List CoreEntry) (e : CoreEntry) (g : Registered) → g.earlier ++ g.later ≡ log
    → stands g ≡ true → last_sign (grown e g) ≡ cond (renews_by e.kind g.server || serves log e.kind g.reg)
    e.now (last_sign g)
last_sign-grown log e g whole up =
    ap (λ cs. latest g.now (map moment_of cs))
    (ap (filter (is_sign g.server g.reg g.earlier)) (cuts_behind-push [] g.later e)
    ∙ filter-append (is_sign g.server g.reg g.earlier) (map (followed e) (cuts g.later))
    (end_cut g.later e ∷ [])
    ∙ ap (λ cs. cs ++ filter (is_sign g.server g.reg g.earlier) (end_cut g.later e ∷ []))
    (filter-map (is_sign g.server g.reg g.earlier) (followed e) (cuts g.later)))
    ∙ latest-append g.now (map (followed e) (filter (is_sign g.server g.reg g.earlier) (cuts g.later))) _
    (end_cut g.later e)
    ∙ ap (λ t. cond ((renews_by e.kind g.server && stands g) || serves (g.earlier ++ g.later) e.kind g.reg)
    e.now t) (latest-followed e g.now (filter (is_sign g.server g.reg g.earlier) (cuts g.later)))
    ∙ ap (λ b. cond ((renews_by e.kind g.server && b) || serves (g.earlier ++ g.later) e.kind g.reg) e.now
    (last_sign g)) up
    ∙ ap (λ b. cond (b || serves (g.earlier ++ g.later) e.kind g.reg) e.now (last_sign g))
    (and_true (renews_by e.kind g.server))
    ∙ ap (λ l. cond (renews_by e.kind g.server || serves l e.kind g.reg) e.now (last_sign g)) whole

-- whether a registration is draining, with one more entry
pub draining-grown : (e : CoreEntry) (g : Registered) → is_draining (grown e g) ≡ draining_after e.kind g.reg
    (is_draining g)
draining-grown e g =
    let said : CoreEntry → Option Bool = λ d. drains_by d.kind g.reg in
    ap (latest false) (filter_map-append said g.later (e ∷ [])
    ∙ ap (λ ss. filter_map said g.later ++ ss) (cons_nil (said e)))
    ∙ latest-push false (filter_map said g.later) (said e)

-- any view of the registrations that stand, which one more entry changes as it is told, grows so
pub standing_grows : {B : Type 0} (view : Registered → B) (after : List CoreEntry → CoreEntry → B → B)
    (stays : CoreEntry → B → Bool) →
    ((e : CoreEntry) (g : Registered) → stays e (view g) ≡ not (ends_by e.kind g.reg)) →
    ((log : List CoreEntry) (e : CoreEntry) (g : Registered) → g.earlier ++ g.later ≡ log → stands g ≡ true
    → view (grown e g) ≡ after log e (view g)) →
    GrowsIn registered_at stands view after stays
standing_grows view after stays same changed = record {
  grow = grown;
  made = λ e c. registered-grown c.at.kind c.at.now c.before c.at c.after e;
  lasts_on = λ e g. none-push (λ d. ends_by d.kind g.reg) g.later e ∙ ap (λ b. stands g && b)
      (sym (same e g));
  changed = λ log e c g is from up.
      changed log e g (registered_whole c.at.kind c.at.now c.before c.at c.after g from ∙ is) up;
  fresh = λ c none. registered_fresh c.at.kind c.at.now c.before c.at c.after none;
}

pub standing-push : {B : Type 0} (view : Registered → B) (after : List CoreEntry → CoreEntry → B → B)
    (stays : CoreEntry → B → Bool) →
    ((e : CoreEntry) (g : Registered) → stays e (view g) ≡ not (ends_by e.kind g.reg)) →
    ((log : List CoreEntry) (e : CoreEntry) (g : Registered) → g.earlier ++ g.later ≡ log → stands g ≡ true
    → view (grown e g) ≡ after log e (view g)) →
    (log : List CoreEntry) (e : CoreEntry) → map view (standing (log ++ e ∷ [])) ≡ map (after log e)
    (filter (stays e) (map view (standing log))) ++ option_to_list
    (option_map view (registered_at (end_cut log e)))
standing-push view after stays same changed log e = lasting_in-push registered_at stands view after stays
    (standing_grows view after stays same changed) log e
