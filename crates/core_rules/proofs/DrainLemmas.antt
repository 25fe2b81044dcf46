-- Version 1 has no drain, and without drains nothing is draining.
use Rattle.std.proofs.Common.{◌≡◌, ℕ, List, [], ◌∷◌, ◌++◌, true, false, None, refl, ap}
use Rattle.std.proofs.Common.{◌∙◌, sym}
use Rattle.std.specs.List.{AllByRecursion, filter_map, cons_option}
use Rattle.dist_types.specs.declared.rules.Rules.TheVariants.{One, Two}
use Rattle.core_rules.specs.declared.start.Start.{Start}
use Rattle.core_rules.specs.declared.entry.CoreEntry.{CoreEntry}
use Rattle.core_rules.specs.declared.entry.CoreKind.{CoreKind}
use Rattle.core_rules.specs.declared.entry.CoreKind.TheVariants.{Beat, Reserve, Commit, Undo, Update, Status}
use Rattle.core_rules.specs.declared.entry.CoreKind.TheVariants.{Drain}
use Rattle.core_rules.specs.Cuts.{cuts_behind}
use Rattle.core_rules.specs.Log.{latest}
use Rattle.core_rules.specs.Standing.{Registered, registered_by, registered_at, registrations, standing, stands}
use Rattle.core_rules.specs.Standing.{drains_by, drained_in, is_draining}
use Rattle.core_rules.specs.Rows.{row_of}
use Rattle.core_rules.specs.Laws.{IsLegal, HasNoDrain, NothingDrains, is_drain}
use Rattle.core_rules.proofs.AllLemmas.{all-append, all-filter, all-map}
use Rattle.core_rules.proofs.LegalLemmas.{core_of, legal_has}
use Rattle.core_rules.proofs.FactLemmas.{Facts, facts}

-- in version 1 an entry of the rule is no drain
no_drain : (start : Start) (log : List CoreEntry) (k : CoreKind) → start.rules ≡ One
    → Facts (core_of start log) k → is_drain k ≡ false
no_drain start log (Drain addr nonce on named) one is = let two : One ≡ Two = sym one ∙ is.0 in cc
no_drain start log (Beat server nonce cpus key pruned reaped replaced is_new) one is = refl
no_drain start log (Reserve r) one is = refl
no_drain start log (Commit job state kept) one is = refl
no_drain start log (Undo job noted was_ended) one is = refl
no_drain start log (Update server job state answer) one is = refl
no_drain start log (Status pruned servers cpus jobs) one is = refl

pub legal_undrained : (start : Start) (log : List CoreEntry) → start.rules ≡ One → IsLegal start log
    → HasNoDrain log
legal_undrained start log one legal =
    legal_has start HasNoDrain tt
    (λ l e none is. all-append (λ d. is_drain d.kind ≡ false) l (e ∷ []) none
    (no_drain start l e.kind one (facts (core_of start l) e is), tt)) log legal

says_nothing : (k : CoreKind) (reg : ℕ) → is_drain k ≡ false → drains_by k reg ≡ None
says_nothing (Drain addr nonce on named) reg none = cc
says_nothing (Beat server nonce cpus key pruned reaped replaced is_new) reg none = refl
says_nothing (Reserve r) reg none = refl
says_nothing (Commit job state kept) reg none = refl
says_nothing (Undo job noted was_ended) reg none = refl
says_nothing (Update server job state answer) reg none = refl
says_nothing (Status pruned servers cpus jobs) reg none = refl

undrained : (entries : List CoreEntry) (reg : ℕ) → HasNoDrain entries → drained_in entries reg ≡ false
undrained [] reg none = refl
undrained (e ∷ es) reg none =
    ap (λ o. latest false (cons_option o (filter_map (λ d. drains_by d.kind reg) es)))
    (says_nothing e.kind reg none.0) ∙ undrained es reg none.1

made_undrained : (k : CoreKind) (now : ℕ) (before : List CoreEntry) (at : CoreEntry) (later : List CoreEntry)
    (gs : List Registered) → HasNoDrain later → AllByRecursion (λ g. is_draining g ≡ false) gs
    → AllByRecursion (λ g. is_draining g ≡ false) (cons_option (registered_by k now before at later) gs)
made_undrained (Beat server nonce cpus key pruned reaped replaced true) now before at later gs none all =
    (undrained later _ none, all)
made_undrained (Beat server nonce cpus key pruned reaped replaced false) now before at later gs none all = all
made_undrained (Reserve r) now before at later gs none all = all
made_undrained (Commit job state kept) now before at later gs none all = all
made_undrained (Undo job noted was_ended) now before at later gs none all = all
made_undrained (Update server job state answer) now before at later gs none all = all
made_undrained (Status pruned servers cpus jobs) now before at later gs none all = all
made_undrained (Drain addr nonce on named) now before at later gs none all = all

undrained_from : (front log : List CoreEntry) → HasNoDrain log
    → AllByRecursion (λ g. is_draining g ≡ false) (filter_map registered_at (cuts_behind front log))
undrained_from front [] none = tt
undrained_from front (e ∷ es) none =
    made_undrained e.kind e.now front e es (filter_map registered_at (cuts_behind (front ++ e ∷ []) es))
    none.1 (undrained_from (front ++ e ∷ []) es none.1)

pub quiet : (log : List CoreEntry) → HasNoDrain log → NothingDrains log
quiet log none =
    all-map (λ row. row.draining ≡ false) (row_of log) (standing log)
    (all-filter (λ g. is_draining g ≡ false) (λ g. is_draining g ≡ false) stands (λ g h up. h)
    (registrations log) (undrained_from [] log none))
