-- What a core entry's line says is its one text, and that text is read.
use Rattle.std.proofs.Common.{◌≡◌, ℕ, true, List, [], ◌∷◌, ◌++◌, Option, Some, codes, refl, sym, ap, subst, ◌∙◌}
use Rattle.std.specs.List.{list_all}
use Rattle.dist_types.specs.Addr.{◌>>=◌}
use Rattle.dist_types.proofs.AddrLemmas.{bind_some}
use Rattle.core_rules.specs.declared.entry.CoreKind.{CoreKind}
use Rattle.core_rules.specs.declared.entry.CoreKind.TheVariants as core
use Rattle.farm_script.specs.Words.{first_word, is_visible}
use Rattle.farm_script.proofs.WordLemmas.{IsReader, bind_is, visible_lacks, first_word_sound, first_word_complete}
use Rattle.farm_entries.specs.Printed.{reserved_text, core_text}
use Rattle.run_lines.specs.Grammar.{CoreFits}
use Rattle.run_lines.specs.CoreLines.{reserved_at, core_behind, core_at}
use Rattle.run_lines.proofs.FieldLemmas.{Exact, pre, at_word, then_word, this_value}
use Rattle.run_lines.proofs.KindLemmas.{reserved_law}
use Rattle.run_lines.proofs.CoreChains.{commit_sound, commit_complete, undo_sound, undo_complete, beat_sound}
use Rattle.run_lines.proofs.CoreChains.{beat_complete, update_sound, update_complete, status_sound, status_complete}
use Rattle.run_lines.proofs.CoreChains.{drain_sound, drain_complete}

reserve_sound : (t : List ℕ) (k : CoreKind) → (reserved_at t >>= λ r. Some (core.Reserve r)) ≡ Some k
    → Exact core_text CoreFits (pre (codes "reserve ") t) k
reserve_sound t k e =
    let a = bind_some (reserved_at t) (λ r. Some (core.Reserve r)) k e in
    let s = reserved_law.sound t a.0 a.1 in
    this_value core_text CoreFits (pre (codes "reserve ") t) (core.Reserve a.0) k a.2
    (ap (pre (codes "reserve ")) s.0) s.1

behind_sound : (w t : List ℕ) (k : CoreKind) → core_behind w t ≡ Some k
    → Exact core_text CoreFits (w ++ 32 ∷ t) k
behind_sound w t k e =
    then_word (codes "reserve") w _ _ k (Exact core_text CoreFits (w ++ 32 ∷ t) k) e
    (λ is f. at_word core_text CoreFits (codes "reserve ") (codes "reserve") w t k is refl (reserve_sound t k f))
    (λ e1. then_word (codes "commit") w _ _ k (Exact core_text CoreFits (w ++ 32 ∷ t) k) e1
    (λ is f. at_word core_text CoreFits (codes "commit ") (codes "commit") w t k is refl (commit_sound t k f))
    (λ e2. then_word (codes "undo") w _ _ k (Exact core_text CoreFits (w ++ 32 ∷ t) k) e2
    (λ is f. at_word core_text CoreFits (codes "undo ") (codes "undo") w t k is refl (undo_sound t k f))
    (λ e3. then_word (codes "beat") w _ _ k (Exact core_text CoreFits (w ++ 32 ∷ t) k) e3
    (λ is f. at_word core_text CoreFits (codes "beat ") (codes "beat") w t k is refl (beat_sound t k f))
    (λ e4. then_word (codes "update") w _ _ k (Exact core_text CoreFits (w ++ 32 ∷ t) k) e4
    (λ is f. at_word core_text CoreFits (codes "update ") (codes "update") w t k is refl (update_sound t k f))
    (λ e5. then_word (codes "status") w _ _ k (Exact core_text CoreFits (w ++ 32 ∷ t) k) e5
    (λ is f. at_word core_text CoreFits (codes "status ") (codes "status") w t k is refl (status_sound t k f))
    (λ e6. then_word (codes "drain") w _ _ k (Exact core_text CoreFits (w ++ 32 ∷ t) k) e6
    (λ is f. at_word core_text CoreFits (codes "drain ") (codes "drain") w t k is refl (drain_sound t k f))
    (λ e7. absurd cc)))))))

core_sound : (t : List ℕ) (k : CoreKind) → core_at t ≡ Some k → Exact core_text CoreFits t k
unfolding core_at
core_sound t k e =
    let a = bind_some (first_word t) (λ w. core_behind w.0 w.1) k e in
    subst (λ (x : List ℕ). Exact core_text CoreFits x k) (sym (first_word_sound t a.0.0 a.0.1 a.1))
    (behind_sound a.0.0 a.0.1 k a.2)

-- a core entry is read by its word
by_word : (word r t : List ℕ) (k : Option CoreKind) → list_all is_visible word ≡ true
    → t ≡ word ++ 32 ∷ r → core_behind word r ≡ k → core_at t ≡ k
unfolding core_at
by_word word r t k visible spelled h = ap core_at spelled
    ∙ bind_is (first_word (word ++ 32 ∷ r)) _ (word, r) k
    (first_word_complete word r (visible_lacks word visible)) h

core_complete : (t : List ℕ) (k : CoreKind) → Exact core_text CoreFits t k → core_at t ≡ Some k
core_complete t (core.Reserve r) is = by_word (codes "reserve") (reserved_text r) t _ refl is.0
    (bind_is (reserved_at (reserved_text r)) (λ x. Some (core.Reserve x)) r (Some (core.Reserve r))
    (reserved_law.complete (reserved_text r) r (refl, is.1)) refl)
core_complete t (core.Commit job state kept) is = by_word (codes "commit") _ t _ refl is.0
    (commit_complete job state kept is.1)
core_complete t (core.Undo job noted ended) is = by_word (codes "undo") _ t _ refl is.0
    (undo_complete job noted ended is.1)
core_complete t (core.Beat server nonce cpus key pruned reaped replaced is_new) is =
    by_word (codes "beat") _ t _ refl is.0
    (beat_complete server nonce cpus pruned reaped replaced is_new
    (is.1.0, is.1.1, is.1.2, refl, is.1.4, is.1.5, is.1.6)
    ∙ ap (λ (x : List ℕ). Some (core.Beat server nonce cpus x pruned reaped replaced is_new)) (sym is.1.3))
core_complete t (core.Update server job state answer) is = by_word (codes "update") _ t _ refl is.0
    (update_complete server job state answer is.1)
core_complete t (core.Status pruned servers cpus jobs) is = by_word (codes "status") _ t _ refl is.0
    (status_complete pruned servers cpus jobs is.1)
core_complete t (core.Drain server nonce on reg) is = by_word (codes "drain") _ t _ refl is.0
    (drain_complete server nonce on reg is.1)

pub core_law : IsReader core_at (Exact core_text CoreFits)
core_law = record { sound = core_sound; complete = core_complete }
