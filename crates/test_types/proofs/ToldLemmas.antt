-- Two calls over a dialer that was lent.
use Rattle.std.proofs.Common.{◌≡◌, ◌≢◌, List, [], ◌∷◌, ◌++◌, Option, Some, None, Err, ap, ◌∙◌, subst}
use Rattle.std.proofs.Common.{append_assoc}
use Rattle.std.specs.Prelude.{ℕ, IfSome, Result}
use Rattle.dist_types.specs.Outgoing.{Lent, Calls, Sends, updated_row}
use Rattle.dist_types.specs.declared.dialer.Asked.{Asked}
use Rattle.dist_types.specs.declared.outgoing.CallFault.{CallFault}
use Rattle.dist_types.specs.declared.outgoing.CallFault.TheVariants.{Memory}
use Rattle.dist_types.specs.declared.results.JobState.{JobState}
use Rattle.dist_types.specs.declared.results.UpdateJobStateResult.{UpdateJobStateResult}
use Rattle.test_types.specs.Told.{IsTold, CallsTwice, ToldTwice}

-- a record that gained a row, where it is told
abbrev Gained : (Asked → Type 0) → Option (List Asked) → Option (List Asked) → Type 0
Gained is_it old new = IfSome old (λ rows. (a : Asked) × (new ≡ Some (rows ++ a ∷ [])) × is_it a)

two_rows : (P Q : Asked → Type 0) (old mid new : Option (List Asked)) → Gained P old mid → Gained Q mid new
    → IfSome old (λ rows. (x : Asked) × (y : Asked) × (new ≡ Some (rows ++ x ∷ y ∷ [])) × P x × Q y)
two_rows P Q None mid new first second = tt
two_rows P Q (Some rows) mid new (a, e, p) second =
    let then : Gained Q (Some (rows ++ a ∷ [])) new = subst (λ m. Gained Q m new) e second in
    let joined = ap (λ (xs : List Asked). Some xs) (append_assoc rows (a ∷ []) (then.0 ∷ [])) in
    (a, then.0, then.1 ∙ joined, p, then.2)

pub told_twice : (job : ℕ) (first second : JobState) (a b : Result UpdateJobStateResult CallFault)
    (old new : Lent) → CallsTwice IsTold job first second a b old new → a ≢ Err Memory → b ≢ Err Memory
    → ToldTwice old.peer job first second a b old.asked new.asked
told_twice job first second a b old new (between, one, other) heard answered =
    let s : Sends (IsTold old.peer (updated_row job first a)) old between = one.sent heard in
    let t : Sends (IsTold old.peer (updated_row job second b)) between new =
    subst (λ p. Sends (IsTold p (updated_row job second b)) between new) s.same_peer (other.sent answered) in
    two_rows (IsTold old.peer (updated_row job first a)) (IsTold old.peer (updated_row job second b))
    old.asked between.asked new.asked s.one t.one
