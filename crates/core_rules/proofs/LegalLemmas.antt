-- What each legal entry keeps, each legal log has.
use Rattle.std.proofs.Common.{List, [], ◌∷◌, ◌++◌, sym, subst, append-nil, append_assoc}
use Rattle.core_rules.specs.declared.start.Start.{Start}
use Rattle.core_rules.specs.declared.entry.CoreEntry.{CoreEntry}
use Rattle.core_rules.specs.Log.{Core}
use Rattle.core_rules.specs.Laws.{IsRule, IsLegal, IsLegalBehind}

-- the scheduler with this log
abbrev pub core_of : Start → List CoreEntry → Core
core_of start log = record { start = start; log = log }

pub legal_from : (start : Start) (P : List CoreEntry → Type 0)
    → ((log : List CoreEntry) (e : CoreEntry) → P log → IsRule (core_of start log) e → P (log ++ e ∷ []))
    → (front log : List CoreEntry) → P front → IsLegalBehind start front log → P (front ++ log)
legal_from start P step front [] p legal = subst P (sym (append-nil front)) p
legal_from start P step front (e ∷ es) p legal = subst P (append_assoc front (e ∷ []) es)
    (legal_from start P step (front ++ e ∷ []) es (step front e p legal.0) legal.1)

-- what holds of the empty log, and of one more legal entry, holds of each legal log
pub legal_has : (start : Start) (P : List CoreEntry → Type 0) → P []
    → ((log : List CoreEntry) (e : CoreEntry) → P log → IsRule (core_of start log) e → P (log ++ e ∷ []))
    → (log : List CoreEntry) → IsLegal start log → P log
legal_has start P none step log legal = legal_from start P step [] log none legal

-- one more legal entry
pub legal-push : (start : Start) (front log : List CoreEntry) (e : CoreEntry)
    → IsLegalBehind start front log → IsRule (core_of start (front ++ log)) e
    → IsLegalBehind start front (log ++ e ∷ [])
legal-push start front [] e legal is =
    (subst (λ l. IsRule (core_of start l) e) (append-nil front) is, tt)
legal-push start front (x ∷ xs) e legal is = (
  legal.0,
  legal-push start (front ++ x ∷ []) xs e legal.1
      (subst (λ l. IsRule (core_of start l) e) (sym (append_assoc front (x ∷ []) xs)) is),
)
