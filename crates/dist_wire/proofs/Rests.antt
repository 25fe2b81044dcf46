-- What one call after another leaves of a list.
use Rattle.std.proofs.Common.{◌≡◌, ℕ, ◌+◌, List, drop, ap, ◌∙◌}
use Rattle.std.proofs.lemmas.List.{drop-drop}
use Rattle.dist_wire.specs.Left.{Ends}

pub behind : {A : Type 0} (whole rest last : List A) → Ends rest whole → Ends last rest → Ends last whole
behind {A} whole rest last p q = record {
  count = p.count + q.count;
  behind = q.behind ∙ ap (λ (xs : List A). drop q.count xs) p.behind ∙ drop-drop q.count p.count whole;
}
