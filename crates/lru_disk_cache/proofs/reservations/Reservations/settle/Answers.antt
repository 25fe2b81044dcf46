use Rattle.std.proofs.Common.{rules, ◌∙◌}
use Rattle.std.proofs.lemmas.Fn.{filter_same}
use Rattle.lru_disk_cache.specs.Reserved.{without_number}
use Rattle.lru_disk_cache.proofs.reservations.Reservations.settle.Goals as goal

pub returns : goal.returns
returns c = filter_same _ _ _ (λ x b f' k. search rules) _ _ c.retain.ensures.filtered
    ∙ (λ i. without_number c.args.number (c.self.view_is i))
