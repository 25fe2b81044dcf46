use Rattle.std.proofs.Common.{◌≡◌, None, refl, sym, ◌∙◌, ap, subst}
use Rattle.build_server.specs.Books.{held_for, placed}
use Rattle.build_server.proofs.TableLemmas.{inserted}
use Rattle.build_server.proofs.table.HeldTable.insert.Goals as goal

pub returns-clause-ok : goal.returns-clause-ok
returns-clause-ok c =
    c.in-Ok.ensures.entries
    ∙ (inserted _ (λ a b. refl) _ c.args.job c.args.tc
    (subst (λ t. held_for c.args.job t ≡ None) (sym c.self.view_is) c.requires.free)
    ∙ ap (placed c.args.job c.args.tc) c.self.view_is)
