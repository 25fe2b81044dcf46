use Rattle.std.proofs.Common.{refl, ◌∙◌, ap}
use Rattle.build_server.specs.Books.{without_job}
use Rattle.build_server.proofs.TableLemmas.{removed}
use Rattle.build_server.proofs.table.HeldTable.remove.Goals as goal

pub returns : goal.returns
returns c = record {
  removed = c.remove.ensures.entries ∙ removed _ (λ a b. refl) _ c.args.job c.len-count.ensures.ordered
      ∙ ap (without_job c.args.job) c.self.view_is;
}
