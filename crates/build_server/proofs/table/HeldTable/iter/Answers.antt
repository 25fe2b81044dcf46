use Rattle.std.proofs.Common.{refl, subst}
use Rattle.build_server.specs.Books.{AreRising}
use Rattle.build_server.proofs.TableLemmas.{rising}
use Rattle.build_server.proofs.table.HeldTable.iter.Goals as goal

pub returns-clause-rising : goal.returns-clause-rising
returns-clause-rising c = subst AreRising c.self.view_is (rising _ (λ a b. refl) _ c.iter.ensures.ordered)
