use Rattle.std.proofs.Common.{refl, subst}
use Rattle.slab.specs.Slab.{with_value}
use Rattle.lru_metered.specs.declared.index.Entry.{Entry}
use Rattle.lru_metered.specs.Listing.{Renewed}
use Rattle.lru_metered.proofs.TableLemmas.{renewed-from}
use Rattle.lru_metered.proofs.listing.renew.Goals as goal

pub returns-clause-renewed : goal.returns-clause-renewed
returns-clause-renewed g c =
    let e = c.item_mut-entry.result.now in let mid = c.promote.new.chain
    in let w : Entry g.row.K.Denot g.row.V.Denot =
    record { key = c.args.key; value = c.replace.new.dest; next = e.next } in
    subst (λ v. Renewed c.args.nodes.now
    (record { items = with_value mid.items c.args.at w; order = mid.order }) c.args.at (c.args.key, v))
    c.replace.ensures.after
    (renewed-from c.args.nodes.now mid c.args.at e w c.requires.full c.requires.listed c.promote.ensures.order
    c.promote.ensures.items c.item_mut-entry.ensures.value refl)
