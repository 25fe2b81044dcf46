use Rattle.std.proofs.Common.{Some, length, ap, ◌∙◌}
use Rattle.std.specs.Prelude.{nat_eq, slice_get}
use Rattle.row_index.specs.Lookup.{value_at}
use Rattle.quota.specs.Holdings.{share_new}
use Rattle.std.proofs.Common.{refl}
use Rattle.quota.proofs.GrowLemmas.{linked_push, new_is_of}
use Rattle.quota.proofs.ListLemmas.{got_end}
use Rattle.quota.proofs.holdings.other_share.Goals as goal

pub returns-in-None-clause-grown : goal.returns-in-None-clause-grown
returns-in-None-clause-grown c =
    (Some (value_at nat_eq c.args.key.reg c.args.places.now.newest), c.push_share.ensures.shares)

pub returns-in-None-clause-linked : goal.returns-in-None-clause-linked
returns-in-None-clause-linked c =
    let a = c.args in
    rw c.push_share.ensures.shares
    (linked_push a.shares.now.items (λ n. value_at nat_eq n a.places.now.newest)
    (share_new a.key.reg a.key.client (value_at nat_eq a.key.reg a.places.now.newest)) refl c.requires.newest
    c.requires.linked)

pub returns-in-None-clause-found : goal.returns-in-None-clause-found
returns-in-None-clause-found c =
    let a = c.args in
    let s = share_new a.key.reg a.key.client (value_at nat_eq a.key.reg a.places.now.newest) in (
      s,
      ap (slice_get c.push_share.new.shares.items) c.push_share.ensures.place
          ∙ ap (λ l. slice_get l (length a.shares.now.items)) c.push_share.ensures.shares
          ∙ got_end a.shares.now.items s,
      new_is_of a.key.reg a.key.client (value_at nat_eq a.key.reg a.places.now.newest),
    )
