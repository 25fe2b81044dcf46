use Rattle.std.proofs.Common.{set, refl, ap, ◌∙◌}
use Rattle.quota.specs.Holdings.{owned_of, owned_in, owned_ended, link_of, share_lowered}
use Rattle.quota.proofs.ListLemmas.{got_read, got_once, map_kept}
use Rattle.quota.proofs.RowLemmas.{owned_lowered, counted_lowered, owned_kept}
use Rattle.quota.proofs.holdings.end_row.Goals as goal

pub lower_share-requires-clause-within : goal.lower_share-requires-clause-within
lower_share-requires-clause-within c = c.requires.counted.placed c.args.place c.at-row.result
    (got_read c.args.rows.now.rows c.args.place c.at-row.result c.requires.within c.at-row.ensures)

pub returns-then-row-clause-owned : goal.returns-then-row-clause-owned
returns-then-row-clause-owned c = λ r is.
    let a = c.args in
    let mine = got_read a.rows.now.rows a.place c.at-row.result c.requires.within c.at-row.ensures in
    let takes = c.lower_share.ensures.taken in
    rw (c.put.ensures.rows, takes.changed)
    (owned_lowered a.rows.now.rows a.shares.now.items a.place c.at-row.result.share c.at-row.result
    takes.share
    takes.at
    ∙ ap (λ q. set (owned_of a.rows.now.rows a.shares.now.items) a.place
    (owned_ended (owned_in a.shares.now.items q)))
    (got_once a.rows.now.rows a.place c.at-row.result r mine is))

pub returns-then-row-clause-counted : goal.returns-then-row-clause-counted
returns-then-row-clause-counted c =
    let a = c.args in
    let mine = got_read a.rows.now.rows a.place c.at-row.result c.requires.within c.at-row.ensures in
    rw c.put.ensures.rows
    (counted_lowered a.rows.now.rows a.shares.now.items c.lower_share.new.shares.items a.held.now.items
    c.lower_share.new.held.items a.place c.at-row.result.share c.at-row.result mine c.if-row.true refl
    c.lower_share.ensures.taken c.requires.counted)

pub returns-then-row-clause-regs : goal.returns-then-row-clause-regs
returns-then-row-clause-regs c =
    let takes = c.lower_share.ensures.taken in
    rw takes.changed (map_kept link_of c.args.shares.now.items c.at-row.result.share takes.share
    (share_lowered takes.share) takes.at refl)

pub returns-else-row-clause-owned : goal.returns-else-row-clause-owned
returns-else-row-clause-owned c = λ r is.
    let a = c.args in
    let mine = got_read a.rows.now.rows a.place c.at-row.result c.requires.within c.at-row.ensures in
    owned_kept a.rows.now.rows a.shares.now.items a.place r is
    (ap (λ q. q.unended) (got_once a.rows.now.rows a.place r c.at-row.result is mine) ∙ c.if-row.false)
