use Rattle.std.proofs.Common.{◌≡◌, ◌≤◌, ◌<◌, ◌∙◌, length, take, ap, subst, arith, get_or}
use Rattle.std.proofs.Common.{None}
use Rattle.std.proofs.lemmas.List.{length-map, length-replicate, take_all}
use Rattle.row_index.specs.Slots.{rows_in, top}
use Rattle.row_index.proofs.RankLemmas.{rows_few, above_front, more_rows, top_all, no_rows, in_range}
use Rattle.row_index.proofs.ranked_rows.Ranks.renewed.Goals as goal

pub loop-row-init : goal.loop-row-init
loop-row-init g c = (
  (
    ap (λ r. rows_in r.places) c.in_ok-ranks.ensures ∙ no_rows g.row.T.Denot c.args.places,
    ap (λ r. r.numbers) c.in_ok-ranks.ensures,
  ),
  ap (λ r. length r.places) c.in_ok-ranks.ensures
      ∙ length-replicate c.args.places None,
)

pub push_if-requires-clause-room : goal.push_if-requires-clause-room
push_if-requires-clause-room g c =
    let few = rows_few c.args.self.now.places c.loop-row.row-index in
    let own : length c.loop-row.ranks.numbers
    ≡ length (rows_in (take c.loop-row.row-index c.args.self.now.places)) =
    ap length c.loop-row.invariant.0.1
    ∙ length-map (rows_in (take c.loop-row.row-index c.args.self.now.places))
    g.T.Numbered.number_of in
    omega (arith, few, own, c.loop-row.invariant.1, c.requires)

pub push_if-requires-clause-above : goal.push_if-requires-clause-above
push_if-requires-clause-above g c =
    let places = c.args.self.now.places in
    let list : c.places-row-items.result.now ≡ places =
    c.places-row-items.ensures ∙ ap (λ s. s.places) c.self.view_is in
    let lt : c.loop-row.row-index < length places =
    subst (λ l. c.loop-row.row-index < length l) list c.loop-row-test.true in
    rw c.loop-row.invariant.0.1 (above_front g.T.Numbered.number_of places c.loop-row.row-index
    c.row-item.result
    (rw (← c.self.view_is) c.used-used.ensures.rising)
    (subst (λ l. c.row-item.result ≡ get_or l c.loop-row.row-index c.row-item.result) list c.row-item.is
    ∙ in_range places c.loop-row.row-index c.row-item.result None lt))

pub loop-row-preserved : goal.loop-row-preserved
loop-row-preserved g c =
    let places = c.args.self.now.places in
    let list : c.places-row-items.result.now ≡ places =
    c.places-row-items.ensures ∙ ap (λ s. s.places) c.self.view_is in
    let lt : c.loop-row.row-index < length places =
    subst (λ l. c.loop-row.row-index < length l) list c.loop-row-test.true in (
      more_rows g.T.Numbered.number_of places c.loop-row.row-index c.row-item.result
          (rows_in c.loop-row.ranks.places)
          (rows_in c.push_if.new.ranks.places) c.loop-row.ranks.numbers c.push_if.new.ranks.numbers lt
          (subst (λ l. c.row-item.result ≡ get_or l c.loop-row.row-index c.row-item.result) list c.row-item.is
          ∙ in_range places c.loop-row.row-index c.row-item.result None lt)
          c.loop-row.invariant.0 c.push_if.ensures.rows c.push_if.ensures.numbers,
      c.push_if.ensures.len ∙ c.loop-row.invariant.1,
    )

pub returns-clause-top : goal.returns-clause-top
returns-clause-top g c =
    let places = c.args.self.now.places in
    let list : c.places-row-items.result.now ≡ places =
    c.places-row-items.ensures ∙ ap (λ s. s.places) c.self.view_is in
    let whole : take c.loop-row.row-index places ≡ places = take_all c.loop-row.row-index places
    (subst (λ l. length l ≤ c.loop-row.row-index) list c.loop-row-test.false) in
    rw (c.loop-row.invariant.0.1, whole)
    (top_all g.T.Numbered.number_of (top c.args.self.now.numbers) (rows_in places)
    (rw (← c.self.view_is) c.used-used.ensures.below))
