use Rattle.std.proofs.Common.{sym, Some}
use Rattle.std.proofs.lemmas.List.{map-set}
use Rattle.row_index.specs.Ranks.{key_in}
use Rattle.row_index.proofs.RankLemmas.{put_looks}
use Rattle.row_index.proofs.ranked_rows.Ranks.put_at.Goals as goal

pub invariant_of-self : goal.invariant_of-self
invariant_of-self g c =
    let places = c.self.inside.slots.places in
    let row = c.args.row in
    rw (
      c.put.ensures.places,
      c.enter.ensures.keys,
      c.enter-2.ensures.keys,
      c.enter-3.ensures.keys,
      c.load_key-2.ensures,
      c.error_key-2.ensures,
      c.sign_key-2.ensures,
      c.self.invariant.by_load,
      c.self.invariant.by_error,
      c.self.invariant.by_sign,
    ) (record {
      by_load = sym (map-set (key_in g.T.Ranked.load_of) places c.args.place (Some row));
      by_error = sym (map-set (key_in g.T.Ranked.error_of) places c.args.place (Some row));
      by_sign = sym (map-set (key_in g.T.Ranked.sign_of) places c.args.place (Some row));
    })

pub returns-clause-looks : goal.returns-clause-looks
returns-clause-looks g c = rw (← c.self.view_is)
    (put_looks g.T.Ranked.load_of g.T.Ranked.error_of
    g.T.Ranked.sign_of c.self.inside.slots.places c.self.inside.loads c.self.inside.errors
    c.self.inside.signs
    (Some c.args.old.now) (Some c.args.row) c.args.steps.now c.enter.new.steps c.enter-2.new.steps
    c.enter-3.new.steps
    c.self.invariant (rw (c.load_key.ensures, c.load_key-2.ensures) at c.enter.ensures.looks)
    (rw (c.error_key.ensures, c.error_key-2.ensures) at c.enter-2.ensures.looks)
    (rw (c.sign_key.ensures, c.sign_key-2.ensures) at c.enter-3.ensures.looks))
