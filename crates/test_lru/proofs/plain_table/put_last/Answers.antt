use Rattle.std.proofs.Common.{true≢false, sym, ◌<◌, ◌++◌, ◌∷◌, [], ◌∙◌, ap, arith, Result, Ok, Err, OnOk}
use Rattle.std.proofs.Common.{IsOk}
use Rattle.indexmap.specs.IndexMap.{spare}
use Rattle.indexmap.proofs.CallerLemmas.{insert_entry-new}
use Rattle.test_lru.proofs.plain_table.put_last.Goals as goal

-- what holds at `Ok`, of a call that answered `Ok`
at_ok : {A E P : Type 0} (r : Result A E) → IsOk r → OnOk r P → P
at_ok (Ok x) ok p = p
at_ok (Err e) ok p = absurd (true≢false (sym ok))

pub returns-clause-pairs : goal.returns-clause-pairs
returns-clause-pairs g c =
    let left = c.shift_remove-old.new.self in
    let room : 0 < spare left = omega (arith, c.requires, c.shift_remove-old.ensures.room.0) in
    at_ok c.insert.result (c.insert.ensures.succeeds room) c.insert.ensures.entries
    ∙ insert_entry-new g.K.PartialEq.eq left c.args.key c.args.value c.shift_remove-old.ensures.updates.1
    ∙ ap (λ ps. ps ++ (c.args.key, c.args.value) ∷ []) c.shift_remove-old.ensures.entries
