use Rattle.std.proofs.Common.{◌≡◌, ◌<◌, ◌∙◌, ap, sym, subst, Some, List, ℕ}
use Rattle.std.specs.Option.{option_map}
use Rattle.farm_script.specs.Fields.{number_at}
use Rattle.run_lines.specs.Fields.{items_behind}
use Rattle.run_lines.proofs.PartLemmas.{put_before, room_of, items_step, items_stop, part_room}
use Rattle.run_lines.proofs.lists.numbers_behind.Goals as goal

pub loop-left-smaller : goal.loop-left-smaller
loop-left-smaller c =
    let less : room_of (option_map (λ rest. rest.now) c.in-Ok.rest) < room_of (Some c.in-Some.text.now) =
    part_room number_at c.in-Some.text.now c.in-Ok.value (option_map (λ rest. rest.now) c.in-Ok.rest)
    c.in-Ok.ensures in
    subst (λ o. room_of (option_map (λ rest. rest.now) c.in-Ok.rest) < room_of
    (option_map (λ rest. rest.now) o)) (sym c.in-Some.is) less

pub loop-left-preserved : goal.loop-left-preserved
loop-left-preserved c =
    let so_far : put_before c.loop-left.list.items (items_behind number_at (Some c.in-Some.text.now))
    ≡ items_behind number_at (option_map (λ rest. rest.now) c.args.behind) =
    rw c.in-Some.is at c.loop-left.invariant in
    ap (λ (xs : List ℕ). put_before xs (items_behind number_at (option_map (λ rest. rest.now) c.in-Ok.rest)))
    c.in-Ok-push.ensures.items
    ∙ items_step number_at c.in-Some.text.now c.loop-left.list.items c.in-Ok.value
    (option_map (λ rest. rest.now) c.in-Ok.rest)
    (items_behind number_at (option_map (λ rest. rest.now) c.args.behind)) c.in-Ok.ensures so_far

pub returns-in-Err : goal.returns-in-Err
returns-in-Err c =
    let so_far : put_before c.loop-left.list.items (items_behind number_at (Some c.in-Some.text.now))
    ≡ items_behind number_at (option_map (λ rest. rest.now) c.args.behind) =
    rw c.in-Some.is at c.loop-left.invariant in
    items_stop number_at c.in-Err.fault c.in-Some.text.now c.loop-left.list.items
    (items_behind number_at (option_map (λ rest. rest.now) c.args.behind)) c.in-Err.ensures so_far
