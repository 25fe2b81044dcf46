use Rattle.std.proofs.Common.{◌≡◌, ◌<◌, ◌∙◌, ◌++◌, ◌∷◌, [], ap, sym, subst, Some, List, ℕ, rules}
use Rattle.std.specs.Option.{option_map}
use Rattle.run_lines.specs.Fields.{items_behind, id_at}
use Rattle.run_lines.proofs.PartLemmas.{put_before, room_of, items_step, items_stop, part_room}
use Rattle.run_lines.proofs.lists.ids_behind.Goals as goal

pub loop-left-smaller : goal.loop-left-smaller
loop-left-smaller c =
    let same : c.in-Ok.rest ≡ c.in-Ok.value-1-own.given.0.0.1 = search rules in
    let less : room_of (option_map (λ rest. rest.now) c.in-Ok.rest) < room_of (Some c.in-Some.text.now) =
    part_room id_at c.in-Some.text.now c.in-Ok.value (option_map (λ rest. rest.now) c.in-Ok.rest)
    c.in-Ok.ensures in
    subst (λ r. room_of (option_map (λ rest. rest.now) r) < room_of (option_map (λ rest. rest.now) c.loop-left.left))
    same
    (subst (λ o. room_of (option_map (λ rest. rest.now) c.in-Ok.rest) < room_of
    (option_map (λ rest. rest.now) o)) (sym c.in-Some.is) less)

pub loop-left-preserved : goal.loop-left-preserved
loop-left-preserved c =
    let same : c.in-Ok.rest ≡ c.in-Ok.value-1-own.given.0.0.1 = search rules in
    let one : c.in-Ok.value ≡ c.in-Ok.value-1-own.given.0.0.0 = search rules in
    let total = items_behind id_at (option_map (λ rest. rest.now) c.args.behind) in
    let so_far : put_before c.loop-left.list.items (items_behind id_at (Some c.in-Some.text.now)) ≡ total =
    rw c.in-Some.is at c.loop-left.invariant in
    let step : put_before (c.loop-left.list.items ++ c.in-Ok.value ∷ [])
    (items_behind id_at (option_map (λ rest. rest.now) c.in-Ok.rest)) ≡ total =
    items_step id_at c.in-Some.text.now c.loop-left.list.items c.in-Ok.value
    (option_map (λ rest. rest.now) c.in-Ok.rest) total c.in-Ok.ensures so_far in
    ap (λ (xs : List (List ℕ)). put_before xs (items_behind id_at
    (option_map (λ rest. rest.now) c.in-Ok.value-1-own.given.0.0.1))) c.in-Ok-push.ensures.items
    ∙ subst (λ r. put_before (c.loop-left.list.items ++ c.in-Ok.value-1-own.given.0.0.0 ∷ [])
    (items_behind id_at (option_map (λ rest. rest.now) r)) ≡ total) same
    (subst (λ v. put_before (c.loop-left.list.items ++ v ∷ [])
    (items_behind id_at (option_map (λ rest. rest.now) c.in-Ok.rest)) ≡ total) one step)

pub returns-in-Err : goal.returns-in-Err
returns-in-Err c =
    let so_far : put_before c.loop-left.list.items (items_behind id_at (Some c.in-Some.text.now))
    ≡ items_behind id_at (option_map (λ rest. rest.now) c.args.behind) =
    rw c.in-Some.is at c.loop-left.invariant in
    items_stop id_at c.in-Err.fault c.in-Some.text.now c.loop-left.list.items
    (items_behind id_at (option_map (λ rest. rest.now) c.args.behind)) c.in-Err.ensures so_far
