use Rattle.std.proofs.Common.{◌≡◌, ◌<◌, ◌∙◌, ap, sym, subst, Some, List}
use Rattle.std.specs.Option.{option_map}
use Rattle.farm_script.specs.Lines.{outputs_behind}
use Rattle.farm_script.proofs.OutputLemmas.{Output, put_before, room_of, outputs_step, outputs_stop}
use Rattle.farm_script.proofs.OutputLemmas.{output_room}
use Rattle.farm_script.proofs.lines.outputs.Goals as goal

pub loop-left-smaller : goal.loop-left-smaller
loop-left-smaller c =
    let less : room_of (option_map (λ rest. rest.now) c.in-Ok.rest) < room_of (Some c.in-Some.text.now) =
    output_room c.in-Some.text.now c.in-Ok.output (option_map (λ rest. rest.now) c.in-Ok.rest)
    c.in-Ok.ensures in
    subst (λ o. room_of (option_map (λ rest. rest.now) c.in-Ok.rest) < room_of
    (option_map (λ rest. rest.now) o)) (sym c.in-Some.is) less

pub loop-left-preserved : goal.loop-left-preserved
loop-left-preserved c =
    let so_far : put_before c.loop-left.outputs.items (outputs_behind (Some c.in-Some.text.now))
    ≡ outputs_behind (option_map (λ rest. rest.now) c.args.behind) =
    rw c.in-Some.is at c.loop-left.invariant in
    ap (λ (xs : List Output). put_before xs (outputs_behind (option_map (λ rest. rest.now) c.in-Ok.rest)))
    c.in-Ok-push.ensures.items
    ∙ outputs_step c.in-Some.text.now c.loop-left.outputs.items c.in-Ok.output
    (option_map (λ rest. rest.now) c.in-Ok.rest)
    (outputs_behind (option_map (λ rest. rest.now) c.args.behind)) c.in-Ok.ensures so_far

pub returns-in-Err : goal.returns-in-Err
returns-in-Err c =
    let so_far : put_before c.loop-left.outputs.items (outputs_behind (Some c.in-Some.text.now))
    ≡ outputs_behind (option_map (λ rest. rest.now) c.args.behind) =
    rw c.in-Some.is at c.loop-left.invariant in
    outputs_stop c.in-Err.fault c.in-Some.text.now c.loop-left.outputs.items
    (outputs_behind (option_map (λ rest. rest.now) c.args.behind)) c.in-Err.ensures so_far
