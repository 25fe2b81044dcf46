use Rattle.std.proofs.Common.{◌≡◌, ◌++◌, ℕ, List, [], length, ap, ◌∙◌, append_assoc, append-nil, rules, arith}
use Rattle.std.proofs.Output.{has_written_append, has_written_of_eq}
use Rattle.std.proofs.lemmas.Bool.Decides.{nat_tests}
use Rattle.std.proofs.lemmas.List.{nil_from_length, take-append-drop}
use Rattle.hex.specs.Hex.{encode_lower}
use Rattle.farm_text.proofs.HexLemmas.{hex-append, hex_none}
use Rattle.farm_text.proofs.text.HexDisplay.fmt.Goals as goal

pub loop-rest-preserved : goal.loop-rest-preserved
loop-rest-preserved g c =
    let piece = c.split_at.result.0.now in
    let after = c.split_at.result.1.now in
    let whole : piece ++ after ≡ c.loop-rest.rest.now = rw (c.split_at.ensures.front, c.split_at.ensures.back)
    (take-append-drop c.min-size.result c.loop-rest.rest.now) in
    λ plain.
    let so_far = c.loop-rest.invariant plain in (
      so_far.0 ++ c.hex_in-text.result.now,
      has_written_append _ _ _ _ _ _ so_far.1 (search rules),
      append_assoc so_far.0 _ _
          ∙ ap (λ (t : List ℕ). so_far.0 ++ t) (rw c.hex_in-text.ensures (hex-append piece after)
          ∙ ap encode_lower whole)
          ∙ so_far.2,
    )

pub returns-clause-writes : goal.returns-clause-writes
returns-clause-writes g c = λ plain _.
    let so_far = c.loop-rest.invariant plain in
    let empty : length c.loop-rest.rest.now ≡ 0 = grind (arith, nat_tests) in
    let none : c.loop-rest.rest.now ≡ [] = nil_from_length _ empty in
    has_written_of_eq _ _ _ _ _ (rw (none, hex_none, append-nil) at so_far.2) so_far.1
