-- what is shown of the lines so far
use Rattle.std.proofs.Common.{◌≡◌, map, string_bytes}
use Rattle.submit_words.specs.Heads.{shown_lines}
use Rattle.submit_words.proofs.heads.shown_head.Given as goal

abbrev pub invariant-loop-line : goal.invariant-loop-line
invariant-loop-line l = string_bytes l.text ≡ shown_lines l.mark (map (λ p. p.now) l.yielded)
