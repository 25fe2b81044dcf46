use Rattle.std.proofs.Common.{map, string_bytes, subst}
use Rattle.submit_words.specs.Misuse.{Reads}
use Rattle.submit_words.specs.Views.{invocation_seen}
use Rattle.submit_words.specs.Words.{command_of, invocation_with}
use Rattle.submit_words.proofs.words.invocation_in.Goals as goal

pub returns : goal.returns
returns c =
    subst (λ front. Reads invocation_seen (invocation_with front (command_of (map string_bytes c.args.words.now)))
    c.invocation_with.result) c.cut.ensures.front
    (subst (λ command. Reads invocation_seen (invocation_with (map string_bytes c.cut.result.0.now) command)
    c.invocation_with.result) c.cut.ensures.command c.invocation_with.ensures)
