use Rattle.std.proofs.Common.{◌∙◌, ap, sym}
use Rattle.std.specs.Str.{bytes_eq}
use Rattle.dist_token.proofs.MadeTokens.{made_header}
use Rattle.dist_token.proofs.token.is_made_header.Goals as goal

pub returns : goal.returns
returns c same =
    made_header c.args.part.now
    (sym (c.eq.ensures ∙ ap (bytes_eq c.args.part.now) c.as_bytes.ensures.value) ∙ same)
