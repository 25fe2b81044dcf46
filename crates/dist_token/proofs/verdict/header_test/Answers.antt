use Rattle.dist_token.specs.Views.{parts_view}
use Rattle.dist_token.proofs.MadeTokens.{header_test-written}
use Rattle.dist_token.proofs.verdict.header_test.Goals as goal

pub returns-then-is_made_header : goal.returns-then-is_made_header
returns-then-is_made_header c =
    header_test-written (parts_view c.args.parts.now) (c.is_made_header.ensures c.if-is_made_header.true)
