use Rattle.std.proofs.Common.{ap, sym, ◌∙◌, ◌==◌}
use Rattle.dist_token.specs.Verdict.{are_two}
use Rattle.dist_token.proofs.Members.{count_of-members_view}
use Rattle.dist_token.proofs.verdict.are_two.Goals as goal

pub returns-in-Some : goal.returns-in-Some
returns-in-Some c =
    let seen = ap are_two c.in-Some.ensures in
    ap (λ n. n == 2) (c.len.ensures.len ∙ sym (count_of-members_view c.in-Some.members.now.entries)) ∙ seen
