use Rattle.core_rules.proofs.CallLemmas.{call_told}
use Rattle.core_rules.proofs.laws.entries_tell_their_calls.Goals as goal

pub returns : goal.returns
returns c = λ s call fits legal is. call_told s.start s.log call fits legal is
