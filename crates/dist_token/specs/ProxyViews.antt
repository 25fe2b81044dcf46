-- What is seen of the check that forwards, and of what it keeps.
use Rattle.std.specs.Prelude.{ℕ, List, Option}
use Rattle.std.specs.BTreeMap.{get_by_text}
use Rattle.dist_types.specs.declared.dialer.Asked.{Asked}
use Rattle.dist_token.specs.Forwarded.{Forwarding}
use Rattle.dist_token.specs.declared.kept.Kept.{Kept}
use Rattle.dist_token.specs.declared.proxy.ProxyTokenCheck.{ProxyTokenCheck}

-- the moment at which a token was accepted, where it is kept
abbrev pub moment_in : Kept → List ℕ → Option ℕ
moment_in kept token = get_by_text kept.moments token

-- a check as contracts see it, with what its dialer tells
abbrev pub seen : {D : Type 0} → (D → Option (List Asked)) → (D → ℕ) → ProxyTokenCheck D → Forwarding
seen asked faults check = record {
  url = check.url;
  cache_secs = check.cache_secs;
  moment_of = moment_in check.kept;
  asked = asked check.dialer;
  faults = faults check.dialer;
}
