-- The rule of forwarded tokens: a token is accepted where a peer that is asked with it answers with a
-- success.
use Rattle.std.specs.Prelude.{◌≡◌, ℕ, ◌*◌, ◌-◌, ◌⊎◌, min, nat_lt, nat_le, ◌&&◌, List, [], ◌∷◌, ◌++◌, codes}
use Rattle.std.specs.Prelude.{decimal, Bool, true, false, if◌then◌else◌, Option, Some, None, option_map}
use Rattle.std.specs.Prelude.{unwrap_or, Result, Ok, Err, ⊤}
use Rattle.std.specs.Option.{option_or}
use Rattle.std.specs.Bool.{MatchBool}
use Rattle.std.specs.Str.{bytes_eq}
use Rattle.url.specs.Parts.{Parts, nonempty_host}
use Rattle.url.specs.Host.{host_text}
use Rattle.url.specs.Scheme.{default_port}
use Rattle.http_head.specs.declared.written_request.Method.TheVariants.{Get}
use Rattle.http_head.specs.declared.written_request.WrittenRequest.{WrittenRequest}
use Rattle.http_head.specs.Head.{HasStatus}
use Rattle.http_head.specs.WrittenRequest.{request_text}
use Rattle.dist_types.specs.Cause.{Rose}
use Rattle.dist_types.specs.Content.{Recorded, KeptOrRecorded}
use Rattle.dist_types.specs.declared.dialer.Asked.{Asked}
use Rattle.dist_types.specs.declared.dialer.AskFault.{AskFault}
use Rattle.dist_types.specs.declared.dialer.AskFault.TheVariants.{Failed, Memory as AskedMemory}
use Rattle.dist_types.specs.declared.token_error.TokenError.{TokenError}
use Rattle.dist_types.specs.declared.token_error.TokenError.TheVariants.{ForwardRefused, LinkFault, Memory}

-- ---- the question

-- the host of a URL's parts, an address of eight groups in its brackets
abbrev pub host_of : Parts → List ℕ
host_of url = unwrap_or (option_map host_text (nonempty_host url)) []

-- the port, 80 where the URL has none
abbrev pub port_of : Parts → ℕ
port_of url = unwrap_or (option_or url.port (default_port url.scheme)) 80

-- a question mark and the query, or nothing
abbrev pub query_text : Option (List ℕ) → List ℕ
query_text None = []
query_text (Some query) = 63 ∷ query

-- the path, and where there is one `?` and the query
unfoldable pub target_of : Parts → List ℕ
target_of url = url.path ++ query_text url.query

-- a GET of the URL with the token
abbrev pub forwarded : Parts → List ℕ → WrittenRequest
forwarded url token = record {
  method = Get;
  target = target_of url;
  host = host_of url ++ (58 ∷ decimal (port_of url));
  token = Some token;
  body = None;
}

-- the row of one question
abbrev pub question : Parts → List ℕ → Result (List ℕ) AskFault → Asked
question url token answer =
    record {
      host = host_of url;
      port = port_of url;
      request = request_text (forwarded url token);
      answer = answer;
    }

-- ---- the answer

-- the code is the status of the reply's head, or 0 where the reply begins with none
abbrev pub HasCode : List ℕ → ℕ → Type 0
HasCode reply code = (status : Option ℕ) × HasStatus reply status × (code ≡ unwrap_or status 0)

-- a status from 200 to 299
abbrev pub is_success : ℕ → Bool
is_success code = nat_le 200 code && nat_le code 299

-- ---- the cache

-- the token's moment is this one now, and every other token's is as it was
abbrev pub Moves : (List ℕ → Option ℕ) → (List ℕ → Option ℕ) → List ℕ → Option ℕ → Type 0
Moves old new token moment = (other : List ℕ)
    → new other ≡ (if bytes_eq token other then moment else old other)

-- for how many milliseconds an accepted token is accepted again
abbrev pub lasting_ms : ℕ → ℕ
lasting_ms cache_secs = min (1000 * cache_secs) 18446744073709551615

-- whether a token that was accepted at this moment is accepted without asking
abbrev pub is_fresh : Option ℕ → ℕ → Option ℕ → Bool
is_fresh None now moment = false
is_fresh (Some cache_secs) now None = false
is_fresh (Some cache_secs) now (Some moment) = nat_lt (now - moment) (lasting_ms cache_secs)

-- the moment that is kept of a token that is accepted now
abbrev pub kept_moment : Option ℕ → ℕ → Option ℕ
kept_moment None now = None
kept_moment (Some cache_secs) now = Some now

-- ---- the rule

-- what is seen of a check: the URL, for how many seconds a token is kept, the moment at which each
-- token that is kept was accepted, and the dialer's record and count
pub record Forwarding : Type 0 where
  pub url : Parts
  pub cache_secs : Option ℕ
  pub moment_of : List ℕ → Option ℕ
  pub asked : Option (List Asked)
  pub faults : ℕ

-- nothing is asked, and nothing changes
pub record Stays (old new : Forwarding) : Type 0 where
  pub cached : (token : List ℕ) → new.moment_of token ≡ old.moment_of token
  pub asked : new.asked ≡ old.asked
  pub faults : new.faults ≡ old.faults

-- what the record gained shows the answer: exactly one row, or where memory ran out none, or one that says so
abbrev pub Shows : Parts → List ℕ → Result ℕ TokenError → Option (List Asked) → Option (List Asked) → Type 0
Shows url token (Ok code) old new = (reply : List ℕ) × Recorded (question url token (Ok reply)) old new
    × HasCode reply code
Shows url token (Err LinkFault) old new = Recorded (question url token (Err Failed)) old new
Shows url token (Err Memory) old new = KeptOrRecorded (question url token (Err AskedMemory)) old new
Shows url token (Err other) old new = ⊥

-- the peer is asked, and its answer decides; the token's entry is gone unless it is accepted
abbrev pub Asks : Forwarding → ℕ → List ℕ → Result ⊤ TokenError → Forwarding → Type 0
Asks old now token (Ok x) new =
    ((code : ℕ) × Shows old.url token (Ok code) old.asked new.asked × (is_success code ≡ true))
    × Moves old.moment_of new.moment_of token (kept_moment old.cache_secs now) × (new.faults ≡ old.faults)
Asks old now token (Err (ForwardRefused code)) new =
    Shows old.url token (Ok code) old.asked new.asked × (is_success code ≡ false)
    × Moves old.moment_of new.moment_of token None × (new.faults ≡ old.faults)
Asks old now token (Err LinkFault) new =
    Shows old.url token (Err LinkFault) old.asked new.asked × Rose old.faults new.faults
    × Moves old.moment_of new.moment_of token None
Asks old now token (Err Memory) new =
    (Shows old.url token (Err Memory) old.asked new.asked
    ⊎ ((code : ℕ) × Shows old.url token (Ok code) old.asked new.asked × (is_success code ≡ true)))
    × Moves old.moment_of new.moment_of token None × (new.faults ≡ old.faults)
Asks old now token (Err other) new = ⊥

-- the answer that a check may give: a token that is kept and fresh is accepted, and the peer is asked
-- about any other
pub record MayAnswer (old : Forwarding) (now : ℕ) (token : List ℕ) (answer : Result ⊤ TokenError)
    (new : Forwarding) : Type 0 where
  pub url : new.url ≡ old.url
  pub cache_secs : new.cache_secs ≡ old.cache_secs
  pub decided : MatchBool (is_fresh old.cache_secs now (old.moment_of token))
      ((answer ≡ Ok tt) × Stays old new) (Asks old now token answer new)

-- what a client is shown
abbrev pub forwarding_shown : List ℕ
forwarding_shown = codes "Validation with token forwarding failed"
