-- What the check of clients says of the token that is shown to it.
use Rattle.std.specs.Prelude.{◌≡◌, ℕ, List, if◌then◌else◌, Option, Some, None, Result, Ok, Err, ⊤, codes}
use Rattle.dist_types.specs.declared.token_error.TokenError.{TokenError}
use Rattle.dist_types.specs.declared.token_error.TokenError.TheVariants.{LinkFault, Memory}
use Rattle.dist_token.specs.Checks.{equal_verdict, fixed_shown}
use Rattle.http_head.specs.declared.request.Request.{Request}
use Rattle.http_head.specs.declared.word.Word.{Word}
use Rattle.http_head.specs.declared.word.Word.TheVariants.{BearerAuthFailed, LinkFailed}
use Rattle.http_head.specs.Bearer.{token_in}
use Rattle.http_head.specs.Fields.{header}
use Rattle.http_routes.specs.declared.admission.Admission.{Admission}
use Rattle.http_routes.specs.declared.admission.Admission.TheVariants.{Admitted, Refused}
use Rattle.http_routes.specs.Place.{is_at}

-- the token that a request shows to the check of clients: it asks for a job, and shows one
unfoldable pub client_token : Request → Option (List ℕ)
client_token r =
    if is_at (codes "POST") (codes "/api/v1/scheduler/alloc_job") r
    then token_in (header (codes "authorization") r.headers) else None

-- the word of a token that a check refuses: whether it could not be checked
abbrev pub word_by : TokenError → Word
word_by LinkFault = LinkFailed
word_by other = BearerAuthFailed

-- what a check's answer says, by the texts that its clients are shown
abbrev pub admission_by : (TokenError → List ℕ) → Result ⊤ TokenError → Admission
admission_by shown (Ok x) = Admitted
admission_by shown (Err e) = Refused (word_by e) (shown e)

-- A check was asked about a token at a moment, and says that of it: by which answers it may give for a moment
-- and a token, from its state before to its state after, and by the texts that it shows. Want of memory is no
-- such answer.
pub record IsAdmission {K : Type 0} (may_answer : K → ℕ → List ℕ → Result ⊤ TokenError → K → Type 0)
    (shown : K → TokenError → List ℕ) (old : K) (now : ℕ) (token : List ℕ) (says : Admission)
    (new : K) : Type 0 where
  pub answer : Result ⊤ TokenError
  pub answers : may_answer old now token answer new
  pub known : ¬ (answer ≡ Err Memory)
  pub told : says ≡ admission_by (shown new) answer

-- the check is asked about the token that is shown to it, and is as it was where none is
abbrev pub Admits : {K : Type 0} → (K → ℕ → List ℕ → Result ⊤ TokenError → K → Type 0)
    → (K → TokenError → List ℕ) → Option (List ℕ) → ℕ → K → Option Admission → K → Type 0
Admits may_answer shown None now old said new = (said ≡ None) × (new ≡ old)
Admits may_answer shown (Some token) now old said new = (says : Admission) × (said ≡ Some says)
    × IsAdmission may_answer shown old now token says new

-- what want of memory leaves of the check: it is as it was, or was asked about the token that is shown to it
abbrev pub MayBeAsked : {K : Type 0} → (K → ℕ → List ℕ → Result ⊤ TokenError → K → Type 0) → Option (List ℕ)
    → ℕ → K → K → Type 0
MayBeAsked may_answer None now old new = new ≡ old
MayBeAsked may_answer (Some token) now old new = (answer : Result ⊤ TokenError)
    × may_answer old now token answer new

-- what the check of one token says: it lets in who shows that very token
abbrev pub equal_admission : List ℕ → List ℕ → Admission
equal_admission expected token = admission_by (λ e. fixed_shown) (equal_verdict expected token)
