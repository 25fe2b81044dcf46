-- Where the dialer tells its record, the new row says what the check answers.
use Rattle.std.proofs.Common.{◌≡◌, ℕ, List, [], ◌∷◌, ◌++◌, get_or, Bool, true, false, cond, Option, Some, Ok}
use Rattle.std.proofs.Common.{Err, refl, ap, sym, ◌∙◌, subst}
use Rattle.std.specs.Prelude.{⊤, Result, unwrap_or}
use Rattle.std.specs.Bool.{MatchBool}
use Rattle.std.specs.Option.{option_map}
use Rattle.std.proofs.lemmas.List.{append_cancel_left}
use Rattle.std.proofs.lemmas.Option.{same_Some}
use Rattle.dist_types.specs.Content.{Recorded}
use Rattle.dist_types.specs.declared.dialer.Asked.{Asked}
use Rattle.dist_types.specs.declared.dialer.AskFault.{AskFault}
use Rattle.dist_types.specs.declared.dialer.AskFault.TheVariants.{Failed}
use Rattle.dist_types.specs.declared.token_error.TokenError.{TokenError}
use Rattle.dist_types.specs.declared.token_error.TokenError.TheVariants.{BadToken, BadMac, MismatchedClaims}
use Rattle.dist_types.specs.declared.token_error.TokenError.TheVariants.{FixedMismatch, ForwardRefused}
use Rattle.dist_types.specs.declared.token_error.TokenError.TheVariants.{LinkFault, Memory}
use Rattle.dist_token.specs.Forwarded.{Forwarding, MayAnswer, Asks, HasCode, is_success, is_fresh, question}
use Rattle.http_head.proofs.ReplyLemmas as heads

abbrev by_status : ℕ → Result ⊤ TokenError
by_status code = cond (is_success code) (Ok tt) (Err (ForwardRefused code))

pub one_code : (reply : List ℕ) (a b : ℕ) → HasCode reply a → HasCode reply b → a ≡ b
one_code reply a b (s, x, e) (t, y, f) = e ∙ (ap (λ o. unwrap_or o 0) (heads.one_status reply s t x y)
    ∙ sym f)

-- what the answer of a row means for the token
abbrev Means : Result (List ℕ) AskFault → Result ⊤ TokenError → Type 0
Means (Ok reply) answer = (code : ℕ) × HasCode reply code × (answer ≡ by_status code)
Means (Err e) answer = answer ≡ Err LinkFault

same_meaning : (r : Result (List ℕ) AskFault) (a b : Result ⊤ TokenError) → Means r a → Means r b → a ≡ b
same_meaning (Ok reply) a b (c, status, e) (d, other, f) = e ∙ ap by_status (one_code reply c d status other)
    ∙ sym f
same_meaning (Err x) a b e f = e ∙ sym f

-- the row that an answer leaves
abbrev Left : Forwarding → List ℕ → Result ⊤ TokenError → Forwarding → Type 0
Left old token a new = (r : Result (List ℕ) AskFault)
    × Recorded (question old.url token r) old.asked new.asked × Means r a

left_by : (old : Forwarding) (now : ℕ) (token : List ℕ) (a : Result ⊤ TokenError) (new : Forwarding)
    → Asks old now token a new → ¬ (a ≡ Err Memory) → Left old token a new
left_by old now token (Ok x) new q n = (Ok q.0.1.0, q.0.1.1, (q.0.0, q.0.1.2, rw q.0.2 refl))
left_by old now token (Err (ForwardRefused code)) new q n = (Ok q.0.0, q.0.1, (code, q.0.2, rw q.1 refl))
left_by old now token (Err LinkFault) new q n = (Err Failed, q.0, refl)
left_by old now token (Err Memory) new q n = absurd (n refl)
left_by old now token (Err (BadToken part)) new q n = absurd q
left_by old now token (Err BadMac) new q n = absurd q
left_by old now token (Err MismatchedClaims) new q n = absurd q
left_by old now token (Err FixedMismatch) new q n = absurd q

-- a record that is told gains one row at most
one_row : (rows : List Asked) (r s : Asked) (old new : Option (List Asked)) → old ≡ Some rows
    → Recorded r old new → Recorded s old new → r ≡ s
one_row rows r s old new told a b =
    let with_r : new ≡ Some (rows ++ r ∷ []) = a ∙ ap (option_map (λ rows. rows ++ r ∷ [])) told in
    let with_s : new ≡ Some (rows ++ s ∷ []) = b ∙ ap (option_map (λ rows. rows ++ s ∷ [])) told in
    let both = same_Some (rows ++ r ∷ []) (rows ++ s ∷ []) (sym with_r ∙ with_s) in
    ap (λ cells. get_or cells 0 r) (append_cancel_left rows (r ∷ []) (s ∷ []) both)

decided_once : {P Q R S C : Type 0} → (v : Bool) → MatchBool v P Q → MatchBool v R S → (P → R → C)
    → (Q → S → C) → C
decided_once true p r f g = f p r
decided_once false q s f g = g q s

pub one_answer : (old new : Forwarding) (now : ℕ) (token : List ℕ) (a b : Result ⊤ TokenError)
    (rows : List Asked)
    → old.asked ≡ Some rows → MayAnswer old now token a new → MayAnswer old now token b new
    → ¬ (a ≡ Err Memory) → ¬ (b ≡ Err Memory) → a ≡ b
one_answer old new now token a b rows told x y a_told b_told =
    decided_once (is_fresh old.cache_secs now (old.moment_of token)) x.decided y.decided
    (λ p q. p.0 ∙ sym q.0)
    (λ p q.
    let m = left_by old now token a new p a_told in
    let n = left_by old now token b new q b_told in
    let row = one_row rows (question old.url token m.0) (question old.url token n.0) old.asked new.asked told
    m.1 n.1 in
    let same : m.0 ≡ n.0 = ap (λ (asked : Asked). asked.answer) row in
    same_meaning n.0 a b (subst (λ r. Means r a) same m.2) n.2)
