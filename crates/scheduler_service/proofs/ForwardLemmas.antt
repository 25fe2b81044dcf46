-- What the check of clients that a configuration chose says to two connections.
use Rattle.std.proofs.Common.{◌≡◌, ◌≢◌, ℕ, List, [], ◌∷◌, ◌++◌, drop, length, map, Bool, true, false, cond, refl}
use Rattle.std.proofs.Common.{Option, Some, Result, Ok, Err, sym, ap, subst, ◌∙◌}
use Rattle.std.specs.Prelude.{⊤}
use Rattle.std.specs.Bool.{MatchBool}
use Rattle.std.specs.Option.{option_map}
use Rattle.dist_types.specs.Content.{Recorded}
use Rattle.dist_types.specs.declared.dialer.Asked.{Asked}
use Rattle.dist_types.specs.declared.dialer.AskFault.{AskFault}
use Rattle.dist_types.specs.declared.dialer.AskFault.TheVariants.{Failed}
use Rattle.dist_types.specs.declared.token_error.TokenError.{TokenError}
use Rattle.dist_types.specs.declared.token_error.TokenError.TheVariants.{BadToken, BadMac, MismatchedClaims}
use Rattle.dist_types.specs.declared.token_error.TokenError.TheVariants.{FixedMismatch, ForwardRefused}
use Rattle.dist_types.specs.declared.token_error.TokenError.TheVariants.{LinkFault, Memory}
use Rattle.dist_token.specs.Forwarded.{Forwarding, MayAnswer, Asks, HasCode, is_success, is_fresh, question}
use Rattle.dist_token.specs.ProxyViews.{seen}
use Rattle.dist_token.proofs.Answering.{one_code}
use Rattle.http_connections.specs.Alike.{HearAlike}
use Rattle.http_connections.proofs.AlikeLemmas.{some_same, drop_front, head_same}
use Rattle.scheduler_service.specs.Checks.{may_answer, shown}
use Rattle.scheduler_service.specs.OneAnswer.{HearsAlike, SaysOne}
use Rattle.scheduler_service.specs.declared.checks.ClientCheck.{ClientCheck}
use Rattle.scheduler_service.specs.declared.checks.ClientCheck.TheVariants.{Fixed, Forwarded}

-- what a status says of the token
abbrev by_status : ℕ → Result ⊤ TokenError
by_status code = cond (is_success code) (Ok tt) (Err (ForwardRefused code))

-- what the answer of a row means for the token
abbrev Means : Result (List ℕ) AskFault → Result ⊤ TokenError → Type 0
Means (Ok reply) answer = (code : ℕ) × HasCode reply code × (answer ≡ by_status code)
Means (Err e) answer = answer ≡ Err LinkFault

same_meaning : (r : Result (List ℕ) AskFault) (a b : Result ⊤ TokenError) → Means r a → Means r b → a ≡ b
same_meaning (Ok reply) a b (c, status, e) (d, other, f) = e ∙ ap by_status (one_code reply c d status other)
    ∙ sym f
same_meaning (Err x) a b e f = e ∙ sym f

-- the row that an answer leaves
abbrev Left : Forwarding → List ℕ → Result ⊤ TokenError → Forwarding → Type 0
Left old token a new = (r : Result (List ℕ) AskFault)
    × Recorded (question old.url token r) old.asked new.asked × Means r a

left_by : (old : Forwarding) (now : ℕ) (token : List ℕ) (a : Result ⊤ TokenError) (new : Forwarding)
    → Asks old now token a new → a ≢ Err Memory → Left old token a new
left_by old now token (Ok x) new q n = (Ok q.0.1.0, q.0.1.1, (q.0.0, q.0.1.2, rw q.0.2 refl))
left_by old now token (Err (ForwardRefused code)) new q n = (Ok q.0.0, q.0.1, (code, q.0.2, rw q.1 refl))
left_by old now token (Err LinkFault) new q n = (Err Failed, q.0, refl)
left_by old now token (Err Memory) new q n = absurd (n refl)
left_by old now token (Err (BadToken part)) new q n = absurd q
left_by old now token (Err BadMac) new q n = absurd q
left_by old now token (Err MismatchedClaims) new q n = absurd q
left_by old now token (Err FixedMismatch) new q n = absurd q

-- the answers since, where one row more was recorded
one_since : (row : Asked) (old new : Option (List Asked)) (first last : List Asked) → Recorded row old new
    → old ≡ Some first → new ≡ Some last
    → map (λ (a : Asked). a.answer) (drop (length first) last) ≡ row.answer ∷ []
one_since row old new first last more is new_is =
    let grown : new ≡ Some (first ++ row ∷ []) = more ∙ ap (option_map (λ (l : List Asked). l ++ row ∷ [])) is in
    ap (λ (l : List Asked). map (λ (a : Asked). a.answer) (drop (length first) l))
    (some_same last (first ++ row ∷ []) (sym new_is ∙ grown))
    ∙ ap (map (λ (a : Asked). a.answer)) (drop_front first (row ∷ []))

decided_once : {P Q R S C : Type 0} → (v : Bool) → MatchBool v P Q → MatchBool v R S → (P → R → C)
    → (Q → S → C) → C
decided_once true p r f g = f p r
decided_once false q s f g = g q s

forwarded_once : (old new after : Forwarding) (now : ℕ) (token : List ℕ) (a b : Result ⊤ TokenError)
    → HearAlike old.asked new.asked old.asked after.asked
    → MayAnswer old now token a new → MayAnswer old now token b after → a ≢ Err Memory → b ≢ Err Memory → a ≡ b
forwarded_once old new after now token a b alike x y some too =
    decided_once (is_fresh old.cache_secs now (old.moment_of token)) x.decided y.decided
    (λ p q. p.0 ∙ sym q.0)
    (λ p q.
    let m = left_by old now token a new p some in
    let n = left_by old now token b after q too in
    let mine = one_since (question old.url token m.0) old.asked new.asked alike.first alike.last m.1 alike.old_is
    alike.new_is in
    let theirs = one_since (question old.url token n.0) old.asked after.asked alike.other alike.since n.1
    alike.before_is alike.after_is in
    let same : m.0 ≡ n.0 = head_same m.0 n.0 [] [] (sym mine ∙ (alike.heard ∙ theirs)) in
    same_meaning n.0 a b (subst (λ r. Means r a) same m.2) n.2)

pub chosen_say_one : {D : Type 0} (asked : D → Option (List Asked)) (faults : D → ℕ) (old new after : ClientCheck D)
    → HearsAlike asked faults old new after → SaysOne (may_answer asked faults) shown old new after
chosen_say_one asked faults (Fixed old) (Fixed new) (Fixed after) alike =
    λ now token a b x y some too. (x.1 ∙ sym y.1, λ e. refl)
chosen_say_one asked faults (Fixed old) (Fixed new) (Forwarded after) alike =
    λ now token a b x y some too. absurd y
chosen_say_one asked faults (Fixed old) (Forwarded new) after alike = λ now token a b x y some too. absurd x
chosen_say_one asked faults (Forwarded old) (Fixed new) after alike = λ now token a b x y some too. absurd x
chosen_say_one asked faults (Forwarded old) (Forwarded new) (Fixed after) alike =
    λ now token a b x y some too. absurd y
chosen_say_one asked faults (Forwarded old) (Forwarded new) (Forwarded after) alike =
    λ now token a b x y some too. (
      forwarded_once (seen asked faults old) (seen asked faults new) (seen asked faults after) now token a b
          (alike old new after refl refl refl) x y some too,
      λ e. refl,
    )
