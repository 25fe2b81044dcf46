-- Lines, one byte after another, and the stop.
use Rattle.std.proofs.Common.{◌≡◌, ℕ, Bool, true, false, cond, ◌==◌, List, [], ◌∷◌}
use Rattle.std.proofs.Common.{◌++◌, length, Option, Some, None, refl, sym, ap, ◌∙◌, append_assoc, arith}
use Rattle.std.proofs.Common.{subst, ◌≢◌}
use Rattle.std.specs.Prelude.{IfSome}
use Rattle.std.proofs.lemmas.Grind.{common_steps}
use Rattle.std.proofs.lemmas.Bool.Decides.{nat_tests}
use Rattle.std.proofs.lemmas.List.{append-nil}
use Rattle.dist_types.specs.Content.{Taken}
use Rattle.dist_types.proofs.Contents.{taken_then}
use Rattle.http_connections.specs.Taking.{TakesOfStop}
use Rattle.http_head.specs.Cut.{Begins}
use Rattle.http_head.specs.Stop.{Lines, one_more, lines_behind, lines_of, no_lines}
use Rattle.http_head.specs.Stop.{ends_head, is_stop, stop_from, stop_of}

lines_behind-push : (ls : Lines) (bytes : List ℕ) (b : ℕ) → lines_behind ls (bytes ++ b ∷ []) ≡ one_more
    (lines_behind ls bytes) b
lines_behind-push ls [] b = refl
lines_behind-push ls (c ∷ bytes) b = lines_behind-push (one_more ls c) bytes b

pub lines-push : (bytes : List ℕ) (b : ℕ) → lines_of (bytes ++ b ∷ []) ≡ one_more (lines_of bytes) b
lines-push bytes b = lines_behind-push no_lines bytes b

-- the bytes so far are no stop, nor is a front of them
abbrev pub GoesOn : List ℕ → Option (List ℕ) → Type 0
GoesOn out left = IfSome left (λ rest. stop_of (out ++ rest) ≡ stop_from out rest)

-- one byte more, which is no stop
pub goes_on : (out : List ℕ) (b : ℕ) (old new : Option (List ℕ)) → Taken (b ∷ []) old new → GoesOn out old
    → is_stop (out ++ b ∷ []) ≡ false
    → GoesOn (out ++ b ∷ []) new
goes_on out b old None taken goes fails = tt
goes_on out b old (Some rest) taken goes fails =
    ap stop_of (append_assoc out (b ∷ []) rest)
    ∙ (subst (GoesOn out) taken goes ∙ ap (λ t. cond t (out ++ b ∷ []) (stop_from (out ++ b ∷ []) rest))
    fails)

-- one byte more, which is the stop
pub stops : (out : List ℕ) (b : ℕ) (first old new : Option (List ℕ)) → Taken out first old
    → Taken (b ∷ []) old new → GoesOn out old → is_stop (out ++ b ∷ []) ≡ true
    → IfSome first (λ bytes. stop_of bytes ≡ out ++ b ∷ [])
stops out b None old new before taken goes holds = tt
stops out b (Some bytes) (Some left) (Some rest) before taken goes holds =
    let all : bytes ≡ out ++ left = cc before in
    let tail : left ≡ b ∷ rest = cc taken in
    ap stop_of all ∙ (ap (λ l. stop_of (out ++ l)) tail
    ∙ (subst (GoesOn out) taken goes ∙ ap (λ t. cond t (out ++ b ∷ []) (stop_from (out ++ b ∷ []) rest))
    holds))
stops out b (Some bytes) None new before taken goes holds = absurd (cc before)
stops out b (Some bytes) (Some left) None before taken goes holds = absurd (cc taken)

-- whether the bytes are a stop, by the last of them
pub stop_by_end : (out : List ℕ) (b : ℕ) (t : Bool) → t ≡ ends_head (one_more (lines_of out) b) → t ≡ true
    → is_stop (out ++ b ∷ []) ≡ true
unfolding is_stop
stop_by_end out b t is holds = rw (lines-push, ← is, holds) (grind (arith, common_steps))

pub stop_by_length : (out : List ℕ) (b : ℕ) → length (out ++ b ∷ []) ≡ 65537 → is_stop (out ++ b ∷ []) ≡ true
unfolding is_stop
stop_by_length out b is = rw is refl

pub no_stop : (out : List ℕ) (b : ℕ) (t : Bool) → t ≡ ends_head (one_more (lines_of out) b) → t ≡ false
    → length (out ++ b ∷ []) ≢ 65537 → is_stop (out ++ b ∷ []) ≡ false
unfolding is_stop
no_stop out b t is fails short =
    let a : (length (out ++ b ∷ []) == 65537) ≡ false = grind (arith, nat_tests, short) in
    rw (a, lines-push, ← is) fails

pub begins_then : (a b c : List ℕ) → Begins a b → Begins b c → Begins a c
begins_then a b c (r, e) (s, f) = (r ++ s, f ∙ (ap (λ x. x ++ s) e ∙ append_assoc a r s))

-- the front begins what is a stop of it and the bytes
front_begins : (front bytes : List ℕ) → Begins front (stop_from front bytes)
front_begins front [] = ([], sym (append-nil front))
front_begins front (b ∷ bytes) =
    let more = front ++ b ∷ [] in
    elim (is_stop more) as (λ t. Begins front (cond t more (stop_from more bytes))) [
      | true ↦ (b ∷ [], refl)
      | false ↦ begins_then front more (stop_from more bytes) (b ∷ [], refl) (front_begins more bytes)
    ]

-- and so does the front with one byte more
byte_begins : (front bytes : List ℕ) (b : ℕ) → Begins (front ++ b ∷ []) (stop_from front (b ∷ bytes))
byte_begins front bytes b =
    let more = front ++ b ∷ [] in
    elim (is_stop more) as (λ t. Begins more (cond t more (stop_from more bytes))) [
      | true ↦ ([], sym (append-nil more))
      | false ↦ front_begins more bytes
    ]

-- the bytes so far begin the stop
pub so_far_within : (out : List ℕ) (first old new : Option (List ℕ)) → Taken out first old → GoesOn out old
    → new ≡ old → IfSome first (λ bytes. TakesOfStop bytes new)
so_far_within out None old new before goes same = tt
so_far_within out (Some bytes) None new before goes same = absurd (cc before)
so_far_within out (Some bytes) (Some left) new before goes same =
    let all : bytes ≡ out ++ left = cc before in (
      out,
      subst (Begins out) (sym (ap stop_of all ∙ goes)) (front_begins out left),
      subst (Taken out (Some bytes)) (sym same) before,
    )

-- and with the byte behind them
pub byte_within : (out : List ℕ) (b : ℕ) (first old new : Option (List ℕ)) → Taken out first old
    → Taken (b ∷ []) old new → GoesOn out old → IfSome first (λ bytes. TakesOfStop bytes new)
byte_within out b None old new before taken goes = tt
byte_within out b (Some bytes) None new before taken goes = absurd (cc before)
byte_within out b (Some bytes) (Some left) None before taken goes = absurd (cc taken)
byte_within out b (Some bytes) (Some left) (Some rest) before taken goes =
    let all : bytes ≡ out ++ left = cc before in
    let tail : left ≡ b ∷ rest = cc taken in (
      out ++ b ∷ [],
      subst (Begins (out ++ b ∷ [])) (sym (ap stop_of all ∙ (goes ∙ ap (stop_from out) tail)))
          (byte_begins out rest b),
      taken_then out (b ∷ []) (Some bytes) (Some left) (Some rest) before taken,
    )
