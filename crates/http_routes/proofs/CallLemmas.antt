-- What the reply to a call says, in the words of its parts.
use Rattle.std.proofs.Common.{◌≡◌, ◌↔◌, inl, inr, ◌==◌, ℕ, ◌+◌, ◌<◌, get_or, Bool, true, false, cond, List}
use Rattle.std.proofs.Common.{[], length, Option, Some, None, Result, Ok, Err, MatchResult, refl, sym, ap, subst}
use Rattle.std.proofs.Common.{◌∙◌, arith}
use Rattle.std.proofs.lemmas.Bool.Decides.{nat_tests}
use Rattle.std.proofs.lemmas.List.{get_or-append-add}
use Rattle.httparse.specs.Grammar.{print_response}
use Rattle.dist_types.specs.declared.outgoing.CallFault.{CallFault}
use Rattle.dist_types.specs.declared.outgoing.CallFault.TheVariants.{BadState}
use Rattle.core_rules.specs.Rule.{is_initial}
use Rattle.dist_types.specs.declared.results.AssignJobResult.{AssignJobResult}
use Rattle.dist_wire.specs.Codec.{IsBytes, IsCodec}
use Rattle.dist_wire.specs.Reading.{assign_at}
use Rattle.http_head.specs.declared.error.HttpError.{HttpError}
use Rattle.http_head.specs.declared.error.HttpError.TheVariants.{BadHead, WrongContentType, ParseError}
use Rattle.http_head.specs.declared.error.HttpError.TheVariants.{BadRealIp, NoRoute, Unauthorised, Status}
use Rattle.http_head.specs.declared.error.HttpError.TheVariants.{Memory, BadRunHead, HeadTooLong, BadBase}
use Rattle.http_head.specs.declared.error.HttpError.TheVariants.{LinkFault, NotLocal, Packager, Local}
use Rattle.http_head.specs.declared.reply.Reply.{Reply}
use Rattle.http_routes.specs.CallReply.{told_by, IsToldBy, Reads, RefusesTold, answer_by, IsAnswer, assigned_by}
use Rattle.http_routes.specs.CallReply.{IsAssigned}
use Rattle.http_head.specs.Head.{IsReply}
use Rattle.http_head.specs.Lent.{with_fields, Lends}
use Rattle.http_head.specs.declared.lent_reply.LentReply.{LentReply}
use Rattle.http_routes.specs.Message.{BeginsWith, begins_in}
use Rattle.http_routes.specs.Steps.{unless_none}
use Rattle.http_routes.proofs.MessageLemmas.{read_begins, begins_read}
use Rattle.http_head.proofs.ReplyLemmas.{one_reply}
use Rattle.http_routes.proofs.StepLemmas.{from_none}

module _ {M : Type 0} (at : List ℕ → Option (M × List ℕ)) (bytes : List ℕ) where
  -- the bytes say one thing
  pub one_telling : (a b : Result M HttpError) → IsToldBy at bytes a → IsToldBy at bytes b → a ≡ b
  one_telling a b (inl (r, x, e)) (inl (q, y, f)) = e ∙ (ap (told_by at) (one_reply bytes r q x y) ∙ sym f)
  one_telling a b (inl (r, x, e)) (inr (none, f)) = absurd (none r x)
  one_telling a b (inr (none, e)) (inl (q, y, f)) = absurd (none q y)
  one_telling a b (inr (none, e)) (inr (nothing, f)) = e ∙ sym f

module _ {M : Type 0} (at : List ℕ → Option (M × List ℕ)) where
  pub one_answer : (bytes : List ℕ) (a b : Result M CallFault) → IsAnswer at bytes a → IsAnswer at bytes b
      → a ≡ b
  one_answer bytes a b (s, x, e) (t, y, f) = e ∙ (ap answer_by (one_telling at bytes s t x y) ∙ sym f)

pub one_assignment : (bytes : List ℕ) (a b : Result AssignJobResult CallFault) → IsAssigned bytes a
    → IsAssigned bytes b → a ≡ b
one_assignment bytes a b (s, x, e) (t, y, f) = e
    ∙ (ap assigned_by (one_telling assign_at bytes s t x y) ∙ sym f)

-- what a reply that was read tells, its bytes say
pub told_reads : {M : Type 0} (at : List ℕ → Option (M × List ℕ)) (bytes : List ℕ) (r : Reply)
    (answer : Result M HttpError)
    → IsReply bytes r → MatchResult answer (λ m. told_by at r ≡ Ok m) (RefusesTold (told_by at r))
    → Reads at bytes answer
told_reads at bytes r (Ok m) is told = inl (r, is, sym told)
told_reads at bytes r (Err ParseError) is told = inl (r, is, sym told)
told_reads at bytes r (Err (Status code body)) is told = inl (r, is, sym told)
told_reads at bytes r (Err Memory) is told = tt {0}
told_reads at bytes r (Err BadHead) is told = told
told_reads at bytes r (Err WrongContentType) is told = told
told_reads at bytes r (Err BadRealIp) is told = told
told_reads at bytes r (Err NoRoute) is told = told
told_reads at bytes r (Err (Unauthorised word)) is told = told
told_reads at bytes r (Err (BadRunHead whole)) is told = told
told_reads at bytes r (Err HeadTooLong) is told = told
told_reads at bytes r (Err BadBase) is told = told
told_reads at bytes r (Err LinkFault) is told = told
told_reads at bytes r (Err NotLocal) is told = told
told_reads at bytes r (Err Packager) is told = told
told_reads at bytes r (Err (Local refusal)) is told = told

-- what a reply tells that stands in its bytes, they say, whatever its fields
pub lent_reads : {M : Type 0} (at : List ℕ → Option (M × List ℕ)) (bytes : List ℕ) (r : LentReply)
    (answer : Result M HttpError) → Lends bytes r
    → MatchResult answer (λ m. told_by at (with_fields r []) ≡ Ok m)
    (RefusesTold (told_by at (with_fields r [])))
    → Reads at bytes answer
unfolding told_by
lent_reads at bytes r answer (fields, is) told = told_reads at bytes (with_fields r fields) answer is told

-- an answer that is taken tells a state that an assignment may tell
pub begins_assigned : (bytes : List ℕ) (a : AssignJobResult) → IsAssigned bytes (Ok a) → is_initial a.state
    ≡ true
begins_assigned bytes a (told, x, e) = by_told told e
  where
    by_test : (answer : AssignJobResult) (b : Bool) → is_initial answer.state ≡ b
        → Ok a ≡ cond b (Ok answer) (Err (BadState answer.state)) → is_initial a.state ≡ true
    by_test answer true is h = let same : answer ≡ a =
        cc in subst (λ (r : AssignJobResult). is_initial r.state ≡ true) same is
    by_test answer false is h = absurd cc

    by_told : (t : Result AssignJobResult HttpError) → Ok a ≡ assigned_by t → is_initial a.state ≡ true
    by_told (Ok answer) h = by_test answer (is_initial answer.state) refl h
    by_told (Err d) h = absurd cc

body_fits : (bytes : List ℕ) (r : Reply) → IsBytes bytes → IsReply bytes r → IsBytes r.body
body_fits bytes r fits (h, x) i =
    subst (λ n. n < 256) (ap (λ (t : List ℕ). get_or t (length (print_response h) + i) 0) x.opens.reads.1
    ∙ get_or-append-add (print_response h) r.body i 0) (fits (length (print_response h) + i))

module _ {M : Type 0} (Spells : M → List ℕ → Type 0) (at : List ℕ → Option (M × List ℕ))
    (codec : IsCodec Spells at) where
  told : (r : Reply) (m : M) → IsBytes r.body → told_by at r ≡ Ok m → (r.code ≡ 200)
      × BeginsWith Spells r.body m
  unfolding told_by
  told r m fits e =
      let t = by_test (r.code == 200) (unless_none ParseError (begins_in at r.body)) (Status r.code r.body) e
      in (
        same r.code t.0,
        read_begins Spells at codec r.body m fits
            (from_none ParseError (begins_in at r.body) m t.1),
      )
    where
      by_test : (b : Bool) (x : Result M HttpError) (d : HttpError) → cond b x (Err d) ≡ Ok m → (b ≡ true)
          × (x ≡ Ok m)
      by_test true x d k = (refl, k)
      by_test false x d k = absurd cc

      same : (n : ℕ) → (n == 200) ≡ true → n ≡ 200
      same n h = grind (arith, nat_tests)

  tell : (r : Reply) (m : M) → r.code ≡ 200 → BeginsWith Spells r.body m → told_by at r ≡ Ok m
  unfolding told_by
  tell r m code b = let read = begins_read Spells at codec r.body m b in rw (code, read) refl

  pub replies_told : (bytes : List ℕ) (m : M) → IsBytes bytes → IsToldBy at bytes (Ok m)
      ↔ ((r : Reply) × IsReply bytes r × (r.code ≡ 200) × BeginsWith Spells r.body m)
  replies_told bytes m fits = (to, from)
    where
      to : IsToldBy at bytes (Ok m) → (r : Reply) × IsReply bytes r × (r.code ≡ 200)
          × BeginsWith Spells r.body m
      to (inl (r, x, e)) = let t = told r m (body_fits bytes r fits x) (sym e) in (r, x, t.0, t.1)
      to (inr (none, e)) = absurd cc

      from : ((r : Reply) × IsReply bytes r × (r.code ≡ 200) × BeginsWith Spells r.body m)
          → IsToldBy at bytes (Ok m)
      from (r, x, code, b) = inl (r, x, sym (tell r m code b))
