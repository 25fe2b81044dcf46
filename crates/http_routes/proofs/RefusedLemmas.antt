-- A message is refused exactly where the request says so.
use Rattle.std.proofs.Common.{◌≡◌, inl, inr, ℕ, Bool, true, false, cond, List, ◌++◌, drop, Option, Some}
use Rattle.std.proofs.Common.{None, Err, refl, sym, ap, ◌∙◌}
use Rattle.std.specs.Prelude.{codes, nat_eq}
use Rattle.std.specs.List.{starts_with}
use Rattle.dist_wire.specs.Codec.{IsBytes, IsCodec}
use Rattle.http_head.specs.declared.request.Request.{Request}
use Rattle.http_head.specs.Fields.{header}
use Rattle.http_head.proofs.BearerLemmas.{begins}
use Rattle.http_routes.specs.declared.refusal.Refusal.{Refusal}
use Rattle.http_routes.specs.declared.refusal.Refusal.TheVariants.{WrongContentType, NoMessage}
use Rattle.http_routes.specs.Message.{begins_in, is_binary, message_in}
use Rattle.http_routes.specs.Refused.{IsBinary, MessageRefused}
use Rattle.http_routes.specs.Steps.{unless_none}
use Rattle.http_routes.proofs.MessageLemmas.{read_begins, begins_read}

module _ {M : Type 0} (Spells : M → List ℕ → Type 0) (at : List ℕ → Option (M × List ℕ))
    (codec : IsCodec Spells at) where
  pub message_refused : (r : Request) (e : Refusal) → message_in at r ≡ Err e → MessageRefused Spells r e
  unfolding message_in
  message_refused r e h = by_content (header (codes "content-type") r.headers) refl h
    where
      by_body : IsBinary r → (o : Option M) → begins_in at r.body ≡ o → unless_none NoMessage o ≡ Err e
          → MessageRefused Spells r e
      by_body binary None is k =
          inr (binary, (λ m b. absurd (let both = sym is ∙ begins_read Spells at codec r.body m b in cc)), cc)
      by_body binary (Some m) is k = absurd cc

      by_test : (text : List ℕ) → header (codes "content-type") r.headers ≡ Some text → (b : Bool)
          → starts_with nat_eq text (codes "application/octet-stream") ≡ b
          → cond b (unless_none NoMessage (begins_in at r.body)) (Err WrongContentType) ≡ Err e
          → MessageRefused Spells r e
      by_test text there true is k =
          by_body (drop 24 text, there ∙ ap Some (begins text (codes "application/octet-stream") is))
          (begins_in at r.body) refl k
      by_test text there false is k =
          inl (
            (λ binary. let same : text ≡ codes "application/octet-stream" ++ binary.0 = (let both = sym there
                ∙ binary.1 in cc) in
                absurd (let no : false ≡ true = sym is
                ∙ ap (λ (t : List ℕ). starts_with nat_eq t (codes "application/octet-stream")) same
                in cc)),
            cc,
          )

      by_content : (content : Option (List ℕ)) → header (codes "content-type") r.headers ≡ content
          → cond (is_binary content) (unless_none NoMessage (begins_in at r.body))
          (Err WrongContentType) ≡ Err e → MessageRefused Spells r e
      by_content None there k = inl ((λ binary. absurd (let both = sym there ∙ binary.1 in cc)), cc)
      by_content (Some text) there k =
          by_test text there (starts_with nat_eq text (codes "application/octet-stream")) refl k

  pub refused_message : (r : Request) (e : Refusal) → IsBytes r.body → MessageRefused Spells r e
      → message_in at r ≡ Err e
  unfolding message_in
  refused_message r e fits (inl (none, why)) = by_content (header (codes "content-type") r.headers) refl
    where
      by_test : (text : List ℕ) → header (codes "content-type") r.headers ≡ Some text → (b : Bool)
          → starts_with nat_eq text (codes "application/octet-stream") ≡ b
          → cond b (unless_none NoMessage (begins_in at r.body)) (Err WrongContentType) ≡ Err e
      by_test text there true is =
          absurd (none (drop 24 text, there ∙ ap Some (begins text (codes "application/octet-stream") is)))
      by_test text there false is = ap Err (sym why)

      by_content : (content : Option (List ℕ)) → header (codes "content-type") r.headers ≡ content
          → cond (is_binary content) (unless_none NoMessage (begins_in at r.body))
          (Err WrongContentType) ≡ Err e
      by_content None there = ap Err (sym why)
      by_content (Some text) there =
          by_test text there (starts_with nat_eq text (codes "application/octet-stream")) refl
  refused_message r e fits (inr (binary, none, why)) = rw binary.1 (by_body (begins_in at r.body) refl)
    where
      by_body : (o : Option M) → begins_in at r.body ≡ o → unless_none NoMessage o ≡ Err e
      by_body None is = ap Err (sym why)
      by_body (Some m) is = absurd (none m (read_begins Spells at codec r.body m fits is))
