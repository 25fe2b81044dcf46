-- A request for an archive is read as one for that archive, and a reply as what it was.
use Rattle.std.proofs.Common.{◌≡◌, ℕ, ◌≤◌, ◌==◌, inl, inr, not, true, List, ◌++◌, length, codes}
use Rattle.std.proofs.Common.{Some, refl, ap, ◌∙◌, arith, length-append}
use Rattle.std.specs.List.{list_all}
use Rattle.std.proofs.lemmas.Bool.Decides.{nat_tests}
use Rattle.std.proofs.lemmas.Str.{IsUtf8-append}
use Rattle.dist_types.specs.Toolchain.{is_lower_hex}
use Rattle.dist_types.proofs.ToolchainLemmas.{lower_is_text}
use Rattle.http_head.specs.Fields.{path_of}
use Rattle.http_head.specs.Head.{IsRequest}
use Rattle.http_head.specs.WrittenRequest.{is_visible, request_text}
use Rattle.http_head.specs.declared.request.Request.{Request}
use Rattle.http_head.proofs.LineLemmas.{weaker}
use Rattle.http_head.proofs.ReplyLemmas.{one_reply}
use Rattle.http_head.proofs.WrittenRequestLemmas.{ascii_text, requests_read_back}
use Rattle.toolchain_cache.specs.Archives.{is_id}
use Rattle.toolchain_cache.proofs.KeyLemmas.{digest_of_id}
use Rattle.http_routes.specs.ReadBack.{seen}
use Rattle.http_routes.specs.Reply.{body_of, reply_text}
use Rattle.http_routes.specs.declared.reply.Response.{Response}
use Rattle.http_routes.proofs.BackLemmas.{read_back}
use Rattle.http_routes.proofs.PlaceLemmas.{no_query, front_stripped}
use Rattle.mirror.specs.Asking.{said_of, Tells}
use Rattle.mirror.specs.Question.{mirror_question, id_asked}
use Rattle.mirror.specs.Rule.{CanAsk}
use Rattle.mirror.specs.declared.said.Said.{Said}

hex_visible : (b : ℕ) → is_lower_hex b ≡ true → is_visible b ≡ true
hex_visible b h = grind (arith, nat_tests)

hex_no_question : (b : ℕ) → is_lower_hex b ≡ true → not (b == 63) ≡ true
hex_no_question b h = grind (arith, nat_tests)

-- the path of the route with an id
abbrev path_with : List ℕ → List ℕ
path_with id = codes "/api/v1/mirror/" ++ id

path_visible : (id : List ℕ) → list_all is_visible id ≡ true → list_all is_visible (path_with id) ≡ true
path_visible id h = h

path_no_question : (id : List ℕ) → list_all (λ b. not (b == 63)) id ≡ true
    → list_all (λ b. not (b == 63)) (path_with id) ≡ true
path_no_question id h = h

-- what is asked is that
pub question_back : (host : List ℕ) (port : ℕ) (id : List ℕ) → length id ≡ 64 → list_all is_lower_hex id ≡ true
    → CanAsk host port id
    → (r : Request) × IsRequest (request_text (mirror_question host port id)) r × (id_asked r ≡ Some id)
unfolding mirror_question id_asked
question_back host port id long lower can =
    let total = length-append (codes "/api/v1/mirror/") id in
    let valid : is_id id ≡ true = rw (long, lower) refl in
    let plain = path_no_question id (weaker is_lower_hex (λ b. not (b == 63)) hex_no_question id lower) in
    let (r, x, c) = requests_read_back (mirror_question host port id) record {
      some_target = omega (arith, total);
      target_text = IsUtf8-append (codes "/api/v1/mirror/") id (ascii_text (codes "/api/v1/mirror/") refl)
          (lower_is_text id lower);
      target = path_visible id (weaker is_lower_hex is_visible hex_visible id lower);
      host = can.visible;
      token = tt {0};
      plain = refl;
      limits = can.limits;
    } in
    let path : path_of r.target ≡ path_with id = ap path_of c.target ∙ no_query (path_with id) plain in
    (r, x, rw (c.method, path, front_stripped (codes "/api/v1/mirror/") id) (digest_of_id id valid))

-- what the bytes of a reply say is what was written
pub said_reply : (response : Response) (said : Said) → length (body_of response) ≤ 1073741824
    → Tells (reply_text response) said → said ≡ said_of (seen response)
said_reply response said short tells = elim tells [
  | inl t ↦ t.2 ∙ ap said_of (one_reply (reply_text response) t.0 (seen response) t.1 (read_back response short))
  | inr t ↦ absurd (t.0 (seen response) (read_back response short))
]
