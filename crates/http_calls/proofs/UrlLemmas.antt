-- What a request says of an `http` URL can stand in a head.
use Rattle.std.proofs.Common.{◌≡◌, ℕ, ◌<◌, ◌^◌, true, List, [], ◌∷◌, ◌++◌, codes, Option, Some, None, All}
use Rattle.std.proofs.Common.{refl, ap, subst, arith, decimal, append-nil, length-append}
use Rattle.std.specs.Prelude.{IsUtf8, IfSome, unwrap_or}
use Rattle.std.specs.Char.{is_ascii_digit}
use Rattle.std.proofs.lemmas.Bool.Decides.{nat_tests}
use Rattle.std.proofs.lemmas.Fmt.{digits_decimal}
use Rattle.std.proofs.lemmas.List.Elements.{All-nil, All-cons, All-append, All-weaker}
use Rattle.std.proofs.lemmas.Str.{IsUtf8-append, IsUtf8-from_ascii}
use Rattle.percent_encoding.specs.Percent.{IsKept}
use Rattle.percent_encoding.proofs.PercentLemmas.{IsAscii_from_kept}
use Rattle.url.specs.declared.scheme.SchemeType.{SchemeType}
use Rattle.url.specs.declared.scheme.SchemeType.TheVariants.{SpecialNotFile}
use Rattle.url.specs.declared.sets.TheConstants.{PATH, SPECIAL_QUERY}
use Rattle.url.specs.Host.{host_text}
use Rattle.url.specs.Scheme.{is_special}
use Rattle.url.specs.Parts.{Parts, kind_of, host_or_empty, query_set, IsPortOf, IsValid}
use Rattle.url.proofs.HostRoundTrip.{IsHostByte, host_text_plain}
use Rattle.url.proofs.InputLemmas.{Passes, list_all_from_All}
use Rattle.url.proofs.SetLemmas.{passes_from_kept}
use Rattle.url.proofs.SetterLemmas.{own_host}
use Rattle.url.proofs.ValidLemmas.{segment_list_kept, special_has_authority, base_from_authority}
use Rattle.url.proofs.ValidLemmas.{hierarchical}
use Rattle.dist_types.specs.declared.ids.JobId.{JobId}
use Rattle.dist_types.specs.declared.results.JobState.{JobState}
use Rattle.dist_wire.specs.Written.{state_bytes}
use Rattle.http_head.specs.declared.written_request.Method.TheVariants.{Post}
use Rattle.http_head.specs.declared.written_request.WrittenRequest.{WrittenRequest}
use Rattle.http_head.specs.WrittenRequest.{is_visible}
use Rattle.http_routes.specs.Requests.{state_with}
use Rattle.http_head.proofs.FieldLemmas.{digits}
use Rattle.http_head.proofs.LineLemmas.{all_pass, weaker}
use Rattle.http_head.proofs.WrittenRequestLemmas.{ascii_text}
use Rattle.http_routes.specs.Builder.{query_text, target_of, host_of}
use Rattle.http_calls.specs.Urls.{IsHttp, IsClean, at_path}
use Rattle.http_calls.proofs.JoinLemmas.{kind_is}

abbrev IsSeen : ℕ → Type 0
IsSeen = Passes is_visible

digit_visible : (b : ℕ) → is_ascii_digit b ≡ true → is_visible b ≡ true
digit_visible b h = grind (arith, nat_tests)

host_byte_visible : (b : ℕ) → IsHostByte b → IsSeen b
host_byte_visible b h = let above = h.above in let below = h.below in grind (arith, nat_tests)

decimal_seen : (n : ℕ) → n < 2 ^ 64 → All IsSeen (decimal n)
decimal_seen n fits =
    all_pass is_visible (decimal n)
    (weaker is_ascii_digit is_visible digit_visible (decimal n) (digits_decimal digits n fits))

-- ---- the target

query_seen : (query : Option (List ℕ)) → IfSome query (All (IsKept SPECIAL_QUERY))
    → All IsSeen (query_text query)
query_seen None h = All-nil IsSeen
query_seen (Some q) h =
    All-cons IsSeen 63 q refl
    (All-weaker (IsKept SPECIAL_QUERY) IsSeen (passes_from_kept SPECIAL_QUERY is_visible refl) q h)

query_is_text : (query : Option (List ℕ)) → IfSome query (All (IsKept SPECIAL_QUERY))
    → IsUtf8 (query_text query)
query_is_text None h = ascii_text [] refl
query_is_text (Some q) h =
    IsUtf8-append (63 ∷ []) q (ascii_text (63 ∷ []) refl)
    (IsUtf8-from_ascii q (IsAscii_from_kept SPECIAL_QUERY q h))

own_query : (url : Parts) → IsValid url → kind_of url ≡ SpecialNotFile
    → IfSome url.query (All (IsKept SPECIAL_QUERY))
own_query url valid kind =
    subst (λ (k : SchemeType). IfSome url.query (All (IsKept (query_set k)))) kind valid.query

-- ---- the host

port_seen : (scheme : List ℕ) (port : Option ℕ) → IsPortOf scheme port
    → All IsSeen (decimal (unwrap_or port 80))
port_seen scheme None h = decimal_seen 80 (omega arith)
port_seen scheme (Some n) h = decimal_seen n (omega (arith, h.0))

pub clean : (url : Parts) → IsValid url → IsHttp url → IsClean url
clean url valid http =
    let kind = kind_is url http in
    let special = ap is_special kind in
    let authority = special_has_authority url valid.head special in
    let path = hierarchical url valid.path (base_from_authority url authority) in
    let kept = segment_list_kept (kind_of url) url.path path.0 in
    let query = own_query url valid kind in
    let nonempty = path.1 special in
    let total = length-append url.path (query_text url.query) in
    let host =
    All-weaker IsHostByte IsSeen host_byte_visible (host_text (host_or_empty url))
    (host_text_plain (kind_of url) (host_or_empty url) (own_host url valid.head authority)) in
    record {
      some = omega arith;
      text = IsUtf8-append url.path (query_text url.query)
          (IsUtf8-from_ascii url.path (IsAscii_from_kept PATH url.path kept)) (query_is_text url.query query);
      target = list_all_from_All is_visible (target_of url)
          (All-append IsSeen url.path (query_text url.query)
          (All-weaker (IsKept PATH) IsSeen (passes_from_kept PATH is_visible refl) url.path kept)
          (query_seen url.query query));
      host = list_all_from_All is_visible (host_of url)
          (All-append IsSeen (host_text (host_or_empty url)) (58 ∷ decimal (unwrap_or url.port 80)) host
          (All-cons IsSeen 58 (decimal (unwrap_or url.port 80)) refl
          (port_seen url.scheme url.port valid.head.port)));
    }

-- the URL with another path names that path as its target
pub target_at : (url : Parts) (path : List ℕ) → target_of (at_path url path) ≡ path
target_at url path = append-nil path

-- the report of a job's state over the URL of its path
pub state_written : (base : Parts) (token : List ℕ) (job : JobId) (state : JobState)
    → ◌≡◌ {A = WrittenRequest}
    (record {
      method = Post;
      target = target_of (at_path base (codes "/api/v1/scheduler/job_state/" ++ decimal job.0));
      host = host_of (at_path base (codes "/api/v1/scheduler/job_state/" ++ decimal job.0));
      token = Some token;
      body = Some (state_bytes state);
    })
    (state_with (host_of base) token job state)
unfolding state_with
state_written base token job state = λ i. record {
  method = Post;
  target = target_at base (codes "/api/v1/scheduler/job_state/" ++ decimal job.0) i;
  host = host_of base;
  token = Some token;
  body = Some (state_bytes state);
}
