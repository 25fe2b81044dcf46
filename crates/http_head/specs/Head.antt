-- What bytes are a request, what bytes are a reply, and what bytes are the head of one.
use Rattle.std.specs.Prelude.{◌≡◌, ℕ, ◌≤◌, ◌<◌, List, [], length, map, Option, Some, None, true}
use Rattle.httparse.specs.declared.borrowed.Request as parsed
use Rattle.httparse.specs.declared.borrowed.Response as parsed_reply
use Rattle.httparse.specs.Borrowed.{HoldsRequest, HoldsResponse}
use Rattle.httparse.specs.Grammar.{RequestHead, ReadsRequest, print_request, ResponseHead, ReadsResponse}
use Rattle.httparse.specs.Grammar.{print_response, status_code}
use Rattle.httparse.specs.Spans.{name_and_value}
use Rattle.http_head.specs.declared.error.HttpError.{HttpError}
use Rattle.http_head.specs.declared.error.HttpError.TheVariants.{BadHead, Memory, ParseError}
use Rattle.http_head.specs.declared.head.Parsed.{Parsed}
use Rattle.http_head.specs.declared.head.Parsed.TheVariants.{Head, Nothing, Crowded}
use Rattle.http_head.specs.declared.reply.Reply.{Reply}
use Rattle.http_head.specs.declared.request.Request.{Request}
use Rattle.http_head.specs.Fields.{body_length, allows}

-- a head of so many fields and so many bytes is within the limits
pub record IsWithin (fields bytes : ℕ) : Type 0 where
  pub few : fields ≤ 100
  pub short : bytes ≤ 65536

-- ---- requests

-- the bytes are the head h of a request, within the limits, and the rest
pub record Opens (bytes : List ℕ) (h : RequestHead) (rest : List ℕ) : Type 0 where
  pub reads : ReadsRequest bytes h rest
  pub within : IsWithin (length h.fields) (length (print_request h))

-- no front of the bytes is the head of a request
abbrev pub HasNoHead : List ℕ → Type 0
HasNoHead bytes = (h : RequestHead) (rest : List ℕ) → ¬ (Opens bytes h rest)

-- the bytes are one head, which says that n bytes come after it
abbrev pub IsHead : List ℕ → ℕ → Type 0
IsHead bytes n = (h : RequestHead) × Opens bytes h [] × (body_length (map name_and_value h.fields) ≡ Some n)

-- the bytes are the head h and exactly as many bytes as it says, and the request has their parts
pub record IsRequestWith (bytes : List ℕ) (r : Request) (h : RequestHead) : Type 0 where
  pub opens : Opens bytes h r.body
  pub body : body_length (map name_and_value h.fields) ≡ Some (length r.body)
  pub method : r.method ≡ h.method
  pub target : r.target ≡ h.target
  pub headers : r.headers ≡ map name_and_value h.fields

-- the bytes are that request
abbrev pub IsRequest : List ℕ → Request → Type 0
IsRequest bytes r = (h : RequestHead) × IsRequestWith bytes r h

-- the bytes are no request
abbrev pub IsNoRequest : List ℕ → Type 0
IsNoRequest bytes = (r : Request) → ¬ (IsRequest bytes r)

-- what a refusal says of the bytes: memory is asked for only where they are a request
abbrev pub Refuses : List ℕ → HttpError → Type 0
Refuses bytes BadHead = IsNoRequest bytes
Refuses bytes Memory = (r : Request) × IsRequest bytes r
Refuses bytes other = ⊥

-- what the parser holds is a head that begins the bytes, of so many bytes and within the limits
pub record IsHeld (bytes : List ℕ) (p : parsed.Request) (len : ℕ) : Type 0 where
  pub head : RequestHead
  pub holds : HoldsRequest bytes len p head
  pub inside : len ≤ length bytes
  pub within : IsWithin (length head.fields) (length (print_request head))

-- each head that begins the bytes has more fields than there is room for
abbrev pub Overflows : ℕ → List ℕ → Type 0
Overflows room bytes = (h : RequestHead) (rest : List ℕ) → Opens bytes h rest → room < length h.fields

-- the parser holds a head of so many bytes, or none begins the bytes, or none that has room
abbrev pub FindsHead : ℕ → List ℕ → parsed.Request → Parsed → Type 0
FindsHead room bytes p (Head len) = IsHeld bytes p len
FindsHead room bytes p Nothing = HasNoHead bytes
FindsHead room bytes p Crowded = Overflows room bytes

-- ---- replies

-- the bytes are the head h of a reply, within the limits, and the rest
pub record OpensReply (bytes : List ℕ) (h : ResponseHead) (rest : List ℕ) : Type 0 where
  pub reads : ReadsResponse bytes h rest
  pub within : IsWithin (length h.fields) (length (print_response h))

-- no front of the bytes is the head of a reply
abbrev pub HasNoReplyHead : List ℕ → Type 0
HasNoReplyHead bytes = (h : ResponseHead) (rest : List ℕ) → ¬ (OpensReply bytes h rest)

-- the bytes are the head h and a body that it allows, and the reply has their parts
pub record IsReplyWith (bytes : List ℕ) (r : Reply) (h : ResponseHead) : Type 0 where
  pub opens : OpensReply bytes h r.body
  pub body : allows (map name_and_value h.fields) (length r.body) ≡ true
  pub code : r.code ≡ status_code h
  pub headers : r.headers ≡ map name_and_value h.fields

-- the bytes are that reply
abbrev pub IsReply : List ℕ → Reply → Type 0
IsReply bytes r = (h : ResponseHead) × IsReplyWith bytes r h

-- the bytes are no reply
abbrev pub IsNoReply : List ℕ → Type 0
IsNoReply bytes = (r : Reply) → ¬ (IsReply bytes r)

-- what a refusal says of the bytes of a reply
abbrev pub RefusesReply : List ℕ → HttpError → Type 0
RefusesReply bytes ParseError = IsNoReply bytes
RefusesReply bytes Memory = (r : Reply) × IsReply bytes r
RefusesReply bytes other = ⊥

-- what the parser holds is a reply's head that begins the bytes, of so many bytes and within the limits
pub record IsReplyHeld (bytes : List ℕ) (p : parsed_reply.Response) (len : ℕ) : Type 0 where
  pub head : ResponseHead
  pub holds : HoldsResponse bytes len p head
  pub inside : len ≤ length bytes
  pub within : IsWithin (length head.fields) (length (print_response head))

-- each head of a reply that begins the bytes has more fields than there is room for
abbrev pub ReplyOverflows : ℕ → List ℕ → Type 0
ReplyOverflows room bytes = (h : ResponseHead) (rest : List ℕ) → OpensReply bytes h rest
    → room < length h.fields

-- the parser holds the head of a reply of so many bytes, or none begins the bytes, or none that has room
abbrev pub FindsReplyHead : ℕ → List ℕ → parsed_reply.Response → Parsed → Type 0
FindsReplyHead room bytes p (Head len) = IsReplyHeld bytes p len
FindsReplyHead room bytes p Nothing = HasNoReplyHead bytes
FindsReplyHead room bytes p Crowded = ReplyOverflows room bytes

-- the status of the reply's head that begins the bytes, whatever it says of its body; or that none does
abbrev pub HasStatus : List ℕ → Option ℕ → Type 0
HasStatus bytes (Some code) = (h : ResponseHead) × (rest : List ℕ) × OpensReply bytes h rest
    × (code ≡ status_code h)
HasStatus bytes None = HasNoReplyHead bytes
