-- The head that begins bytes, and how many bytes of a body it announces.
use Rattle.std.specs.Prelude.{◌≡◌, ℕ, ◌≤◌, List, length, map, drop, Option, Some, None}
use Rattle.httparse.specs.Grammar.{RequestHead}
use Rattle.httparse.specs.Spans.{name_and_value}
use Rattle.http_head.specs.declared.opening.Head.{Head}
use Rattle.http_head.specs.declared.opening.Opening.{Opening}
use Rattle.http_head.specs.declared.opening.Opening.TheVariants.{Found, Nothing, Crowded}
use Rattle.http_head.specs.Fields.{body_length}
use Rattle.http_head.specs.Head.{Opens, Overflows}

-- the bytes are the head h and the rest, and the head announces a body of n bytes
pub record Announces (bytes : List ℕ) (h : RequestHead) (rest : List ℕ) (n : ℕ) : Type 0 where
  pub opens : Opens bytes h rest
  pub body : body_length (map name_and_value h.fields) ≡ Some n

-- no head begins the bytes that announces a body
abbrev pub AnnouncesNone : List ℕ → Type 0
AnnouncesNone bytes = (h : RequestHead) (rest : List ℕ) (n : ℕ) → ¬ (Announces bytes h rest n)

-- what was read is the head h, which begins the bytes
pub record IsOpening (bytes : List ℕ) (head : Head) (h : RequestHead) : Type 0 where
  pub within : head.len ≤ length bytes
  pub announces : Announces bytes h (drop head.len bytes) head.body_len
  pub method : head.method ≡ h.method
  pub target : head.target ≡ h.target
  pub headers : head.headers ≡ map name_and_value h.fields

-- what was read is the head that begins the bytes, or there is none that announces a body
abbrev pub FindsOpening : List ℕ → Option Head → Type 0
FindsOpening bytes (Some head) = (h : RequestHead) × IsOpening bytes head h
FindsOpening bytes None = AnnouncesNone bytes

-- the same, or no head that has room begins the bytes
abbrev pub FindsOpeningIn : ℕ → List ℕ → Opening → Type 0
FindsOpeningIn room bytes (Found head) = FindsOpening bytes (Some head)
FindsOpeningIn room bytes Nothing = AnnouncesNone bytes
FindsOpeningIn room bytes Crowded = Overflows room bytes
