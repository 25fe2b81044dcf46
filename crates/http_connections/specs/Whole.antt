-- When a request is there, by the bytes that came of it.
use Rattle.std.specs.Prelude.{◌≡◌, ℕ, ◌-◌, nat_lt, nat_le, Bool, true, false, not, ◌&&◌, ◌||◌, List, length}
use Rattle.std.specs.Prelude.{if◌then◌else◌, Option, Some, None}
use Rattle.http_head.specs.Opening.{FindsOpening}
use Rattle.http_head.specs.Stop.{is_stop, stop_of}
use Rattle.http_head.specs.declared.opening.Head.{Head}
use Rattle.http_routes.specs.Kind.{kind_of}
use Rattle.http_routes.specs.declared.kind.Kind.{Kind}
use Rattle.http_routes.specs.declared.kind.Kind.TheVariants.{Quick}
use Rattle.http_routes.specs.declared.kind.Role.{Role}

-- whether the whole body of a head is among so many bytes
abbrev pub has_body : ℕ → Head → Bool
has_body len head = nat_le head.body_len (len - head.len)

-- whether all is among so many bytes that is waited for, where no head begins the stop, or that one: its body, or
-- it is one of more than 65,536 bytes
abbrev pub is_whole : ℕ → Option Head → Bool
is_whole len None = true
is_whole len (Some head) = nat_lt 65536 head.body_len || has_body len head

-- the kind of a request of which so many bytes came; none where more comes of its body
abbrev pub kind_by : Role → ℕ → Bool → Option Head → Option Kind
kind_by role len more None = Some Quick
kind_by role len more (Some head) =
    if more && not (has_body len head) then None else Some (kind_of role head.method head.target)

-- A request is there exactly where its stop came, and all that is waited for by the head that begins that.
pub record IsThere (bytes : List ℕ) (there : Bool) : Type 0 where
  pub stopped : is_stop (stop_of bytes) ≡ true → (head : Option Head) → FindsOpening (stop_of bytes) head
      → there ≡ is_whole (length bytes) head
  pub begun : is_stop (stop_of bytes) ≡ false → there ≡ false

-- The kind of a request is that of the head that begins its stop: none exactly where more bytes come, and its body
-- is not whole. What ends before its stop waits for nobody.
pub record IsOfKind (role : Role) (bytes : List ℕ) (more : Bool) (kind : Option Kind) : Type 0 where
  pub stopped : is_stop (stop_of bytes) ≡ true → (head : Option Head) → FindsOpening (stop_of bytes) head
      → kind ≡ kind_by role (length bytes) more head
  pub begun : is_stop (stop_of bytes) ≡ false → kind ≡ Some Quick
