-- What is known of the bytes that came of a request.
use Rattle.std.specs.Prelude.{◌≡◌, ℕ, ◌-◌, ◌<◌, ◌≤◌, nat_lt, nat_le, Bool, true, false, not, ◌&&◌, ◌||◌, List, ◌++◌}
use Rattle.std.specs.Prelude.{length, take, if◌then◌else◌, Option, Some, None}
use Rattle.http_head.specs.Opening.{FindsOpening}
use Rattle.http_head.specs.Stop.{lines_of, is_stop, stop_from, stop_of}
use Rattle.http_head.specs.declared.opening.Head.{Head}
use Rattle.http_routes.specs.Kind.{kind_of}
use Rattle.http_routes.specs.declared.kind.Kind.{Kind}
use Rattle.http_routes.specs.declared.kind.Kind.TheVariants.{Quick}
use Rattle.http_routes.specs.declared.kind.Role.{Role}
use Rattle.http_connections.specs.Scan.{Sees}
use Rattle.http_connections.specs.Whole.{is_whole, kind_by}
use Rattle.http_connections.specs.declared.begun.Found.{Found}
use Rattle.http_connections.specs.declared.begun.Found.TheVariants as found
use Rattle.http_connections.specs.declared.begun.Looked.{Looked}
use Rattle.http_connections.specs.declared.begun.Looked.TheVariants.{Open, Stopped}
use Rattle.http_connections.specs.declared.begun.Opened.{Opened}
use Rattle.http_connections.specs.declared.scan.Scan.{Scan}

-- no front of the bytes is a stop, and the scanner knows their lines
pub record IsOpen (bytes : List ℕ) (scan : Scan) : Type 0 where
  pub sees : Sees scan (lines_of bytes)
  pub short : length bytes < 65537
  pub none : is_stop bytes ≡ false
  pub goes : (rest : List ℕ) → stop_of (bytes ++ rest) ≡ stop_from bytes rest

-- the stop is there, and it stays the stop whatever comes behind the bytes
pub record IsStopped (bytes stop : List ℕ) : Type 0 where
  pub is : is_stop stop ≡ true
  pub stays : (rest : List ℕ) → stop_of (bytes ++ rest) ≡ stop

-- what is found in bytes: no stop, or one of so many bytes
abbrev pub Finds : List ℕ → Found → Type 0
Finds bytes (found.Open scan) = IsOpen bytes scan
Finds bytes (found.Stop len) = (len ≤ length bytes) × IsStopped bytes (take len bytes)

-- what is kept of a head
abbrev pub Keeps : Role → Option Opened → Option Head → Type 0
Keeps role None head = head ≡ None
Keeps role (Some opened) None = ⊥
Keeps role (Some opened) (Some head) = (opened.kind ≡ kind_of role head.method head.target)
    × (opened.head_len ≡ head.len) × (opened.body_len ≡ head.body_len)

-- whether all came that is waited for, by what is kept of the head
abbrev pub is_whole_by : ℕ → Option Opened → Bool
is_whole_by len None = true
is_whole_by len (Some opened) = nat_lt 65536 opened.body_len || nat_le opened.body_len (len - opened.head_len)

-- the kind by it, where more bytes come or do not
abbrev pub kept_kind : ℕ → Bool → Option Opened → Option Kind
kept_kind len more None = Some Quick
kept_kind len more (Some opened) =
    if more && not (nat_le opened.body_len (len - opened.head_len)) then None else Some opened.kind

-- what is kept says the same as the head that begins the stop
pub record IsRead (role : Role) (stop : List ℕ) (opened : Option Opened) : Type 0 where
  pub whole : (head : Option Head) → FindsOpening stop head → (len : ℕ)
      → is_whole_by len opened ≡ is_whole len head
  pub kind : (head : Option Head) → FindsOpening stop head → (len : ℕ) (more : Bool)
      → kept_kind len more opened ≡ kind_by role len more head

-- the stop is there, it stays the stop, and what is kept says the same as its head
pub record Stops (role : Role) (bytes : List ℕ) (opened : Option Opened) : Type 0 where
  pub stop : IsStopped bytes (stop_of bytes)
  pub read : IsRead role (stop_of bytes) opened

-- what is known of the bytes
abbrev pub IsLooked : Role → List ℕ → Looked → Type 0
IsLooked role bytes (Open scan) = IsOpen bytes scan
IsLooked role bytes (Stopped opened) = Stops role bytes opened
