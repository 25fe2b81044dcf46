-- What is taken of a connection, and what it is read as.
use Rattle.std.specs.Prelude.{◌≡◌, ◌⊎◌, ℕ, ◌≤◌, ◌<◌, List, [], length, drop, Option, Some, None}
use Rattle.dist_types.specs.Content.{Taken, TookAtMost, IsAtEnd}
use Rattle.http_head.specs.Cut.{IsCut, Begins}
use Rattle.http_head.specs.Head.{IsRequest, IsNoRequest}
use Rattle.http_head.specs.Stop.{stop_of}
use Rattle.http_head.specs.declared.request.Request.{Request}

-- the request that the bytes are, or that they are none
abbrev pub Reads : List ℕ → Option Request → Type 0
Reads cut (Some request) = IsRequest cut request
Reads cut None = IsNoRequest cut

-- The cut of the bytes was taken, and it was read.
abbrev pub TakesCut : List ℕ → Option (List ℕ) → Option Request → Type 0
TakesCut bytes new request = (cut : List ℕ) × IsCut bytes cut × Taken cut (Some bytes) new × Reads cut request

-- a front of the stop of the bytes was taken
abbrev pub TakesOfStop : List ℕ → Option (List ℕ) → Type 0
TakesOfStop bytes new = (front : List ℕ) × Begins front (stop_of bytes) × Taken front (Some bytes) new

-- A front of the bytes was taken, and it begins their cut: no byte behind the cut was taken.
abbrev pub TakesWithin : List ℕ → Option (List ℕ) → Type 0
TakesWithin bytes new = (front : List ℕ) × Taken front (Some bytes) new
    × ((cut : List ℕ) → IsCut bytes cut → Begins front cut)

-- the body behind a head of so many bytes: where the head is the whole stop, up to n bytes of the connection,
-- and fewer only at its end; else the rest of the stop
abbrev pub IsBodyAt : List ℕ → ℕ → ℕ → List ℕ → Option (List ℕ) → Option (List ℕ) → Type 0
IsBodyAt stop len n body old new =
    ((len ≡ length stop) × Taken body old new × (length body ≤ n) × ((length body ≡ n) ⊎ IsAtEnd new))
    ⊎ ((len < length stop) × (body ≡ drop len stop) × (new ≡ old))

-- No body was made: up to n bytes of the connection were taken where the head is the whole stop, or none.
abbrev pub LacksBody : List ℕ → ℕ → ℕ → Option (List ℕ) → Option (List ℕ) → Type 0
LacksBody stop len n old new = ((len ≡ length stop) × TookAtMost n old new) ⊎ (new ≡ old)

-- so many bytes were taken
abbrev pub TookSome : ℕ → Option (List ℕ) → Option (List ℕ) → Type 0
TookSome n old new = (body : List ℕ) × (length body ≡ n) × Taken body old new

-- so many bytes of a body came, and none was kept
abbrev pub IsDropped : List ℕ → ℕ → ℕ → ℕ → Option (List ℕ) → Option (List ℕ) → Type 0
IsDropped stop len limit n old new =
    (body : List ℕ) × (length body ≡ n) × IsBodyAt stop len limit body old new

-- the request as it was taken: whole, or without its body where its head settles what it asks
abbrev pub IsTakenAs : (Request → Type 0) → Request → Request → Type 0
IsTakenAs settled whole taken = (taken ≡ whole)
    ⊎ (settled taken × (taken ≡ record { method = whole.method; target = whole.target; headers = whole.headers; body = [] }))

-- The cut of the bytes was taken, and it was read; the body of a request that its head settles was dropped.
abbrev pub TakesOrDrops : (Request → Type 0) → List ℕ → Option (List ℕ) → Option Request → Type 0
TakesOrDrops settled bytes new None = TakesCut bytes new None
TakesOrDrops settled bytes new (Some taken) =
    (whole : Request) × TakesCut bytes new (Some whole) × IsTakenAs settled whole taken
