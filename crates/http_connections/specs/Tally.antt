-- What a kit's tasks give and get back.
use Rattle.std.specs.Prelude.{◌≡◌, List, [], ◌∷◌, ◌++◌, Option, Some, None}
use Rattle.std.specs.Option.{option_map}
use Rattle.dist_types.specs.declared.addr.Addr.{Addr}
use Rattle.http_head.specs.declared.request.Request.{Request}
use Rattle.http_connections.specs.Served.{Shown, MadeReply, IsServedBy}
use Rattle.http_connections.specs.declared.served.Served.{Served}

-- the links that will be given, each with its peer, and those that came back, each with what serving it
-- answered, in order
pub record Tally (L : Type 0) : Type 0 where
  pub coming : List (L × Addr)
  pub came : List (L × Served)

-- this link was given
abbrev pub Gave : {L : Type 0} → (L × Addr) → Option (Tally L) → Option (Tally L) → Type 0
Gave {L} given old new = old ≡ option_map {T = Tally L} {U = Tally L}
    (λ t. record { coming = given ∷ t.coming; came = t.came }) new

-- this link came back with this answer
abbrev pub GotBack : {L : Type 0} → L → Served → Option (Tally L) → Option (Tally L) → Type 0
GotBack {L} link served old new = new ≡ option_map {T = Tally L} {U = Tally L}
    (λ t. record { coming = t.coming; came = t.came ++ (link, served) ∷ [] }) old

-- Each link came back once, in order, and serving it did what its answer says, by a relation for its peer.
-- What the worker has for its own goes from one connection to the next.
abbrev pub AllServed : {L A : Type 0} → (Addr → Option Request → A → A → MadeReply → Type 0) → (L → Shown)
    → List (L × Addr) → List (L × Served) → A → A → Type 0
AllServed replies shown [] [] before after = after ≡ before
AllServed replies shown [] (b ∷ back) before after = ⊥
AllServed replies shown (given ∷ coming) [] before after = ⊥
AllServed {A = A} replies shown (given ∷ coming) (b ∷ back) before after =
    (between : A) × IsServedBy (replies given.1) (shown given.0) (shown b.0) before between b.1
    × AllServed replies shown coming back between after

-- where that is told: no link is left, and each that was coming came back
abbrev pub Worked : {L A : Type 0} → (Addr → Option Request → A → A → MadeReply → Type 0) → (L → Shown)
    → Option (Tally L) → Option (Tally L) → A → A → Type 0
Worked replies shown None new before after = Unit {0}
Worked {L} replies shown (Some old) new before after =
    (back : List (L × Served)) × (new ≡ Some (record { coming = []; came = old.came ++ back }))
    × AllServed replies shown old.coming back before after
