-- Values under servers: the test of servers that `==` answers is that of their addresses.
use Rattle.std.proofs.Common.{◌≡◌, ℕ, List, [], ◌∷◌, Bool, false, cond, ◌&&◌, Option, Some, refl, ap}
use Rattle.std.proofs.Common.{◌∙◌, sym}
use Rattle.std.specs.Prelude.{◌==◌, nat_eq}
use Rattle.std.specs.Cmp.Lexicographic.{pointwise}
use Rattle.dist_types.specs.declared.addr.Addr.{Addr}
use Rattle.dist_types.specs.declared.addr.Addr.TheVariants.{V4, V6}
use Rattle.dist_types.specs.Addr.{same_addr}
use Rattle.row_index.specs.Lookup.{value_at, HaveSame, Puts}

-- tests of servers that answer this at each pair of addresses are that of their addresses
abbrev pub IsTest : (Addr → Addr → Bool) → Type 0
IsTest eq = ((a b : List ℕ) (p q : ℕ) → eq (V4 a p) (V4 b q) ≡ (pointwise nat_eq a b && (p == q)))
    × ((a b : List ℕ) (p q : ℕ) → eq (V6 a p) (V6 b q) ≡ (pointwise nat_eq a b && (p == q)))
    × ((a b : List ℕ) (p q : ℕ) → eq (V4 a p) (V6 b q) ≡ false)
    × ((a b : List ℕ) (p q : ℕ) → eq (V6 a p) (V4 b q) ≡ false)

test_is : (eq : Addr → Addr → Bool) → IsTest eq → (a b : Addr) → eq a b ≡ same_addr a b
test_is eq is (V4 a p) (V4 b q) = is.0 a b p q
test_is eq is (V6 a p) (V6 b q) = is.1 a b p q
test_is eq is (V4 a p) (V6 b q) = is.2 a b p q
test_is eq is (V6 a p) (V4 b q) = is.3 a b p q

value_is : (eq : Addr → Addr → Bool) → IsTest eq → (server : Addr) (entries : List (Addr × ℕ))
    → value_at eq server entries ≡ value_at same_addr server entries
value_is eq is server [] = refl
value_is eq is server (e ∷ entries) =
    ap (λ b. cond b (Some e.1) (value_at eq server entries)) (test_is eq is server e.0)
    ∙ ap (λ o. cond (same_addr server e.0) (Some e.1) o) (value_is eq is server entries)

pub same_servers : (eq : Addr → Addr → Bool) → IsTest eq → (old new : List (Addr × ℕ)) → HaveSame eq old new
    → HaveSame same_addr old new
same_servers eq is old new same = λ server.
    sym (value_is eq is server new) ∙ same server ∙ value_is eq is server old

pub puts_server : (eq : Addr → Addr → Bool) → IsTest eq → (server : Addr) (value : Option ℕ)
    (old new : List (Addr × ℕ)) → Puts eq server value old new → Puts same_addr server value old new
puts_server eq is server value old new puts = λ other.
    sym (value_is eq is other new) ∙ puts other
    ∙ ap (λ b. cond b value (value_at eq other old)) (test_is eq is server other)
    ∙ ap (λ o. cond (same_addr server other) value o) (value_is eq is other old)
