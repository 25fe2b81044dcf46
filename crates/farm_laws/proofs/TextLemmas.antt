-- How long the text of an address is at most, and a text in quotes.
use Rattle.std.proofs.Common.{◌≡◌, ℕ, zero, suc, ◌+◌, ◌*◌, ◌/◌, ◌%◌, ◌<◌, ◌≤◌, Bool, true, false, cond, List}
use Rattle.std.proofs.Common.{[], ◌∷◌, ◌++◌, length, take, drop, codes, decimal, arith, length-append}
use Rattle.std.specs.Prelude.{slice_index, flat_map, bytes_eq, nat_lt}
use Rattle.std.specs.Char.{digit_char}
use Rattle.std.specs.Net.Text.{leading_zero_digits, dotted_text, hex, groups_text, longest_zero_run}
use Rattle.std.specs.Net.Text.{hex_groups_text, ipv4_text, ipv6_text}
use Rattle.std.specs.Net.Addr.{octets_of}
use Rattle.std.proofs.lemmas.Fmt.{length-decimal-le}
use Rattle.json.specs.Print.{escape, escape_byte, escape_letter}
use Rattle.dist_types.specs.Addr.{IsAddr, IsV4, IsV6, v4_text, addr_text}
use Rattle.dist_types.specs.declared.addr.Addr.{Addr}
use Rattle.dist_types.specs.declared.addr.Addr.TheVariants.{V4, V6}

-- ---- numbers and segments

number_short : (n : ℕ) → n < 65536 → length (decimal n) ≤ 5
number_short n h = length-decimal-le 5 n (omega arith) (omega (arith, h)) (omega (arith, h))

drop_short : {X : Type 0} (n : ℕ) (xs : List X) → length (drop n xs) ≤ length xs
drop_short zero xs = omega arith
drop_short (suc n) [] = omega arith
drop_short (suc n) (x ∷ xs) = omega (arith, drop_short n xs)

take_short : {X : Type 0} (n : ℕ) (xs : List X) → length (take n xs) ≤ length xs
take_short zero xs = omega arith
take_short (suc n) [] = omega arith
take_short (suc n) (x ∷ xs) = omega (arith, take_short n xs)

hex_short : (n : ℕ) → length (hex n) ≤ 4
unfolding hex
hex_short n = drop_short {X = ℕ} (leading_zero_digits n)
    (digit_char (n / 4096) ∷ digit_char (n / 256 % 16) ∷ digit_char (n / 16 % 16) ∷ digit_char (n % 16) ∷ [])

rest_short : (segments : List ℕ) → length (flat_map (λ t. codes ":" ++ hex t) segments) ≤ 5 * length segments
rest_short [] = omega arith
rest_short (s ∷ rest) = omega (
  arith,
  length-append (codes ":" ++ hex s) (flat_map (λ t. codes ":" ++ hex t) rest),
  hex_short s,
  rest_short rest,
)

groups_short : (segments : List ℕ) → length (groups_text segments) ≤ 5 * length segments
groups_short [] = omega arith
groups_short (s ∷ rest) = omega (
  arith,
  length-append (hex s) (flat_map (λ t. codes ":" ++ hex t) rest),
  hex_short s,
  rest_short rest,
)

compressed_short : (segments : List ℕ) (start len : ℕ) (b : Bool)
    → length (cond b (groups_text (take start segments) ++ codes "::" ++ groups_text
    (drop (start + len) segments)) (groups_text segments)) ≤ 10 * length segments + 2
compressed_short segments start len true =
    let front = groups_text (take start segments) in
    let rest = groups_text (drop (start + len) segments) in
    let whole : length (front ++ codes "::" ++ rest) ≤ 10 * length segments + 2 =
    simp length-append (omega (
      arith,
      groups_short (take start segments),
      groups_short (drop (start + len) segments),
      take_short start segments,
      drop_short (start + len) segments,
    )) in
    whole
compressed_short segments start len false = omega (arith, groups_short segments)

hex_groups_short : (segments : List ℕ) → length (hex_groups_text segments) ≤ 10 * length segments + 2
unfolding hex_groups_text
hex_groups_short segments = compressed_short segments (longest_zero_run segments).0
    (longest_zero_run segments).1 (nat_lt 1 (longest_zero_run segments).1)

-- ---- addresses

dotted_short : (a b c d : ℕ) → a < 65536 → b < 65536 → c < 65536 → d < 65536
    → length (decimal a ++ (46 ∷ decimal b ++ (46 ∷ decimal c ++ (46 ∷ decimal d)))) ≤ 23
dotted_short a b c d la lb lc ld =
    let x = number_short a la in
    let y = number_short b lb in
    let z = number_short c lc in
    let w = number_short d ld in
    simp length-append (omega (arith, x, y, z, w))

v4_short : (octets : List ℕ) → IsV4 octets → length (v4_text octets) ≤ 23
v4_short o is = dotted_short (slice_index o 0) (slice_index o 1) (slice_index o 2) (slice_index o 3)
    (omega (arith, is.1)) (omega (arith, is.2)) (omega (arith, is.3)) (omega (arith, is.4))

std_dotted_short : (a b c d : ℕ) → a < 65536 → b < 65536 → c < 65536 → d < 65536
    → length (dotted_text a b c d) ≤ 23
std_dotted_short a b c d la lb lc ld =
    let x = number_short a la in
    let y = number_short b lb in
    let z = number_short c lc in
    let w = number_short d ld in
    simp length-append (omega (arith, x, y, z, w))

mapped_short : (segments : List ℕ) → length segments ≤ 2 → length segments ≡ 2
    → slice_index segments 0 < 65536 → slice_index segments 1 < 65536
    → length (ipv4_text (octets_of segments)) ≤ 23
mapped_short [] most two a b = absurd (omega (arith, two))
mapped_short (x ∷ []) most two a b = absurd (omega (arith, two))
mapped_short (x ∷ y ∷ []) most two a b = std_dotted_short (x / 256) (x % 256) (y / 256) (y % 256)
    (omega (arith, a)) (omega (arith, a)) (omega (arith, b)) (omega (arith, b))
mapped_short (x ∷ y ∷ z ∷ rest) most two a b = absurd (omega (arith, most))

six_short : (g : List ℕ) → IsV6 g → length (ipv4_text (octets_of (drop 6 g))) ≤ 23
six_short [] is = absurd (omega (arith, is.0))
six_short (a ∷ []) is = absurd (omega (arith, is.0))
six_short (a ∷ b ∷ []) is = absurd (omega (arith, is.0))
six_short (a ∷ b ∷ c ∷ []) is = absurd (omega (arith, is.0))
six_short (a ∷ b ∷ c ∷ d ∷ []) is = absurd (omega (arith, is.0))
six_short (a ∷ b ∷ c ∷ d ∷ e ∷ []) is = absurd (omega (arith, is.0))
six_short (a ∷ b ∷ c ∷ d ∷ e ∷ f ∷ rest) is =
    let two : length rest ≡ 2 = omega (arith, is.0) in
    mapped_short rest (omega (arith, two)) two (is.1 6) (is.1 7)

v6_short : (g : List ℕ) → IsV6 g → length (ipv6_text g) ≤ 82
unfolding ipv6_text
v6_short g is = by_test (bytes_eq (take 6 g) (0 ∷ 0 ∷ 0 ∷ 0 ∷ 0 ∷ 0xffff ∷ []))
  where
    by_test : (b : Bool) → length (cond b (codes "::ffff:" ++ ipv4_text (octets_of (drop 6 g)))
        (hex_groups_text g)) ≤ 82
    by_test true = omega (arith, six_short g is)
    by_test false = omega (arith, hex_groups_short g, is.0)

pub addr_short : (addr : Addr) → IsAddr addr → length (addr_text addr) ≤ 400
addr_short (V4 a p) is = let x = v4_short a is.0 in let y = number_short p is.1
    in omega (arith, length-append (v4_text a) (58 ∷ decimal p), x, y)
addr_short (V6 g p) is = let x = v6_short g is.0 in let y = number_short p is.1 in simp length-append
    (omega (arith, x, y))

-- ---- quotes

by_two : (b c : Bool) (x l h k : ℕ)
    → length (cond b (92 ∷ l ∷ []) (cond c (92 ∷ 117 ∷ 48 ∷ 48 ∷ h ∷ k ∷ []) (x ∷ []))) ≤ 6
by_two true c x l h k = omega arith
by_two false true x l h k = omega arith
by_two false false x l h k = omega arith

byte_short : (x : ℕ) → length (escape_byte x) ≤ 6
unfolding escape_byte
byte_short x = by_two (nat_lt 0 (escape_letter x)) (nat_lt x 32) x (escape_letter x) (digit_char (x / 16))
    (digit_char (x % 16))

pub escape_short : (t : List ℕ) → length (escape t) ≤ 6 * length t
escape_short [] = omega arith
escape_short (b ∷ bs) = omega (
  arith,
  length-append (escape_byte b) (escape bs),
  byte_short b,
  escape_short bs,
)
