-- What a build server shows: a token that a field carries, and that is accepted for it.
use Rattle.std.proofs.Common.{◌≡◌, ◌≢◌, ℕ, zero, suc, ◌+◌, ◌*◌, ◌/◌, ◌%◌, ◌<◌, ◌≤◌, nat_lt, Bool, true, List}
use Rattle.std.proofs.Common.{[], ◌∷◌, ◌++◌, length, codes, Some, refl, ap, ◌∙◌, sym, subst, arith, lit<}
use Rattle.std.proofs.Common.{append-nil, length-append}
use Rattle.std.specs.Prelude.{slice_index}
use Rattle.std.specs.Result.{result_ok}
use Rattle.std.specs.List.{list_all}
use Rattle.std.specs.Char.{is_ascii_graphic}
use Rattle.std.proofs.lemmas.Bool.{false≢true}
use Rattle.std.proofs.lemmas.Bool.Decides.{nat_tests}
use Rattle.base64.specs.Engines.{url_safe_no_pad}
use Rattle.base64.specs.GeneralPurpose.{IsBytes}
use Rattle.base64.specs.Rfc4648.{encode_symbols}
use Rattle.base64.proofs.RoundTrip.{length-encode_symbols}
use Rattle.base64.proofs.Tables.{all_below_at}
use Rattle.sha2.proofs.Facts256.{length-sha256}
use Rattle.dist_types.specs.Addr.{IsAddr, addr_text}
use Rattle.dist_types.specs.declared.addr.Addr.{Addr}
use Rattle.dist_types.proofs.AddrLemmas.{printed_graphic}
use Rattle.dist_token.specs.Mac.{hmac_of}
use Rattle.dist_token.specs.Token.{encoded, header_text, signed_text, token_text, server_claims_text}
use Rattle.dist_token.specs.Token.{plain_text}
use Rattle.dist_token.proofs.Bytes.{hmac_bytes}
use Rattle.dist_token.proofs.ServerTokens.{plain_accepted, server_accepted}
use Rattle.core_rules.specs.Log.{latest}
use Rattle.core_rules.proofs.AllLemmas.{and_left, and_right, both}
use Rattle.http_head.specs.WrittenRequest.{is_printed, IsToken}
use Rattle.http_head.proofs.LineLemmas.{weaker}
use Rattle.http_head.proofs.WrittenRequestLemmas.{ascii_text}
use Rattle.farm_script.specs.Setups.{HasAuth}
use Rattle.farm_script.specs.Words.{is_visible}
use Rattle.farm_script.specs.declared.setup.SetupAuth.{SetupAuth}
use Rattle.farm_script.specs.declared.setup.SetupAuth.TheVariants.{Plain, Jwt}
use Rattle.farm_entries.specs.Builds.{HasToken}
use Rattle.farm_entries.specs.Seen.{serves, shown_by}
use Rattle.farm_laws.proofs.TextLemmas.{addr_short}

-- ---- one token for all

pub all_append : (p : ℕ → Bool) (xs ys : List ℕ) → list_all p xs ≡ true → list_all p ys ≡ true
    → list_all p (xs ++ ys) ≡ true
all_append p [] ys h k = k
all_append p (x ∷ xs) ys h k = both (p x) (list_all p (xs ++ ys)) (and_left (p x) (list_all p xs) h)
    (all_append p xs ys (and_right (p x) (list_all p xs) h) k)

graphic_small : (b : ℕ) → is_ascii_graphic b ≡ true → nat_lt b 128 ≡ true
graphic_small b h = grind (arith, nat_tests)

graphic_printed : (b : ℕ) → is_ascii_graphic b ≡ true → is_printed b ≡ true
graphic_printed b h = grind (arith, nat_tests)

visible_small : (b : ℕ) → is_visible b ≡ true → nat_lt b 128 ≡ true
visible_small b h = grind (arith, nat_tests)

visible_printed : (b : ℕ) → is_visible b ≡ true → is_printed b ≡ true
visible_printed b h = grind (arith, nat_tests)

latest-append : (d : ℕ) (xs ys : List ℕ) → latest d (xs ++ ys) ≡ latest (latest d xs) ys
latest-append d [] ys = refl
latest-append d (x ∷ xs) ys = latest-append x xs ys

latest_all : (p : ℕ → Bool) (d : ℕ) (xs : List ℕ) → p d ≡ true → list_all p xs ≡ true → p (latest d xs) ≡ true
latest_all p d [] first h = first
latest_all p d (x ∷ xs) first h = latest_all p x xs (and_left (p x) (list_all p xs) h)
    (and_right (p x) (list_all p xs) h)

-- the last byte of a text that ends in visible bytes is no space
no_space : (front shared more : List ℕ) → 1 ≤ length shared → list_all is_visible shared ≡ true
    → front ++ 32 ∷ shared ≢ more ++ (32 ∷ [])
no_space front [] more some h = λ e. absurd (omega (arith, some))
no_space front (b ∷ bs) more some h = λ e.
    let last : latest 0 (front ++ 32 ∷ b ∷ bs) ≡ latest b bs = latest-append 0 front (32 ∷ b ∷ bs) in
    let space : latest 0 (more ++ (32 ∷ [])) ≡ 32 = latest-append 0 more (32 ∷ []) in
    let same : latest b bs ≡ 32 = sym last ∙ ap (latest 0) e ∙ space in
    false≢true (sym (ap is_visible same) ∙ latest_all is_visible b bs
    (and_left (is_visible b) (list_all is_visible bs) h)
    (and_right (is_visible b) (list_all is_visible bs) h))

record Shared (token : List ℕ) : Type 0 where
  some : 1 ≤ length token
  short : length token ≤ 1024
  visible : list_all is_visible token ≡ true

is_token : (address shared : List ℕ) → list_all is_ascii_graphic address ≡ true → Shared shared
    → IsToken (plain_text address shared)
is_token address shared graphic s =
    let total = length-append address (32 ∷ shared) in
    record {
      some = omega (arith, total);
      text = ascii_text (plain_text address shared)
          (all_append (λ b. nat_lt b 128) address (32 ∷ shared)
          (weaker is_ascii_graphic (λ b. nat_lt b 128) graphic_small address graphic)
          (weaker is_visible (λ b. nat_lt b 128) visible_small shared s.visible));
      printed = all_append is_printed address (32 ∷ shared)
          (weaker is_ascii_graphic is_printed graphic_printed address graphic)
          (weaker is_visible is_printed visible_printed shared s.visible);
      end = λ front. no_space address shared front s.some s.visible;
    }

-- ---- a signed token

ends : (p : ℕ → Bool) (front : List ℕ) (y : ℕ) → list_all p (front ++ y ∷ []) ≡ true → p y ≡ true
ends p [] y h = and_left (p y) true h
ends p (x ∷ xs) y h = ends p xs y (and_right (p x) (list_all p (xs ++ y ∷ [])) h)

pub graphic_token : (t : List ℕ) → 1 ≤ length t → list_all is_ascii_graphic t ≡ true → IsToken t
graphic_token t some h = record {
  some = omega (arith, some);
  text = ascii_text t (weaker is_ascii_graphic (λ b. nat_lt b 128) graphic_small t h);
  printed = weaker is_ascii_graphic is_printed graphic_printed t h;
  end = λ front. λ e. false≢true
      (ends is_ascii_graphic front 32 (subst (λ (s : List ℕ). list_all is_ascii_graphic s ≡ true) e h));
}

abbrev symbols : List ℕ
symbols = url_safe_no_pad.encode_table

symbol : (i : ℕ) → i < 64 → is_ascii_graphic (slice_index symbols i) ≡ true
symbol i lt = all_below_at (λ k. is_ascii_graphic (slice_index symbols k)) 64 i refl lt

more : (i : ℕ) (xs : List ℕ) → i < 64 → list_all is_ascii_graphic xs ≡ true
    → list_all is_ascii_graphic (slice_index symbols i ∷ xs) ≡ true
more i xs lt h = both (is_ascii_graphic (slice_index symbols i)) (list_all is_ascii_graphic xs)
    (symbol i lt) h

symbols_graphic : (m : List ℕ) → IsBytes m → list_all is_ascii_graphic (encode_symbols symbols m) ≡ true
unfolding encode_symbols
symbols_graphic [] h = refl
symbols_graphic (a ∷ []) h =
    let x : a < 256 = h 0 in
    more (a / 4) (slice_index symbols (a % 4 * 16) ∷ []) (omega (arith, x))
    (more (a % 4 * 16) [] (omega (arith, x)) refl)
symbols_graphic (a ∷ b ∷ []) h =
    let x : a < 256 = h 0 in
    let y : b < 256 = h 1 in
    let last = more (b % 16 * 4) [] (omega (arith, y)) refl in
    let two = more (a % 4 * 16 + b / 16) (slice_index symbols (b % 16 * 4) ∷ []) (omega (arith, x, y)) last in
    more (a / 4) (slice_index symbols (a % 4 * 16 + b / 16) ∷ slice_index symbols (b % 16 * 4) ∷ [])
    (omega (arith, x)) two
symbols_graphic (a ∷ b ∷ c ∷ rest) h =
    let x : a < 256 = h 0 in
    let y : b < 256 = h 1 in
    let z : c < 256 = h 2 in
    let tail = encode_symbols symbols rest in
    let last = more (c % 64) tail (omega (arith, z)) (symbols_graphic rest (λ i. h (suc (suc (suc i))))) in
    let three = more (b % 16 * 4 + c / 64) (slice_index symbols (c % 64) ∷ tail) (omega (arith, y, z)) last in
    let two = more (a % 4 * 16 + b / 16) (slice_index symbols (b % 16 * 4 + c / 64) ∷ slice_index symbols
    (c % 64) ∷ tail) (omega (arith, x, y)) three in
    more (a / 4) (slice_index symbols (a % 4 * 16 + b / 16) ∷ slice_index symbols
    (b % 16 * 4 + c / 64) ∷ slice_index symbols (c % 64) ∷ tail) (omega (arith, x)) two

encoded_graphic : (m : List ℕ) → IsBytes m → list_all is_ascii_graphic (encoded m) ≡ true
unfolding encoded
encoded_graphic m h = rw append-nil (symbols_graphic m h)

encoded_long : (m : List ℕ) → length (encoded m) ≡ (4 * length m + 2) / 3
unfolding encoded
encoded_long m = rw append-nil (length-encode_symbols symbols m)

mac_long : (key text : List ℕ) → length (hmac_of key text) ≡ 32
unfolding hmac_of
mac_long key text = length-sha256 _

low : (b : ℕ) → nat_lt b 128 ≡ true → b < 256
low b h = grind (arith, nat_tests)

pub low_bytes : (xs : List ℕ) → list_all (λ b. nat_lt b 128) xs ≡ true → IsBytes xs
low_bytes [] h i = lit< tt
low_bytes (x ∷ xs) h zero = low x (and_left (nat_lt x 128) (list_all (λ b. nat_lt b 128) xs) h)
low_bytes (x ∷ xs) h (suc i) = low_bytes xs (and_right (nat_lt x 128) (list_all (λ b. nat_lt b 128) xs) h) i

claims_bytes : (address : List ℕ) → list_all is_ascii_graphic address ≡ true
    → IsBytes (server_claims_text address)
claims_bytes address graphic =
    low_bytes (server_claims_text address)
    (all_append (λ b. nat_lt b 128) (codes "{\"exp\":0,\"server_id\":\"") (address ++ codes "\"}") refl
    (all_append (λ b. nat_lt b 128) address (codes "\"}")
    (weaker is_ascii_graphic (λ b. nat_lt b 128) graphic_small address graphic) refl))

claims_short : (address : List ℕ) → length address ≤ 400 → length (server_claims_text address) ≤ 430
claims_short address short = simp length-append (omega (arith, short))

joined_graphic : (h c m : List ℕ) → list_all is_ascii_graphic h ≡ true → list_all is_ascii_graphic c ≡ true
    → list_all is_ascii_graphic m ≡ true → list_all is_ascii_graphic (signed_text h c ++ 46 ∷ m) ≡ true
joined_graphic h c m x y z = all_append is_ascii_graphic (h ++ 46 ∷ c) (46 ∷ m)
    (all_append is_ascii_graphic h (46 ∷ c) x y) z

joined_some : (h c m : List ℕ) → 1 ≤ length (signed_text h c ++ 46 ∷ m)
joined_some h c m = simp length-append (omega arith)

joined_short : (h c m : List ℕ) → length h ≤ 40 → length c ≤ 600 → length m ≤ 50
    → length (signed_text h c ++ 46 ∷ m) ≤ 2000
joined_short h c m x y z = simp length-append (omega (arith, x, y, z))

pub token_graphic : (key claims : List ℕ) → IsBytes claims
    → list_all is_ascii_graphic (token_text key claims) ≡ true
token_graphic key claims bytes =
    let mac = hmac_of key (signed_text (encoded header_text) (encoded claims)) in
    joined_graphic (encoded header_text) (encoded claims) (encoded mac)
    (encoded_graphic header_text (low_bytes header_text refl)) (encoded_graphic claims bytes)
    (encoded_graphic mac (hmac_bytes key _))

pub signed_some : (key claims : List ℕ) → 1 ≤ length (token_text key claims)
signed_some key claims = joined_some (encoded header_text) (encoded claims)
    (encoded (hmac_of key (signed_text (encoded header_text) (encoded claims))))

pub token_short : (key claims : List ℕ) → length claims ≤ 430 → length (token_text key claims) ≤ 2000
token_short key claims short =
    let mac = hmac_of key (signed_text (encoded header_text) (encoded claims)) in
    let long : length (encoded mac) ≡ (4 * length mac + 2) / 3 = encoded_long mac in
    let mac_is : length mac ≡ 32 = mac_long key _ in
    joined_short (encoded header_text) (encoded claims) (encoded mac) (omega (arith, encoded_long header_text))
    (omega (arith, encoded_long claims, short)) (omega (arith, long, mac_is))

-- ---- the token of a server

-- what it shows: a token that a field carries, of at most 2,000 bytes, which is accepted for it
pub record Shows (auth : SetupAuth) (server : Addr) : Type 0 where
  pub carried : IsToken (shown_by auth server)
  pub short : length (shown_by auth server) ≤ 2000
  pub accepted : serves auth (shown_by auth server) ≡ Some server

pub shows : (auth : SetupAuth) (server : Addr) → HasToken auth → IsAddr server → Shows auth server
shows (Plain token) server has is =
    let shared : Shared token = record { some = has.0; short = has.1; visible = has.2 } in
    let total = length-append (addr_text server) (32 ∷ token) in
    record {
      carried = is_token (addr_text server) token (printed_graphic server is) shared;
      short = omega (arith, total, shared.short, addr_short server is);
      accepted = plain_accepted server token is;
    }
shows (Jwt key) server has is = record {
  carried = graphic_token (token_text key (server_claims_text (addr_text server)))
      (signed_some key (server_claims_text (addr_text server)))
      (token_graphic key (server_claims_text (addr_text server))
      (claims_bytes (addr_text server) (printed_graphic server is)));
  short = token_short key (server_claims_text (addr_text server))
      (claims_short (addr_text server) (addr_short server is));
  accepted = ap result_ok (server_accepted key server is);
}

-- each setup that was read from a script has a token or a key
pub has_token : (auth : SetupAuth) → HasAuth auth → HasToken auth
has_token (Plain token) has = (has.some, has.short, has.visible)
has_token (Jwt key) has = tt
