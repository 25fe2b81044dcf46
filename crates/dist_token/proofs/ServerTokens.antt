-- The tokens that are made for servers are accepted.
use Rattle.std.proofs.Common.{◌≡◌, ◌≢◌, ℕ, ◌+◌, ◌<◌, ◌==◌, ◌&&◌, not, nat_lt, List, [], ◌∷◌, ◌++◌, true, Some}
use Rattle.std.proofs.Common.{Ok, codes, decimal, length, drop, refl, ap, ap₂, sym, ◌∙◌, arith, append_assoc}
use Rattle.std.proofs.Common.{lit<, lit≤, ne_eqb, lt-ltb, length-append}
use Rattle.std.proofs.lemmas.Slice.Eq.{bytes_eq-Decides}
use Rattle.std.specs.Fmt.{digits}
use Rattle.std.specs.List.{position_or_len, list_all}
use Rattle.std.specs.Str.{IsAscii}
use Rattle.std.proofs.lemmas.Bool.{and_parts}
use Rattle.std.proofs.lemmas.Bool.Decides.{nat_tests}
use Rattle.std.proofs.lemmas.List.{take_at, drop_at}
use Rattle.std.proofs.lemmas.Str.{IsAscii-append}
use Rattle.std.proofs.lemmas.Str.Ascii.{IsAscii-nil, IsAscii-cons}
use Rattle.json.specs.Json as json
use Rattle.json.specs.Print.{print, print_from, escape, escape_byte}
use Rattle.json.specs.Tree.{json_tokens}
use Rattle.json.proofs.Printed.Decimals.{IsNumber-decimal}
use Rattle.json.proofs.Printed.Strings.{escape_byte_plain}
use Rattle.serde_json.specs.Data.{Data, number, unsigned, string, object, member, no_members}
use Rattle.serde_json.specs.Read.{read, of_json}
use Rattle.serde_json.proofs.Numbers.{number_of-decimal}
use Rattle.dist_types.specs.Addr.{addr_in, addr_text, is_addr_byte, IsAddr}
use Rattle.dist_types.proofs.AddrLemmas.{printed_addr_bytes, printed_back}
use Rattle.dist_types.specs.declared.addr.Addr.{Addr}
use Rattle.dist_token.specs.Token.{server_claims_text, plain_text, token_text}
use Rattle.dist_token.specs.Verdict.{server_verdict, plain_server, is_space}
use Rattle.dist_token.proofs.Claims.{read_printed}
use Rattle.dist_token.proofs.MadeTokens.{ascii, tested-token_text}

-- printed in JSON as it stands, and no space
record IsPlain (byte : ℕ) : Type 0 where
  above : 32 < byte
  below : byte < 127
  no_quote : byte ≢ 34
  no_slash : byte ≢ 92

plain : (byte : ℕ) → is_addr_byte byte ≡ true → IsPlain byte
plain byte h =
    record {
      above = grind (arith, nat_tests);
      below = grind (arith, nat_tests);
      no_quote = λ e. grind (arith, nat_tests);
      no_slash = λ e. grind (arith, nat_tests);
    }

escape_plain : (s : List ℕ) → list_all is_addr_byte s ≡ true → escape s ≡ s
escape_plain [] h = refl
escape_plain (b ∷ bs) h =
    let both = and_parts (is_addr_byte b) (list_all is_addr_byte bs) h in
    let p = plain b both.0 in
    ap₂ (λ x y. x ++ y) (escape_byte_plain b p.no_quote p.no_slash (omega (arith, p.above)))
    (escape_plain bs both.1)

ascii_plain : (s : List ℕ) → list_all is_addr_byte s ≡ true → IsAscii s
ascii_plain [] h = IsAscii-nil
ascii_plain (b ∷ bs) h =
    let both = and_parts (is_addr_byte b) (list_all is_addr_byte bs) h in
    let p = plain b both.0 in
    IsAscii-cons b bs (omega (arith, p.below)) (ascii_plain bs both.1)

abbrev start : List ℕ
start = codes "{\"exp\":0,\"server_id\":\""

abbrev server_json : List ℕ → json.Json
server_json address = json.object
    (json.member (codes "exp") (json.number (decimal 0))
    (json.member (codes "server_id") (json.string address) json.no_members))

abbrev server_value : List ℕ → Data
server_value address = object
    (member (codes "exp") (number (unsigned 0)) (member (codes "server_id") (string address) no_members))

server_print : (address : List ℕ) → escape address ≡ address → server_claims_text address ≡ print
    (json_tokens (server_json address))
unfolding print_from escape_byte digits
server_print address e =
    append_assoc start address (codes "\"}")
    ∙ ap (λ s. start ++ s) (sym (append_assoc address (34 ∷ []) (125 ∷ []))
    ∙ ap (λ s. (s ++ 34 ∷ []) ++ 125 ∷ []) (sym e))

server_means : (address : List ℕ) → of_json (server_json address) ≡ Some (server_value address)
server_means address = rw (number_of-decimal 0 (lit< tt))

read-server_claims_text : (address : List ℕ) → list_all is_addr_byte address ≡ true
    → read (server_claims_text address) ≡ Some (server_value address)
read-server_claims_text address h =
    read_printed (server_json address) (server_value address) (server_claims_text address)
    (server_print address (escape_plain address h)) (IsNumber-decimal 0 (lit< tt), (tt, tt)) (lit≤ tt)
    (server_means address)

claims_ascii : (address : List ℕ) → list_all is_addr_byte address ≡ true
    → IsAscii (server_claims_text address)
claims_ascii address h = IsAscii-append (start ++ address) (codes "\"}")
    (IsAscii-append start address (ascii start refl) (ascii_plain address h)) (ascii (codes "\"}") refl)

-- a signed token that was made is accepted
pub server_accepted : (key : List ℕ) (server : Addr) → IsAddr server
    → server_verdict key (token_text key (server_claims_text (addr_text server))) ≡ Ok server
server_accepted key server is =
    let address = addr_text server in
    let bytes = printed_addr_bytes server is in
    rw (tested-token_text key (server_claims_text address) (server_value address) (claims_ascii address bytes)
    (read-server_claims_text address bytes)) (rw (printed_back server is))

-- ---- plain tokens

first_space : (address shared : List ℕ) → list_all is_addr_byte address ≡ true
    → position_or_len is_space (address ++ 32 ∷ shared) ≡ length address
first_space [] shared h = refl
first_space (b ∷ bs) shared h =
    let both = and_parts (is_addr_byte b) (list_all is_addr_byte bs) h in
    let p = plain b both.0 in
    rw (ne_eqb b 32 (λ e. omega (arith, p.above))) (omega (arith, first_space bs shared both.1))

past_space : (address shared : List ℕ) → drop (length address + 1) (address ++ 32 ∷ shared) ≡ shared
past_space address shared =
    ap (drop (length address + 1)) (sym (append_assoc address (32 ∷ []) shared))
    ∙ drop_at (address ++ 32 ∷ []) shared (length address + 1) (length-append address (32 ∷ []))

-- a plain token that was made is accepted
pub plain_accepted : (server : Addr) (shared : List ℕ) → IsAddr server
    → plain_server shared (plain_text (addr_text server) shared) ≡ Some server
plain_accepted server shared is =
    let address = addr_text server in
    let bytes = printed_addr_bytes server is in
    let inside : length address < length (plain_text address shared) =
    omega (arith, length-append address (32 ∷ shared)) in
    rw (first_space address shared bytes)
    (rw (lt-ltb _ _ inside) (rw (past_space address shared)
    (rw (take_at address (32 ∷ shared) (length address) refl)
    (rw ((bytes_eq-Decides shared shared).1 refl) (printed_back server is)))))
