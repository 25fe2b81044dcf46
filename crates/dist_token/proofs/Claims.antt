-- The texts of the header and of the claims, read as JSON.
use Rattle.std.proofs.Common.{◌≡◌, ℕ, ◌^◌, ◌<◌, ◌≤◌, List, [], Option, Some, option_and_then, codes, decimal}
use Rattle.std.proofs.Common.{refl, ap, sym, ◌∙◌, append-nil, append_assoc, lit≤, lit<}
use Rattle.std.specs.Fmt.{digits}
use Rattle.json.specs.Json as json
use Rattle.json.specs.Token.{Token}
use Rattle.json.specs.Print.{print, print_from, escape_byte}
use Rattle.json.specs.Tree.{json_tokens, HasNumbers, depth}
use Rattle.json.proofs.Printed.Tokens.{tokens-print}
use Rattle.json.proofs.Printed.Trees.{value-json_tokens, ArePrintable-json_tokens}
use Rattle.json.proofs.Printed.Decimals.{IsNumber-decimal}
use Rattle.serde_json.specs.Data.{Data, number, unsigned, string, object, member, no_members}
use Rattle.serde_json.specs.Read.{read, of_json, max_depth}
use Rattle.serde_json.proofs.Numbers.{number_of-decimal}
use Rattle.serde_json.proofs.OnLiterals.{serde_json_on_literals}
use Rattle.dist_token.specs.Token.{header_text, job_claims_text}

abbrev pub header_value : Data
header_value = object (member (codes "alg") (string (codes "HS256"))
    (member (codes "typ") (string (codes "JWT")) no_members))

pub read-header_text : read header_text ≡ Some header_value
unfolding serde_json_on_literals
read-header_text = refl

-- the one value of a text, and nothing after it
abbrev whole : Option (json.Json × List Token) → Option Data
whole o = option_and_then of_json (option_and_then (λ p. json.if_last p.0 p.1) o)

-- what is printed for a shallow value is read again, where its numbers are numbers
pub read_printed : (j : json.Json) (d : Data) (text : List ℕ) → text ≡ print (json_tokens j) → HasNumbers j
    → depth j ≤ max_depth → of_json j ≡ Some d → read text ≡ Some d
read_printed j d text is numbers shallow means =
    ap read is
    ∙ ap whole (ap (json.value max_depth) (tokens-print (json_tokens j) (ArePrintable-json_tokens j numbers)
    ∙ sym (append-nil _)) ∙ value-json_tokens j max_depth [] shallow)
    ∙ means

abbrev pub job_value : ℕ → Data
job_value id = object (member (codes "exp") (number (unsigned 0))
    (member (codes "job_id") (number (unsigned id)) no_members))

abbrev job_json : ℕ → json.Json
job_json id = json.object
    (json.member (codes "exp") (json.number (decimal 0))
    (json.member (codes "job_id") (json.number (decimal id)) json.no_members))

job_print : (id : ℕ) → job_claims_text id ≡ print (json_tokens (job_json id))
unfolding print_from escape_byte digits
job_print id = append_assoc (codes "{\"exp\":0,\"job_id\":") (decimal id) (codes "}")

job_means : (id : ℕ) → id < 2 ^ 64 → of_json (job_json id) ≡ Some (job_value id)
job_means id h = rw (number_of-decimal 0 (lit< tt), number_of-decimal id h)

pub read-job_claims_text : (id : ℕ) → id < 2 ^ 64 → read (job_claims_text id) ≡ Some (job_value id)
read-job_claims_text id h = read_printed (job_json id) (job_value id) (job_claims_text id) (job_print id)
    (IsNumber-decimal 0 (lit< tt), (IsNumber-decimal id h, tt)) (lit≤ tt) (job_means id h)
