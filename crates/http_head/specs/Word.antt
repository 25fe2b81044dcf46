-- The words of refusals for want of a sender who is let in.
use Rattle.std.specs.Prelude.{ℕ, List, codes}
use Rattle.http_head.specs.declared.word.Word.{Word}
use Rattle.http_head.specs.declared.word.Word.TheVariants.{NoBearerAuth, BearerAuthFailed, InvalidBearerToken}
use Rattle.http_head.specs.declared.word.Word.TheVariants.{MismatchedAddress, InvalidJwt, LinkFailed}

-- the word of a refusal
abbrev pub word_text : Word → List ℕ
word_text NoBearerAuth = codes "no_bearer_auth"
word_text BearerAuthFailed = codes "bearer_auth_failed"
word_text InvalidBearerToken = codes "invalid_bearer_token"
word_text MismatchedAddress = codes "invalid_bearer_token_mismatched_address"
word_text InvalidJwt = codes "invalid_jwt"
word_text LinkFailed = codes "bearer_auth_failed"
