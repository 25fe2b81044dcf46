-- The reply to each refusal of a request.
use Rattle.std.specs.Prelude.{ℕ, List, [], ◌∷◌, Bool, if◌then◌else◌, codes}
use Rattle.dist_types.specs.declared.token_error.TokenError.{TokenError}
use Rattle.dist_types.specs.declared.token_error.TokenError.TheVariants.{BadToken, BadMac, MismatchedClaims}
use Rattle.dist_types.specs.declared.token_error.TokenError.TheVariants.{FixedMismatch, ForwardRefused}
use Rattle.dist_types.specs.declared.token_error.TokenError.TheVariants.{LinkFault, Memory}
use Rattle.http_head.specs.declared.word.Word.TheVariants.{NoBearerAuth, InvalidBearerToken}
use Rattle.http_head.specs.declared.word.Word.TheVariants.{MismatchedAddress, InvalidJwt}
use Rattle.http_routes.specs.declared.refusal.Refusal as refusal
use Rattle.http_routes.specs.declared.refusal.Refusal.TheVariants.{BadHead, WrongContentType, NoMessage}
use Rattle.http_routes.specs.declared.refusal.Refusal.TheVariants.{BadRealIp, NoRoute, NoClientToken}
use Rattle.http_routes.specs.declared.refusal.Refusal.TheVariants.{ClientRefused, NoServer, OtherAddress}
use Rattle.http_routes.specs.declared.refusal.Refusal.TheVariants.{NoJobToken, JobRefused, BadRunHead}
use Rattle.http_routes.specs.declared.refusal.RouilleBincodeError.TheVariants as input
use Rattle.http_routes.specs.declared.reply.Response.{Response}
use Rattle.http_routes.specs.declared.reply.Response.TheVariants as reply
use Rattle.http_routes.specs.ErrJson.{err_text}
use Rattle.http_routes.specs.Fault.{input_text}

-- why a job's token is not accepted
abbrev pub jwt_text : TokenError → List ℕ
jwt_text (BadToken part) = codes "JWT decode failed: InvalidToken"
jwt_text BadMac = codes "JWT decode failed: InvalidSignature"
jwt_text MismatchedClaims = codes "mismatched claims"
jwt_text FixedMismatch = codes "fixed token mismatch"
jwt_text (ForwardRefused code) = codes "forwarded token refused"
jwt_text LinkFault = codes "link fault"
jwt_text Memory = codes "out of memory"

-- what is wrong with the head of a run, by whether its length was there
abbrev pub run_head_text : Bool → List ℕ
run_head_text told = if told then codes "failed to deserialize run job request"
    else codes "failed to read run job input length"

-- the reply 401 to a job's token, by its text
abbrev pub invalid_jwt : List ℕ → Response
invalid_jwt text = reply.Unauthorised InvalidJwt (err_text (text ∷ []))

-- the reply to a refusal
abbrev pub refusal_response : refusal.Refusal → Response
refusal_response BadHead = reply.BadRequest (err_text (codes "bad request head" ∷ []))
refusal_response WrongContentType = reply.BadRequest (err_text (input_text input.WrongContentType ∷ []))
refusal_response NoMessage =
    reply.BadRequest (err_text (input_text input.ParseError ∷ codes "no message begins the body" ∷ []))
refusal_response BadRealIp = reply.BadRealIp
refusal_response NoRoute = reply.NotFound
refusal_response NoClientToken = reply.Unauthorised NoBearerAuth []
refusal_response (ClientRefused word text) = reply.Unauthorised word text
refusal_response NoServer = reply.Unauthorised InvalidBearerToken []
refusal_response OtherAddress = reply.Unauthorised MismatchedAddress []
refusal_response NoJobToken = invalid_jwt (codes "no Authorization header")
refusal_response (JobRefused e) = invalid_jwt (jwt_text e)
refusal_response (BadRunHead told) = reply.ServerError (err_text (run_head_text told ∷ []))
