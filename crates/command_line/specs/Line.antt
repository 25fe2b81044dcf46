-- The lines that commands for authorities write.
use Rattle.std.specs.Prelude.{◌≡◌, ℕ, List, [], ◌∷◌, ◌++◌, Option, Some, option_map, codes}
use Rattle.rand_core.specs.Stream.{Stream, fill_bytes}
use Rattle.dist_types.specs.Addr.{addr_text}
use Rattle.dist_types.specs.declared.addr.Addr.{Addr}
use Rattle.dist_token.specs.Token.{encoded, token_text, server_claims_text}
use Rattle.dist_token.specs.Verdict.{bytes_of}
use Rattle.line_program.specs.declared.fault.ConfigCause.TheVariants.{Key}
use Rattle.line_program.specs.declared.fault.FarmFault.{FarmFault}
use Rattle.line_program.specs.declared.fault.FarmFault.TheVariants.{BadConfig, Memory}
use Rattle.command_line.specs.declared.command.AuthSubcommand.{AuthSubcommand}
use Rattle.command_line.specs.declared.command.AuthSubcommand.TheVariants.{Base64, JwtHS256ServerToken}

-- so many bytes of the stream in base64url, and a line end
abbrev pub random_line : ℕ → Stream → List ℕ
random_line n stream = encoded (fill_bytes n stream).0 ++ 10 ∷ []

-- the token of a server under these bytes, and a line end
abbrev pub token_line : List ℕ → Addr → List ℕ
token_line key server = token_text key (server_claims_text (addr_text server)) ++ 10 ∷ []

-- the line of a command, where its key is base64url
abbrev pub auth_line : AuthSubcommand → Stream → Option (List ℕ)
auth_line (Base64 n) stream = Some (random_line n stream)
auth_line (JwtHS256ServerToken key server) stream = option_map (λ bytes. token_line bytes server)
    (bytes_of key)

-- what is left of the stream
abbrev pub stream_left : AuthSubcommand → Stream → Stream
stream_left (Base64 n) stream = (fill_bytes n stream).1
stream_left (JwtHS256ServerToken key server) stream = stream

-- that the key is bad, or want of memory
abbrev pub IsLineFault : FarmFault → Type 0
IsLineFault (BadConfig (Key key)) = key ≡ codes "secret_key"
IsLineFault Memory = Unit {0}
IsLineFault other = ⊥
