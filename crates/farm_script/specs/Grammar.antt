-- The grammar of lines: which bytes spell which value.
use Rattle.std.specs.Prelude.{◌≡◌, ℕ, ◌^◌, ◌<◌, ◌≤◌, ◌⊎◌, true, List, [], ◌∷◌, ◌++◌, length, Ok, codes, ℤ}
use Rattle.std.specs.Prelude.{pos, negsuc, suc}
use Rattle.std.specs.List.{list_all}
use Rattle.std.specs.Str.{IsUtf8}
use Rattle.std.specs.Fmt.{decimal}
use Rattle.hex.specs.Hex.{decode_of}
use Rattle.dist_types.specs.Addr.{IsAddrText, IsScoped}
use Rattle.dist_types.specs.declared.addr.Addr.{Addr}
use Rattle.line_program.specs.Texts.{◌⧺◌}
use Rattle.farm_script.specs.Words.{is_visible}
use Rattle.farm_script.specs.Fields.{nowhere}
use Rattle.farm_script.specs.declared.lines.Scopes.{Scopes}
use Rattle.farm_script.specs.declared.lines.Scopes.TheVariants.{Refused, Taken}
use Rattle.farm_script.specs.declared.setup.BuilderLine.{BuilderLine}
use Rattle.farm_script.specs.declared.setup.BuilderLine.TheVariants.{Listed, Refuse}
use Rattle.farm_script.specs.declared.setup.SetupAuth.{SetupAuth}
use Rattle.farm_script.specs.declared.setup.SetupAuth.TheVariants.{Plain, Jwt}
use Rattle.farm_script.specs.declared.setup.SetupScheduler.{SetupScheduler}
use Rattle.farm_script.specs.declared.setup.SetupServer.{SetupServer}
use Rattle.farm_script.specs.declared.event.Event.{Event}
use Rattle.farm_script.specs.declared.event.EventKind.{EventKind}
use Rattle.farm_script.specs.declared.event.EventKind.TheVariants.{Request, Deliver, Fail, Return, Answer}
use Rattle.farm_script.specs.declared.event.EventKind.TheVariants.{Beat, Restart}
use Rattle.farm_script.specs.declared.lines.SetupLine.{SetupLine}
use Rattle.farm_script.specs.declared.lines.SetupLine.TheVariants.{Version2, Scheduler, Server, Builder}
use Rattle.farm_script.specs.declared.lines.Line.{Line}
use Rattle.farm_script.specs.declared.lines.Line.TheVariants as lines

-- a number has one spelling, in decimal without leading zeros
abbrev pub IsNumber : List ℕ → ℕ → Type 0
IsNumber t n = (t ≡ decimal n) × (n < 2 ^ 64)

-- an exit code from -2 ^ 31 to 2 ^ 31 - 1 has one spelling, with a dash before it where it is below 0
abbrev pub IsCode : List ℕ → ℤ → Type 0
IsCode t (pos n) = (t ≡ decimal n) × (n < 2 ^ 31)
IsCode t (negsuc n) = (t ≡ codes "-" ++ decimal (suc n)) × (n < 2 ^ 31)

-- visible bytes that are a text of the address
abbrev pub IsAddrWord : List ℕ → Addr → Type 0
IsAddrWord t addr = (list_all is_visible t ≡ true) × IsAddrText t addr

-- a text of the address; where scopes are taken a scoped address is one too, which stands for no address
abbrev pub IsHost : Scopes → List ℕ → Addr → Type 0
IsHost Refused t addr = IsAddrWord t addr
IsHost Taken t addr = IsAddrWord t addr ⊎ ((list_all is_visible t ≡ true) × IsScoped t × (addr ≡ nowhere))

-- 1 to 1,024 bytes from 0x21 to 0x7e, which stand for themselves
pub record IsToken (t value : List ℕ) : Type 0 where
  pub same : value ≡ t
  pub some : 1 ≤ length t
  pub short : length t ≤ 1024
  pub visible : list_all is_visible t ≡ true

-- pairs of hex digits of either case, at least one, or a dash for no bytes
abbrev pub IsHex : List ℕ → List ℕ → Type 0
IsHex t bytes = ((t ≡ codes "-") × (bytes ≡ [])) ⊎ ((0 < length t) × (decode_of t ≡ Ok bytes))

-- a key has 1 to 1,024 bytes
abbrev pub HasKeyLength : List ℕ → Type 0
HasKeyLength key = (1 ≤ length key) × (length key ≤ 1024)

-- hex of a key
abbrev pub IsKey : List ℕ → List ℕ → Type 0
IsKey t key = IsHex t key × HasKeyLength key

-- hex of the bytes of a text
abbrev pub IsName : List ℕ → List ℕ → Type 0
IsName t name = IsHex t name × IsUtf8 name

-- plain TOKEN, or jwt KEY
abbrev pub IsAuth : List ℕ → SetupAuth → Type 0
IsAuth t (Plain token) = (word : List ℕ) × IsToken word token × (t ≡ codes "plain " ⧺ word)
IsAuth t (Jwt key) = (word : List ℕ) × IsKey word key × (t ≡ codes "jwt " ⧺ word)

-- scheduler ADDR base N count N client TOKEN AUTH
pub record IsSchedulerLine (scopes : Scopes) (t : List ℕ) (s : SetupScheduler) : Type 0 where
  pub addr : List ℕ
  pub client : List ℕ
  pub auth : List ℕ
  pub is_addr : IsHost scopes addr s.addr
  pub base : s.base < 2 ^ 64
  pub count : s.count < 2 ^ 64
  pub is_client : IsToken client s.client
  pub is_auth : IsAuth auth s.auth
  pub spelled : t ≡ codes "scheduler " ⧺ addr ⧺ codes " base " ⧺ decimal s.base ⧺ codes " count "
      ⧺ decimal s.count ⧺ codes " client " ⧺ client ⧺ codes " " ⧺ auth

-- server ADDR cpus N nonce N key KEY capacity N
pub record IsServerLine (scopes : Scopes) (t : List ℕ) (s : SetupServer) : Type 0 where
  pub addr : List ℕ
  pub key : List ℕ
  pub is_addr : IsHost scopes addr s.addr
  pub cpus : s.cpus < 2 ^ 64
  pub nonce : s.nonce < 2 ^ 64
  pub is_key : IsKey key s.key
  pub capacity : s.capacity < 2 ^ 64
  pub builder : s.builder ≡ []
  pub spelled : t ≡ codes "server " ⧺ addr ⧺ codes " cpus " ⧺ decimal s.cpus ⧺ codes " nonce "
      ⧺ decimal s.nonce ⧺ codes " key " ⧺ key ⧺ codes " capacity " ⧺ decimal s.capacity

-- a space, a name, a space and bytes, for each output
abbrev pub AreOutputs : List ℕ → List (List ℕ × List ℕ) → Type 0
AreOutputs t [] = t ≡ []
AreOutputs t (output ∷ outputs) =
    (name bytes more : List ℕ) × IsName name output.0 × IsHex bytes output.1 × AreOutputs more outputs
    × (t ≡ codes " " ⧺ name ⧺ codes " " ⧺ bytes ⧺ more)

-- ok CODE HEX HEX, and a name and bytes for each output
pub record IsListed (t : List ℕ) (code : ℤ) (stdout stderr : List ℕ) (outputs : List (List ℕ × List ℕ)) : Type
    0 where
  pub code_text : List ℕ
  pub out_text : List ℕ
  pub err_text : List ℕ
  pub more : List ℕ
  pub is_code : IsCode code_text code
  pub is_out : IsHex out_text stdout
  pub is_err : IsHex err_text stderr
  pub are_outputs : AreOutputs more outputs
  pub spelled : t ≡ codes "ok " ⧺ code_text ⧺ codes " " ⧺ out_text ⧺ codes " " ⧺ err_text ⧺ more

-- an answer of a builder
abbrev pub IsAnswerLine : List ℕ → BuilderLine → Type 0
IsAnswerLine t (Listed code stdout stderr outputs) = IsListed t code stdout stderr outputs
IsAnswerLine t Refuse = t ≡ codes "refuse"

-- builder ADDR and an answer
pub record IsBuilderLine (t : List ℕ) (named : Addr) (answer : BuilderLine) : Type 0 where
  pub addr : List ℕ
  pub line : List ℕ
  pub is_addr : IsAddrWord addr named
  pub is_answer : IsAnswerLine line answer
  pub spelled : t ≡ codes "builder " ⧺ addr ⧺ codes " " ⧺ line

-- how the farm is set up
abbrev pub IsSetupLine : Scopes → List ℕ → SetupLine → Type 0
IsSetupLine scopes t Version2 = t ≡ codes "version 2"
IsSetupLine scopes t (Scheduler s) = IsSchedulerLine scopes t s
IsSetupLine scopes t (Server s) = IsServerLine scopes t s
IsSetupLine scopes t (Builder addr answer) = IsBuilderLine t addr answer

-- request ADDR ADDR HEX
pub record IsRequest (scopes : Scopes) (t : List ℕ) (target_addr peer_addr : Addr)
    (value : List ℕ) : Type 0 where
  pub target : List ℕ
  pub peer : List ℕ
  pub hex : List ℕ
  pub is_target : IsHost scopes target target_addr
  pub is_peer : IsHost scopes peer peer_addr
  pub is_hex : IsHex hex value
  pub spelled : t ≡ codes "request " ⧺ target ⧺ codes " " ⧺ peer ⧺ codes " " ⧺ hex

-- answer N HEX
pub record IsAnswer (t : List ℕ) (call : ℕ) (value : List ℕ) : Type 0 where
  pub hex : List ℕ
  pub fits : call < 2 ^ 64
  pub is_hex : IsHex hex value
  pub spelled : t ≡ codes "answer " ⧺ decimal call ⧺ codes " " ⧺ hex

-- a word and the number of a call or of a delivery
pub record IsNumbered (word t : List ℕ) (number : ℕ) : Type 0 where
  pub fits : number < 2 ^ 64
  pub spelled : t ≡ word ⧺ codes " " ⧺ decimal number

-- beat ADDR
pub record IsBeat (scopes : Scopes) (t : List ℕ) (server_addr : Addr) : Type 0 where
  pub server : List ℕ
  pub is_server : IsHost scopes server server_addr
  pub spelled : t ≡ codes "beat " ⧺ server

-- restart ADDR key KEY nonce N
pub record IsRestart (scopes : Scopes) (t : List ℕ) (server_addr : Addr) (value : List ℕ)
    (nonce : ℕ) : Type 0 where
  pub server : List ℕ
  pub key : List ℕ
  pub is_server : IsHost scopes server server_addr
  pub is_key : IsKey key value
  pub fits : nonce < 2 ^ 64
  pub spelled : t ≡ codes "restart " ⧺ server ⧺ codes " key " ⧺ key ⧺ codes " nonce " ⧺ decimal nonce

-- what happens
abbrev pub IsKind : Scopes → List ℕ → EventKind → Type 0
IsKind scopes t (Request target peer bytes) = IsRequest scopes t target peer bytes
IsKind scopes t (Deliver call) = IsNumbered (codes "deliver") t call
IsKind scopes t (Fail call) = IsNumbered (codes "fail") t call
IsKind scopes t (Return delivery) = IsNumbered (codes "return") t delivery
IsKind scopes t (Answer call bytes) = IsAnswer t call bytes
IsKind scopes t (Beat server) = IsBeat scopes t server
IsKind scopes t (Restart server key nonce) = IsRestart scopes t server key nonce

-- a moment, and what happens at it
pub record IsEventLine (scopes : Scopes) (t : List ℕ) (e : Event) : Type 0 where
  pub kind : List ℕ
  pub at : e.at < 2 ^ 64
  pub is_kind : IsKind scopes kind e.kind
  pub spelled : t ≡ decimal e.at ⧺ codes " " ⧺ kind

-- A line is skipped, or says how the farm is set up, or what happens. Its addresses may have scopes where
-- those are taken.
abbrev pub Spells : Scopes → List ℕ → Line → Type 0
Spells scopes t lines.Skip = (t ≡ []) ⊎ ((rest : List ℕ) × (t ≡ codes "#" ++ rest))
Spells scopes t (lines.Setup s) = IsSetupLine scopes t s
Spells scopes t (lines.Event e) = IsEventLine scopes t e

-- a line of the grammar, whose addresses have no scope
abbrev pub IsLine : List ℕ → Line → Type 0
IsLine t l = Spells Refused t l
