-- What each setup has that was read from a script.
use Rattle.std.specs.Prelude.{◌≢◌, ◌≤◌, List, [], ◌∷◌, length, map}
use Rattle.std.specs.List.{AllByRecursion}
use Rattle.dist_types.specs.declared.addr.Addr.{Addr}
use Rattle.farm_script.specs.Grammar.{IsToken, HasKeyLength}
use Rattle.farm_script.specs.declared.setup.SetupAuth.{SetupAuth}
use Rattle.farm_script.specs.declared.setup.SetupAuth.TheVariants.{Plain, Jwt}
use Rattle.farm_script.specs.declared.setup.Setup.{Setup}

-- no address stands twice
abbrev pub AreApart : List Addr → Type 0
AreApart [] = Unit {0}
AreApart (a ∷ addrs) = AllByRecursion (λ b. b ≢ a) addrs × AreApart addrs

-- a token, or a key
abbrev pub HasAuth : SetupAuth → Type 0
HasAuth (Plain token) = IsToken token token
HasAuth (Jwt key) = HasKeyLength key

-- The addresses of the scheduler and of its servers differ; there are at most 1,000 servers; tokens and keys
-- have their lengths.
pub record IsSetup (s : Setup) : Type 0 where
  pub apart : AreApart (s.scheduler.addr ∷ map (λ x. x.addr) s.servers)
  pub few : length s.servers ≤ 1000
  pub client : IsToken s.scheduler.client s.scheduler.client
  pub auth : HasAuth s.scheduler.auth
  pub keys : AllByRecursion (λ x. HasKeyLength x.key) s.servers
