-- How a farm begins over folders and builders that are handed in.
use Rattle.std.specs.Prelude.{◌≡◌, ℕ, List, length, slice_get, Option, Some}
use Rattle.toolchain_cache.specs.Archives.{Archives}
use Rattle.folders.specs.Held.{Held}
use Rattle.build_server.specs.Builds.{Builder}
use Rattle.farm_script.specs.declared.setup.SetupServer.{SetupServer}
use Rattle.farm_entries.specs.declared.site.SiteServer.{SiteServer}
use Rattle.farm_entries.specs.Passage.{IsBegun}
use Rattle.farm_entries.specs.Sites.{site_server}
use Rattle.farm_entries.specs.Weather.{Outside}

-- a server begins over that folder and with that builder
pub record IsBegunAs (s : SetupServer) (folder : Held) (builder : Builder) (t : SiteServer)
    (o : Outside) : Type 0 where
  pub found : Option Archives
  pub is : t ≡ site_server found s
  pub begun : IsBegun s.capacity (Some builder) folder found o

-- each server of a setup begins so, over its folder and with its builder
pub record AreBegun (ss : List SetupServer) (fs : List Held) (bs : List Builder) (ts : List SiteServer)
    (os : List Outside) : Type 0 where
  pub sites : length ts ≡ length ss
  pub outside : length os ≡ length ss
  pub each : (i : ℕ) (s : SetupServer) (f : Held) (b : Builder) (t : SiteServer) (o : Outside)
      → slice_get ss i ≡ Some s → slice_get fs i ≡ Some f → slice_get bs i ≡ Some b → slice_get ts i ≡ Some t
      → slice_get os i ≡ Some o → IsBegunAs s f b t o
