-- How many members an object has.
use Rattle.std.proofs.Common.{◌≡◌, suc, List, [], ◌∷◌, String, length, refl, ap}
use Rattle.std.specs.declared.alloc.Global.{Global}
use Rattle.serde_json.specs.View.{members_view}
use Rattle.serde_json.specs.declared.value.Value.{Value}
use Rattle.dist_token.specs.Verdict.{count_of}

pub count_of-members_view : (ms : List (String Global × Value)) → count_of (members_view ms) ≡ length ms
count_of-members_view [] = refl
count_of-members_view (m ∷ ms) = ap suc (count_of-members_view ms)
