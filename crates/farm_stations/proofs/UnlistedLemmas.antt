-- Folders in memory none of whose calls is to fail.
use Rattle.std.proofs.Common.{◌≡◌, ℕ, Bool, true, false, ◌&&◌, ◌||◌, List, [], refl, ap, ◌∙◌}
use Rattle.std.specs.Prelude.{◌==◌, length}
use Rattle.std.proofs.lemmas.Bool.{true≢false}
use Rattle.folders.specs.InMemory.{SameNumbers}
use Rattle.folders.specs.Numbers.{is_listed, stops}
use Rattle.folders.specs.declared.calls.Calls.{Calls}
use Rattle.farm_stations.specs.Unlisted.{NoneListed, FailsNowhere}

none_is : (numbers : List ℕ) (call : ℕ) → numbers ≡ [] → is_listed numbers call ≡ false
none_is numbers call none = ap (λ (l : List ℕ). is_listed l call) none

neither : (a b : Bool) → a ≡ false → b ≡ false → (a || b) ≡ false
neither true b e f = absurd (true≢false e)
neither false true e f = absurd (true≢false f)
neither false false e f = refl

not_both : (a b : Bool) → a ≡ false → (a && b) ≡ false
not_both true b e = absurd (true≢false e)
not_both false b e = refl

fails_nowhere : (calls : Calls) → NoneListed calls → FailsNowhere calls
fails_nowhere calls none =
    let before = none_is calls.before.items calls.count none.before in
    let after = none_is calls.after.items calls.count none.after in
    let middle = none_is calls.middle.items calls.count none.middle in
    record {
      before = neither (is_listed calls.before.items calls.count) (stops calls) before middle;
      after = after;
      piece = λ bytes. neither (is_listed calls.before.items calls.count)
          (stops calls && length bytes == 0) before (not_both (stops calls) (length bytes == 0) middle);
      breaks = neither (stops calls) (is_listed calls.after.items calls.count) middle after;
    }

pub never_fails : (calls next : Calls) → NoneListed calls
    → FailsNowhere calls × (SameNumbers calls next → NoneListed next)
never_fails calls next none = (
  fails_nowhere calls none,
  λ same. record {
    before = ap (λ v. v.items) same.0 ∙ none.before;
    after = ap (λ v. v.items) same.1 ∙ none.after;
    middle = ap (λ v. v.items) same.2 ∙ none.middle;
  },
)
