-- What the files are exactly behind steps, and what is left of them.
use Rattle.std.proofs.Common.{◌≡◌, ℕ, Bool, true, false, List, ◌++◌}
use Rattle.std.proofs.Common.{Option, Some, None, is_some, Result, Ok, Err, OnOk, refl, sym}
use Rattle.std.proofs.Common.{ap, subst, ◌∙◌, true≢false}
use Rattle.std.specs.Option.{option_map}
use Rattle.std.specs.Str.{bytes_eq}
use Rattle.std.proofs.lemmas.Slice.Eq.{bytes_eq-Decides}
use Rattle.folders.proofs.Became.{became_map, became_same, became_then}
use Rattle.folders.proofs.Lookups.{without_other, without_same}
use Rattle.folders.specs.Files.{Files, file_at, without}
use Rattle.folders.specs.Held.{Became, BecameBy}
use Rattle.dist_types.specs.declared.folder_fault.FolderFault.{FolderFault}
use Rattle.folders.specs.Changed.{OnlyRemoved, ButAt, ButUnder, SameAt}

pub made_then : (f g : Files → Files) (one two three : Option Files) → BecameBy f one two
    → BecameBy g two three
    → BecameBy (λ x. g (f x)) one three
made_then f g one two three a b = b ∙ (ap (option_map g) a ∙ by one)
  where
    by : (o : Option Files) → option_map g (option_map f o) ≡ option_map (λ x. g (f x)) o
    by None = refl
    by (Some x) = refl

pub made_is : (f : Files → Files) (old new : Option Files) → BecameBy f old new → Became
    (λ a b. b ≡ f a) old new
made_is f None new h = h
made_is f (Some x) new h = (f x, h, refl)

pub without_was : (p q b : List ℕ) (files : Files) → file_at (without p files) q ≡ Some b
    → file_at files q ≡ Some b
without_was p q b files found = by (bytes_eq p q) refl
  where
    by : (c : Bool) → bytes_eq p q ≡ c → file_at files q ≡ Some b
    by false other = sym (without_other p q files other) ∙ found
    by true same =
        let P : List ℕ → Type 0 = λ x. file_at (without p files) x ≡ None in
        absurd (true≢false (ap is_some
        (sym found ∙ subst P ((bytes_eq-Decides p q).0 same) (without_same p files))))

pub removed_only : (path : List ℕ) (old new : Option Files) → Became (λ f g. g ≡ without path f) old new
    → Became OnlyRemoved old new
removed_only path old new h =
    became_map (λ f g. g ≡ without path f) OnlyRemoved old new
    (λ f g is q b found. without_was path q b f (sym (ap (λ l. file_at l q) is) ∙ found)) h

pub none_removed : (o : Option Files) → Became OnlyRemoved o o
none_removed o = became_same OnlyRemoved o (λ f q b h. h)

pub removed_both : (one two three : Option Files) → Became OnlyRemoved one two → Became OnlyRemoved two three
    → Became OnlyRemoved one three
removed_both one two three a b = became_then OnlyRemoved OnlyRemoved OnlyRemoved one two three
    (λ f g h x y q c found. x q c (y q c found)) a b

-- where nothing is changed before
pub same_removed : (one two three : Option Files) → Became SameAt one two → Became OnlyRemoved two three
    → Became OnlyRemoved one three
same_removed one two three a b =
    became_then SameAt OnlyRemoved OnlyRemoved one two three (λ f g h x y q c found. sym (x q) ∙ y q c found)
    a b

pub removed_twice : (one two three four : Option Files) → Became SameAt one two → Became OnlyRemoved two three
    → Became OnlyRemoved three four → Became OnlyRemoved one four
removed_twice one two three four a b c = same_removed one two four a (removed_both two three four b c)

pub none_outside : (root : List ℕ) (o : Option Files) → Became (ButUnder root) o o
none_outside root o = became_same (ButUnder root) o (λ f q away. refl)

pub outside_at : (root key : List ℕ) (old new : Option Files) → Became (ButAt (root ++ key)) old new
    → Became (ButUnder root) old new
outside_at root key old new h = became_map (ButAt (root ++ key)) (ButUnder root) old new
    (λ f g but q away. but q (away key)) h

pub outside_ok : {T : Type 0} (root key : List ℕ) (result : Result T FolderFault) (old new : Option Files)
    → Became (ButAt (root ++ key)) old new → OnOk result (Became (ButUnder root) old new)
outside_ok root key (Ok x) old new h = outside_at root key old new h
outside_ok root key (Err e) old new h = tt

pub outside_both : (root : List ℕ) (one two three : Option Files) → Became (ButUnder root) one two
    → Became (ButUnder root) two three → Became (ButUnder root) one three
outside_both root one two three a b = became_then (ButUnder root) (ButUnder root)
    (ButUnder root) one two three (λ f g h x y q away. y q away ∙ x q away) a b

pub outside_twice : (root : List ℕ) (one two three four : Option Files) → Became SameAt one two
    → Became (ButUnder root) two three → Became (ButUnder root) three four → Became (ButUnder root) one four
outside_twice root one two three four a b c =
    outside_both root one three four (became_then SameAt (ButUnder root) (ButUnder root) one two three
    (λ f g h x y q away. y q away ∙ x q) a b) c
