-- The least unknown key is unknown, and no greater than any other.
use Rattle.std.proofs.Common.{◌≡◌, ◌⊎◌, Ordering, inl, inr, ℕ, List, [], ◌∷◌, Bool, true, false, ◌||◌}
use Rattle.std.proofs.Common.{if◌then◌else◌, Option, Some, None, refl, sym, ◌∙◌, ap, subst}
use Rattle.std.specs.Cmp.Lexicographic.{slice_cmp}
use Rattle.std.specs.Ordering.{nat_cmp, is_gt, ordering_reverse}
use Rattle.std.specs.declared.cmp.Ordering.TheVariants.{Less, Equal, Greater}
use Rattle.std.specs.Str.{bytes_eq}
use Rattle.std.proofs.lemmas.Cmp.{upto, tied_itself, nat_list_cmp_total}
use Rattle.std.proofs.lemmas.Slice.Eq.{bytes_eq-Decides}
use Rattle.toml.specs.Data.{Data, Members, no_members, member}
use Rattle.command_line.specs.Unknown.{is_known, lesser, least_from, least_unknown, has_key, IsUnknown}
use Rattle.command_line.specs.Unknown.{IsLeast}

-- no greater, in byte order
abbrev UpTo : List ℕ → List ℕ → Type 0
UpTo a b = is_gt (slice_cmp nat_cmp a b) ≡ false

itself : (a : List ℕ) → UpTo a a
itself a = ap is_gt (tied_itself nat_list_cmp_total a)

through : (a b c : List ℕ) → UpTo a b → UpTo b c → UpTo a c
through a b c x y = upto nat_list_cmp_total a b c x y

is_same : (a b : List ℕ) → bytes_eq a b ≡ true → a ≡ b
is_same a b e = (bytes_eq-Decides a b).0 e

is_itself : (a : List ℕ) → bytes_eq a a ≡ true
is_itself a = (bytes_eq-Decides a a).1 refl

-- the lesser of two is no greater than either, and one of them
lesser_key : (key : List ℕ) (least : Option (List ℕ)) → UpTo (lesser key least) key
lesser_key key None = itself key
lesser_key key (Some other) = by (slice_cmp nat_cmp key other) refl
  where
    by : (o : Ordering) → slice_cmp nat_cmp key other ≡ o → UpTo (if is_gt o then other else key) key
    by Less e = itself key
    by Equal e = itself key
    by Greater e = ap is_gt (nat_list_cmp_total.antisymm other key ∙ ap ordering_reverse e)

lesser_other : (key other : List ℕ) → UpTo (lesser key (Some other)) other
lesser_other key other = by (slice_cmp nat_cmp key other) refl
  where
    by : (o : Ordering) → slice_cmp nat_cmp key other ≡ o → UpTo (if is_gt o then other else key) other
    by Less e = ap is_gt e
    by Equal e = ap is_gt e
    by Greater e = itself other

lesser_is : (key : List ℕ) (least : Option (List ℕ)) → (lesser key least ≡ key)
    ⊎ (least ≡ Some (lesser key least))
lesser_is key None = inl refl
lesser_is key (Some other) = by (is_gt (slice_cmp nat_cmp key other))
  where
    by : (b : Bool) → ((if b then other else key) ≡ key) ⊎ (Some other ≡ Some (if b then other else key))
    by true = inr refl
    by false = inl refl

-- unknown keys of a longer table
is_later : (known : List (List ℕ)) (key : List ℕ) (value : Data) (rest : Members) (k : List ℕ)
    → IsUnknown known rest k
    → IsUnknown known (member key value rest) k
is_later known key value rest k u = (by (bytes_eq k key), u.1)
  where
    by : (b : Bool) → b || has_key k rest ≡ true
    by true = refl
    by false = u.0

is_first : (known : List (List ℕ)) (key : List ℕ) (value : Data) (rest : Members) → is_known known key ≡ false
    → IsUnknown known (member key value rest) key
is_first known key value rest e = (ap (λ b. b || has_key key rest) (is_itself key), e)

is_either : (known : List (List ℕ)) (key : List ℕ) (value : Data) (rest : Members) (k : List ℕ)
    → IsUnknown known (member key value rest) k → (k ≡ key) ⊎ IsUnknown known rest k
is_either known key value rest k u = by (bytes_eq k key) refl u.0
  where
    by : (b : Bool) → bytes_eq k key ≡ b → b || has_key k rest ≡ true → (k ≡ key) ⊎ IsUnknown known rest k
    by true e h = inl (is_same k key e)
    by false e h = inr (h, u.1)

-- the least of a table and of what was least so far
abbrev LeastOf : List (List ℕ) → Option (List ℕ) → Members → Option (List ℕ) → Type 0
LeastOf known least table None = (least ≡ None) × ((k : List ℕ) → IsUnknown known table k → ⊥)
LeastOf known least table (Some l) = ((least ≡ Some l) ⊎ IsUnknown known table l)
    × ((s : List ℕ) → least ≡ Some s → UpTo l s) × ((k : List ℕ) → IsUnknown known table k → UpTo l k)

none_here : (known : List (List ℕ)) (k : List ℕ) → IsUnknown known no_members k → ⊥
none_here known k u = cc (u.0)

at_end : (known : List (List ℕ)) (least : Option (List ℕ)) → LeastOf known least no_members least
at_end known None = (refl, none_here known)
at_end known (Some l) = (
  inl refl,
  λ s e. subst (UpTo l) (cc e) (itself l),
  λ k u.
      absurd (none_here known k u),
)

behind_known : (known : List (List ℕ)) (least : Option (List ℕ)) (key : List ℕ) (value : Data)
    (rest : Members)
    (r : Option (List ℕ)) → is_known known key ≡ true → LeastOf known least rest r
    → LeastOf known least (member key value rest) r
behind_known known least key value rest None e f = (f.0, λ k u. by k u (is_either known key value rest k u))
  where
    by : (k : List ℕ) → IsUnknown known (member key value rest) k → (k ≡ key) ⊎ IsUnknown known rest k → ⊥
    by k u (inl same) = cc (subst (λ w. is_known known w ≡ false) same (u.1), e)
    by k u (inr w) = f.1 k w
behind_known known least key value rest (Some l) e f =
    (from (f.0), f.1, λ k u. by k u (is_either known key value rest k u))
  where
    from : (least ≡ Some l) ⊎ IsUnknown known rest l → (least ≡ Some l)
        ⊎ IsUnknown known (member key value rest) l
    from (inl same) = inl same
    from (inr u) = inr (is_later known key value rest l u)

    by : (k : List ℕ) → IsUnknown known (member key value rest) k → (k ≡ key) ⊎ IsUnknown known rest k
        → UpTo l k
    by k u (inl same) = absurd (cc (subst (λ w. is_known known w ≡ false) same (u.1), e))
    by k u (inr w) = f.2 k w

behind_unknown : (known : List (List ℕ)) (least : Option (List ℕ)) (key : List ℕ) (value : Data)
    (rest : Members)
    (r : Option (List ℕ)) → is_known known key ≡ false → LeastOf known (Some (lesser key least)) rest r
    → LeastOf known least (member key value rest) r
behind_unknown known least key value rest None e f = absurd (cc (f.0))
behind_unknown known least key value rest (Some l) e f =
    (from (f.0), so_far, λ k u. by k (is_either known key value rest k u))
  where
    to_lesser : UpTo l (lesser key least)
    to_lesser = f.1 (lesser key least) refl

    first : (w : List ℕ) → w ≡ l → (w ≡ key) ⊎ (least ≡ Some w)
        → (least ≡ Some l) ⊎ IsUnknown known (member key value rest) l
    first w same (inl is) = inr (subst (IsUnknown known (member key value rest)) (sym is ∙ same)
        (is_first known key value rest e))
    first w same (inr is) = inl (is ∙ ap Some same)

    from : (Some (lesser key least) ≡ Some l) ⊎ IsUnknown known rest l
        → (least ≡ Some l) ⊎ IsUnknown known (member key value rest) l
    from (inl same) = first (lesser key least) (cc same) (lesser_is key least)
    from (inr u) = inr (is_later known key value rest l u)

    so_far : (s : List ℕ) → least ≡ Some s → UpTo l s
    so_far s is = through l (lesser key least) s to_lesser
        (subst (λ w. UpTo (lesser key w) s) (sym is) (lesser_other key s))

    by : (k : List ℕ) → (k ≡ key) ⊎ IsUnknown known rest k → UpTo l k
    by k (inl same) = subst (UpTo l) (sym same)
        (through l (lesser key least) key to_lesser (lesser_key key least))
    by k (inr w) = f.2 k w

least_of : (known : List (List ℕ)) (least : Option (List ℕ)) (table : Members)
    → LeastOf known least table (least_from known least table)
least_of known least no_members = at_end known least
least_of known least (member key value rest) =
    by (is_known known key) refl (least_of known least rest) (least_of known (Some (lesser key least)) rest)
  where
    by : (b : Bool) → is_known known key ≡ b → LeastOf known least rest (least_from known least rest)
        → LeastOf known (Some (lesser key least)) rest (least_from known (Some (lesser key least)) rest)
        → LeastOf known least (member key value rest)
        (least_from known (if b then least else Some (lesser key least)) rest)
    by true e f g = behind_known known least key value rest _ e f
    by false e f g = behind_unknown known least key value rest _ e g

pub least_is : (known : List (List ℕ)) (table : Members) → IsLeast known table (least_unknown known table)
least_is known table = by (least_from known None table) (least_of known None table)
  where
    from : (l : List ℕ) → (None ≡ Some l) ⊎ IsUnknown known table l → IsUnknown known table l
    from l (inl e) = absurd (cc e)
    from l (inr u) = u

    by : (r : Option (List ℕ)) → LeastOf known None table r → IsLeast known table r
    by None f = f.1
    by (Some l) f = (from l (f.0), f.2)
