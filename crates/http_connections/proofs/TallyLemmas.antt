-- What a kit gave and got back, one connection after another.
use Rattle.std.proofs.Common.{◌≡◌, List, [], ◌∷◌, ◌++◌, Option, Some, None, refl, sym, ap, ◌∙◌, append_assoc}
use Rattle.std.proofs.Common.{subst}
use Rattle.std.specs.Prelude.{IfSome}
use Rattle.std.proofs.lemmas.List.{append-nil}
use Rattle.dist_types.specs.declared.addr.Addr.{Addr}
use Rattle.http_head.specs.declared.request.Request.{Request}
use Rattle.http_connections.specs.Served.{Shown, MadeReply, IsServedBy}
use Rattle.http_connections.specs.declared.served.Served.{Served}
use Rattle.http_connections.specs.Tally.{Tally, Gave, GotBack, AllServed}

-- so many went and came back, and these are left
pub record Went {L A : Type 0} (replies : Addr → Option Request → A → A → MadeReply → Type 0)
    (shown : L → Shown) (old : Tally L) (new : Option (Tally L)) (before after : A) : Type 0 where
  pub gone : List (L × Addr)
  pub back : List (L × Served)
  pub rest : List (L × Addr)
  pub all : old.coming ≡ gone ++ rest
  pub now : new ≡ Some (record { coming = rest; came = old.came ++ back })
  pub served : AllServed replies shown gone back before after

abbrev pub SoFar : {L A : Type 0} → (Addr → Option Request → A → A → MadeReply → Type 0) → (L → Shown)
    → Option (Tally L) → Option (Tally L) → A → A → Type 0
SoFar replies shown old new before after = IfSome old (λ t. Went replies shown t new before after)

pub none_yet : {L A : Type 0} (replies : Addr → Option Request → A → A → MadeReply → Type 0)
    (shown : L → Shown) (old : Option (Tally L)) (a : A) → SoFar replies shown old old a a
none_yet replies shown None a = tt
none_yet replies shown (Some t) a = record {
  gone = [];
  back = [];
  rest = t.coming;
  all = refl;
  now = ap (λ c. Some (record { coming = t.coming; came = c })) (sym (append-nil t.came));
  served = refl;
}

served-push : {L A : Type 0} (replies : Addr → Option Request → A → A → MadeReply → Type 0)
    (shown : L → Shown)
    (gone : List (L × Addr)) (back : List (L × Served)) (given : L × Addr) (b : L × Served)
    (before between after : A)
    → AllServed replies shown gone back before between → IsServedBy (replies given.1) (shown given.0)
    (shown b.0) between after b.1
    → AllServed replies shown (gone ++ given ∷ []) (back ++ b ∷ []) before after
served-push replies shown [] [] given b before between after all one =
    (after, subst (λ a. IsServedBy (replies given.1) (shown given.0) (shown b.0) a after b.1) all one, refl)
served-push replies shown [] (c ∷ back) given b before between after all one = absurd all
served-push replies shown (l ∷ gone) [] given b before between after all one = absurd all
served-push replies shown (l ∷ gone) (c ∷ back) given b before between after all one =
    (all.0, all.1, served-push replies shown gone back given b all.0 between after all.2 one)

some_is : {L : Type 0} (x y : Tally L) → Some x ≡ Some y → x ≡ y
some_is x y e = cc e

-- one link more
pub one_more : {L A : Type 0} (replies : Addr → Option Request → A → A → MadeReply → Type 0)
    (shown : L → Shown) (first old mid new : Option (Tally L)) (given : L × Addr) (back : L) (served : Served)
    (before between after : A)
    → SoFar replies shown first old before between → Gave given old mid → GotBack back served mid new
    → IsServedBy (replies given.1) (shown given.0) (shown back) between after served
    → SoFar replies shown first new before after
one_more replies shown None old mid new given back served before between after so_far gave got is = tt
one_more replies shown (Some t) old None new given back served before between after so_far gave got is =
    absurd (cc (so_far.now, gave))
one_more {L} replies shown (Some t) old (Some m) new given back served before between after so_far gave got is
    =
    let both = some_is {L = L} (record { coming = so_far.rest; came = t.came ++ so_far.back })
    (record { coming = given ∷ m.coming; came = m.came }) (sym so_far.now ∙ gave) in
    let rest : so_far.rest ≡ given ∷ m.coming = ap (λ (x : Tally L). x.coming) both in
    let came : m.came ≡ t.came ++ so_far.back = sym (ap (λ (x : Tally L). x.came) both) in
    record {
      gone = so_far.gone ++ given ∷ [];
      back = so_far.back ++ (back, served) ∷ [];
      rest = m.coming;
      all = so_far.all ∙ (ap (λ r. so_far.gone ++ r) rest
          ∙ sym (append_assoc so_far.gone (given ∷ []) m.coming));
      now = got ∙ ap (λ c. Some (record { coming = m.coming; came = c }))
          (ap (λ c. c ++ (back, served) ∷ []) came ∙ append_assoc t.came so_far.back ((back, served) ∷ []));
      served = served-push replies shown so_far.gone so_far.back given (back, served) before between after
          so_far.served is;
    }
