-- One thing is taken of the same bytes, and heard of the same answer.
use Rattle.std.proofs.Common.{◌≡◌, ◌≢◌, ℕ, List, [], ◌∷◌, ◌++◌, drop, length, refl, sym, ap, subst, ◌∙◌}
use Rattle.std.proofs.Common.{Option, Some, None, Result, Ok, Err}
use Rattle.dist_types.specs.Content.{Taken}
use Rattle.dist_types.specs.declared.dialer.AskFault.{AskFault}
use Rattle.dist_types.specs.declared.dialer.AskFault.TheVariants as ask
use Rattle.dist_types.specs.declared.outgoing.CallFault.{CallFault}
use Rattle.dist_types.specs.declared.outgoing.CallFault.TheVariants.{Memory}
use Rattle.http_head.specs.declared.request.Request.{Request}
use Rattle.http_head.proofs.CutLemmas.{one_cut}
use Rattle.http_head.proofs.HeadLemmas.{one_request}
use Rattle.http_routes.proofs.CallLemmas as calls
use Rattle.http_connections.specs.Hearing.{Hears}
use Rattle.http_connections.specs.Taking.{Reads, TakesCut}

pub some_same : {X : Type 0} (x y : X) → Some x ≡ Some y → x ≡ y
some_same x y is = cc is

-- ---- lists

pub drop_front : {X : Type 0} (xs ys : List X) → drop (length xs) (xs ++ ys) ≡ ys
drop_front [] ys = refl
drop_front (x ∷ xs) ys = drop_front xs ys

pub head_same : {X : Type 0} (x y : X) (xs ys : List X) → x ∷ xs ≡ y ∷ ys → x ≡ y
head_same x y xs ys is = cc is

same_behind : (xs ys zs : List ℕ) → xs ++ ys ≡ xs ++ zs → ys ≡ zs
same_behind [] ys zs is = is
same_behind (x ∷ xs) ys zs is = same_behind xs ys zs (cc is)

-- ---- what is taken

same_rest : (cut bytes : List ℕ) (new after : Option (List ℕ)) → Taken cut (Some bytes) new
    → Taken cut (Some bytes) after → new ≡ after
same_rest cut bytes None None a b = refl
same_rest cut bytes None (Some y) a b = absurd (cc a)
same_rest cut bytes (Some x) None a b = absurd (cc b)
same_rest cut bytes (Some x) (Some y) a b =
    ap (λ (l : List ℕ). Some l) (same_behind cut x y (some_same (cut ++ x) (cut ++ y) (sym a ∙ b)))

same_reads : (cut : List ℕ) (r q : Option Request) → Reads cut r → Reads cut q → r ≡ q
same_reads cut None None a b = refl
same_reads cut None (Some q) a b = absurd (a q b)
same_reads cut (Some r) None a b = absurd (b r a)
same_reads cut (Some r) (Some q) a b = ap (λ (x : Request). Some x) (one_request cut r q a b)

pub same_taken : (bytes : List ℕ) (new after : Option (List ℕ)) (r q : Option Request) → TakesCut bytes new r
    → TakesCut bytes after q → (r ≡ q) × (new ≡ after)
same_taken bytes new after r q (cut, is_cut, taken, reads) (other, is_other, took, read) =
    let same : cut ≡ other = one_cut bytes cut other is_cut is_other in (
      same_reads cut r q reads (subst (λ c. Reads c q) (sym same) read),
      same_rest cut bytes new after taken (subst (λ c. Taken c (Some bytes) after) (sym same) took),
    )

-- ---- what is heard

pub hears_once : {M : Type 0} (at : List ℕ → Option (M × List ℕ)) (answer : Result (List ℕ) AskFault)
    (h k : Result M CallFault) → h ≢ Err Memory → k ≢ Err Memory → Hears at answer h → Hears at answer k
    → h ≡ k
hears_once at (Ok reply) h k some other a b = calls.one_answer at reply h k (a some) (b other)
hears_once at (Err ask.Failed) h k some other a b = a ∙ sym b
hears_once at (Err ask.Memory) h k some other a b = absurd (some a)
