-- The cut, put together from the stop, its head and the body.
use Rattle.std.proofs.Common.{◌≡◌, ◌≢◌, ℕ, ◌+◌, ◌<◌, ◌≤◌, ◌⊎◌, List, [], ◌++◌, length, take, drop, Option}
use Rattle.std.proofs.Common.{Some, None, refl, sym, ap, ◌∙◌, inl, inr, subst, map, arith, ◌-◌, append_assoc}
use Rattle.std.specs.Prelude.{IfSome, OnErr, Result, Ok, Err}
use Rattle.std.proofs.lemmas.List.{append-nil, length-append, length-drop, length-take, take_at, take_all}
use Rattle.std.proofs.Math.Seq.{take-append-add, drop-length}
use Rattle.httparse.specs.Grammar.{RequestHead, print_request}
use Rattle.httparse.specs.Spans.{name_and_value}
use Rattle.httparse.proofs.GrammarLemmas.{request_unique}
use Rattle.dist_types.specs.Content.{Taken, TookFront, IsAtEnd}
use Rattle.dist_types.proofs.Contents.{taken_then}
use Rattle.http_head.specs.declared.opening.Head.{Head}
use Rattle.http_head.specs.declared.request.Request.{Request}
use Rattle.http_head.specs.Cut.{IsCut, Begins}
use Rattle.http_head.proofs.CutLemmas.{shortest, one_cut}
use Rattle.http_head.specs.Fields.{body_length}
use Rattle.http_head.specs.Head.{Opens}
use Rattle.http_head.specs.Opening.{Announces, AnnouncesNone, IsOpening, FindsOpening}
use Rattle.http_head.specs.Stop.{stop_of}
use Rattle.http_connections.proofs.StopLemmas.{begins_then}
use Rattle.http_connections.specs.Taking.{IsBodyAt, LacksBody, TakesCut, TakesOfStop, TakesWithin}
use Rattle.http_connections.specs.Taking.{TakesOrDrops, TookSome}

-- the cut, which is the head h and the body
pub record CutAt (bytes : List ℕ) (new : Option (List ℕ)) (h : RequestHead) (body : List ℕ)
    (n : ℕ) : Type 0 where
  pub cut : List ℕ
  pub is : IsCut bytes cut
  pub taken : Taken cut (Some bytes) new
  pub announces : Announces cut h body n

-- n bytes of those that are left, or all that are
front_of : (body rest : List ℕ) (n : ℕ) → length body ≤ n → (length body ≡ n) ⊎ (rest ≡ [])
    → take n (body ++ rest) ≡ body
front_of body rest n few (inl is) = take_at body rest n is
front_of body rest n few (inr is) = rw (is, append-nil) (take_all n body few)

cut_behind : (bytes stop body : List ℕ) (mid new : Option (List ℕ)) (h : RequestHead) (n : ℕ)
    → stop_of bytes ≡ stop → Taken stop (Some bytes) mid → Announces stop h [] n → Taken body mid new
    → length body ≤ n → (length body ≡ n) ⊎ IsAtEnd new
    → CutAt bytes new h body n
cut_behind bytes stop body None new h n is before announces behind few all = absurd (cc before)
cut_behind bytes stop body (Some left) None h n is before announces behind few all = absurd (cc behind)
cut_behind bytes stop body (Some left) (Some rest) h n is before announces behind few all =
    let first : bytes ≡ stop ++ left = cc before in
    let second : left ≡ body ++ rest = cc behind in
    let head : stop ≡ print_request h = announces.opens.reads.1 ∙ append-nil (print_request h) in
    let whole : take (length stop + n) bytes ≡ stop ++ body =
    rw (first, second) (take-append-add stop (body ++ rest) n
    ∙ ap (λ l. stop ++ l) (front_of body rest n few all)) in
    record {
      cut = stop ++ body;
      is = inl (
        n,
        (h, subst (λ s. Opens s h []) (sym is) announces.opens, announces.body),
        sym whole
            ∙ ap (λ s. take (length s + n) bytes) (sym is),
      );
      taken = taken_then stop body (Some bytes) (Some left) (Some rest) before behind;
      announces = record {
        opens = record {
          reads = (announces.opens.reads.0, ap (λ s. s ++ body) head);
          within = announces.opens.within;
        };
        body = announces.body;
      };
    }

-- a head that is not the whole stop
cut_within : (bytes stop : List ℕ) (mid : Option (List ℕ)) (h : RequestHead) (len n : ℕ)
    → stop_of bytes ≡ stop → Taken stop (Some bytes) mid → Announces stop h (drop len stop) n
    → len < length stop
    → CutAt bytes mid h (drop len stop) n
cut_within bytes stop mid h len n is before announces more = record {
  cut = stop;
  is = inr (
    (λ m (k, y, said).
        let other = subst (λ s. Opens s k []) is y in
        let same = request_unique stop h k (drop len stop) [] announces.opens.reads other.reads in
        absurd (omega (arith, length-drop len stop, ap length same.1))),
    sym is,
  );
  taken = before;
  announces = announces;
}

-- the cut of a stop that begins with a head
cut_at : (bytes stop body : List ℕ) (mid new : Option (List ℕ)) (head : Head) (h : RequestHead)
    → stop_of bytes ≡ stop → Taken stop (Some bytes) mid → IsOpening stop head h
    → IsBodyAt stop head.len head.body_len body mid new
    → CutAt bytes new h body head.body_len
cut_at bytes stop body mid new head h is before x (inl (whole, behind, few, all)) =
    let nothing : drop head.len stop ≡ [] = ap (λ k. drop k stop) whole ∙ drop-length stop in
    cut_behind bytes stop body mid new h head.body_len is before
    (subst (λ r. Announces stop h r head.body_len) nothing x.announces) behind few all
cut_at bytes stop body mid new head h is before x (inr (more, rest, same)) =
    subst (λ r. CutAt bytes new h r head.body_len) (sym rest)
    (subst (λ o. CutAt bytes o h (drop head.len stop) head.body_len) (sym same)
    (cut_within bytes stop mid h head.len head.body_len is before x.announces more))

-- the request of a head and a body
abbrev pub request_of : Head → List ℕ → Request
request_of head body = record {
  method = head.method;
  target = head.target;
  headers = head.headers;
  body = body;
}

pub has_no_head : (first mid : Option (List ℕ)) (stop : List ℕ) → IfSome first (λ bytes. stop_of bytes ≡ stop)
    → Taken stop first mid → AnnouncesNone stop
    → IfSome first (λ bytes. TakesCut bytes mid None)
has_no_head None mid stop is before none = tt
has_no_head (Some bytes) mid stop is before none = (
  stop,
  inr (
    (λ n (h, y, said). none h [] n (record { opens = subst (λ s. Opens s h []) is y; body = said })),
    sym is,
  ),
  before,
  (λ r (h, y). none h r.body (length r.body) (record { opens = y.opens; body = y.body })),
)

pub is_request : (first mid new : Option (List ℕ)) (stop body : List ℕ) (head : Head)
    → IfSome first (λ bytes. stop_of bytes ≡ stop) → Taken stop first mid → FindsOpening stop (Some head)
    → IsBodyAt stop head.len head.body_len body mid new → length body ≡ head.body_len
    → IfSome first (λ bytes. TakesCut bytes new (Some (request_of head body)))
is_request None mid new stop body head is before found behind count = tt
is_request (Some bytes) mid new stop body head is before (h, x) behind count =
    let at = cut_at bytes stop body mid new head h is before x behind in (
      at.cut,
      at.is,
      at.taken,
      (
        h,
        record {
          opens = at.announces.opens;
          body = at.announces.body ∙ ap (λ (k : ℕ). Some k) (sym count);
          method = x.method;
          target = x.target;
          headers = x.headers;
        },
      ),
    )

pub is_no_request : (first mid new : Option (List ℕ)) (stop body : List ℕ) (head : Head)
    → IfSome first (λ bytes. stop_of bytes ≡ stop) → Taken stop first mid → FindsOpening stop (Some head)
    → IsBodyAt stop head.len head.body_len body mid new → length body ≢ head.body_len
    → IfSome first (λ bytes. TakesCut bytes new None)
is_no_request None mid new stop body head is before found behind other = tt
is_no_request (Some bytes) mid new stop body head is before (h, x) behind other =
    let at = cut_at bytes stop body mid new head h is before x behind in (
      at.cut,
      at.is,
      at.taken,
      (λ r (k, y).
          let same = request_unique at.cut h k body r.body at.announces.opens.reads y.opens.reads in
          let said : Some head.body_len ≡ Some (length r.body) = sym at.announces.body
          ∙ (ap (λ t. body_length (map name_and_value t.fields)) same.0 ∙ y.body) in
          let count : head.body_len ≡ length r.body = cc said in
          other (ap length same.1 ∙ sym count)),
    )

-- a front of at most n bytes begins those that n bytes are taken of
front_within : (front rest : List ℕ) (n : ℕ) → length front ≤ n → Begins front (take n (front ++ rest))
front_within front rest n few =
    let m : n ≡ length front + (n - length front) = omega (arith, few) in (
      take (n - length front) rest,
      ap (λ k. take k (front ++ rest)) m ∙ take-append-add front rest (n - length front),
    )

-- the stop begins the cut
stop_in_cut : (bytes cut : List ℕ) → IsCut bytes cut → Begins (stop_of bytes) cut
stop_in_cut bytes cut (inl (n, x, e)) =
    let at = (shortest bytes).begins in
    (take n at.0, e ∙ (ap (take (length (stop_of bytes) + n)) at.1 ∙ take-append-add (stop_of bytes) at.0 n))
stop_in_cut bytes cut (inr (none, e)) = ([], e ∙ sym (append-nil (stop_of bytes)))

-- what begins the stop begins the cut
pub of_stop_within : (bytes : List ℕ) (new : Option (List ℕ)) → TakesOfStop bytes new → TakesWithin bytes new
of_stop_within bytes new (front, begins, taken) =
    (front, taken, (λ cut is. begins_then front (stop_of bytes) cut begins (stop_in_cut bytes cut is)))

pub stop_within : (first new : Option (List ℕ)) → IfSome first (λ bytes. TakesOfStop bytes new)
    → IfSome first (λ bytes. TakesWithin bytes new)
stop_within None new took = tt
stop_within (Some bytes) new took = of_stop_within bytes new took

-- the stop, and no more
pub whole_within : (first new : Option (List ℕ)) (stop : List ℕ)
    → IfSome first (λ bytes. stop_of bytes ≡ stop) → Taken stop first new
    → IfSome first (λ bytes. TakesWithin bytes new)
whole_within None new stop is before = tt
whole_within (Some bytes) new stop is before =
    of_stop_within bytes new (stop, ([], is ∙ sym (append-nil stop)), before)

-- the stop, which is a head, and a front of the body
body_front : (bytes stop front : List ℕ) (mid new : Option (List ℕ)) (h : RequestHead) (n : ℕ)
    → stop_of bytes ≡ stop → Taken stop (Some bytes) mid → Announces stop h [] n → Taken front mid new
    → length front ≤ n → TakesWithin bytes new
body_front bytes stop front None new h n is before announces behind few = absurd (cc before)
body_front bytes stop front (Some left) None h n is before announces behind few = absurd (cc behind)
body_front bytes stop front (Some left) (Some rest) h n is before announces behind few =
    let first : bytes ≡ stop ++ left = cc before in
    let second : left ≡ front ++ rest = cc behind in
    let inside = front_within front rest n few in
    let head : IsCut bytes (take (length (stop_of bytes) + n) bytes) =
    inl (n, (h, subst (λ s. Opens s h []) (sym is) announces.opens, announces.body), refl) in
    let whole : take (length stop + n) bytes ≡ stop ++ take n (front ++ rest) =
    rw (first, second) (take-append-add stop (front ++ rest) n) in (
      stop ++ front,
      taken_then stop front (Some bytes) (Some left) (Some rest) before behind,
      (λ cut which. (
        inside.0,
        one_cut bytes cut (take (length (stop_of bytes) + n) bytes) which head
            ∙ (ap (λ s. take (length s + n) bytes) is
            ∙ (whole ∙ (ap (λ l. stop ++ l) inside.1 ∙ sym (append_assoc stop front inside.0)))),
      )),
    )

-- the stop, and what was taken of a body that was not made
pub body_within : (first mid new : Option (List ℕ)) (stop : List ℕ) (head : Head)
    → IfSome first (λ bytes. stop_of bytes ≡ stop) → Taken stop first mid → FindsOpening stop (Some head)
    → LacksBody stop head.len head.body_len mid new
    → IfSome first (λ bytes. TakesWithin bytes new)
body_within None mid new stop head is before found lacks = tt
body_within (Some bytes) mid new stop head is before (h, x) (inl (whole, (front, few, behind))) =
    let nothing : drop head.len stop ≡ [] = ap (λ k. drop k stop) whole ∙ drop-length stop in
    body_front bytes stop front mid new h head.body_len is before
    (subst (λ r. Announces stop h r head.body_len) nothing x.announces) behind few
body_within (Some bytes) mid new stop head is before found (inr same) =
    whole_within (Some bytes) new stop is (subst (Taken stop (Some bytes)) (sym same) before)

-- what holds whatever a result is holds of its error
pub on_err : {T E : Type 0} (result : Result T E) {P : Type 0} → P → OnErr result P
on_err (Ok x) p = tt
on_err (Err e) p = p

-- ---- bodies that are dropped

-- a request that was taken whole
pub taken_whole : (settled : Request → Type 0) (first new : Option (List ℕ)) (r : Request)
    → IfSome first (λ bytes. TakesCut bytes new (Some r))
    → IfSome first (λ bytes. TakesOrDrops settled bytes new (Some r))
taken_whole settled None new r took = tt
taken_whole settled (Some bytes) new r took = (r, took, inl refl)

-- one that was taken without its body, which its head settles
pub taken_bare : (settled : Request → Type 0) (first new : Option (List ℕ)) (head : Head) (body : List ℕ)
    → settled (request_of head []) → IfSome first (λ bytes. TakesCut bytes new (Some (request_of head body)))
    → IfSome first (λ bytes. TakesOrDrops settled bytes new (Some (request_of head [])))
taken_bare settled None new head body holds took = tt
taken_bare settled (Some bytes) new head body holds took = (request_of head body, took, inr (holds, refl))

-- so many bytes more
pub some_more : (n m : ℕ) (buf : List ℕ) (old mid new : Option (List ℕ)) → TookSome n old mid
    → Taken (take m buf) mid new → m ≤ length buf → TookSome (n + m) old new
some_more n m buf old mid new (front, is, before) behind room = (
  front ++ take m buf,
  length-append front (take m buf) ∙ omega (arith, is, length-take m buf, room),
  taken_then front (take m buf) old mid new before behind,
)

-- what was taken of a stop and of a body that was not made is a front
pub lacks_front : (stop : List ℕ) (len n : ℕ) (first mid new : Option (List ℕ)) → Taken stop first mid
    → LacksBody stop len n mid new
    → TookFront first new
lacks_front stop len n first mid new before (inl (whole, (front, few, behind))) =
    (stop ++ front, taken_then stop front first mid new before behind)
lacks_front stop len n first mid new before (inr same) = (stop, subst (Taken stop first) (sym same) before)
