-- What is known of the bytes that came of a request, one byte after another.
use Rattle.std.proofs.Common.{◌≡◌, ℕ, suc, ◌+◌, ◌-◌, ◌<◌, ◌≤◌, nat_lt, nat_le, Bool, true, false, cond, ◌&&◌, ◌||◌}
use Rattle.std.proofs.Common.{List, [], ◌∷◌, ◌++◌, length, take, drop, map, Option, Some, None, refl, sym, ap}
use Rattle.std.proofs.Common.{◌∙◌, subst, append_assoc, arith, not}
use Rattle.std.proofs.lemmas.Bool.{le-leb}
use Rattle.std.proofs.lemmas.List.{append-nil, length-append, length-drop, length-take, take-append-drop}
use Rattle.httparse.proofs.GrammarLemmas.{request_unique}
use Rattle.httparse.specs.Spans.{name_and_value}
use Rattle.http_head.specs.Fields.{body_length}
use Rattle.http_head.specs.Opening.{FindsOpening}
use Rattle.http_head.specs.Stop.{one_more, lines_of, no_lines, ends_head, is_stop, stop_from, stop_of}
use Rattle.http_head.specs.declared.opening.Head.{Head}
use Rattle.http_routes.specs.declared.kind.Kind.TheVariants.{Quick}
use Rattle.http_routes.specs.declared.kind.Role.{Role}
use Rattle.http_routes.specs.declared.kind.Kind.{Kind}
use Rattle.http_routes.specs.Kind.{kind_of}
use Rattle.http_connections.specs.Scan.{Sees}
use Rattle.http_connections.specs.Plain.{is_plain}
use Rattle.http_connections.specs.Whole.{has_body, is_whole, kind_by, IsThere, IsOfKind}
use Rattle.http_connections.specs.Looked.{IsOpen, IsStopped, IsRead, Stops, Keeps, IsLooked, is_whole_by, kept_kind}
use Rattle.http_connections.specs.declared.begun.Looked.{Looked}
use Rattle.http_connections.specs.declared.begun.Looked.TheVariants.{Open}
use Rattle.http_connections.specs.declared.begun.Opened.{Opened}
use Rattle.http_connections.specs.declared.scan.Scan.{Scan}
use Rattle.http_connections.proofs.PlainLemmas.{plain_says}
use Rattle.http_connections.proofs.StopLemmas.{lines-push, stop_by_end, stop_by_length, no_stop}

-- ---- bytes without a stop

pub nothing_came : (scan : Scan) → Sees scan no_lines → IsOpen [] scan
unfolding is_stop
nothing_came scan sees = record { sees = sees; short = omega arith; none = refl; goes = λ rest. refl }

-- one byte more, which is no stop
pub open_more : (out : List ℕ) (b : ℕ) (scan next : Scan) (t : Bool) → IsOpen out scan
    → t ≡ ends_head (one_more (lines_of out) b) → t ≡ false → suc (length out) < 65537
    → Sees next (one_more (lines_of out) b) → IsOpen (out ++ b ∷ []) next
open_more out b scan next t before is fails short sees =
    let long : length (out ++ b ∷ []) ≡ suc (length out) = omega (arith, length-append out (b ∷ [])) in
    let none = no_stop out b t is fails (λ e. absurd (omega (arith, long, short, e))) in
    record {
      sees = subst (λ ls. Sees next ls) (sym (lines-push out b)) sees;
      short = omega (arith, long, short);
      none = none;
      goes = λ rest. ap stop_of (append_assoc out (b ∷ []) rest)
          ∙ (before.goes (b ∷ rest)
          ∙ ap (λ s. cond s (out ++ b ∷ []) (stop_from (out ++ b ∷ []) rest)) none);
    }

-- one byte more, which is the stop
stopped_at : (bytes out rest : List ℕ) (b : ℕ) (scan : Scan) → IsOpen out scan → is_stop (out ++ b ∷ []) ≡ true
    → bytes ≡ (out ++ b ∷ []) ++ rest → IsStopped bytes (out ++ b ∷ [])
stopped_at bytes out rest b scan before is whole = record {
  is = is;
  stays = λ more. ap (λ l. stop_of (l ++ more)) whole
      ∙ (ap stop_of (append_assoc (out ++ b ∷ []) rest more)
      ∙ (ap stop_of (append_assoc out (b ∷ []) (rest ++ more))
      ∙ (before.goes (b ∷ (rest ++ more))
      ∙ ap (λ s. cond s (out ++ b ∷ []) (stop_from (out ++ b ∷ []) (rest ++ more))) is)));
}

finds_stop : (bytes : List ℕ) (at b : ℕ) (scan : Scan) → at < length bytes → IsOpen (take at bytes) scan
    → take (at + 1) bytes ≡ take at bytes ++ b ∷ [] → is_stop (take at bytes ++ b ∷ []) ≡ true
    → (at + 1 ≤ length bytes) × IsStopped bytes (take (at + 1) bytes)
finds_stop bytes at b scan lt before one is =
    let whole = sym (take-append-drop (at + 1) bytes) ∙ ap (λ l. l ++ drop (at + 1) bytes) one in (
      omega (arith, lt),
      subst (λ s. IsStopped bytes s) (sym one)
          (stopped_at bytes (take at bytes) (drop (at + 1) bytes) b scan before is whole),
    )

pub found_by_end : (bytes : List ℕ) (at b : ℕ) (scan : Scan) (t : Bool) → at < length bytes
    → IsOpen (take at bytes) scan → take (at + 1) bytes ≡ take at bytes ++ b ∷ []
    → t ≡ ends_head (one_more (lines_of (take at bytes)) b) → t ≡ true
    → (at + 1 ≤ length bytes) × IsStopped bytes (take (at + 1) bytes)
found_by_end bytes at b scan t lt before one is holds =
    finds_stop bytes at b scan lt before one (stop_by_end (take at bytes) b t is holds)

pub found_by_length : (bytes : List ℕ) (at b : ℕ) (scan : Scan) → at < length bytes
    → IsOpen (take at bytes) scan → take (at + 1) bytes ≡ take at bytes ++ b ∷ [] → 65537 ≤ at + 1
    → (at + 1 ≤ length bytes) × IsStopped bytes (take (at + 1) bytes)
found_by_length bytes at b scan lt before one many =
    let long : length (take at bytes ++ b ∷ []) ≡ 65537 =
    omega (arith, length-append (take at bytes) (b ∷ []), length-take at bytes, before.short, lt, many) in
    finds_stop bytes at b scan lt before one (stop_by_length (take at bytes) b long)

-- the same with one byte more of the bytes, which is no stop
pub open_on : (bytes : List ℕ) (at b : ℕ) (scan next : Scan) (t : Bool) → at < length bytes
    → IsOpen (take at bytes) scan → take (at + 1) bytes ≡ take at bytes ++ b ∷ []
    → t ≡ ends_head (one_more (lines_of (take at bytes)) b) → t ≡ false → at + 1 < 65537
    → Sees next (one_more (lines_of (take at bytes)) b) → IsOpen (take (at + 1) bytes) next
open_on bytes at b scan next t lt before one is fails short sees =
    let few : suc (length (take at bytes)) < 65537 = omega (arith, length-take at bytes, lt, short) in
    subst (λ l. IsOpen l next) (sym one) (open_more (take at bytes) b scan next t before is fails few sees)

-- ---- more bytes

stop_as : (role : Role) (bytes stop : List ℕ) (opened : Option Opened) → stop ≡ stop_of bytes
    → IsStopped bytes stop → IsRead role stop opened → Stops role bytes opened
stop_as role bytes stop opened same is read = record {
  stop = subst (λ s. IsStopped bytes s) same is;
  read = subst (λ s. IsRead role s opened) same read;
}

-- the stop stays
pub stops_on : (role : Role) (bytes piece : List ℕ) (opened : Option Opened) → Stops role bytes opened
    → Stops role (bytes ++ piece) opened
stops_on role bytes piece opened s =
    stop_as role (bytes ++ piece) (stop_of bytes) opened (sym (s.stop.stays piece))
    (record { is = s.stop.is; stays = λ rest. ap stop_of (append_assoc bytes piece rest) ∙ s.stop.stays (piece ++ rest) })
    s.read

-- it was found, and read
pub stops_at : (role : Role) (bytes : List ℕ) (len : ℕ) (opened : Option Opened) → IsStopped bytes (take len bytes)
    → IsRead role (take len bytes) opened → Stops role bytes opened
stops_at role bytes len opened is read =
    stop_as role bytes (take len bytes) opened
    (sym (ap stop_of (sym (append-nil bytes)) ∙ is.stays [])) is read

pub open_as : (role : Role) (bytes : List ℕ) (looked : Looked) → IsLooked role bytes looked
    → (scan : Scan) → looked ≡ Open scan → IsOpen bytes scan
open_as role bytes looked known scan is = subst (λ l. IsLooked role bytes l) is known

record Same (a b : Head) : Type 0 where
  pub method : a.method ≡ b.method
  pub target : a.target ≡ b.target
  pub len : a.len ≡ b.len
  pub body_len : a.body_len ≡ b.body_len

of_some : (a b : ℕ) → Some a ≡ Some b → a ≡ b
of_some a b e = cc e

one_head : (stop : List ℕ) (a b : Head) → FindsOpening stop (Some a) → FindsOpening stop (Some b) → Same a b
one_head stop a b (h, x) (k, y) =
    let same = request_unique stop h k (drop a.len stop) (drop b.len stop) x.announces.opens.reads
    y.announces.opens.reads in
    record {
      method = x.method ∙ (ap (λ r. r.method) same.0 ∙ sym y.method);
      target = x.target ∙ (ap (λ r. r.target) same.0 ∙ sym y.target);
      len = omega (arith, x.within, y.within, length-drop a.len stop, length-drop b.len stop, ap length same.1);
      body_len = of_some a.body_len b.body_len
          (sym x.announces.body ∙ (ap (λ r. body_length (map name_and_value r.fields)) same.0 ∙ y.announces.body));
    }

whole_alike : (len : ℕ) (a b : Head) → Same a b → is_whole len (Some a) ≡ is_whole len (Some b)
whole_alike len a b same =
    ap (λ n. nat_lt 65536 n || nat_le n (len - a.len)) same.body_len
    ∙ ap (λ n. nat_lt 65536 b.body_len || nat_le b.body_len (len - n)) same.len

kind_alike : (role : Role) (len : ℕ) (more : Bool) (a b : Head) → Same a b
    → kind_by role len more (Some a) ≡ kind_by role len more (Some b)
kind_alike role len more a b same =
    ap (λ n. cond (more && not (nat_le n (len - a.len))) None (Some (kind_of role a.method a.target)))
    same.body_len
    ∙ (ap (λ n. cond (more && not (nat_le b.body_len (len - n))) None
    (Some (kind_of role a.method a.target))) same.len
    ∙ (ap (λ m. cond (more && not (has_body len b)) None (Some (kind_of role m a.target))) same.method
    ∙ ap (λ t. cond (more && not (has_body len b)) None (Some (kind_of role b.method t))) same.target))

-- ---- what is kept of it

kept_whole : (role : Role) (len : ℕ) (opened : Option Opened) (head : Option Head)
    → Keeps role opened head → is_whole_by len opened ≡ is_whole len head
kept_whole role len None head keeps = ap (λ h. is_whole len h) (sym keeps)
kept_whole role len (Some opened) None keeps = absurd keeps
kept_whole role len (Some opened) (Some head) (same_kind, head_len, body_len) =
    ap (λ n. nat_lt 65536 n || nat_le n (len - opened.head_len)) body_len
    ∙ ap (λ n. nat_lt 65536 head.body_len || nat_le head.body_len (len - n)) head_len

kept_by : (role : Role) (len : ℕ) (more : Bool) (opened : Option Opened) (head : Option Head)
    → Keeps role opened head → kept_kind len more opened ≡ kind_by role len more head
kept_by role len more None head keeps = ap (λ h. kind_by role len more h) (sym keeps)
kept_by role len more (Some opened) None keeps = absurd keeps
kept_by role len more (Some opened) (Some head) (same_kind, head_len, body_len) =
    ap (λ k. cond (more && not (nat_le opened.body_len (len - opened.head_len))) None (Some k)) same_kind
    ∙ (ap (λ n. cond (more && not (nat_le n (len - opened.head_len))) None
    (Some (kind_of role head.method head.target))) body_len
    ∙ ap (λ n. cond (more && not (nat_le head.body_len (len - n))) None
    (Some (kind_of role head.method head.target))) head_len)

none_left : (n : ℕ) → nat_le 0 n ≡ true
none_left n = le-leb 0 n (omega arith)

plain_whole : (len : ℕ) (head : Head) → head.body_len ≡ 0 → true ≡ is_whole len (Some head)
plain_whole len head none = sym (
    ap (λ n. nat_lt 65536 n || nat_le n (len - head.len)) none ∙ none_left (len - head.len)
    )

more_of_none : (more : Bool) (k : Kind) → cond (more && false) None (Some k) ≡ Some k
more_of_none true k = refl
more_of_none false k = refl

plain_kind : (role : Role) (len : ℕ) (more : Bool) (head : Head)
    → kind_of role head.method head.target ≡ Quick → head.body_len ≡ 0
    → Some Quick ≡ kind_by role len more (Some head)
plain_kind role len more head quick none = sym (
    ap (λ n. cond (more && not (nat_le n (len - head.len))) None
    (Some (kind_of role head.method head.target))) none
    ∙ (ap (λ t. cond (more && not t) None (Some (kind_of role head.method head.target)))
    (none_left (len - head.len))
    ∙ (more_of_none more (kind_of role head.method head.target) ∙ ap (λ k. Some k) quick))
    )

-- a plain stop is kept as nothing
pub plain_read : (role : Role) (stop : List ℕ) → is_plain stop ≡ true → IsRead role stop None
plain_read role stop is = record {
  whole = λ head finds len. whole_at head finds len;
  kind = λ head finds len more. kind_at head finds len more;
}
  where
    whole_at : (head : Option Head) → FindsOpening stop head → (len : ℕ) → true ≡ is_whole len head
    whole_at None finds len = refl
    whole_at (Some head) finds len = plain_whole len head (plain_says role stop head is finds).1

    kind_at : (head : Option Head) → FindsOpening stop head → (len : ℕ) (more : Bool)
        → Some Quick ≡ kind_by role len more head
    kind_at None finds len more = refl
    kind_at (Some head) finds len more =
        let x = plain_says role stop head is finds in plain_kind role len more head x.0 x.1

-- what was found is the head
pub found_read : (role : Role) (stop : List ℕ) (opened : Option Opened) (head : Option Head)
    → FindsOpening stop head → Keeps role opened head → IsRead role stop opened
found_read role stop opened None says keeps = record {
  whole = λ found finds len. kept_whole role len opened None keeps ∙ whole_at found finds len;
  kind = λ found finds len more. kept_by role len more opened None keeps ∙ kind_at found finds len more;
}
  where
    whole_at : (found : Option Head) → FindsOpening stop found → (len : ℕ) → true ≡ is_whole len found
    whole_at None finds len = refl
    whole_at (Some found) (h, x) len = absurd (says h _ _ x.announces)

    kind_at : (found : Option Head) → FindsOpening stop found → (len : ℕ) (more : Bool)
        → Some Quick ≡ kind_by role len more found
    kind_at None finds len more = refl
    kind_at (Some found) (h, x) len more = absurd (says h _ _ x.announces)
found_read role stop opened (Some head) says keeps = record {
  whole = λ found finds len. kept_whole role len opened (Some head) keeps ∙ whole_at found finds len;
  kind = λ found finds len more. kept_by role len more opened (Some head) keeps ∙ kind_at found finds len more;
}
  where
    whole_at : (found : Option Head) → FindsOpening stop found → (len : ℕ)
        → is_whole len (Some head) ≡ is_whole len found
    whole_at None finds len = absurd (finds says.0 _ _ says.1.announces)
    whole_at (Some found) finds len = whole_alike len head found (one_head stop head found says finds)

    kind_at : (found : Option Head) → FindsOpening stop found → (len : ℕ) (more : Bool)
        → kind_by role len more (Some head) ≡ kind_by role len more found
    kind_at None finds len more = absurd (finds says.0 _ _ says.1.announces)
    kind_at (Some found) finds len more = kind_alike role len more head found (one_head stop head found says finds)

-- ---- what is answered

no_stop_of : (bytes : List ℕ) (scan : Scan) → IsOpen bytes scan → is_stop (stop_of bytes) ≡ false
no_stop_of bytes scan before = ap is_stop (ap stop_of (sym (append-nil bytes)) ∙ before.goes []) ∙ before.none

pub not_there : (bytes : List ℕ) (scan : Scan) → IsOpen bytes scan → IsThere bytes false
not_there bytes scan before = record {
  stopped = λ is. absurd (cc (is, no_stop_of bytes scan before));
  begun = λ none. refl;
}

pub no_kind_yet : (role : Role) (bytes : List ℕ) (more : Bool) (scan : Scan) → IsOpen bytes scan
    → IsOfKind role bytes more (Some Quick)
no_kind_yet role bytes more scan before = record {
  stopped = λ is. absurd (cc (is, no_stop_of bytes scan before));
  begun = λ none. refl;
}

pub is_there : (role : Role) (bytes : List ℕ) (opened : Option Opened) (there : Bool)
    → Stops role bytes opened → there ≡ is_whole_by (length bytes) opened → IsThere bytes there
is_there role bytes opened there s e = record {
  stopped = λ is head finds. e ∙ s.read.whole head finds (length bytes);
  begun = λ none. absurd (cc (none, s.stop.is));
}

pub of_kind : (role : Role) (bytes : List ℕ) (more : Bool) (opened : Option Opened) (kind : Option Kind)
    → Stops role bytes opened → kind ≡ kept_kind (length bytes) more opened
    → IsOfKind role bytes more kind
of_kind role bytes more opened kind s e = record {
  stopped = λ is head finds. e ∙ s.read.kind head finds (length bytes) more;
  begun = λ none. absurd (cc (none, s.stop.is));
}
