-- The place of a request, the job that it names and the form that it asks for, in the words of its parts.
use Rattle.std.proofs.Common.{◌≡◌, ◌≢◌, ℕ, ◌&&◌, ◌==◌, ◌<◌, not, get_or, Bool, true, false, cond, List, []}
use Rattle.std.proofs.Common.{◌∷◌, ◌++◌, length, take, drop, decimal, Option, Some, None, refl, sym, ap}
use Rattle.std.proofs.Common.{subst, ◌∙◌, arith}
use Rattle.std.specs.Prelude.{codes, bytes_eq, nat_eq, nat_lt, option_copied, MatchOption}
use Rattle.std.specs.List.{starts_with, list_all, position_or_len}
use Rattle.std.specs.Char.{is_ascii_digit}
use Rattle.std.specs.Str.Parse.{without_leading_plus, digits_value}
use Rattle.std.proofs.lemmas.Bool.Decides.{nat_tests}
use Rattle.std.proofs.lemmas.Option.{cond_some}
use Rattle.std.proofs.Math.Seq.{take-append_seam, drop-append_seam, take-length}
use Rattle.std.proofs.lemmas.List.{append_assoc, append-nil, take-append-drop}
use Rattle.std.proofs.lemmas.Fmt.{digits_decimal, digits_value-decimal, decimal_nonempty}
use Rattle.std.proofs.lemmas.Str.Parse.{without_leading_plus_none}
use Rattle.std.specs.Borrow.{Bor}
use Rattle.std.specs.Str.Pattern.{FindsTextPrefix, StripsPrefix}
use Rattle.dist_types.specs.Addr.{is_digits}
use Rattle.dist_types.specs.Ids.{SaysJob}
use Rattle.dist_types.specs.declared.ids.JobId.{JobId}
use Rattle.http_head.specs.declared.request.Request.{Request}
use Rattle.http_head.specs.Fields.{header, path_of}
use Rattle.http_routes.specs.InOrder.{IsAt, NamesJob, InForm}
use Rattle.http_routes.specs.Place.{is_at, stripped, job_in, given_job, job_of}
use Rattle.http_routes.specs.Route.{is_text, wants_json}
use Rattle.http_head.proofs.BearerLemmas.{equal_texts, same_text, begins}
use Rattle.http_head.proofs.FieldLemmas.{digits}

both : (a b : Bool) → (a && b) ≡ true → (a ≡ true) × (b ≡ true)
both true b h = (refl, h)
both false b h = absurd cc

-- ---- places

pub at_place : (r : Request) (method path : List ℕ) → is_at method path r ≡ true → IsAt r method path
unfolding is_at
at_place r method path h =
    let parts = both (bytes_eq r.method method) (bytes_eq (path_of r.target) path) h in
    record {
      sent_by = equal_texts r.method method parts.0;
      sent_to = equal_texts (path_of r.target) path parts.1;
    }

pub place_at : (r : Request) (method path : List ℕ) → IsAt r method path → is_at method path r ≡ true
unfolding is_at
place_at r method path h = rw (h.sent_by, h.sent_to, same_text method, same_text path) refl

-- ---- forms

pub in_form : (r : Request) (json : Bool) → json ≡ wants_json r → InForm r json
unfolding wants_json
in_form r json e = by_header (header (codes "accept") r.headers) refl json e
  where
    by_header : (o : Option (List ℕ)) → header (codes "accept") r.headers ≡ o → (b : Bool)
        → b ≡ is_text (codes "application/json") o → InForm r b
    by_header None is true h = absurd cc
    by_header None is false h = λ k. absurd (let none = sym is ∙ k in cc)
    by_header (Some text) is true h = is ∙ ap Some (equal_texts text (codes "application/json") (sym h))
    by_header (Some text) is false h = λ k.
        let same : text ≡ codes "application/json" = let e = sym is ∙ k in cc in
        absurd (let yes = subst (λ (t : List ℕ). false ≡ bytes_eq t (codes "application/json")) same h
        ∙ same_text (codes "application/json") in cc)

pub form_in : (r : Request) (json : Bool) → InForm r json → json ≡ wants_json r
unfolding wants_json
form_in r true h = rw h (sym (same_text (codes "application/json")))
form_in r false h = by_header (header (codes "accept") r.headers) refl
  where
    by_header : (o : Option (List ℕ)) → header (codes "accept") r.headers ≡ o
        → false ≡ is_text (codes "application/json") o
    by_header None is = refl
    by_header (Some text) is = by_test (bytes_eq text (codes "application/json")) refl
      where
        by_test : (b : Bool) → bytes_eq text (codes "application/json") ≡ b → false ≡ b
        by_test false e = refl
        by_test true e = absurd (h (is ∙ ap Some (equal_texts text (codes "application/json") e)))

-- ---- jobs

pub job_said : (text : List ℕ) (job : JobId) → job_in text ≡ Some job → SaysJob text job.0
unfolding job_in
job_said text job e =
    let ds = without_leading_plus text in
    let found = cond_some (is_digits ds && nat_lt (digits_value 10 ds) 18446744073709551616)
    (record { 0 = digits_value 10 ds }) job e in
    let tests = both (is_digits ds) (nat_lt (digits_value 10 ds) 18446744073709551616) found.0 in
    let digit = both (nat_lt 0 (length ds)) (list_all is_ascii_digit ds) tests.0 in (
      (less 0 (length ds) digit.0, digits.to ds digit.1),
      less (digits_value 10 ds) 18446744073709551616 tests.1,
      sym (ap (λ (j : JobId). j.0) found.1),
    )
  where
    less : (a b : ℕ) → nat_lt a b ≡ true → a < b
    less a b h = grind (arith, nat_tests)

pub said_job : (text : List ℕ) (job : JobId) → SaysJob text job.0 → job_in text ≡ Some job
unfolding job_in
said_job text job s =
    let ds = without_leading_plus text in
    rw (less 0 (length ds) s.0.0, digits.from ds s.0.1, less (digits_value 10 ds) 18446744073709551616 s.1)
    (λ i. Some (record { 0 = sym s.2 i }))
  where
    less : (a b : ℕ) → a < b → nat_lt a b ≡ true
    less a b h = grind (arith, nat_tests)

pub no_job : (text : List ℕ) → ((n : ℕ) → ¬ (SaysJob text n)) → job_in text ≡ None
no_job text none = by_option (job_in text) refl
  where
    by_option : (o : Option JobId) → job_in text ≡ o → o ≡ None
    by_option None e = refl
    by_option (Some job) e = absurd (none job.0 (job_said text job e))

-- what `strip_prefix` gives
pub strips : (front text : List ℕ) (o : Option (Bor (List ℕ)))
    → MatchOption o (FindsTextPrefix front text None) (λ x. StripsPrefix (FindsTextPrefix front) text x.now)
    → option_copied o ≡ stripped front text
strips front text None lacks = by_test (starts_with nat_eq text front) refl
  where
    by_test : (b : Bool) → starts_with nat_eq text front ≡ b
        → None ≡ cond b (Some (drop (length front) text)) None
    by_test false e = refl
    by_test true e = absurd (lacks (drop (length front) text) (begins text front e))
strips front text (Some x) (n, finds, is, len) =
    let stands : starts_with nat_eq text front ≡ true =
    subst (λ (t : List ℕ). starts_with nat_eq t front ≡ true) (sym finds.1)
    (subst (λ (t : List ℕ). bytes_eq front t ≡ true) (sym (take-append_seam front (drop n text)))
    (same_text front)) in
    rw (stands, is, finds.0) refl

behind_front : (front text rest : List ℕ) → stripped front text ≡ Some rest → text ≡ front ++ rest
behind_front front text rest e =
    let found = cond_some (starts_with nat_eq text front) (drop (length front) text) rest e in
    begins text front found.0 ∙ ap (λ (t : List ℕ). front ++ t) found.1

pub job_named : (front : List ℕ) (r : Request) (job : JobId) → job_of front r ≡ Some job
    → NamesJob r front job
unfolding job_of
job_named front r job e =
    let found = by_test (bytes_eq r.method (codes "POST")) (given_job (stripped front (path_of r.target))) e
    in
    by_id (stripped front (path_of r.target)) refl found.0 found.1
  where
    by_test : (b : Bool) (o : Option JobId) → cond b o None ≡ Some job → (b ≡ true) × (o ≡ Some job)
    by_test true o h = (refl, h)
    by_test false o h = absurd cc

    by_id : (o : Option (List ℕ)) → stripped front (path_of r.target) ≡ o
        → bytes_eq r.method (codes "POST") ≡ true → given_job o ≡ Some job
        → NamesJob r front job
    by_id None is post h = absurd cc
    by_id (Some id) is post h = record {
      id = id;
      at = record {
        sent_by = equal_texts r.method (codes "POST") post;
        sent_to = behind_front front
            (path_of r.target) id is;
      };
      says = job_said id job h;
    }

begun : (front rest : List ℕ) → starts_with nat_eq (front ++ rest) front ≡ true
begun front rest =
    subst (λ (t : List ℕ). bytes_eq front t ≡ true) (sym (take-append_seam front rest)) (same_text front)

-- what stands behind a front that a text begins with
pub front_stripped : (front rest : List ℕ) → stripped front (front ++ rest) ≡ Some rest
front_stripped front rest = rw (begun front rest, drop-append_seam front rest) refl

pub named_job : (front : List ℕ) (r : Request) (job : JobId) → NamesJob r front job
    → job_of front r ≡ Some job
unfolding job_of
named_job front r job n = rw (n.at.sent_by, n.at.sent_to, front_stripped front n.id)
    (said_job n.id job n.says)

pub no_job_named : (front : List ℕ) (r : Request) → ((job : JobId) → ¬ (NamesJob r front job))
    → job_of front r ≡ None
no_job_named front r none = by_option (job_of front r) refl
  where
    by_option : (o : Option JobId) → job_of front r ≡ o → o ≡ None
    by_option None e = refl
    by_option (Some job) e = absurd (none job (job_named front r job e))

-- ---- targets that begin otherwise

-- a target begins with what its path begins with
begins_alike : (front target rest : List ℕ) → path_of target ≡ front ++ rest
    → starts_with nat_eq target front ≡ true
begins_alike front target rest is =
    let more = drop (position_or_len (λ b. b == 63) target) target in
    let whole : target ≡ front ++ (rest ++ more) =
    sym (take-append-drop (position_or_len (λ b. b == 63) target) target)
    ∙ (ap (λ (t : List ℕ). t ++ more) is ∙ append_assoc front rest more) in
    subst (λ (t : List ℕ). starts_with nat_eq t front ≡ true) (sym whole) (begun front (rest ++ more))

-- a request whose target does not begin with a path is not there
pub is_elsewhere : (r : Request) (method path : List ℕ) → starts_with nat_eq r.target path ≡ false
    → is_at method path r ≡ false
unfolding is_at
is_elsewhere r method path h =
    let same = bytes_eq (path_of r.target) path in
    by_tests (bytes_eq r.method method) same (other same refl)
  where
    other : (b : Bool) → bytes_eq (path_of r.target) path ≡ b → b ≡ false
    other false e = refl
    other true e =
        let all = equal_texts (path_of r.target) path e ∙ sym (append-nil path) in
        let begins = begins_alike path r.target [] all in
        absurd cc

    by_tests : (a b : Bool) → b ≡ false → (a && b) ≡ false
    by_tests true b e = e
    by_tests false b e = refl

-- one whose target does not begin with a front names no job behind it
pub names_elsewhere : (front : List ℕ) (r : Request) → starts_with nat_eq r.target front ≡ false
    → job_of front r ≡ None
unfolding job_of
names_elsewhere front r h =
    by_test (bytes_eq r.method (codes "POST")) (stripped front (path_of r.target)) refl
  where
    by_test : (b : Bool) (o : Option (List ℕ)) → stripped front (path_of r.target) ≡ o
        → cond b (given_job o) None ≡ None
    by_test true None e = refl
    by_test false o e = refl
    by_test true (Some rest) e =
        let begins = begins_alike front r.target rest (behind_front front (path_of r.target) rest e) in
        absurd cc

-- ---- jobs that were written

no_plus : (n : ℕ) → n < 18446744073709551616 → without_leading_plus (decimal n) ≡ decimal n
no_plus n fits = without_leading_plus_none (decimal n) (by_first (decimal n) (digits_decimal digits n fits))
  where
    by_first : (ds : List ℕ) → list_all is_ascii_digit ds ≡ true → get_or ds 0 0 ≢ 43
    by_first [] h e = absurd (omega (arith, e))
    by_first (d ∷ ds) h e =
        let this = both (is_ascii_digit d) (list_all is_ascii_digit ds) h
        in absurd (let no = subst (λ (c : ℕ). is_ascii_digit c ≡ true) e this.0 in cc)

pub printed_job : (job : JobId) → job.0 < 18446744073709551616 → job_in (decimal job.0) ≡ Some job
unfolding job_in
printed_job job fits =
    let value = digits_value-decimal digits job.0 fits in
    let all = digits_decimal digits job.0 fits in
    let some = decimal_nonempty job.0 fits in
    let long : nat_lt 0 (length (decimal job.0)) ≡ true = grind (arith, nat_tests) in
    let low : nat_lt job.0 18446744073709551616 ≡ true = grind (arith, nat_tests) in
    rw (no_plus job.0 fits, long, all, value, low) refl

position_none : (c : ℕ) (text : List ℕ) → list_all (λ b. not (b == c)) text ≡ true
    → position_or_len (λ b. b == c) text ≡ length text
position_none c [] none = refl
position_none c (x ∷ text) none =
    let later : list_all (λ b. not (b == c)) text ≡ true = grind (arith, nat_tests) in
    let other : (x == c) ≡ false = grind (arith, nat_tests) in
    let more = position_none c text later in
    rw (other, more) (omega arith)

-- a target without a query is its path
pub no_query : (target : List ℕ) → list_all (λ b. not (b == 63)) target ≡ true → path_of target ≡ target
no_query target none = ap (λ (n : ℕ). take n target) (position_none 63 target none) ∙ take-length target

-- a POST to a job behind a front names it
pub written_job : (front : List ℕ) (r : Request) (job : JobId) → r.method ≡ codes "POST"
    → path_of r.target ≡ front ++ decimal job.0
    → job.0 < 18446744073709551616 → job_of front r ≡ Some job
unfolding job_of
written_job front r job post path fits = rw (post, path, front_stripped front (decimal job.0))
    (printed_job job fits)
