-- A run is found in a body, or refused, exactly where the body says so.
use Rattle.std.proofs.Common.{◌≡◌, ◌⊎◌, inl, inr, ℕ, ◌+◌, ◌<◌, ◌≤◌, ◌^◌, ◌==◌, Bool, true, false}
use Rattle.std.proofs.Common.{cond, List, [], ◌∷◌, ◌++◌, length, take, drop, Option, Some, None, Result, Ok}
use Rattle.std.proofs.Common.{Err, refl, sym, ap, subst, ◌∙◌, arith, append-nil, append_assoc}
use Rattle.std.specs.Prelude.{nat_lt}
use Rattle.std.specs.Int.{w32, to_be_bytes}
use Rattle.std.proofs.lemmas.Bool.Decides.{nat_tests}
use Rattle.std.proofs.lemmas.List.{get_or-drop, length-append, length-take-le, length-drop, drop-drop}
use Rattle.std.proofs.lemmas.List.{take-append-drop, drop_at}
use Rattle.std.proofs.lemmas.Nat.{be_bytes_4, from_be_bytes-to_be_bytes_4}
use Rattle.dist_wire.specs.Codec.{IsBytes}
use Rattle.dist_wire.specs.CodecLaws.{exactly_again, exactly_takes}
use Rattle.dist_wire.specs.MessageLaws.{run_codec}
use Rattle.dist_wire.specs.Reading.{exactly_at, run_at}
use Rattle.dist_wire.specs.Spelling.{SpellsRun}
use Rattle.dist_wire.specs.Written.{run_text}
use Rattle.dist_wire.specs.declared.run.RunJobHttpRequest.{RunJobHttpRequest}
use Rattle.http_routes.specs.declared.refusal.Refusal.{Refusal}
use Rattle.http_routes.specs.declared.refusal.Refusal.TheVariants.{BadRunHead}
use Rattle.http_routes.specs.Refused.{length_told, RunRefused}
use Rattle.http_routes.specs.RunHead.{IsRunBody, run_body, length_at, alone, run_alone, run_in}
use Rattle.http_routes.specs.Steps.{◌>>=◌, unless_none}

-- ---- what stands in front

less : (n m : ℕ) → (n < m) ⊎ (m ≤ n)
less n m = by_test (nat_lt n m) refl
  where
    by_test : (b : Bool) → nat_lt n m ≡ b → (n < m) ⊎ (m ≤ n)
    by_test true is = inl (grind (arith, nat_tests))
    by_test false is = inr (grind (arith, nat_tests))

fewer : (n : ℕ) (bytes : List ℕ) → length bytes < n → exactly_at n bytes ≡ None
unfolding exactly_at
fewer n bytes h = let test : nat_lt (length bytes) n ≡ true = grind (arith, nat_tests) in rw test refl

enough : (n : ℕ) (bytes : List ℕ) → n ≤ length bytes → exactly_at n bytes ≡ Some (take n bytes, drop n bytes)
unfolding exactly_at
enough n bytes h = let test : nat_lt (length bytes) n ≡ false = grind (arith, nat_tests) in rw test refl

-- ---- the head

pub alone_again : (head : List ℕ) (run : RunJobHttpRequest) → SpellsRun run head → run_alone head ≡ Some run
unfolding run_alone
alone_again head run spelled =
    let again : run_at head ≡ Some (run, []) = ap run_at (sym (append-nil head))
    ∙ run_codec.again run head [] spelled in
    rw again refl

nothing_left : (xs : List ℕ) → (length xs == 0) ≡ true → xs ≡ []
nothing_left [] h = refl
nothing_left (x ∷ xs) h = absurd (let n : length (x ∷ xs) ≡ 0 = grind (arith, nat_tests) in omega arith)

alone_spelled : (head : List ℕ) (run : RunJobHttpRequest) → IsBytes head → run_alone head ≡ Some run
    → SpellsRun run head
unfolding run_alone
alone_spelled head run fits h = by_read (run_at head) refl h
  where
    by_rest : (x : RunJobHttpRequest) (rest : List ℕ) → run_at head ≡ Some (x, rest) → (b : Bool)
        → (length rest == 0) ≡ b → cond b (Some x) None ≡ Some run → SpellsRun run head
    by_rest x rest is true zero k =
        let t = run_codec.takes head x rest fits is in
        let whole : head ≡ t.text = t.parts ∙ ap (λ (r : List ℕ). t.text ++ r) (nothing_left rest zero)
        ∙ append-nil t.text in
        let same : x ≡ run = cc in
        subst (λ (m : RunJobHttpRequest). SpellsRun m head) same
        (subst (λ (s : List ℕ). SpellsRun x s) (sym whole) t.spelled)
    by_rest x rest is false zero k = absurd cc

    by_read : (o : Option (RunJobHttpRequest × List ℕ)) → run_at head ≡ o → alone o ≡ Some run
        → SpellsRun run head
    by_read None is k = absurd cc
    by_read (Some p) is k = by_rest p.0 p.1 is (length p.1 == 0) refl k

-- ---- the body

-- the head, where the body has as many bytes as it tells
abbrev head_of : List ℕ → List ℕ
head_of body = take (length_told body) (drop 4 body)

abbrev after_head : List ℕ → Option RunJobHttpRequest → Result (RunJobHttpRequest × ℕ) Refusal
after_head body o = unless_none (BadRunHead true) o >>= λ run. Ok (run, 4 + length_told body)

run_short : (body : List ℕ) → length body < 4 → run_in body ≡ Err (BadRunHead false)
unfolding run_in length_at
run_short body h = let none = fewer 4 body h in rw none refl

run_cut : (body : List ℕ) → 4 ≤ length body → length body < 4 + length_told body
    → run_in body ≡ Err (BadRunHead true)
unfolding run_in length_at
run_cut body long h =
    let first = enough 4 body long in
    let rest = length-drop 4 body in
    let none = fewer (length_told body) (drop 4 body) (omega arith) in
    rw (first, none) refl

run_whole : (body : List ℕ) → 4 + length_told body ≤ length body → run_in body ≡ after_head body
    (run_alone (head_of body))
unfolding run_in length_at
run_whole body h =
    let first = enough 4 body (omega arith) in
    let rest = length-drop 4 body in
    let second = enough (length_told body) (drop 4 body) (omega arith) in
    rw (first, second) refl

drop_fits : (n : ℕ) (bytes : List ℕ) → IsBytes bytes → IsBytes (drop n bytes)
drop_fits n bytes h i = rw get_or-drop (h (n + i))

head_fits : (body : List ℕ) → 4 + length_told body ≤ length body → IsBytes body → IsBytes (head_of body)
head_fits body h fits =
    let rest = length-drop 4 body in
    (exactly_takes (length_told body) (drop 4 body) (head_of body) (drop (length_told body) (drop 4 body))
    (drop_fits 4 body fits)
    (enough (length_told body) (drop 4 body) (omega arith))).front_fits

pub run_refused : (body : List ℕ) (e : Refusal) → run_in body ≡ Err e → RunRefused body e
run_refused body e h = by_word (less (length body) 4)
  where
    by_run : 4 + length_told body ≤ length body → (o : Option RunJobHttpRequest)
        → run_alone (head_of body) ≡ o → after_head body o ≡ Err e → RunRefused body e
    by_run long None is k = inr
        (inr (
          long,
          λ run spelled. absurd (let both = sym is ∙ alone_again (head_of body) run spelled in cc),
          cc,
        ))
    by_run long (Some run) is k = absurd cc

    by_length : 4 ≤ length body → (length body < 4 + length_told body) ⊎ (4 + length_told body ≤ length body)
        → RunRefused body e
    by_length word (inl short) = let both = sym (run_cut body word short) ∙ h in inr (inl (word, short, cc))
    by_length word (inr long) = by_run long (run_alone (head_of body)) refl (sym (run_whole body long) ∙ h)

    by_word : (length body < 4) ⊎ (4 ≤ length body) → RunRefused body e
    by_word (inl short) = let both = sym (run_short body short) ∙ h in inl (short, cc)
    by_word (inr word) = by_length word (less (length body) (4 + length_told body))

pub refused_run : (body : List ℕ) (e : Refusal) → IsBytes body → RunRefused body e → run_in body ≡ Err e
refused_run body e fits (inl (short, same)) = run_short body short ∙ ap Err (sym same)
refused_run body e fits (inr (inl (word, short, same))) = run_cut body word short ∙ ap Err (sym same)
refused_run body e fits (inr (inr (long, none, same))) = run_whole body long
    ∙ by_run (run_alone (head_of body)) refl
  where
    by_run : (o : Option RunJobHttpRequest) → run_alone (head_of body) ≡ o → after_head body o ≡ Err e
    by_run None is = ap Err (sym same)
    by_run (Some run) is = absurd (none run (alone_spelled (head_of body) run (head_fits body long fits) is))

-- ---- runs in order

length_again : (n : ℕ) (rest : List ℕ) → n < 2 ^ 32 → length_at (to_be_bytes w32 n ++ rest) ≡ Some (n, rest)
unfolding length_at
length_again n rest fits = rw (exactly_again 4 (to_be_bytes w32 n) rest refl)
    (ap (λ (k : ℕ). Some (k, rest)) (from_be_bytes-to_be_bytes_4 n fits))

pub held_run : (body : List ℕ) (run : RunJobHttpRequest) (at : ℕ) (inputs : List ℕ)
    → IsRunBody body run at inputs → run_in body ≡ Ok (run, at)
unfolding run_in
held_run body run at inputs b =
    let told = ap length_at b.parts ∙ length_again (length b.head) (b.head ++ inputs) b.fits in
    rw (told, exactly_again (length b.head) b.head inputs refl, alone_again b.head run b.spelled)
    (ap (λ (n : ℕ). Ok (run, n)) (sym b.place))

-- the inputs stand behind the head
pub inputs_behind : (body : List ℕ) (run : RunJobHttpRequest) (at : ℕ) (inputs : List ℕ)
    → IsRunBody body run at inputs → drop at body ≡ inputs
inputs_behind body run at inputs b =
    let front : List ℕ = to_be_bytes w32 (length b.head) ++ b.head in
    let len : length front ≡ at = length-append (to_be_bytes w32 (length b.head)) b.head ∙ sym b.place in
    ap (drop at) (b.parts ∙ sym (append_assoc (to_be_bytes w32 (length b.head)) b.head inputs))
    ∙ drop_at front inputs at len

pub run_held : (body : List ℕ) (run : RunJobHttpRequest) (at : ℕ) → IsBytes body → run_in body ≡ Ok (run, at)
    → IsRunBody body run at (drop at body)
run_held body run at fits h = by_word (less (length body) 4)
  where
    whole : 4 + length_told body ≤ length body → run_alone (head_of body) ≡ Some run
        → at ≡ 4 + length_told body → IsRunBody body run at (drop at body)
    whole long is place =
        let f = exactly_takes 4 body (take 4 body) (drop 4 body) fits (enough 4 body (omega arith)) in
        let low : length_told body < 2 ^ 32 = omega (
          arith,
          f.front_fits 0,
          f.front_fits 1,
          f.front_fits 2,
          f.front_fits 3,
        ) in
        let rest = length-drop 4 body in
        let len : length (head_of body) ≡ length_told body = length-take-le (length_told body) (drop 4 body)
        (omega arith) in
        let behind : drop (length_told body) (drop 4 body) ≡ drop at body =
        drop-drop (length_told body) 4 body ∙ ap (λ (n : ℕ). drop n body) (sym place) in
        record {
          head = head_of body;
          fits = omega arith;
          spelled = alone_spelled (head_of body) run (head_fits body long fits) is;
          parts = f.parts
              ∙ (λ i. sym (be_bytes_4 (take 4 body) (length (head_of body)) f.len f.front_fits len) i
              ++ (sym (take-append-drop (length_told body) (drop 4 body))
              ∙ ap (λ (t : List ℕ). head_of body ++ t) behind) i);
          place = place ∙ ap (λ n. 4 + n) (sym len);
        }

    by_run : 4 + length_told body ≤ length body → (o : Option RunJobHttpRequest)
        → run_alone (head_of body) ≡ o → after_head body o ≡ Ok (run, at)
        → IsRunBody body run at (drop at body)
    by_run long None is k = absurd cc
    by_run long (Some x) is k =
        let pair : ◌≡◌ {A = RunJobHttpRequest × ℕ} (x, 4 + length_told body) (run, at) = cc in
        whole long (is ∙ ap (λ (p : RunJobHttpRequest × ℕ). Some p.0) pair)
        (sym (ap (λ (p : RunJobHttpRequest × ℕ). p.1) pair))

    by_length : 4 ≤ length body → (length body < 4 + length_told body) ⊎ (4 + length_told body ≤ length body)
        → IsRunBody body run at (drop at body)
    by_length word (inl short) = absurd (let both = sym (run_cut body word short) ∙ h in cc)
    by_length word (inr long) = by_run long (run_alone (head_of body)) refl (sym (run_whole body long) ∙ h)

    by_word : (length body < 4) ⊎ (4 ≤ length body) → IsRunBody body run at (drop at body)
    by_word (inl short) = absurd (let both = sym (run_short body short) ∙ h in cc)
    by_word (inr word) = by_length word (less (length body) (4 + length_told body))

-- ---- runs that are written

pub body_read_back : (run : RunJobHttpRequest) (inputs : List ℕ) → SpellsRun run (run_text run)
    → length (run_text run) < 2 ^ 32
    → IsRunBody (run_body run inputs) run (4 + length (run_text run)) inputs
unfolding run_body
body_read_back run inputs spelled fits = record {
  head = run_text run;
  fits = fits;
  spelled = spelled;
  parts = refl;
  place = refl;
}
