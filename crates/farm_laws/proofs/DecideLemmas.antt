-- Whether bytes are a request, and whether they are a reply, is decided: piece by piece of the grammar of
-- heads, each of which is read in one way only.
use Rattle.std.proofs.Common.{◌≡◌, ◌≢◌, ◌⊎◌, inl, inr, ℕ, zero, suc, ◌<◌, ◌≤◌, Bool, true, false, List, []}
use Rattle.std.proofs.Common.{◌∷◌, ◌++◌, length, map, Option, Some, None, refl, sym, ap, subst, ◌∙◌, arith}
use Rattle.std.proofs.Common.{append_assoc, append-nil, length-append}
use Rattle.std.specs.Prelude.{IsUtf8}
use Rattle.std.specs.Char.{is_ascii_digit}
use Rattle.std.specs.List.{flat_map}
use Rattle.std.specs.Str.{is_utf8}
use Rattle.std.proofs.lemmas.Bool.{cases_eq, cases_lt, false≢true}
use Rattle.std.proofs.lemmas.List.Elements.{All-cons, All-nil, All-head, All-tail}
use Rattle.std.proofs.lemmas.Option.{same_Some}
use Rattle.std.proofs.lemmas.Str.{IsUtf8-from_is_utf8, is_utf8-from_IsUtf8}
use Rattle.httparse.specs.Grammar.{is_token_byte, is_uri_byte, is_value_byte, AllPass, LineEnd, crlf, lf}
use Rattle.httparse.specs.Grammar.{print_end, print_blank, print_version, Field, print_field, IsField}
use Rattle.httparse.specs.Grammar.{RequestHead, print_request, ReadsRequest, ResponseHead, print_response}
use Rattle.httparse.specs.Grammar.{ReadsResponse, status_code}
use Rattle.httparse.specs.Pieces.{Piece, Begins, Then, Stops, is_newline, Bytes, Newline, Blank, Word, Target}
use Rattle.httparse.specs.Pieces.{Version, Digit, Text, Reason, FieldLine, BeginsLine, Section, RequestStart}
use Rattle.httparse.specs.Pieces.{ResponseStart}
use Rattle.httparse.specs.Spans.{name_and_value}
use Rattle.httparse.proofs.GrammarLemmas.{request_tree, request_head, request_pieces, request_from_pieces}
use Rattle.httparse.proofs.GrammarLemmas.{request_unique, response_head, response_pieces}
use Rattle.httparse.proofs.GrammarLemmas.{response_from_pieces, response_unique}
use Rattle.httparse.proofs.PieceLemmas.{IsDeterministic, Bytes_deterministic, print_end_unique}
use Rattle.httparse.proofs.PieceLemmas.{Blank_deterministic, Word_deterministic, Method_deterministic}
use Rattle.httparse.proofs.PieceLemmas.{Target_deterministic, Version_deterministic, Digit_deterministic}
use Rattle.httparse.proofs.PieceLemmas.{Code_deterministic, Name_deterministic, space_ends_token}
use Rattle.httparse.proofs.PieceLemmas.{colon_ends_token, print_field-append, FieldLine_parts, Section_skip}
use Rattle.httparse.proofs.PieceLemmas.{Section_line, RequestStart_deterministic, ResponseStart_deterministic}
use Rattle.httparse.proofs.RunLemmas.{run_unique}
use Rattle.http_head.specs.Fields.{body_length, allows}
use Rattle.http_head.specs.Head.{IsRequest, IsRequestWith, IsNoRequest, IsReply, IsReplyWith, IsNoReply}
use Rattle.http_head.specs.declared.reply.Reply.{Reply}
use Rattle.http_head.specs.declared.request.Request.{Request}

-- ---- what is decided

abbrev Decided : {A : Type 0} → Piece A → List ℕ → Type 0
Decided {A} G text = Begins G text ⊎ (Begins G text → ⊥)

-- whether any text begins with the piece is decided
abbrev Decides : {A : Type 0} → Piece A → Type 0
Decides {A} G = (text : List ℕ) → Decided G text

decides_then : {A B : Type 0} {G : Piece A} {H : Piece B} → IsDeterministic G → Decides G → Decides H
    → Decides (Then G H)
decides_then {A} {B} {G} {H} det g h text = by_first (g text)
  where
    by_second : (a : A) (middle : List ℕ) → G a text middle → Decided H middle → Decided (Then G H) text
    by_second a middle x (inl y) = inl ((a, y.0), y.1, (middle, x, y.2))
    by_second a middle x (inr none) = inr (λ z.
        let same = det.unique z.0.0 a text z.2.0 middle z.2.1 x in
        none (z.0.1, z.1, subst (λ (m : List ℕ). H z.0.1 m z.1) same.1 z.2.2))

    by_first : Decided G text → Decided (Then G H) text
    by_first (inl x) = by_second x.0 x.1 x.2 (h x.1)
    by_first (inr none) = inr (λ z. none (z.0.0, z.2.0, z.2.1))

-- ---- bytes and line ends

decides_bytes : (bytes : List ℕ) → Decides (Bytes bytes)
decides_bytes [] text = inl (tt, text, refl)
decides_bytes (b ∷ bs) [] = inr (λ x. let no : [] ≡ b ∷ (bs ++ x.1) = x.2 in cc)
decides_bytes (b ∷ bs) (c ∷ text) = by_byte (cases_eq c b) (decides_bytes bs text)
  where
    by_byte : (c ≡ b) ⊎ (c ≢ b) → Decided (Bytes bs) text → Decided (Bytes (b ∷ bs)) (c ∷ text)
    by_byte (inl same) (inl x) = inl (tt, x.1, ap (λ (d : ℕ). d ∷ text) same ∙ ap (λ (t : List ℕ). b ∷ t) x.2)
    by_byte (inl same) (inr none) = inr (λ x.
        let e : c ∷ text ≡ b ∷ (bs ++ x.1) = x.2 in
        let rest : text ≡ bs ++ x.1 = cc in
        none (tt, x.1, rest))
    by_byte (inr differ) r = inr (λ x.
        let e : c ∷ text ≡ b ∷ (bs ++ x.1) = x.2 in
        let same : c ≡ b = cc in
        differ same)

decides_newline : Decides Newline
decides_newline text = by_ends (decides_bytes (13 ∷ 10 ∷ []) text) (decides_bytes (10 ∷ []) text)
  where
    by_ends : Decided (Bytes (13 ∷ 10 ∷ [])) text → Decided (Bytes (10 ∷ [])) text → Decided Newline text
    by_ends (inl x) b = inl (crlf, x.1, x.2)
    by_ends (inr a) (inl x) = inl (lf, x.1, x.2)
    by_ends (inr a) (inr b) = inr (λ x. by_end x.0 x.1 x.2)
      where
        by_end : (end : LineEnd) (rest : List ℕ) → Newline end text rest → ⊥
        by_end crlf rest e = a (tt, rest, e)
        by_end lf rest e = b (tt, rest, e)

newline_shorter : (end : LineEnd) (text rest : List ℕ) → Newline end text rest → length rest < length text
newline_shorter crlf text rest e = omega (arith, ap length e)
newline_shorter lf text rest e = omega (arith, ap length e)

-- the empty lines, in a text of at most n bytes
none_empty : (ends : List LineEnd) (rest : List ℕ) → [] ≡ print_blank ends ++ rest → Stops is_newline rest → ⊥
none_empty [] rest e stops = subst (Stops is_newline) (sym e) stops
none_empty (crlf ∷ ends) rest e stops = cc
none_empty (lf ∷ ends) rest e stops = cc

blank_step : (b : ℕ) (bs : List ℕ) → ((r : List ℕ) → length r < length (b ∷ bs) → Decided Blank r)
    → Decided Blank (b ∷ bs)
blank_step b bs rec = by_test (is_newline b) refl
  where
    none_first : is_newline b ≡ true → (q : List ℕ) → b ∷ bs ≡ q → Stops is_newline q → ⊥
    none_first on q t stops = false≢true (sym (subst (Stops is_newline) (sym t) stops) ∙ on)

    by_rest : is_newline b ≡ true → (e : LineEnd) (r : List ℕ) → Newline e (b ∷ bs) r → Decided Blank r
        → Decided Blank (b ∷ bs)
    by_rest on e r x (inl (es, q, y)) =
        inl (
          e ∷ es,
          q,
          (
            x ∙ ap (λ (t : List ℕ). print_end e ++ t) y.0
                ∙ sym (append_assoc (print_end e) (print_blank es) q),
            y.1,
          ),
        )
    by_rest on e r x (inr none) = inr (λ z. later z.0 z.1 z.2.0 z.2.1)
      where
        later : (ends : List LineEnd) (q : List ℕ) → b ∷ bs ≡ print_blank ends ++ q → Stops is_newline q → ⊥
        later [] q t stops = none_first on q t stops
        later (y ∷ ys) q t stops =
            let same = print_end_unique e y r (print_blank ys ++ q)
            (sym x ∙ t ∙ append_assoc (print_end y) (print_blank ys) q) in
            none (ys, q, (same.1, stops))

    by_line : is_newline b ≡ true → Decided Newline (b ∷ bs) → Decided Blank (b ∷ bs)
    by_line on (inl (e, r, x)) = by_rest on e r x (rec r (newline_shorter e (b ∷ bs) r x))
    by_line on (inr none) = inr (λ z. later z.0 z.1 z.2.0 z.2.1)
      where
        later : (ends : List LineEnd) (q : List ℕ) → b ∷ bs ≡ print_blank ends ++ q → Stops is_newline q → ⊥
        later [] q t stops = none_first on q t stops
        later (y ∷ ys) q t stops =
            none (y, print_blank ys ++ q, t ∙ append_assoc (print_end y) (print_blank ys) q)

    by_test : (t : Bool) → is_newline b ≡ t → Decided Blank (b ∷ bs)
    by_test false off = inl ([], b ∷ bs, (refl, off))
    by_test true on = by_line on (decides_newline (b ∷ bs))

blank_within : (n : ℕ) (text : List ℕ) → length text ≤ n → Decided Blank text
blank_within n [] le = inr (λ x. none_empty x.0 x.1 x.2.0 x.2.1)
blank_within zero (b ∷ bs) le = absurd (omega (arith, le))
blank_within (suc n) (b ∷ bs) le = blank_step b bs (λ r lt. blank_within n r (omega (arith, le, lt)))

decides_blank : Decides Blank
decides_blank text = blank_within (length text) text (omega arith)

-- ---- runs of bytes

-- the bytes at the front that pass a test, and what is left
record Front (test : ℕ → Bool) (text : List ℕ) : Type 0 where
  word : List ℕ
  rest : List ℕ
  pass : AllPass test word
  is : text ≡ word ++ rest
  stops : (rest ≡ []) ⊎ Stops test rest

front_of : (test : ℕ → Bool) (text : List ℕ) → Front test text
front_of test [] = record {
  word = [];
  rest = [];
  pass = All-nil (λ v. test v ≡ true);
  is = refl;
  stops = inl refl;
}
front_of test (b ∷ bs) = by_test (test b) refl (front_of test bs)
  where
    by_test : (t : Bool) → test b ≡ t → Front test bs → Front test (b ∷ bs)
    by_test true on f = record {
      word = b ∷ f.word;
      rest = f.rest;
      pass = All-cons (λ v. test v ≡ true) b f.word on f.pass;
      is = ap (λ (t : List ℕ). b ∷ t) f.is;
      stops =
          f.stops;
    }
    by_test false off f = record {
      word = [];
      rest = b ∷ bs;
      pass = All-nil (λ v. test v ≡ true);
      is = refl;
      stops = inr off;
    }

pass_middle : (test : ℕ → Bool) (a : List ℕ) (c : ℕ) (q : List ℕ) → AllPass test (a ++ c ∷ q) → test c ≡ true
pass_middle test [] c q all = All-head (λ v. test v ≡ true) c q all
pass_middle test (b ∷ a) c q all = pass_middle test a c q (All-tail (λ v. test v ≡ true) b (a ++ c ∷ q) all)

-- the front ends where a byte comes that does not pass
front_is : (test : ℕ → Bool) (text : List ℕ) (f : Front test text) (a : List ℕ) (c : ℕ) (q : List ℕ)
    → AllPass test a → test c ≡ false → text ≡ a ++ c ∷ q → (a ≡ f.word) × (c ∷ q ≡ f.rest)
front_is test text f a c q all off e = by_stop f.stops
  where
    by_stop : (f.rest ≡ []) ⊎ Stops test f.rest → (a ≡ f.word) × (c ∷ q ≡ f.rest)
    by_stop (inl none) =
        let whole : f.word ≡ a ++ c ∷ q = sym (append-nil f.word) ∙ ap (λ (r : List ℕ). f.word ++ r)
        (sym none) ∙ sym f.is ∙ e in
        absurd (false≢true (sym off ∙ pass_middle test a c q (subst (AllPass test) whole f.pass)))
    by_stop (inr stops) = run_unique test a f.word (c ∷ q) f.rest all f.pass off stops (sym e ∙ f.is)

decides_word : (test : ℕ → Bool) (stop : ℕ) → test stop ≡ false → Decides (Word test stop)
decides_word test stop off text = by_rest front.rest refl
  where
    front : Front test text
    front = front_of test text

    none_by : ((r : List ℕ) → stop ∷ r ≡ front.rest → 0 < length front.word → ⊥)
        → Begins (Word test stop) text → ⊥
    none_by lacks x =
        let same = front_is test text front x.0 stop x.1 x.2.1 off x.2.2 in
        lacks x.1 same.1 (subst (λ (w : List ℕ). 0 < length w) same.0 x.2.0)

    by_both : (b : ℕ) (bs : List ℕ) → front.rest ≡ b ∷ bs → (w : List ℕ) → front.word ≡ w → (b ≡ stop)
        ⊎ (b ≢ stop) → Decided (Word test stop) text
    by_both b bs is [] empty r =
        inr (none_by (λ q e some. let low = subst (λ (w : List ℕ). 0 < length w) empty some
        in omega (arith, low)))
    by_both b bs is (v ∷ vs) full (inl same) =
        inl (
          front.word,
          bs,
          (
            subst (λ (w : List ℕ). 0 < length w) (sym full) (omega arith),
            front.pass,
            front.is ∙ ap (λ (r : List ℕ). front.word ++ r) (is ∙ ap (λ (c : ℕ). c ∷ bs) same),
          ),
        )
    by_both b bs is (v ∷ vs) full (inr differ) = inr (none_by (λ q e some.
        let both : stop ∷ q ≡ b ∷ bs = e ∙ is in
        let same : b ≡ stop = cc in
        differ same))

    by_rest : (r : List ℕ) → front.rest ≡ r → Decided (Word test stop) text
    by_rest [] is = inr (none_by (λ q e some. let no : stop ∷ q ≡ [] = e ∙ is in cc))
    by_rest (b ∷ bs) is = by_both b bs is front.word refl (cases_eq b stop)

decides_target : Decides Target
decides_target text = by_word (decides_word is_uri_byte 32 refl text)
  where
    by_utf8 : (w r : List ℕ) → Word is_uri_byte 32 w text r → (t : Bool) → is_utf8 w ≡ t → Decided Target text
    by_utf8 w r x true on = inl (w, r, (x, IsUtf8-from_is_utf8 w on))
    by_utf8 w r x false off = inr (λ y.
        let same = (Word_deterministic is_uri_byte 32 refl).unique y.0 w text y.1 r y.2.0 x in
        false≢true (sym off ∙ is_utf8-from_IsUtf8 w (subst IsUtf8 same.0 y.2.1)))

    by_word : Decided (Word is_uri_byte 32) text → Decided Target text
    by_word (inl (w, r, x)) = by_utf8 w r x (is_utf8 w) refl
    by_word (inr none) = inr (λ y. none (y.0, y.1, y.2.0))

decides_version : Decides Version
decides_version text = by_minors (decides_bytes (print_version 0) text) (decides_bytes (print_version 1) text)
  where
    by_minors : Decided (Bytes (print_version 0)) text → Decided (Bytes (print_version 1)) text
        → Decided Version text
    by_minors (inl x) b = inl (0, x.1, (omega arith, x.2))
    by_minors (inr a) (inl x) = inl (1, x.1, (omega arith, x.2))
    by_minors (inr a) (inr b) = inr (λ x. by_minor x.0 x.1 x.2.0 x.2.1)
      where
        by_minor : (minor : ℕ) (rest : List ℕ) → minor ≤ 1 → text ≡ print_version minor ++ rest → ⊥
        by_minor zero rest le e = a (tt, rest, e)
        by_minor (suc zero) rest le e = b (tt, rest, e)
        by_minor (suc (suc n)) rest le e = omega (arith, le)

decides_digit : Decides Digit
decides_digit [] = inr (λ x. let no : [] ≡ x.0 ∷ x.1 = x.2.1 in cc)
decides_digit (b ∷ bs) = by_test (is_ascii_digit b) refl
  where
    by_test : (t : Bool) → is_ascii_digit b ≡ t → Decided Digit (b ∷ bs)
    by_test true on = inl (b, bs, (on, refl))
    by_test false off = inr (λ x.
        let e : b ∷ bs ≡ x.0 ∷ x.1 = x.2.1 in
        let same : b ≡ x.0 = cc in
        false≢true (sym off ∙ ap is_ascii_digit same ∙ x.2.0))

-- ---- texts up to a line end

decides_text : Decides Text
decides_text text = by_line (decides_newline front.rest)
  where
    front : Front is_value_byte text
    front = front_of is_value_byte text

    split : (a : List ℕ) (end : LineEnd) (rest : List ℕ) → AllPass is_value_byte a
        → text ≡ a ++ (print_end end ++ rest) → front.rest ≡ print_end end ++ rest
    split a crlf rest all e = sym (front_is is_value_byte text front a 13 (10 ∷ rest) all refl e).1
    split a lf rest all e = sym (front_is is_value_byte text front a 10 rest all refl e).1

    by_line : Decided Newline front.rest → Decided Text text
    by_line (inl (end, rest, e)) =
        inl ((front.word, end), rest, (front.pass, front.is ∙ ap (λ (r : List ℕ). front.word ++ r) e))
    by_line (inr none) = inr (λ x. none (x.0.1, x.1, split x.0.0 x.0.1 x.1 x.2.0 x.2.1))

decides_reason : Decides Reason
decides_reason text = by_line (decides_newline text)
  where
    with_text : (Begins Newline text → ⊥) → (t : List ℕ) → text ≡ 32 ∷ t → Decided Text t
        → Decided Reason text
    with_text none t x (inl ((a, end), r, y)) =
        inl ((Some a, end), r, (y.0, x ∙ ap (λ (u : List ℕ). 32 ∷ u) y.1))
    with_text none t x (inr lacks) = inr (λ z. later z.0.0 z.0.1 z.1 z.2)
      where
        later : (o : Option (List ℕ)) (end : LineEnd) (r : List ℕ) → Reason (o, end) text r → ⊥
        later None end r y = none (end, r, y.1)
        later (Some a) end r y =
            let both : 32 ∷ t ≡ 32 ∷ (a ++ (print_end end ++ r)) = sym x ∙ y.1 in
            let same : t ≡ a ++ (print_end end ++ r) = cc in
            lacks ((a, end), r, (y.0, same))

    by_space : (Begins Newline text → ⊥) → Decided (Bytes (32 ∷ [])) text → Decided Reason text
    by_space none (inl (u, t, x)) = with_text none t x (decides_text t)
    by_space none (inr lacks) = inr (λ z. later z.0.0 z.0.1 z.1 z.2)
      where
        later : (o : Option (List ℕ)) (end : LineEnd) (r : List ℕ) → Reason (o, end) text r → ⊥
        later None end r y = none (end, r, y.1)
        later (Some a) end r y = lacks (tt, a ++ (print_end end ++ r), y.1)

    by_line : Decided Newline text → Decided Reason text
    by_line (inl (end, r, x)) = inl ((None, end), r, (All-nil (λ v. is_value_byte v ≡ true), x))
    by_line (inr none) = by_space none (decides_bytes (32 ∷ []) text)

-- ---- field lines and sections

decides_field : Decides FieldLine
decides_field text = by_parts
    (decides_then Name_deterministic (decides_word is_token_byte 58 colon_ends_token) decides_text text)
  where
    by_parts : Decided (Then (Word is_token_byte 58) Text) text → Decided FieldLine text
    by_parts (inl ((name, (raw, end)), rest, (middle, w, t))) =
        let f : Field = record { name = name; raw = raw; end = end } in
        inl (
          f,
          rest,
          (
            record { name = (w.0, w.1); raw = t.0 },
            w.2 ∙ ap (λ (m : List ℕ). name ++ 58 ∷ m) t.1
                ∙ sym (print_field-append f rest),
          ),
        )
    by_parts (inr none) = inr
        (λ x. none ((x.0.name, (x.0.raw, x.0.end)), x.1, FieldLine_parts x.0 text x.1 x.2))

field_shorter : (f : Field) (text rest : List ℕ) → FieldLine f text rest → length rest < length text
field_shorter f text rest x =
    let total = ap length (x.1 ∙ print_field-append f rest) in
    let front = length-append f.name (58 ∷ (f.raw ++ (print_end f.end ++ rest))) in
    let middle = length-append f.raw (print_end f.end ++ rest) in
    let last = length-append (print_end f.end) rest in
    omega (arith, total, front, middle, last)

section_step : (text : List ℕ) → ((r : List ℕ) → length r < length text → Decided Section r)
    → Decided Section text
section_step text rec = by_line (decides_newline text)
  where
    by_rest : (f : Field) (middle : List ℕ) → FieldLine f text middle → Decided Section middle
        → Decided Section text
    by_rest f middle x (inl ((fs, last), rest, y)) =
        let lines = flat_map print_field fs in
        inl (
          (f ∷ fs, last),
          rest,
          (
            All-cons IsField f fs x.0 y.0,
            x.1 ∙ ap (λ (t : List ℕ). print_field f ++ t) y.1
                ∙ sym (ap (λ (t : List ℕ). t ++ rest) (append_assoc (print_field f) lines (print_end last))
                ∙ append_assoc (print_field f) (lines ++ print_end last) rest),
          ),
        )
    by_rest f middle x (inr none) = inr (λ z.
        let s = Section_skip (f ∷ []) z.0.0 z.0.1 text middle z.1 (
          All-cons IsField f [] x.0 (All-nil IsField),
          x.1 ∙ ap (λ (t : List ℕ). t ++ middle)
              (sym (append-nil (print_field f))),
        ) z.2 in
        none ((s.0, z.0.1), z.1, s.2))

    by_field : (Begins Newline text → ⊥) → Decided FieldLine text → Decided Section text
    by_field none (inl (f, middle, x)) = by_rest f middle x (rec middle (field_shorter f text middle x))
    by_field none (inr lacks) = inr (λ z. by_begin (Section_line z.0 text z.1 z.2))
      where
        by_begin : BeginsLine text → ⊥
        by_begin (inl b) = none b
        by_begin (inr b) = lacks b

    by_line : Decided Newline text → Decided Section text
    by_line (inl (end, r, x)) = inl (([], end), r, (All-nil IsField, x))
    by_line (inr none) = by_field none (decides_field text)

section_within : (n : ℕ) (text : List ℕ) → length text ≤ n → Decided Section text
section_within zero text le = section_step text (λ r lt. absurd (omega (arith, le, lt)))
section_within (suc n) text le = section_step text (λ r lt. section_within n r (omega (arith, le, lt)))

decides_section : Decides Section
decides_section text = section_within (length text) text (omega arith)

-- ---- heads

decides_request_start : Decides RequestStart
decides_request_start =
    decides_then Blank_deterministic decides_blank
    (decides_then Method_deterministic (decides_word is_token_byte 32 space_ends_token)
    (decides_then Target_deterministic decides_target
    (decides_then Version_deterministic decides_version decides_newline)))

decides_response_start : Decides ResponseStart
decides_response_start =
    decides_then Blank_deterministic decides_blank
    (decides_then Version_deterministic decides_version
    (decides_then (Bytes_deterministic (32 ∷ [])) (decides_bytes (32 ∷ []))
    (decides_then Code_deterministic
    (decides_then Digit_deterministic decides_digit
    (decides_then Digit_deterministic decides_digit decides_digit)) decides_reason)))

-- ---- requests

-- a head that begins the bytes, or that there is none
abbrev HeadIn : List ℕ → Type 0
HeadIn bytes = ((h : RequestHead) × (rest : List ℕ) × ReadsRequest bytes h rest)
    ⊎ ((h : RequestHead) (rest : List ℕ) → ReadsRequest bytes h rest → ⊥)

head_in : (bytes : List ℕ) → HeadIn bytes
head_in bytes = by_tree (decides_then RequestStart_deterministic decides_request_start decides_section bytes)
  where
    by_tree : Decided (Then RequestStart Section) bytes → HeadIn bytes
    by_tree (inl (t, rest, x)) = inl (request_head t, rest, request_from_pieces bytes t rest x)
    by_tree (inr none) = inr (λ h rest x. none (request_tree h, rest, request_pieces bytes h rest x))

abbrev pub RequestIn : List ℕ → Type 0
RequestIn bytes = ((r : Request) × IsRequest bytes r) ⊎ IsNoRequest bytes

module _ (bytes : List ℕ) (h : RequestHead) (rest : List ℕ) (reads : ReadsRequest bytes h rest) where
  -- what any request in the bytes says of the head
  few : (r : Request) (k : RequestHead) → IsRequestWith bytes r k → length h.fields ≤ 100
  few r k y = subst (λ (g : RequestHead). length g.fields ≤ 100)
      (sym (request_unique bytes h k rest r.body reads y.opens.reads).0) y.opens.within.few

  short : (r : Request) (k : RequestHead) → IsRequestWith bytes r k → length (print_request h) ≤ 65536
  short r k y = subst (λ (g : RequestHead). length (print_request g) ≤ 65536)
      (sym (request_unique bytes h k rest r.body reads y.opens.reads).0) y.opens.within.short

  long : (r : Request) (k : RequestHead) → IsRequestWith bytes r k
      → body_length (map name_and_value h.fields) ≡ Some (length rest)
  long r k y =
      let same = request_unique bytes h k rest r.body reads y.opens.reads in
      ap (λ (g : RequestHead). body_length (map name_and_value g.fields)) same.0 ∙ y.body
      ∙ ap (λ (b : List ℕ). Some (length b)) (sym same.1)

  by_body : length h.fields ≤ 100 → length (print_request h) ≤ 65536 → (o : Option ℕ)
      → body_length (map name_and_value h.fields) ≡ o → RequestIn bytes
  by_body low small None is = inr (λ r x. let no : None ≡ Some (length rest) = sym is ∙ long r x.0 x.1 in cc)
  by_body low small (Some n) is = elim (cases_eq n (length rest)) [
    | inl same ↦ inl (
      record { method = h.method; target = h.target; headers = map name_and_value h.fields; body = rest },
      (
        h,
        record {
          opens = record { reads = reads; within = record { few = low; short = small } };
          body = is ∙ ap (λ (m : ℕ). Some m) same;
          method = refl;
          target = refl;
          headers = refl;
        },
      ),
    )
    | inr differ ↦ inr (λ r x. differ (same_Some n (length rest) (sym is ∙ long r x.0 x.1)))
  ]

  by_limits : RequestIn bytes
  by_limits = elim (cases_lt 100 (length h.fields)) [
    | inl many ↦ inr (λ r x. let low = few r x.0 x.1 in omega (arith, many, low))
    | inr low ↦ elim (cases_lt 65536 (length (print_request h))) [
      | inl large ↦ inr (λ r x. let small = short r x.0 x.1 in omega (arith, large, small))
      | inr small ↦ by_body low small (body_length (map name_and_value h.fields)) refl
    ]
  ]

-- whether bytes are a request
pub request_in : (bytes : List ℕ) → RequestIn bytes
request_in bytes = by_head (head_in bytes)
  where
    by_head : HeadIn bytes → RequestIn bytes
    by_head (inl (h, rest, reads)) = by_limits bytes h rest reads
    by_head (inr none) = inr (λ r x. none x.0 r.body x.1.opens.reads)

-- ---- replies

abbrev ReplyHeadIn : List ℕ → Type 0
ReplyHeadIn bytes = ((h : ResponseHead) × (rest : List ℕ) × ReadsResponse bytes h rest)
    ⊎ ((h : ResponseHead) (rest : List ℕ) → ReadsResponse bytes h rest → ⊥)

reply_head_in : (bytes : List ℕ) → ReplyHeadIn bytes
reply_head_in bytes = by_tree
    (decides_then ResponseStart_deterministic decides_response_start decides_section bytes)
  where
    by_tree : Decided (Then ResponseStart Section) bytes → ReplyHeadIn bytes
    by_tree (inl (t, rest, x)) = inl (response_head t, rest, response_from_pieces bytes t rest x)
    by_tree (inr none) = inr (λ h rest x. let p = response_pieces bytes h rest x in none (p.0, rest, p.2))

abbrev pub ReplyIn : List ℕ → Type 0
ReplyIn bytes = ((r : Reply) × IsReply bytes r) ⊎ IsNoReply bytes

module _ (bytes : List ℕ) (h : ResponseHead) (rest : List ℕ) (reads : ReadsResponse bytes h rest) where
  reply_few : (r : Reply) (k : ResponseHead) → IsReplyWith bytes r k → length h.fields ≤ 100
  reply_few r k y = subst (λ (g : ResponseHead). length g.fields ≤ 100)
      (sym (response_unique bytes h k rest r.body reads y.opens.reads).0) y.opens.within.few

  reply_short : (r : Reply) (k : ResponseHead) → IsReplyWith bytes r k → length (print_response h) ≤ 65536
  reply_short r k y = subst (λ (g : ResponseHead). length (print_response g) ≤ 65536)
      (sym (response_unique bytes h k rest r.body reads y.opens.reads).0) y.opens.within.short

  reply_long : (r : Reply) (k : ResponseHead) → IsReplyWith bytes r k → allows (map name_and_value h.fields)
      (length rest) ≡ true
  reply_long r k y =
      let same = response_unique bytes h k rest r.body reads y.opens.reads in
      ap (λ (g : ResponseHead). allows (map name_and_value g.fields) (length rest)) same.0
      ∙ ap (λ (b : List ℕ). allows (map name_and_value k.fields) (length b)) same.1 ∙ y.body

  reply_body : length h.fields ≤ 100 → length (print_response h) ≤ 65536 → (t : Bool)
      → allows (map name_and_value h.fields) (length rest) ≡ t → ReplyIn bytes
  reply_body low small false off = inr (λ r x. false≢true (sym off ∙ reply_long r x.0 x.1))
  reply_body low small true on = inl (
    record { code = status_code h; headers = map name_and_value h.fields; body = rest },
    (
      h,
      record {
        opens = record { reads = reads; within = record { few = low; short = small } };
        body = on;
        code = refl;
        headers = refl;
      },
    ),
  )

  reply_limits : ReplyIn bytes
  reply_limits = elim (cases_lt 100 (length h.fields)) [
    | inl many ↦ inr (λ r x. let low = reply_few r x.0 x.1 in omega (arith, many, low))
    | inr low ↦ elim (cases_lt 65536 (length (print_response h))) [
      | inl large ↦ inr (λ r x. let small = reply_short r x.0 x.1 in omega (arith, large, small))
      | inr small ↦ reply_body low small (allows (map name_and_value h.fields) (length rest)) refl
    ]
  ]

-- whether bytes are a reply
pub reply_in : (bytes : List ℕ) → ReplyIn bytes
reply_in bytes = by_head (reply_head_in bytes)
  where
    by_head : ReplyHeadIn bytes → ReplyIn bytes
    by_head (inl (h, rest, reads)) = reply_limits bytes h rest reads
    by_head (inr none) = inr (λ r x. none x.0 r.body x.1.opens.reads)
