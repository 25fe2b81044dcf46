-- What a line says is spelled so, and what is spelled so is said.
use Rattle.std.proofs.Common.{◌≡◌, ℕ, ◌^◌, ◌<◌, ◌≤◌, ◌⊎◌, true, false, cond, List, [], ◌∷◌, ◌++◌, length}
use Rattle.std.proofs.Common.{Option, Some, None, codes, refl, sym, ap, subst, ◌∙◌, inl, inr, arith, nat_eq}
use Rattle.std.specs.Prelude.{ℤ}
use Rattle.std.specs.Char.{is_ascii_digit}
use Rattle.std.specs.List.{list_all}
use Rattle.std.specs.Cmp.Lexicographic.{pointwise}
use Rattle.std.specs.Str.{all_ascii_digits}
use Rattle.std.specs.Fmt.{decimal}
use Rattle.std.proofs.lemmas.Bool.{eqb-true, ne_eqb}
use Rattle.std.proofs.lemmas.Bool.Decides.{nat_tests}
use Rattle.std.proofs.lemmas.Fmt.{decimal_nonempty}
use Rattle.std.proofs.lemmas.Option.{same_Some}
use Rattle.std.proofs.lemmas.Slice.Eq.{bytes_eq-Decides}
use Rattle.dist_types.specs.Addr.{◌>>=◌}
use Rattle.dist_types.specs.declared.addr.Addr.{Addr}
use Rattle.dist_types.proofs.AddrLemmas.{bind_some}
use Rattle.line_program.specs.Texts.{◌⧺◌}
use Rattle.farm_script.specs.Words.{first_word, next_word, strip, field, named, last, behind, is_visible}
use Rattle.farm_script.specs.Fields.{addr_at, host_at, number_at, code_at, token_at, hex_at, key_at}
use Rattle.farm_script.specs.Grammar.{IsNumber, IsCode, IsAddrWord, IsHost, IsToken, IsHex, IsKey, IsAuth}
use Rattle.farm_script.specs.Grammar.{IsSchedulerLine, IsServerLine, IsListed, IsAnswerLine, IsBuilderLine}
use Rattle.farm_script.specs.Grammar.{IsSetupLine, IsRequest, IsAnswer, IsNumbered, IsBeat, IsRestart, IsKind}
use Rattle.farm_script.specs.Grammar.{IsEventLine, Spells}
use Rattle.farm_script.specs.Lines.{auth_at, scheduler_at, server_at, outputs_behind, listed_at}
use Rattle.farm_script.specs.Lines.{answer_line_at, builder_at, request_at, answer_at, restart_at}
use Rattle.farm_script.specs.Lines.{kind_behind, kind_at, event_at, is_skipped, by_first_word, said_at, line_at}
use Rattle.farm_script.specs.declared.setup.BuilderLine.{BuilderLine}
use Rattle.farm_script.specs.declared.setup.BuilderLine.TheVariants.{Listed, Refuse}
use Rattle.farm_script.specs.declared.setup.SetupAuth.{SetupAuth}
use Rattle.farm_script.specs.declared.setup.SetupAuth.TheVariants.{Plain, Jwt}
use Rattle.farm_script.specs.declared.setup.SetupScheduler.{SetupScheduler}
use Rattle.farm_script.specs.declared.setup.SetupServer.{SetupServer}
use Rattle.farm_script.specs.declared.event.Event.{Event}
use Rattle.farm_script.specs.declared.event.EventKind.{EventKind}
use Rattle.farm_script.specs.declared.event.EventKind.TheVariants.{Request, Deliver, Fail, Return, Answer}
use Rattle.farm_script.specs.declared.event.EventKind.TheVariants.{Beat, Restart}
use Rattle.farm_script.specs.declared.lines.Scopes.{Scopes}
use Rattle.farm_script.specs.declared.lines.Scopes.TheVariants.{Taken}
use Rattle.farm_script.specs.declared.lines.SetupLine.{SetupLine}
use Rattle.farm_script.specs.declared.lines.SetupLine.TheVariants.{Version2, Scheduler, Server, Builder}
use Rattle.farm_script.specs.declared.lines.Line.{Line}
use Rattle.farm_script.specs.declared.lines.Line.TheVariants as lines
use Rattle.farm_script.proofs.VisibleLemmas.{both}
use Rattle.farm_script.proofs.WordLemmas.{bind_is, visible_lacks, first_word_sound, first_word_complete}
use Rattle.farm_script.proofs.WordLemmas.{field_sound, field_complete, named_sound, named_complete}
use Rattle.farm_script.proofs.WordLemmas.{last_sound, last_complete, strip_sound, strip_complete, follow}
use Rattle.farm_script.proofs.WordLemmas.{follow_named, follow_number, spaced, next_word_at, next_word_text}
use Rattle.farm_script.proofs.WordLemmas.{behind_is, behind_cases}
use Rattle.farm_script.proofs.FieldLemmas.{number_law, code_law, addr_law, host_law, token_law, hex_law}
use Rattle.farm_script.proofs.FieldLemmas.{key_law, addr_lacks, host_lacks, host_taken, token_lacks}
use Rattle.farm_script.proofs.FieldLemmas.{code_lacks, hex_lacks, key_lacks, decimal_digits, decimal_lacks}
use Rattle.line_program.proofs.FirstFaultyLemmas.{choice}
use Rattle.farm_script.proofs.OutputLemmas.{Output, outputs_sound, outputs_complete}

-- ---- the scheduler

auth_sound : (t : List ℕ) (a : SetupAuth) → auth_at t ≡ Some a → IsAuth t a
unfolding auth_at
auth_sound t a e = elim (behind_cases (codes "plain ") t (λ r. token_at r >>= λ token. Some (Plain token))
    (last (codes "jwt ") key_at t >>= λ key. Some (Jwt key)) (strip (codes "plain ") t) a refl e) [
      | inl p ↦
          let b = bind_some (token_at p.0) _ a p.2 in
          let is : IsAuth t (Plain b.0) = (p.0, token_law.sound p.0 b.0 b.1, p.1) in
          subst (IsAuth t) (same_Some (Plain b.0) a b.2) is
      | inr e2 ↦
          let b = bind_some (last (codes "jwt ") key_at t) _ a e2 in
          let f = last_sound (codes "jwt ") key_at IsKey key_law t b.0 b.1 in
          let is : IsAuth t (Jwt b.0) = (f.0, f.1, f.2) in
          subst (IsAuth t) (same_Some (Jwt b.0) a b.2) is
    ]

auth_complete : (t : List ℕ) (a : SetupAuth) → IsAuth t a → auth_at t ≡ Some a
unfolding auth_at
auth_complete t (Plain token) is =
    let other : Option SetupAuth = last (codes "jwt ") key_at (codes "plain " ⧺ is.0) >>= λ key.
    Some (Jwt key) in
    ap auth_at is.2 ∙ behind_is (codes "plain ") is.0 (λ r. token_at r >>= λ token. Some (Plain token)) other
    ∙ bind_is (token_at is.0) (λ x. Some (Plain x)) token (Some (Plain token))
    (token_law.complete is.0 token is.1) refl
auth_complete t (Jwt key) is =
    ap auth_at is.2 ∙ bind_is _ _ _ _ (last_complete (codes "jwt ") key_at IsKey key_law is.0 key is.1) refl

pub scheduler_sound : (scopes : Scopes) (r : List ℕ) (s : SetupScheduler) → scheduler_at scopes r ≡ Some s
    → IsSchedulerLine scopes (codes "scheduler " ++ r) s
unfolding scheduler_at
scheduler_sound scopes r s e =
    let a = bind_some (field (host_at scopes) r) _ s e in
    let b = bind_some (named (codes "base ") number_at a.0.1) _ s a.2 in
    let c = bind_some (named (codes "count ") number_at b.0.1) _ s b.2 in
    let d = bind_some (named (codes "client ") token_at c.0.1) _ s c.2 in
    let f = bind_some (auth_at d.0.1) _ s d.2 in
    let fa = field_sound (host_at scopes) (IsHost scopes) (host_law scopes) r a.0.0 a.0.1 a.1 in
    let fb = named_sound (codes "base ") number_at IsNumber number_law a.0.1 b.0.0 b.0.1 b.1 in
    let fc = named_sound (codes "count ") number_at IsNumber number_law b.0.1 c.0.0 c.0.1 c.1 in
    let fd = named_sound (codes "client ") token_at IsToken token_law c.0.1 d.0.0 d.0.1 d.1 in
    let made : SetupScheduler = record {
      addr = a.0.0;
      base = b.0.0;
      count = c.0.0;
      client = d.0.0;
      auth = f.0;
    } in
    let is : IsSchedulerLine scopes (codes "scheduler " ++ r) made = record {
      addr = fa.0;
      client = fd.0;
      auth = d.0.1;
      is_addr = fa.1;
      base = fb.1.1;
      count = fc.1.1;
      is_client = fd.1;
      is_auth = auth_sound d.0.1 f.0 f.1;
      spelled = ap (λ (x : List ℕ). codes "scheduler " ++ x)
          (follow _ _ _ _ _ fa.2 refl
          (follow_number _ (codes "base ") fb.0 _ _ _ fb.2 fb.1.0
          (follow_number _ (codes "count ") fc.0 _ _ _ fc.2 fc.1.0 fd.2)));
    } in
    subst (λ (x : SetupScheduler). IsSchedulerLine scopes (codes "scheduler " ++ r) x)
    (same_Some made s f.2) is

pub scheduler_complete : (scopes : Scopes) (t : List ℕ) (s : SetupScheduler) → IsSchedulerLine scopes t s
    → (r : List ℕ) × (t ≡ codes "scheduler " ++ r) × (scheduler_at scopes r ≡ Some s)
unfolding scheduler_at
scheduler_complete scopes t s is =
    let b = s.base in
    let c = s.count in
    let client_part : List ℕ = codes "client " ⧺ is.client ⧺ codes " " ⧺ is.auth in
    let count_part : List ℕ = codes "count " ⧺ decimal c ⧺ codes " " ⧺ client_part in
    let base_part : List ℕ = codes "base " ⧺ decimal b ⧺ codes " " ⧺ count_part in (
      is.addr ++ 32 ∷ base_part,
      is.spelled,
      bind_is _ _ _ _ (field_complete (host_at scopes) (IsHost scopes)
          (host_law scopes) is.addr s.addr base_part is.is_addr (host_lacks scopes is.addr s.addr is.is_addr))
          (bind_is _ _ _ _ (named_complete (codes "base ") number_at IsNumber number_law
          (decimal b) b count_part (refl, is.base) (decimal_lacks b is.base))
          (bind_is _ _ _ _ (named_complete (codes "count ") number_at IsNumber number_law
          (decimal c) c client_part (refl, is.count) (decimal_lacks c is.count))
          (bind_is _ _ _ _ (named_complete (codes "client ") token_at IsToken token_law is.client s.client
          is.auth is.is_client (token_lacks is.client s.client is.is_client))
          (bind_is _ _ _ _ (auth_complete is.auth s.auth is.is_auth) refl)))),
    )

-- ---- a server

pub server_sound : (scopes : Scopes) (r : List ℕ) (s : SetupServer) → server_at scopes r ≡ Some s
    → IsServerLine scopes (codes "server " ++ r) s
unfolding server_at
server_sound scopes r s e =
    let a = bind_some (field (host_at scopes) r) _ s e in
    let b = bind_some (named (codes "cpus ") number_at a.0.1) _ s a.2 in
    let c = bind_some (named (codes "nonce ") number_at b.0.1) _ s b.2 in
    let d = bind_some (named (codes "key ") key_at c.0.1) _ s c.2 in
    let f = bind_some (last (codes "capacity ") number_at d.0.1) _ s d.2 in
    let fa = field_sound (host_at scopes) (IsHost scopes) (host_law scopes) r a.0.0 a.0.1 a.1 in
    let fb = named_sound (codes "cpus ") number_at IsNumber number_law a.0.1 b.0.0 b.0.1 b.1 in
    let fc = named_sound (codes "nonce ") number_at IsNumber number_law b.0.1 c.0.0 c.0.1 c.1 in
    let fd = named_sound (codes "key ") key_at IsKey key_law c.0.1 d.0.0 d.0.1 d.1 in
    let ff = last_sound (codes "capacity ") number_at IsNumber number_law d.0.1 f.0 f.1 in
    let made : SetupServer = record {
      addr = a.0.0;
      cpus = b.0.0;
      nonce = c.0.0;
      key = d.0.0;
      capacity = f.0;
      builder = [];
    } in
    let is : IsServerLine scopes (codes "server " ++ r) made = record {
      addr = fa.0;
      key = fd.0;
      is_addr = fa.1;
      cpus = fb.1.1;
      nonce = fc.1.1;
      is_key = fd.1;
      capacity = ff.1.1;
      builder = refl;
      spelled = ap (λ (x : List ℕ). codes "server " ++ x)
          (follow _ _ _ _ _ fa.2 refl
          (follow_number _ (codes "cpus ") fb.0 _ _ _ fb.2 fb.1.0
          (follow_number _ (codes "nonce ") fc.0 _ _ _ fc.2 fc.1.0
          (follow_named _ (codes "key ") fd.0 _ _ fd.2
          (ff.2 ∙ ap (λ (w : List ℕ). codes "capacity " ++ w) ff.1.0)))));
    } in
    subst (λ (x : SetupServer). IsServerLine scopes (codes "server " ++ r) x) (same_Some made s f.2) is

pub server_complete : (scopes : Scopes) (t : List ℕ) (s : SetupServer) → IsServerLine scopes t s
    → (r : List ℕ) × (t ≡ codes "server " ++ r) × (server_at scopes r ≡ Some s)
unfolding server_at
server_complete scopes t s is =
    let last_part : List ℕ = codes "capacity " ⧺ decimal s.capacity in
    let key_part : List ℕ = codes "key " ⧺ is.key ⧺ codes " " ⧺ last_part in
    let nonce_part : List ℕ = codes "nonce " ⧺ decimal s.nonce ⧺ codes " " ⧺ key_part in
    let cpus_part : List ℕ = codes "cpus " ⧺ decimal s.cpus ⧺ codes " " ⧺ nonce_part in (
      is.addr ++ 32 ∷ cpus_part,
      is.spelled,
      bind_is _ _ _ _ (field_complete (host_at scopes) (IsHost scopes)
          (host_law scopes) is.addr s.addr cpus_part is.is_addr (host_lacks scopes is.addr s.addr is.is_addr))
          (bind_is _ _ _ _ (named_complete (codes "cpus ") number_at IsNumber number_law
          (decimal s.cpus) s.cpus nonce_part (refl, is.cpus) (decimal_lacks s.cpus is.cpus))
          (bind_is _ _ _ _ (named_complete (codes "nonce ") number_at IsNumber number_law
          (decimal s.nonce) s.nonce key_part (refl, is.nonce) (decimal_lacks s.nonce is.nonce))
          (bind_is _ _ _ _ (named_complete (codes "key ") key_at IsKey key_law is.key s.key last_part
          is.is_key (key_lacks is.key s.key is.is_key))
          (bind_is _ _ _ _ (last_complete (codes "capacity ") number_at IsNumber number_law
          (decimal s.capacity) s.capacity (refl, is.capacity))
          (ap (λ (b : List BuilderLine). Some
          (record {
            addr = s.addr;
            cpus = s.cpus;
            nonce = s.nonce;
            key = s.key;
            capacity = s.capacity;
            builder = b;
          })) (sym is.builder)))))),
    )

-- ---- an answer of a builder

listed_sound : (t : List ℕ) (x : BuilderLine) → listed_at t ≡ Some x → IsAnswerLine (codes "ok " ++ t) x
unfolding listed_at
listed_sound t x e =
    let a = bind_some (field code_at t) _ x e in
    let b = bind_some (field hex_at a.0.1) _ x a.2 in
    let c = bind_some (hex_at (next_word b.0.1).0) _ x b.2 in
    let d = bind_some (outputs_behind (next_word b.0.1).1) _ x c.2 in
    let fa = field_sound code_at IsCode code_law t a.0.0 a.0.1 a.1 in
    let fb = field_sound hex_at IsHex hex_law a.0.1 b.0.0 b.0.1 b.1 in
    let made : BuilderLine = Listed a.0.0 b.0.0 c.0 d.0 in
    let is : IsListed (codes "ok " ++ t) a.0.0 b.0.0 c.0 d.0 = record {
      code_text = fa.0;
      out_text = fb.0;
      err_text = (next_word b.0.1).0;
      more = spaced (next_word b.0.1).1;
      is_code = fa.1;
      is_out = fb.1;
      is_err = hex_law.sound (next_word b.0.1).0 c.0 c.1;
      are_outputs = outputs_sound (next_word b.0.1).1 d.0 d.1;
      spelled = ap (λ (y : List ℕ). codes "ok " ++ y)
          (follow _ _ _ _ _ fa.2 refl (follow _ _ _ _ _ fb.2 refl (next_word_text b.0.1)));
    } in
    subst (IsAnswerLine (codes "ok " ++ t)) (same_Some made x d.2) is

listed_complete : (t : List ℕ) (code : ℤ) (stdout stderr : List ℕ) (outputs : List Output)
    → IsListed t code stdout stderr outputs
    → (r : List ℕ) × (t ≡ codes "ok " ++ r) × (listed_at r ≡ Some (Listed code stdout stderr outputs))
unfolding listed_at
listed_complete t code stdout stderr outputs is =
    let more = outputs_complete is.more outputs is.are_outputs in
    let err_part : List ℕ = is.err_text ++ spaced more.left in
    let out_part : List ℕ = is.out_text ++ 32 ∷ err_part in
    let cut : next_word err_part ≡ (is.err_text, more.left) = next_word_at is.err_text more.left
    (hex_lacks is.err_text stderr is.is_err) in
    let err : hex_at (next_word err_part).0 ≡ Some stderr =
    ap (λ (w : List ℕ × Option (List ℕ)). hex_at w.0) cut ∙ hex_law.complete is.err_text stderr is.is_err
    in
    let outs : outputs_behind (next_word err_part).1 ≡ Some outputs =
    ap (λ (w : List ℕ × Option (List ℕ)). outputs_behind w.1) cut ∙ more.reads in (
      is.code_text ++ 32 ∷ out_part,
      is.spelled ∙ ap (λ (x : List ℕ). codes "ok " ⧺ is.code_text ⧺ codes " " ⧺ is.out_text ⧺ codes " "
          ⧺ is.err_text ⧺ x) more.text,
      bind_is _ _ _ _ (field_complete code_at IsCode code_law is.code_text code out_part is.is_code
          (code_lacks is.code_text code is.is_code))
          (bind_is _ _ _ _ (field_complete hex_at IsHex hex_law is.out_text stdout err_part is.is_out
          (hex_lacks is.out_text stdout is.is_out))
          (bind_is _ _ _ _ err (bind_is _ _ _ _ outs refl))),
    )

answer_line_sound : (t : List ℕ) (x : BuilderLine) → answer_line_at t ≡ Some x → IsAnswerLine t x
unfolding answer_line_at
answer_line_sound t x e =
    elim (choice (pointwise nat_eq t (codes "refuse")) (Some Refuse) (last (codes "ok ") listed_at t)
    (Some x) e) [
      | inl p ↦ subst (IsAnswerLine t) (same_Some Refuse x p.1) ((bytes_eq-Decides t (codes "refuse")).0 p.0)
      | inr p ↦
          let a = bind_some (strip (codes "ok ") t) listed_at x p.1 in
          subst (λ (y : List ℕ). IsAnswerLine y x) (sym (strip_sound (codes "ok ") t a.0 a.1))
          (listed_sound a.0 x a.2)
    ]

answer_line_complete : (t : List ℕ) (x : BuilderLine) → IsAnswerLine t x → answer_line_at t ≡ Some x
unfolding answer_line_at
answer_line_complete t Refuse is = ap answer_line_at is
answer_line_complete t (Listed code stdout stderr outputs) is =
    let p = listed_complete t code stdout stderr outputs is in
    ap answer_line_at p.1 ∙ bind_is (strip (codes "ok ") (codes "ok " ++ p.0)) listed_at p.0
    (Some (Listed code stdout stderr outputs)) (strip_complete (codes "ok ") p.0) p.2

pub builder_sound : (scopes : Scopes) (r : List ℕ) (l : SetupLine) → builder_at r ≡ Some l
    → IsSetupLine scopes (codes "builder " ++ r) l
unfolding builder_at
builder_sound scopes r l e =
    let a = bind_some (field addr_at r) _ l e in
    let b = bind_some (answer_line_at a.0.1) _ l a.2 in
    let fa = field_sound addr_at IsAddrWord addr_law r a.0.0 a.0.1 a.1 in
    let made : SetupLine = Builder a.0.0 b.0 in
    let is : IsBuilderLine (codes "builder " ++ r) a.0.0 b.0 = record {
      addr = fa.0;
      line = a.0.1;
      is_addr = fa.1;
      is_answer = answer_line_sound a.0.1 b.0 b.1;
      spelled = ap (λ (x : List ℕ). codes "builder " ++ x) fa.2;
    } in
    subst (IsSetupLine scopes (codes "builder " ++ r)) (same_Some made l b.2) is

pub builder_complete : (t : List ℕ) (addr : Addr) (answer : BuilderLine) → IsBuilderLine t addr answer
    → (r : List ℕ) × (t ≡ codes "builder " ++ r) × (builder_at r ≡ Some (Builder addr answer))
unfolding builder_at
builder_complete t addr answer is = (
  is.addr ++ 32 ∷ is.line,
  is.spelled,
  bind_is _ _ _ _ (field_complete addr_at IsAddrWord addr_law is.addr addr is.line is.is_addr
      (addr_lacks is.addr addr is.is_addr))
      (bind_is _ _ _ _ (answer_line_complete is.line answer is.is_answer) refl),
)

-- ---- what happens

request_sound : (scopes : Scopes) (t : List ℕ) (k : EventKind) → request_at scopes t ≡ Some k
    → IsKind scopes (codes "request" ++ 32 ∷ t) k
unfolding request_at
request_sound scopes t k e =
    let a = bind_some (field (host_at scopes) t) _ k e in
    let b = bind_some (field (host_at scopes) a.0.1) _ k a.2 in
    let c = bind_some (hex_at b.0.1) _ k b.2 in
    let fa = field_sound (host_at scopes) (IsHost scopes) (host_law scopes) t a.0.0 a.0.1 a.1 in
    let fb = field_sound (host_at scopes) (IsHost scopes) (host_law scopes) a.0.1 b.0.0 b.0.1 b.1 in
    let is : IsRequest scopes (codes "request" ++ 32 ∷ t) a.0.0 b.0.0 c.0 = record {
      target = fa.0;
      peer = fb.0;
      hex = b.0.1;
      is_target = fa.1;
      is_peer = fb.1;
      is_hex = hex_law.sound b.0.1 c.0 c.1;
      spelled = ap (λ (x : List ℕ). codes "request" ++ 32 ∷ x) (follow _ _ _ _ _ fa.2 refl fb.2);
    } in
    subst (IsKind scopes (codes "request" ++ 32 ∷ t)) (same_Some (Request a.0.0 b.0.0 c.0) k c.2) is

answer_sound : (scopes : Scopes) (t : List ℕ) (k : EventKind) → answer_at t ≡ Some k
    → IsKind scopes (codes "answer" ++ 32 ∷ t) k
unfolding answer_at
answer_sound scopes t k e =
    let a = bind_some (field number_at t) _ k e in
    let b = bind_some (hex_at a.0.1) _ k a.2 in
    let fa = field_sound number_at IsNumber number_law t a.0.0 a.0.1 a.1 in
    let is : IsAnswer (codes "answer" ++ 32 ∷ t) a.0.0 b.0 = record {
      hex = a.0.1;
      fits = fa.1.1;
      is_hex = hex_law.sound a.0.1 b.0 b.1;
      spelled = ap (λ (x : List ℕ). codes "answer" ++ 32 ∷ x) (follow _ _ _ _ _ fa.2 fa.1.0 refl);
    } in
    subst (IsKind scopes (codes "answer" ++ 32 ∷ t)) (same_Some (Answer a.0.0 b.0) k b.2) is

beat_sound : (scopes : Scopes) (t : List ℕ) (addr : Addr) → host_at scopes t ≡ Some addr
    → IsBeat scopes (codes "beat" ++ 32 ∷ t) addr
beat_sound scopes t addr e = record {
  server = t;
  is_server = (host_law scopes).sound t addr e;
  spelled = refl;
}

restart_sound : (scopes : Scopes) (t : List ℕ) (k : EventKind) → restart_at scopes t ≡ Some k
    → IsKind scopes (codes "restart" ++ 32 ∷ t) k
unfolding restart_at
restart_sound scopes t k e =
    let a = bind_some (field (host_at scopes) t) _ k e in
    let b = bind_some (named (codes "key ") key_at a.0.1) _ k a.2 in
    let c = bind_some (last (codes "nonce ") number_at b.0.1) _ k b.2 in
    let fa = field_sound (host_at scopes) (IsHost scopes) (host_law scopes) t a.0.0 a.0.1 a.1 in
    let fb = named_sound (codes "key ") key_at IsKey key_law a.0.1 b.0.0 b.0.1 b.1 in
    let fc = last_sound (codes "nonce ") number_at IsNumber number_law b.0.1 c.0 c.1 in
    let is : IsRestart scopes (codes "restart" ++ 32 ∷ t) a.0.0 b.0.0 c.0 = record {
      server = fa.0;
      key = fb.0;
      is_server = fa.1;
      is_key = fb.1;
      fits = fc.1.1;
      spelled = ap (λ (x : List ℕ). codes "restart" ++ 32 ∷ x)
          (follow _ _ _ _ _ fa.2 refl
          (follow_named _ (codes "key ") fb.0 _ _ fb.2
          (fc.2 ∙ ap (λ (w : List ℕ). codes "nonce " ++ w) fc.1.0)));
    } in
    subst (IsKind scopes (codes "restart" ++ 32 ∷ t)) (same_Some (Restart a.0.0 b.0.0 c.0) k c.2) is

numbered_sound : (word t : List ℕ) (n : ℕ) → number_at t ≡ Some n → IsNumbered word (word ++ 32 ∷ t) n
numbered_sound word t n e =
    let is = number_law.sound t n e in
    record { fits = is.1; spelled = ap (λ (x : List ℕ). word ++ 32 ∷ x) is.0 }

-- a word of the grammar, and what is said behind it
said_behind : (scopes : Scopes) (p word t : List ℕ) (k : EventKind) → pointwise nat_eq word p ≡ true
    → IsKind scopes (p ++ 32 ∷ t) k → IsKind scopes (word ++ 32 ∷ t) k
said_behind scopes p word t k same is = subst (λ (w : List ℕ). IsKind scopes (w ++ 32 ∷ t) k)
    (sym ((bytes_eq-Decides word p).0 same)) is

behind_sound : (scopes : Scopes) (word t : List ℕ) (k : EventKind) → kind_behind scopes word t ≡ Some k
    → IsKind scopes (word ++ 32 ∷ t) k
behind_sound scopes word t k e =
    let restarts : Option EventKind = cond (pointwise nat_eq word (codes "restart"))
    (restart_at scopes t) None in
    let beats : Option EventKind = cond (pointwise nat_eq word (codes "beat"))
    (host_at scopes t >>= λ server. Some (Beat server)) restarts in
    let answers : Option EventKind = cond (pointwise nat_eq word (codes "answer")) (answer_at t) beats in
    let returns : Option EventKind = cond (pointwise nat_eq word (codes "return"))
    (number_at t >>= λ delivery. Some (Return delivery)) answers in
    let fails : Option EventKind = cond (pointwise nat_eq word (codes "fail"))
    (number_at t >>= λ call. Some (Fail call)) returns in
    let delivers : Option EventKind = cond (pointwise nat_eq word (codes "deliver"))
    (number_at t >>= λ call. Some (Deliver call)) fails in
    elim (choice (pointwise nat_eq word (codes "request")) (request_at scopes t) delivers (Some k) e) [
      | inl p ↦ said_behind scopes (codes "request") word t k p.0 (request_sound scopes t k p.1)
      | inr e2 ↦ elim (choice (pointwise nat_eq word (codes "deliver"))
          (number_at t >>= λ call. Some (Deliver call)) fails (Some k) e2.1) [
            | inl p ↦
                let a = bind_some (number_at t) _ k p.1 in
                said_behind scopes (codes "deliver") word t k p.0
                (subst (IsKind scopes (codes "deliver" ++ 32 ∷ t)) (same_Some (Deliver a.0) k a.2)
                (numbered_sound (codes "deliver") t a.0 a.1))
            | inr e3 ↦ elim (choice (pointwise nat_eq word (codes "fail"))
                (number_at t >>= λ call. Some (Fail call)) returns (Some k) e3.1) [
                  | inl p ↦
                      let a = bind_some (number_at t) _ k p.1 in
                      said_behind scopes (codes "fail") word t k p.0
                      (subst (IsKind scopes (codes "fail" ++ 32 ∷ t)) (same_Some (Fail a.0) k a.2)
                      (numbered_sound (codes "fail") t a.0 a.1))
                  | inr e4 ↦ elim (choice (pointwise nat_eq word (codes "return"))
                      (number_at t >>= λ delivery. Some (Return delivery)) answers (Some k) e4.1) [
                        | inl p ↦
                            let a = bind_some (number_at t) _ k p.1 in
                            said_behind scopes (codes "return") word t k p.0
                            (subst (IsKind scopes (codes "return" ++ 32 ∷ t)) (same_Some (Return a.0) k a.2)
                            (numbered_sound (codes "return") t a.0 a.1))
                        | inr e5 ↦ elim (choice (pointwise nat_eq word (codes "answer")) (answer_at t) beats
                            (Some k) e5.1) [
                              | inl p ↦ said_behind scopes (codes "answer") word t k p.0
                                  (answer_sound scopes t k p.1)
                              | inr e6 ↦ elim (choice (pointwise nat_eq word (codes "beat"))
                                  (host_at scopes t >>= λ server. Some (Beat server)) restarts (Some k) e6.1) [
                                    | inl p ↦
                                        let a = bind_some (host_at scopes t) _ k p.1 in
                                        said_behind scopes (codes "beat") word t k p.0
                                        (subst (IsKind scopes (codes "beat" ++ 32 ∷ t))
                                        (same_Some (Beat a.0) k a.2)
                                        (beat_sound scopes t a.0 a.1))
                                    | inr e7 ↦ elim (choice (pointwise nat_eq word (codes "restart"))
                                        (restart_at scopes t) None
                                        (Some k) e7.1) [
                                          | inl p ↦ said_behind scopes (codes "restart") word t k p.0
                                              (restart_sound scopes t k p.1)
                                          | inr none ↦ let clash : None ≡ Some k = none.1 in absurd cc
                                        ]
                                  ]
                            ]
                      ]
                ]
          ]
    ]

kind_sound : (scopes : Scopes) (t : List ℕ) (k : EventKind) → kind_at scopes t ≡ Some k → IsKind scopes t k
unfolding kind_at
kind_sound scopes t k e =
    let a = bind_some (first_word t) _ k e in
    subst (λ (x : List ℕ). IsKind scopes x k) (sym (first_word_sound t a.0.0 a.0.1 a.1))
    (behind_sound scopes a.0.0 a.0.1 k a.2)

pub event_sound : (scopes : Scopes) (t : List ℕ) (e : Event) → event_at scopes t ≡ Some e
    → IsEventLine scopes t e
unfolding event_at
event_sound scopes t e h =
    let a = bind_some (field number_at t) _ e h in
    let b = bind_some (kind_at scopes a.0.1) _ e a.2 in
    let fa = field_sound number_at IsNumber number_law t a.0.0 a.0.1 a.1 in
    let made : Event = record { at = a.0.0; kind = b.0 } in
    let is : IsEventLine scopes t made = record {
      kind = a.0.1;
      at = fa.1.1;
      is_kind = kind_sound scopes a.0.1 b.0 b.1;
      spelled = follow _ _ _ _ _ fa.2 fa.1.0 refl;
    } in
    subst (λ (x : Event). IsEventLine scopes t x) (same_Some made e b.2) is

-- a kind is read by its word
by_word : (scopes : Scopes) (word r t : List ℕ) (k : Option EventKind) → list_all is_visible word ≡ true
    → t ≡ word ++ 32 ∷ r → kind_behind scopes word r ≡ k → kind_at scopes t ≡ k
unfolding kind_at
by_word scopes word r t k visible spelled h = ap (kind_at scopes) spelled
    ∙ bind_is (first_word (word ++ 32 ∷ r)) _ (word, r) k
    (first_word_complete word r (visible_lacks word visible)) h

request_complete : (scopes : Scopes) (t : List ℕ) (target peer : Addr) (value : List ℕ)
    (is : IsRequest scopes t target peer value)
    → request_at scopes (is.target ⧺ codes " " ⧺ is.peer ⧺ codes " " ⧺ is.hex) ≡ Some
    (Request target peer value)
unfolding request_at
request_complete scopes t target peer value is =
    bind_is _ _ _ _ (field_complete (host_at scopes) (IsHost scopes) (host_law scopes) is.target target
    (is.peer ⧺ codes " " ⧺ is.hex) is.is_target (host_lacks scopes is.target target is.is_target))
    (bind_is _ _ _ _ (field_complete (host_at scopes) (IsHost scopes) (host_law scopes) is.peer peer is.hex
    is.is_peer (host_lacks scopes is.peer peer is.is_peer))
    (bind_is _ _ _ _ (hex_law.complete is.hex value is.is_hex) refl))

answer_complete : (t : List ℕ) (call : ℕ) (value : List ℕ) (is : IsAnswer t call value)
    → answer_at (decimal call ⧺ codes " " ⧺ is.hex) ≡ Some (Answer call value)
unfolding answer_at
answer_complete t call value is =
    bind_is _ _ _ _ (field_complete number_at IsNumber number_law (decimal call) call is.hex (refl, is.fits)
    (decimal_lacks call is.fits))
    (bind_is _ _ _ _ (hex_law.complete is.hex value is.is_hex) refl)

restart_complete : (scopes : Scopes) (t : List ℕ) (addr : Addr) (value : List ℕ) (nonce : ℕ)
    (is : IsRestart scopes t addr value nonce)
    → restart_at scopes (is.server ⧺ codes " key " ⧺ is.key ⧺ codes " nonce " ⧺ decimal nonce) ≡ Some
    (Restart addr value nonce)
unfolding restart_at
restart_complete scopes t addr value nonce is =
    let last_part : List ℕ = codes "nonce " ⧺ decimal nonce in
    let key_part : List ℕ = codes "key " ⧺ is.key ⧺ codes " " ⧺ last_part in
    bind_is _ _ _ _ (field_complete (host_at scopes) (IsHost scopes) (host_law scopes) is.server addr key_part
    is.is_server (host_lacks scopes is.server addr is.is_server))
    (bind_is _ _ _ _ (named_complete (codes "key ") key_at IsKey key_law is.key value last_part is.is_key
    (key_lacks is.key value is.is_key))
    (bind_is _ _ _ _ (last_complete (codes "nonce ") number_at IsNumber number_law (decimal nonce) nonce
    (refl, is.fits)) refl))

number_is : (n : ℕ) → n < 2 ^ 64 → number_at (decimal n) ≡ Some n
number_is n fits = number_law.complete (decimal n) n (refl, fits)

kind_complete : (scopes : Scopes) (t : List ℕ) (k : EventKind) → IsKind scopes t k → kind_at scopes t ≡ Some k
kind_complete scopes t (Request target peer bytes) is = by_word scopes (codes "request") _ t _ refl is.spelled
    (request_complete scopes t target peer bytes is)
kind_complete scopes t (Deliver call) is = by_word scopes (codes "deliver") _ t _ refl is.spelled
    (bind_is _ _ _ _ (number_is call is.fits) refl)
kind_complete scopes t (Fail call) is = by_word scopes (codes "fail") _ t _ refl is.spelled
    (bind_is _ _ _ _ (number_is call is.fits) refl)
kind_complete scopes t (Return delivery) is = by_word scopes (codes "return") _ t _ refl is.spelled
    (bind_is _ _ _ _ (number_is delivery is.fits) refl)
kind_complete scopes t (Answer call bytes) is = by_word scopes (codes "answer") _ t _ refl is.spelled
    (answer_complete t call bytes is)
kind_complete scopes t (Beat server) is = by_word scopes (codes "beat") _ t _ refl is.spelled
    (bind_is _ _ _ _ ((host_law scopes).complete is.server server is.is_server) refl)
kind_complete scopes t (Restart server key nonce) is = by_word scopes (codes "restart") _ t _ refl is.spelled
    (restart_complete scopes t server key nonce is)

pub event_complete : (scopes : Scopes) (t : List ℕ) (e : Event) → IsEventLine scopes t e
    → event_at scopes t ≡ Some e
unfolding event_at
event_complete scopes t e is =
    ap (event_at scopes) is.spelled
    ∙ bind_is _ _ _ _ (field_complete number_at IsNumber number_law (decimal e.at) e.at is.kind (refl, is.at)
    (decimal_lacks e.at is.at))
    (bind_is _ _ _ _ (kind_complete scopes is.kind e.kind is.is_kind) refl)

-- ---- which line it is

skipped_is : (t : List ℕ) → is_skipped t ≡ true → (t ≡ []) ⊎ ((rest : List ℕ) × (t ≡ codes "#" ++ rest))
skipped_is [] e = inl refl
skipped_is (c ∷ cs) e = inr (cs, ap (λ (x : ℕ). x ∷ cs) (eqb-true c 35 e))

worded_sound : (scopes : Scopes) (t : List ℕ) (l : Line) → by_first_word scopes t ≡ Some l
    → Spells scopes t l
worded_sound scopes t l e =
    let events : Option Line = event_at scopes t >>= λ e. Some (lines.Event e) in
    let read_builder : List ℕ → Option Line = λ r. builder_at r >>= λ b. Some (lines.Setup b) in
    let builders : Option Line = behind (strip (codes "builder ") t) read_builder events in
    let read_server : List ℕ → Option Line = λ r. server_at scopes r >>= λ s. Some (lines.Setup (Server s)) in
    let servers : Option Line = behind (strip (codes "server ") t) read_server builders in
    let read_scheduler : List ℕ → Option Line = λ r. scheduler_at scopes r >>= λ s.
    Some (lines.Setup (Scheduler s)) in
    elim (behind_cases (codes "scheduler ") t read_scheduler servers (strip (codes "scheduler ") t) l refl e) [
      | inl p ↦
          let a = bind_some (scheduler_at scopes p.0) _ l p.2 in
          let is : Spells scopes t (lines.Setup (Scheduler a.0)) =
          subst (λ (x : List ℕ). IsSchedulerLine scopes x a.0) (sym p.1)
          (scheduler_sound scopes p.0 a.0 a.1) in
          subst (Spells scopes t) (same_Some (lines.Setup (Scheduler a.0)) l a.2) is
      | inr e2 ↦ elim (behind_cases (codes "server ") t read_server builders
          (strip (codes "server ") t) l refl e2) [
            | inl p ↦
                let a = bind_some (server_at scopes p.0) _ l p.2 in
                let is : Spells scopes t (lines.Setup (Server a.0)) =
                subst (λ (x : List ℕ). IsServerLine scopes x a.0) (sym p.1) (server_sound scopes p.0 a.0 a.1)
                in
                subst (Spells scopes t) (same_Some (lines.Setup (Server a.0)) l a.2) is
            | inr e3 ↦ elim (behind_cases (codes "builder ") t read_builder events
                (strip (codes "builder ") t) l refl e3) [
                  | inl p ↦
                      let a = bind_some (builder_at p.0) _ l p.2 in
                      let is : Spells scopes t (lines.Setup a.0) =
                      subst (λ (x : List ℕ). IsSetupLine scopes x a.0)
                      (sym p.1) (builder_sound scopes p.0 a.0 a.1) in
                      subst (Spells scopes t) (same_Some (lines.Setup a.0) l a.2) is
                  | inr e4 ↦
                      let a = bind_some (event_at scopes t) _ l e4 in
                      subst (Spells scopes t) (same_Some (lines.Event a.0) l a.2)
                      (event_sound scopes t a.0 a.1)
                ]
          ]
    ]

said_sound : (scopes : Scopes) (t : List ℕ) (l : Line) → said_at scopes t ≡ Some l → Spells scopes t l
unfolding said_at
said_sound scopes t l e =
    let two : Option Line = Some (lines.Setup Version2) in
    elim (choice (pointwise nat_eq t (codes "version 2")) two (by_first_word scopes t) (Some l) e) [
      | inl p ↦ subst (Spells scopes t) (same_Some (lines.Setup Version2) l p.1)
          ((bytes_eq-Decides t (codes "version 2")).0 p.0)
      | inr p ↦ worded_sound scopes t l p.1
    ]

pub line_sound : (scopes : Scopes) (t : List ℕ) (l : Line) → line_at scopes t ≡ Some l → Spells scopes t l
unfolding line_at
line_sound scopes t l e = elim (choice (is_skipped t) (Some lines.Skip) (said_at scopes t) (Some l) e) [
  | inl p ↦ subst (Spells scopes t) (same_Some lines.Skip l p.1) (skipped_is t p.0)
  | inr p ↦ said_sound scopes t l p.1
]

-- a text that begins with a digit is no skipped line, and does not begin with a word
pub record BeginsEvent (t : List ℕ) : Type 0 where
  pub not_skipped : is_skipped t ≡ false
  pub no_version : pointwise nat_eq t (codes "version 2") ≡ false
  pub no_scheduler : strip (codes "scheduler ") t ≡ None
  pub no_server : strip (codes "server ") t ≡ None
  pub no_builder : strip (codes "builder ") t ≡ None

digit_first : (ds rest : List ℕ) → 0 < length ds → all_ascii_digits ds ≡ true → BeginsEvent (ds ++ rest)
digit_first [] rest some e = absurd (omega arith)
digit_first (d ∷ ds) rest some e =
    let p = both (is_ascii_digit d) (all_ascii_digits ds) e in
    let digit : is_ascii_digit d ≡ true = p.0 in
    let range : (48 ≤ d) × (d ≤ 57) = (grind (arith, nat_tests), grind (arith, nat_tests)) in
    let no_mark : nat_eq d 35 ≡ false = ne_eqb d 35 (λ same. absurd (omega arith)) in
    let no_s : nat_eq d 115 ≡ false = ne_eqb d 115 (λ same. absurd (omega arith)) in
    let no_v : nat_eq d 118 ≡ false = ne_eqb d 118 (λ same. absurd (omega arith)) in
    let no_b : nat_eq d 98 ≡ false = ne_eqb d 98 (λ same. absurd (omega arith)) in
    record {
      not_skipped = no_mark;
      no_version = rw no_v refl;
      no_scheduler = rw no_s refl;
      no_server = rw no_s refl;
      no_builder = rw no_b refl;
    }

said_event : (scopes : Scopes) (t : List ℕ) → BeginsEvent t
    → line_at scopes t ≡ (event_at scopes t >>= λ e. Some (lines.Event e))
unfolding line_at said_at
said_event scopes t b = rw (b.not_skipped, b.no_version, b.no_scheduler, b.no_server, b.no_builder) refl

-- a line that begins with a word
scheduler_first : (scopes : Scopes) (r : List ℕ) → line_at scopes (codes "scheduler " ++ r) ≡
    (scheduler_at scopes r >>= λ s. Some (lines.Setup (Scheduler s)))
unfolding line_at said_at
scheduler_first scopes r = refl

server_first : (scopes : Scopes) (r : List ℕ) → line_at scopes (codes "server " ++ r) ≡
    (server_at scopes r >>= λ s. Some (lines.Setup (Server s)))
unfolding line_at said_at
server_first scopes r = refl

builder_first : (scopes : Scopes) (r : List ℕ) → line_at scopes (codes "builder " ++ r) ≡
    (builder_at r >>= λ b. Some (lines.Setup b))
unfolding line_at said_at
builder_first scopes r = refl

pub line_complete : (scopes : Scopes) (t : List ℕ) (l : Line) → Spells scopes t l → line_at scopes t ≡ Some l
unfolding line_at said_at
line_complete scopes t lines.Skip (inl e) = ap (line_at scopes) e
line_complete scopes t lines.Skip (inr p) = ap (line_at scopes) p.1
line_complete scopes t (lines.Setup Version2) is = ap (line_at scopes) is
line_complete scopes t (lines.Setup (Scheduler s)) is =
    let p = scheduler_complete scopes t s is in
    ap (line_at scopes) p.1 ∙ scheduler_first scopes p.0
    ∙ bind_is (scheduler_at scopes p.0) (λ x. Some (lines.Setup (Scheduler x))) s
    (Some (lines.Setup (Scheduler s))) p.2 refl
line_complete scopes t (lines.Setup (Server s)) is =
    let p = server_complete scopes t s is in
    ap (line_at scopes) p.1 ∙ server_first scopes p.0
    ∙ bind_is (server_at scopes p.0) (λ x. Some (lines.Setup (Server x))) s
    (Some (lines.Setup (Server s))) p.2 refl
line_complete scopes t (lines.Setup (Builder addr answer)) is =
    let p = builder_complete t addr answer is in
    ap (line_at scopes) p.1 ∙ builder_first scopes p.0
    ∙ bind_is (builder_at p.0) (λ x. Some (lines.Setup x)) (Builder addr answer)
    (Some (lines.Setup (Builder addr answer))) p.2 refl
line_complete scopes t (lines.Event e) is =
    let begins : BeginsEvent t = subst BeginsEvent (sym is.spelled)
    (digit_first (decimal e.at) (codes " " ⧺ is.kind) (decimal_nonempty e.at is.at)
    (decimal_digits e.at is.at)) in
    said_event scopes t begins ∙ bind_is _ _ _ _ (event_complete scopes t e is) refl

-- ---- a line without scopes is one where scopes are taken

kind_taken : (scopes : Scopes) (t : List ℕ) (k : EventKind) → IsKind scopes t k → IsKind Taken t k
kind_taken scopes t (Request target peer bytes) is = record {
  target = is.target;
  peer = is.peer;
  hex = is.hex;
  is_target = host_taken scopes is.target target is.is_target;
  is_peer = host_taken scopes is.peer peer is.is_peer;
  is_hex = is.is_hex;
  spelled = is.spelled;
}
kind_taken scopes t (Deliver call) is = is
kind_taken scopes t (Fail call) is = is
kind_taken scopes t (Return delivery) is = is
kind_taken scopes t (Answer call bytes) is = is
kind_taken scopes t (Beat server) is =
    record {
      server = is.server;
      is_server = host_taken scopes is.server server is.is_server;
      spelled = is.spelled;
    }
kind_taken scopes t (Restart server key nonce) is = record {
  server = is.server;
  key = is.key;
  is_server = host_taken scopes is.server server is.is_server;
  is_key = is.is_key;
  fits = is.fits;
  spelled = is.spelled;
}

pub spells_taken : (scopes : Scopes) (t : List ℕ) (l : Line) → Spells scopes t l → Spells Taken t l
spells_taken scopes t lines.Skip is = is
spells_taken scopes t (lines.Setup Version2) is = is
spells_taken scopes t (lines.Setup (Scheduler s)) is = record {
  addr = is.addr;
  client = is.client;
  auth = is.auth;
  is_addr = host_taken scopes is.addr s.addr is.is_addr;
  base = is.base;
  count = is.count;
  is_client = is.is_client;
  is_auth = is.is_auth;
  spelled = is.spelled;
}
spells_taken scopes t (lines.Setup (Server s)) is = record {
  addr = is.addr;
  key = is.key;
  is_addr = host_taken scopes is.addr s.addr is.is_addr;
  cpus = is.cpus;
  nonce = is.nonce;
  is_key = is.is_key;
  capacity = is.capacity;
  builder = is.builder;
  spelled = is.spelled;
}
spells_taken scopes t (lines.Setup (Builder addr answer)) is = is
spells_taken scopes t (lines.Event e) is =
    record {
      kind = is.kind;
      at = is.at;
      is_kind = kind_taken scopes is.kind e.kind is.is_kind;
      spelled = is.spelled;
    }

pub one_value : (scopes : Scopes) (t : List ℕ) (k l : Line) → Spells scopes t k → Spells scopes t l → k ≡ l
one_value scopes t k l p q = same_Some k l (sym (line_complete scopes t k p) ∙ line_complete scopes t l q)
