-- What a line says is spelled so, and what is spelled so is said.
use Rattle.std.proofs.Common.{◌≡◌, ℕ, ◌^◌, ◌<◌, ◌≤◌, ◌⊎◌, Bool, true, false, cond, List, [], ◌∷◌, ◌++◌, length}
use Rattle.std.proofs.Common.{Option, Some, None, codes, refl, sym, ap, subst, ◌∙◌, inl, inr, arith, nat_eq}
use Rattle.std.specs.Char.{is_ascii_digit}
use Rattle.std.specs.Cmp.Lexicographic.{pointwise}
use Rattle.std.specs.Str.{all_ascii_digits}
use Rattle.std.specs.Fmt.{decimal}
use Rattle.std.proofs.lemmas.Bool.{eqb-true, ne_eqb}
use Rattle.std.proofs.lemmas.Bool.Decides.{nat_tests}
use Rattle.std.proofs.lemmas.Fmt.{decimal_nonempty}
use Rattle.std.proofs.lemmas.Option.{same_Some}
use Rattle.std.proofs.lemmas.Slice.Eq.{bytes_eq-Decides}
use Rattle.dist_types.specs.Addr.{◌>>=◌}
use Rattle.dist_types.specs.Ids.{state_text}
use Rattle.dist_types.specs.declared.addr.Addr.{Addr}
use Rattle.dist_types.specs.declared.results.JobState.{JobState}
use Rattle.dist_types.specs.declared.results.JobState.TheVariants.{Pending, Ready, Started, Complete}
use Rattle.dist_types.proofs.AddrLemmas.{bind_some}
use Rattle.line_program.specs.Texts.{◌⧺◌}
use Rattle.farm_script.specs.Words.{first_word, strip, field, named, last, behind}
use Rattle.farm_script.specs.Fields.{host_at, number_at, token_at}
use Rattle.farm_script.specs.Lines.{is_skipped}
use Rattle.farm_script.specs.Grammar.{IsNumber, IsHost, IsToken}
use Rattle.farm_script.specs.declared.lines.Scopes.{Scopes}
use Rattle.farm_script.specs.declared.lines.Scopes.TheVariants.{Taken}
use Rattle.farm_script.proofs.VisibleLemmas.{both}
use Rattle.farm_script.proofs.WordLemmas.{bind_is, visible_lacks, first_word_sound, first_word_complete}
use Rattle.farm_script.proofs.WordLemmas.{field_sound, field_complete, named_sound, named_complete}
use Rattle.farm_script.proofs.WordLemmas.{last_sound, last_complete, follow, follow_number, behind_cases}
use Rattle.farm_script.proofs.FieldLemmas.{number_law, host_law, token_law, host_lacks, host_taken, token_lacks}
use Rattle.line_program.proofs.FirstFaultyLemmas.{choice}
use Rattle.farm_script.proofs.FieldLemmas.{decimal_digits, decimal_lacks}
use Rattle.quota_script.specs.Line.{state_at, ready_at, commit_at, beat_at, update_at, kind_behind, kind_at}
use Rattle.quota_script.specs.Line.{event_at, client_at, said_at, line_at}
use Rattle.quota_script.specs.Grammar.{ready_text, IsCommit, IsBeat, IsUpdate, IsKind}
use Rattle.quota_script.specs.Grammar.{IsEventLine, IsClientLine, Spells}
use Rattle.quota_script.specs.declared.event.EventKind.{EventKind}
use Rattle.quota_script.specs.declared.event.EventKind.TheVariants.{Alloc, Commit, Undo, Beat, Update, Status}
use Rattle.quota_script.specs.declared.event.Event.{Event}
use Rattle.quota_script.specs.declared.line.Line.{Line}
use Rattle.quota_script.specs.declared.line.Line.TheVariants as lines

-- ---- states

same_text : (a b : List ℕ) → pointwise nat_eq a b ≡ true → a ≡ b
same_text a b e = (bytes_eq-Decides a b).0 e

-- a word that says a value, or another that does
then_word : {A : Type 0} (w t : List ℕ) (x k : A) (other : Option A) (text : A → List ℕ) → text x ≡ w
    → cond (pointwise nat_eq t w) (Some x) other ≡ Some k → (other ≡ Some k → t ≡ text k) → t ≡ text k
then_word w t x k other text is e later = elim (choice (pointwise nat_eq t w) (Some x) other (Some k) e) [
  | inl p ↦ same_text t w p.0 ∙ sym is ∙ ap text (same_Some x k p.1)
  | inr p ↦ later p.1
]

state_sound : (t : List ℕ) (s : JobState) → state_at t ≡ Some s → t ≡ state_text s
state_sound t s e =
    let completes : Option JobState = cond (pointwise nat_eq t (codes "complete")) (Some Complete) None in
    let starts : Option JobState = cond (pointwise nat_eq t (codes "started")) (Some Started) completes in
    let readies : Option JobState = cond (pointwise nat_eq t (codes "ready")) (Some Ready) starts in
    then_word (codes "pending") t Pending s readies state_text refl e
    (λ e2. then_word (codes "ready") t Ready s starts state_text refl e2
    (λ e3. then_word (codes "started") t Started s completes state_text refl e3
    (λ e4. then_word (codes "complete") t Complete s None state_text refl e4 (λ e5. absurd cc))))

state_complete : (s : JobState) → state_at (state_text s) ≡ Some s
state_complete Pending = refl
state_complete Ready = refl
state_complete Started = refl
state_complete Complete = refl

ready_sound : (t : List ℕ) (b : Bool) → ready_at t ≡ Some b → t ≡ ready_text b
ready_sound t b e =
    let readies : Option Bool = cond (pointwise nat_eq t (codes "ready")) (Some true) None in
    then_word (codes "pending") t false b readies ready_text refl e
    (λ e2. then_word (codes "ready") t true b None ready_text refl e2 (λ e3. absurd cc))

ready_complete : (b : Bool) → ready_at (ready_text b) ≡ Some b
ready_complete true = refl
ready_complete false = refl

number_is : (n : ℕ) → n < 2 ^ 64 → number_at (decimal n) ≡ Some n
number_is n fits = number_law.complete (decimal n) n (refl, fits)

-- ---- what happens

alloc_sound : (scopes : Scopes) (t client : List ℕ) → token_at t ≡ Some client
    → IsKind scopes (codes "alloc" ++ 32 ∷ t) (Alloc client)
alloc_sound scopes t client e = record { token = t; is_client = token_law.sound t client e; spelled = refl }

commit_sound : (scopes : Scopes) (t : List ℕ) (k : EventKind) → commit_at t ≡ Some k
    → IsKind scopes (codes "commit" ++ 32 ∷ t) k
unfolding commit_at
commit_sound scopes t k e =
    let a = bind_some (field number_at t) _ k e in
    let b = bind_some (ready_at a.0.1) _ k a.2 in
    let fa = field_sound number_at IsNumber number_law t a.0.0 a.0.1 a.1 in
    let is : IsCommit (codes "commit" ++ 32 ∷ t) a.0.0 b.0 = record {
      fits = fa.1.1;
      spelled = ap (λ (x : List ℕ). codes "commit" ++ 32 ∷ x)
          (follow _ _ _ _ _ fa.2 fa.1.0 (ready_sound a.0.1 b.0 b.1));
    } in
    subst (IsKind scopes (codes "commit" ++ 32 ∷ t)) (same_Some (Commit a.0.0 b.0) k b.2) is

undo_sound : (scopes : Scopes) (t : List ℕ) (job : ℕ) → number_at t ≡ Some job
    → IsKind scopes (codes "undo" ++ 32 ∷ t) (Undo job)
undo_sound scopes t job e =
    let is = number_law.sound t job e in
    record { fits = is.1; spelled = ap (λ (x : List ℕ). codes "undo" ++ 32 ∷ x) is.0 }

beat_sound : (scopes : Scopes) (t : List ℕ) (k : EventKind) → beat_at scopes t ≡ Some k
    → IsKind scopes (codes "beat" ++ 32 ∷ t) k
unfolding beat_at
beat_sound scopes t k e =
    let a = bind_some (field (host_at scopes) t) _ k e in
    let b = bind_some (named (codes "nonce ") number_at a.0.1) _ k a.2 in
    let c = bind_some (last (codes "cpus ") number_at b.0.1) _ k b.2 in
    let fa = field_sound (host_at scopes) (IsHost scopes) (host_law scopes) t a.0.0 a.0.1 a.1 in
    let fb = named_sound (codes "nonce ") number_at IsNumber number_law a.0.1 b.0.0 b.0.1 b.1 in
    let fc = last_sound (codes "cpus ") number_at IsNumber number_law b.0.1 c.0 c.1 in
    let is : IsBeat scopes (codes "beat" ++ 32 ∷ t) a.0.0 b.0.0 c.0 = record {
      server = fa.0;
      is_server = fa.1;
      nonce_fits = fb.1.1;
      cpus_fit = fc.1.1;
      spelled = ap (λ (x : List ℕ). codes "beat" ++ 32 ∷ x)
          (follow _ _ _ _ _ fa.2 refl
          (follow_number _ (codes "nonce ") fb.0 _ _ _ fb.2 fb.1.0
          (fc.2 ∙ ap (λ (w : List ℕ). codes "cpus " ++ w) fc.1.0)));
    } in
    subst (IsKind scopes (codes "beat" ++ 32 ∷ t)) (same_Some (Beat a.0.0 b.0.0 c.0) k c.2) is

update_sound : (scopes : Scopes) (t : List ℕ) (k : EventKind) → update_at scopes t ≡ Some k
    → IsKind scopes (codes "update" ++ 32 ∷ t) k
unfolding update_at
update_sound scopes t k e =
    let a = bind_some (field (host_at scopes) t) _ k e in
    let b = bind_some (field number_at a.0.1) _ k a.2 in
    let c = bind_some (state_at b.0.1) _ k b.2 in
    let fa = field_sound (host_at scopes) (IsHost scopes) (host_law scopes) t a.0.0 a.0.1 a.1 in
    let fb = field_sound number_at IsNumber number_law a.0.1 b.0.0 b.0.1 b.1 in
    let is : IsUpdate scopes (codes "update" ++ 32 ∷ t) a.0.0 b.0.0 c.0 = record {
      server = fa.0;
      is_server = fa.1;
      fits = fb.1.1;
      spelled = ap (λ (x : List ℕ). codes "update" ++ 32 ∷ x)
          (follow _ _ _ _ _ fa.2 refl (follow _ _ _ _ _ fb.2 fb.1.0 (state_sound b.0.1 c.0 c.1)));
    } in
    subst (IsKind scopes (codes "update" ++ 32 ∷ t)) (same_Some (Update a.0.0 b.0.0 c.0) k c.2) is

-- a word of the grammar, and what is said behind it
said_behind : (scopes : Scopes) (p word t : List ℕ) (k : EventKind) → pointwise nat_eq word p ≡ true
    → IsKind scopes (p ++ 32 ∷ t) k → IsKind scopes (word ++ 32 ∷ t) k
said_behind scopes p word t k same is = subst (λ (w : List ℕ). IsKind scopes (w ++ 32 ∷ t) k)
    (sym (same_text word p same)) is

behind_sound : (scopes : Scopes) (word t : List ℕ) (k : EventKind) → kind_behind scopes word t ≡ Some k
    → IsKind scopes (word ++ 32 ∷ t) k
behind_sound scopes word t k e =
    let updates : Option EventKind = cond (pointwise nat_eq word (codes "update")) (update_at scopes t) None in
    let beats : Option EventKind = cond (pointwise nat_eq word (codes "beat")) (beat_at scopes t) updates in
    let undoes : Option EventKind = cond (pointwise nat_eq word (codes "undo"))
    (number_at t >>= λ job. Some (Undo job)) beats in
    let commits : Option EventKind = cond (pointwise nat_eq word (codes "commit")) (commit_at t) undoes in
    elim (choice (pointwise nat_eq word (codes "alloc")) (token_at t >>= λ client. Some (Alloc client)) commits
    (Some k) e) [
      | inl p ↦
          let a = bind_some (token_at t) _ k p.1 in
          said_behind scopes (codes "alloc") word t k p.0
          (subst (IsKind scopes (codes "alloc" ++ 32 ∷ t)) (same_Some (Alloc a.0) k a.2)
          (alloc_sound scopes t a.0 a.1))
      | inr e2 ↦ elim (choice (pointwise nat_eq word (codes "commit")) (commit_at t) undoes (Some k) e2.1) [
        | inl p ↦ said_behind scopes (codes "commit") word t k p.0 (commit_sound scopes t k p.1)
        | inr e3 ↦ elim (choice (pointwise nat_eq word (codes "undo"))
            (number_at t >>= λ job. Some (Undo job)) beats (Some k) e3.1) [
              | inl p ↦
                  let a = bind_some (number_at t) _ k p.1 in
                  said_behind scopes (codes "undo") word t k p.0
                  (subst (IsKind scopes (codes "undo" ++ 32 ∷ t)) (same_Some (Undo a.0) k a.2)
                  (undo_sound scopes t a.0 a.1))
              | inr e4 ↦ elim (choice (pointwise nat_eq word (codes "beat")) (beat_at scopes t) updates
                  (Some k) e4.1) [
                    | inl p ↦ said_behind scopes (codes "beat") word t k p.0 (beat_sound scopes t k p.1)
                    | inr e5 ↦ elim (choice (pointwise nat_eq word (codes "update")) (update_at scopes t)
                        None (Some k) e5.1) [
                          | inl p ↦ said_behind scopes (codes "update") word t k p.0
                              (update_sound scopes t k p.1)
                          | inr none ↦ let clash : None ≡ Some k = none.1 in absurd cc
                        ]
                  ]
            ]
      ]
    ]

kind_sound : (scopes : Scopes) (t : List ℕ) (k : EventKind) → kind_at scopes t ≡ Some k → IsKind scopes t k
unfolding kind_at
kind_sound scopes t k e =
    elim (choice (pointwise nat_eq t (codes "status")) (Some Status)
    (first_word t >>= λ word. kind_behind scopes word.0 word.1) (Some k) e) [
      | inl p ↦ subst (IsKind scopes t) (same_Some Status k p.1) (same_text t (codes "status") p.0)
      | inr p ↦
          let a = bind_some (first_word t) _ k p.1 in
          subst (λ (x : List ℕ). IsKind scopes x k) (sym (first_word_sound t a.0.0 a.0.1 a.1))
          (behind_sound scopes a.0.0 a.0.1 k a.2)
    ]

event_sound : (scopes : Scopes) (t : List ℕ) (e : Event) → event_at scopes t ≡ Some e → IsEventLine scopes t e
unfolding event_at
event_sound scopes t e h =
    let a = bind_some (field number_at t) _ e h in
    let b = bind_some (kind_at scopes a.0.1) _ e a.2 in
    let fa = field_sound number_at IsNumber number_law t a.0.0 a.0.1 a.1 in
    let made : Event = record { at = a.0.0; kind = b.0 } in
    let is : IsEventLine scopes t made = record {
      kind = a.0.1;
      at = fa.1.1;
      is_kind = kind_sound scopes a.0.1 b.0 b.1;
      spelled = follow _ _ _ _ _ fa.2 fa.1.0 refl;
    } in
    subst (λ (x : Event). IsEventLine scopes t x) (same_Some made e b.2) is

-- a kind is read by its word
alloc_word : (scopes : Scopes) (r : List ℕ) → kind_at scopes (codes "alloc" ++ 32 ∷ r)
    ≡ (token_at r >>= λ client. Some (Alloc client))
unfolding kind_at
alloc_word scopes r = bind_is (first_word (codes "alloc" ++ 32 ∷ r)) _ (codes "alloc", r) _
    (first_word_complete (codes "alloc") r (visible_lacks (codes "alloc") refl)) refl

commit_word : (scopes : Scopes) (r : List ℕ) → kind_at scopes (codes "commit" ++ 32 ∷ r) ≡ commit_at r
unfolding kind_at
commit_word scopes r = bind_is (first_word (codes "commit" ++ 32 ∷ r)) _ (codes "commit", r) _
    (first_word_complete (codes "commit") r (visible_lacks (codes "commit") refl)) refl

undo_word : (scopes : Scopes) (r : List ℕ) → kind_at scopes (codes "undo" ++ 32 ∷ r)
    ≡ (number_at r >>= λ job. Some (Undo job))
unfolding kind_at
undo_word scopes r = bind_is (first_word (codes "undo" ++ 32 ∷ r)) _ (codes "undo", r) _
    (first_word_complete (codes "undo") r (visible_lacks (codes "undo") refl)) refl

beat_word : (scopes : Scopes) (r : List ℕ) → kind_at scopes (codes "beat" ++ 32 ∷ r) ≡ beat_at scopes r
unfolding kind_at
beat_word scopes r = bind_is (first_word (codes "beat" ++ 32 ∷ r)) _ (codes "beat", r) _
    (first_word_complete (codes "beat") r (visible_lacks (codes "beat") refl)) refl

update_word : (scopes : Scopes) (r : List ℕ) → kind_at scopes (codes "update" ++ 32 ∷ r) ≡ update_at scopes r
unfolding kind_at
update_word scopes r = bind_is (first_word (codes "update" ++ 32 ∷ r)) _ (codes "update", r) _
    (first_word_complete (codes "update") r (visible_lacks (codes "update") refl)) refl

status_word : (scopes : Scopes) → kind_at scopes (codes "status") ≡ Some Status
unfolding kind_at
status_word scopes = refl

commit_complete : (job : ℕ) (b : Bool) → job < 2 ^ 64
    → commit_at (decimal job ⧺ codes " " ⧺ ready_text b) ≡ Some (Commit job b)
unfolding commit_at
commit_complete job b fits =
    bind_is _ _ _ _ (field_complete number_at IsNumber number_law (decimal job) job (ready_text b) (refl, fits)
    (decimal_lacks job fits))
    (bind_is _ _ _ _ (ready_complete b) refl)

beat_complete : (scopes : Scopes) (t : List ℕ) (addr : Addr) (nonce cpus : ℕ)
    (is : IsBeat scopes t addr nonce cpus)
    → beat_at scopes (is.server ⧺ codes " nonce " ⧺ decimal nonce ⧺ codes " cpus " ⧺ decimal cpus)
    ≡ Some (Beat addr nonce cpus)
unfolding beat_at
beat_complete scopes t addr nonce cpus is =
    let last_part : List ℕ = codes "cpus " ⧺ decimal cpus in
    let nonce_part : List ℕ = codes "nonce " ⧺ decimal nonce ⧺ codes " " ⧺ last_part in
    bind_is _ _ _ _ (field_complete (host_at scopes) (IsHost scopes) (host_law scopes) is.server addr nonce_part
    is.is_server (host_lacks scopes is.server addr is.is_server))
    (bind_is _ _ _ _ (named_complete (codes "nonce ") number_at IsNumber number_law (decimal nonce) nonce last_part
    (refl, is.nonce_fits) (decimal_lacks nonce is.nonce_fits))
    (bind_is _ _ _ _ (last_complete (codes "cpus ") number_at IsNumber number_law (decimal cpus) cpus
    (refl, is.cpus_fit)) refl))

update_complete : (scopes : Scopes) (t : List ℕ) (addr : Addr) (job : ℕ) (state : JobState)
    (is : IsUpdate scopes t addr job state)
    → update_at scopes (is.server ⧺ codes " " ⧺ decimal job ⧺ codes " " ⧺ state_text state)
    ≡ Some (Update addr job state)
unfolding update_at
update_complete scopes t addr job state is =
    bind_is _ _ _ _ (field_complete (host_at scopes) (IsHost scopes) (host_law scopes) is.server addr
    (decimal job ⧺ codes " " ⧺ state_text state) is.is_server (host_lacks scopes is.server addr is.is_server))
    (bind_is _ _ _ _ (field_complete number_at IsNumber number_law (decimal job) job (state_text state)
    (refl, is.fits) (decimal_lacks job is.fits))
    (bind_is _ _ _ _ (state_complete state) refl))

kind_complete : (scopes : Scopes) (t : List ℕ) (k : EventKind) → IsKind scopes t k → kind_at scopes t ≡ Some k
kind_complete scopes t (Alloc client) is = ap (kind_at scopes) is.spelled ∙ alloc_word scopes is.token
    ∙ bind_is (token_at is.token) (λ x. Some (Alloc x)) client (Some (Alloc client))
    (token_law.complete is.token client is.is_client) refl
kind_complete scopes t (Commit job b) is = ap (kind_at scopes) is.spelled
    ∙ commit_word scopes (decimal job ⧺ codes " " ⧺ ready_text b) ∙ commit_complete job b is.fits
kind_complete scopes t (Undo job) is = ap (kind_at scopes) is.spelled ∙ undo_word scopes (decimal job)
    ∙ bind_is (number_at (decimal job)) (λ x. Some (Undo x)) job (Some (Undo job)) (number_is job is.fits) refl
kind_complete scopes t (Beat server nonce cpus) is = ap (kind_at scopes) is.spelled
    ∙ beat_word scopes (is.server ⧺ codes " nonce " ⧺ decimal nonce ⧺ codes " cpus " ⧺ decimal cpus)
    ∙ beat_complete scopes t server nonce cpus is
kind_complete scopes t (Update server job state) is = ap (kind_at scopes) is.spelled
    ∙ update_word scopes (is.server ⧺ codes " " ⧺ decimal job ⧺ codes " " ⧺ state_text state)
    ∙ update_complete scopes t server job state is
kind_complete scopes t Status is = ap (kind_at scopes) is ∙ status_word scopes

event_complete : (scopes : Scopes) (t : List ℕ) (e : Event) → IsEventLine scopes t e → event_at scopes t ≡ Some e
unfolding event_at
event_complete scopes t e is =
    ap (event_at scopes) is.spelled
    ∙ bind_is _ _ _ _ (field_complete number_at IsNumber number_law (decimal e.at) e.at is.kind (refl, is.at)
    (decimal_lacks e.at is.at))
    (bind_is _ _ _ _ (kind_complete scopes is.kind e.kind is.is_kind) refl)

-- ---- a client

client_sound : (r : List ℕ) (scopes : Scopes) (l : Line) → client_at r ≡ Some l
    → Spells scopes (codes "client " ++ r) l
unfolding client_at
client_sound r scopes l e =
    let a = bind_some (field token_at r) _ l e in
    let b = bind_some (last (codes "limit ") number_at a.0.1) _ l a.2 in
    let fa = field_sound token_at IsToken token_law r a.0.0 a.0.1 a.1 in
    let fb = last_sound (codes "limit ") number_at IsNumber number_law a.0.1 b.0 b.1 in
    let is : IsClientLine (codes "client " ++ r) a.0.0 b.0 = record {
      token = fa.0;
      is_name = fa.1;
      fits = fb.1.1;
      spelled = ap (λ (x : List ℕ). codes "client " ++ x)
          (follow _ _ _ _ _ fa.2 refl (fb.2 ∙ ap (λ (w : List ℕ). codes "limit " ++ w) fb.1.0));
    } in
    subst (Spells scopes (codes "client " ++ r)) (same_Some (lines.Client a.0.0 b.0) l b.2) is

client_complete : (t name : List ℕ) (limit : ℕ) (is : IsClientLine t name limit)
    → client_at (is.token ⧺ codes " limit " ⧺ decimal limit) ≡ Some (lines.Client name limit)
unfolding client_at
client_complete t name limit is =
    let last_part : List ℕ = codes "limit " ⧺ decimal limit in
    bind_is _ _ _ _ (field_complete token_at IsToken token_law is.token name last_part is.is_name
    (token_lacks is.token name is.is_name))
    (bind_is _ _ _ _ (last_complete (codes "limit ") number_at IsNumber number_law (decimal limit) limit
    (refl, is.fits)) refl)

-- ---- which line it is

skipped_is : (t : List ℕ) → is_skipped t ≡ true → (t ≡ []) ⊎ ((rest : List ℕ) × (t ≡ codes "#" ++ rest))
skipped_is [] e = inl refl
skipped_is (c ∷ cs) e = inr (cs, ap (λ (x : ℕ). x ∷ cs) (eqb-true c 35 e))

said_sound : (scopes : Scopes) (t : List ℕ) (l : Line) → said_at scopes t ≡ Some l → Spells scopes t l
unfolding said_at
said_sound scopes t l e =
    let events : Option Line = event_at scopes t >>= λ e. Some (lines.Event e) in
    let clients : Option Line = behind (strip (codes "client ") t) client_at events in
    let read_base : List ℕ → Option Line = λ r. number_at r >>= λ base. Some (lines.Ids base) in
    elim (behind_cases (codes "ids ") t read_base clients (strip (codes "ids ") t) l refl e) [
      | inl p ↦
          let a = bind_some (number_at p.0) _ l p.2 in
          let is = number_law.sound p.0 a.0 a.1 in
          let made : Spells scopes t (lines.Ids a.0) =
          (is.1, p.1 ∙ ap (λ (x : List ℕ). codes "ids " ++ x) is.0) in
          subst (Spells scopes t) (same_Some (lines.Ids a.0) l a.2) made
      | inr e2 ↦ elim (behind_cases (codes "client ") t client_at events (strip (codes "client ") t) l refl e2) [
        | inl p ↦ subst (λ (x : List ℕ). Spells scopes x l) (sym p.1) (client_sound p.0 scopes l p.2)
        | inr e3 ↦
            let a = bind_some (event_at scopes t) _ l e3 in
            subst (Spells scopes t) (same_Some (lines.Event a.0) l a.2) (event_sound scopes t a.0 a.1)
      ]
    ]

pub line_sound : (scopes : Scopes) (t : List ℕ) (l : Line) → line_at scopes t ≡ Some l → Spells scopes t l
unfolding line_at
line_sound scopes t l e = elim (choice (is_skipped t) (Some lines.Skip) (said_at scopes t) (Some l) e) [
  | inl p ↦ subst (Spells scopes t) (same_Some lines.Skip l p.1) (skipped_is t p.0)
  | inr p ↦ said_sound scopes t l p.1
]

-- a text that begins with a digit is no skipped line, and does not begin with a word
record BeginsEvent (t : List ℕ) : Type 0 where
  pub not_skipped : is_skipped t ≡ false
  pub no_ids : strip (codes "ids ") t ≡ None
  pub no_client : strip (codes "client ") t ≡ None

digit_first : (ds rest : List ℕ) → 0 < length ds → all_ascii_digits ds ≡ true → BeginsEvent (ds ++ rest)
digit_first [] rest some e = absurd (omega arith)
digit_first (d ∷ ds) rest some e =
    let p = both (is_ascii_digit d) (all_ascii_digits ds) e in
    let digit : is_ascii_digit d ≡ true = p.0 in
    let range : (48 ≤ d) × (d ≤ 57) = (grind (arith, nat_tests), grind (arith, nat_tests)) in
    let no_mark : nat_eq d 35 ≡ false = ne_eqb d 35 (λ same. absurd (omega arith)) in
    let no_i : nat_eq d 105 ≡ false = ne_eqb d 105 (λ same. absurd (omega arith)) in
    let no_c : nat_eq d 99 ≡ false = ne_eqb d 99 (λ same. absurd (omega arith)) in
    record { not_skipped = no_mark; no_ids = rw no_i refl; no_client = rw no_c refl }

said_event : (scopes : Scopes) (t : List ℕ) → BeginsEvent t
    → line_at scopes t ≡ (event_at scopes t >>= λ e. Some (lines.Event e))
unfolding line_at said_at
said_event scopes t b = rw (b.not_skipped, b.no_ids, b.no_client) refl

-- a line that begins with a word
ids_first : (scopes : Scopes) (r : List ℕ) → line_at scopes (codes "ids " ++ r)
    ≡ (number_at r >>= λ base. Some (lines.Ids base))
unfolding line_at said_at
ids_first scopes r = refl

client_first : (scopes : Scopes) (r : List ℕ) → line_at scopes (codes "client " ++ r) ≡ client_at r
unfolding line_at said_at
client_first scopes r = refl

skip_none : (scopes : Scopes) → line_at scopes [] ≡ Some lines.Skip
unfolding line_at
skip_none scopes = refl

skip_mark : (scopes : Scopes) (rest : List ℕ) → line_at scopes (codes "#" ++ rest) ≡ Some lines.Skip
unfolding line_at
skip_mark scopes rest = refl

pub line_complete : (scopes : Scopes) (t : List ℕ) (l : Line) → Spells scopes t l → line_at scopes t ≡ Some l
line_complete scopes t lines.Skip (inl e) = ap (line_at scopes) e ∙ skip_none scopes
line_complete scopes t lines.Skip (inr p) = ap (line_at scopes) p.1 ∙ skip_mark scopes p.0
line_complete scopes t (lines.Ids base) is = ap (line_at scopes) is.1 ∙ ids_first scopes (decimal base)
    ∙ bind_is (number_at (decimal base)) (λ x. Some (lines.Ids x)) base (Some (lines.Ids base))
    (number_is base is.0) refl
line_complete scopes t (lines.Client name limit) is = ap (line_at scopes) is.spelled
    ∙ client_first scopes (is.token ⧺ codes " limit " ⧺ decimal limit) ∙ client_complete t name limit is
line_complete scopes t (lines.Event e) is =
    let begins : BeginsEvent t = subst BeginsEvent (sym is.spelled)
    (digit_first (decimal e.at) (codes " " ⧺ is.kind) (decimal_nonempty e.at is.at)
    (decimal_digits e.at is.at)) in
    said_event scopes t begins ∙ bind_is _ _ _ _ (event_complete scopes t e is) refl

-- ---- a line without scopes is one where scopes are taken

kind_taken : (scopes : Scopes) (t : List ℕ) (k : EventKind) → IsKind scopes t k → IsKind Taken t k
kind_taken scopes t (Alloc client) is = is
kind_taken scopes t (Commit job b) is = is
kind_taken scopes t (Undo job) is = is
kind_taken scopes t (Beat server nonce cpus) is = record {
  server = is.server;
  is_server = host_taken scopes is.server server is.is_server;
  nonce_fits = is.nonce_fits;
  cpus_fit = is.cpus_fit;
  spelled = is.spelled;
}
kind_taken scopes t (Update server job state) is = record {
  server = is.server;
  is_server = host_taken scopes is.server server is.is_server;
  fits = is.fits;
  spelled = is.spelled;
}
kind_taken scopes t Status is = is

pub spells_taken : (scopes : Scopes) (t : List ℕ) (l : Line) → Spells scopes t l → Spells Taken t l
spells_taken scopes t lines.Skip is = is
spells_taken scopes t (lines.Ids base) is = is
spells_taken scopes t (lines.Client name limit) is = is
spells_taken scopes t (lines.Event e) is =
    record {
      kind = is.kind;
      at = is.at;
      is_kind = kind_taken scopes is.kind e.kind is.is_kind;
      spelled = is.spelled;
    }

pub one_value : (scopes : Scopes) (t : List ℕ) (k l : Line) → Spells scopes t k → Spells scopes t l → k ≡ l
one_value scopes t k l p q = same_Some k l (sym (line_complete scopes t k p) ∙ line_complete scopes t l q)
