-- A get over a far cache behind the route follows the rule, where folders tell their files and never fail.
use Rattle.std.proofs.Common.{◌≡◌, ◌≢◌, ℕ, ◌≤◌, inl, inr, Bool, true, false, cond, List, [], ◌∷◌, ◌++◌}
use Rattle.std.proofs.Common.{Option, Some, None, is_some, Result, Ok, Err, OnOk, refl, sym, ap, subst, ◌∙◌}
use Rattle.std.proofs.Common.{true≢false, arith, length, nat_le, unwrap_or}
use Rattle.std.specs.Prelude.{option_to_list}
use Rattle.std.specs.List.{AllByRecursion, list_all}
use Rattle.std.specs.Map.{lookup}
use Rattle.std.specs.Str.{bytes_eq}
use Rattle.std.proofs.lemmas.Slice.Eq.{bytes_eq-Decides}
use Rattle.dist_types.specs.Cause.{Rose}
use Rattle.dist_types.specs.Toolchain.{is_lower_hex}
use Rattle.dist_types.specs.declared.dialer.AskFault.{AskFault}
use Rattle.dist_types.specs.declared.dialer.AskFault.TheVariants.{Failed, Memory as OutOfMemory}
use Rattle.dist_types.specs.declared.fault.Memory as want
use Rattle.http_head.specs.WrittenRequest.{request_text}
use Rattle.http_head.proofs.HeadLemmas.{one_request}
use Rattle.http_routes.specs.ReadBack.{seen}
use Rattle.http_routes.specs.Reply.{body_of, reply_text}
use Rattle.http_routes.specs.declared.reply.Response.{Response}
use Rattle.http_routes.specs.declared.reply.Response.TheVariants.{Binary, NotFound}
use Rattle.listed_files.specs.Entries.{promoted_key}
use Rattle.dist_types.specs.declared.cache_error.Error.TheVariants as error
use Rattle.toolchain_cache.specs.Archives.{Archives, id_of}
use Rattle.mirror.specs.Asking.{said_of}
use Rattle.mirror.specs.Caches.{Cache, Stays}
use Rattle.mirror.specs.Far.{Far, AsksFar, AsksFarOrNot, AfterWait, Sends, SendsAnswer, Serves, ServesOrNot}
use Rattle.mirror.specs.Getting.{Answer, Gets, GoesOn, AfterNear, AfterHeard, AfterSaid, near_of}
use Rattle.mirror.specs.Getting.{GivesNear, GivesFetched}
use Rattle.mirror.specs.Question.{mirror_question, id_asked}
use Rattle.mirror.specs.Routing.{Answers, AnswersFor, reply_by}
use Rattle.mirror.specs.Rule.{IsReliable, sides_of, IsSound, FollowsRule, Rules}
use Rattle.mirror.specs.Sides.{Sides, put_in, after_near, after_ask, after_far, after_lie}
use Rattle.mirror.specs.Sides.{NearGives, AskGives, FarGives, LieGives, IsShortLie}
use Rattle.mirror.specs.declared.error.MirrorError.TheVariants as mirror
use Rattle.mirror.specs.declared.far.Wait.{Wait}
use Rattle.mirror.specs.declared.far.Wait.TheVariants.{Lose, Lie}
use Rattle.mirror.proofs.GetLemmas.{risen, stays_near}
use Rattle.mirror.proofs.QuestionLemmas.{question_back, said_reply}
use Rattle.mirror.proofs.RuleLemmas.{hit, miss, kept}

-- ---- what was heard

heard_starved : (id : List ℕ) (heard : Result (List ℕ) AskFault) (answer : Answer) (old new : Cache)
    → heard ≡ Err OutOfMemory → AfterHeard id heard answer old new → answer ≡ Err mirror.Memory
heard_starved id heard answer old new is h = (subst (λ x. AfterHeard id x answer old new) is h).0

heard_said : (id : List ℕ) (response : Response) (heard : Result (List ℕ) AskFault) (answer : Answer)
    (old new : Cache) → length (body_of response) ≤ 1073741824 → heard ≡ Ok (reply_text response)
    → answer ≢ Err mirror.Memory → AfterHeard id heard answer old new
    → AfterSaid id (said_of (seen response)) answer old new
heard_said id response heard answer old new short is some h =
    let after : AfterHeard id (Ok (reply_text response)) answer old new =
    subst (λ x. AfterHeard id x answer old new) is h in
    elim after [
      | inl r ↦ subst (λ s. AfterSaid id s answer old new) (said_reply response r.said short r.tells) r.follows
      | inr m ↦ absurd (some m.0)
    ]

-- of a reply that was sent
sent_said : (id : List ℕ) (response : Response) (heard : Result (List ℕ) AskFault) (answer : Answer)
    (old new : Cache) → length (body_of response) ≤ 1073741824 → Sends (reply_text response) heard
    → answer ≢ Err mirror.Memory → AfterHeard id heard answer old new
    → AfterSaid id (said_of (seen response)) answer old new
sent_said id response heard answer old new short sends some h = elim sends [
  | inl is ↦ heard_said id response heard answer old new short is some h
  | inr is ↦ absurd (some (heard_starved id heard answer old new is h))
]

not_same : (a b : List ℕ) → a ≢ b → bytes_eq a b ≡ false
not_same a b other = by (bytes_eq a b) refl
  where
    by : (c : Bool) → bytes_eq a b ≡ c → c ≡ false
    by true is = absurd (other ((bytes_eq-Decides a b).0 is))
    by false is = refl

-- what is listed is no larger than each is
below : (id : List ℕ) (n : ℕ) (es : Archives) → AllByRecursion (λ x. x.1 ≤ 1073741824) es
    → lookup (bytes_eq id) es ≡ Some n → n ≤ 1073741824
below id n [] all found = absurd (true≢false (sym (ap is_some found)))
below id n (x ∷ es) all found = by (bytes_eq id x.0) found (below id n es all.1)
  where
    by : (b : Bool) → cond b (Some x.1) (lookup (bytes_eq id) es) ≡ Some n
        → (lookup (bytes_eq id) es ≡ Some n → n ≤ 1073741824) → n ≤ 1073741824
    by true is rest = subst (λ m. m ≤ 1073741824) (ap (λ o. unwrap_or o 0) is) all.0
    by false is rest = rest is

-- ---- an ask

-- what an ask gives by the rule, by what waits for it
record Asked (capacity : ℕ) (id : List ℕ) (waiting : List Wait) (s now : Sides) (answer : Answer) : Type 0 where
  gives : AskGives capacity id waiting s.far answer
  sides : now ≡ after_ask capacity id waiting s

module _ (id : List ℕ) (answer : Answer) (near between later : Cache) (far behind : Far)
    (capacity_is : between.capacity ≡ near.capacity) (archives_is : between.archives ≡ near.archives)
    (tells : IsReliable between later) (some : answer ≢ Err mirror.Memory) where
  near_same : later ≡ between → later.archives ≡ near.archives
  near_same is = ap (λ c. c.archives) is ∙ archives_is

  near_put : (bytes : List ℕ) → later.archives ≡ put_in between.capacity id (length bytes) between.archives
      → later.archives ≡ put_in near.capacity id (length bytes) near.archives
  near_put bytes is = is ∙ (λ i. put_in (capacity_is i) id (length bytes) (archives_is i))

  -- it is lost
  lost : (rest : List Wait) → (heard : Result (List ℕ) AskFault) → heard ≡ Err Failed → behind.cache ≡ far.cache
      → behind.waiting ≡ rest → AfterHeard id heard answer between later
      → Asked near.capacity id (Lose ∷ rest) (sides_of near far) (sides_of later behind) answer
  lost rest heard is same waits h =
      let after : (answer ≡ Err mirror.FetchFault) × (later ≡ between) =
      subst (λ x. AfterHeard id x answer between later) is h in
      record {
        gives = after.0;
        sides = λ i. record {
          near = near_same after.1 i;
          far = (same i).archives;
          waiting = waits i;
        };
      }

  -- other bytes come
  lied : (bytes : List ℕ) (rest : List Wait) (heard : Result (List ℕ) AskFault) → length bytes ≤ 1073741824
      → Sends (reply_text (Binary bytes)) heard → behind.cache ≡ far.cache → behind.waiting ≡ rest
      → AfterHeard id heard answer between later
      → Asked near.capacity id (Lie bytes ∷ rest) (sides_of near far) (sides_of later behind) answer
  lied bytes rest heard short sends same waits h =
      elim (sent_said id (Binary bytes) heard answer between later short sends some h) [
        | inl k ↦
            let is : bytes_eq (id_of bytes) id ≡ true = (bytes_eq-Decides (id_of bytes) id).1 k.verified in
            let held = kept id bytes answer between later k tells some in
            record {
              gives = subst (λ b. LieGives near.capacity b bytes answer) (sym is)
                  (subst (λ c. GivesFetched bytes (nat_le (length bytes) c) answer) capacity_is held.gives);
              sides = (λ i. record {
                near = near_put bytes held.archives i;
                far = (same i).archives;
                waiting = waits i;
              }) ∙ sym (ap (λ b. after_lie near.capacity id b bytes rest (sides_of near far)) is);
            }
        | inr r ↦
            let is : bytes_eq (id_of bytes) id ≡ false = not_same (id_of bytes) id r.another in
            record {
              gives = subst (λ b. LieGives near.capacity b bytes answer) (sym is) r.gives;
              sides = (λ i. record {
                near = near_same r.same i;
                far = (same i).archives;
                waiting = waits i;
              }) ∙ sym (ap (λ b. after_lie near.capacity id b bytes rest (sides_of near far)) is);
            }
      ]

  -- the far cache answers
  answered : (heard : Result (List ℕ) AskFault) (reply : Result Response want.Memory)
      → IsReliable far.cache behind.cache → AllByRecursion (λ a. a.1 ≤ 1073741824) far.cache.archives
      → Answers id reply far.cache behind.cache → SendsAnswer reply heard → behind.waiting ≡ []
      → far.waiting ≡ [] → AfterHeard id heard answer between later
      → Asked near.capacity id [] (sides_of near far) (sides_of later behind) answer
  answered heard reply far_tells short a sends waits idle h = by_far (lookup (bytes_eq id) far.cache.archives) refl
    where
      sent : SendsAnswer (reply_by a.found) heard
      sent = subst (λ r. SendsAnswer r heard) a.gives sends

      found_some : a.found ≢ Err error.Memory
      found_some is = some (heard_starved id heard answer between later
          (subst (λ f. SendsAnswer (reply_by f) heard) is sent) h)

      by_far : (o : Option ℕ) → lookup (bytes_eq id) far.cache.archives ≡ o
          → Asked near.capacity id [] (sides_of near far) (sides_of later behind) answer
      by_far (Some n) found =
          let b = hit id n a.found far.cache behind.cache a.looks far_tells found found_some in
          let bytes = b.0 in
          let sized : length bytes ≡ n = ap (λ (p : List ℕ × ℕ). p.1) b.2 in
          let named : id_of bytes ≡ id = ap (λ (p : List ℕ × ℕ). p.0) b.2 in
          let low : n ≤ 1073741824 = below id n far.cache.archives short found in
          let fits : length bytes ≤ 1073741824 = subst (λ m. m ≤ 1073741824) (sym sized) low in
          let most : behind.cache.archives ≡ promoted_key id far.cache.archives =
          subst (λ f. OnOk f (behind.cache.archives ≡ promoted_key id far.cache.archives)) b.1 a.looks.archives in
          elim (sent_said id (Binary bytes) heard answer between later fits
          (subst (λ f. SendsAnswer (reply_by f) heard) b.1 sent) some h) [
            | inl k ↦
                let held = kept id bytes answer between later k tells some in
                record {
                  gives = subst (λ o. FarGives near.capacity id o answer) (sym found) (
                    bytes,
                    b.2,
                    subst (λ m. GivesFetched bytes (nat_le m near.capacity) answer) sized
                        (subst (λ c. GivesFetched bytes (nat_le (length bytes) c) answer) capacity_is held.gives),
                  );
                  sides = (λ i. record {
                    near = (near_put bytes held.archives
                        ∙ ap (λ m. put_in near.capacity id m near.archives) sized) i;
                    far = most i;
                    waiting = (waits ∙ sym idle) i;
                  }) ∙ sym (ap (λ o. after_far near.capacity id o (sides_of near far)) found);
                }
            | inr r ↦ absurd (r.another named)
          ]
      by_far None none =
          let m = miss id a.found far.cache behind.cache a.looks none found_some in
          let nothing : (answer ≡ Err mirror.NotAnywhere) × (later ≡ between) =
          sent_said id NotFound heard answer between later (omega arith)
          (subst (λ f. SendsAnswer (reply_by f) heard) m.why sent) some h in
          record {
            gives = subst (λ o. FarGives near.capacity id o answer) (sym none) nothing.0;
            sides = (λ i. record {
              near = near_same nothing.1 i;
              far = m.archives i;
              waiting = (waits ∙ sym idle) i;
            }) ∙ sym (ap (λ o. after_far near.capacity id o (sides_of near far)) none);
          }

-- ---- a get

-- the far side was asked, by what waited for it
asked_once : (host : List ℕ) (port : ℕ) (id : List ℕ) (answer : Answer) (near between later : Cache)
    (far behind : Far) (heard : Result (List ℕ) AskFault) → length id ≡ 64 → list_all is_lower_hex id ≡ true
    → between.capacity ≡ near.capacity → between.archives ≡ near.archives → IsReliable between later
    → IsSound host port id answer near later far behind
    → AsksFar (request_text (mirror_question host port id)) far behind heard → AfterHeard id heard answer between later
    → Asked near.capacity id far.waiting (sides_of near far) (sides_of later behind) answer
asked_once host port id answer near between later far behind heard long lower capacity archives tells sound asks h =
    by asks.due asks.waits asks.follows
  where
    served : behind.waiting ≡ [] → far.waiting ≡ []
        → Serves (request_text (mirror_question host port id)) far.cache behind.cache heard
        → Asked near.capacity id [] (sides_of near far) (sides_of later behind) answer
    served waits idle s =
        let (r, x, named) = question_back host port id long lower sound.can in
        let same : s.asked ≡ r = one_request (request_text (mirror_question host port id)) s.asked r s.is x in
        let asked : id_asked s.asked ≡ Some id = ap id_asked same ∙ named in
        let a : Answers id s.answer far.cache behind.cache =
        subst (λ o. AnswersFor o s.answer far.cache behind.cache) asked s.routes in
        answered id answer near between later far behind capacity archives tells sound.some heard s.answer
        sound.far_tells sound.short.far a s.sends waits idle h

    none_waits : far.waiting ≡ behind.waiting → far.waiting ≡ []
        → ServesOrNot (request_text (mirror_question host port id)) far.cache behind.cache heard
        → Asked near.capacity id [] (sides_of near far) (sides_of later behind) answer
    none_waits waits idle s = elim s [
      | inl x ↦ served (sym waits ∙ idle) idle x
      | inr y ↦ elim y [
        | inl x ↦
            let q = question_back host port id long lower sound.can in
            absurd (x.0 q.0 q.1)
        | inr x ↦ absurd (sound.some (heard_starved id heard answer between later x.0 h))
      ]
    ]

    short_first : (w : Wait) (rest : List Wait) → far.waiting ≡ w ∷ rest → IsShortLie w
    short_first w rest is = (subst (AllByRecursion IsShortLie) is sound.short.waiting).0

    by : (due : Option Wait) → far.waiting ≡ option_to_list due ++ behind.waiting
        → AfterWait due (request_text (mirror_question host port id)) far behind heard
        → Asked near.capacity id far.waiting (sides_of near far) (sides_of later behind) answer
    by (Some Lose) waits a =
        subst (λ w. Asked near.capacity id w (sides_of near far) (sides_of later behind) answer) (sym waits)
        (lost id answer near between later far behind capacity archives tells sound.some behind.waiting heard a.0.0
        a.1 refl h)
    by (Some (Lie bytes)) waits a =
        subst (λ w. Asked near.capacity id w (sides_of near far) (sides_of later behind) answer) (sym waits)
        (lied id answer near between later far behind capacity archives tells sound.some bytes behind.waiting heard
        (short_first (Lie bytes) behind.waiting waits) a.0.0 a.1 refl h)
    by None waits a =
        subst (λ w. Asked near.capacity id w (sides_of near far) (sides_of later behind) answer) (sym a.1)
        (none_waits waits a.1 a.0)

module _ (host : List ℕ) (port : ℕ) (id : List ℕ) (long : length id ≡ 64)
    (lower : list_all is_lower_hex id ≡ true) (answer : Answer) (near later : Cache) (far behind : Far) where
  abbrev U : Type 0
  U = behind ≡ far

  abbrev A : Result (List ℕ) AskFault → Type 0
  A heard = AsksFarOrNot (request_text (mirror_question host port id)) far behind heard

  -- a get follows the rule
  pub rule_followed : Gets U A id answer near later → Rules host port id answer near later far behind
  rule_followed g sound = by_near (lookup (bytes_eq id) near.archives) refl
    where
      tail : Stays g.between later
      tail = stays_near U A id (near_of g.found) answer g.between later g.looks.stays.stands g.follows

      first : IsReliable near g.between
      first = record {
        files = sound.near_tells.files;
        told = sound.near_tells.told;
        never = λ rose. sound.near_tells.never
            (risen near.folder.faults g.between.folder.faults later.folder.faults rose tail.later);
      }

      found_some : g.found ≢ Err error.Memory
      found_some is = sound.some (subst (λ f. AfterNear U A id (near_of f) answer g.between later) is g.follows).0

      by_near : (o : Option ℕ) → lookup (bytes_eq id) near.archives ≡ o → FollowsRule id answer near later far behind
      by_near (Some n) found =
          let b = hit id n g.found near g.between g.looks first found found_some in
          let h : GivesNear b.0 answer × (later ≡ g.between) × U =
          subst (λ f. AfterNear U A id (near_of f) answer g.between later) b.1 g.follows in
          let most : g.between.archives ≡ promoted_key id near.archives =
          subst (λ f. OnOk f (g.between.archives ≡ promoted_key id near.archives)) b.1 g.looks.archives in
          record {
            gives = subst (λ o. NearGives near.capacity id o (sides_of near far) answer) (sym found)
                (b.0, b.2, h.0);
            sides = (λ i. record {
              near = (ap (λ c. c.archives) h.1 ∙ most) i;
              far = (h.2 i).cache.archives;
              waiting = (h.2 i).waiting;
            }) ∙ sym (ap (λ o. after_near near.capacity id o (sides_of near far)) found);
          }
      by_near None none =
          let m = miss id g.found near g.between g.looks none found_some in
          let h : GoesOn A id answer g.between later =
          subst (λ f. AfterNear U A id (near_of f) answer g.between later) m.why g.follows in
          let tells : IsReliable g.between later = record {
            files = sound.near_tells.files;
            told = ap (λ f. f.files) m.folder ∙ sound.near_tells.told;
            never = λ rose. sound.near_tells.never
                (subst (λ f. Rose f.faults later.folder.faults) m.folder rose);
          } in
          let asked : Asked near.capacity id far.waiting (sides_of near far) (sides_of later behind) answer =
          elim h.asks [
            | inl a ↦ asked_once host port id answer near g.between later far behind h.heard long lower
                g.looks.stays.capacity m.archives tells sound a h.follows
            | inr x ↦ absurd (sound.some (heard_starved id h.heard answer g.between later x.0 h.follows))
          ] in
          record {
            gives = subst (λ o. NearGives near.capacity id o (sides_of near far) answer) (sym none) asked.gives;
            sides = asked.sides ∙ sym (ap (λ o. after_near near.capacity id o (sides_of near far)) none);
          }
