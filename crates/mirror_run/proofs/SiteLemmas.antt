-- What each step leaves of the two caches.
use Rattle.std.proofs.Common.{◌≡◌, ◌≢◌, ℕ, ◌+◌, ◌≤◌, Bool, true, false, not, nat_lt, cond, List, [], ◌∷◌, ◌++◌, length}
use Rattle.std.proofs.Common.{Option, Some, None, Result, Ok, Err, IfOk, codes, refl, sym, ap, subst, ◌∙◌, inl, inr, arith}
use Rattle.std.specs.Fmt.{decimal}
use Rattle.std.specs.List.{AllByRecursion, list_all}
use Rattle.std.specs.Map.{lookup}
use Rattle.std.specs.Str.{bytes_eq}
use Rattle.std.proofs.lemmas.Fmt.{decimal_step, decimal_digit}
use Rattle.std.proofs.lemmas.List.{length-append}
use Rattle.dist_types.specs.Cause.{Rose}
use Rattle.dist_types.specs.declared.dialer.Asked.{Asked}
use Rattle.dist_types.specs.declared.dialer.AskFault.{AskFault}
use Rattle.line_program.proofs.FirstFaultyLemmas.{choice}
use Rattle.folders.specs.InMemory.{reliable_held, reliable_files}
use Rattle.folders.specs.declared.reliable_folder.ReliableFolder.{ReliableFolder}
use Rattle.http_head.specs.Head.{IsRequest}
use Rattle.http_head.specs.WrittenRequest.{is_visible, head_with, request_text}
use Rattle.http_head.specs.declared.written_request.Method.TheVariants.{Get}
use Rattle.http_routes.specs.declared.reply.Response.{Response}
use Rattle.dist_types.specs.declared.cache_error.Error.{Error}
use Rattle.dist_types.specs.declared.cache_error.Error.TheVariants.{WrongDigest, FileTooLarge}
use Rattle.dist_types.specs.declared.fault.Memory as want
use Rattle.mirror_script.specs.declared.line.Site.TheVariants as site
use Rattle.mirror_script.specs.declared.line.Step.TheVariants as step
use Rattle.mirror_script.specs.declared.said.Said.{Said}
use Rattle.mirror_script.specs.declared.said.Said.TheVariants as said
use Rattle.toolchain_cache.specs.Archives.{Archives, ArchiveStore, id_of}
use Rattle.toolchain_cache.specs.Archiving.{archive_verdict, with_archive}
use Rattle.toolchain_cache.proofs.Unkeyed.{keys_trimmed, keys_out, keys_promoted}
use Rattle.mirror.specs.Caches.{Cache, told_of, Stores}
use Rattle.mirror.specs.Far.{Far, FarParts, far_of, AsksFarOrNot, AsksFar, AfterWait, ServesOrNot, FarAsks}
use Rattle.mirror.specs.Getting.{Answer, Parts, GetsBy, AfterNear, near_of}
use Rattle.mirror.specs.Question.{mirror_question, id_asked, host_at}
use Rattle.mirror.specs.Routing.{AnswersFor}
use Rattle.mirror.specs.Rule.{IsReliable, CanAsk, IsSound, AnswersByRoute, RulesBy, sides_of}
use Rattle.mirror.specs.Sides.{Sides, put_in, put_bytes, after_get, after_near, after_ask, after_far, after_lie, Gives}
use Rattle.mirror.specs.Sides.{GoThrough, IsShortLie}
use Rattle.mirror_run.specs.Sites.{InMemory, IsAt, Does}
use Rattle.mirror_run.specs.Steps.{Rooms, put_said, IsSaid}
use Rattle.mirror.specs.declared.error.MirrorError.{MirrorError}
use Rattle.mirror.specs.declared.error.MirrorError.TheVariants as mirror
use Rattle.mirror.specs.declared.far.Wait.{Wait}
use Rattle.mirror.specs.declared.far.Wait.TheVariants.{Lose, Lie}
use Rattle.mirror.proofs.ByRouteLemmas.{far_routed}
use Rattle.mirror.proofs.GetLemmas.{get_stays}

-- ---- what goes through replies

abbrev Small : List ℕ × ℕ → Type 0
Small a = a.1 ≤ 1073741824

all_end : (xs : Archives) (x : List ℕ × ℕ) → AllByRecursion Small xs → Small x
    → AllByRecursion Small (xs ++ x ∷ [])
all_end [] x h small = (small, tt)
all_end (y ∷ ys) x h small = (h.0, all_end ys x h.1 small)

small_with : (room : ℕ) (id : List ℕ) (n : ℕ) (xs : Archives) → AllByRecursion Small xs → n ≤ 1073741824
    → AllByRecursion Small (with_archive room id n xs)
small_with room id n xs h small =
    all_end _ (id, n) (keys_trimmed Small _ _ (keys_out Small (bytes_eq id) xs h)) small

small_put : (b : Bool) (room : ℕ) (id : List ℕ) (n : ℕ) (xs : Archives) → AllByRecursion Small xs
    → n ≤ 1073741824 → AllByRecursion Small (cond b xs (with_archive room id n xs))
small_put true room id n xs h small = h
small_put false room id n xs h small = small_with room id n xs h small

all_waits : (ws : List Wait) (w : Wait) → AllByRecursion IsShortLie ws → IsShortLie w
    → AllByRecursion IsShortLie (ws ++ w ∷ [])
all_waits [] w h short = (short, tt)
all_waits (v ∷ vs) w h short = (h.0, all_waits vs w h.1 short)

through_far : (capacity : ℕ) (id : List ℕ) (o : Option ℕ) (s : Sides) → GoThrough s
    → GoThrough (after_far capacity id o s)
through_far capacity id (Some size) s t = record {
  far = keys_promoted Small (bytes_eq id) s.far t.far;
  waiting = t.waiting;
}
through_far capacity id None s t = t

through_lie : (capacity : ℕ) (id : List ℕ) (b : Bool) (bytes : List ℕ) (rest : List Wait) (s : Sides)
    → GoThrough s → AllByRecursion IsShortLie rest → GoThrough (after_lie capacity id b bytes rest s)
through_lie capacity id true bytes rest s t h = record { far = t.far; waiting = h }
through_lie capacity id false bytes rest s t h = record { far = t.far; waiting = h }

through_ask : (capacity : ℕ) (id : List ℕ) (ws : List Wait) (s : Sides) → GoThrough s
    → AllByRecursion IsShortLie ws → GoThrough (after_ask capacity id ws s)
through_ask capacity id [] s t h = through_far capacity id (lookup (bytes_eq id) s.far) s t
through_ask capacity id (Lose ∷ rest) s t h = record { far = t.far; waiting = h.1 }
through_ask capacity id (Lie bytes ∷ rest) s t h =
    through_lie capacity id (bytes_eq (id_of bytes) id) bytes rest s t h.1

through_near : (capacity : ℕ) (id : List ℕ) (o : Option ℕ) (s : Sides) → GoThrough s
    → GoThrough (after_near capacity id o s)
through_near capacity id (Some size) s t = record { far = t.far; waiting = t.waiting }
through_near capacity id None s t = through_ask capacity id s.waiting s t t.waiting

-- ---- a put

-- what was stored is within the capacity
admitted : (capacity : ℕ) (bytes : List ℕ) → archive_verdict capacity (id_of bytes) bytes ≡ Ok (tt {0})
    → nat_lt capacity (length bytes) ≡ false
admitted capacity bytes e =
    elim (choice (not (bytes_eq (id_of bytes) (id_of bytes))) (wrong WrongDigest)
    (cond (nat_lt capacity (length bytes)) (wrong FileTooLarge) (Ok (tt {0}))) (Ok (tt {0})) e) [
      | inl q ↦ let clash : wrong WrongDigest ≡ Ok (tt {0}) = q.1 in absurd cc
      | inr q ↦ elim (choice (nat_lt capacity (length bytes)) (wrong FileTooLarge) (Ok (tt {0})) (Ok (tt {0})) q.1) [
        | inl r ↦ let clash : wrong FileTooLarge ≡ Ok (tt {0}) = r.1 in absurd cc
        | inr r ↦ r.0
      ]
    ]
  where
    wrong : Error → Result (Unit {0}) Error
    wrong e = Err e

-- what was refused as too large is past it
too_large : (capacity : ℕ) (bytes : List ℕ) → archive_verdict capacity (id_of bytes) bytes ≡ Err FileTooLarge
    → nat_lt capacity (length bytes) ≡ true
too_large capacity bytes e =
    elim (choice (not (bytes_eq (id_of bytes) (id_of bytes))) (wrong WrongDigest)
    (cond (nat_lt capacity (length bytes)) (wrong FileTooLarge) (Ok (tt {0}))) (wrong FileTooLarge) e) [
      | inl q ↦ let clash : wrong WrongDigest ≡ wrong FileTooLarge = q.1 in absurd cc
      | inr q ↦ elim (choice (nat_lt capacity (length bytes)) (wrong FileTooLarge) (Ok (tt {0})) (wrong FileTooLarge)
          q.1) [
            | inl r ↦ r.0
            | inr r ↦ let clash : Ok (tt {0}) ≡ wrong FileTooLarge = r.1 in absurd cc
          ]
    ]
  where
    wrong : Error → Result (Unit {0}) Error
    wrong e = Err e

-- a cache behind a put, and the line of it
record IsPut (room : ℕ) (bytes : List ℕ) (l : Said) (old new : Cache) : Type 0 where
  pub line : l ≡ put_said room bytes
  pub lists : new.archives ≡ put_bytes room bytes old.archives
  pub stays : new.capacity ≡ old.capacity

was_put : {T : Type 0} (x : T) (room : ℕ) (id bytes : List ℕ) (old new : Cache) → old.capacity ≡ room
    → id ≡ id_of bytes → Stores {T = T} (id_of bytes) bytes (Ok x) old new
    → IsPut room bytes (said.Put id) old new
was_put x room id bytes old new is id_is stores =
    let fits : nat_lt room (length bytes) ≡ false =
    ap (λ (c : ℕ). nat_lt c (length bytes)) (sym is) ∙ admitted old.capacity bytes stores.admits in
    record {
      line = ap (λ (t : List ℕ). said.Put t) id_is
          ∙ sym (ap (λ (b : Bool). cond b said.TooLarge (said.Put (id_of bytes))) fits);
      lists = stores.archives
          ∙ ap (λ (c : ℕ). with_archive c (id_of bytes) (length bytes) old.archives) is
          ∙ sym (ap (λ (b : Bool). cond b old.archives
          (with_archive room (id_of bytes) (length bytes) old.archives)) fits);
      stays = stores.stays.capacity;
    }

was_large : {T : Type 0} (room : ℕ) (bytes : List ℕ) (old new : Cache) → old.capacity ≡ room
    → Stores {T = T} (id_of bytes) bytes (Err FileTooLarge) old new → IsPut room bytes said.TooLarge old new
was_large room bytes old new is stores =
    let past : nat_lt room (length bytes) ≡ true =
    ap (λ (c : ℕ). nat_lt c (length bytes)) (sym is) ∙ too_large old.capacity bytes stores.fails.2 in
    record {
      line = sym (ap (λ (b : Bool). cond b said.TooLarge (said.Put (id_of bytes))) past);
      lists = stores.fails.0 ∙ sym (ap (λ (b : Bool). cond b old.archives
          (with_archive room (id_of bytes) (length bytes) old.archives)) past);
      stays = stores.stays.capacity;
    }

near_put : (bytes : List ℕ) (l : Said) (m n : InMemory) → ((room : ℕ) → m.near.capacity ≡ room
    → IsPut room bytes l (told_of reliable_held m.near) (told_of reliable_held n.near))
    → (n.dialer ≡ m.dialer) × (n.host ≡ m.host) × (n.port ≡ m.port) → Does (step.Put site.Near bytes) l m n
near_put bytes l m n put rest rooms s at =
    let p = put rooms.near at.near_room in (
      p.line,
      record {
        near_room = p.stays ∙ at.near_room;
        near_lists = p.lists ∙ ap (put_bytes rooms.near bytes) at.near_lists;
        far_room = ap (λ d. d.cache.capacity) rest.0 ∙ at.far_room;
        far_lists = ap (λ d. d.cache.archives) rest.0 ∙ at.far_lists;
        waits = ap (λ d. d.waiting) rest.0 ∙ at.waits;
        through = record { far = at.through.far; waiting = at.through.waiting };
        host = rest.1 ∙ at.host;
        port = rest.2 ∙ at.port;
      },
    )

pub put_near : {T : Type 0} (x : T) (id bytes : List ℕ) (m n : InMemory) → id ≡ id_of bytes
    → Stores {T = T} (id_of bytes) bytes (Ok x) (told_of reliable_held m.near) (told_of reliable_held n.near)
    → (n.dialer ≡ m.dialer) × (n.host ≡ m.host) × (n.port ≡ m.port)
    → Does (step.Put site.Near bytes) (said.Put id) m n
put_near x id bytes m n id_is stores rest =
    near_put bytes (said.Put id) m n
    (λ room is. was_put x room id bytes (told_of reliable_held m.near) (told_of reliable_held n.near) is id_is stores)
    rest

pub large_near : {T : Type 0} (bytes : List ℕ) (m n : InMemory)
    → Stores {T = T} (id_of bytes) bytes (Err FileTooLarge) (told_of reliable_held m.near)
    (told_of reliable_held n.near)
    → (n.dialer ≡ m.dialer) × (n.host ≡ m.host) × (n.port ≡ m.port)
    → Does (step.Put site.Near bytes) said.TooLarge m n
large_near bytes m n stores rest =
    near_put bytes said.TooLarge m n
    (λ room is. was_large room bytes (told_of reliable_held m.near) (told_of reliable_held n.near) is stores) rest

far_put : (bytes : List ℕ) (l : Said) (m n : InMemory) → length bytes ≤ 1048576
    → ((room : ℕ) → m.dialer.cache.capacity ≡ room → IsPut room bytes l (told_of reliable_held m.dialer.cache)
    (told_of reliable_held n.dialer.cache))
    → n.dialer.waiting ≡ m.dialer.waiting → (n.near ≡ m.near) × (n.host ≡ m.host) × (n.port ≡ m.port)
    → Does (step.Put site.Far bytes) l m n
far_put bytes l m n short put waits rest rooms s at =
    let p = put rooms.far at.far_room in
    let small : length bytes ≤ 1073741824 = omega (arith, short) in (
      p.line,
      record {
        near_room = ap (λ c. c.capacity) rest.0 ∙ at.near_room;
        near_lists = ap (λ c. c.archives) rest.0 ∙ at.near_lists;
        far_room = p.stays ∙ at.far_room;
        far_lists = p.lists ∙ ap (put_bytes rooms.far bytes) at.far_lists;
        waits = waits ∙ at.waits;
        through = record {
          far = small_put (nat_lt rooms.far (length bytes)) rooms.far (id_of bytes) (length bytes) s.far
              at.through.far small;
          waiting = at.through.waiting;
        };
        host = rest.1 ∙ at.host;
        port = rest.2 ∙ at.port;
      },
    )

pub put_far : {T : Type 0} (x : T) (id bytes : List ℕ) (m n : InMemory) → length bytes ≤ 1048576
    → id ≡ id_of bytes
    → Stores {T = T} (id_of bytes) bytes (Ok x) (told_of reliable_held m.dialer.cache)
    (told_of reliable_held n.dialer.cache)
    → n.dialer.waiting ≡ m.dialer.waiting → (n.near ≡ m.near) × (n.host ≡ m.host) × (n.port ≡ m.port)
    → Does (step.Put site.Far bytes) (said.Put id) m n
put_far x id bytes m n short id_is stores waits rest =
    far_put bytes (said.Put id) m n short
    (λ room is. was_put x room id bytes (told_of reliable_held m.dialer.cache) (told_of reliable_held n.dialer.cache) is
    id_is stores)
    waits rest

pub large_far : {T : Type 0} (bytes : List ℕ) (m n : InMemory) → length bytes ≤ 1048576
    → Stores {T = T} (id_of bytes) bytes (Err FileTooLarge) (told_of reliable_held m.dialer.cache)
    (told_of reliable_held n.dialer.cache)
    → n.dialer.waiting ≡ m.dialer.waiting → (n.near ≡ m.near) × (n.host ≡ m.host) × (n.port ≡ m.port)
    → Does (step.Put site.Far bytes) said.TooLarge m n
large_far bytes m n short stores waits rest =
    far_put bytes said.TooLarge m n short
    (λ room is. was_large room bytes (told_of reliable_held m.dialer.cache) (told_of reliable_held n.dialer.cache) is
    stores)
    waits rest

-- ---- what waits

-- one more waits
abbrev pub waits_more : Wait → InMemory → InMemory
waits_more w m = record m { dialer = record m.dialer { waiting = m.dialer.waiting ++ w ∷ [] } }

more_at : (w : Wait) (rooms : Rooms) (s : Sides) (m : InMemory) → IsShortLie w → IsAt rooms s m
    → IsAt rooms (record { near = s.near; far = s.far; waiting = s.waiting ++ w ∷ [] }) (waits_more w m)
more_at w rooms s m short at = record {
  near_room = at.near_room;
  near_lists = at.near_lists;
  far_room = at.far_room;
  far_lists = at.far_lists;
  waits = ap (λ (ws : List Wait). ws ++ w ∷ []) at.waits;
  through = record { far = at.through.far; waiting = all_waits s.waiting w at.through.waiting short };
  host = at.host;
  port = at.port;
}

pub lose_waits : (m n : InMemory) → n ≡ waits_more Lose m → Does step.Lose said.Lose m n
lose_waits m n is rooms s at = (
  refl,
  subst (λ (x : InMemory). IsAt rooms (record { near = s.near; far = s.far; waiting = s.waiting ++ Lose ∷ [] }) x)
      (sym is) (more_at Lose rooms s m tt at),
)

pub lie_waits : (body : List ℕ) (m n : InMemory) → length body ≤ 1048576 → n ≡ waits_more (Lie body) m
    → Does (step.Lie body) said.Lie m n
lie_waits body m n short is rooms s at =
    let small : length body ≤ 1073741824 = omega (arith, short) in (
      refl,
      subst (λ (x : InMemory). IsAt rooms
          (record { near = s.near; far = s.far; waiting = s.waiting ++ Lie body ∷ [] }) x)
          (sym is) (more_at (Lie body) rooms s m small at),
    )

-- ---- a get

-- the port of the far cache
port_text : decimal 80 ≡ 56 ∷ 48 ∷ []
port_text = decimal_step 80 (omega arith) (omega arith)
    ∙ ap (λ (t : List ℕ). t ++ 48 ∷ []) (decimal_digit 8 (omega arith))

-- the head of a request to the far cache, by the text of its port
abbrev head_at : List ℕ → List ℕ → List ℕ
head_at id port = head_with Get (codes "/api/v1/mirror/" ++ id) (codes "far" ++ (58 ∷ port)) None 0

head_fits : (id : List ℕ) → length id ≡ 64 → length (head_at id (56 ∷ 48 ∷ [])) ≤ 65536
head_fits id long =
    let front : List ℕ = codes "GET /api/v1/mirror/" in
    let rest : List ℕ = codes " HTTP/1.1\r\nHost: far:80\r\nConnection: close\r\n\r\n" in
    let fits : length (front ++ (id ++ rest)) ≤ 65536 =
    omega (arith, length-append front (id ++ rest), length-append id rest, long) in
    fits

-- a request to the far cache can be read
can_ask : (id : List ℕ) → length id ≡ 64 → CanAsk (codes "far") 80 id
unfolding mirror_question
can_ask id long = record {
  visible = ap (λ (t : List ℕ). list_all is_visible (codes "far" ++ (58 ∷ t))) port_text;
  limits = record {
    head = subst (λ (t : List ℕ). length (head_at id t) ≤ 65536) (sym port_text) (head_fits id long);
    body = omega arith;
  };
}

-- the far cache keeps its room
far_stays : (request : List ℕ) (heard : Result (List ℕ) AskFault) (old new : Far) → AsksFarOrNot request old new heard
    → new.cache.capacity ≡ old.cache.capacity
far_stays request heard old new (inr h) = ap (λ (f : Far). f.cache.capacity) h.1
far_stays request heard old new (inl h) = by h.due h.follows
  where
    routed : (o : Option (List ℕ)) (answer : Result Response want.Memory)
        → AnswersFor o answer old.cache new.cache → new.cache.capacity ≡ old.cache.capacity
    routed (Some id) answer a = a.looks.stays.capacity
    routed None answer a = ap (λ (c : Cache). c.capacity) a.1

    served : ServesOrNot request old.cache new.cache heard → new.cache.capacity ≡ old.cache.capacity
    served (inl s) = routed (id_asked s.asked) s.answer s.routes
    served (inr (inl s)) = ap (λ (c : Cache). c.capacity) s.1
    served (inr (inr s)) = ap (λ (c : Cache). c.capacity) s.1

    by : (due : Option Wait) → AfterWait due request old new heard → new.cache.capacity ≡ old.cache.capacity
    by (Some w) a = ap (λ (c : Cache). c.capacity) a.1
    by None a = served a.0

far_got : (U : Type 0) (A : Result (List ℕ) AskFault → Type 0) (request id : List ℕ) (old new : Far)
    → (U → new ≡ old) → ((heard : Result (List ℕ) AskFault) → A heard → AsksFarOrNot request old new heard)
    → (found : Result (Option (List ℕ)) MirrorError) (answer : Answer) (near later : Cache)
    → AfterNear U A id found answer near later → new.cache.capacity ≡ old.cache.capacity
far_got U A request id old new same asked (Ok (Some bytes)) answer near later h =
    ap (λ (f : Far). f.cache.capacity) (same h.2)
far_got U A request id old new same asked (Ok None) answer near later h =
    far_stays request h.heard old new (asked h.heard h.asks)
far_got U A request id old new same asked (Err e) answer near later h =
    ap (λ (f : Far). f.cache.capacity) (same h.2)

-- a folder in memory tells its files, and never fails
reliable : (a b : ArchiveStore ReliableFolder) → IsReliable (told_of reliable_held a) (told_of reliable_held b)
reliable a b = record { files = reliable_files a.folder; told = refl; never = λ rose. omega (arith, rose) }

-- the dialer of a mirror in memory
abbrev FarIn : Type 0
FarIn = FarParts (ArchiveStore ReliableFolder)

pub got : (asked : FarIn → Option (List Asked)) (faults : FarIn → ℕ) (id : List ℕ) (answer : Answer) (l : Said)
    (m n : InMemory) → length id ≡ 64
    → GetsBy reliable_held asked faults (FarAsks reliable_held) id answer m n
    → RulesBy reliable_held asked faults (FarAsks reliable_held) id answer m n
    → IsSaid answer l → Does (step.Get id) l m n
got asked faults id answer l m n long gets rules is_said rooms s at =
    let near : Cache = told_of reliable_held m.near in
    let later : Cache = told_of reliable_held n.near in
    let far : Far = far_of reliable_held m.dialer in
    let behind : Far = far_of reliable_held n.dialer in
    let some : answer ≢ Err mirror.Memory = λ e. subst (λ (a : Answer). IsSaid a l) e is_said in
    let same : sides_of near far ≡ s = λ i. record {
      near = at.near_lists i;
      far = at.far_lists i;
      waiting = at.waits i;
    } in
    let here : CanAsk m.host 80 id = subst (λ (h : List ℕ). CanAsk h 80 id) (sym at.host) (can_ask id long) in
    let can : CanAsk m.host m.port id = subst (λ (p : ℕ). CanAsk m.host p id) (sym at.port) here in
    let sound : IsSound m.host m.port id answer near later far behind = record {
      near_tells = reliable m.near n.near;
      far_tells = reliable m.dialer.cache n.dialer.cache;
      short = subst GoThrough (sym same) at.through;
      can = can;
      some = some;
    } in
    let routed : AnswersByRoute asked faults (FarAsks reliable_held) id m n far behind =
    far_routed reliable_held asked faults id m n in
    let f = rules far behind routed sound in
    let gives : Gives rooms.near id s answer =
    subst (λ (x : Sides). Gives rooms.near id x answer) same
    (subst (λ (c : ℕ). Gives c id (sides_of near far) answer) at.near_room f.gives) in
    let sides : sides_of later behind ≡ after_get rooms.near id s =
    f.sides ∙ ap (λ (c : ℕ). after_get c id (sides_of near far)) at.near_room ∙ ap (after_get rooms.near id) same in
    let stays = get_stays _ _ id answer near later gets.gets in
    let far_room : behind.cache.capacity ≡ far.cache.capacity =
    far_got _ _ (request_text (mirror_question m.host m.port id)) id far behind routed.unasked routed.heard
    (near_of gets.gets.found) answer gets.gets.between later gets.gets.follows in (
      (answer, gives, is_said),
      record {
        near_room = stays.capacity ∙ at.near_room;
        near_lists = ap (λ (x : Sides). x.near) sides;
        far_room = far_room ∙ at.far_room;
        far_lists = ap (λ (x : Sides). x.far) sides;
        waits = ap (λ (x : Sides). x.waiting) sides;
        through = through_near rooms.near id (lookup (bytes_eq id) s.near) s at.through;
        host = gets.host ∙ at.host;
        port = gets.port ∙ at.port;
      },
    )

pub got_ok : {E : Type 0} (r : Result Said E) (asked : FarIn → Option (List Asked)) (faults : FarIn → ℕ)
    (id : List ℕ) (answer : Answer) (m n : InMemory) → length id ≡ 64
    → GetsBy reliable_held asked faults (FarAsks reliable_held) id answer m n
    → RulesBy reliable_held asked faults (FarAsks reliable_held) id answer m n
    → IfOk r (λ l. IsSaid answer l) → IfOk r (λ l. Does (step.Get id) l m n)
got_ok (Ok l) asked faults id answer m n long gets rules is_said =
    got asked faults id answer l m n long gets rules is_said
got_ok (Err e) asked faults id answer m n long gets rules is_said = tt
