-- Two runs that meet the same: what is taken out, built and told.
use Rattle.std.proofs.Common.{◌≡◌, ◌≢◌, ◌<◌, ℕ, Bool, true, false, true≢false, List, [], ◌∷◌, ◌++◌, drop}
use Rattle.std.proofs.Common.{length, map, append_assoc, append-nil, Option, Some, None, Result, Ok, Err, refl}
use Rattle.std.proofs.Common.{sym, ap, subst, ◌∙◌, inl, inr, arith}
use Rattle.std.specs.Prelude.{IfSome}
use Rattle.std.specs.Option.{option_map}
use Rattle.dist_types.specs.Builder.{Built, built_row}
use Rattle.dist_types.specs.Content.{Recorded}
use Rattle.dist_types.specs.Outgoing.{Peer, Updated, updated_row}
use Rattle.dist_types.specs.declared.builder.BuildFault.{BuildFault}
use Rattle.dist_types.specs.declared.builder.BuildFault.TheVariants as build
use Rattle.dist_types.specs.declared.dialer.Asked.{Asked}
use Rattle.dist_types.specs.declared.fault.Memory as want
use Rattle.dist_types.specs.declared.ids.JobId.{JobId}
use Rattle.dist_types.specs.declared.outgoing.CallFault.TheVariants as call
use Rattle.dist_types.specs.declared.results.BuildResult.{BuildResult}
use Rattle.dist_types.specs.declared.results.JobState.{JobState}
use Rattle.dist_types.specs.declared.results.JobState.TheVariants.{Started, Complete}
use Rattle.dist_types.specs.declared.results.RunJobResult.{RunJobResult}
use Rattle.dist_wire.specs.Reading.{update_at}
use Rattle.sha2.specs.Sha256.{sha256}
use Rattle.folders.specs.Files.{Files}
use Rattle.folders.specs.Held.{Held}
use Rattle.toolchain_cache.specs.Archives.{Archives, id_of}
use Rattle.build_server.specs.Books.{Books, held_for, Fails}
use Rattle.build_server.specs.Builds.{Order, Builder, Builds, BuildsIn, row_for, outcome_of, ended}
use Rattle.build_server.specs.Rows.{Reports, IsReported, Follows, Proceeds, Running, IsRunOn}
use Rattle.build_server.specs.Rules.{Update, fault_of, Begins, TellsUpdate, Turns, Finds, IsTaken}
use Rattle.build_server.specs.Rules.{archives_after_taking}
use Rattle.build_server.specs.declared.fault.ServerFault.{ServerFault}
use Rattle.build_server.specs.declared.fault.ServerFault.TheVariants as fault
use Rattle.build_server.specs.declared.run.Outcome.{Outcome}
use Rattle.build_server.specs.declared.run.Outcome.TheVariants as outcome
use Rattle.build_server.specs.declared.run.Taken.{Taken}
use Rattle.build_server.specs.declared.run.Taken.TheVariants as taken
use Rattle.http_connections.specs.Alike.{AnsweredAlike, HearAlike, GrowAlike}
use Rattle.http_connections.specs.Hearing.{Hears}
use Rattle.http_connections.proofs.AlikeLemmas.{some_same, drop_front, head_same, hears_once}
use Rattle.server_service.specs.OneAnswer.{KeptAlike, KeepAlike}
use Rattle.server_service.specs.Told.{IsToldOf}
use Rattle.server_service.proofs.DigestLemmas.{same_digest}

-- ---- books

-- what was kept changed by this
pub turned_by : (part : Books → Books → Type 0) (kept turned : Option Books) (books later : Books)
    → kept ≡ Some books → turned ≡ Some later → Turns part kept turned → part books later
turned_by part kept turned books later is is_too turns =
    let x = subst (λ o. Turns part o turned) is turns in
    subst (part books) (some_same x.0 later (sym x.1 ∙ is_too)) x.2

pub stayed : (kept turned : Option Books) (books later : Books) → kept ≡ Some books → turned ≡ Some later
    → turned ≡ kept → later ≡ books
stayed kept turned books later is is_too same = some_same later books (sym is_too ∙ (same ∙ is))

pub keep_same : (old new before after : Option Books) (k : KeptAlike old new before after) → k.turned ≡ k.other
    → KeepAlike old new after
keep_same old new before after k same = record {
  books = k.books;
  turned = k.turned;
  other = k.other;
  old_is = k.old_is;
  new_is = k.new_is;
  after_is = k.after_is;
  held = ap (λ (b : Books). b.held) same;
  capacity = ap (λ (b : Books). b.capacity) same;
  path = ap (λ (b : Books). b.path) same;
  archives = λ e. ap (λ (b : Books). b.archives) same;
}

pub keep_stayed : (old new before after : Option Books) (k : KeptAlike old new before after) → new ≡ old
    → after ≡ before → KeepAlike old new after
keep_stayed old new before after k a b = keep_same old new before after k
    (stayed old new k.books k.turned k.old_is k.new_is a
    ∙ sym (stayed before after k.books k.other k.before_is k.after_is b))

-- a folder that tells its files and failed has another count
pub failed_rose : (before a : Held) (files : Files) → before.files ≡ Some files
    → before.faults < 18446744073709551615 → Fails before a → a.faults ≢ before.faults
failed_rose before a files told below (inl rose) = λ is. omega (arith, rose, below, is)
failed_rose before a files told below (inr none) =
    let is : ◌≡◌ {A = Option Files} None (Some files) = sym none ∙ told in absurd (cc is)

-- ---- rows

none_more : {Row : Type 0} (rows : Option (List Row)) → rows ≡ option_map (λ (l : List Row). l ++ []) rows
none_more None = refl
none_more (Some l) = ap (λ x. Some x) (sym (append-nil l))

pub grow_none : {Row : Type 0} (old new before after : Option (List Row)) → new ≡ old → after ≡ before
    → GrowAlike old new before after
grow_none old new before after a b = ([], a ∙ none_more old, b ∙ none_more before)

pub grow_some : {Row : Type 0} (old new before after : Option (List Row)) (first other more : List Row)
    → old ≡ Some first → new ≡ Some (first ++ more) → before ≡ Some other → after ≡ Some (other ++ more)
    → GrowAlike old new before after
grow_some {Row} old new before after first other more old_is new_is before_is after_is = (
  more,
  new_is ∙ sym (ap (option_map (λ (l : List Row). l ++ more)) old_is),
  after_is ∙ sym (ap (option_map (λ (l : List Row). l ++ more)) before_is),
)

recorded_some : {Row : Type 0} (row : Row) (old new : Option (List Row)) (first : List Row)
    → Recorded row old new → old ≡ Some first → new ≡ Some (first ++ row ∷ [])
recorded_some {Row} row old new first more is = more ∙ ap (option_map (λ (l : List Row). l ++ row ∷ [])) is

-- the answers of the new rows
pub same_first : {Row Answer : Type 0} (answer : Row → Answer) (old new before after : Option (List Row))
    (h : AnsweredAlike answer old new before after) (more others : List Row)
    → new ≡ Some (h.first ++ more) → after ≡ Some (h.other ++ others) → map answer more ≡ map answer others
same_first {Row} answer old new before after h more others is is_too =
    let last = some_same h.last (h.first ++ more) (sym h.new_is ∙ is) in
    let since = some_same h.since (h.other ++ others) (sym h.after_is ∙ is_too) in
    let mine = ap (λ (l : List Row). map answer (drop (length h.first) l)) last
    ∙ ap (map answer) (drop_front h.first more) in
    let theirs = ap (λ (l : List Row). map answer (drop (length h.other) l)) since
    ∙ ap (map answer) (drop_front h.other others) in
    sym mine ∙ (h.heard ∙ theirs)

-- the one row of the lent dialer that tells a report
pub told_row : (peer : Peer) (job : JobId) (state : JobState) (heard : Update) (old new : Reports)
    (rows : List Asked) → IsReported IsToldOf job state heard old new → heard ≢ Err call.Memory
    → old.lent.peer ≡ peer → old.lent.asked ≡ Some rows
    → (a : Asked) × (new.lent.asked ≡ Some (rows ++ a ∷ []))
    × IsToldOf peer (updated_row job.0 state heard) a × (new.lent.peer ≡ peer)
told_row peer job state heard old new rows reported some is is_rows =
    let sent = reported.lent.sent some in
    let one = subst (λ o. IfSome o (λ l. (a : Asked) × (new.lent.asked ≡ Some (l ++ a ∷ []))
    × IsToldOf old.lent.peer (updated_row job.0 state heard) a)) is_rows sent.one in (
      one.0,
      one.1,
      subst (λ p. IsToldOf p (updated_row job.0 state heard) one.0) is one.2,
      sent.same_peer ∙ is,
    )

pub same_row : (peer : Peer) (row : Updated) (a b : Asked) → IsToldOf peer row a → IsToldOf peer row b
    → a.answer ≡ b.answer → a ≡ b
same_row peer row a b p q is =
    let host : a.host ≡ b.host = p.host ∙ sym q.host in
    let port : a.port ≡ b.port = p.port ∙ sym q.port in
    let request : a.request ≡ b.request = p.request ∙ sym q.request in
    λ i. record { host = host i; port = port i; request = request i; answer = is i }

pub same_heard : (peer : Peer) (job : JobId) (state : JobState) (h k : Update) (a b : Asked)
    → h ≢ Err call.Memory → k ≢ Err call.Memory
    → IsToldOf peer (updated_row job.0 state h) a → IsToldOf peer (updated_row job.0 state k) b
    → a.answer ≡ b.answer → h ≡ k
same_heard peer job state h k a b some too p q is =
    hears_once update_at a.answer h k some too p.answer (subst (λ v. Hears update_at v k) (sym is) q.answer)

-- one row more, and what it says
pub same_report : (peer : Peer) (job : JobId) (state : JobState) (h k : Update) (a b : Asked)
    → h ≢ Err call.Memory → k ≢ Err call.Memory
    → IsToldOf peer (updated_row job.0 state h) a → IsToldOf peer (updated_row job.0 state k) b
    → a.answer ≡ b.answer → (h ≡ k) × (a ≡ b)
same_report peer job state h k a b some too p q is =
    let heard = same_heard peer job state h k a b some too p q is in (
      heard,
      same_row peer (updated_row job.0 state h) a b p
          (subst (λ u. IsToldOf peer (updated_row job.0 state u) b) (sym heard) q) is,
    )

-- ---- what is taken out

-- two takings out of one toolchain, whose archives have one id
abbrev SameTaken : Taken → Taken → Type 0
SameTaken taken.None taken.None = Unit {0}
SameTaken (taken.Unlisted t) (taken.Unlisted u) = t ≡ u
SameTaken (taken.Folder t) (taken.Folder u) = t ≡ u
SameTaken (taken.Read t x) (taken.Read u y) = (t ≡ u) × (id_of x ≡ id_of y)
SameTaken a b = ⊥

listed_not : (x : Bool) → x ≡ false → x ≡ true → ⊥
listed_not x off on = true≢false (sym on ∙ off)

taken_once : (found : Option (List ℕ)) (books a b : Books) (files : Files) → books.folder.files ≡ Some files
    → books.folder.faults < 18446744073709551615 → a.folder.faults ≡ b.folder.faults
    → (p q : Taken) → Finds found books a p → Finds found books b q → SameTaken p q
taken_once None books a b files told below same taken.None taken.None x y = tt
taken_once None books a b files told below same taken.None q x y = absurd y
taken_once None books a b files told below same p q x y = absurd x
taken_once (Some held) books a b files told below same (taken.Unlisted t) (taken.Unlisted u) x y = x.0 ∙ sym y.0
taken_once (Some held) books a b files told below same (taken.Folder t) (taken.Folder u) x y = x.0 ∙ sym y.0
taken_once (Some held) books a b files told below same (taken.Read t v) (taken.Read u w) x y =
    (x.0 ∙ sym y.0, x.2 files told ∙ sym (y.2 files told))
taken_once (Some held) books a b files told below same (taken.Unlisted t) (taken.Folder u) x y =
    absurd (listed_not _ x.1 y.1)
taken_once (Some held) books a b files told below same (taken.Unlisted t) (taken.Read u w) x y =
    absurd (listed_not _ x.1 y.1)
taken_once (Some held) books a b files told below same (taken.Folder t) (taken.Unlisted u) x y =
    absurd (listed_not _ y.1 x.1)
taken_once (Some held) books a b files told below same (taken.Read t v) (taken.Unlisted u) x y =
    absurd (listed_not _ y.1 x.1)
taken_once (Some held) books a b files told below same (taken.Folder t) (taken.Read u w) x y =
    absurd (failed_rose books.folder a.folder files told below x.2 (same ∙ y.3))
taken_once (Some held) books a b files told below same (taken.Read t v) (taken.Folder u) x y =
    absurd (failed_rose books.folder b.folder files told below y.2 (sym same ∙ x.3))
taken_once (Some held) books a b files told below same taken.None q x y = absurd x
taken_once (Some held) books a b files told below same p taken.None x y = absurd y

archives_once : (p q : Taken) (archives : Archives) → SameTaken p q
    → archives_after_taking p archives ≡ archives_after_taking q archives
archives_once taken.None taken.None archives same = refl
archives_once (taken.Unlisted t) (taken.Unlisted u) archives same = refl
archives_once (taken.Folder t) (taken.Folder u) archives same =
    ap (λ w. archives_after_taking (taken.Folder w) archives) same
archives_once (taken.Read t x) (taken.Read u y) archives same =
    ap (λ w. archives_after_taking (taken.Folder w) archives) same.0
archives_once p q archives off = absurd off

-- ---- what is built

abbrev IsOutcome : Outcome → Outcome → Type 0
IsOutcome a b = ◌≡◌ {A = Result Outcome (Taken × want.Memory)} (Ok a) (Ok b)

ok_same : (a b : Outcome) → IsOutcome a b → a ≡ b
ok_same a b is = cc is

outcome_once : (t u x y : List ℕ) (heard : Result BuildResult BuildFault) (a b : Outcome) → t ≡ u
    → Ok a ≡ outcome_of t x heard → Ok b ≡ outcome_of u y heard → a ≡ b
outcome_once t u x y (Ok built) a b same p q =
    ok_same a (outcome.Built t built) p
    ∙ (ap (λ w. outcome.Built w built) same ∙ sym (ok_same b (outcome.Built u built) q))
outcome_once t u x y (Err build.Refused) a b same p q =
    ok_same a (outcome.Refused t) p ∙ (ap (λ w. outcome.Refused w) same ∙ sym (ok_same b (outcome.Refused u) q))
outcome_once t u x y (Err build.Memory) a b same p q = absurd (cc p)

heard_some : (t x : List ℕ) (heard : Result BuildResult BuildFault) (a : Outcome)
    → Ok a ≡ outcome_of t x heard → heard ≢ Err build.Memory
heard_some t x heard a p = λ is.
    let off : ◌≡◌ {A = Result Outcome (Taken × want.Memory)} (Ok a) (outcome_of t x (Err build.Memory)) =
    p ∙ ap (outcome_of t x) is in
    absurd (cc off)

built_in : (order : Order) (old new before after : Builder)
    → AnsweredAlike (λ (b : Built). b.answer) old.rows new.rows before.rows after.rows
    → (t u x y : List ℕ) (a b : Outcome) → t ≡ u → id_of x ≡ id_of y
    → BuildsIn t x order old new (Ok a) → BuildsIn u y order before after (Ok b)
    → (a ≡ b) × GrowAlike old.rows new.rows before.rows after.rows
built_in order old new before after h t u x y a b same ids p q =
    let row = row_for t x order p.heard in
    let too = row_for u y order q.heard in
    let mine = recorded_some row old.rows new.rows h.first (p.built.row (heard_some t x p.heard a p.gives)) h.old_is in
    let theirs = recorded_some too before.rows after.rows h.other
    (q.built.row (heard_some u y q.heard b q.gives)) h.before_is in
    let heard : p.heard ≡ q.heard = head_same p.heard q.heard [] []
    (same_first (λ (b : Built). b.answer) old.rows new.rows before.rows after.rows h (row ∷ []) (too ∷ []) mine
    theirs) in
    let digest : sha256 x ≡ sha256 y = same_digest x y ids in
    let rows : row ≡ too =
    λ i. built_row (same i) (digest i) order.command order.outputs order.inputs (heard i) in (
      outcome_once t u x y p.heard a b same p.gives
          (subst (λ v. Ok b ≡ outcome_of u y v) (sym heard) q.gives),
      grow_some old.rows new.rows before.rows after.rows h.first h.other (row ∷ []) h.old_is mine h.before_is
          (theirs ∙ ap (λ (r : Built). Some (h.other ++ r ∷ [])) (sym rows)),
    )

unbuilt : (old new before after : Builder) (a b c : Outcome) → new ≡ old → after ≡ before
    → IsOutcome a c → IsOutcome b c
    → (a ≡ b) × GrowAlike old.rows new.rows before.rows after.rows
unbuilt old new before after a b c stays stays_too p q = (
  ok_same a c p ∙ sym (ok_same b c q),
  grow_none old.rows new.rows before.rows after.rows (ap (λ (x : Builder). x.rows) stays)
      (ap (λ (x : Builder). x.rows) stays_too),
)

built_once : (order : Order) (old new before after : Builder)
    → AnsweredAlike (λ (b : Built). b.answer) old.rows new.rows before.rows after.rows
    → (p q : Taken) (a b : Outcome) → SameTaken p q
    → Builds p order old new (Ok a) → Builds q order before after (Ok b)
    → (a ≡ b) × GrowAlike old.rows new.rows before.rows after.rows
built_once order old new before after h taken.None taken.None a b same x y =
    unbuilt old new before after a b outcome.None x.0 y.0 x.1 y.1
built_once order old new before after h (taken.Unlisted t) (taken.Unlisted u) a b same x y =
    unbuilt old new before after a b (outcome.Unlisted t) x.0 y.0 x.1
    (subst (λ w. IsOutcome b (outcome.Unlisted w)) (sym same) y.1)
built_once order old new before after h (taken.Folder t) (taken.Folder u) a b same x y =
    unbuilt old new before after a b (outcome.Folder t) x.0 y.0 x.1
    (subst (λ w. IsOutcome b (outcome.Folder w)) (sym same) y.1)
built_once order old new before after h (taken.Read t v) (taken.Read u w) a b same x y =
    built_in order old new before after h t u v w a b same.0 same.1 x y
built_once order old new before after h p q a b off x y = absurd off

-- ---- the course of a run

-- a run whose Started was accepted, and which has its end
pub record Ends (peer : Peer) (job : JobId) (order : Order) (books later : Books) (builder built : Builder)
    (more : List Asked) (answer : Result RunJobResult ServerFault) : Type 0 where
  pub taken : Taken
  pub is_taken : IsTaken job books later taken
  pub outcome : Outcome
  pub builds : Builds taken order builder built (Ok outcome)
  pub complete : Update
  pub some : complete ≢ Err call.Memory
  pub row : Asked
  pub told : IsToldOf peer (updated_row job.0 Complete complete) row
  pub one : more ≡ row ∷ []
  pub gives : answer ≡ ended outcome complete

-- how it goes on, by what was answered to Started
abbrev pub Goes : Peer → JobId → Order → Books → Books → Builder → Builder → List Asked
    → Result RunJobResult ServerFault → Update → Type 0
Goes peer job order books later builder built more answer (Ok x) =
    Ends peer job order books later builder built more answer
Goes peer job order books later builder built more answer (Err e) =
    (more ≡ []) × (answer ≡ Err (fault_of e)) × (later ≡ books) × (built ≡ builder)

-- a run that gives an answer to be told, with its rows
pub record Went (peer : Peer) (job : JobId) (order : Order) (books later : Books) (builder built : Builder)
    (rows : List Asked) (asked : Option (List Asked)) (answer : Result RunJobResult ServerFault) : Type 0 where
  pub started : Update
  pub some : started ≢ Err call.Memory
  pub row : Asked
  pub told : IsToldOf peer (updated_row job.0 Started started) row
  pub more : List Asked
  pub now : asked ≡ Some (rows ++ row ∷ more)
  pub goes : Goes peer job order books later builder built more answer started

-- what follows the taking out
abbrev GoesOn : Peer → JobId → Order → Books → Books → Builder → Builder → List Asked
    → Option (List Asked) → Result RunJobResult ServerFault → Update → Type 0
GoesOn peer job order books later builder built rows asked answer started =
    (more : List Asked) × (asked ≡ Some (rows ++ more))
    × Goes peer job order books later builder built more answer started

followed : (peer : Peer) (job : JobId) (order : Order) (books later : Books) (builder built : Builder)
    (rows : List Asked) (between after : Reports) (answer : Result RunJobResult ServerFault) (taken : Taken)
    (x : _) (went : Result Outcome (Taken × want.Memory))
    → answer ≢ Err fault.Memory → between.lent.peer ≡ peer → between.lent.asked ≡ Some rows
    → IsTaken job books later taken → Builds taken order builder built went
    → Follows IsToldOf job went between after answer
    → GoesOn peer job order books later builder built rows after.lent.asked answer (Ok x)
followed peer job order books later builder built rows between after answer taken x (Ok outcome) some is_peer
    is_rows is_taken builds follows =
    let heard : follows.complete ≢ Err call.Memory =
    λ is. some (follows.gives ∙ ap (ended outcome) is) in
    let one = told_row peer job Complete follows.complete between after rows follows.reported heard is_peer
    is_rows in (
      one.0 ∷ [],
      one.1,
      record {
        taken = taken;
        is_taken = is_taken;
        outcome = outcome;
        builds = builds;
        complete = follows.complete;
        some = heard;
        row = one.0;
        told = one.2;
        one = refl;
        gives = follows.gives;
      },
    )
followed peer job order books later builder built rows between after answer taken x (Err e) some is_peer is_rows
    is_taken builds follows = absurd (some follows.0)

proceeded : (peer : Peer) (job : JobId) (order : Order) (kept turned : Option Books) (books later : Books)
    (builder built : Builder) (rows : List Asked) (between after : Reports)
    (answer : Result RunJobResult ServerFault) (x : _) (begun : Result Taken ServerFault)
    → kept ≡ Some books → turned ≡ Some later → answer ≢ Err fault.Memory
    → between.lent.peer ≡ peer → between.lent.asked ≡ Some rows
    → Turns (λ old new. Begins job (Ok x) old new begun) kept turned → TellsUpdate (Ok x) begun
    → Proceeds IsToldOf job order begun between after builder built answer
    → GoesOn peer job order books later builder built rows after.lent.asked answer (Ok x)
proceeded peer job order kept turned books later builder built rows between after answer x (Ok taken) is is_too
    some is_peer is_rows turns tells works =
    followed peer job order books later builder built rows between after answer taken x works.went some is_peer
    is_rows (turned_by (λ old new. Begins job (Ok x) old new (Ok taken)) kept turned books later is is_too turns)
    works.builds works.follows
proceeded peer job order kept turned books later builder built rows between after answer x (Err e) is is_too some
    is_peer is_rows turns tells works =
    absurd (some (subst (λ f. answer ≡ Err f) tells works.0))

goes_on : (peer : Peer) (job : JobId) (order : Order) (kept turned : Option Books) (books later : Books)
    (builder built : Builder) (rows : List Asked) (between after : Reports)
    (answer : Result RunJobResult ServerFault) (started : Update)
    → kept ≡ Some books → turned ≡ Some later → answer ≢ Err fault.Memory
    → between.lent.peer ≡ peer → between.lent.asked ≡ Some rows
    → Running IsToldOf job order started kept turned between after builder built answer
    → GoesOn peer job order books later builder built rows after.lent.asked answer started
goes_on peer job order kept turned books later builder built rows between after answer (Ok x) is is_too some
    is_peer is_rows runs =
    proceeded peer job order kept turned books later builder built rows between after answer x runs.begun is
    is_too some is_peer is_rows runs.turns runs.tells runs.proceeds
goes_on peer job order kept turned books later builder built rows between after answer (Err e) is is_too some
    is_peer is_rows runs = (
      [],
      ap (λ (r : Reports). r.lent.asked) runs.2
          ∙ (is_rows ∙ ap (λ (l : List Asked). Some l) (sym (append-nil rows))),
      (refl, runs.0, stayed kept turned books later is is_too runs.1, runs.3),
    )

pub went : (peer : Peer) (job : JobId) (order : Order) (kept turned : Option Books) (books later : Books)
    (builder built : Builder) (rows : List Asked) (before after : Reports)
    (answer : Result RunJobResult ServerFault)
    → kept ≡ Some books → turned ≡ Some later → answer ≢ Err fault.Memory
    → before.lent.peer ≡ peer → before.lent.asked ≡ Some rows
    → IsRunOn IsToldOf job order kept turned before after builder built answer
    → Went peer job order books later builder built rows after.lent.asked answer
went peer job order kept turned books later builder built rows before after answer is is_too some is_peer is_rows
    ran =
    let heard : ran.started ≢ Err call.Memory = λ off. some (subst (λ u. Running IsToldOf job order u kept turned
    ran.between after builder built answer) off ran.running).0 in
    let one = told_row peer job Started ran.started before ran.between rows ran.reported heard is_peer is_rows in
    let on = goes_on peer job order kept turned books later builder built (rows ++ one.0 ∷ []) ran.between after
    answer ran.started is is_too some one.3 one.1 ran.running in
    record {
      started = ran.started;
      some = heard;
      row = one.0;
      told = one.2;
      more = on.0;
      now = on.1 ∙ ap (λ (l : List Asked). Some l) (append_assoc rows (one.0 ∷ []) on.0);
      goes = on.2;
    }

-- ---- two runs

-- what two runs have in common: the answer, what is kept, and the rows behind Started
abbrev SameCourse : (old new after : Option Books) → (builder built before done : Builder)
    → (more others : List Asked) → (answer other : Result RunJobResult ServerFault) → Type 0
SameCourse old new after builder built before done more others answer other =
    (answer ≡ other) × (more ≡ others) × KeepAlike old new after
    × GrowAlike builder.rows built.rows before.rows done.rows

same_ends : (peer : Peer) (job : JobId) (order : Order) (old new before after : Option Books)
    (k : KeptAlike old new before after) (builder built other done : Builder)
    → AnsweredAlike (λ (b : Built). b.answer) builder.rows built.rows other.rows done.rows
    → (more others : List Asked) (x y : Result RunJobResult ServerFault)
    → map (λ (a : Asked). a.answer) more ≡ map (λ (a : Asked). a.answer) others
    → Ends peer job order k.books k.turned builder built more x
    → Ends peer job order k.books k.other other done others y
    → SameCourse old new after builder built other done more others x y
same_ends peer job order old new before after k builder built other done h more others x y answers a b =
    let same = taken_once (held_for job k.books.held) k.books k.turned k.other k.files k.told k.counts k.failed
    a.taken b.taken a.is_taken.finds b.is_taken.finds in
    let builds = built_once order builder built other done h a.taken b.taken a.outcome b.outcome same a.builds
    b.builds in
    let rows = ap (map (λ (r : Asked). r.answer)) (sym a.one)
    ∙ (answers ∙ ap (map (λ (r : Asked). r.answer)) b.one) in
    let report = same_report peer job Complete a.complete b.complete a.row b.row a.some b.some a.told b.told
    (head_same a.row.answer b.row.answer [] [] rows) in
    let tells : ended a.outcome a.complete ≡ ended b.outcome b.complete =
    λ i. ended (builds.0 i) (report.0 i) in (
      a.gives ∙ (tells ∙ sym b.gives),
      a.one ∙ (ap (λ (r : Asked). r ∷ []) report.1 ∙ sym b.one),
      record {
        books = k.books;
        turned = k.turned;
        other = k.other;
        old_is = k.old_is;
        new_is = k.new_is;
        after_is = k.after_is;
        held = a.is_taken.held ∙ sym b.is_taken.held;
        capacity = a.is_taken.place.capacity ∙ sym b.is_taken.place.capacity;
        path = a.is_taken.place.path ∙ sym b.is_taken.place.path;
        archives = λ e. a.is_taken.archives
            ∙ (archives_once a.taken b.taken k.books.archives same ∙ sym b.is_taken.archives);
      },
      builds.1,
    )

same_goes : (peer : Peer) (job : JobId) (order : Order) (old new before after : Option Books)
    (k : KeptAlike old new before after) (builder built other done : Builder)
    → AnsweredAlike (λ (b : Built). b.answer) builder.rows built.rows other.rows done.rows
    → (more others : List Asked) (x y : Result RunJobResult ServerFault) (started : Update)
    → map (λ (a : Asked). a.answer) more ≡ map (λ (a : Asked). a.answer) others
    → Goes peer job order k.books k.turned builder built more x started
    → Goes peer job order k.books k.other other done others y started
    → SameCourse old new after builder built other done more others x y
same_goes peer job order old new before after k builder built other done h more others x y (Ok u) answers a b =
    same_ends peer job order old new before after k builder built other done h more others x y answers a b
same_goes peer job order old new before after k builder built other done h more others x y (Err e) answers a b = (
  a.1 ∙ sym b.1,
  a.0 ∙ sym b.0,
  keep_same old new before after k (a.2 ∙ sym b.2),
  grow_none builder.rows built.rows other.rows done.rows (ap (λ (w : Builder). w.rows) a.3)
      (ap (λ (w : Builder). w.rows) b.3),
)

tail_same : {X : Type 0} (x y : X) (xs ys : List X) → x ∷ xs ≡ y ∷ ys → xs ≡ ys
tail_same x y xs ys is = cc is

pub same_went : (peer : Peer) (job : JobId) (order : Order) (old new before after : Option Books)
    (k : KeptAlike old new before after) (builder built other done : Builder)
    → AnsweredAlike (λ (b : Built). b.answer) builder.rows built.rows other.rows done.rows
    → (first last theirs since : Option (List Asked)) (h : HearAlike first last theirs since)
    → (x y : Result RunJobResult ServerFault)
    → Went peer job order k.books k.turned builder built h.first last x
    → Went peer job order k.books k.other other done h.other since y
    → (x ≡ y) × KeepAlike old new after × GrowAlike first last theirs since
    × GrowAlike builder.rows built.rows other.rows done.rows
same_went peer job order old new before after k builder built other done r first last theirs since h x y a b =
    let answers = same_first (λ (q : Asked). q.answer) first last theirs since h (a.row ∷ a.more)
    (b.row ∷ b.more) a.now b.now in
    let report = same_report peer job Started a.started b.started a.row b.row a.some b.some a.told b.told
    (head_same _ _ _ _ answers) in
    let course = same_goes peer job order old new before after k builder built other done r a.more b.more x y
    a.started (tail_same _ _ _ _ answers) a.goes
    (subst (λ u. Goes peer job order k.books k.other other done b.more y u) (sym report.0) b.goes) in
    let rows : a.row ∷ a.more ≡ b.row ∷ b.more = λ i. report.1 i ∷ course.1 i in (
      course.0,
      course.2,
      grow_some first last theirs since h.first h.other (a.row ∷ a.more) h.old_is a.now h.before_is
          (b.now ∙ ap (λ (l : List Asked). Some (h.other ++ l)) (sym rows)),
      course.3,
    )
