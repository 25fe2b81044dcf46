use Rattle.std.proofs.Common.{◌≡◌, [], ◌∷◌, ◌++◌, ◌+◌, length, refl, ap, ◌∙◌, sym, subst}
use Rattle.std.proofs.Common.{arith, length-append}
use Rattle.sched_core.specs.Books.{AreBooks, key_by, kept_by, with_key, lists_next}
use Rattle.sched_core.proofs.KeyLemmas.{keys_next}
use Rattle.core_rules.specs.Next.{job_by}
use Rattle.sched_core.specs.Books.{rows_next, unspent_next}
use Rattle.sched_core.specs.Registrations.{AreSoundRows}
use Rattle.reservations.specs.Booked.{unspent_view}
use Rattle.core_rules.proofs.LegalLemmas.{legal-push}
use Rattle.sched_core.proofs.BookedLemmas.{unspent_after}
use Rattle.sched_core.proofs.BookLemmas.{absorbed, next_follows, reaped_apart}
use Rattle.sched_core.proofs.ChangeLemmas.{sound_rows}
use Rattle.sched_core.proofs.KeyLemmas.{key_registers}
use Rattle.sched_core.proofs.MostLemmas.{most_grows}
use Rattle.sched_core.proofs.state.take.Goals as goal

pub absorb-requires-clause-sound : goal.absorb-requires-clause-sound
absorb-requires-clause-sound g c =
    let a = c.args in
    let log = a.journal.now.log.items in
    let lists = a.journal.now.books.lists in
    let number : c.len.result ≡ length log = c.len.ensures in
    let books : AreBooks (lists_next lists a.step (length log))
    (keys_next a.step (length log) (kept_by g.A.JobAuthorizer.key_of a.journal.now.keys.entries))
    (log ++ a.step ∷ []) =
    absorbed a.start lists _ _ log a.step c.requires.state.fits
    c.requires.state.books c.requires.state.legal c.requires.rule refl in
    subst (λ n. AreSoundRows (rows_next lists a.step n)) (sym number)
    (subst AreSoundRows (sym books.rows) (sound_rows a.start (log ++ a.step ∷ []) c.requires.state.fits
    (legal-push a.start [] log a.step c.requires.state.legal c.requires.rule)))

pub absorb-requires-clause-above : goal.absorb-requires-clause-above
absorb-requires-clause-above g c =
    let log = c.args.journal.now.log in
    let number : c.len.result ≡ length log.items = c.len.ensures in
    let top = c.requires.state.top in
    omega (arith, number, top)

pub absorb-requires-clause-apart : goal.absorb-requires-clause-apart
absorb-requires-clause-apart g c =
    let a = c.args in
    reaped_apart (record { start = a.start; log = a.journal.now.log.items }) a.step
    a.journal.now.books.lists.booked c.requires.state.books.apart c.requires.state.books.held c.requires.rule

pub absorb-requires-clause-follows : goal.absorb-requires-clause-follows
absorb-requires-clause-follows g c =
    let a = c.args in
    next_follows a.start a.journal.now.books.first a.journal.now.books.lists _
    a.journal.now.log.items a.step c.len.result c.requires.state.books c.requires.rule c.requires.state.first

pub put_key-requires-clause-room : goal.put_key-requires-clause-room
put_key-requires-clause-room g c κs within = rw c.requires.key (λ some.
    let room = c.requires.keys_room
    (key_registers c.args.step.kind (length c.args.journal.now.log.items) some) in
    let more = c.end_keys.ensures.spare in
    omega (arith, room, more))

pub returns-clause-state : goal.returns-clause-state
returns-clause-state g c =
    let a = c.args in
    let log = a.journal.now.log.items in
    let number : c.len.result ≡ length log = c.len.ensures in
    let does : c.absorb.new.self.lists ≡ lists_next a.journal.now.books.lists a.step (length log) =
    c.absorb.ensures.lists ∙ ap (lists_next a.journal.now.books.lists a.step) number in
    let made = job_by a.step.kind a.journal.now.books.lists.rows (length log) a.step.now in
    let spent : length (unspent_view c.absorb.new.self.lists.booked) ≡ length
    (unspent_next a.journal.now.books.lists a.step (length log)) =
    ap (λ l. length (unspent_view l.booked)) does
    ∙ ap length (unspent_after a.step a.journal.now.books.lists.booked made) in
    let len = c.push.ensures.len in
    let capacity = c.push.ensures.capacity in
    let log_room = c.requires.log_room in
    let longer : length (log ++ a.step ∷ []) ≡ length log + 1 = length-append log (a.step ∷ []) in
    let top = c.absorb.ensures.top in
    let places = c.absorb.ensures.places in
    let few = c.requires.state.places in
    let grown = most_grows log a.step in
    let keys : kept_by g.A.JobAuthorizer.key_of c.put_key.new.keys.entries
    ≡ keys_next a.step (length log) (kept_by g.A.JobAuthorizer.key_of a.journal.now.keys.entries) =
    c.put_key.ensures ∙ ap (λ k. with_key k (kept_by g.A.JobAuthorizer.key_of c.end_keys.new.keys.entries))
    c.requires.key
    ∙ ap (with_key (key_by a.step.kind (length log))) c.end_keys.ensures.keys in
    record {
      books = rw (c.push.ensures.items, does)
          (absorbed a.start a.journal.now.books.lists _ _ log a.step
          c.requires.state.fits c.requires.state.books c.requires.state.legal c.requires.rule keys);
      fits = c.requires.state.fits;
      legal = rw c.push.ensures.items
          (legal-push a.start [] log a.step c.requires.state.legal c.requires.rule);
      log_room = omega (arith, spent, len, capacity, log_room);
      first = c.absorb.ensures.first ∙ c.requires.state.first;
      top = rw c.push.ensures.items (omega (arith, longer, number, top));
      places = rw c.push.ensures.items (omega (arith, places, few, grown));
    }
