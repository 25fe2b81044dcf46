-- What a printed line says is its one text, and that text is read.
use Rattle.std.proofs.Common.{◌≡◌, ℕ, Bool, true, false, nat_eq, List, ◌∷◌, ◌++◌, Option, Some, codes, refl, sym}
use Rattle.std.proofs.Common.{ap, subst, ◌∙◌}
use Rattle.std.specs.Cmp.Lexicographic.{pointwise}
use Rattle.std.specs.List.{list_all}
use Rattle.dist_types.specs.Addr.{◌>>=◌}
use Rattle.dist_types.proofs.AddrLemmas.{bind_some}
use Rattle.core_rules.specs.declared.rows.ServerRow.{ServerRow}
use Rattle.farm_script.specs.Words.{first_word, is_visible}
use Rattle.farm_script.proofs.WordLemmas.{bind_is, visible_lacks, first_word_sound, first_word_complete}
use Rattle.run_lines.specs.Texts.{word_text, row_words, line_text}
use Rattle.run_lines.specs.Grammar.{RowFits, LineFits, IsRunLine}
use Rattle.run_lines.specs.Lines.{word_at, row_at, line_behind, run_line_at}
use Rattle.run_lines.specs.declared.line.RunLine.{RunLine}
use Rattle.run_lines.specs.declared.line.RunLine.TheVariants.{Run, Entry, Core, Step, Call, Reply, Word, Books, Ids}
use Rattle.run_lines.specs.declared.line.RunLine.TheVariants.{Server, Job, Held, Archive, End}
use Rattle.run_lines.proofs.FieldLemmas.{Exact, pre, at_word, then_word, this_value}
use Rattle.run_lines.proofs.EventLemmas.{word_law}
use Rattle.run_lines.proofs.LineChains.{run_sound, run_complete, entry_sound, entry_complete, core_line_sound}
use Rattle.run_lines.proofs.LineChains.{core_line_complete, step_line_sound, step_line_complete, call_sound}
use Rattle.run_lines.proofs.LineChains.{call_complete, reply_sound, reply_complete, ids_sound, ids_complete}
use Rattle.run_lines.proofs.LineChains.{row_sound, row_complete, job_line_sound, job_line_complete, held_sound}
use Rattle.run_lines.proofs.LineChains.{held_complete, archive_line_sound, archive_line_complete}

words_sound : (t : List ℕ) (k : RunLine) → (word_at t >>= λ x. Some (Word x)) ≡ Some k
    → Exact line_text LineFits (pre (codes "word ") t) k
words_sound t k e =
    let a = bind_some (word_at t) (λ x. Some (Word x)) k e in
    this_value line_text LineFits (pre (codes "word ") t) (Word a.0) k a.2
    (ap (pre (codes "word ")) (word_law.sound t a.0 a.1).0) tt

behind_sound : (w t : List ℕ) (k : RunLine) → line_behind w t ≡ Some k
    → Exact line_text LineFits (w ++ 32 ∷ t) k
behind_sound w t k e =
    then_word (codes "run") w _ _ k (Exact line_text LineFits (w ++ 32 ∷ t) k) e
    (λ is f. at_word line_text LineFits (codes "run ") (codes "run") w t k is refl (run_sound t k f))
    (λ e1. then_word (codes "entry") w _ _ k (Exact line_text LineFits (w ++ 32 ∷ t) k) e1
    (λ is f. at_word line_text LineFits (codes "entry ") (codes "entry") w t k is refl (entry_sound t k f))
    (λ e2. then_word (codes "core") w _ _ k (Exact line_text LineFits (w ++ 32 ∷ t) k) e2
    (λ is f. at_word line_text LineFits (codes "core ") (codes "core") w t k is refl (core_line_sound t k f))
    (λ e3. then_word (codes "step") w _ _ k (Exact line_text LineFits (w ++ 32 ∷ t) k) e3
    (λ is f. at_word line_text LineFits (codes "step ") (codes "step") w t k is refl (step_line_sound t k f))
    (λ e4. then_word (codes "call") w _ _ k (Exact line_text LineFits (w ++ 32 ∷ t) k) e4
    (λ is f. at_word line_text LineFits (codes "call ") (codes "call") w t k is refl (call_sound t k f))
    (λ ea. then_word (codes "reply") w _ _ k (Exact line_text LineFits (w ++ 32 ∷ t) k) ea
    (λ is f. at_word line_text LineFits (codes "reply ") (codes "reply") w t k is refl (reply_sound t k f))
    (λ eb. then_word (codes "word") w _ _ k (Exact line_text LineFits (w ++ 32 ∷ t) k) eb
    (λ is f. at_word line_text LineFits (codes "word ") (codes "word") w t k is refl (words_sound t k f))
    (λ e5. then_word (codes "ids") w _ _ k (Exact line_text LineFits (w ++ 32 ∷ t) k) e5
    (λ is f. at_word line_text LineFits (codes "ids ") (codes "ids") w t k is refl (ids_sound t k f))
    (λ e6. then_word (codes "server") w _ _ k (Exact line_text LineFits (w ++ 32 ∷ t) k) e6
    (λ is f. at_word line_text LineFits (codes "server ") (codes "server") w t k is refl (row_sound t k f))
    (λ e7. then_word (codes "job") w _ _ k (Exact line_text LineFits (w ++ 32 ∷ t) k) e7
    (λ is f. at_word line_text LineFits (codes "job ") (codes "job") w t k is refl (job_line_sound t k f))
    (λ e8. then_word (codes "held") w _ _ k (Exact line_text LineFits (w ++ 32 ∷ t) k) e8
    (λ is f. at_word line_text LineFits (codes "held ") (codes "held") w t k is refl (held_sound t k f))
    (λ e9. then_word (codes "archive") w _ _ k (Exact line_text LineFits (w ++ 32 ∷ t) k) e9
    (λ is f. at_word line_text LineFits (codes "archive ") (codes "archive") w t k is refl (archive_line_sound t k f))
    (λ ec. absurd cc))))))))))))

pub run_line_sound : (t : List ℕ) (k : RunLine) → run_line_at t ≡ Some k → IsRunLine t k
unfolding run_line_at
run_line_sound t k e = then_word (codes "books") t _ _ k (IsRunLine t k) e
    (λ is f. this_value line_text LineFits t Books k f is tt)
    (λ e2. then_word (codes "end") t _ _ k (IsRunLine t k) e2
    (λ is f. this_value line_text LineFits t End k f is tt)
    (λ e3.
    let a = bind_some (first_word t) (λ w. line_behind w.0 w.1) k e3 in
    subst (λ (x : List ℕ). IsRunLine x k) (sym (first_word_sound t a.0.0 a.0.1 a.1))
    (behind_sound a.0.0 a.0.1 k a.2)))

-- a line is read by its word
by_word : (word r t : List ℕ) (k : Option RunLine) → list_all is_visible word ≡ true
    → t ≡ word ++ 32 ∷ r → pointwise nat_eq (word ++ 32 ∷ r) (codes "books") ≡ false
    → pointwise nat_eq (word ++ 32 ∷ r) (codes "end") ≡ false → line_behind word r ≡ k → run_line_at t ≡ k
unfolding run_line_at
by_word word r t k visible spelled no_books no_end h = ap run_line_at spelled
    ∙ rw (no_books, no_end) (bind_is (first_word (word ++ 32 ∷ r)) (λ w. line_behind w.0 w.1) (word, r) k
    (first_word_complete word r (visible_lacks word visible)) h)

books_complete : (t : List ℕ) → t ≡ codes "books" → run_line_at t ≡ Some Books
unfolding run_line_at
books_complete t is = ap run_line_at is

end_complete : (t : List ℕ) → t ≡ codes "end" → run_line_at t ≡ Some End
unfolding run_line_at
end_complete t is = ap run_line_at is

-- a registration that does not drain is what its fields say
server_complete : (row : ServerRow) → RowFits row → row_at (row_words row) ≡ Some (Server row)
server_complete row fits =
    row_complete row.server row.reg row.cpus row.nonce row.seen row.load row.error
    (fits.0, fits.1, fits.2, fits.3, fits.4, fits.5, fits.6, refl)
    ∙ ap (λ (b : Bool). Some (Server (record {
      reg = row.reg;
      server = row.server;
      cpus = row.cpus;
      nonce = row.nonce;
      seen = row.seen;
      load = row.load;
      error = row.error;
      draining = b;
    }))) (sym fits.7)

pub run_line_complete : (t : List ℕ) (k : RunLine) → IsRunLine t k → run_line_at t ≡ Some k
run_line_complete t (Run version entries) is = by_word (codes "run") _ t _ refl is.0 refl refl
    (run_complete version entries is.1)
run_line_complete t (Entry number e) is = by_word (codes "entry") _ t _ refl is.0 refl refl
    (entry_complete number e is.1)
run_line_complete t (Core number kind) is = by_word (codes "core") _ t _ refl is.0 refl refl
    (core_line_complete number kind is.1)
run_line_complete t (Step server kind) is = by_word (codes "step") _ t _ refl is.0 refl refl
    (step_line_complete server kind is.1)
run_line_complete t (Call target bytes) is = by_word (codes "call") _ t _ refl is.0 refl refl
    (call_complete target bytes is.1)
run_line_complete t (Reply to bytes) is = by_word (codes "reply") _ t _ refl is.0 refl refl
    (reply_complete to bytes is.1)
run_line_complete t (Word w) is = by_word (codes "word") _ t _ refl is.0 refl refl
    (bind_is (word_at (word_text w)) (λ x. Some (Word x)) w (Some (Word w)) (word_law.complete (word_text w) w (refl, tt))
    refl)
run_line_complete t Books is = books_complete t is.0
run_line_complete t (Ids base count) is = by_word (codes "ids") _ t _ refl is.0 refl refl
    (ids_complete base count is.1)
run_line_complete t (Server row) is = by_word (codes "server") _ t _ refl is.0 refl refl
    (server_complete row is.1)
run_line_complete t (Job job reg state claimed) is = by_word (codes "job") _ t _ refl is.0 refl refl
    (job_line_complete job reg state claimed is.1)
run_line_complete t (Held server job tc) is = by_word (codes "held") _ t _ refl is.0 refl refl
    (held_complete server job tc is.1)
run_line_complete t (Archive server tc size) is = by_word (codes "archive") _ t _ refl is.0 refl refl
    (archive_line_complete server tc size is.1)
run_line_complete t End is = end_complete t is.0
