use Rattle.std.proofs.Common.{◌≡◌, ◌++◌, map}
use Rattle.audit.specs.Books.{job_book}
use Rattle.audit.proofs.books.push_jobs.Given as goal

-- the lines so far and those of what is left
abbrev pub invariant-loop-row : goal.invariant-loop-row
invariant-loop-row l = l.books.items ++ map job_book l.row-iterator ≡ l.initial.books.items
    ++ map job_book l.fn.rows
