use Rattle.std.proofs.Common.{◌≡◌, ◌++◌, map}
use Rattle.audit.specs.Books.{stood}
use Rattle.audit.proofs.books.push_servers.Given as goal

-- the lines so far and those of what is left
abbrev pub invariant-loop-row : goal.invariant-loop-row
invariant-loop-row l = l.books.items ++ map stood l.row-iterator ≡ l.initial.books.items ++ map stood l.fn.rows
