-- Refusals: the status of each, and which mean that a job is asked for again.
use Rattle.std.specs.Prelude.{ℕ, List, Bool, true, false, ◌&&◌, ◌||◌, ◌==◌, not, codes, nat_eq, string_bytes}
use Rattle.std.specs.List.{ends_with}
use Rattle.submit_words.specs.declared.refusal.Refusal.{Refusal}
use Rattle.submit_words.specs.declared.refusal.Refusal.TheVariants.{BadUrl, BadBase, BadOutput, NoJob, Status}
use Rattle.submit_words.specs.declared.refusal.Refusal.TheVariants.{JobNotFound, CannotCache, HeadTooLong, LinkFault}
use Rattle.submit_words.specs.declared.refusal.Refusal.TheVariants.{ParseError, TimeOut, ArchiveUnread, InputUnread}
use Rattle.submit_words.specs.declared.refusal.Refusal.TheVariants.{TokenUnread, ArchiveChanged, Toolchain}
use Rattle.submit_words.specs.declared.refusal.Refusal.TheVariants.{MissingOutput, UnaskedOutput, OutputUnwritten}
use Rattle.submit_words.specs.declared.refusal.Refusal.TheVariants.{WriteFault, Memory}
use Rattle.submit_words.specs.declared.refusal.Step.{Step}
use Rattle.submit_words.specs.declared.refusal.Step.TheVariants.{Ask, Bring, Run}

-- 120 misuse, 121 refused, 122 no answer, 123 a file or an output, 124 memory
abbrev pub status_of : Refusal → ℕ
status_of (BadUrl url) = 120
status_of BadBase = 120
status_of (BadOutput name) = 120
status_of (NoJob cause) = 121
status_of (Status step code body) = 121
status_of JobNotFound = 121
status_of CannotCache = 121
status_of HeadTooLong = 121
status_of (LinkFault step) = 122
status_of (ParseError step) = 122
status_of TimeOut = 122
status_of (ArchiveUnread name) = 123
status_of (InputUnread name) = 123
status_of (TokenUnread name) = 123
status_of (ArchiveChanged name) = 123
status_of (Toolchain cause) = 123
status_of (MissingOutput name) = 123
status_of (UnaskedOutput name) = 123
status_of (OutputUnwritten name) = 123
status_of WriteFault = 123
status_of Memory = 124

-- a fault as JSON ends with its outermost text
abbrev pub is_fault : List ℕ → List ℕ → Bool
is_fault body last = ends_with nat_eq body last

-- The scheduler's 500 passes, but where its ids are spent; so does a server's 401, whose key is another since it
-- started again, and its 500 where the scheduler did not take the job's state.
abbrev pub is_passing : Step → ℕ → List ℕ → Bool
is_passing Ask code body = code == 500 && not (is_fault body (codes "\"description\":\"No job ids left\"}"))
is_passing Bring code body =
    code == 401 || code == 500 && is_fault body (codes "\"description\":\"Updating job state failed\"}")
is_passing Run code body =
    code == 401 || code == 500 && is_fault body (codes "\"description\":\"Updating job state failed\"}")

abbrev pub asks_again : Refusal → Bool
asks_again (NoJob cause) = true
asks_again JobNotFound = true
asks_again (LinkFault step) = true
asks_again (ArchiveChanged name) = true
asks_again (Status step code body) = is_passing step code (string_bytes body)
asks_again other = false
