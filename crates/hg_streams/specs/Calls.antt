-- What the calls of a stream gave and took. Lists of calls have the newest first.
use Rattle.std.specs.Prelude.{ℕ, ◌+◌, List, [], ◌∷◌, ◌++◌, ◌≡◌, ◌<◌, take, ⊤, Option, Some, None, Result, Ok, Err}
use Rattle.std.specs.declared.io.ErrorKind.{ErrorKind}
use Rattle.std.specs.declared.io.ErrorKind.TheVariants.{Interrupted, OutOfMemory}
use Rattle.hg_streams.specs.declared.call.ReadCall.{ReadCall}
use Rattle.hg_streams.specs.declared.call.ReadCall.TheVariants.{Gave, Erred}
use Rattle.hg_streams.specs.declared.call.WriteCall.{WriteCall}
use Rattle.hg_streams.specs.declared.call.WriteCall.TheVariants.{Took, Torn, Flushed, NotFlushed}

-- the bytes that the reads gave, the oldest first
abbrev pub given : List ReadCall → List ℕ
given [] = []
given (Gave bytes ∷ earlier) = given earlier ++ bytes
given (Erred kind ∷ earlier) = given earlier

-- how many failures an error of a read counts as: none for an interruption or for want of memory, else one
abbrev pub failure : ErrorKind → ℕ
failure Interrupted = 0
failure OutOfMemory = 0
failure _ = 1

-- how many refusals of memory an error of a read counts as
abbrev pub shortage : ErrorKind → ℕ
shortage OutOfMemory = 1
shortage _ = 0

-- how many reads failed
abbrev pub failed_reads : List ReadCall → ℕ
failed_reads [] = 0
failed_reads (Gave bytes ∷ earlier) = failed_reads earlier
failed_reads (Erred kind ∷ earlier) = failure kind + failed_reads earlier

-- how many reads were refused memory
abbrev pub refused_reads : List ReadCall → ℕ
refused_reads [] = 0
refused_reads (Gave bytes ∷ earlier) = refused_reads earlier
refused_reads (Erred kind ∷ earlier) = shortage kind + refused_reads earlier

-- No read failed, and none was refused memory.
abbrev pub NoneFailed : List ReadCall → Type 0
NoneFailed reads = failed_reads reads + refused_reads reads ≡ 0

-- From some reads to later ones none was refused memory.
abbrev pub NoneRefused : List ReadCall → List ReadCall → Type 0
NoneRefused old new = refused_reads new ≡ refused_reads old

-- From some reads to later ones none failed, and none was refused memory.
abbrev pub NoneFailedSince : List ReadCall → List ReadCall → Type 0
NoneFailedSince old new = (failed_reads new ≡ failed_reads old) × NoneRefused old new

-- how many reads met the end of the input
abbrev pub ends_met : List ReadCall → ℕ
ends_met [] = 0
ends_met (Gave [] ∷ earlier) = 1 + ends_met earlier
ends_met (Gave (byte ∷ bytes) ∷ earlier) = ends_met earlier
ends_met (Erred kind ∷ earlier) = ends_met earlier

-- the bytes that the successful writes took, the oldest first
abbrev pub taken : List WriteCall → List ℕ
taken [] = []
taken (Took bytes ∷ earlier) = taken earlier ++ bytes
taken (Torn bytes ∷ earlier) = taken earlier
taken (Flushed ∷ earlier) = taken earlier
taken (NotFlushed ∷ earlier) = taken earlier

-- how many calls failed
abbrev pub failed_writes : List WriteCall → ℕ
failed_writes [] = 0
failed_writes (Took bytes ∷ earlier) = failed_writes earlier
failed_writes (Torn bytes ∷ earlier) = 1 + failed_writes earlier
failed_writes (Flushed ∷ earlier) = failed_writes earlier
failed_writes (NotFlushed ∷ earlier) = 1 + failed_writes earlier

-- the bytes of the failed writes, the oldest first; each write may have taken a front of its bytes
abbrev pub torn : List WriteCall → List ℕ
torn [] = []
torn (Took bytes ∷ earlier) = torn earlier
torn (Torn bytes ∷ earlier) = torn earlier ++ bytes
torn (Flushed ∷ earlier) = torn earlier
torn (NotFlushed ∷ earlier) = torn earlier

-- a read, with this answer of the reader and these bytes in the buffer
abbrev pub read_call : Result ℕ ErrorKind → List ℕ → ReadCall
read_call (Ok n) buffer = Gave (take n buffer)
read_call (Err kind) buffer = Erred kind

-- a read that did not fail; an interrupted one (`None`) gave nothing
abbrev pub got_call : Option ℕ → List ℕ → ReadCall
got_call (Some n) buffer = Gave (take n buffer)
got_call None buffer = Erred Interrupted

-- what a write came to
abbrev pub write_call : {E : Type 0} → Result ⊤ E → List ℕ → WriteCall
write_call (Ok done) text = Took text
write_call (Err e) text = Torn text

-- what a flush came to
abbrev pub flush_call : {E : Type 0} → Result ⊤ E → WriteCall
flush_call (Ok done) = Flushed
flush_call (Err e) = NotFlushed

-- the answer of a read as std's clauses see it, without the cause of a failure
abbrev pub as_read : {E : Type 0} → Result ℕ E → Result ℕ ⊤
as_read (Ok n) = Ok n
as_read (Err e) = Err tt

-- the answer of a read that tells interruptions apart, as std's clauses see it
abbrev pub as_got : {E : Type 0} → Result (Option ℕ) E → Result ℕ ⊤
as_got (Ok (Some n)) = Ok n
as_got (Ok None) = Err tt
as_got (Err e) = Err tt

-- The whole input may be these bytes: they begin with the bytes of the reads, and are no more than those if a read met the end.
pub record MayBe (reads : List ReadCall) (input : List ℕ) : Type 0 where
  pub more : List ℕ
  pub joined : input ≡ given reads ++ more
  pub over : 0 < ends_met reads → more ≡ []
