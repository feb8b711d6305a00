-- Reads that come after others.
use Rattle.std.proofs.Common.{◌≡◌, ◌+◌, List, [], ◌∷◌, ◌++◌, ap, arith}
use Rattle.hg_streams.specs.declared.call.ReadCall.{ReadCall}
use Rattle.hg_streams.specs.Calls.{NoneFailed, NoneFailedSince, NoneRefused, failed_reads, refused_reads}

pub failed_reads_on : (later first : List ReadCall) → failed_reads (later ++ first) ≡ failed_reads later + failed_reads first
failed_reads_on [] first = omega arith
failed_reads_on (ReadCall.Gave bytes ∷ later) first = failed_reads_on later first
failed_reads_on (ReadCall.Erred kind ∷ later) first = omega (arith, failed_reads_on later first)

pub refused_reads_on : (later first : List ReadCall) → refused_reads (later ++ first) ≡ refused_reads later + refused_reads first
refused_reads_on [] first = omega arith
refused_reads_on (ReadCall.Gave bytes ∷ later) first = refused_reads_on later first
refused_reads_on (ReadCall.Erred kind ∷ later) first = omega (arith, refused_reads_on later first)

-- Reads of which none failed were not refused memory.
pub none_refused : (first now later : List ReadCall) → now ≡ later ++ first → NoneFailed later → NoneRefused first now
none_refused first now later since intact = omega (arith, intact, ap refused_reads since, refused_reads_on later first)

-- Reads of which none failed.
pub none_failed : (first now later : List ReadCall) → now ≡ later ++ first → NoneFailed later → NoneFailedSince first now
none_failed first now later since intact = (omega (arith, intact, ap failed_reads since, failed_reads_on later first), none_refused first now later since intact)
