-- An input that is kept, read by read.
use Rattle.std.proofs.Common.{◌≡◌, ◌+◌, ◌<◌, ◌≤◌, ◌^◌, ℕ, List, [], ◌∷◌, ◌++◌, length, refl, ap, ◌∙◌, inl, inr, ⊎_elim, arith}
use Rattle.std.specs.declared.io.ErrorKind.{ErrorKind}
use Rattle.std.specs.declared.io.ErrorKind.TheVariants.{Interrupted}
use Rattle.hg_model.specs.declared.verdict.Refusal.{Refusal}
use Rattle.hg_model.specs.declared.verdict.Refusal.TheVariants.{DeviceFault, OutOfMemory}
use Rattle.hg_streams.specs.declared.call.ReadCall.{ReadCall}
use Rattle.hg_streams.specs.declared.call.ReadCall.TheVariants.{Gave, Erred}
use Rattle.hg_streams.specs.Calls.{failed_reads, refused_reads}
use Rattle.hg_streams.specs.Faults.{IsStreamFault}
use Rattle.hg_streams.specs.Told.{lacked_refusal, told_refusal}
use Rattle.hg_streams.proofs.Inputs.{failed_reads_on, refused_reads_on}
use Rattle.hg_reading.specs.Whole.{CantKeep, HasKept, IsKept}

pub kept_none : (known : List ReadCall) → HasKept known known []
kept_none known = record { earlier = []; since = refl; intact = refl; underway = refl; all = refl }

-- a read gave bytes
pub kept_on : (first reads now : List ReadCall) (bytes piece : List ℕ) → now ≡ Gave piece ∷ reads → 0 < length piece → HasKept first reads bytes → HasKept first now (bytes ++ piece)
kept_on first reads now bytes [] is some h = absurd (omega (arith, some))
kept_on first reads now bytes (byte ∷ piece) is some h = record {
  earlier = Gave (byte ∷ piece) ∷ h.earlier;
  since = is ∙ ap (λ xs. Gave (byte ∷ piece) ∷ xs) h.since;
  intact = h.intact;
  underway = h.underway;
  all = ap (λ xs. xs ++ (byte ∷ piece)) h.all;
}

-- a read was interrupted
pub kept_again : (first reads now : List ReadCall) (bytes : List ℕ) → now ≡ Erred Interrupted ∷ reads → HasKept first reads bytes → HasKept first now bytes
kept_again first reads now bytes is h = record {
  earlier = Erred Interrupted ∷ h.earlier;
  since = is ∙ ap (λ xs. Erred Interrupted ∷ xs) h.since;
  intact = omega (arith, h.intact);
  underway = h.underway;
  all = h.all;
}

none_so_far : (first reads : List ReadCall) (bytes : List ℕ) → HasKept first reads bytes → (failed_reads reads ≡ failed_reads first) × (refused_reads reads ≡ refused_reads first)
none_so_far first reads bytes h = (
  omega (arith, ap failed_reads h.since, failed_reads_on h.earlier first, h.intact),
  omega (arith, ap refused_reads h.since, refused_reads_on h.earlier first, h.intact),
)

-- a read failed, or was refused memory
pub cant_read : (first reads now : List ReadCall) (bytes : List ℕ) (kind : ErrorKind) (r : Refusal) → now ≡ Erred kind ∷ reads → failed_reads now ≡ told_refusal r + failed_reads reads
    → refused_reads now ≡ lacked_refusal r + refused_reads reads → IsStreamFault r → HasKept first reads bytes → CantKeep first now r
cant_read first reads now bytes kind r is failed refused fault h =
    let before = none_so_far first reads bytes h in
    record {
      later = Erred kind ∷ h.earlier;
      since = is ∙ ap (λ xs. Erred kind ∷ xs) h.since;
      cause = ⊎_elim
          (λ memory. inl (memory, omega (arith, failed, ap told_refusal memory, before.0)))
          (λ device. inr (
            device,
            (omega (arith, refused, ap lacked_refusal device, before.1), inl (omega (arith, failed, ap told_refusal device, before.0))),
          ))
          fault;
    }

-- so many reads were made
pub cant_go_on : (first now : List ReadCall) (bytes : List ℕ) (reads : ℕ) → length now ≡ reads + length first → 2 ^ 32 ≤ reads → HasKept first now bytes → CantKeep first now DeviceFault
cant_go_on first now bytes reads counted many h = record {
  later = h.earlier;
  since = h.since;
  cause = inr (refl, ((none_so_far first now bytes h).1, inr (omega (arith, counted, many))));
}

-- memory was refused
pub cant_hold : (first now : List ReadCall) (bytes : List ℕ) (r : Refusal) → r ≡ OutOfMemory → HasKept first now bytes → CantKeep first now r
cant_hold first now bytes r memory h = record { later = h.earlier; since = h.since; cause = inl (memory, (none_so_far first now bytes h).0) }

-- the last read met the end
pub kept_all : (first reads now : List ReadCall) (bytes : List ℕ) → now ≡ Gave [] ∷ reads → HasKept first reads bytes → IsKept first now bytes
kept_all first reads now bytes is h = record { before = reads; met = is; kept = h }
