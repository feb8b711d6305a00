-- A client's frame is determined by its body, which has a byte at least and MOST_FRAME_BYTES at most.
use Rattle.std.proofs.Common.{◌≡◌, ℕ, ◌≤◌, ◌<◌, ◌^◌, Bool, true, false, cond, List, [], ◌∷◌, ◌++◌, length, take, drop, refl, sym, ap, ◌∙◌, arith}
use Rattle.std.specs.Int.{w16, w32, w64, to_be_bytes, from_be_bytes}
use Rattle.std.proofs.lemmas.List.{append-nil}
use Rattle.std.proofs.lemmas.Nat.{from_be_bytes-to_be_bytes_2, from_be_bytes-to_be_bytes_8}
use Rattle.hg_protocol.specs.declared.frame.TheConstants.{MOST_FRAME_BYTES}
use Rattle.hg_model.specs.declared.event.Block.{Block}
use Rattle.hg_model.specs.declared.event.Event.{Event}
use Rattle.hg_model.specs.declared.event.Event.TheVariants.{Fork, Join, Lock, RdLock, Unlock, Read, Write, Alloc, Free, Send, Recv}
use Rattle.hg_records.specs.Records.{EventFits, block_text, event_text, is_short}
use Rattle.hg_records.proofs.RecordLemmas.{one_event}
use Rattle.hg_protocol.specs.declared.frame.Frame.{Frame}
use Rattle.hg_protocol.specs.declared.frame.Frame.TheVariants.{Hello, Event as Offer, Ask, Reports, Bye}
use Rattle.hg_protocol.specs.Frames.{FrameFits, body_text, numbered_text}

pub narrow_frame : MOST_FRAME_BYTES < 2 ^ 16
narrow_frame = omega arith

-- either spelling of a block
few_of_block : (fits : Bool) (short long : ℕ) (b : Block) → length (cond fits (short ∷ block_text w16 b) (long ∷ block_text w32 b)) ≤ 15
few_of_block true short long b = omega arith
few_of_block false short long b = omega arith

few_bytes : (e : Event) → length (event_text e) ≤ 15
few_bytes (Fork p c) = omega arith
few_bytes (Join p c) = omega arith
few_bytes (Lock t l) = omega arith
few_bytes (RdLock t l) = omega arith
few_bytes (Unlock t l) = omega arith
few_bytes (Read a) = omega arith
few_bytes (Write a) = omega arith
few_bytes (Alloc b) = few_of_block (is_short b.len) 8 12 b
few_bytes (Free b) = few_of_block (is_short b.len) 9 13 b
few_bytes (Send t k) = omega arith
few_bytes (Recv t k) = omega arith

pub frame_within : (frame : Frame) → FrameFits frame → (1 ≤ length (body_text frame)) × (length (body_text frame) ≤ MOST_FRAME_BYTES)
frame_within (Hello source) fits = (omega arith, omega arith)
frame_within (Offer number event) fits = let few = few_bytes event in (omega arith, omega (arith, few))
frame_within Ask fits = (omega arith, omega arith)
frame_within Reports fits = (omega arith, omega arith)
frame_within Bye fits = (omega arith, omega arith)

one_source : (a b : ℕ) → a < 2 ^ 16 → b < 2 ^ 16 → 1 ∷ to_be_bytes w16 a ≡ 1 ∷ to_be_bytes w16 b → Hello a ≡ Hello b
one_source a b fits again same =
    ap Hello (sym (from_be_bytes-to_be_bytes_2 a fits) ∙ ap (λ (bytes : List ℕ). from_be_bytes w16 (drop 1 bytes)) same ∙ from_be_bytes-to_be_bytes_2 b again)

one_offer : (m n : ℕ) (d e : Event) → (m < 2 ^ 64) × EventFits d → (n < 2 ^ 64) × EventFits e → 2 ∷ numbered_text m d ≡ 2 ∷ numbered_text n e → Offer m d ≡ Offer n e
one_offer m n d e fits again same =
    let number : m ≡ n = sym (from_be_bytes-to_be_bytes_8 m fits.0) ∙ ap (λ (bytes : List ℕ). from_be_bytes w64 (take 8 (drop 1 bytes))) same ∙ from_be_bytes-to_be_bytes_8 n again.0 in
    let texts : event_text d ++ [] ≡ event_text e ++ [] = append-nil (event_text d) ∙ ap (λ (bytes : List ℕ). drop 9 bytes) same ∙ sym (append-nil (event_text e)) in
    let event = one_event d e [] [] fits.1 again.1 texts in
    λ i. Offer (number i) (event.0 i)

pub one_frame : (a b : Frame) → FrameFits a → FrameFits b → body_text a ≡ body_text b → a ≡ b
one_frame (Hello s) (Hello t) fits again same = one_source s t fits again same
one_frame (Hello s) (Offer n e) fits again same = absurd cc
one_frame (Hello s) Ask fits again same = absurd cc
one_frame (Hello s) Reports fits again same = absurd cc
one_frame (Hello s) Bye fits again same = absurd cc
one_frame (Offer m d) (Hello t) fits again same = absurd cc
one_frame (Offer m d) (Offer n e) fits again same = one_offer m n d e fits again same
one_frame (Offer m d) Ask fits again same = absurd cc
one_frame (Offer m d) Reports fits again same = absurd cc
one_frame (Offer m d) Bye fits again same = absurd cc
one_frame Ask (Hello t) fits again same = absurd cc
one_frame Ask (Offer n e) fits again same = absurd cc
one_frame Ask Ask fits again same = refl
one_frame Ask Reports fits again same = absurd cc
one_frame Ask Bye fits again same = absurd cc
one_frame Reports (Hello t) fits again same = absurd cc
one_frame Reports (Offer n e) fits again same = absurd cc
one_frame Reports Ask fits again same = absurd cc
one_frame Reports Reports fits again same = refl
one_frame Reports Bye fits again same = absurd cc
one_frame Bye (Hello t) fits again same = absurd cc
one_frame Bye (Offer n e) fits again same = absurd cc
one_frame Bye Ask fits again same = absurd cc
one_frame Bye Reports fits again same = absurd cc
one_frame Bye Bye fits again same = refl
