-- What the fields of a refusal settle.
use Rattle.std.proofs.Common.{◌≡◌, ◌≢◌, inl, inr, ℕ, ◌<◌, ◌^◌, List, ◌∷◌, drop, sym, ap, ◌∙◌, slice_index, arith}
use Rattle.std.specs.Int.{w64, from_be_bytes}
use Rattle.std.proofs.lemmas.Nat.{from_be_bytes-to_be_bytes_8}
use Rattle.hg_protocol.specs.declared.reply.Reply.{Reply}
use Rattle.hg_protocol.specs.declared.reply.Reply.TheVariants.{Welcome, Accepted, Duplicate, Refused, Ack, Line, Fault, Lines, Nothing}
use Rattle.hg_protocol.specs.Replies.{IsShort, RefusedFits, ReplyFits, refused_text, reply_body}

-- Where another number than 0 is expected, and the code is not that of a gap, the bytes are no refusal.
pub no_refusal : (bytes : List ℕ) (n c e number code expected : ℕ) → e < 2 ^ 64 → c ≢ 1 → e ≢ 0 → bytes ≡ refused_text n c e → RefusedFits number code expected → bytes ≡ refused_text number code expected → ⊥
no_refusal bytes n c e number code expected small no_gap some is fits again =
    let same : refused_text n c e ≡ refused_text number code expected = sym is ∙ again in
    let codes : c ≡ code = ap (λ (xs : List ℕ). slice_index xs 8) same in
    let numbers : e ≡ expected = sym (from_be_bytes-to_be_bytes_8 e small) ∙ ap (λ (xs : List ℕ). from_be_bytes w64 (drop 9 xs)) same ∙ from_be_bytes-to_be_bytes_8 expected fits.2 in
    elim fits.3 [
      | inl gap ↦ no_gap (codes ∙ gap)
      | inr none ↦ some (numbers ∙ none)
    ]

other : (kind : ℕ) → 132 ≡ kind → 132 ≢ kind → ⊥
other kind same differs = differs same

-- a body of that kind is a refusal's
pub only_refusal : (bytes : List ℕ) (reply : Reply) → IsShort reply → ReplyFits reply → 132 ∷ bytes ≡ reply_body reply → (number : ℕ) × (code : ℕ) × (expected : ℕ) × RefusedFits number code expected × (bytes ≡ refused_text number code expected)
only_refusal bytes (Welcome last) short fits same = absurd (other 129 (ap (λ (xs : List ℕ). slice_index xs 0) same) (omega arith))
only_refusal bytes (Accepted number) short fits same = absurd (other 130 (ap (λ (xs : List ℕ). slice_index xs 0) same) (omega arith))
only_refusal bytes (Duplicate last) short fits same = absurd (other 131 (ap (λ (xs : List ℕ). slice_index xs 0) same) (omega arith))
only_refusal bytes (Refused number code expected) short fits same = (number, code, expected, fits, ap (λ (xs : List ℕ). drop 1 xs) same)
only_refusal bytes (Ack number) short fits same = absurd (other 133 (ap (λ (xs : List ℕ). slice_index xs 0) same) (omega arith))
only_refusal bytes (Line line) short fits same = absurd short
only_refusal bytes (Fault code) short fits same = absurd (other 135 (ap (λ (xs : List ℕ). slice_index xs 0) same) (omega arith))
only_refusal bytes (Lines lines) short fits same = absurd fits
only_refusal bytes Nothing short fits same = absurd fits
