-- A reply is determined by its body, which has 1 to 8,192 bytes.
use Rattle.std.proofs.Common.{◌≡◌, ℕ, ◌≤◌, ◌<◌, ◌^◌, List, [], ◌∷◌, length, take, drop, Option, Some, None, refl, sym, ap, ◌∙◌, cond, nat_eq, slice_index, arith}
use Rattle.std.specs.Int.{w64, from_be_bytes}
use Rattle.std.proofs.lemmas.Nat.{from_be_bytes-to_be_bytes_8}
use Rattle.hg_protocol.specs.declared.reply.TheConstants.{MOST_REPLY_BYTES}
use Rattle.hg_protocol.specs.declared.reply.Reply.{Reply}
use Rattle.hg_protocol.specs.declared.reply.Reply.TheVariants.{Welcome, Accepted, Duplicate, Refused, Ack, Line, Fault, Lines, Nothing}
use Rattle.hg_protocol.specs.Replies.{ReplyFits, reply_body}

pub narrow_reply : MOST_REPLY_BYTES < 2 ^ 16
narrow_reply = omega arith

pub reply_within : (reply : Reply) → ReplyFits reply → (1 ≤ length (reply_body reply)) × (length (reply_body reply) ≤ MOST_REPLY_BYTES)
reply_within (Welcome last) fits = (omega arith, omega arith)
reply_within (Accepted number) fits = (omega arith, omega arith)
reply_within (Duplicate last) fits = (omega arith, omega arith)
reply_within (Refused number code expected) fits = (omega arith, omega arith)
reply_within (Ack number) fits = (omega arith, omega arith)
reply_within (Line line) fits = let few = fits.few in (omega arith, omega (arith, few))
reply_within (Fault code) fits = (omega arith, omega arith)
reply_within (Lines lines) fits = absurd fits
reply_within Nothing fits = absurd fits

-- the number in a body
abbrev number_in : List ℕ → ℕ
number_in bytes = from_be_bytes w64 (take 8 bytes)

-- the reply with this body
abbrev reply_of : List ℕ → Option Reply
reply_of [] = None
reply_of (kind ∷ bytes) =
    cond (nat_eq kind 129) (Some (Welcome (number_in bytes))) (
    cond (nat_eq kind 130) (Some (Accepted (number_in bytes))) (
    cond (nat_eq kind 131) (Some (Duplicate (number_in bytes))) (
    cond (nat_eq kind 132) (Some (Refused (number_in bytes) (slice_index bytes 8) (number_in (drop 9 bytes)))) (
    cond (nat_eq kind 133) (Some (Ack (number_in bytes))) (
    cond (nat_eq kind 134) (Some (Line bytes)) (
    cond (nat_eq kind 135) (Some (Fault (slice_index bytes 0))) None))))))

again : (reply : Reply) → ReplyFits reply → reply_of (reply_body reply) ≡ Some reply
again (Welcome last) fits = ap (λ n. Some (Welcome n)) (from_be_bytes-to_be_bytes_8 last fits)
again (Accepted number) fits = ap (λ n. Some (Accepted n)) (from_be_bytes-to_be_bytes_8 number fits)
again (Duplicate last) fits = ap (λ n. Some (Duplicate n)) (from_be_bytes-to_be_bytes_8 last fits)
again (Refused number code expected) fits =
    let first = from_be_bytes-to_be_bytes_8 number fits.0 in
    let second = from_be_bytes-to_be_bytes_8 expected fits.2 in
    λ i. Some (Refused (first i) code (second i))
again (Ack number) fits = ap (λ n. Some (Ack n)) (from_be_bytes-to_be_bytes_8 number fits)
again (Line line) fits = refl
again (Fault code) fits = refl
again (Lines lines) fits = absurd fits
again Nothing fits = absurd fits

some_is : {A : Type 0} (x y : A) → Some x ≡ Some y → x ≡ y
some_is x y e = cc

pub one_reply : (a b : Reply) → ReplyFits a → ReplyFits b → reply_body a ≡ reply_body b → a ≡ b
one_reply a b fits more same = some_is a b (sym (again a fits) ∙ ap reply_of same ∙ again b more)
