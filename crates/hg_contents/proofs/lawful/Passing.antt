-- What an accepted event passed, and what each content that events lead to obeys because each event keeps it.
use Rattle.std.proofs.Common.{◌≡◌, ◌^◌, Bool, true, false, cond, nat_le, List, [], ◌∷◌, length, Some, None, refl, subst}
use Rattle.std.specs.List.{AllByRecursion}
use Rattle.std.specs.Option.{option_and_then}
use Rattle.hg_model.specs.declared.event.Named.{Named}
use Rattle.hg_model.specs.declared.verdict.Verdict.TheVariants.{Accept}
use Rattle.hg_model.specs.Contents.{Content}
use Rattle.hg_model.specs.Messages.{was_received, was_sent}
use Rattle.hg_model.specs.Verdicts.{already_held, bad_length, bad_number, child_holds_locks, child_not_alive, child_used, full_held, full_segments, lock_busy, message_taken, message_used, no_thread, not_held, not_sent, past_address_end, self_join, standing_of, verdict}
use Rattle.hg_model.specs.Change.{after, followed, is_accept}
use Rattle.hg_model.proofs.Accepted.{no_cause}
use Rattle.hg_model.proofs.Following.{accept_is}
use Rattle.hg_contents.proofs.lawful.Lists.{each_is}

-- none of the causes of a refusal
pub record Passed (c : Content) (n : Named) : Type 0 where
  pub numbers : bad_number n.source n.event ≡ false
  pub len : bad_length n.event ≡ false
  pub address : past_address_end n.event ≡ false
  pub alive : no_thread c.threads n.event ≡ false
  pub fresh : child_used c.threads n.event ≡ false
  pub apart : self_join n.event ≡ false
  pub joined : child_not_alive c.threads n.event ≡ false
  pub emptied : child_holds_locks c.threads n.event ≡ false
  pub lacked : already_held c.threads n.event ≡ false
  pub free : lock_busy c.threads n.event ≡ false
  pub holds : not_held c.threads n.event ≡ false
  pub room : full_held c.threads n.event ≡ false
  pub unused : message_used (was_sent c.segments) n.event ≡ false
  pub sent : not_sent (was_sent c.segments) n.event ≡ false
  pub untaken : message_taken (was_received c.segments) n.event ≡ false
  pub segments : full_segments (length c.segments) n.event ≡ false
  pub events : nat_le (2 ^ 58) c.events ≡ false

pub passed : (c : Content) (n : Named) → verdict (standing_of c) n ≡ Accept → Passed c n
passed c n accepted =
    let none = no_cause (standing_of c) n accepted in
    let later = none.1.1.1.1.1.1.1.1 in
    record {
      numbers = none.0;
      len = none.1.0;
      address = none.1.1.0;
      alive = none.1.1.1.0;
      fresh = none.1.1.1.1.0;
      apart = none.1.1.1.1.1.0;
      joined = none.1.1.1.1.1.1.0;
      emptied = none.1.1.1.1.1.1.1.0;
      lacked = later.0;
      free = later.1.0;
      holds = later.1.1.0;
      room = later.1.1.1.0;
      unused = later.1.1.1.1.0;
      sent = later.1.1.1.1.1.0;
      untaken = later.1.1.1.1.1.1.0;
      segments = later.1.1.1.1.1.1.1.0;
      events = later.1.1.1.1.1.1.1.1.0;
    }

-- what each accepted event keeps
abbrev pub IsKept : (Content → Type 0) → Type 0
IsKept P = (c : Content) (n : Named) → Passed c n → P c → P (after c n)

-- the same of events of which something holds
pub kept_with : (E : Named → Type 0) (P : Content → Type 0) → ((c : Content) (n : Named) → E n → Passed c n → P c → P (after c n)) → (c d : Content) (trace : List Named) → AllByRecursion E trace → followed c trace ≡ Some d → P c → P d
kept_with E P step c d [] each same holds = subst P (some_is c d same) holds
  where
    some_is : (x y : Content) → Some x ≡ Some y → x ≡ y
    some_is x y e = cc
kept_with E P step c d (n ∷ trace) each same holds =
    chosen (λ accepted led. kept_with E P step (after c n) d trace each.1 led (step c n each.0 (passed c n accepted) holds)) (is_accept (verdict (standing_of c) n)) refl same
  where
    chosen : (verdict (standing_of c) n ≡ Accept → followed (after c n) trace ≡ Some d → P d) → (b : Bool) → is_accept (verdict (standing_of c) n) ≡ b
        → option_and_then (λ m. followed m trace) (cond b (Some (after c n)) None) ≡ Some d → P d
    chosen later true accepted led = later (accept_is (verdict (standing_of c) n) accepted) led
    chosen later false not_accepted led = absurd cc

pub kept_along : (P : Content → Type 0) → IsKept P → (c d : Content) (trace : List Named) → followed c trace ≡ Some d → P c → P d
kept_along P step c d trace = kept_with (λ n. Unit {0}) P (λ c n any. step c n) c d trace (each_is (λ (n : Named). Unit {0}) (λ n. tt) trace)
