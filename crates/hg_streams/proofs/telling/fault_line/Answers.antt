use Rattle.std.proofs.Common.{◌≡◌, ◌++◌, ◌∷◌, [], codes, ap, arith, subst, sym}
use Rattle.std.proofs.lemmas.Fmt.{decimal-digits_of}
use Rattle.hg_model.specs.Codes.{code_of}
use Rattle.hg_streams.specs.Texts.{fault_text}
use Rattle.hg_streams.proofs.telling.fault_line.Goals as goal

gap : codes "fault 1\n" ≡ fault_text 1
gap = sym (ap (λ t. codes "fault " ++ t ++ 10 ∷ []) (decimal-digits_of 1 (omega arith) (omega arith)))

bad_number : codes "fault 2\n" ≡ fault_text 2
bad_number = sym (ap (λ t. codes "fault " ++ t ++ 10 ∷ []) (decimal-digits_of 2 (omega arith) (omega arith)))

bad_length : codes "fault 3\n" ≡ fault_text 3
bad_length = sym (ap (λ t. codes "fault " ++ t ++ 10 ∷ []) (decimal-digits_of 3 (omega arith) (omega arith)))

address_end : codes "fault 4\n" ≡ fault_text 4
address_end = sym (ap (λ t. codes "fault " ++ t ++ 10 ∷ []) (decimal-digits_of 4 (omega arith) (omega arith)))

no_thread : codes "fault 5\n" ≡ fault_text 5
no_thread = sym (ap (λ t. codes "fault " ++ t ++ 10 ∷ []) (decimal-digits_of 5 (omega arith) (omega arith)))

child_used : codes "fault 6\n" ≡ fault_text 6
child_used = sym (ap (λ t. codes "fault " ++ t ++ 10 ∷ []) (decimal-digits_of 6 (omega arith) (omega arith)))

self_join : codes "fault 7\n" ≡ fault_text 7
self_join = sym (ap (λ t. codes "fault " ++ t ++ 10 ∷ []) (decimal-digits_of 7 (omega arith) (omega arith)))

child_not_alive : codes "fault 8\n" ≡ fault_text 8
child_not_alive = sym (ap (λ t. codes "fault " ++ t ++ 10 ∷ []) (decimal-digits_of 8 (omega arith) (omega arith)))

child_holds_locks : codes "fault 9\n" ≡ fault_text 9
child_holds_locks = sym (ap (λ t. codes "fault " ++ t ++ 10 ∷ []) (decimal-digits_of 9 (omega arith) (omega arith)))

broken : codes "fault 10\n" ≡ fault_text 10
broken = sym (ap (λ t. codes "fault " ++ t ++ 10 ∷ []) (decimal-digits_of 10 (omega arith) (omega arith)))

damaged : codes "fault 11\n" ≡ fault_text 11
damaged = sym (ap (λ t. codes "fault " ++ t ++ 10 ∷ []) (decimal-digits_of 11 (omega arith) (omega arith)))

already_held : codes "fault 12\n" ≡ fault_text 12
already_held = sym (ap (λ t. codes "fault " ++ t ++ 10 ∷ []) (decimal-digits_of 12 (omega arith) (omega arith)))

lock_busy : codes "fault 13\n" ≡ fault_text 13
lock_busy = sym (ap (λ t. codes "fault " ++ t ++ 10 ∷ []) (decimal-digits_of 13 (omega arith) (omega arith)))

not_held : codes "fault 14\n" ≡ fault_text 14
not_held = sym (ap (λ t. codes "fault " ++ t ++ 10 ∷ []) (decimal-digits_of 14 (omega arith) (omega arith)))

full_held : codes "fault 15\n" ≡ fault_text 15
full_held = sym (ap (λ t. codes "fault " ++ t ++ 10 ∷ []) (decimal-digits_of 15 (omega arith) (omega arith)))

full_segments : codes "fault 16\n" ≡ fault_text 16
full_segments = sym (ap (λ t. codes "fault " ++ t ++ 10 ∷ []) (decimal-digits_of 16 (omega arith) (omega arith)))

full_events : codes "fault 17\n" ≡ fault_text 17
full_events = sym (ap (λ t. codes "fault " ++ t ++ 10 ∷ []) (decimal-digits_of 17 (omega arith) (omega arith)))

full_pending : codes "fault 18\n" ≡ fault_text 18
full_pending = sym (ap (λ t. codes "fault " ++ t ++ 10 ∷ []) (decimal-digits_of 18 (omega arith) (omega arith)))

full_sets : codes "fault 19\n" ≡ fault_text 19
full_sets = sym (ap (λ t. codes "fault " ++ t ++ 10 ∷ []) (decimal-digits_of 19 (omega arith) (omega arith)))

full_slots : codes "fault 20\n" ≡ fault_text 20
full_slots = sym (ap (λ t. codes "fault " ++ t ++ 10 ∷ []) (decimal-digits_of 20 (omega arith) (omega arith)))

device_fault : codes "fault 21\n" ≡ fault_text 21
device_fault = sym (ap (λ t. codes "fault " ++ t ++ 10 ∷ []) (decimal-digits_of 21 (omega arith) (omega arith)))

out_of_memory : codes "fault 22\n" ≡ fault_text 22
out_of_memory = sym (ap (λ t. codes "fault " ++ t ++ 10 ∷ []) (decimal-digits_of 22 (omega arith) (omega arith)))

message_used : codes "fault 23\n" ≡ fault_text 23
message_used = sym (ap (λ t. codes "fault " ++ t ++ 10 ∷ []) (decimal-digits_of 23 (omega arith) (omega arith)))

not_sent : codes "fault 24\n" ≡ fault_text 24
not_sent = sym (ap (λ t. codes "fault " ++ t ++ 10 ∷ []) (decimal-digits_of 24 (omega arith) (omega arith)))

message_taken : codes "fault 25\n" ≡ fault_text 25
message_taken = sym (ap (λ t. codes "fault " ++ t ++ 10 ∷ []) (decimal-digits_of 25 (omega arith) (omega arith)))

pub returns-in-Gap : goal.returns-in-Gap
returns-in-Gap c = subst (λ r. codes "fault 1\n" ≡ fault_text (code_of r)) (sym c.in-Gap.is) gap

pub returns-in-BadNumber : goal.returns-in-BadNumber
returns-in-BadNumber c = subst (λ r. codes "fault 2\n" ≡ fault_text (code_of r)) (sym c.in-BadNumber.is) bad_number

pub returns-in-BadLength : goal.returns-in-BadLength
returns-in-BadLength c = subst (λ r. codes "fault 3\n" ≡ fault_text (code_of r)) (sym c.in-BadLength.is) bad_length

pub returns-in-AddressEnd : goal.returns-in-AddressEnd
returns-in-AddressEnd c = subst (λ r. codes "fault 4\n" ≡ fault_text (code_of r)) (sym c.in-AddressEnd.is) address_end

pub returns-in-NoThread : goal.returns-in-NoThread
returns-in-NoThread c = subst (λ r. codes "fault 5\n" ≡ fault_text (code_of r)) (sym c.in-NoThread.is) no_thread

pub returns-in-ChildUsed : goal.returns-in-ChildUsed
returns-in-ChildUsed c = subst (λ r. codes "fault 6\n" ≡ fault_text (code_of r)) (sym c.in-ChildUsed.is) child_used

pub returns-in-SelfJoin : goal.returns-in-SelfJoin
returns-in-SelfJoin c = subst (λ r. codes "fault 7\n" ≡ fault_text (code_of r)) (sym c.in-SelfJoin.is) self_join

pub returns-in-ChildNotAlive : goal.returns-in-ChildNotAlive
returns-in-ChildNotAlive c = subst (λ r. codes "fault 8\n" ≡ fault_text (code_of r)) (sym c.in-ChildNotAlive.is) child_not_alive

pub returns-in-ChildHoldsLocks : goal.returns-in-ChildHoldsLocks
returns-in-ChildHoldsLocks c = subst (λ r. codes "fault 9\n" ≡ fault_text (code_of r)) (sym c.in-ChildHoldsLocks.is) child_holds_locks

pub returns-in-Broken : goal.returns-in-Broken
returns-in-Broken c = subst (λ r. codes "fault 10\n" ≡ fault_text (code_of r)) (sym c.in-Broken.is) broken

pub returns-in-Damaged : goal.returns-in-Damaged
returns-in-Damaged c = subst (λ r. codes "fault 11\n" ≡ fault_text (code_of r)) (sym c.in-Damaged.is) damaged

pub returns-in-AlreadyHeld : goal.returns-in-AlreadyHeld
returns-in-AlreadyHeld c = subst (λ r. codes "fault 12\n" ≡ fault_text (code_of r)) (sym c.in-AlreadyHeld.is) already_held

pub returns-in-LockBusy : goal.returns-in-LockBusy
returns-in-LockBusy c = subst (λ r. codes "fault 13\n" ≡ fault_text (code_of r)) (sym c.in-LockBusy.is) lock_busy

pub returns-in-NotHeld : goal.returns-in-NotHeld
returns-in-NotHeld c = subst (λ r. codes "fault 14\n" ≡ fault_text (code_of r)) (sym c.in-NotHeld.is) not_held

pub returns-in-FullHeld : goal.returns-in-FullHeld
returns-in-FullHeld c = subst (λ r. codes "fault 15\n" ≡ fault_text (code_of r)) (sym c.in-FullHeld.is) full_held

pub returns-in-FullSegments : goal.returns-in-FullSegments
returns-in-FullSegments c = subst (λ r. codes "fault 16\n" ≡ fault_text (code_of r)) (sym c.in-FullSegments.is) full_segments

pub returns-in-FullEvents : goal.returns-in-FullEvents
returns-in-FullEvents c = subst (λ r. codes "fault 17\n" ≡ fault_text (code_of r)) (sym c.in-FullEvents.is) full_events

pub returns-in-FullPending : goal.returns-in-FullPending
returns-in-FullPending c = subst (λ r. codes "fault 18\n" ≡ fault_text (code_of r)) (sym c.in-FullPending.is) full_pending

pub returns-in-FullSets : goal.returns-in-FullSets
returns-in-FullSets c = subst (λ r. codes "fault 19\n" ≡ fault_text (code_of r)) (sym c.in-FullSets.is) full_sets

pub returns-in-FullSlots : goal.returns-in-FullSlots
returns-in-FullSlots c = subst (λ r. codes "fault 20\n" ≡ fault_text (code_of r)) (sym c.in-FullSlots.is) full_slots

pub returns-in-DeviceFault : goal.returns-in-DeviceFault
returns-in-DeviceFault c = subst (λ r. codes "fault 21\n" ≡ fault_text (code_of r)) (sym c.in-DeviceFault.is) device_fault

pub returns-in-OutOfMemory : goal.returns-in-OutOfMemory
returns-in-OutOfMemory c = subst (λ r. codes "fault 22\n" ≡ fault_text (code_of r)) (sym c.in-OutOfMemory.is) out_of_memory

pub returns-in-MessageUsed : goal.returns-in-MessageUsed
returns-in-MessageUsed c = subst (λ r. codes "fault 23\n" ≡ fault_text (code_of r)) (sym c.in-MessageUsed.is) message_used

pub returns-in-NotSent : goal.returns-in-NotSent
returns-in-NotSent c = subst (λ r. codes "fault 24\n" ≡ fault_text (code_of r)) (sym c.in-NotSent.is) not_sent

pub returns-in-MessageTaken : goal.returns-in-MessageTaken
returns-in-MessageTaken c = subst (λ r. codes "fault 25\n" ≡ fault_text (code_of r)) (sym c.in-MessageTaken.is) message_taken
