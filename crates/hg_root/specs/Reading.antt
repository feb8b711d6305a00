-- Reading a body from the front, piece after piece. (No promise to a reader rests on this file.)
use Rattle.std.specs.Prelude.{◌≡◌, ℕ, zero, suc, Bool, true, false, ◌&&◌, ◌||◌, ◌==◌, nat_lt, nat_le, List, [], ◌∷◌, length, map, take, drop, Option, Some, None, Result, Ok, Err, if◌then◌else◌}
use Rattle.std.specs.Int.{Width, w16, w32, w64, byte_len, from_be_bytes}
use Rattle.hg_graph.specs.Restoring.{former}
use Rattle.hg_model.specs.declared.limits.TheConstants.{MOST_HELD, MOST_PREDECESSORS, THREAD_NUMBERS}
use Rattle.hg_model.specs.declared.held.HeldLock.{HeldLock}
use Rattle.hg_model.specs.declared.segment.Mark.{Mark}
use Rattle.hg_model.specs.declared.segment.Mark.TheVariants.{Plain, Sent, Got}
use Rattle.hg_model.specs.declared.segment.Segment.{Segment}
use Rattle.hg_model.specs.declared.thread.ThreadState.{ThreadState}
use Rattle.hg_cells.specs.declared.report.KeptReport.{KeptReport}
use Rattle.hg_root.specs.declared.fault.RootFault.{RootFault}
use Rattle.hg_root.specs.declared.fault.RootFault.TheVariants.{Broken, Damaged, DeviceFault, OutOfMemory}
use Rattle.hg_root.specs.declared.form.Form.{Form}
use Rattle.hg_root.specs.declared.form.Form.TheVariants.{Former, Written}
use Rattle.hg_root.specs.declared.parts.PageSlot.{PageSlot}
use Rattle.hg_root.specs.declared.parts.SourceCount.{SourceCount}

infixl 10 ◌>>=◌
abbrev pub ◌>>=◌ : {A B : Type 0} → Option A → (A → Option B) → Option B
(Some x) >>= f = f x
None >>= f = None

-- a value, and the bytes behind it
abbrev pub Reader : Type 0 → Type 0
Reader X = List ℕ → Option (X × List ℕ)

abbrev pub number_at : Width → Reader ℕ
number_at w bytes = if nat_lt (length bytes) (byte_len w) then None else Some (from_be_bytes w (take (byte_len w) bytes), drop (byte_len w) bytes)

abbrev pub byte_at : Reader ℕ
byte_at [] = None
byte_at (b ∷ bytes) = Some (b, bytes)

-- one, and then the other
abbrev pub both : {A B : Type 0} → Reader A → Reader B → Reader (A × B)
both first second bytes = first bytes >>= λ a. second a.1 >>= λ b. Some ((a.0, b.0), b.1)

-- one, and then another that depends on it
abbrev pub chained : {A B : Type 0} → Reader A → (A → Reader B) → Reader (A × B)
chained first second bytes = first bytes >>= λ a. second a.0 a.1 >>= λ b. Some ((a.0, b.0), b.1)

-- this value, of no bytes
abbrev pub given : {X : Type 0} → X → Reader X
given x bytes = Some (x, bytes)

-- a function of the value
abbrev pub made : {A X : Type 0} → (A → X) → Reader A → Reader X
made make read bytes = read bytes >>= λ a. Some (make a.0, a.1)

-- a value that passes a test
abbrev pub such_that : {X : Type 0} → (X → Bool) → Reader X → Reader X
such_that test read bytes = read bytes >>= λ x. if test x.0 then Some x else None

-- n of them, one after the other
unfoldable pub times : {X : Type 0} → Reader X → ℕ → Reader (List X)
times read zero bytes = Some ([], bytes)
times read (suc n) bytes = read bytes >>= λ first. times read n first.1 >>= λ others. Some (first.0 ∷ others.0, others.1)

-- their number, and then each
abbrev pub listed : {X : Type 0} → Reader ℕ → Reader X → Reader (List X)
listed count read bytes = count bytes >>= λ n. times read n.0 n.1

-- 0, 1 or 2
abbrev pub mark_code_at : Reader ℕ
mark_code_at = such_that (λ b. (b == 0) || ((b == 1) || (b == 2))) byte_at

-- the message of a mark with this code, if it has one
abbrev pub message_at : ℕ → Reader ℕ
message_at code = if code == 0 then given 0 else number_at w32

abbrev pub mark_of : ℕ × ℕ → Mark
mark_of p = if p.0 == 0 then Plain else if p.0 == 1 then Sent p.1 else Got p.1

-- a mark, which the former form does not spell
abbrev pub mark_at : Form → Reader Mark
mark_at Written = made mark_of (chained mark_code_at message_at)
mark_at Former = given Plain

-- two numbers at most
abbrev pub before_at : Reader (List ℕ)
before_at = listed (such_that (λ n. nat_le n MOST_PREDECESSORS) byte_at) (number_at w32)

abbrev pub segment_at : Form → Reader Segment
segment_at form = made (λ p. record { thread = p.0; before = p.1.0; mark = p.1.1 }) (both (number_at w16) (both before_at (mark_at form)))

-- 1 or 2
abbrev pub mode_at : Reader Bool
mode_at = made (λ b. b == 1) (such_that (λ b. (b == 1) || (b == 2)) byte_at)

abbrev pub lock_at : Reader HeldLock
lock_at = made (λ p. record { lock = p.0; write = p.1 }) (both (number_at w16) mode_at)

-- 0 or 1
abbrev pub alive_at : Reader Bool
alive_at = made (λ b. b == 1) (such_that (λ b. (b == 0) || (b == 1)) byte_at)

-- each number is below the next
abbrev pub rises : List ℕ → Bool
rises [] = true
rises (x ∷ []) = true
rises (x ∷ y ∷ xs) = nat_lt x y && rises (y ∷ xs)

-- the locks rise, and there are no more than a thread may hold
abbrev pub are_held : List HeldLock → Bool
are_held held = nat_le (length held) MOST_HELD && rises (map (λ h. h.lock) held)

-- the number is there, and is this one
abbrev pub is_some_of : Option ℕ → ℕ → Bool
is_some_of None last = false
is_some_of (Some n) last = n == last

-- a thread that a segment names, and its last segment
abbrev pub is_last : List Segment → ℕ → ℕ → Bool
is_last segments t last = nat_lt t THREAD_NUMBERS && is_some_of (former segments t) last

abbrev pub RawThread : Type 0
RawThread = ℕ × (Bool × (ℕ × List HeldLock))

abbrev pub raw_thread_at : Reader RawThread
raw_thread_at = both (number_at w16) (both alive_at (both (number_at w32) (listed byte_at lock_at)))

abbrev pub is_thread : List Segment → RawThread → Bool
is_thread segments p = is_last segments p.0 p.1.1.0 && are_held p.1.1.1

abbrev pub thread_at : List Segment → Reader ThreadState
thread_at segments = made (λ p. record { number = p.0; alive = p.1.0; held = p.1.1.1 }) (such_that (is_thread segments) raw_thread_at)

-- n threads
abbrev pub threads_at : List Segment → ℕ → Reader (List ThreadState)
threads_at segments count = times (thread_at segments) count

abbrev pub members_at : Reader (List ℕ)
members_at = listed (number_at w16) (number_at w16)

-- 6 or 7
abbrev pub kind_at : Reader Bool
kind_at = made (λ b. b == 7) (such_that (λ b. (b == 6) || (b == 7)) byte_at)

abbrev pub report_at : Reader KeptReport
report_at =
    made (λ p. record { event = p.0; word = p.1.0; threads = p.1.1.1.1; thread = p.1.1.0; write = p.1.1.1.0 })
    (both (number_at w64) (both (number_at w64) (both (number_at w16) (both kind_at (number_at w32)))))

abbrev pub source_at : Reader SourceCount
source_at = made (λ p. record { source = p.0; last = p.1 }) (both (number_at w16) (number_at w64))

abbrev pub page_at : Reader PageSlot
page_at = made (λ p. record { page = p.0; slot = p.1 }) (both (number_at w64) (number_at w32))

-- all of the bytes
abbrev pub ended : {X : Type 0} → Reader X → List ℕ → Option X
ended read bytes = read bytes >>= λ x. if length x.1 == 0 then Some x.0 else None

-- What a function returned, seen by view, is what reading gives, unless memory ran out.
abbrev pub Fails : {Y : Type 0} → RootFault → Option Y → Type 0
Fails OutOfMemory read = Unit {0}
Fails Damaged read = read ≡ None
Fails Broken read = ⊥
Fails DeviceFault read = ⊥

abbrev pub Gives : {X Y : Type 0} → (X → Y) → Result X RootFault → Option Y → Type 0
Gives view (Ok x) read = read ≡ Some (view x)
Gives view (Err fault) read = Fails fault read
