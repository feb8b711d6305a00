-- Where bytes are long enough for their kind, they begin with a record, and nowhere else.
use Rattle.std.proofs.Common.{◌≡◌, inl, inr, ℕ, ◌+◌, ◌-◌, ◌^◌, ◌<◌, ◌≤◌, false, cond, ltb, nat_eq, List, [], ◌∷◌, ◌++◌, length, get_or, take, drop, refl, sym, ap, subst, ◌∙◌, arith}
use Rattle.std.specs.Int.{Width, w16, w32, w64, byte_len, from_be_bytes, to_be_bytes}
use Rattle.std.proofs.lemmas.Bool.{cases_lt, eqb-true, le-ltb}
use Rattle.std.proofs.lemmas.List.{length-append}
use Rattle.hg_model.specs.declared.event.Access.{Access}
use Rattle.hg_model.specs.declared.event.Block.{Block}
use Rattle.hg_model.specs.declared.event.Event.{Event}
use Rattle.hg_model.specs.declared.event.Event.TheVariants.{Fork, Join, Lock, RdLock, Unlock, Read, Write, Alloc, Free, Send, Recv}
use Rattle.hg_model.specs.declared.event.Named.{Named}
use Rattle.hg_records.specs.Lengths.{HasRecord, length_by_kind}
use Rattle.hg_records.specs.Records.{AccessFits, BlockFits, EventFits, RecordFits, access_text, block_text, by_length, event_text, record_text}
use Rattle.hg_records.proofs.RecordLemmas.{IsBytes, IsBytes-rest, IsWide, Takes, Takes-then, by_length_long, by_length_short, chosen, long_is, number_takes, short_is, taken, wide16, wide32, wide64}

-- a number is there where there are bytes enough
record Number (w : Width) (limit : ℕ) (bytes : List ℕ) : Type 0 where
  pub n : ℕ
  pub rest : List ℕ
  pub takes : Takes bytes (to_be_bytes w n) rest
  pub small : n < limit
  pub left : length rest + byte_len w ≡ length bytes

number_given : (w : Width) (limit : ℕ) (wide : IsWide w limit) (bytes : List ℕ) → IsBytes bytes → byte_len w ≤ length bytes → Number w limit bytes
number_given w limit wide bytes fits long =
    let n = from_be_bytes w (take (byte_len w) bytes) in
    let rest = drop (byte_len w) bytes in
    let enough : ltb (length bytes) (byte_len w) ≡ false = le-ltb _ _ long in
    let is = number_takes w limit wide bytes n rest fits (rw enough refl) in
    record {
      n = n;
      rest = rest;
      takes = is.0;
      small = is.1;
      left = omega (arith, ap length is.0.parts, length-append (to_be_bytes w n) rest, wide.len n);
    }

record Front (bytes : List ℕ) : Type 0 where
  pub byte : ℕ
  pub rest : List ℕ
  pub takes : Takes bytes (byte ∷ []) rest
  pub small : byte < 256
  pub left : length rest + 1 ≡ length bytes

front_given : (bytes : List ℕ) → IsBytes bytes → 1 ≤ length bytes → Front bytes
front_given [] fits some = absurd (omega (arith, some))
front_given (b ∷ bytes) fits some = record { byte = b; rest = bytes; takes = record { parts = refl; rest_fits = IsBytes-rest b bytes fits }; small = fits 0; left = omega arith }

-- what stands before an event's operands: its name, its kind and its thread
record Head (bytes : List ℕ) : Type 0 where
  pub source : Number w16 (2 ^ 16) bytes
  pub number : Number w64 (2 ^ 64) source.rest
  pub kind : Front number.rest
  pub thread : Number w16 (2 ^ 16) kind.rest
  pub is_kind : get_or bytes 10 0 ≡ kind.byte
  pub left : length thread.rest + 13 ≡ length bytes

kind_at : (s m k : ℕ) (rest : List ℕ) → get_or (to_be_bytes w16 s ++ (to_be_bytes w64 m ++ (k ∷ rest))) 10 0 ≡ k
kind_at s m k rest = refl

head_given : (bytes : List ℕ) → IsBytes bytes → 15 ≤ length bytes → Head bytes
head_given bytes fits long =
    let source = number_given w16 (2 ^ 16) wide16 bytes fits (omega (arith, long)) in
    let number = number_given w64 (2 ^ 64) wide64 source.rest source.takes.rest_fits (omega (arith, long, source.left)) in
    let kind = front_given number.rest number.takes.rest_fits (omega (arith, long, source.left, number.left)) in
    let thread = number_given w16 (2 ^ 16) wide16 kind.rest kind.takes.rest_fits (omega (arith, long, source.left, number.left, kind.left)) in
    record {
      source = source;
      number = number;
      kind = kind;
      thread = thread;
      is_kind = ap (λ (xs : List ℕ). get_or xs 10 0) (source.takes.parts ∙ ap (λ (xs : List ℕ). to_be_bytes w16 source.n ++ xs) (number.takes.parts ∙ ap (λ (xs : List ℕ). to_be_bytes w64 number.n ++ xs) kind.takes.parts))
          ∙ kind_at source.n number.n kind.byte kind.rest;
      left = omega (arith, source.left, number.left, kind.left, thread.left);
    }

-- The upper half of a block's length of 32 bits, which stands at byte 21 of its record, is not 0.
abbrev pub HasUpperHalf : List ℕ → Type 0
HasUpperHalf bytes = 1 ≤ get_or bytes 21 0 + get_or bytes 22 0

-- A number that fits 16 bits has no upper half, and any other has one.
no_upper_half : (n : ℕ) → n < 2 ^ 16 → get_or (to_be_bytes w32 n) 0 0 + get_or (to_be_bytes w32 n) 1 0 ≡ 0
no_upper_half n lt = omega (arith, lt)

an_upper_half : (n : ℕ) → n < 2 ^ 32 → 2 ^ 16 ≤ n → 1 ≤ get_or (to_be_bytes w32 n) 0 0 + get_or (to_be_bytes w32 n) 1 0
an_upper_half n lt le = omega (arith, lt, le)

-- where a length of 32 bits stands, behind a name, a kind, a thread and an address
upper_half_at : (s m k t at len : ℕ) (rest : List ℕ) → let bytes : List ℕ = to_be_bytes w16 s ++ (to_be_bytes w64 m ++ (k ∷ (to_be_bytes w16 t ++ (to_be_bytes w64 at ++ (to_be_bytes w32 len ++ rest))))) in
    get_or bytes 21 0 + get_or bytes 22 0 ≡ get_or (to_be_bytes w32 len) 0 0 + get_or (to_be_bytes w32 len) 1 0
upper_half_at s m k t at len rest = refl

-- a record of these parts
whole_given : (bytes : List ℕ) (h : Head bytes) (text rest : List ℕ) (e : Event) (len : ℕ) → Takes h.thread.rest text rest → EventFits e → event_text e ≡ h.kind.byte ∷ (to_be_bytes w16 h.thread.n ++ text) → length text + 13 ≡ len
    → HasRecord bytes (drop len bytes)
whole_given bytes h text rest e len takes fits is long =
    let n : Named = record { source = h.source.n; number = h.number.n; event = e } in
    let operands = Takes-then h.kind.rest (to_be_bytes w16 h.thread.n) h.thread.rest text rest h.thread.takes takes in
    let event = Takes-then h.number.rest (h.kind.byte ∷ []) h.kind.rest (to_be_bytes w16 h.thread.n ++ text) rest h.kind.takes operands in
    let named = Takes-then h.source.rest (to_be_bytes w64 h.number.n) h.number.rest (h.kind.byte ∷ (to_be_bytes w16 h.thread.n ++ text)) rest h.number.takes event in
    let all = Takes-then bytes (to_be_bytes w16 h.source.n) h.source.rest (to_be_bytes w64 h.number.n ++ (h.kind.byte ∷ (to_be_bytes w16 h.thread.n ++ text))) rest h.source.takes named in
    let spelled : Takes bytes (record_text n) rest = subst (λ (t : List ℕ). Takes bytes (to_be_bytes w16 h.source.n ++ (to_be_bytes w64 h.number.n ++ t)) rest) (sym is) all in
    let parts = taken bytes (record_text n) rest spelled in
    let size : length bytes - length rest ≡ len = omega (arith, long, h.left, ap length takes.parts, length-append text rest) in
    (n, ((h.source.small, (h.number.small, fits)), subst (λ (k : ℕ). bytes ≡ record_text n ++ drop k bytes) size parts.1.1))

with_kind : (kind k : ℕ) (text : List ℕ) → kind ≡ k → k ∷ text ≡ kind ∷ text
with_kind kind k text is = ap (λ (n : ℕ). n ∷ text) (sym is)

module _ (bytes : List ℕ) (h : Head bytes) where
  -- an event with one number behind its acting thread
  given : (w : Width) (limit : ℕ) (wide : IsWide w limit) (k : ℕ) (make : ℕ → ℕ → Event) → h.kind.byte ≡ k → ((t n : ℕ) → event_text (make t n) ≡ k ∷ (to_be_bytes w16 t ++ to_be_bytes w n)) → ((t n : ℕ) → (t < 2 ^ 16) × (n < limit) → EventFits (make t n))
      → byte_len w + 13 ≤ length bytes → HasRecord bytes (drop (byte_len w + 13) bytes)
  given w limit wide k make is text fits long =
      let n = number_given w limit wide h.thread.rest h.thread.takes.rest_fits (omega (arith, long, h.left)) in
      whole_given bytes h (to_be_bytes w n.n) n.rest (make h.thread.n n.n) (byte_len w + 13) n.takes (fits h.thread.n n.n (h.thread.small, n.small)) (text h.thread.n n.n ∙ with_kind h.kind.byte k (to_be_bytes w16 h.thread.n ++ to_be_bytes w n.n) is)
      (ap (λ (m : ℕ). m + 13) (wide.len n.n))

  access_given : (k : ℕ) (make : Access → Event) → h.kind.byte ≡ k → ((a : Access) → event_text (make a) ≡ k ∷ access_text a) → ((a : Access) → AccessFits a → EventFits (make a)) → 22 ≤ length bytes → HasRecord bytes (drop 22 bytes)
  access_given k make is text fits long =
      let at = number_given w64 (2 ^ 64) wide64 h.thread.rest h.thread.takes.rest_fits (omega (arith, long, h.left)) in
      let len = front_given at.rest at.takes.rest_fits (omega (arith, long, h.left, at.left)) in
      let a : Access = record { t = h.thread.n; at = at.n; len = len.byte } in
      let takes = Takes-then h.thread.rest (to_be_bytes w64 at.n) at.rest (len.byte ∷ []) len.rest at.takes len.takes in
      whole_given bytes h (to_be_bytes w64 at.n ++ len.byte ∷ []) len.rest (make a) 22 takes (fits a (h.thread.small, (at.small, len.small))) (text a ∙ with_kind h.kind.byte k (access_text a) is) refl

  short_block_given : (short long : ℕ) (make : Block → Event) → h.kind.byte ≡ short → ((b : Block) → event_text (make b) ≡ by_length short long b) → ((b : Block) → BlockFits b → EventFits (make b)) → 23 ≤ length bytes → HasRecord bytes (drop 23 bytes)
  short_block_given short long make is text fits enough =
      let at = number_given w64 (2 ^ 64) wide64 h.thread.rest h.thread.takes.rest_fits (omega (arith, enough, h.left)) in
      let len = number_given w16 (2 ^ 16) wide16 at.rest at.takes.rest_fits (omega (arith, enough, h.left, at.left)) in
      let b : Block = record { t = h.thread.n; at = at.n; len = len.n } in
      let takes = Takes-then h.thread.rest (to_be_bytes w64 at.n) at.rest (to_be_bytes w16 len.n) len.rest at.takes len.takes in
      let spelled = text b ∙ (by_length_short short long b (short_is len.n len.small) ∙ with_kind h.kind.byte short (block_text w16 b) is) in
      whole_given bytes h (to_be_bytes w64 at.n ++ to_be_bytes w16 len.n) len.rest (make b) 23 takes (fits b (h.thread.small, (at.small, omega (arith, len.small)))) spelled refl

  long_block_given : (short long : ℕ) (make : Block → Event) → h.kind.byte ≡ long → ((b : Block) → event_text (make b) ≡ by_length short long b) → ((b : Block) → BlockFits b → EventFits (make b)) → HasUpperHalf bytes → 25 ≤ length bytes → HasRecord bytes (drop 25 bytes)
  long_block_given short long make is text fits upper enough =
      let at = number_given w64 (2 ^ 64) wide64 h.thread.rest h.thread.takes.rest_fits (omega (arith, enough, h.left)) in
      let len = number_given w32 (2 ^ 32) wide32 at.rest at.takes.rest_fits (omega (arith, enough, h.left, at.left)) in
      let b : Block = record { t = h.thread.n; at = at.n; len = len.n } in
      let takes = Takes-then h.thread.rest (to_be_bytes w64 at.n) at.rest (to_be_bytes w32 len.n) len.rest at.takes len.takes in
      let parts = h.source.takes.parts
      ∙ ap (λ (xs : List ℕ). to_be_bytes w16 h.source.n ++ xs) (h.number.takes.parts
      ∙ ap (λ (xs : List ℕ). to_be_bytes w64 h.number.n ++ xs) (h.kind.takes.parts
      ∙ ap (λ (xs : List ℕ). h.kind.byte ∷ xs) (h.thread.takes.parts
      ∙ ap (λ (xs : List ℕ). to_be_bytes w16 h.thread.n ++ xs) (at.takes.parts
      ∙ ap (λ (xs : List ℕ). to_be_bytes w64 at.n ++ xs) len.takes.parts)))) in
      let half = ap (λ (xs : List ℕ). get_or xs 21 0 + get_or xs 22 0) parts ∙ upper_half_at h.source.n h.number.n h.kind.byte h.thread.n at.n len.n len.rest in
      let above : 2 ^ 16 ≤ len.n = elim (cases_lt len.n (2 ^ 16)) [
        | inl lt ↦ absurd (omega (arith, upper, half, no_upper_half len.n lt))
        | inr le ↦ le
      ] in
      let spelled = text b ∙ (by_length_long short long b (long_is len.n above) ∙ with_kind h.kind.byte long (block_text w32 b) is) in
      whole_given bytes h (to_be_bytes w64 at.n ++ to_be_bytes w32 len.n) len.rest (make b) 25 takes (fits b (h.thread.small, (at.small, len.small))) spelled refl

  by_kind : (kind len : ℕ) → h.kind.byte ≡ kind → length_by_kind kind ≡ len → 1 ≤ len → len ≤ length bytes → (len ≡ 25 → HasUpperHalf bytes) → HasRecord bytes (drop len bytes)
  unfolding length_by_kind
  by_kind kind len same is some long upper =
      one 1 15 _ (λ e sized. given w16 (2 ^ 16) wide16 1 Fork e (λ t n. refl) (λ t n f. f)) (
      one 2 15 _ (λ e sized. given w16 (2 ^ 16) wide16 2 Join e (λ t n. refl) (λ t n f. f)) (
      one 3 15 _ (λ e sized. given w16 (2 ^ 16) wide16 3 Lock e (λ t n. refl) (λ t n f. f)) (
      one 4 15 _ (λ e sized. given w16 (2 ^ 16) wide16 4 RdLock e (λ t n. refl) (λ t n f. f)) (
      one 5 15 _ (λ e sized. given w16 (2 ^ 16) wide16 5 Unlock e (λ t n. refl) (λ t n f. f)) (
      one 6 22 _ (λ e sized. access_given 6 Read e (λ a. refl) (λ a f. f)) (
      one 7 22 _ (λ e sized. access_given 7 Write e (λ a. refl) (λ a f. f)) (
      one 8 23 _ (λ e sized. short_block_given 8 12 Alloc e (λ b. refl) (λ b f. f)) (
      one 9 23 _ (λ e sized. short_block_given 9 13 Free e (λ b. refl) (λ b f. f)) (
      one 10 17 _ (λ e sized. given w32 (2 ^ 32) wide32 10 Send e (λ t n. refl) (λ t n f. f)) (
      one 11 17 _ (λ e sized. given w32 (2 ^ 32) wide32 11 Recv e (λ t n. refl) (λ t n f. f)) (
      one 12 25 _ (λ e sized. long_block_given 8 12 Alloc e (λ b. refl) (λ b f. f) (upper (sym sized))) (
      one 13 25 _ (λ e sized. long_block_given 9 13 Free e (λ b. refl) (λ b f. f) (upper (sym sized))) (
      λ none. absurd (omega (arith, none, some))))))))))))))) is
    where
      one : (k size other : ℕ) → (h.kind.byte ≡ k → size ≡ len → size ≤ length bytes → HasRecord bytes (drop size bytes)) → (other ≡ len → HasRecord bytes (drop len bytes)) → cond (nat_eq kind k) size other ≡ len → HasRecord bytes (drop len bytes)
      one k size other there later e =
          elim (chosen (nat_eq kind k) size other len e) [
            | inl is ↦ subst (λ (n : ℕ). HasRecord bytes (drop n bytes)) is.1 (there (same ∙ eqb-true kind k is.0) is.1 (omega (arith, is.1, long)))
            | inr differs ↦ later differs.1
          ]

pub long_enough : (bytes : List ℕ) (len : ℕ) → IsBytes bytes → 15 ≤ length bytes → length_by_kind (get_or bytes 10 0) ≡ len → 1 ≤ len → len ≤ length bytes → (len ≡ 25 → HasUpperHalf bytes) → HasRecord bytes (drop len bytes)
long_enough bytes len fits long is some enough upper =
    let h = head_given bytes fits long in
    by_kind bytes h (get_or bytes 10 0) len (sym h.is_kind) is some enough upper

-- ---- and a record has the length of its kind

-- what the bytes of a record have by the kind at byte 10
pub record IsLongEnough (text : List ℕ) : Type 0 where
  pub head : 15 ≤ length text
  pub some : 1 ≤ length_by_kind (get_or text 10 0)
  pub whole : length_by_kind (get_or text 10 0) ≤ length text
  pub upper : length_by_kind (get_or text 10 0) ≡ 25 → HasUpperHalf text

pub record_long : (n : Named) (rest : List ℕ) → RecordFits n → IsLongEnough (record_text n ++ rest)
unfolding length_by_kind
record_long n rest fits = of_event n.event fits.1.1 where
  spelled : List ℕ → List ℕ
  spelled event = (to_be_bytes w16 n.source ++ (to_be_bytes w64 n.number ++ event)) ++ rest

  of_block : (short long : ℕ) (b : Block) → BlockFits b → length_by_kind short ≡ 23 → length_by_kind long ≡ 25 → IsLongEnough (spelled (by_length short long b))
  of_block short long b fits as_short as_long =
      elim (cases_lt b.len (2 ^ 16)) [
        | inl lt ↦ subst (λ (event : List ℕ). IsLongEnough (spelled event)) (sym (by_length_short short long b (short_is b.len lt)))
            (record { head = omega arith; some = omega (arith, as_short); whole = omega (arith, as_short); upper = λ is. absurd (omega (arith, as_short, is)) })
        | inr le ↦ subst (λ (event : List ℕ). IsLongEnough (spelled event)) (sym (by_length_long short long b (long_is b.len le)))
            (record { head = omega arith; some = omega (arith, as_long); whole = omega (arith, as_long); upper = λ is. an_upper_half b.len fits.1.1 le })
      ]

  of_event : (e : Event) → EventFits e → IsLongEnough (spelled (event_text e))
  of_event (Fork p c) fits = record { head = omega arith; some = omega arith; whole = omega arith; upper = λ is. absurd (omega (arith, is)) }
  of_event (Join p c) fits = record { head = omega arith; some = omega arith; whole = omega arith; upper = λ is. absurd (omega (arith, is)) }
  of_event (Lock t l) fits = record { head = omega arith; some = omega arith; whole = omega arith; upper = λ is. absurd (omega (arith, is)) }
  of_event (RdLock t l) fits = record { head = omega arith; some = omega arith; whole = omega arith; upper = λ is. absurd (omega (arith, is)) }
  of_event (Unlock t l) fits = record { head = omega arith; some = omega arith; whole = omega arith; upper = λ is. absurd (omega (arith, is)) }
  of_event (Read a) fits = record { head = omega arith; some = omega arith; whole = omega arith; upper = λ is. absurd (omega (arith, is)) }
  of_event (Write a) fits = record { head = omega arith; some = omega arith; whole = omega arith; upper = λ is. absurd (omega (arith, is)) }
  of_event (Alloc b) fits = of_block 8 12 b fits refl refl
  of_event (Free b) fits = of_block 9 13 b fits refl refl
  of_event (Send t k) fits = record { head = omega arith; some = omega arith; whole = omega arith; upper = λ is. absurd (omega (arith, is)) }
  of_event (Recv t k) fits = record { head = omega arith; some = omega arith; whole = omega arith; upper = λ is. absurd (omega (arith, is)) }
