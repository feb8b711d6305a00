-- A record that is read is the record that was written, and what was written is read again.
use Rattle.std.proofs.Common.{◌≡◌, ℕ, suc, ◌+◌, ◌-◌, ◌^◌, ◌<◌, ◌≤◌, Bool, true, false, cond, ltb, nat_eq, List, [], ◌∷◌, ◌++◌, length, get_or, take, drop, Option, Some, None, refl, sym, ap, subst, ◌∙◌, append_assoc, arith, inl, inr, ◌⊎◌}
use Rattle.std.specs.Int.{Width, w16, w32, w64, byte_len, from_be_bytes, to_be_bytes}
use Rattle.std.specs.List.{flat_map, AllByRecursion}
use Rattle.std.proofs.lemmas.Bool.{cases_lt, eqb-true, lt-ltb, ltb-false, le-ltb}
use Rattle.std.proofs.lemmas.List.{take_at, drop_at, take-append-drop, length-append, length-take, get_or-drop, get_or-take, get_or_past}
use Rattle.std.proofs.lemmas.Nat.{be_bytes_2, be_bytes_4, be_bytes_8, from_be_bytes-to_be_bytes_2, from_be_bytes-to_be_bytes_4, from_be_bytes-to_be_bytes_8}
use Rattle.hg_model.specs.declared.event.Access.{Access}
use Rattle.hg_model.specs.declared.event.Block.{Block}
use Rattle.hg_model.specs.declared.event.Event.{Event}
use Rattle.hg_model.specs.declared.event.Event.TheVariants.{Fork, Join, Lock, RdLock, Unlock, Read, Write, Alloc, Free, Send, Recv}
use Rattle.hg_model.specs.declared.event.Named.{Named}
use Rattle.hg_records.specs.Records.{AccessFits, BlockFits, EventFits, RecordFits, access_text, block_text, by_length, event_text, is_short, record_text}
use Rattle.hg_records.specs.RecordReading.{◌>>=◌, access_at, block_at, byte_at, event_at, long_block_at, making, number_at, operands_at, record_at}

abbrev pub IsBytes : List ℕ → Type 0
IsBytes bytes = (i : ℕ) → get_or bytes i 0 < 256

IsBytes-drop : (n : ℕ) (bytes : List ℕ) → IsBytes bytes → IsBytes (drop n bytes)
IsBytes-drop n bytes h i = rw get_or-drop (h (n + i))

IsBytes-take : (n : ℕ) (bytes : List ℕ) → IsBytes bytes → IsBytes (take n bytes)
IsBytes-take n bytes h i =
    elim (cases_lt i n) [
      | inl lt ↦ rw (get_or-take n bytes i 0 lt) (h i)
      | inr le ↦ rw (get_or_past (take n bytes) i 0 (omega (arith, length-take n bytes))) (omega arith)
    ]

pub IsBytes-rest : (b : ℕ) (bytes : List ℕ) → IsBytes (b ∷ bytes) → IsBytes bytes
IsBytes-rest b bytes h i = h (suc i)

-- the value of a step that read something
bind_some : {A B : Type 0} (r : Option A) (f : A → Option B) (y : B) → (r >>= f) ≡ Some y → (x : A) × (r ≡ Some x) × (f x ≡ Some y)
bind_some (Some x) f y e = (x, refl, e)
bind_some None f y e = absurd cc

guard_some : {A : Type 0} (b : Bool) (x y : A) → cond b None (Some x) ≡ Some y → (b ≡ false) × (x ≡ y)
guard_some true x y e = absurd cc
guard_some false x y e = (refl, cc)

some_is : {A : Type 0} (x y : A) → Some x ≡ Some y → x ≡ y
some_is x y e = cc

-- what a reader took from the front
pub record Takes (bytes text rest : List ℕ) : Type 0 where
  pub parts : bytes ≡ text ++ rest
  pub rest_fits : IsBytes rest

pub Takes-then : (a x b y c : List ℕ) → Takes a x b → Takes b y c → Takes a (x ++ y) c
Takes-then a x b y c p q = record { parts = p.parts ∙ ap (λ (t : List ℕ). x ++ t) q.parts ∙ sym (append_assoc x y c); rest_fits = q.rest_fits }

-- how much was taken, by the lengths of what there was and of what is left
pub taken : (bytes text rest : List ℕ) → Takes bytes text rest → (length rest ≤ length bytes) × ((length bytes - length rest ≡ length text) × (bytes ≡ text ++ drop (length bytes - length rest) bytes))
taken bytes text rest takes =
    let all : length bytes ≡ length text + length rest = ap length takes.parts ∙ length-append text rest in
    let used : length bytes - length rest ≡ length text = omega (arith, all) in
    let after : drop (length bytes - length rest) bytes ≡ rest =
    ap (λ xs. drop (length bytes - length rest) xs) takes.parts ∙ drop_at text rest (length bytes - length rest) (sym used) in
    (omega (arith, all), (used, takes.parts ∙ ap (λ xs. text ++ xs) (sym after)))

pub record IsWide (w : Width) (limit : ℕ) : Type 0 where
  pub len : (n : ℕ) → length (to_be_bytes w n) ≡ byte_len w
  pub back : (bytes : List ℕ) → length bytes ≡ byte_len w → IsBytes bytes → to_be_bytes w (from_be_bytes w bytes) ≡ bytes
  pub again : (n : ℕ) → n < limit → from_be_bytes w (to_be_bytes w n) ≡ n
  pub below : (bytes : List ℕ) → IsBytes bytes → from_be_bytes w bytes < limit

pub wide16 : IsWide w16 (2 ^ 16)
wide16 = record {
  len = λ n. refl;
  back = λ bytes len fits. be_bytes_2 bytes _ len fits refl;
  again = λ n lt. from_be_bytes-to_be_bytes_2 n lt;
  below = λ bytes fits. omega (arith, fits 0, fits 1);
}

pub wide32 : IsWide w32 (2 ^ 32)
wide32 = record {
  len = λ n. refl;
  back = λ bytes len fits. be_bytes_4 bytes _ len fits refl;
  again = λ n lt. from_be_bytes-to_be_bytes_4 n lt;
  below = λ bytes fits. omega (arith, fits 0, fits 1, fits 2, fits 3);
}

pub wide64 : IsWide w64 (2 ^ 64)
wide64 = record {
  len = λ n. refl;
  back = λ bytes len fits. be_bytes_8 bytes _ len fits refl;
  again = λ n lt. from_be_bytes-to_be_bytes_8 n lt;
  below = λ bytes fits. omega (arith, fits 0, fits 1, fits 2, fits 3, fits 4, fits 5, fits 6, fits 7);
}

pub number_takes : (w : Width) (limit : ℕ) (wide : IsWide w limit) (bytes : List ℕ) (n : ℕ) (rest : List ℕ) → IsBytes bytes → number_at w bytes ≡ Some (n, rest) → Takes bytes (to_be_bytes w n) rest × (n < limit)
number_takes w limit wide bytes n rest fits e =
    let g = guard_some (ltb (length bytes) (byte_len w)) (from_be_bytes w (take (byte_len w) bytes), drop (byte_len w) bytes) (n, rest) e in
    let long : byte_len w ≤ length bytes = ltb-false _ _ g.0 in
    let n-is : from_be_bytes w (take (byte_len w) bytes) ≡ n = ap (λ (p : ℕ × List ℕ). p.0) g.1 in
    let rest-is : drop (byte_len w) bytes ≡ rest = ap (λ (p : ℕ × List ℕ). p.1) g.1 in
    let front : to_be_bytes w n ≡ take (byte_len w) bytes = rw (← n-is) (wide.back (take (byte_len w) bytes) (omega (arith, length-take (byte_len w) bytes)) (IsBytes-take (byte_len w) bytes fits)) in
    (record { parts = rw (front, ← rest-is) (sym (take-append-drop (byte_len w) bytes)); rest_fits = rw (← rest-is) (IsBytes-drop (byte_len w) bytes fits) }, rw (← n-is) (wide.below (take (byte_len w) bytes) (IsBytes-take (byte_len w) bytes fits)))

number_again : (w : Width) (limit : ℕ) (wide : IsWide w limit) (n : ℕ) (rest : List ℕ) → n < limit → number_at w (to_be_bytes w n ++ rest) ≡ Some (n, rest)
number_again w limit wide n rest lt =
    let len = wide.len n in
    let long : ltb (length (to_be_bytes w n ++ rest)) (byte_len w) ≡ false = le-ltb _ _ (omega (arith, length-append (to_be_bytes w n) rest)) in
    rw (long, take_at (to_be_bytes w n) rest (byte_len w) len, drop_at (to_be_bytes w n) rest (byte_len w) len, wide.again n lt) refl

byte_takes : (bytes : List ℕ) (b : ℕ) (rest : List ℕ) → IsBytes bytes → byte_at bytes ≡ Some (b, rest) → Takes bytes (b ∷ []) rest × (b < 256)
byte_takes [] b rest fits e = absurd cc
byte_takes (a ∷ bytes) b rest fits e =
    subst (λ (p : ℕ × List ℕ). Takes (a ∷ bytes) (p.0 ∷ []) p.1 × (p.0 < 256)) (some_is (a, bytes) (b, rest) e)
    (record { parts = refl; rest_fits = IsBytes-rest a bytes fits }, fits 0)

-- ---- operands after the acting thread

access_takes : (t : ℕ) (bytes : List ℕ) (a : Access) (rest : List ℕ) → IsBytes bytes → t < 2 ^ 16 → access_at t bytes ≡ Some (a, rest)
    → (a.t ≡ t) × Takes bytes (to_be_bytes w64 a.at ++ a.len ∷ []) rest × AccessFits a
unfolding access_at
access_takes t bytes a rest fits small e =
    let first = bind_some (number_at w64 bytes) (λ at. byte_at at.1 >>= λ len. Some (record { t = t; at = at.0; len = len.0 }, len.1)) (a, rest) e in
    let at = first.0 in
    let one = number_takes w64 (2 ^ 64) wide64 bytes at.0 at.1 fits first.1 in
    let second = bind_some (byte_at at.1) (λ len. Some (record { t = t; at = at.0; len = len.0 }, len.1)) (a, rest) first.2 in
    let len = second.0 in
    let two = byte_takes at.1 len.0 len.1 one.0.rest_fits second.1 in
    let made : Access = record { t = t; at = at.0; len = len.0 } in
    let both : Takes bytes (to_be_bytes w64 at.0 ++ len.0 ∷ []) len.1 = Takes-then bytes (to_be_bytes w64 at.0) at.1 (len.0 ∷ []) len.1 one.0 two.0 in
    let fits_all : AccessFits made = (small, (one.1, two.1)) in
    let is : (made, len.1) ≡ (a, rest) = some_is (made, len.1) (a, rest) second.2 in
    subst (λ (p : Access × List ℕ). (p.0.t ≡ t) × Takes bytes (to_be_bytes w64 p.0.at ++ p.0.len ∷ []) p.1 × AccessFits p.0) is (refl, both, fits_all)

access_again : (a : Access) (rest : List ℕ) → AccessFits a → access_at a.t ((to_be_bytes w64 a.at ++ a.len ∷ []) ++ rest) ≡ Some (a, rest)
unfolding access_at
access_again a rest fits =
    ap (λ bytes. access_at a.t bytes) (append_assoc (to_be_bytes w64 a.at) (a.len ∷ []) rest)
    ∙ ap (λ r. r >>= λ at. byte_at at.1 >>= λ len. Some (record { t = a.t; at = at.0; len = len.0 }, len.1)) (number_again w64 (2 ^ 64) wide64 a.at (a.len ∷ rest) fits.1.0)

block_takes : (w : Width) (limit : ℕ) (wide : IsWide w limit) → limit ≤ 2 ^ 32 → (t : ℕ) (bytes : List ℕ) (b : Block) (rest : List ℕ) → IsBytes bytes → t < 2 ^ 16 → block_at w t bytes ≡ Some (b, rest)
    → (b.t ≡ t) × Takes bytes (to_be_bytes w64 b.at ++ to_be_bytes w b.len) rest × BlockFits b × (b.len < limit)
unfolding block_at
block_takes w limit wide within t bytes b rest fits small e =
    let first = bind_some (number_at w64 bytes) (λ at. number_at w at.1 >>= λ len. Some (record { t = t; at = at.0; len = len.0 }, len.1)) (b, rest) e in
    let at = first.0 in
    let one = number_takes w64 (2 ^ 64) wide64 bytes at.0 at.1 fits first.1 in
    let second = bind_some (number_at w at.1) (λ len. Some (record { t = t; at = at.0; len = len.0 }, len.1)) (b, rest) first.2 in
    let len = second.0 in
    let two = number_takes w limit wide at.1 len.0 len.1 one.0.rest_fits second.1 in
    let made : Block = record { t = t; at = at.0; len = len.0 } in
    let both : Takes bytes (to_be_bytes w64 at.0 ++ to_be_bytes w len.0) len.1 = Takes-then bytes (to_be_bytes w64 at.0) at.1 (to_be_bytes w len.0) len.1 one.0 two.0 in
    let fits_all : BlockFits made = (small, (one.1, omega (arith, two.1, within))) in
    let is : (made, len.1) ≡ (b, rest) = some_is (made, len.1) (b, rest) second.2 in
    subst (λ (p : Block × List ℕ). (p.0.t ≡ t) × Takes bytes (to_be_bytes w64 p.0.at ++ to_be_bytes w p.0.len) p.1 × BlockFits p.0 × (p.0.len < limit)) is (refl, both, fits_all, two.1)

block_again : (w : Width) (limit : ℕ) (wide : IsWide w limit) (b : Block) (rest : List ℕ) → BlockFits b → b.len < limit → block_at w b.t ((to_be_bytes w64 b.at ++ to_be_bytes w b.len) ++ rest) ≡ Some (b, rest)
unfolding block_at
block_again w limit wide b rest fits lt =
    ap (λ bytes. block_at w b.t bytes) (append_assoc (to_be_bytes w64 b.at) (to_be_bytes w b.len) rest)
    ∙ (ap (λ r. r >>= λ at. number_at w at.1 >>= λ len. Some (record { t = b.t; at = at.0; len = len.0 }, len.1)) (number_again w64 (2 ^ 64) wide64 b.at (to_be_bytes w b.len ++ rest) fits.1.0)
    ∙ ap (λ r. r >>= λ len. Some (record { t = b.t; at = b.at; len = len.0 }, len.1)) (number_again w limit wide b.len rest lt))

-- a length that fits 16 bits, and one that does not
pub short_is : (len : ℕ) → len < 2 ^ 16 → is_short len ≡ true
short_is len lt = lt-ltb len (2 ^ 16) lt

pub long_is : (len : ℕ) → 2 ^ 16 ≤ len → is_short len ≡ false
long_is len le = le-ltb len (2 ^ 16) le

long_block_takes : (t : ℕ) (bytes : List ℕ) (b : Block) (rest : List ℕ) → IsBytes bytes → t < 2 ^ 16 → long_block_at t bytes ≡ Some (b, rest)
    → (b.t ≡ t) × Takes bytes (to_be_bytes w64 b.at ++ to_be_bytes w32 b.len) rest × BlockFits b × (is_short b.len ≡ false)
unfolding long_block_at
long_block_takes t bytes b rest fits small e =
    let read = bind_some (block_at w32 t bytes) (λ block. cond (is_short block.0.len) None (Some block)) (b, rest) e in
    let long = guard_some (is_short read.0.0.len) read.0 (b, rest) read.2 in
    let takes = block_takes w32 (2 ^ 32) wide32 (omega arith) t bytes read.0.0 read.0.1 fits small read.1 in
    subst (λ (p : Block × List ℕ). (p.0.t ≡ t) × Takes bytes (to_be_bytes w64 p.0.at ++ to_be_bytes w32 p.0.len) p.1 × BlockFits p.0 × (is_short p.0.len ≡ false)) long.1 (takes.0, takes.1, takes.2, long.0)

long_block_again : (b : Block) (rest : List ℕ) → BlockFits b → 2 ^ 16 ≤ b.len → long_block_at b.t ((to_be_bytes w64 b.at ++ to_be_bytes w32 b.len) ++ rest) ≡ Some (b, rest)
unfolding long_block_at
long_block_again b rest fits le =
    ap (λ r. r >>= λ block. cond (is_short block.0.len) None (Some block)) (block_again w32 (2 ^ 32) wide32 b rest fits fits.1.1)
    ∙ ap (λ short. cond short None (Some (b, rest))) (long_is b.len le)

-- the two spellings of a block
pub by_length_short : (short long : ℕ) (b : Block) → is_short b.len ≡ true → by_length short long b ≡ short ∷ block_text w16 b
by_length_short short long b is = ap (λ short_one. cond short_one (short ∷ block_text w16 b) (long ∷ block_text w32 b)) is

pub by_length_long : (short long : ℕ) (b : Block) → is_short b.len ≡ false → by_length short long b ≡ long ∷ block_text w32 b
by_length_long short long b is = ap (λ short_one. cond short_one (short ∷ block_text w16 b) (long ∷ block_text w32 b)) is

-- ---- events

pub chosen : {A : Type 0} (b : Bool) (x y z : A) → cond b x y ≡ z → ((b ≡ true) × (x ≡ z)) ⊎ ((b ≡ false) × (y ≡ z))
chosen true x y z e = inl (refl, e)
chosen false x y z e = inr (refl, e)

made_from : {X : Type 0} (make : X → Event) (read : Option (X × List ℕ)) (e : Event) (rest : List ℕ) → making make read ≡ Some (e, rest) → (x : X) × (read ≡ Some (x, rest)) × (make x ≡ e)
made_from make read e rest h =
    let some = bind_some read (λ x. Some (make x.0, x.1)) (e, rest) h in
    let is : (make some.0.0, some.0.1) ≡ (e, rest) = some_is (make some.0.0, some.0.1) (e, rest) some.2 in
    let later : some.0.1 ≡ rest = ap (λ (p : Event × List ℕ). p.1) is in
    (some.0.0, some.1 ∙ ap (λ xs. Some (some.0.0, xs)) later, ap (λ (p : Event × List ℕ). p.0) is)

-- what was read of an event after its kind and its acting thread
record Operands (kind t : ℕ) (bytes : List ℕ) (e : Event) (rest : List ℕ) : Type 0 where
  pub text : List ℕ
  pub takes : Takes bytes text rest
  pub fits : EventFits e
  pub is : event_text e ≡ kind ∷ (to_be_bytes w16 t ++ text)

with_kind : (kind k : ℕ) (text : List ℕ) → kind ≡ k → k ∷ text ≡ kind ∷ text
with_kind kind k text is = ap (λ (n : ℕ). n ∷ text) (sym is)

-- an event with one number behind its acting thread
number_case : (w : Width) (limit : ℕ) (wide : IsWide w limit) (kind k t : ℕ) (make : ℕ → Event) (bytes : List ℕ) (e : Event) (rest : List ℕ) → kind ≡ k → ((n : ℕ) → event_text (make n) ≡ k ∷ (to_be_bytes w16 t ++ to_be_bytes w n))
    → ((n : ℕ) → n < limit → EventFits (make n)) → IsBytes bytes → making make (number_at w bytes) ≡ Some (e, rest) → Operands kind t bytes e rest
number_case w limit wide kind k t make bytes e rest is text fits bytes_fit h =
    let from = made_from make (number_at w bytes) e rest h in
    let one = number_takes w limit wide bytes from.0 rest bytes_fit from.1 in
    subst (λ (x : Event). Operands kind t bytes x rest) from.2
    (record { text = to_be_bytes w from.0; takes = one.0; fits = fits from.0 one.1; is = text from.0 ∙ with_kind kind k (to_be_bytes w16 t ++ to_be_bytes w from.0) is })

access_case : (kind k t : ℕ) (make : Access → Event) (bytes : List ℕ) (e : Event) (rest : List ℕ) → kind ≡ k → ((a : Access) → event_text (make a) ≡ k ∷ access_text a) → ((a : Access) → AccessFits a → EventFits (make a))
    → IsBytes bytes → t < 2 ^ 16 → making make (access_at t bytes) ≡ Some (e, rest) → Operands kind t bytes e rest
access_case kind k t make bytes e rest is text fits bytes_fit small h =
    let from = made_from make (access_at t bytes) e rest h in
    let one = access_takes t bytes from.0 rest bytes_fit small from.1 in
    let operands = to_be_bytes w64 from.0.at ++ from.0.len ∷ [] in
    subst (λ (x : Event). Operands kind t bytes x rest) from.2
    (record {
      text = operands;
      takes = one.1;
      fits = fits from.0 one.2;
      is = text from.0 ∙ (with_kind kind k (access_text from.0) is ∙ ap (λ (n : ℕ). kind ∷ (to_be_bytes w16 n ++ operands)) one.0);
    })

-- a block that was taken, in either spelling
block_operands : (w : Width) (kind k t : ℕ) (e : Event) (bytes : List ℕ) (b : Block) (rest : List ℕ) → kind ≡ k → event_text e ≡ k ∷ block_text w b → EventFits e → b.t ≡ t → Takes bytes (to_be_bytes w64 b.at ++ to_be_bytes w b.len) rest → Operands kind t bytes e rest
block_operands w kind k t e bytes b rest is text fits same takes =
    let operands = to_be_bytes w64 b.at ++ to_be_bytes w b.len in
    record { text = operands; takes = takes; fits = fits; is = text ∙ (with_kind kind k (block_text w b) is ∙ ap (λ (n : ℕ). kind ∷ (to_be_bytes w16 n ++ operands)) same) }

short_block_case : (kind short long t : ℕ) (make : Block → Event) (bytes : List ℕ) (e : Event) (rest : List ℕ) → kind ≡ short → ((b : Block) → event_text (make b) ≡ by_length short long b) → ((b : Block) → BlockFits b → EventFits (make b))
    → IsBytes bytes → t < 2 ^ 16 → making make (block_at w16 t bytes) ≡ Some (e, rest) → Operands kind t bytes e rest
short_block_case kind short long t make bytes e rest is text fits bytes_fit small h =
    let from = made_from make (block_at w16 t bytes) e rest h in
    let one = block_takes w16 (2 ^ 16) wide16 (omega arith) t bytes from.0 rest bytes_fit small from.1 in
    subst (λ (x : Event). Operands kind t bytes x rest) from.2
    (block_operands w16 kind short t (make from.0) bytes from.0 rest is (text from.0 ∙ by_length_short short long from.0 (short_is from.0.len one.3)) (fits from.0 one.2) one.0 one.1)

long_block_case : (kind short long t : ℕ) (make : Block → Event) (bytes : List ℕ) (e : Event) (rest : List ℕ) → kind ≡ long → ((b : Block) → event_text (make b) ≡ by_length short long b) → ((b : Block) → BlockFits b → EventFits (make b))
    → IsBytes bytes → t < 2 ^ 16 → making make (long_block_at t bytes) ≡ Some (e, rest) → Operands kind t bytes e rest
long_block_case kind short long t make bytes e rest is text fits bytes_fit small h =
    let from = made_from make (long_block_at t bytes) e rest h in
    let one = long_block_takes t bytes from.0 rest bytes_fit small from.1 in
    subst (λ (x : Event). Operands kind t bytes x rest) from.2
    (block_operands w32 kind long t (make from.0) bytes from.0 rest is (text from.0 ∙ by_length_long short long from.0 one.3) (fits from.0 one.2) one.0 one.1)

operands_takes : (kind t : ℕ) (bytes : List ℕ) (e : Event) (rest : List ℕ) → IsBytes bytes → t < 2 ^ 16 → operands_at kind t bytes ≡ Some (e, rest) → Operands kind t bytes e rest
unfolding operands_at
operands_takes kind t bytes e rest fits small h =
    number w16 (2 ^ 16) wide16 1 (λ c. Fork t c) _ (λ n. refl) (λ n lt. (small, lt)) (
    number w16 (2 ^ 16) wide16 2 (λ c. Join t c) _ (λ n. refl) (λ n lt. (small, lt)) (
    number w16 (2 ^ 16) wide16 3 (λ l. Lock t l) _ (λ n. refl) (λ n lt. (small, lt)) (
    number w16 (2 ^ 16) wide16 4 (λ l. RdLock t l) _ (λ n. refl) (λ n lt. (small, lt)) (
    number w16 (2 ^ 16) wide16 5 (λ l. Unlock t l) _ (λ n. refl) (λ n lt. (small, lt)) (
    access 6 Read _ (λ a. refl) (λ a f. f) (
    access 7 Write _ (λ a. refl) (λ a f. f) (
    short_block 8 12 Alloc _ (λ b. refl) (λ b f. f) (
    short_block 9 13 Free _ (λ b. refl) (λ b f. f) (
    number w32 (2 ^ 32) wide32 10 (λ k. Send t k) _ (λ n. refl) (λ n lt. (small, lt)) (
    number w32 (2 ^ 32) wide32 11 (λ k. Recv t k) _ (λ n. refl) (λ n lt. (small, lt)) (
    long_block 8 12 Alloc _ (λ b. refl) (λ b f. f) (
    long_block 9 13 Free _ (λ b. refl) (λ b f. f) (
    λ none. absurd cc))))))))))))) h
  where
    number : (w : Width) (limit : ℕ) (wide : IsWide w limit) (k : ℕ) (make : ℕ → Event) (other : Option (Event × List ℕ)) → ((n : ℕ) → event_text (make n) ≡ k ∷ (to_be_bytes w16 t ++ to_be_bytes w n)) → ((n : ℕ) → n < limit → EventFits (make n))
        → (other ≡ Some (e, rest) → Operands kind t bytes e rest) → cond (nat_eq kind k) (making make (number_at w bytes)) other ≡ Some (e, rest) → Operands kind t bytes e rest
    number w limit wide k make other text fit later h =
        elim (chosen (nat_eq kind k) (making make (number_at w bytes)) other (Some (e, rest)) h) [
          | inl same ↦ number_case w limit wide kind k t make bytes e rest (eqb-true kind k same.0) text fit fits same.1
          | inr differs ↦ later differs.1
        ]

    access : (k : ℕ) (make : Access → Event) (other : Option (Event × List ℕ)) → ((a : Access) → event_text (make a) ≡ k ∷ access_text a) → ((a : Access) → AccessFits a → EventFits (make a))
        → (other ≡ Some (e, rest) → Operands kind t bytes e rest) → cond (nat_eq kind k) (making make (access_at t bytes)) other ≡ Some (e, rest) → Operands kind t bytes e rest
    access k make other text fit later h =
        elim (chosen (nat_eq kind k) (making make (access_at t bytes)) other (Some (e, rest)) h) [
          | inl same ↦ access_case kind k t make bytes e rest (eqb-true kind k same.0) text fit fits small same.1
          | inr differs ↦ later differs.1
        ]

    short_block : (short long : ℕ) (make : Block → Event) (other : Option (Event × List ℕ)) → ((b : Block) → event_text (make b) ≡ by_length short long b) → ((b : Block) → BlockFits b → EventFits (make b))
        → (other ≡ Some (e, rest) → Operands kind t bytes e rest) → cond (nat_eq kind short) (making make (block_at w16 t bytes)) other ≡ Some (e, rest) → Operands kind t bytes e rest
    short_block short long make other text fit later h =
        elim (chosen (nat_eq kind short) (making make (block_at w16 t bytes)) other (Some (e, rest)) h) [
          | inl same ↦ short_block_case kind short long t make bytes e rest (eqb-true kind short same.0) text fit fits small same.1
          | inr differs ↦ later differs.1
        ]

    long_block : (short long : ℕ) (make : Block → Event) (other : Option (Event × List ℕ)) → ((b : Block) → event_text (make b) ≡ by_length short long b) → ((b : Block) → BlockFits b → EventFits (make b))
        → (other ≡ Some (e, rest) → Operands kind t bytes e rest) → cond (nat_eq kind long) (making make (long_block_at t bytes)) other ≡ Some (e, rest) → Operands kind t bytes e rest
    long_block short long make other text fit later h =
        elim (chosen (nat_eq kind long) (making make (long_block_at t bytes)) other (Some (e, rest)) h) [
          | inl same ↦ long_block_case kind short long t make bytes e rest (eqb-true kind long same.0) text fit fits small same.1
          | inr differs ↦ later differs.1
        ]

pub event_takes : (bytes : List ℕ) (e : Event) (rest : List ℕ) → IsBytes bytes → event_at bytes ≡ Some (e, rest) → Takes bytes (event_text e) rest × EventFits e
unfolding event_at
event_takes bytes e rest fits h =
    let first = bind_some (byte_at bytes) (λ kind. number_at w16 kind.1 >>= λ t. operands_at kind.0 t.0 t.1) (e, rest) h in
    let kind = first.0 in
    let one = byte_takes bytes kind.0 kind.1 fits first.1 in
    let second = bind_some (number_at w16 kind.1) (λ t. operands_at kind.0 t.0 t.1) (e, rest) first.2 in
    let t = second.0 in
    let two = number_takes w16 (2 ^ 16) wide16 kind.1 t.0 t.1 one.0.rest_fits second.1 in
    let three = operands_takes kind.0 t.0 t.1 e rest two.0.rest_fits two.1 second.2 in
    let tail = Takes-then kind.1 (to_be_bytes w16 t.0) t.1 three.text rest two.0 three.takes in
    let whole = Takes-then bytes (kind.0 ∷ []) kind.1 (to_be_bytes w16 t.0 ++ three.text) rest one.0 tail in
    (subst (λ (text : List ℕ). Takes bytes text rest) (sym three.is) whole, three.fits)

pub record_takes : (bytes : List ℕ) (n : Named) (rest : List ℕ) → IsBytes bytes → record_at bytes ≡ Some (n, rest) → Takes bytes (record_text n) rest × RecordFits n
unfolding record_at
record_takes bytes n rest fits h =
    let first = bind_some (number_at w16 bytes) (λ source. number_at w64 source.1 >>= λ number. event_at number.1 >>= λ event. Some (record { source = source.0; number = number.0; event = event.0 }, event.1)) (n, rest) h in
    let source = first.0 in
    let one = number_takes w16 (2 ^ 16) wide16 bytes source.0 source.1 fits first.1 in
    let second = bind_some (number_at w64 source.1) (λ number. event_at number.1 >>= λ event. Some (record { source = source.0; number = number.0; event = event.0 }, event.1)) (n, rest) first.2 in
    let number = second.0 in
    let two = number_takes w64 (2 ^ 64) wide64 source.1 number.0 number.1 one.0.rest_fits second.1 in
    let third = bind_some (event_at number.1) (λ event. Some (record { source = source.0; number = number.0; event = event.0 }, event.1)) (n, rest) second.2 in
    let event = third.0 in
    let three = event_takes number.1 event.0 event.1 two.0.rest_fits third.1 in
    let made : Named = record { source = source.0; number = number.0; event = event.0 } in
    let is : (made, event.1) ≡ (n, rest) = some_is (made, event.1) (n, rest) third.2 in
    let tail = Takes-then source.1 (to_be_bytes w64 number.0) number.1 (event_text event.0) event.1 two.0 three.0 in
    let whole = Takes-then bytes (to_be_bytes w16 source.0) source.1 (to_be_bytes w64 number.0 ++ event_text event.0) event.1 one.0 tail in
    let all : RecordFits made = (one.1, (two.1, three.1)) in
    subst (λ (p : Named × List ℕ). Takes bytes (record_text p.0) p.1 × RecordFits p.0) is (whole, all)

-- ---- what was written is read again

thread_again : (kind t : ℕ) (text rest : List ℕ) → t < 2 ^ 16 → event_at ((kind ∷ (to_be_bytes w16 t ++ text)) ++ rest) ≡ operands_at kind t (text ++ rest)
unfolding event_at
thread_again kind t text rest small =
    ap (λ bytes. number_at w16 bytes >>= λ x. operands_at kind x.0 x.1) (append_assoc (to_be_bytes w16 t) text rest)
    ∙ ap (λ r. r >>= λ x. operands_at kind x.0 x.1) (number_again w16 (2 ^ 16) wide16 t (text ++ rest) small)

made_again : (w : Width) (limit : ℕ) (wide : IsWide w limit) (make : ℕ → Event) (n : ℕ) (rest : List ℕ) → n < limit → making make (number_at w (to_be_bytes w n ++ rest)) ≡ Some (make n, rest)
made_again w limit wide make n rest lt = ap (λ r. making make r) (number_again w limit wide n rest lt)

pair_again : (make : ℕ → Event) (n : ℕ) (rest : List ℕ) → n < 2 ^ 16 → making make (number_at w16 (to_be_bytes w16 n ++ rest)) ≡ Some (make n, rest)
pair_again = made_again w16 (2 ^ 16) wide16

message_again : (make : ℕ → Event) (n : ℕ) (rest : List ℕ) → n < 2 ^ 32 → making make (number_at w32 (to_be_bytes w32 n ++ rest)) ≡ Some (make n, rest)
message_again = made_again w32 (2 ^ 32) wide32

-- A block is read again in either spelling, where the kinds of the two are read so.
blocks_again : (short long : ℕ) (make : Block → Event) (b : Block) (rest : List ℕ) → BlockFits b → ((bytes : List ℕ) → operands_at short b.t bytes ≡ making make (block_at w16 b.t bytes)) → ((bytes : List ℕ) → operands_at long b.t bytes ≡ making make (long_block_at b.t bytes))
    → event_at (by_length short long b ++ rest) ≡ Some (make b, rest)
blocks_again short long make b rest fits as_short as_long =
    elim (cases_lt b.len (2 ^ 16)) [
      | inl lt ↦
          let text = to_be_bytes w64 b.at ++ to_be_bytes w16 b.len in
          ap (λ bytes. event_at (bytes ++ rest)) (by_length_short short long b (short_is b.len lt))
          ∙ (thread_again short b.t text rest fits.0 ∙ (as_short (text ++ rest) ∙ ap (λ r. making make r) (block_again w16 (2 ^ 16) wide16 b rest fits lt)))
      | inr le ↦
          let text = to_be_bytes w64 b.at ++ to_be_bytes w32 b.len in
          ap (λ bytes. event_at (bytes ++ rest)) (by_length_long short long b (long_is b.len le))
          ∙ (thread_again long b.t text rest fits.0 ∙ (as_long (text ++ rest) ∙ ap (λ r. making make r) (long_block_again b rest fits le)))
    ]

pub event_again : (e : Event) (rest : List ℕ) → EventFits e → event_at (event_text e ++ rest) ≡ Some (e, rest)
unfolding operands_at
event_again (Fork t n) rest fits = thread_again 1 t (to_be_bytes w16 n) rest fits.0 ∙ pair_again (λ c. Fork t c) n rest fits.1
event_again (Join t n) rest fits = thread_again 2 t (to_be_bytes w16 n) rest fits.0 ∙ pair_again (λ c. Join t c) n rest fits.1
event_again (Lock t n) rest fits = thread_again 3 t (to_be_bytes w16 n) rest fits.0 ∙ pair_again (λ c. Lock t c) n rest fits.1
event_again (RdLock t n) rest fits = thread_again 4 t (to_be_bytes w16 n) rest fits.0 ∙ pair_again (λ c. RdLock t c) n rest fits.1
event_again (Unlock t n) rest fits = thread_again 5 t (to_be_bytes w16 n) rest fits.0 ∙ pair_again (λ c. Unlock t c) n rest fits.1
event_again (Read a) rest fits = thread_again 6 a.t (to_be_bytes w64 a.at ++ a.len ∷ []) rest fits.0 ∙ ap (λ r. making Read r) (access_again a rest fits)
event_again (Write a) rest fits = thread_again 7 a.t (to_be_bytes w64 a.at ++ a.len ∷ []) rest fits.0 ∙ ap (λ r. making Write r) (access_again a rest fits)
event_again (Alloc b) rest fits = blocks_again 8 12 Alloc b rest fits (λ bytes. refl) (λ bytes. refl)
event_again (Free b) rest fits = blocks_again 9 13 Free b rest fits (λ bytes. refl) (λ bytes. refl)
event_again (Send t n) rest fits = thread_again 10 t (to_be_bytes w32 n) rest fits.0 ∙ message_again (λ k. Send t k) n rest fits.1
event_again (Recv t n) rest fits = thread_again 11 t (to_be_bytes w32 n) rest fits.0 ∙ message_again (λ k. Recv t k) n rest fits.1

pub record_again : (n : Named) (rest : List ℕ) → RecordFits n → record_at (record_text n ++ rest) ≡ Some (n, rest)
unfolding record_at
record_again n rest fits =
    ap (λ bytes. number_at w16 bytes >>= λ source. number_at w64 source.1 >>= λ number. event_at number.1 >>= λ event. Some (record { source = source.0; number = number.0; event = event.0 }, event.1))
    (append_assoc (to_be_bytes w16 n.source) (to_be_bytes w64 n.number ++ event_text n.event) rest)
    ∙ (ap (λ r. r >>= λ source. number_at w64 source.1 >>= λ number. event_at number.1 >>= λ event. Some (record { source = source.0; number = number.0; event = event.0 }, event.1))
    (number_again w16 (2 ^ 16) wide16 n.source ((to_be_bytes w64 n.number ++ event_text n.event) ++ rest) fits.0)
    ∙ (ap (λ bytes. number_at w64 bytes >>= λ number. event_at number.1 >>= λ event. Some (record { source = n.source; number = number.0; event = event.0 }, event.1))
    (append_assoc (to_be_bytes w64 n.number) (event_text n.event) rest)
    ∙ (ap (λ r. r >>= λ number. event_at number.1 >>= λ event. Some (record { source = n.source; number = number.0; event = event.0 }, event.1))
    (number_again w64 (2 ^ 64) wide64 n.number (event_text n.event ++ rest) fits.1.0)
    ∙ ap (λ r. r >>= λ event. Some (record { source = n.source; number = n.number; event = event.0 }, event.1)) (event_again n.event rest fits.1.1))))

-- No event begins another.
pub one_event : (a b : Event) (x y : List ℕ) → EventFits a → EventFits b → event_text a ++ x ≡ event_text b ++ y → (a ≡ b) × (x ≡ y)
one_event a b x y fits again same =
    let is : (a, x) ≡ (b, y) = some_is (a, x) (b, y) (sym (event_again a x fits) ∙ (ap (λ bytes. event_at bytes) same ∙ event_again b y again)) in
    (ap (λ (p : Event × List ℕ). p.0) is, ap (λ (p : Event × List ℕ). p.1) is)

-- No record begins another.
pub one_record : (a b : Named) (x y : List ℕ) → RecordFits a → RecordFits b → record_text a ++ x ≡ record_text b ++ y → (a ≡ b) × (x ≡ y)
one_record a b x y fits again same =
    let is : (a, x) ≡ (b, y) = some_is (a, x) (b, y) (sym (record_again a x fits) ∙ (ap (λ bytes. record_at bytes) same ∙ record_again b y again)) in
    (ap (λ (p : Named × List ℕ). p.0) is, ap (λ (p : Named × List ℕ). p.1) is)

-- Bytes that are the records of some events are the records of no others.
pub one_list : (xs ys : List Named) → AllByRecursion RecordFits xs → AllByRecursion RecordFits ys → flat_map record_text xs ≡ flat_map record_text ys → xs ≡ ys
one_list [] [] fits again same = refl
one_list [] (y ∷ ys) fits again same = absurd cc
one_list (x ∷ xs) [] fits again same = absurd cc
one_list (x ∷ xs) (y ∷ ys) fits again same =
    let first = one_record x y (flat_map record_text xs) (flat_map record_text ys) fits.0 again.0 same in
    let later = one_list xs ys fits.1 again.1 first.1 in
    λ i. first.0 i ∷ later i

-- what is left of some events behind those that were seen
pub record Parted (seen xs : List Named) (tail : List ℕ) : Type 0 where
  pub more : List Named
  pub all : xs ≡ seen ++ more
  pub text : flat_map record_text more ≡ tail
  pub fits : AllByRecursion RecordFits more

pub parted : (seen xs : List Named) (tail : List ℕ) → AllByRecursion RecordFits seen → AllByRecursion RecordFits xs → flat_map record_text xs ≡ flat_map record_text seen ++ tail → Parted seen xs tail
parted [] xs tail fits again same = record { more = xs; all = refl; text = same; fits = again }
parted (s ∷ seen) [] tail fits again same = absurd cc
parted (s ∷ seen) (x ∷ xs) tail fits again same =
    let first = one_record x s (flat_map record_text xs) (flat_map record_text seen ++ tail) again.0 fits.0 (same ∙ append_assoc (record_text s) (flat_map record_text seen) tail) in
    let later = parted seen xs tail fits.1 again.1 first.1 in
    record { more = later.more; all = λ i. first.0 i ∷ later.all i; text = later.text; fits = later.fits }
