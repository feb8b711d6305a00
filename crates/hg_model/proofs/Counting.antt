-- What counts for an access, where a lock is added or given up at its place.
use Rattle.std.proofs.Common.{◌≡◌, ℕ, zero, suc, ◌+◌, ◌<◌, ◌≤◌, true, false, cond, not, nat_eq, nat_lt, List, [], ◌∷◌, length, map, filter, refl, sym, ap, ◌∙◌, arith, one-add}
use Rattle.std.proofs.lemmas.Bool.{ltb-true, ltb-false, le-leb, lt-leb, ne_eqb, eqb-false, or_parts}
use Rattle.std.specs.List.{insert, remove}
use Rattle.hg_model.specs.declared.held.HeldLock.{HeldLock}
use Rattle.hg_model.specs.Locks.{with_hold, without_lock, without_number, has_lock, counted, IsByRisingLock}
use Rattle.hg_model.proofs.Rising.{From, from_increasing, from_filter, place, place_among, inserted}

pub map_insert : {X : Type 0} (f : X → ℕ) (xs : List X) (n : ℕ) (x : X) → map f (insert xs n x) ≡ insert (map f xs) n (f x)
map_insert f xs zero x = refl
map_insert f [] (suc n) x = refl
map_insert f (y ∷ ys) (suc n) x = ap (λ r. f y ∷ r) (map_insert f ys n x)

pub map_remove : {X : Type 0} (f : X → ℕ) (xs : List X) (n : ℕ) → map f (remove xs n) ≡ remove (map f xs) n
map_remove f [] zero = refl
map_remove f [] (suc n) = refl
map_remove f (y ∷ ys) zero = refl
map_remove f (y ∷ ys) (suc n) = ap (λ r. f y ∷ r) (map_remove f ys n)

-- the locks that count for a read
pub read_with : (h : HeldLock) (hs : List HeldLock) → has_lock hs h.lock ≡ false → insert (counted false hs) (place h.lock hs) h.lock ≡ counted false (with_hold h hs)
read_with h hs absent = sym (map_insert (λ (x : HeldLock). x.lock) hs (place h.lock hs) h) ∙ ap (counted false) (inserted h hs absent)

-- a number below all of them belongs in front
in_front : (l : ℕ) (ns : List ℕ) → From l ns → place_among l ns ≡ 0
in_front l [] f = refl
in_front l (n ∷ ns) f = rw (le-leb l n f.0) refl

step_in : (x y : ℕ) (ys : List ℕ) (n : ℕ) → insert (y ∷ ys) (1 + n) x ≡ y ∷ insert ys n x
step_in x y ys n = ap (λ (m : ℕ). insert (y ∷ ys) m x) (one-add n)

-- the locks that count for a write, with one more that is held for reading alone
pub write_with_reader : (h : HeldLock) (hs : List HeldLock) → h.write ≡ false → has_lock hs h.lock ≡ false → counted true hs ≡ counted true (with_hold h hs)
write_with_reader h [] reads absent = rw reads refl
write_with_reader h (x ∷ hs) reads absent =
    let parts = or_parts (nat_eq x.lock h.lock) (has_lock hs h.lock) absent in
    elim (nat_lt h.lock x.lock) as (λ b. counted true (x ∷ hs) ≡ counted true (cond b (h ∷ x ∷ hs) (cond (nat_eq h.lock x.lock) (h ∷ hs) (x ∷ with_hold h hs)))) [
      | true ↦ rw reads refl
      | false ↦ rw (ne_eqb h.lock x.lock (λ e. eqb-false x.lock h.lock parts.0 (sym e)))
          (elim x.write as (λ w. map (λ (y : HeldLock). y.lock) (cond w (x ∷ filter (λ y. y.write) hs) (filter (λ y. y.write) hs)) ≡ map (λ (y : HeldLock). y.lock) (cond w (x ∷ filter (λ y. y.write) (with_hold h hs)) (filter (λ y. y.write) (with_hold h hs)))) [
            | true ↦ ap (λ r. x.lock ∷ r) (write_with_reader h hs reads parts.1)
            | false ↦ write_with_reader h hs reads parts.1
          ])
    ]

-- the locks that count for a write, with one more that is held for writing
pub write_with : (h : HeldLock) (n : ℕ) (hs : List HeldLock) → h.write ≡ true → From n (map (λ x. x.lock) hs) → has_lock hs h.lock ≡ false → insert (counted true hs) (place_among h.lock (counted true hs)) h.lock ≡ counted true (with_hold h hs)
write_with h n [] writes f absent = rw writes refl
write_with h n (x ∷ hs) writes f absent =
    let parts = or_parts (nat_eq x.lock h.lock) (has_lock hs h.lock) absent in
    let differs = eqb-false x.lock h.lock parts.0 in
    elim (nat_lt h.lock x.lock) as (λ b. nat_lt h.lock x.lock ≡ b → insert (counted true (x ∷ hs)) (place_among h.lock (counted true (x ∷ hs))) h.lock ≡ counted true (cond b (h ∷ x ∷ hs) (cond (nat_eq h.lock x.lock) (h ∷ hs) (x ∷ with_hold h hs)))) [
      | true ↦ λ less.
          let l = ltb-true h.lock x.lock less in
          rw writes (ap (λ (m : ℕ). insert (counted true (x ∷ hs)) m h.lock) (in_front h.lock (counted true (x ∷ hs)) (from_filter (λ y. y.write) h.lock (x ∷ hs) (omega arith, f.1))))
      | false ↦ λ more.
          let m = ltb-false h.lock x.lock more in
          rw (ne_eqb h.lock x.lock (λ e. differs (sym e)))
          (elim x.write as (λ w. (let now = map (λ (y : HeldLock). y.lock) (cond w (x ∷ filter (λ y. y.write) hs) (filter (λ y. y.write) hs)) in insert now (place_among h.lock now) h.lock) ≡ map (λ (y : HeldLock). y.lock) (cond w (x ∷ filter (λ y. y.write) (with_hold h hs)) (filter (λ y. y.write) (with_hold h hs)))) [
            | true ↦ behind (counted true hs) x.lock (let e = differs in omega arith) ∙ ap (λ r. x.lock ∷ r) (write_with h (suc x.lock) hs writes f.1 parts.1)
            | false ↦ write_with h (suc x.lock) hs writes f.1 parts.1
          ])
    ] refl
  where
    behind : (ns : List ℕ) (y : ℕ) → y < h.lock → insert (y ∷ ns) (place_among h.lock (y ∷ ns)) h.lock ≡ y ∷ insert ns (place_among h.lock ns) h.lock
    behind ns y less = rw (lt-leb h.lock y less) (step_in h.lock y ns (place_among h.lock ns))

-- the locks that count for a write, with one more
pub writing_with : (h : HeldLock) (hs : List HeldLock) → IsByRisingLock hs → has_lock hs h.lock ≡ false → cond h.write (insert (counted true hs) (place_among h.lock (counted true hs)) h.lock) (counted true hs) ≡ counted true (with_hold h hs)
writing_with h hs rising absent =
    elim h.write as (λ w. h.write ≡ w → cond w (insert (counted true hs) (place_among h.lock (counted true hs)) h.lock) (counted true hs) ≡ counted true (with_hold h hs)) [
      | true ↦ λ writes. write_with h 0 hs writes (from_increasing 0 _ (λ _. omega arith) rising) absent
      | false ↦ λ reads. write_with_reader h hs reads absent
    ] refl

-- at most all of them count
pub counted_few : (hs : List HeldLock) → length (counted true hs) ≤ length hs
counted_few [] = omega arith
counted_few (x ∷ hs) =
    elim x.write as (λ w. length (map (λ (y : HeldLock). y.lock) (cond w (x ∷ filter (λ y. y.write) hs) (filter (λ y. y.write) hs))) ≤ suc (length hs)) [
      | true ↦ let fewer = counted_few hs in omega arith
      | false ↦ let fewer = counted_few hs in omega arith
    ]

-- the locks that count for a write, without one
pub write_without : (l : ℕ) (hs : List HeldLock) → counted true (without_lock l hs) ≡ without_number l (counted true hs)
write_without l [] = refl
write_without l (x ∷ hs) =
    elim x.write as (λ w. x.write ≡ w → counted true (cond (not (nat_eq x.lock l)) (x ∷ without_lock l hs) (without_lock l hs)) ≡ without_number l (map (λ (y : HeldLock). y.lock) (cond w (x ∷ filter (λ y. y.write) hs) (filter (λ y. y.write) hs)))) [
      | true ↦ λ writes. elim (not (nat_eq x.lock l)) as (λ b. counted true (cond b (x ∷ without_lock l hs) (without_lock l hs)) ≡ cond b (x.lock ∷ without_number l (counted true hs)) (without_number l (counted true hs))) [
        | true ↦ rw writes (ap (λ r. x.lock ∷ r) (write_without l hs))
        | false ↦ write_without l hs
      ]
      | false ↦ λ reads. elim (not (nat_eq x.lock l)) as (λ b. counted true (cond b (x ∷ without_lock l hs) (without_lock l hs)) ≡ without_number l (counted true hs)) [
        | true ↦ rw reads (write_without l hs)
        | false ↦ write_without l hs
      ]
    ] refl
