-- What is read is spelled so, and what is spelled so is read: shown once for each way of putting readers together.
use Rattle.std.proofs.Common.{◌≡◌, inl, inr, ℕ, zero, suc, ◌+◌, ◌^◌, ◌<◌, ◌≤◌, Bool, true, false, cond, ltb, List, [], ◌∷◌, ◌++◌, length, get_or, take, drop, Option, Some, None, refl, sym, ap, subst, ◌∙◌, append_assoc, arith}
use Rattle.std.specs.Int.{Width, w16, w32, w64, byte_len, from_be_bytes, to_be_bytes}
use Rattle.std.specs.List.{flat_map, AllByRecursion}
use Rattle.std.proofs.lemmas.Bool.{cases_lt, ltb-false, le-ltb}
use Rattle.std.proofs.lemmas.List.{take_at, drop_at, take-append-drop, length-append, length-take, get_or-drop, get_or-take, get_or_past}
use Rattle.std.proofs.lemmas.Nat.{be_bytes_2, be_bytes_4, be_bytes_8, from_be_bytes-to_be_bytes_2, from_be_bytes-to_be_bytes_4, from_be_bytes-to_be_bytes_8}
use Rattle.hg_root.specs.Reading.{◌>>=◌, Reader, both, byte_at, chained, given, listed, made, number_at, such_that, times}

abbrev pub IsBytes : List ℕ → Type 0
IsBytes bytes = (i : ℕ) → get_or bytes i 0 < 256

IsBytes-drop : (n : ℕ) (bytes : List ℕ) → IsBytes bytes → IsBytes (drop n bytes)
IsBytes-drop n bytes h i = rw get_or-drop (h (n + i))

IsBytes-take : (n : ℕ) (bytes : List ℕ) → IsBytes bytes → IsBytes (take n bytes)
IsBytes-take n bytes h i =
    elim (cases_lt i n) [
      | inl lt ↦ rw (get_or-take n bytes i 0 lt) (h i)
      | inr le ↦ rw (get_or_past (take n bytes) i 0 (omega (arith, length-take n bytes))) (omega arith)
    ]

IsBytes-rest : (b : ℕ) (bytes : List ℕ) → IsBytes (b ∷ bytes) → IsBytes bytes
IsBytes-rest b bytes h i = h (suc i)

-- the value of a step that read something
pub bind_some : {A B : Type 0} (r : Option A) (f : A → Option B) (y : B) → (r >>= f) ≡ Some y → (x : A) × (r ≡ Some x) × (f x ≡ Some y)
bind_some (Some x) f y e = (x, refl, e)
bind_some None f y e = absurd cc

guard_some : {A : Type 0} (b : Bool) (x y : A) → cond b None (Some x) ≡ Some y → (b ≡ false) × (x ≡ y)
guard_some true x y e = absurd cc
guard_some false x y e = (refl, cc)

test_some : {A : Type 0} (b : Bool) (x y : A) → cond b (Some x) None ≡ Some y → (b ≡ true) × (x ≡ y)
test_some true x y e = (refl, cc)
test_some false x y e = absurd cc

pub some_is : {A : Type 0} (x y : A) → Some x ≡ Some y → x ≡ y
some_is x y e = cc

-- what a reader took from the front
pub record Takes (bytes text rest : List ℕ) : Type 0 where
  pub parts : bytes ≡ text ++ rest
  pub rest_fits : IsBytes rest

Takes-then : (a x b y c : List ℕ) → Takes a x b → Takes b y c → Takes a (x ++ y) c
Takes-then a x b y c p q = record { parts = p.parts ∙ ap (λ (t : List ℕ). x ++ t) q.parts ∙ sym (append_assoc x y c); rest_fits = q.rest_fits }

-- The reader and the spelling belong together.
pub record IsFormat {X : Type 0} (text : X → List ℕ) (read : Reader X) (Fits : X → Type 0) : Type 0 where
  pub takes : (bytes : List ℕ) (x : X) (rest : List ℕ) → IsBytes bytes → read bytes ≡ Some (x, rest) → Takes bytes (text x) rest × Fits x
  pub again : (x : X) (rest : List ℕ) → Fits x → read (text x ++ rest) ≡ Some (x, rest)

-- ---- numbers

record IsWide (w : Width) (limit : ℕ) : Type 0 where
  pub len : (n : ℕ) → length (to_be_bytes w n) ≡ byte_len w
  pub back : (bytes : List ℕ) → length bytes ≡ byte_len w → IsBytes bytes → to_be_bytes w (from_be_bytes w bytes) ≡ bytes
  pub again : (n : ℕ) → n < limit → from_be_bytes w (to_be_bytes w n) ≡ n
  pub below : (bytes : List ℕ) → IsBytes bytes → from_be_bytes w bytes < limit

wide16 : IsWide w16 (2 ^ 16)
wide16 = record {
  len = λ n. refl;
  back = λ bytes len fits. be_bytes_2 bytes _ len fits refl;
  again = λ n lt. from_be_bytes-to_be_bytes_2 n lt;
  below = λ bytes fits. omega (arith, fits 0, fits 1);
}

wide32 : IsWide w32 (2 ^ 32)
wide32 = record {
  len = λ n. refl;
  back = λ bytes len fits. be_bytes_4 bytes _ len fits refl;
  again = λ n lt. from_be_bytes-to_be_bytes_4 n lt;
  below = λ bytes fits. omega (arith, fits 0, fits 1, fits 2, fits 3);
}

wide64 : IsWide w64 (2 ^ 64)
wide64 = record {
  len = λ n. refl;
  back = λ bytes len fits. be_bytes_8 bytes _ len fits refl;
  again = λ n lt. from_be_bytes-to_be_bytes_8 n lt;
  below = λ bytes fits. omega (arith, fits 0, fits 1, fits 2, fits 3, fits 4, fits 5, fits 6, fits 7);
}

number_takes : (w : Width) (limit : ℕ) (wide : IsWide w limit) (bytes : List ℕ) (n : ℕ) (rest : List ℕ) → IsBytes bytes → number_at w bytes ≡ Some (n, rest) → Takes bytes (to_be_bytes w n) rest × (n < limit)
number_takes w limit wide bytes n rest fits e =
    let g = guard_some (ltb (length bytes) (byte_len w)) (from_be_bytes w (take (byte_len w) bytes), drop (byte_len w) bytes) (n, rest) e in
    let long : byte_len w ≤ length bytes = ltb-false _ _ g.0 in
    let n-is : from_be_bytes w (take (byte_len w) bytes) ≡ n = ap (λ (p : ℕ × List ℕ). p.0) g.1 in
    let rest-is : drop (byte_len w) bytes ≡ rest = ap (λ (p : ℕ × List ℕ). p.1) g.1 in
    let front : to_be_bytes w n ≡ take (byte_len w) bytes = rw (← n-is) (wide.back (take (byte_len w) bytes) (omega (arith, length-take (byte_len w) bytes)) (IsBytes-take (byte_len w) bytes fits)) in
    (record { parts = rw (front, ← rest-is) (sym (take-append-drop (byte_len w) bytes)); rest_fits = rw (← rest-is) (IsBytes-drop (byte_len w) bytes fits) }, rw (← n-is) (wide.below (take (byte_len w) bytes) (IsBytes-take (byte_len w) bytes fits)))

number_again : (w : Width) (limit : ℕ) (wide : IsWide w limit) (n : ℕ) (rest : List ℕ) → n < limit → number_at w (to_be_bytes w n ++ rest) ≡ Some (n, rest)
number_again w limit wide n rest lt =
    let len = wide.len n in
    let long : ltb (length (to_be_bytes w n ++ rest)) (byte_len w) ≡ false = le-ltb _ _ (omega (arith, length-append (to_be_bytes w n) rest)) in
    rw (long, take_at (to_be_bytes w n) rest (byte_len w) len, drop_at (to_be_bytes w n) rest (byte_len w) len, wide.again n lt) refl

wide_format : (w : Width) (limit : ℕ) → IsWide w limit → IsFormat (to_be_bytes w) (number_at w) (λ n. n < limit)
wide_format w limit wide = record { takes = λ bytes n rest fits e. number_takes w limit wide bytes n rest fits e; again = λ n rest lt. number_again w limit wide n rest lt }

pub format16 : IsFormat (to_be_bytes w16) (number_at w16) (λ n. n < 2 ^ 16)
format16 = wide_format w16 (2 ^ 16) wide16

pub format32 : IsFormat (to_be_bytes w32) (number_at w32) (λ n. n < 2 ^ 32)
format32 = wide_format w32 (2 ^ 32) wide32

pub format64 : IsFormat (to_be_bytes w64) (number_at w64) (λ n. n < 2 ^ 64)
format64 = wide_format w64 (2 ^ 64) wide64

byte_takes : (bytes : List ℕ) (b : ℕ) (rest : List ℕ) → IsBytes bytes → byte_at bytes ≡ Some (b, rest) → Takes bytes (b ∷ []) rest × (b < 2 ^ 8)
byte_takes [] b rest fits e = absurd cc
byte_takes (a ∷ bytes) b rest fits e =
    subst (λ (p : ℕ × List ℕ). Takes (a ∷ bytes) (p.0 ∷ []) p.1 × (p.0 < 2 ^ 8)) (some_is (a, bytes) (b, rest) e)
    (record { parts = refl; rest_fits = IsBytes-rest a bytes fits }, fits 0)

pub format8 : IsFormat (λ b. b ∷ []) byte_at (λ b. b < 2 ^ 8)
format8 = record { takes = byte_takes; again = λ b rest lt. refl }

-- ---- readers put together

pub both_format : {A B : Type 0} (ta : A → List ℕ) (ra : Reader A) (FA : A → Type 0) (tb : B → List ℕ) (rb : Reader B) (FB : B → Type 0) → IsFormat ta ra FA → IsFormat tb rb FB
    → IsFormat (λ (p : A × B). ta p.0 ++ tb p.1) (both ra rb) (λ p. FA p.0 × FB p.1)
both_format {A = A} {B = B} ta ra FA tb rb FB one other = record {
  takes = λ bytes p rest fits e.
      let a = bind_some (ra bytes) (λ x. rb x.1 >>= λ y. Some ((x.0, y.0), y.1)) (p, rest) e in
      let b = bind_some (rb a.0.1) (λ y. Some ((a.0.0, y.0), y.1)) (p, rest) a.2 in
      let first = one.takes bytes a.0.0 a.0.1 fits a.1 in
      let second = other.takes a.0.1 b.0.0 b.0.1 first.0.rest_fits b.1 in
      let is = some_is ((a.0.0, b.0.0), b.0.1) (p, rest) b.2 in
      subst (λ (x : (A × B) × List ℕ). Takes bytes (ta x.0.0 ++ tb x.0.1) x.1 × (FA x.0.0 × FB x.0.1)) is
      (Takes-then bytes (ta a.0.0) a.0.1 (tb b.0.0) b.0.1 first.0 second.0, (first.1, second.1));
  again = λ p rest fits.
      ap (λ (bytes : List ℕ). both ra rb bytes) (append_assoc (ta p.0) (tb p.1) rest)
      ∙ ap (λ r. r >>= λ a. rb a.1 >>= λ b. Some ((a.0, b.0), b.1)) (one.again p.0 (tb p.1 ++ rest) fits.0)
      ∙ ap (λ r. r >>= λ b. Some ((p.0, b.0), b.1)) (other.again p.1 rest fits.1);
}

-- one, and then another that depends on it
pub chained_format : {A B : Type 0} (ta : A → List ℕ) (ra : Reader A) (FA : A → Type 0) (tb : A → B → List ℕ) (rb : A → Reader B) (FB : A → B → Type 0) → IsFormat ta ra FA → ((a : A) → IsFormat (tb a) (rb a) (FB a))
    → IsFormat (λ (p : A × B). ta p.0 ++ tb p.0 p.1) (chained ra rb) (λ p. FA p.0 × FB p.0 p.1)
chained_format {A = A} {B = B} ta ra FA tb rb FB one other = record {
  takes = λ bytes p rest fits e.
      let a = bind_some (ra bytes) (λ x. rb x.0 x.1 >>= λ y. Some ((x.0, y.0), y.1)) (p, rest) e in
      let b = bind_some (rb a.0.0 a.0.1) (λ y. Some ((a.0.0, y.0), y.1)) (p, rest) a.2 in
      let first = one.takes bytes a.0.0 a.0.1 fits a.1 in
      let second = (other a.0.0).takes a.0.1 b.0.0 b.0.1 first.0.rest_fits b.1 in
      let is = some_is ((a.0.0, b.0.0), b.0.1) (p, rest) b.2 in
      subst (λ (x : (A × B) × List ℕ). Takes bytes (ta x.0.0 ++ tb x.0.0 x.0.1) x.1 × (FA x.0.0 × FB x.0.0 x.0.1)) is
      (Takes-then bytes (ta a.0.0) a.0.1 (tb a.0.0 b.0.0) b.0.1 first.0 second.0, (first.1, second.1));
  again = λ p rest fits.
      ap (λ (bytes : List ℕ). chained ra rb bytes) (append_assoc (ta p.0) (tb p.0 p.1) rest)
      ∙ ap (λ r. r >>= λ a. rb a.0 a.1 >>= λ b. Some ((a.0, b.0), b.1)) (one.again p.0 (tb p.0 p.1 ++ rest) fits.0)
      ∙ ap (λ r. r >>= λ b. Some ((p.0, b.0), b.1)) ((other p.0).again p.1 rest fits.1);
}

-- a value of no bytes
pub given_format : {X : Type 0} (x : X) → IsFormat (λ (y : X). []) (given x) (λ y. y ≡ x)
given_format {X = X} x = record {
  takes = λ bytes y rest fits e.
      subst (λ (z : X × List ℕ). Takes bytes [] z.1 × (z.0 ≡ x)) (some_is (x, bytes) (y, rest) e) (record { parts = refl; rest_fits = fits }, refl);
  again = λ y rest is. ap (λ (z : X). Some (z, rest)) (sym is);
}

-- a format, where the bytes are said in other words
pub spelled_format : {X : Type 0} (t u : X → List ℕ) (r : Reader X) (F : X → Type 0) → IsFormat t r F → ((x : X) → t x ≡ u x) → IsFormat u r F
spelled_format t u r F format same = record {
  takes = λ bytes x rest fits e. let both = format.takes bytes x rest fits e in (subst (λ (l : List ℕ). Takes bytes l rest) (same x) both.0, both.1);
  again = λ x rest fits. ap (λ (l : List ℕ). r (l ++ rest)) (sym (same x)) ∙ format.again x rest fits;
}

pub made_format : {A X : Type 0} (t : A → List ℕ) (r : Reader A) (F : A → Type 0) (make : A → X) (parts : X → A) → IsFormat t r F → ((a : A) → F a → parts (make a) ≡ a) → ((x : X) → make (parts x) ≡ x)
    → IsFormat (λ x. t (parts x)) (made make r) (λ x. F (parts x))
made_format {A = A} {X = X} t r F make parts format there back = record {
  takes = λ bytes x rest fits e.
      let a = bind_some (r bytes) (λ y. Some (make y.0, y.1)) (x, rest) e in
      let first = format.takes bytes a.0.0 a.0.1 fits a.1 in
      let is = some_is (make a.0.0, a.0.1) (x, rest) a.2 in
      subst (λ (y : X × List ℕ). Takes bytes (t (parts y.0)) y.1 × F (parts y.0)) is
      (subst (λ (y : A). Takes bytes (t y) a.0.1 × F y) (sym (there a.0.0 first.1)) first);
  again = λ x rest fits.
      ap (λ r. r >>= λ a. Some (make a.0, a.1)) (format.again (parts x) rest fits) ∙ ap (λ y. Some (y, rest)) (back x);
}

pub such_that_format : {X : Type 0} (t : X → List ℕ) (r : Reader X) (F : X → Type 0) (test : X → Bool) → IsFormat t r F → IsFormat t (such_that test r) (λ x. F x × (test x ≡ true))
such_that_format {X = X} t r F test format = record {
  takes = λ bytes x rest fits e.
      let a = bind_some (r bytes) (λ y. cond (test y.0) (Some y) None) (x, rest) e in
      let first = format.takes bytes a.0.0 a.0.1 fits a.1 in
      let g = test_some (test a.0.0) a.0 (x, rest) a.2 in
      subst (λ (y : X × List ℕ). Takes bytes (t y.0) y.1 × (F y.0 × (test y.0 ≡ true))) g.1 (first.0, (first.1, g.0));
  again = λ x rest fits.
      ap (λ r. r >>= λ y. cond (test y.0) (Some y) None) (format.again x rest fits.0) ∙ ap (λ b. cond b (Some (x, rest)) None) fits.1;
}

-- a format, where what fits is said in other words
pub as_format : {X : Type 0} (t : X → List ℕ) (r : Reader X) (F G : X → Type 0) → IsFormat t r F → ((x : X) → F x → G x) → ((x : X) → G x → F x) → IsFormat t r G
as_format t r F G format to from = record {
  takes = λ bytes x rest fits e. let both = format.takes bytes x rest fits e in (both.0, to x both.1);
  again = λ x rest fits. format.again x rest (from x fits);
}

module _ {X : Type 0} (t : X → List ℕ) (r : Reader X) (F : X → Type 0) (format : IsFormat t r F) where
  times_take : (n : ℕ) (bytes : List ℕ) (xs : List X) (rest : List ℕ) → IsBytes bytes → times r n bytes ≡ Some (xs, rest) → Takes bytes (flat_map t xs) rest × (length xs ≡ n) × AllByRecursion F xs
  unfolding times
  times_take zero bytes xs rest fits e =
      subst (λ (y : List X × List ℕ). Takes bytes (flat_map t y.0) y.1 × (length y.0 ≡ 0) × AllByRecursion F y.0) (some_is ([], bytes) (xs, rest) e) (record { parts = refl; rest_fits = fits }, refl, tt)
  times_take (suc n) bytes xs rest fits e =
      let a = bind_some (r bytes) (λ first. times r n first.1 >>= λ others. Some (first.0 ∷ others.0, others.1)) (xs, rest) e in
      let b = bind_some (times r n a.0.1) (λ others. Some (a.0.0 ∷ others.0, others.1)) (xs, rest) a.2 in
      let first = format.takes bytes a.0.0 a.0.1 fits a.1 in
      let second = times_take n a.0.1 b.0.0 b.0.1 first.0.rest_fits b.1 in
      let both = Takes-then bytes (t a.0.0) a.0.1 (flat_map t b.0.0) b.0.1 first.0 second.0 in
      subst (λ (y : List X × List ℕ). Takes bytes (flat_map t y.0) y.1 × (length y.0 ≡ suc n) × AllByRecursion F y.0) (some_is (a.0.0 ∷ b.0.0, b.0.1) (xs, rest) b.2)
      (both, ap suc second.1, (first.1, second.2))

  times_again : (xs : List X) (rest : List ℕ) → AllByRecursion F xs → times r (length xs) (flat_map t xs ++ rest) ≡ Some (xs, rest)
  unfolding times
  times_again [] rest fits = refl
  times_again (x ∷ xs) rest fits =
      ap (λ (bytes : List ℕ). times r (suc (length xs)) bytes) (append_assoc (t x) (flat_map t xs) rest)
      ∙ ap (λ q. q >>= λ first. times r (length xs) first.1 >>= λ others. Some (first.0 ∷ others.0, others.1)) (format.again x (flat_map t xs ++ rest) fits.0)
      ∙ ap (λ q. q >>= λ others. Some (x ∷ others.0, others.1)) (times_again xs rest fits.1)

  pub listed_format : (tc : ℕ → List ℕ) (rc : Reader ℕ) (FC : ℕ → Type 0) → IsFormat tc rc FC → IsFormat (λ xs. tc (length xs) ++ flat_map t xs) (listed rc r) (λ xs. FC (length xs) × AllByRecursion F xs)
  listed_format tc rc FC count = record {
    takes = λ bytes xs rest fits e.
        let n = bind_some (rc bytes) (λ k. times r k.0 k.1) (xs, rest) e in
        let first = count.takes bytes n.0.0 n.0.1 fits n.1 in
        let second = times_take n.0.0 n.0.1 xs rest first.0.rest_fits n.2 in
        let many = sym second.1 in
        (subst (λ (k : ℕ). Takes bytes (tc k ++ flat_map t xs) rest) many (Takes-then bytes (tc n.0.0) n.0.1 (flat_map t xs) rest first.0 second.0), (subst FC many first.1, second.2));
    again = λ xs rest fits.
        ap (λ (bytes : List ℕ). listed rc r bytes) (append_assoc (tc (length xs)) (flat_map t xs) rest)
        ∙ ap (λ q. q >>= λ k. times r k.0 k.1) (count.again (length xs) (flat_map t xs ++ rest) fits.0)
        ∙ times_again xs rest fits.1;
  }
