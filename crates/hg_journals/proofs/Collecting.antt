-- What is read of a pair from a number on.
use Rattle.std.proofs.Common.{◌≡◌, ◌⊎◌, inl, inr, ◌<◌, ◌≤◌, ◌+◌, ◌-◌, ℕ, zero, suc, Bool, false, IsTrue, List, [], ◌∷◌, ◌++◌, length, min, take, drop, Result, Ok, Err, IfErr, refl, sym, ◌∙◌, ap, subst, arith, append_assoc}
use Rattle.std.proofs.lemmas.Bool.{true≢false}
use Rattle.std.proofs.lemmas.List.{drop_at, length-append, length-drop, take_min}
use Rattle.hg_model.specs.declared.event.Named.{Named}
use Rattle.hg_model.specs.declared.verdict.Refusal.{Refusal}
use Rattle.hg_model.specs.declared.verdict.Refusal.TheVariants.{Broken}
use Rattle.hg_disk.specs.declared.disk.Disk as disk
use Rattle.hg_gate.proofs.Walking.{at_most, read_again, unread}
use Rattle.hg_journal.specs.Journal.{IsOfReading, failed_after}
use Rattle.hg_journals.specs.Pairs.{failures, first_of, second_of}
use Rattle.hg_journals.specs.Reading.{Reads}
use Rattle.hg_journals.specs.declared.pair.JournalPair.{JournalPair}
use Rattle.hg_journals.proofs.Walking.{never_broken, or_broken, still_same}

take_front : (xs ys : List Named) (n : ℕ) → length xs ≡ n → take n (xs ++ ys) ≡ xs
take_front [] ys n is = ap (λ (k : ℕ). take k ys) (sym is)
take_front (x ∷ xs) ys zero is = absurd (omega (arith, is))
take_front (x ∷ xs) ys (suc n) is = ap (λ (l : List Named). x ∷ l) (take_front xs ys n (omega (arith, is)))

take_few : (xs : List Named) (n : ℕ) → length xs ≤ n → take n xs ≡ xs
take_few [] zero le = refl
take_few [] (suc n) le = refl
take_few (x ∷ xs) zero le = absurd (omega (arith, le))
take_few (x ∷ xs) (suc n) le = ap (λ (l : List Named). x ∷ l) (take_few xs n (omega (arith, le)))

-- one more was found
pub one_more : (seen found items : List Named) (named : Named) → items ≡ found ++ named ∷ [] → (seen ++ found) ++ named ∷ [] ≡ seen ++ items
one_more seen found items named is = append_assoc seen found (named ∷ []) ∙ ap (λ (l : List Named). seen ++ l) (sym is)

pub size_more : (found items : List Named) (named : Named) → items ≡ found ++ named ∷ [] → length items ≡ length found + 1
size_more found items named is = ap (λ (l : List Named). length l) is ∙ length-append found (named ∷ [])

-- so many as were wanted were found
pub found_enough : (seen found left events : List Named) (n : ℕ) → events ≡ (seen ++ found) ++ left → length found ≡ n → found ≡ take n (drop (length seen) events)
found_enough seen found left events n whole size =
    let rest : drop (length seen) events ≡ found ++ left = ap (λ (l : List Named). drop (length seen) l) (whole ∙ append_assoc seen found left) ∙ drop_at seen (found ++ left) (length seen) refl in
    sym (ap (λ (l : List Named). take n l) rest ∙ take_front found left n size)

-- all that are left were found
pub found_all : (seen found events : List Named) (n : ℕ) → seen ++ found ≡ events → length found ≤ n → found ≡ take n (drop (length seen) events)
found_all seen found events n whole few =
    let rest : drop (length seen) events ≡ found = ap (λ (l : List Named). drop (length seen) l) (sym whole) ∙ drop_at seen found (length seen) refl in
    sym (ap (λ (l : List Named). take n l) rest ∙ take_few found n few)

-- no more than there are can be found
pub found_wanted : (events : List Named) (k n most count : ℕ) → length events ≡ count → n ≡ min most (count - k) → take n (drop k events) ≡ take most (drop k events)
found_wanted events k n most count size is =
    let there : length (drop k events) ≡ count - k = length-drop k events ∙ ap (λ (c : ℕ). c - k) size in
    ap (λ (m : ℕ). take m (drop k events)) (is ∙ ap (λ (m : ℕ). min most m) (sym there)) ∙ take_min most (drop k events)

-- a number of a kept event, or the base
pub inside : (count base last : ℕ) → base ≤ count → count ≤ last → (count < base) ⊎ (last < count) → ⊥
inside count base last low high (inl less) = absurd (omega (arith, low, less))
inside count base last low high (inr more) = absurd (omega (arith, high, more))

-- what a count that is not 0 tells, and what 0 tells
module _ (count : ℕ) (A : Type 0) (R : List Named → Type 0) where
  pub some_more : (count ≡ 0 → ⊥) → ((count ≡ 0) × A) ⊎ ((1 ≤ count) × (more : List Named) × (length more ≡ count) × R more) → (more : List Named) × (length more ≡ count) × R more
  some_more some (inl h) = absurd (some h.0)
  some_more some (inr h) = (h.1, h.2, h.3)

  pub no_more : count ≡ 0 → ((count ≡ 0) × A) ⊎ ((1 ≤ count) × (more : List Named) × (length more ≡ count) × R more) → A
  no_more none (inl h) = h.1
  no_more none (inr h) = absurd (omega (arith, none, h.0))

module _ {D : Type 0} (g : disk.Ghosts D) where
  -- a pair that was not read
  pub unread_pair : {T : Type 0} (n : ℕ) (p : JournalPair D g) (result : Result T Refusal) → IfErr result IsOfReading → failures p ≡ failed_after result (failures p) → p.is_broken ≡ false → Reads n p p result
  unread_pair n p result fault device works = record {
    same = record { base = refl; newer_base = refl; last = refl; spare = refl; turn = refl; broken = refl };
    first = unread g n (first_of p);
    second = unread g n (second_of p);
    fault = or_broken result fault;
    device = device;
    refuses = λ is. absurd (true≢false (sym is ∙ works));
    broken = never_broken (IsTrue p.is_broken) result fault;
  }

  -- read, with whatever it answers
  pub reads_ok : {T U : Type 0} (a n : ℕ) (p q : JournalPair D g) (value : T) (other : U) → a ≤ n → Reads a p q (Ok value) → p.is_broken ≡ false → Reads n p q (Ok other)
  reads_ok a n p q value other few h works = record {
    same = h.same;
    first = at_most g a n (first_of p) (first_of q) few h.first;
    second = at_most g a n (second_of p) (second_of q) few h.second;
    fault = tt;
    device = h.device;
    refuses = λ is. absurd (true≢false (sym is ∙ works));
    broken = tt;
  }

  -- read, and then read on
  pub reads_on : {T U : Type 0} (a b n : ℕ) (p q r : JournalPair D g) (value : T) (result : Result U Refusal) → a + b ≤ n → Reads a p q (Ok value) → Reads b q r result → p.is_broken ≡ false → Reads n p r result
  reads_on a b n p q r value result few one two works = record {
    same = still_same g p q r one.same two.same;
    first = read_again g a b n (first_of p) (first_of q) (first_of r) few one.first two.first;
    second = read_again g a b n (second_of p) (second_of q) (second_of r) few one.second two.second;
    fault = two.fault;
    device = two.device ∙ ap (λ (k : ℕ). failed_after result k) one.device;
    refuses = λ is. absurd (true≢false (sym is ∙ works));
    broken = subst (λ (b : Bool). IfErr result (λ e. e ≡ Broken → IsTrue b)) one.same.broken two.broken;
  }

  -- read, and refused
  pub reads_refused : {T U : Type 0} (n : ℕ) (p q : JournalPair D g) (e : Refusal) (result : Result U Refusal) → Reads {T = T} n p q (Err e) → result ≡ Err e → p.is_broken ≡ false → Reads n p q result
  reads_refused {U = U} n p q e result h is works =
      subst (λ (r : Result U Refusal). Reads n p q r) (sym is)
      (record {
        same = h.same;
        first = h.first;
        second = h.second;
        fault = h.fault;
        device = h.device;
        refuses = λ is. absurd (true≢false (sym is ∙ works));
        broken = h.broken;
      })
