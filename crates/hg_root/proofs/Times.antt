-- Reading pieces one after the other, as a loop does.
use Rattle.std.proofs.Common.{◌≡◌, ℕ, suc, ◌-◌, ◌+◌, ◌≤◌, ◌<◌, List, [], ◌∷◌, ◌++◌, Option, Some, None, refl, sym, ap, ◌∙◌, append_assoc, arith}
use Rattle.std.proofs.lemmas.List.{append-nil}
use Rattle.hg_root.specs.declared.fault.RootFault.{RootFault}
use Rattle.hg_root.specs.declared.fault.RootFault.TheVariants as faults
use Rattle.hg_root.specs.Reading.{◌>>=◌, Fails, Reader, times}

module _ {X : Type 0} (read : Reader X) where
  -- what was read before, and what is still read
  abbrev pub with_front : List X → Option (List X × List ℕ) → Option (List X × List ℕ)
  with_front front rest = rest >>= λ x. Some (front ++ x.0, x.1)

  regroup : (front : List X) (n : X) (rest : Option (List X × List ℕ)) → with_front front (rest >>= λ x. Some (n ∷ x.0, x.1)) ≡ with_front (front ++ n ∷ []) rest
  regroup front n (Some x) = ap (λ (ns : List X). Some (ns, x.1)) (sym (append_assoc front (n ∷ []) x.0))
  regroup front n None = refl

  pub goes_on : (front : List X) (count i : ℕ) (bytes : List ℕ) (n : X) (after : List ℕ) (total : Option (List X × List ℕ)) → i < count → read bytes ≡ Some (n, after)
      → with_front front (times read (count - i) bytes) ≡ total → with_front (front ++ n ∷ []) (times read (count - (i + 1)) after) ≡ total
  unfolding times
  goes_on front count i bytes n after total lt h so_far =
      let k : count - i ≡ suc (count - (i + 1)) = omega arith in
      let one : with_front front (times read (count - i) bytes) ≡ with_front (front ++ n ∷ []) (times read (count - (i + 1)) after) = rw (k, h) (regroup front n (times read (count - (i + 1)) after)) in
      sym one ∙ so_far

  pub ends : (e : RootFault) (front : List X) (count i : ℕ) (bytes : List ℕ) (total : Option (List X × List ℕ)) → i < count → Fails e (read bytes)
      → with_front front (times read (count - i) bytes) ≡ total → Fails e total
  unfolding times
  ends faults.OutOfMemory front count i bytes total lt h so_far = tt
  ends faults.Damaged front count i bytes total lt h so_far =
      let k : count - i ≡ suc (count - (i + 1)) = omega arith in
      let one : with_front front (times read (count - i) bytes) ≡ None = rw (k, h) refl in
      sym so_far ∙ one
  ends faults.Broken front count i bytes total lt h so_far = h
  ends faults.DeviceFault front count i bytes total lt h so_far = h

  pub is_done : (front : List X) (count i : ℕ) (bytes : List ℕ) (total : Option (List X × List ℕ)) → count ≤ i → with_front front (times read (count - i) bytes) ≡ total → total ≡ Some (front, bytes)
  unfolding times
  is_done front count i bytes total le so_far =
      let k : count - i ≡ 0 = omega arith in
      let one : with_front front (times read (count - i) bytes) ≡ Some (front, bytes) = rw k (ap (λ (ns : List X). Some (ns, bytes)) (append-nil front)) in
      sym so_far ∙ one
