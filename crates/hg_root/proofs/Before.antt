-- The predecessors of a segment: none, one or two, each read in its turn.
use Rattle.std.proofs.Common.{◌≡◌, ℕ, true, nat_le, List, [], ◌∷◌, Option, Some, None, refl, ◌∙◌, arith}
use Rattle.std.specs.Int.{w32}
use Rattle.hg_root.specs.declared.fault.RootFault.{RootFault}
use Rattle.hg_root.specs.Reading.{Fails, before_at, byte_at, number_at, times}
use Rattle.hg_root.proofs.Times.{ends, goes_on, is_done, with_front}

nothing_before : (x : Option (List ℕ × List ℕ)) → with_front (number_at w32) [] x ≡ x
nothing_before (Some x) = refl
nothing_before None = refl

module _ (bytes rest : List ℕ) where
  begins : (n : ℕ) → byte_at bytes ≡ Some (n, rest) → nat_le n 2 ≡ true → with_front (number_at w32) [] (times (number_at w32) n rest) ≡ before_at bytes
  begins n is few = nothing_before (times (number_at w32) n rest) ∙ rw (is, few) refl

  pub none_read : byte_at bytes ≡ Some (0, rest) → before_at bytes ≡ Some ([], rest)
  none_read is = is_done (number_at w32) [] 0 0 rest (before_at bytes) (omega arith) (begins 0 is refl)

  module _ (is : byte_at bytes ≡ Some (1, rest)) where
    pub one_fails : (e : RootFault) → Fails e (number_at w32 rest) → Fails e (before_at bytes)
    one_fails e fails = ends (number_at w32) e [] 1 0 rest (before_at bytes) (omega arith) fails (begins 1 is refl)

    pub one_read : (a : ℕ) (after : List ℕ) → number_at w32 rest ≡ Some (a, after) → before_at bytes ≡ Some (a ∷ [], after)
    one_read a after read =
        is_done (number_at w32) (a ∷ []) 1 1 after (before_at bytes) (omega arith) (goes_on (number_at w32) [] 1 0 rest a after (before_at bytes) (omega arith) read (begins 1 is refl))

  module _ (is : byte_at bytes ≡ Some (2, rest)) where
    pub first_fails : (e : RootFault) → Fails e (number_at w32 rest) → Fails e (before_at bytes)
    first_fails e fails = ends (number_at w32) e [] 2 0 rest (before_at bytes) (omega arith) fails (begins 2 is refl)

    module _ (a : ℕ) (after : List ℕ) (read : number_at w32 rest ≡ Some (a, after)) where
      so_far : with_front (number_at w32) (a ∷ []) (times (number_at w32) 1 after) ≡ before_at bytes
      so_far = goes_on (number_at w32) [] 2 0 rest a after (before_at bytes) (omega arith) read (begins 2 is refl)

      pub second_fails : (e : RootFault) → Fails e (number_at w32 after) → Fails e (before_at bytes)
      second_fails e fails = ends (number_at w32) e (a ∷ []) 2 1 after (before_at bytes) (omega arith) fails so_far

      pub two_read : (b : ℕ) (end : List ℕ) → number_at w32 after ≡ Some (b, end) → before_at bytes ≡ Some (a ∷ b ∷ [], end)
      two_read b end then =
          is_done (number_at w32) (a ∷ b ∷ []) 2 2 end (before_at bytes) (omega arith) (goes_on (number_at w32) (a ∷ []) 2 1 after b end (before_at bytes) (omega arith) then so_far)
