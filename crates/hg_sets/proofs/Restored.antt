-- Why a list of sets is no table's.
use Rattle.std.proofs.Common.{◌≡◌, ℕ, ◌<◌, List, length, take, get_or, Contains, sym, ◌∙◌, subst, arith, length-take}
use Rattle.std.specs.List.Sorted.{IsStrictlyIncreasing}
use Rattle.std.proofs.lemmas.List.{get_or-take}
use Rattle.hg_sets.specs.Interning.{AreSets, Table}

-- a set that does not rise, or stands before
pub not_new : (limit i : ℕ) (sets : List (List ℕ)) (x members : List ℕ) (t : Table) → i < length sets → x ≡ get_or sets i x → members ≡ x → t ≡ record { limit = limit; sets = take i sets }
    → (IsStrictlyIncreasing members × (Contains t.sets members → ⊥) → ⊥) → AreSets (record { limit = limit; sets = sets }) → ⊥
not_new limit i sets x members t within at same is refused are =
    let each : members ≡ get_or sets i x = same ∙ at in
    let rising : IsStrictlyIncreasing members = subst IsStrictlyIncreasing (sym each) (are.rising i x within) in
    refused (
      rising,
      λ stands.
          let stood = subst (λ (u : Table). Contains u.sets members) is stands in
          let earlier : stood.0 < i = omega (arith, length-take i sets, stood.1) in
          let one : get_or sets stood.0 members ≡ members = sym (get_or-take i sets stood.0 members earlier) ∙ stood.2 in
          let other : get_or sets i members ≡ members = sym (subst (λ (y : List ℕ). y ≡ get_or sets i y) (sym same) at) in
          are.distinct stood.0 i members earlier within (one ∙ sym other),
    )
