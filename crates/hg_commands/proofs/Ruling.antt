-- The trace rules refuse no event for a fault of the store.
use Rattle.std.proofs.Common.{◌≡◌, ◌∙◌, ◌+◌, Bool, true, false, nat_le, nat_lt, List, [], ◌∷◌, refl, sym, ap, if◌then◌else◌}
use Rattle.std.proofs.lemmas.Bool.{true≢false}
use Rattle.std.specs.List.{AllByRecursion}
use Rattle.hg_model.specs.declared.event.Named.{Named}
use Rattle.hg_model.specs.declared.verdict.Refusal.{Refusal}
use Rattle.hg_model.specs.declared.verdict.Refusal.TheVariants as refusal
use Rattle.hg_model.specs.declared.verdict.Verdict.{Verdict}
use Rattle.hg_model.specs.declared.verdict.Verdict.TheVariants.{Duplicate, Refuse}
use Rattle.hg_model.specs.Verdicts.{Standing, causes, first_cause, verdict}

-- bytes outside the formats, or a broken store
abbrev is_of_store : Refusal → Bool
is_of_store refusal.Damaged = true
is_of_store refusal.Broken = true
is_of_store _ = false

abbrev blames_store : Verdict → Bool
blames_store (Refuse r) = is_of_store r
blames_store _ = false

none : (list : List (Bool × Refusal)) → AllByRecursion (λ c. is_of_store c.1 ≡ false) list → blames_store (first_cause list) ≡ false
none [] all = refl
none ((true, r) ∷ later) all = all.0
none ((false, r) ∷ later) all = none later all.1

by_rules : (s : Standing) (n : Named) → blames_store (verdict s n) ≡ false
by_rules s n = first (nat_le n.number (s.last n.source)) (nat_lt (s.last n.source + 1) n.number)
  where
    first : (a b : Bool) → blames_store (if a then Duplicate (s.last n.source) else if b then Refuse (refusal.Gap (s.last n.source + 1)) else first_cause (causes s n)) ≡ false
    first true b = refl
    first false true = refl
    first false false = none (causes s n) (refl, (refl, (refl, (refl, (refl, (refl, (refl, (refl, (refl, (refl, (refl, (refl, (refl, (refl, (refl, (refl, (refl, tt)))))))))))))))))

pub rules_find_no_damage : (s : Standing) (n : Named) → verdict s n ≡ Refuse refusal.Damaged → ⊥
rules_find_no_damage s n is = true≢false (sym (ap (λ (v : Verdict). blames_store v) is) ∙ by_rules s n)

pub rules_find_none_broken : (s : Standing) (n : Named) → verdict s n ≡ Refuse refusal.Broken → ⊥
rules_find_none_broken s n is = true≢false (sym (ap (λ (v : Verdict). blames_store v) is) ∙ by_rules s n)
