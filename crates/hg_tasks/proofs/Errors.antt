-- A look has an error exactly where a call failed.
use Rattle.std.proofs.Common.{◌≡◌, ◌↔◌, ℕ, ◌+◌, if◌then◌else◌, List, [], ◌∷◌, Option, None, Some, IsNone, refl, arith}
use Rattle.std.specs.Option.{option_or}
use Rattle.std.specs.declared.io.Error.{Error}
use Rattle.hg_disk.specs.History.{failures_in, is_failure}
use Rattle.hg_tasks.specs.Looking.{answer_by, calls_in, first_error}
use Rattle.hg_tasks.specs.declared.look.Event.{Event}

one_more : (first error : Option Error) (n : ℕ) → (IsNone first ↔ (n ≡ 0)) → IsNone (option_or first error) ↔ ((if is_failure (answer_by error) then n + 1 else n) ≡ 0)
one_more None None n h = h
one_more None (Some error) n h = ((λ e. absurd (cc e)), (λ e. absurd (omega (arith, e))))
one_more (Some first) None n h = h
one_more (Some first) (Some error) n h = ((λ e. absurd (cc e)), (λ e. absurd (omega (arith, e))))

pub none_failed : (events : List Event) → IsNone (first_error events) ↔ (failures_in (calls_in events) ≡ 0)
none_failed [] = ((λ _. refl), (λ _. refl))
none_failed (e ∷ earlier) = one_more (first_error earlier) e.error (failures_in (calls_in earlier)) (none_failed earlier)
