-- What reaches what, over any rising graph: for the crates above.
use Rattle.std.proofs.Common.{◌≡◌, ◌≢◌, ℕ, zero, suc, ◌≤◌, true, nat_eq, List, ⊎_elim, arith, eqb-true}
use Rattle.std.proofs.lemmas.Bool.{or_cases}
use Rattle.std.proofs.lemmas.List.Folds.{Any-from_list_any}
use Rattle.hg_model.specs.declared.segment.Segment.{Segment}
use Rattle.hg_model.specs.Paths.{before, IsRising, HasEdge, reaches_within, reaches}
use Rattle.hg_model.proofs.Graph.{itself_within, test_before, member_below, enough, reaches_is_path, goes_on}

pub reaches_itself : (segments : List Segment) (s : ℕ) → reaches segments s s ≡ true
reaches_itself segments s = itself_within segments s s

-- an edge in front
pub reaches_through : (segments : List Segment) → IsRising segments → (s x g : ℕ) → HasEdge segments s x → reaches segments x g ≡ true → reaches segments s g ≡ true
reaches_through segments rising s x g edge h = enough segments rising (suc g) g s g (test_before segments g s x g edge h) (omega arith)

within_le : (segments : List Segment) → IsRising segments → (n s g : ℕ) → reaches_within segments n s g ≡ true → s ≤ g
within_le segments rising zero s g h = let e = eqb-true s g h in omega arith
within_le segments rising (suc n) s g h =
    ⊎_elim
    (λ same. let e = eqb-true s g same in omega arith)
    (λ some. let found = Any-from_list_any (reaches_within segments n s) (before segments g) some in
    let less = member_below segments rising found.1 g (found.0, found.2, found.3) in
    let le = within_le segments rising n s found.1 found.4 in omega arith)
    (or_cases (nat_eq s g) _ h)

pub reaches_le : (segments : List Segment) → IsRising segments → (s g : ℕ) → reaches segments s g ≡ true → s ≤ g
reaches_le segments rising s g = within_le segments rising g s g

-- the last edge of a path
pub reaches_last : (segments : List Segment) → IsRising segments → (s g : ℕ) → reaches segments s g ≡ true → s ≢ g → (x : ℕ) × HasEdge segments x g × (reaches segments s x ≡ true)
reaches_last segments rising s zero h ne = absurd (ne (eqb-true s zero h))
reaches_last segments rising s (suc n) h ne =
    ⊎_elim
    (λ same. absurd (ne (eqb-true s (suc n) same)))
    (λ some. let found = Any-from_list_any (reaches_within segments n s) (before segments (suc n)) some in
    (found.1, (found.0, found.2, found.3), enough segments rising n found.1 s found.1 found.4 (omega arith)))
    (or_cases (nat_eq s (suc n)) _ h)

-- an edge at the end
pub reaches_on : (segments : List Segment) → IsRising segments → (s x g : ℕ) → reaches segments s x ≡ true → HasEdge segments x g → reaches segments s g ≡ true
reaches_on segments rising s x g h edge = (reaches_is_path segments rising s g).1 (goes_on segments s x g ((reaches_is_path segments rising s x).0 h) edge)
