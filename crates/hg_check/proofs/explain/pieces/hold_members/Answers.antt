use Rattle.std.proofs.Common.{◌≡◌, ◌∙◌, ◌++◌, List, ℕ, [], ◌∷◌, ◌≤◌, map, length, ap, refl, arith}
use Rattle.std.specs.Fmt.{decimal}
use Rattle.std.specs.List.{join_with_byte}
use Rattle.hg_wire.specs.Reports.{predecessors_text}
use Rattle.hg_wire.proofs.PieceLemmas.{numbers_joined}
use Rattle.hg_check.proofs.explain.pieces.hold_members.Goals as goal

some_joined : (numbers : List ℕ) → 1 ≤ length numbers → join_with_byte 44 (map decimal numbers) ≡ predecessors_text numbers
some_joined [] h = absurd (omega arith)
some_joined (n ∷ numbers) h = refl

pub returns-clause-ok : goal.returns-clause-ok
returns-clause-ok c =
    numbers_joined c.args.held.now.items _ _ c.args.members.now c.loop-member.member-index c.in-len1-up.len_at_least (c.in_ok-hold_number.ensures.ok ∙ ap (λ n. c.args.held.now.items ++ decimal n) c.from.ensures) (omega arith) c.loop-member.invariant
    ∙ ap (λ t. c.args.held.now.items ++ t) (some_joined c.args.members.now c.in-len1-up.len_at_least)
