-- For proofs alone: the tokens of a line, taken one after another.
use Rattle.std.specs.Prelude.{◌≡◌, ℕ, ◌<◌, nat_lt, List, [], ◌∷◌, length, MatchOption, Option, Some, true, false}
use Rattle.std.specs.Borrow.{Bor}
use Rattle.std.specs.List.{list_all}
use Rattle.hg_wire.specs.Lines.{are_counted, values_of, tokens_after}

-- Some tokens begin with this one, which is not empty, and then come the others.
abbrev pub HasToken : List (List ℕ) → List ℕ → List (List ℕ) → Type 0
HasToken tokens token others = (tokens ≡ token ∷ others) × (0 < length token)

-- Some tokens are these two, and none is empty.
abbrev pub AreTwo : List (List ℕ) → List ℕ → List ℕ → Type 0
AreTwo tokens a b = (tokens ≡ a ∷ b ∷ []) × (0 < length a) × (0 < length b)

-- Some tokens are these three, and none is empty.
abbrev pub AreThree : List (List ℕ) → List ℕ → List ℕ → List ℕ → Type 0
AreThree tokens a b d = (tokens ≡ a ∷ b ∷ d ∷ []) × (0 < length a) × (0 < length b) × (0 < length d)

-- Some tokens are not the tokens of one operand or more.
abbrev pub LacksToken : List (List ℕ) → Type 0
LacksToken tokens = (w : ℕ) (ws : List ℕ) → are_counted (w ∷ ws) tokens ≡ false

-- Some tokens are not the tokens of two operands.
abbrev pub LacksTwo : List (List ℕ) → Type 0
LacksTwo tokens = (a b : ℕ) → are_counted (a ∷ b ∷ []) tokens ≡ false

-- Some tokens are not the tokens of three operands.
abbrev pub LacksThree : List (List ℕ) → Type 0
LacksThree tokens = (a b d : ℕ) → are_counted (a ∷ b ∷ d ∷ []) tokens ≡ false

-- The first of some tokens, where it is not empty, and those after it.
abbrev pub GivesToken : List (List ℕ) → Option (Bor (List ℕ) × Option (Bor (List ℕ))) → Type 0
GivesToken tokens answer = MatchOption answer (LacksToken tokens) (λ found. HasToken tokens found.0.now (tokens_after found.1))

-- The two tokens, where there are two and none is empty.
abbrev pub GivesTwo : List (List ℕ) → Option (Bor (List ℕ) × Bor (List ℕ)) → Type 0
GivesTwo tokens answer = MatchOption answer (LacksTwo tokens) (λ found. AreTwo tokens found.0.now found.1.now)

-- The three tokens, where there are three and none is empty.
abbrev pub GivesThree : List (List ℕ) → Option (Bor (List ℕ) × Bor (List ℕ) × Bor (List ℕ)) → Type 0
GivesThree tokens answer = MatchOption answer (LacksThree tokens) (λ found. AreThree tokens found.0.now found.1.now found.2.now)

-- None of the tokens is empty.
abbrev pub NoneIsEmpty : List (List ℕ) → Type 0
NoneIsEmpty tokens = list_all (λ token. nat_lt 0 (length token)) tokens ≡ true

-- The first tokens spell numbers of these widths.
abbrev pub HaveValues : List ℕ → List (List ℕ) → Type 0
HaveValues widths tokens = (values : List ℕ) × (values_of widths tokens ≡ Some values)
