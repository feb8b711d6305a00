-- Definition: part of what `check` promises. One line of the trace text, without its line end.
use Rattle.std.specs.Prelude.{◌≡◌, ℕ, ◌<◌, ◌≤◌, ◌^◌, Bool, ◌&&◌, ◌==◌, nat_lt, List, [], ◌∷◌, ◌++◌, length, find, Option, Some, None, option_and_then, option_map, ok_or, Result, Ok, Err, if◌then◌else◌, ⊤, ◌≢◌}
use Rattle.std.specs.List.{slice_split, list_all, flat_map, before_first, AllByRecursion}
use Rattle.std.specs.Borrow.{Bor}
use Rattle.std.specs.Str.{bytes_eq}
use Rattle.hg_wire.specs.declared.line.TheConstants.{MOST_LINE_BYTES}
use Rattle.hg_model.specs.declared.event.Event.{Event}
use Rattle.hg_wire.specs.declared.line.LineFault.{LineFault}
use Rattle.hg_wire.specs.declared.line.LineFault.TheVariants.{TooLong, Verb, Count, Number}
use Rattle.hg_wire.specs.Bytes.{NoByte}
use Rattle.hg_wire.specs.Numbers.{IsNumber, number_of}
use Rattle.hg_wire.specs.declared.verb.Verb as source
use Rattle.hg_wire.specs.Verbs.{row_of, verbs}

-- Each token spells the value at its place, and the value fits the width at its place.
abbrev pub AreOperands : List ℕ → List (List ℕ) → List ℕ → Type 0
AreOperands [] [] [] = ⊤
AreOperands (width ∷ widths) (token ∷ tokens) (value ∷ values) = IsNumber token value × (value < 2 ^ width) × AreOperands widths tokens values
AreOperands _ _ _ = ⊥

-- The bytes spell the event: a verb, and for each of its operands one space and a number that fits.
pub record IsLine (bytes : List ℕ) (event : Event) : Type 0 where
  pub verb : source.Verb
  pub tokens : List (List ℕ)
  pub values : List ℕ
  pub operands : AreOperands (row_of verb).widths tokens values
  pub spelled : bytes ≡ (row_of verb).text ++ flat_map (λ token. 32 ∷ token) tokens
  pub made : event ≡ (row_of verb).event values
  pub short : length bytes ≤ MOST_LINE_BYTES

-- one byte or more, none of them a space
abbrev pub IsToken : List ℕ → Type 0
IsToken token = (0 < length token) × NoByte 32 token

-- The bytes are the verb, and for each of its operands one space and a token.
pub record HasTokens (bytes : List ℕ) (verb : source.Verb) (tokens : List (List ℕ)) : Type 0 where
  pub spelled : bytes ≡ (row_of verb).text ++ flat_map (λ token. 32 ∷ token) tokens
  pub counted : length tokens ≡ length (row_of verb).widths
  pub each : AllByRecursion IsToken tokens

-- what stands before the first space, or all
abbrev pub first_token : List ℕ → List ℕ
first_token bytes = before_first (λ b. b == 32) bytes

-- The fault is the first one that the bytes have.
abbrev pub HasFault : List ℕ → LineFault → Type 0
HasFault bytes TooLong = MOST_LINE_BYTES < length bytes
HasFault bytes Verb = (length bytes ≤ MOST_LINE_BYTES) × ((verb : source.Verb) → (row_of verb).text ≢ first_token bytes)
HasFault bytes Count = (length bytes ≤ MOST_LINE_BYTES)
    × ((verb : source.Verb) × ((row_of verb).text ≡ first_token bytes) × ((tokens : List (List ℕ)) → ¬ HasTokens bytes verb tokens))
HasFault bytes Number = (length bytes ≤ MOST_LINE_BYTES)
    × ((verb : source.Verb) × (tokens : List (List ℕ)) × HasTokens bytes verb tokens × ((values : List ℕ) → ¬ AreOperands (row_of verb).widths tokens values))

-- the tokens of a line, with one space between each two
abbrev pub tokens_of : List ℕ → List (List ℕ)
tokens_of line = slice_split (λ b. b == 32) line

-- the verb that the token names
unfoldable pub verb_named : List ℕ → Option source.Verb
verb_named token = find (λ verb. bytes_eq (row_of verb).text token) verbs

-- the number, where it fits the width
abbrev pub fitting : ℕ → Option ℕ → Option ℕ
fitting width number = option_and_then (λ n. if nat_lt n (2 ^ width) then Some n else None) number

-- the number that the token spells, where it fits the width
abbrev pub operand_of : ℕ → List ℕ → Option ℕ
operand_of width token = fitting width (number_of token)

-- the values of tokens that are as many as the widths, where each has one
abbrev pub values_of : List ℕ → List (List ℕ) → Option (List ℕ)
values_of (width ∷ widths) (token ∷ tokens) = option_and_then (λ n. option_map (λ ns. n ∷ ns) (values_of widths tokens)) (operand_of width token)
values_of _ _ = Some []

-- the tokens are as many as the widths, and none is empty
abbrev pub are_counted : List ℕ → List (List ℕ) → Bool
are_counted widths tokens = (length tokens == length widths) && list_all (λ token. nat_lt 0 (length token)) tokens

-- the values of the operands that the tokens spell, or the first of their faults
abbrev pub operands_of : List ℕ → List (List ℕ) → Result (List ℕ) LineFault
operands_of widths tokens = if are_counted widths tokens then ok_or (values_of widths tokens) Number else Err Count

abbrev pub result_map : {A B : Type 0} → (A → B) → Result A LineFault → Result B LineFault
result_map f (Ok x) = Ok (f x)
result_map f (Err fault) = Err fault

abbrev pub of_verb : Option source.Verb → List (List ℕ) → Result Event LineFault
of_verb None tokens = Err Verb
of_verb (Some verb) tokens = result_map (row_of verb).event (operands_of (row_of verb).widths tokens)

abbrev pub of_tokens : List (List ℕ) → Result Event LineFault
of_tokens [] = Err Verb
of_tokens (token ∷ tokens) = of_verb (verb_named token) tokens

-- The event that a line spells, or the first of its faults.
unfoldable pub line_of : List ℕ → Result Event LineFault
line_of line = if nat_lt MOST_LINE_BYTES (length line) then Err TooLong else of_tokens (tokens_of line)

-- the tokens after a space, and none where no space was found
abbrev pub tokens_after : Option (Bor (List ℕ)) → List (List ℕ)
tokens_after None = []
tokens_after (Some line) = tokens_of line.now
