-- Definition: what a diagnosis of a bad line says. Tokens are counted from 0 on, the verb first.
use Rattle.std.specs.Prelude.{◌≡◌, ◌≢◌, ℕ, ◌+◌, ◌<◌, ◌≤◌, ◌^◌, List, [], ◌∷◌, length, slice_get, MatchOption, Option, Some, None, Ok}
use Rattle.hg_wire.specs.declared.line.TheConstants.{MOST_LINE_BYTES}
use Rattle.hg_model.specs.declared.event.Event.{Event}
use Rattle.hg_wire.specs.declared.diagnosis.Diagnosis.{Diagnosis}
use Rattle.hg_wire.specs.declared.diagnosis.Diagnosis.TheVariants as says
use Rattle.hg_wire.specs.declared.diagnosis.Misfit.{Misfit}
use Rattle.hg_wire.specs.declared.line.LineFault.{LineFault}
use Rattle.hg_wire.specs.declared.line.LineFault.TheVariants.{TooLong, Verb, Count, Number}
use Rattle.hg_wire.specs.declared.verb.Verb as source
use Rattle.hg_wire.specs.Numbers.{number_of}
use Rattle.hg_wire.specs.Lines.{line_of, operand_of, tokens_of}
use Rattle.hg_wire.specs.Taken.{HaveValues}
use Rattle.hg_wire.specs.Verbs.{row_of}

-- the fault that it is about
abbrev pub fault_of : Diagnosis → LineFault
fault_of says.TooLong = TooLong
fault_of (says.NoVerb token) = Verb
fault_of (says.EmptyToken place) = Count
fault_of (says.Count verb given) = Count
fault_of (says.Misspelt place token) = Number
fault_of (says.TooGreat place token bits) = Number

-- the tokens of the line are the verb and these
abbrev pub HasVerb : List ℕ → source.Verb → List (List ℕ) → Type 0
HasVerb line verb tokens = tokens_of line ≡ (row_of verb).text ∷ tokens

-- the first empty token stands at this place
pub record IsFirstEmpty (tokens : List (List ℕ)) (place : ℕ) : Type 0 where
  pub empty : slice_get tokens place ≡ Some []
  pub earlier : (k : ℕ) (token : List ℕ) → k < place → slice_get tokens k ≡ Some token → 0 < length token

-- The first token that is no operand of its width in bits: it spells no number, or one that does not fit.
pub record IsFirstMisfit (widths : List ℕ) (tokens : List (List ℕ)) (place : ℕ) (token : List ℕ) (bits : ℕ) : Type 0 where
  pub is_token : slice_get tokens place ≡ Some token
  pub is_width : slice_get widths place ≡ Some bits
  pub misfit : operand_of bits token ≡ None
  pub earlier : (k width : ℕ) (fit : List ℕ) → k < place → slice_get widths k ≡ Some width → slice_get tokens k ≡ Some fit → (n : ℕ) × (operand_of width fit ≡ Some n)

-- the first misfit among the tokens, or none where all have values
abbrev pub GivesMisfit : List ℕ → List (List ℕ) → Option Misfit → Type 0
GivesMisfit widths tokens answer = MatchOption answer (HaveValues widths tokens) (λ found. IsFirstMisfit widths tokens found.place found.token.now found.bits)

-- the same of a line, whose operands follow its verb
pub record HasMisfit (line : List ℕ) (place : ℕ) (token : List ℕ) (bits : ℕ) : Type 0 where
  pub verb : source.Verb
  pub tokens : List (List ℕ)
  pub behind : HasVerb line verb tokens
  pub operand : ℕ
  pub at : place ≡ operand + 1
  pub first : IsFirstMisfit (row_of verb).widths tokens operand token bits

-- What a diagnosis says of a line, apart from its first fault.
abbrev pub IsTrueOf : List ℕ → Diagnosis → Type 0
IsTrueOf line says.TooLong = MOST_LINE_BYTES < length line
IsTrueOf line (says.NoVerb token) = (rest : List (List ℕ)) × (tokens_of line ≡ token.now ∷ rest)
IsTrueOf line (says.EmptyToken place) = IsFirstEmpty (tokens_of line) place
IsTrueOf line (says.Count verb given) = (tokens : List (List ℕ)) × (HasVerb line verb tokens × ((given ≡ length tokens) × (given ≢ length (row_of verb).widths)))
IsTrueOf line (says.Misspelt place token) = (bits : ℕ) × HasMisfit line place token.now bits × (number_of token.now ≡ None)
IsTrueOf line (says.TooGreat place token bits) = HasMisfit line place token.now bits × ((n : ℕ) × (number_of token.now ≡ Some n) × (2 ^ bits ≤ n))

-- The line spells an event.
abbrev pub SpellsEvent : List ℕ → Type 0
SpellsEvent line = (event : Event) × (line_of line ≡ Ok event)
