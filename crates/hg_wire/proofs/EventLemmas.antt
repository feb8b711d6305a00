-- A verb and its operands make an event.
use Rattle.std.proofs.Common.{◌≡◌, ℕ, ◌<◌, ◌≤◌, ◌^◌, Bool, true, false, if◌then◌else◌, List, [], ◌∷◌, ◌++◌, length, drop, Ok, refl, sym, ◌∙◌, ap, arith}
use Rattle.std.proofs.Math.Seq.{drop-append_seam}
use Rattle.std.proofs.lemmas.List.{append_assoc, append_cancel_right, length-append, length-drop}
use Rattle.hg_model.specs.declared.event.Event.{Event}
use Rattle.hg_wire.specs.declared.verb.Verb.{Verb}
use Rattle.hg_model.specs.declared.event.Event.TheVariants.{Read, Write}
use Rattle.hg_model.specs.declared.event.HoldKind.{HoldKind}
use Rattle.hg_model.specs.declared.event.HoldKind.TheVariants as holds
use Rattle.hg_model.specs.Holding.{event_on}
use Rattle.hg_wire.specs.declared.verb.VerbKind.TheVariants as kind
use Rattle.hg_wire.specs.Holds.{verb_on}
use Rattle.hg_wire.specs.Verbs.{row_of, verb_of, AllFit, Makes}
use Rattle.hg_wire.specs.Lines.{AreOperands, line_of}
use Rattle.hg_wire.specs.InFront.{HasOperands, HasEvent, HasEventLine, EndsLineBefore}
use Rattle.hg_wire.proofs.TokenLemmas.{led_by}
use Rattle.hg_wire.proofs.VerbLemmas.{each_is_verb}
use Rattle.hg_wire.proofs.LineLemmas.{operands_are_tokens, event_reads}
use Rattle.hg_wire.proofs.OperandLemmas.{refit_operands}

pub event_follows : (verb : Verb) (wide bytes operands values rest : List ℕ) (event : Event) → bytes ≡ (row_of verb).text ++ operands → HasOperands wide operands values rest → Makes verb values event
    → HasEvent bytes event rest
event_follows verb wide bytes operands values rest event begins wide_enough makes =
    let h = refit_operands wide (row_of verb).widths operands values rest makes.0 wide_enough in
    let text = (row_of verb).text in
    let is = each_is_verb verb in
    let few = (operands_are_tokens (row_of verb).widths h.tokens values h.operands).2 in
    let short : length (text ++ led_by 32 h.tokens) ≤ 256 = omega (arith, length-append text (led_by 32 h.tokens), is.short, is.few) in
    record {
      text = text ++ led_by 32 h.tokens;
      spelled = record { verb = verb; tokens = h.tokens; values = values; operands = h.operands; spelled = refl; made = makes.1; short = short };
      joined = begins ∙ (ap (λ more. text ++ more) h.joined ∙ sym (append_assoc text (led_by 32 h.tokens) rest));
    }

-- a line that was written in front of other bytes is an event if one ends where the line does
pub event_ends : (line written pad : List ℕ) (end : ℕ) (event : Event) → written ≡ line → end ≡ length line → HasEvent (written ++ pad) event (drop end (written ++ pad)) → line_of line ≡ Ok event
event_ends line written pad end event same ends h =
    let rest : drop end (written ++ pad) ≡ pad = ap (λ k. drop k (written ++ pad)) (ends ∙ sym (ap length same)) ∙ drop-append_seam written pad in
    let alone : written ≡ h.text = append_cancel_right written h.text pad (h.joined ∙ ap (λ more. h.text ++ more) rest) in
    ap line_of (sym same ∙ alone) ∙ event_reads h.text event h.spelled

-- an event and a line feed are a line of a stream, which ends where the line feed does
pub event_line : (bytes : List ℕ) (event : Event) (middle : List ℕ) (end : ℕ) → HasEvent bytes event middle → EndsLineBefore middle (drop end bytes) → end ≤ length bytes → HasEventLine bytes event end
event_line bytes event middle end h ends within =
    record { text = h.text; spelled = h.spelled; middle = middle; rest = drop end bytes; joined = h.joined; ends = ends; count = omega (arith, length-drop end bytes) }

-- operands fit their widths
pub operands_fit : (widths : List ℕ) (tokens : List (List ℕ)) (values : List ℕ) → AreOperands widths tokens values → AllFit widths values
operands_fit [] [] [] h = tt
operands_fit [] [] (v ∷ values) h = absurd h
operands_fit [] (token ∷ tokens) values h = absurd h
operands_fit (width ∷ widths) [] values h = absurd h
operands_fit (width ∷ widths) (token ∷ tokens) [] h = absurd h
operands_fit (width ∷ widths) (token ∷ tokens) (v ∷ values) h = (h.1, operands_fit widths tokens values h.2)

-- the parts of an access make the event of its verb
pub makes_access : (is_write : Bool) (t at len : ℕ) → t < 2 ^ 16 → at < 2 ^ 64 → len < 256 → Makes (verb_of (kind.Access is_write)) (t ∷ at ∷ len ∷ []) (if is_write then Write (record { t = t; at = at; len = len }) else Read (record { t = t; at = at; len = len }))
makes_access true t at len a b d = ((a, (b, (omega arith, tt))), refl)
makes_access false t at len a b d = ((a, (b, (omega arith, tt))), refl)

-- the parts of a hold make the event of its verb
pub makes_hold : (k : HoldKind) (t l : ℕ) → t < 2 ^ 16 → l < 2 ^ 16 → Makes (verb_on k) (t ∷ l ∷ []) (event_on k t l)
makes_hold holds.Lock t l a b = ((a, (b, tt)), refl)
makes_hold holds.RdLock t l a b = ((a, (b, tt)), refl)
makes_hold holds.Unlock t l a b = ((a, (b, tt)), refl)
