-- What `get_one` read of an argument, as what its text spells.
use Rattle.std.proofs.Common.{◌≡◌, ◌<◌, ◌∙◌, ℕ, Ok, Err, Option, Some, None, List, refl, sym, ap, ◌^◌}
use Rattle.std.specs.Str.Parse.{ParsesUnsigned, digits_value, without_leading_plus}
use Rattle.clap.specs.Words.{Row, Text, one_text, rows_of}
use Rattle.clap.specs.declared.parser.matches.Found.{Found}
use Rattle.clap.proofs.WalkLemmas.{one_text-rows}
use Rattle.hg_options.specs.Tasks.{Spells}

-- where a number was read, the text spells it
pub spelled : (E : Type 0) (bits : ℕ) (f : Found) (id : Text) (n : ℕ) → (one_text f id ≡ None → Some n ≡ None)
    → ((t : Text) → one_text f id ≡ Some t → ParsesUnsigned {E = E} bits 10 t (Ok n)) → Spells id (rows_of f) n
spelled E bits f id n none value = go (one_text f id) refl
  where
    go : (o : Option Text) → one_text f id ≡ o → Spells id (rows_of f) n
    go None e = absurd (cc (none e))
    go (Some t) e =
        let given = value t e in
        (t, sym (one_text-rows f id) ∙ e, given.0.0, given.1)

-- a text spells one number at most
pub one_number : (id : Text) (rows : List Row) (m n : ℕ) → Spells id rows m → Spells id rows n → m ≡ n
one_number id rows m n a b =
    let same : Some a.0 ≡ Some b.0 = sym a.1 ∙ b.1 in
    let texts : a.0 ≡ b.0 = cc same in
    a.3 ∙ ap (λ (t : Text). digits_value 10 (without_leading_plus t)) texts ∙ sym b.3

-- where none was read, the text spells none that fits
pub not_spelled : (E : Type 0) (bits : ℕ) (f : Found) (id : Text) (m : ℕ)
    → ((t : Text) → one_text f id ≡ Some t → (e : E) × ParsesUnsigned {E = E} bits 10 t (Err e))
    → Spells id (rows_of f) m → m < 2 ^ bits → ⊥
not_spelled E bits f id m value s small =
    let given = value s.0 (one_text-rows f id ∙ s.1) in
    given.1 (s.2, rw (← s.3) small)
