-- The text of the word of a kept report.
use Rattle.std.proofs.Common.{◌≡◌, ℕ, List, [], ◌∷◌, ◌++◌, Option, None, Some, refl, sym, ap, ◌∙◌, subst, inl, inr, ⊎_elim, arith}
use Rattle.std.proofs.lemmas.List.{append-nil}
use Rattle.hg_model.specs.Contents.{Content}
use Rattle.hg_streams.specs.declared.call.ReadCall.{ReadCall}
use Rattle.hg_streams.specs.declared.call.ReadCall.TheVariants.{Gave}
use Rattle.hg_streams.specs.declared.call.WriteCall.{WriteCall}
use Rattle.hg_streams.specs.declared.call.WriteCall.TheVariants.{Flushed}
use Rattle.hg_streams.specs.Calls.{given}
use Rattle.hg_streams.specs.Written.{Took, TookFront}
use Rattle.hg_model.specs.declared.verdict.Refusal.{Refusal}
use Rattle.hg_streams.specs.Faults.{HasCause, HasWriteCause}
use Rattle.hg_streams.proofs.Inputs.{none_failed}
use Rattle.hg_streams.proofs.Printed.{front_none}
use Rattle.hg_reading.specs.declared.ending.Ending.{Ending}
use Rattle.hg_reading.specs.declared.ending.Ending.TheVariants.{Ended, Refused, Bad}
use Rattle.hg_reading.specs.Endings.{status_of}
use Rattle.hg_reading.specs.Whole.{IsKept}
use Rattle.hg_reading.proofs.Inputs.{met_some}
use Rattle.hg_check.specs.declared.explain.form.Asked.{Asked}
use Rattle.hg_check.specs.declared.explain.form.Form.{Form}
use Rattle.hg_check.specs.Checking.{ChecksTo}
use Rattle.hg_check.specs.Explaining.{explain_text}
use Rattle.hg_check.specs.RaceLife.{IsFound, TellsLife, TellsLifeFront, TellsRace, TellsRaceFront, WroteRaceFront, no_race_text, race_life, race_status_of, race_text_of, word_of_race}
use Rattle.hg_check.proofs.Fronts.{checks_to_one}
use Rattle.hg_check.proofs.Whole.{cause_of}

-- the word that was found is that of each content that the bytes lead to
found_in : (k : ℕ) (input : List ℕ) (word : Option ℕ) (held : List ℕ) (c : Content) (end : Ending) → IsFound k input word held → ChecksTo input c end → word ≡ word_of_race k c
found_in k input word held c end found l = found.is ∙ ap (λ (d : Content). word_of_race k d) (checks_to_one input found.last c found.end end found.leads l).0

-- the life of that word was told
pub race_told : (k : ℕ) (form : Form) (input held : List ℕ) (w : ℕ) (old new : List WriteCall) (end : Ending) (status : ℕ) → IsFound k input (Some w) held
    → TellsLife input (record { word = w; form = form }) old new end → status ≡ status_of end → TellsRace k form input old new status
race_told k form input held w old new end status found life is =
    let same = found_in k input (Some w) held life.last end found life.leads in
    record {
      last = life.last;
      end = end;
      leads = life.leads;
      status_is = is ∙ ap (λ x. race_status_of x end) same;
      printed = subst (λ x. Took old new (race_text_of x k form input life.last end)) same life.printed;
      written = life.written;
      flushed = life.flushed;
    }

-- there is no such report
pub race_none : (k : ℕ) (form : Form) (input held : List ℕ) (old new written : List WriteCall) → IsFound k input None held → Took old new held → new ≡ Flushed ∷ written → TellsRace k form input old new 2
race_none k form input held old new written found took flushed = record {
  last = found.last;
  end = found.end;
  leads = found.leads;
  status_is = ap (λ x. race_status_of x found.end) found.is;
  printed = subst (λ x. Took old new (race_text_of x k form input found.last found.end)) found.is (subst (λ xs. Took old new xs) (found.none refl) took);
  written = written;
  flushed = flushed;
}

pub race_front : (k : ℕ) (form : Form) (input held : List ℕ) (w : ℕ) (old new : List WriteCall) → IsFound k input (Some w) held → TellsLifeFront input (record { word = w; form = form }) old new → TellsRaceFront k form input old new
race_front k form input held w old new found front c end l =
    subst (λ x. TookFront old new (race_text_of x k form input c end)) (found_in k input (Some w) held c end found l) (front c end l)

pub race_none_front : (k : ℕ) (form : Form) (input held : List ℕ) (old new : List WriteCall) → IsFound k input None held → TookFront old new held → TellsRaceFront k form input old new
race_none_front k form input held old new found front c end l =
    let one = checks_to_one input found.last c found.end end found.leads l in
    subst (λ x. TookFront old new (race_text_of x k form input c end)) (found_in k input None held c end found l)
    (subst (λ xs. TookFront old new xs) (found.none refl ∙ (ap (λ (d : Content). no_race_text k d found.end) one.0 ∙ ap (λ e. no_race_text k c e) one.1)) front)

-- where nothing was written
pub race_unwritten : (k : ℕ) (form : Form) (input : List ℕ) (old : List WriteCall) → TellsRaceFront k form input old old
race_unwritten k form input old c end l = front_none old (race_life k form input c end)

pub never_three : (end : Ending) → status_of end ≡ 3 → ⊥
never_three Ended is = absurd (cc)
never_three (Refused line r) is = absurd (cc)
never_three (Bad line) is = absurd (cc)

-- the whole input is what was kept
pub kept_whole : (k : ℕ) (form : Form) (input : List ℕ) (first now : List ReadCall) (old new : List WriteCall) → IsKept first now input → TellsRaceFront k form input old new → WroteRaceFront k form first now old new
kept_whole k form input first now old new h front = record {
  later = Gave [] ∷ h.kept.earlier;
  since = h.met ∙ ap (λ xs. Gave [] ∷ xs) h.kept.since;
  front = λ other m.
      let none : m.more ≡ [] = m.over (met_some (Gave [] ∷ h.kept.earlier) h.kept.earlier refl) in
      let is : input ≡ other = sym (m.joined ∙ (ap (λ t. (given h.kept.earlier ++ []) ++ t) none ∙ (append-nil (given h.kept.earlier ++ []) ∙ (append-nil (given h.kept.earlier) ∙ h.kept.all)))) in
      subst (λ xs. TellsRaceFront k form xs old new) is front;
}

-- an input that could not be kept: nothing was written
pub nothing_kept : (k : ℕ) (form : Form) (first now later : List ReadCall) (old : List WriteCall) → now ≡ later ++ first → WroteRaceFront k form first now old old
nothing_kept k form first now later old since = record { later = later; since = since; front = λ input m c end l. front_none old (race_life k form input c end) }

-- what these bytes lead to is settled, and a front of its text was written
pub life_settled : (input : List ℕ) (asked : Asked) (old new : List WriteCall) (last : Content) (end : Ending) → ChecksTo input last end → TookFront old new (explain_text asked.word asked.form input last end) → TellsLifeFront input asked old new
life_settled input asked old new last end leads front c stop l =
    let one = checks_to_one input last c end stop leads l in
    subst (λ xs. TookFront old new xs) (ap (λ (d : Content). explain_text asked.word asked.form input d end) one.0 ∙ ap (λ e. explain_text asked.word asked.form input c e) one.1) front

-- without reads a fault has its cause in the writes
pub write_cause : (old new : List WriteCall) (r : Refusal) → HasCause [] [] old new r → HasWriteCause old new r
write_cause old new r h =
    ⊎_elim
    (λ memory. inl (memory.0, memory.1.1))
    (λ device. inr (device.0, ⊎_elim (λ read. absurd (⊎_elim (λ one. omega (arith, one)) (λ many. omega (arith, many)) read)) (λ written. written) device.1.1))
    h

pub any_cause : (first now : List ReadCall) (input : List ℕ) (old new : List WriteCall) (r : Refusal) → IsKept first now input → HasWriteCause old new r → HasCause first now old new r
any_cause first now input old new r h cause =
    cause_of first now old new r (none_failed first now (Gave [] ∷ h.kept.earlier) (h.met ∙ ap (λ xs. Gave [] ∷ xs) h.kept.since) h.kept.intact) cause
