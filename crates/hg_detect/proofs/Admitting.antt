-- What the rules accept, and how it is answered.
use Rattle.std.proofs.Common.{◌≡◌, ℕ, true, Result, Ok, Err, sym, ◌∙◌, subst}
use Rattle.std.specs.Prelude.{IsErrAnd}
use Rattle.hg_model.specs.declared.event.Named.{Named}
use Rattle.hg_model.specs.declared.verdict.Refusal.{Refusal}
use Rattle.hg_model.specs.declared.verdict.Verdict.{Verdict}
use Rattle.hg_model.specs.Change.{is_accept}
use Rattle.hg_model.specs.Verdicts.{standing, verdict}
use Rattle.hg_model.proofs.Following.{accept_is}
use Rattle.hg_cells.specs.declared.cell.Cell.{Cell}
use Rattle.hg_cells.specs.declared.words.Words as words
use Rattle.hg_detect.specs.declared.detector.Answer.{Answer}
use Rattle.hg_detect.specs.declared.detector.Answer.TheVariants.{Accepted}
use Rattle.hg_detect.specs.declared.engine.Engine.{Engine}
use Rattle.hg_detect.specs.Answering.{Applies, IsAnswered}
use Rattle.hg_detect.specs.Engine.{IsSound, LacksRoom, shown_of}
use Rattle.hg_detect.specs.Shown.{Accepts, ShownDetector, verdict_on}

-- the verdict by the parts is that by what the detector shows
pub verdict_is : {W : Type 0} (cell_of : W → ℕ → Cell) (e : Engine W) (d : ShownDetector W) (n : Named) → IsSound e → shown_of e ≡ d → verdict (standing e.state) n ≡ verdict_on cell_of d n
verdict_is {W} cell_of e d n sound shows =
    subst (λ (x : ShownDetector W). verdict (standing e.state) n ≡ verdict_on cell_of x n) shows
    (λ i. verdict (record (standing e.state) { segments = sound.segments i; sent = λ k. sound.messages.sent k i; received = λ k. sound.messages.received k i }) n)

-- what the rules accept by the parts they accept by what the detector shows
pub admitted : {W : Type 0} (cell_of : W → ℕ → Cell) (e : Engine W) (d : ShownDetector W) (n : Named) → IsSound e → shown_of e ≡ d → is_accept (verdict (standing e.state) n) ≡ true → Accepts cell_of d n
admitted cell_of e d n sound shows accepts = sym (verdict_is cell_of e d n sound shows) ∙ accept_is (verdict (standing e.state) n) accepts

-- the answer where the event is accepted
pub answered : {W : Type 0} (g : words.Ghosts W) (old new : ShownDetector W) (n : Named) → Accepts g.cell_of old n → IsAnswered g old n (Ok Accepted) new
answered g old new n accepts = subst (λ (v : Verdict). Applies v (g.may_refuse new.words) (Ok Accepted)) (sym accepts) tt

-- the answer where there is no room for it
pub answered_refused : {W : Type 0} (g : words.Ghosts W) (old new : ShownDetector W) (n : Named) (answer : Result Answer Refusal) (r : Refusal) → IsErrAnd answer (λ x. x ≡ r)
    → Accepts g.cell_of old n → LacksRoom (g.may_refuse new.words) r → IsAnswered g old n answer new
answered_refused g old new n (Ok a) r refused accepts lacks = absurd refused
answered_refused g old new n (Err x) r refused accepts lacks =
    subst (λ (v : Verdict). Applies v (g.may_refuse new.words) (Err x)) (sym accepts) (subst (λ (y : Refusal). LacksRoom (g.may_refuse new.words) y) (sym refused) lacks)
