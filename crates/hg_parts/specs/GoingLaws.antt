-- Laws of what lines lead to where one detector accepts them.
use Rattle.std.specs.Prelude.{◌≡◌, ℕ, suc, ◌+◌, List, [], ◌∷◌, ◌++◌, length, Result, Ok, Err}
use Rattle.std.proofs.Common.{sym, ap, ◌∙◌, subst, arith}
use Rattle.hg_model.specs.declared.event.Event.{Event}
use Rattle.hg_model.specs.Contents.{Content}
use Rattle.hg_model.specs.Change.{after}
use Rattle.hg_sets.specs.Interning.{Table}
use Rattle.hg_wire.specs.declared.line.LineFault.{LineFault}
use Rattle.hg_wire.specs.declared.reader.Reading.{Reading}
use Rattle.hg_shards.specs.declared.judge.Judge.{Judge}
use Rattle.hg_check.specs.Checking.{next_named}
use Rattle.hg_parts.specs.Going.{At, Passes, PassesOne}

-- ---- lines that are accepted

one_on : (event : Result Event LineFault) (c : Content) (t : Table) (some more : Content → Table → Type 0) → ((d : Content) (u : Table) → some d u → more d u) → PassesOne event c t some → PassesOne event c t more
one_on (Err fault) c t some more on h = h
one_on (Ok e) c t some more on h = (h.0, h.1, h.2, on (after c (next_named c e)) h.1 h.3)

pub passes_on : (first later : List Reading) (c d x : Content) (t u y : Table) → Passes first c t d u → Passes later d u x y → Passes (first ++ later) c t x y
passes_on [] later c d x t u y h k = subst (λ (e : Content). Passes later e t x y) h.0 (subst (λ (v : Table). Passes later d v x y) h.1 k)
passes_on (r ∷ first) later c d x t u y h k =
    one_on r.event c t (λ e v. Passes first e v d u) (λ e v. Passes (first ++ later) e v x y) (λ e v g. passes_on first later e d x v u y g k) h

count_one : (event : Result Event LineFault) (c d : Content) (t : Table) (n : ℕ) (later : Content → Table → Type 0) → ((e : Content) (v : Table) → later e v → (d.last 0 ≡ e.last 0 + n) × (d.events ≡ e.events + n)) → PassesOne event c t later
    → (d.last 0 ≡ c.last 0 + suc n) × (d.events ≡ c.events + suc n)
count_one (Err fault) c d t n later on h = absurd h
count_one (Ok e) c d t n later on h = let rest = on (after c (next_named c e)) h.1 h.3 in (omega (arith, rest.0), omega (arith, rest.1))

-- each is one event more of source 0
pub counts_on : (lines : List Reading) (c d : Content) (t u : Table) → Passes lines c t d u → (d.last 0 ≡ c.last 0 + length lines) × (d.events ≡ c.events + length lines)
counts_on [] c d t u h = (ap (λ (e : Content). e.last 0) h.0 ∙ (let none : c.last 0 ≡ c.last 0 + 0 = omega arith in none), ap (λ (e : Content). e.events) h.0 ∙ (let none : c.events ≡ c.events + 0 = omega arith in none))
counts_on (r ∷ lines) c d t u h = count_one r.event c d t (length lines) (λ e v. Passes lines e v d u) (λ e v g. counts_on lines e d v u g) h

-- ---- from the state of a judge

-- all events so far are of source 0
pub events_at : (c : Content) (t : Table) (j : Judge) → At c t j → j.events ≡ c.last 0
events_at c t j at = at.is_at.judged.count ∙ sym (ap (λ (d : Content). d.events) at.is_at.content) ∙ sym at.counted
