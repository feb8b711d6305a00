-- One line more in a queue.
use Rattle.std.proofs.Common.{◌≡◌, ℕ, ◌+◌, ◌<◌, cond, nat_lt, List, [], ◌∷◌, ◌++◌, Ok, sym, ap, ◌∙◌, arith}
use Rattle.std.proofs.lemmas.Bool.{lt-ltb}
use Rattle.std.proofs.lemmas.List.{append-nil, append_assoc}
use Rattle.hg_model.specs.declared.event.Event.{Event}
use Rattle.hg_wire.specs.declared.reader.Reading.{Reading}
use Rattle.hg_reading.specs.declared.queued.Queued.{Queued}
use Rattle.hg_reading.specs.Queueing.{IsLineOf, Lines, lines_of, lines_queued, more_lines, reading_queued, readings_behind}
use Rattle.hg_reading.proofs.Queueing.{behind_more}
use Rattle.hg_parts.specs.declared.line.EventLine.{EventLine}
use Rattle.hg_parts.specs.Batches.{readings_in}
use Rattle.hg_parts.specs.Queues.{lines_held}

abbrev lines_with : ℕ → List Reading → Lines
lines_with count readings = record { count = count; readings = readings }

lines_same : (a b : ℕ) (first later : List Reading) → a ≡ b → first ≡ later → lines_with a first ≡ lines_with b later
lines_same a b first later p q = cc

-- into the lists
pub held_more : (last now line passed : ℕ) (lines news : List EventLine) (rest : List Queued) (it : Queued) (e : Event) → rest ≡ [] → line ≡ (lines_held last lines rest).count + passed + 1
    → now ≡ cond (nat_lt last line) line last → news ≡ record { line = line; event = e } ∷ lines → IsLineOf it e → lines_held now news rest ≡ more_lines (lines_held last lines rest) passed it
held_more last now line passed lines news [] it e none is greatest more reads =
    let above : last < line = omega (arith, is) in
    let number : now ≡ line = greatest ∙ ap (λ b. cond b line last) (lt-ltb last line above) in
    let place : line ≡ last + 0 + passed + 1 = is in
    lines_same (now + 0) (last + 0 + passed + 1) (readings_in news ++ []) ((readings_in lines ++ []) ++ reading_queued (last + 0 + passed) it)
    (omega (arith, number, place))
    (append-nil (readings_in news) ∙ ap readings_in more
    ∙ ap (λ (n : ℕ). readings_in lines ++ record { line = n; event = Ok e } ∷ []) place
    ∙ ap (λ rs. readings_in lines ++ rs) (sym (reads (last + 0 + passed)))
    ∙ ap (λ rs. rs ++ reading_queued (last + 0 + passed) it) (sym (append-nil (readings_in lines))))
held_more last now line passed lines news (q ∷ rest) it e none is greatest more reads = absurd (cc none)

-- behind the lists
pub held_behind : (last passed : ℕ) (lines : List EventLine) (rest now : List Queued) (it : Queued) (e : Event) → IsLineOf it e → lines_of now ≡ more_lines (lines_of rest) passed it
    → lines_held last lines now ≡ more_lines (lines_held last lines rest) passed it
held_behind last passed lines rest now it e reads is =
    let count : lines_queued now ≡ lines_queued rest + passed + 1 = ap (λ (l : Lines). l.count) is in
    lines_same (last + lines_queued now) (last + lines_queued rest + passed + 1) (readings_in lines ++ readings_behind last (lines_of now)) ((readings_in lines ++ readings_behind last (lines_of rest)) ++ reading_queued (last + lines_queued rest + passed) it)
    (omega (arith, count))
    (ap (λ rs. readings_in lines ++ rs) (behind_more (lines_of rest) (lines_of now) passed it e is reads last ∙ ap (λ rs. readings_behind last (lines_of rest) ++ rs) (sym (reads (last + lines_queued rest + passed))))
    ∙ sym (append_assoc (readings_in lines) (readings_behind last (lines_of rest)) (reading_queued (last + lines_queued rest + passed) it)))
