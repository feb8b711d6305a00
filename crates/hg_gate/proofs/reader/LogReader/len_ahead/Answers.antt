use Rattle.std.proofs.Common.{◌≡◌, ◌≤◌, ◌∙◌, ◌-◌, List, ℕ, length, min, take, drop, ap, subst, arith, length-drop}
use Rattle.std.proofs.lemmas.List.{take_all}
use Rattle.hg_gate.proofs.Turning.{ahead_front, head_opens}
use Rattle.hg_gate.proofs.reader.LogReader.len_ahead.Goals as goal

pub returns-in-Ok : goal.returns-in-Ok
returns-in-Ok c =
    let r = c.args.self.now in
    let ahead = drop r.to r.piece.items in
    let n = length c.deref.result.now - r.to in
    let same : drop r.to c.deref.result.now ≡ ahead = ap (λ (l : List ℕ). drop r.to l) c.deref.ensures.value in
    let fits : length ahead ≤ n = omega (arith, ap length c.deref.ensures.value, length-drop r.to r.piece.items) in
    let all : take n (drop r.to c.deref.result.now) ≡ ahead = ap (λ (l : List ℕ). take n l) same ∙ take_all n ahead fits in
    let least = subst (λ (l : List ℕ). c.min-count.result ≡ min (length (take n l)) 5) same c.min-count.ensures in
    head_opens ahead c.in-Ok.found (c.in-Ok.ensures.head ahead (ap (λ (l : List ℕ). take c.min-count.result (take n l)) same ∙ ahead_front n c.min-count.result ahead fits least) (ap length all))
