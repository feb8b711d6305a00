use Rattle.std.proofs.Common.{◌≡◌, ◌∙◌, ap, arith, length, min, take, ℕ}
use Rattle.std.proofs.lemmas.List.{take_min}
use Rattle.hg_gate.proofs.based.read_front.Goals as goal

pub returns-clause-damaged : goal.returns-clause-damaged
returns-clause-damaged g c honest told =
    let file = (g.D.Disk.state c.args.disk.now).contents in
    let least : c.min-count.result ≡ min 17 (length file) = omega (arith, c.min-count.ensures, c.len-len.ensures.value) in
    c.base_of.ensures.damaged file (c.deref.ensures.value ∙ c.in_ok-front.ensures.bytes honest ∙ ap (λ (k : ℕ). take k file) least ∙ take_min 17 file) told
