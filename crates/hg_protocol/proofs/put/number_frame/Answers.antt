use Rattle.std.proofs.Common.{◌∷◌, ℕ, List, ap, ◌∙◌, append-nil}
use Rattle.hg_protocol.proofs.put.number_frame.Goals as goal

pub returns : goal.returns
returns c =
    let digits = c.write_number.ensures in
    ap (λ (bytes : List ℕ). 0 ∷ 9 ∷ c.args.kind ∷ bytes) (append-nil _ ∙ digits)
