-- What a batch shows.
use Rattle.std.specs.Prelude.{ℕ, List}
use Rattle.std.specs.Global.{Vec}
use Rattle.hg_gate.specs.declared.batch.Batch.{Batch}

-- its bytes
abbrev pub body_of : Batch → List ℕ
body_of b = b.body.items

-- the vector that it was made of
abbrev pub vec_of : Batch → Vec ℕ
vec_of b = b.body
