use Rattle.std.proofs.Common.{ℕ, List, refl, subst, sym}
use Rattle.hg_gate.specs.Turning.{ShowsFirst}
use Rattle.hg_gate.proofs.Turning.{none_ahead}
use Rattle.hg_gate.proofs.reader.LogReader.new.Goals as goal

pub returns-clause-first : goal.returns-clause-first
returns-clause-first c left = record { place = refl; ahead = subst (λ (bytes : List ℕ). ShowsFirst bytes left) (sym c.new.ensures.items) (none_ahead left) }
