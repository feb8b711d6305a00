use Rattle.hg_wire.proofs.WholeLemmas.{IsReadTo}
use Rattle.hg_wire.proofs.number.number_of_numeral.Given as goal

abbrev pub invariant-loop-byte : goal.invariant-loop-byte
invariant-loop-byte l = IsReadTo l.base l.digits l.byte-index l.value
