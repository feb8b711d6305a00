-- The steps of a splitter.
use Rattle.std.proofs.Common.{◌≢◌, ℕ, ◌+◌, ◌<◌, List, [], ◌∷◌, ◌++◌, length, take, refl, ap, arith}
use Rattle.std.specs.List.{enumerate_from}
use Rattle.hg_wire.specs.Bytes.{NoByte}
use Rattle.hg_wire.specs.Streams.{Splitting, stored, EndsLine, EndsNoLine, EndsLastLine}
use Rattle.hg_wire.proofs.StreamLemmas.{shown, IsParted, piece_stored, line_taken, last_line_taken, no_byte_append, no_byte_stored, no_line_shown}

abbrev pub splitting : ℕ → List ℕ → List ℕ → Splitting
splitting n begun last = record { so_far = record { lines = n; begun = begun }; last = last }

pub ends_no_line : (n : ℕ) (begun last other piece : List ℕ) → NoByte 10 begun → NoByte 10 piece → EndsNoLine (splitting n begun last) (splitting n (stored (begun ++ piece)) other) piece
ends_no_line n begun last other piece h k = record {
  counted = refl;
  lines = λ over more. ap (enumerate_from (n + 1)) (piece_stored over begun piece more h k);
  none_left = ap (enumerate_from (n + 1)) (no_line_shown (stored (begun ++ piece)) (no_byte_stored 10 (begun ++ piece) (λ e. omega arith) (no_byte_append 10 begun piece h k)));
}

pub ends_line : (n : ℕ) (begun last piece : List ℕ) (end : ℕ) → NoByte 10 begun → IsParted piece end
    → EndsLine (splitting n begun last) (splitting (n + 1) [] (shown (stored (begun ++ take end piece)))) piece (end + 1)
ends_line n begun last piece end h p =
    record {
      some = omega arith;
      within = omega (arith, p.within);
      counted = refl;
      begun = refl;
      line = λ over more. ap (enumerate_from (n + 1)) (line_taken over begun piece more end h p);
    }

pub ends_last_line : (n : ℕ) (begun last : List ℕ) → 0 < length begun → NoByte 10 begun → EndsLastLine (splitting n begun last) (splitting (n + 1) [] (shown begun))
ends_last_line n begun last some h = record { counted = refl; begun = refl; line = ap (enumerate_from (n + 1)) (last_line_taken begun some h) }

pub nonempty : (bytes : List ℕ) → bytes ≢ [] → 0 < length bytes
nonempty [] h = absurd (h refl)
nonempty (b ∷ bytes) h = omega arith
