-- The segments that a test restores. The last one stands behind a segment that is past, as no fork and join leave it.
use Rattle.std.specs.Prelude.{List, [], ◌∷◌}
use Rattle.hg_model.specs.Segments.{of_thread}
use Rattle.hg_model.specs.declared.segment.Segment.{Segment}

abbrev pub earlier : List Segment
earlier = of_thread 0 [] ∷ of_thread 1 (0 ∷ []) ∷ of_thread 0 (0 ∷ []) ∷ of_thread 0 (1 ∷ 2 ∷ []) ∷ of_thread 2 (2 ∷ []) ∷ []
