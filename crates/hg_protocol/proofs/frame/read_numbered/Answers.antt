use Rattle.std.proofs.Common.{ℕ, List, [], drop, ap, sym, ◌∙◌}
use Rattle.std.proofs.lemmas.List.{append-nil}
use Rattle.hg_records.specs.Records.{event_text}
use Rattle.hg_protocol.proofs.frame.read_numbered.Goals as goal

pub returns-in-None-clause-none : goal.returns-in-None-clause-none
returns-in-None-clause-none c number event is =
    c.in-None.ensures.none event [] (is.1.0, c.split_at.ensures.back ∙ ap (λ (bytes : List ℕ). drop 8 bytes) is.1.1 ∙ sym (append-nil (event_text event)))
