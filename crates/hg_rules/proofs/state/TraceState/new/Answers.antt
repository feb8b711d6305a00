use Rattle.std.proofs.Common.{◌≡◌, ℕ, zero, suc, get_or, replicate, refl, ap, ◌∙◌}
use Rattle.hg_rules.proofs.state.TraceState.new.Goals as goal

zeros : (n i : ℕ) → get_or (replicate n zero) i zero ≡ zero
zeros zero i = refl
zeros (suc n) zero = refl
zeros (suc n) (suc i) = zeros n i

pub returns : goal.returns
returns c = record {
  events = refl;
  segments = refl;
  threads = c.in_ok-new.ensures;
  last = λ source. ap (λ xs. get_or xs source 0) (c.in_ok-vec.ensures.items_if_clones_equal (λ y h. h)) ∙ zeros 1024 source;
  messages = record { sent = c.new-2.ensures.agrees.sent; received = c.new-2.ensures.agrees.received };
}
