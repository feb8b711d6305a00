-- What the slow program cuts lists into.
use Rattle.std.specs.Prelude.{◌≡◌, false, List, [], ◌∷◌}
use Rattle.std.specs.List.{AllByRecursion}
use Rattle.hg_model.specs.declared.event.Event.{Event}
use Rattle.hg_model.specs.declared.word.HistoryItem.{HistoryItem}
use Rattle.hg_model.specs.Sharing.{Sharing, Unshared, SharedFrom}
use Rattle.hg_model.specs.Verdicts.{past_address_end}

-- the sharing of items that begin with the one before the sharing point; Unshared for fewer than two items
abbrev pub sharing_in : List HistoryItem → Sharing
sharing_in [] = Unshared
sharing_in (x ∷ []) = Unshared
sharing_in (x ∷ y ∷ items) = SharedFrom x y items

-- no event passes the end of the addresses
abbrev pub InSpace : List Event → Type 0
InSpace past = AllByRecursion (λ e. past_address_end e ≡ false) past
