-- A store that was opened, and then listed.
use Rattle.std.proofs.Common.{◌≡◌, ◌∙◌, ◌+◌, ℕ, List, [], ◌∷◌, Some, Result, Ok, Err, IfErr, inr, ap, refl}
use Rattle.hg_disk.specs.declared.disk.Disk as disk
use Rattle.hg_model.specs.declared.verdict.Refusal.{Refusal}
use Rattle.hg_store.specs.declared.devices.Devices.{Devices}
use Rattle.hg_store.specs.Limits.{Limits, greatest_with, limits_of}
use Rattle.hg_store.specs.Shown.{ShownStore}
use Rattle.hg_streams.specs.Calls.{failed_writes}
use Rattle.hg_streams.specs.Faults.{IsStreamFault}
use Rattle.hg_streams.specs.Shown.{Outgoing}
use Rattle.hg_streams.specs.Told.{told}
use Rattle.hg_streams.specs.declared.call.WriteCall.{WriteCall}
use Rattle.hg_commands.specs.Instants.{Instant, WasOpened, instant_of}
use Rattle.hg_commands.specs.Listings.{HasListingCause}
use Rattle.hg_commands.specs.Storing.{NoCallFailed}

-- a store that was opened, whose devices were handed back as they were
pub was_opened : {D : Type 0} (s : ShownStore D) (frames : ℕ) (calls : List WriteCall) (none moments : List (Instant D)) (moment : Instant D) (new : Devices D) → limits_of s ≡ greatest_with frames
    → none ≡ [] → moments ≡ moment ∷ none → moment ≡ instant_of s calls → new ≡ s.devices → WasOpened frames calls moments new
was_opened s frames calls none moments moment new limits empty pushed is same = record {
  moment = instant_of s calls;
  once = pushed ∙ (ap (λ x. x ∷ none) is ∙ ap (λ t. instant_of s calls ∷ t) empty);
  limits = ap (λ (l : Limits). Some l) limits;
  unwritten = refl;
  still = same;
}

-- its listing was broken off, if it was not printed
pub listing_breaks : {D V T : Type 0} (g : disk.Ghosts D) (frames : ℕ) (old new : Devices D) (moments : List (Instant D)) (before after : Outgoing V) (result : Result T Refusal) → WasOpened frames before.calls moments new
    → NoCallFailed g old new → IfErr result IsStreamFault → failed_writes after.calls ≡ told result + failed_writes before.calls → IfErr result (HasListingCause g frames old new moments before after)
listing_breaks g frames old new moments before after (Ok x) opened device is failed = tt
listing_breaks g frames old new moments before after (Err r) opened device is failed = inr (record {
  opened = opened;
  is = is;
  failed = failed;
  device = device;
})
