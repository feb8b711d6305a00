-- What is kept of a store that is made.
use Rattle.std.proofs.Common.{◌≡◌, ◌⊎◌, ◌<◌, Bool, false, List, [], ◌∷◌, refl, sym, ap, subst, ◌∙◌, inl, inr, ⊎_elim, codes}
use Rattle.std.proofs.lemmas.Bool.{false≢true}
use Rattle.hg_streams.specs.declared.call.WriteCall.{WriteCall}
use Rattle.hg_streams.specs.Calls.{failed_writes}
use Rattle.hg_model.specs.Change.{empty_content}
use Rattle.hg_model.specs.Contents.{Content}
use Rattle.hg_disk.specs.declared.disk.Disk as disk
use Rattle.hg_images.specs.Choices.{Stands}
use Rattle.hg_images.specs.Images.{HasContent, Image}
use Rattle.hg_images.specs.Stores.{IsLeft}
use Rattle.hg_store.specs.declared.devices.Devices.{Devices}
use Rattle.hg_store.specs.Images.{EachImage, states_of}
use Rattle.hg_store.specs.Shown.{ShownStore, live, saved}
use Rattle.hg_store.specs.Store.{IsFresh}
use Rattle.hg_store.proofs.Moments.{all_still}
use Rattle.hg_commands.specs.Creating.{CreatedIsKept, IsMadeBetween, IsOfNone}
use Rattle.hg_commands.specs.Instants.{Instant, instant, instant_of}
use Rattle.hg_streams.specs.Printed.{IsPrintedNow}
use Rattle.hg_commands.proofs.Given.{given_none, given_printed}

module _ {D : Type 0} (g : disk.Ghosts D) where
  -- no store was made, and nothing was written
  pub none_is_made : (old new : Devices D) (calls : List WriteCall) (none : List (Instant D)) → none ≡ [] → CreatedIsKept g (instant old calls) none (instant new calls)
  none_is_made old new calls none empty = subst (λ t. CreatedIsKept g (instant old calls) t (instant new calls)) (sym empty) (inl (given_none IsOfNone calls))

  -- there was one, and that was written, or failed to be
  pub one_is_there : (old new : Devices D) (before after : List WriteCall) (none : List (Instant D)) → none ≡ [] → IsPrintedNow before after (codes "not empty\n") → CreatedIsKept g (instant old before) none (instant new after)
  one_is_there old new before after none empty printed =
      subst (λ t. CreatedIsKept g (instant old before) t (instant new after)) (sym empty)
      (inl (given_printed IsOfNone before before after (codes "not empty\n") printed (inr refl) (inl refl) (given_none IsOfNone before)))

  certain : (d live : Content) (in_doubt : Bool) (image : Image) → in_doubt ≡ false → Stands d live in_doubt image → HasContent image d
  certain d live in_doubt image sure (inl is) = is
  certain d live in_doubt image sure (inr b) = absurd (false≢true (sym sure ∙ b.0))

  -- each image of a fresh store has its content
  pub fresh_is_left : (s : ShownStore D) (c : Content) (new : Devices D) (image : Image) → IsFresh g s c → new ≡ s.devices → IsLeft (states_of g new) image → HasContent image c
  fresh_is_left s c new image fresh is left =
      subst (λ (d : Content). HasContent image d) fresh.durable
      (certain (saved g s) (live g s) s.in_doubt image fresh.idle.certain (fresh.backs.stands image (subst (λ (d : Devices D). IsLeft (states_of g d) image) is left)))

  -- the devices of a store that was just made were not called
  fresh_still : (s : ShownStore D) (new : Devices D) → IsFresh g s empty_content → new ≡ s.devices → EachImage g s.devices new (λ image. HasContent image empty_content)
  fresh_still s new fresh is =
      subst (λ d. EachImage g s.devices d (λ image. HasContent image empty_content)) (sym is)
      (all_still g s.devices (λ image. HasContent image empty_content) (λ image left. fresh_is_left s empty_content s.devices image fresh refl left))

  -- a store was made; that was written, or its writing failed
  pub one_is_made : (old new : Devices D) (s : ShownStore D) (before after : List WriteCall) (none one two : List (Instant D)) (first second : Instant D) → IsFresh g s empty_content
      → none ≡ [] → one ≡ first ∷ none → first ≡ instant_of s before → two ≡ second ∷ one → second ≡ instant_of s after
      → (failed_writes before < failed_writes after) ⊎ (new ≡ s.devices) → CreatedIsKept g (instant old before) two (instant new after)
  one_is_made old new s before after none one two first second fresh empty pushed is pushed_again is_again ends =
      let start = instant old before in
      let made = instant_of s before in
      let told = instant_of s after in
      let mids : two ≡ told ∷ made ∷ [] = pushed_again ∙ (ap (λ x. x ∷ one) is_again ∙ ap (λ t. told ∷ t) (pushed ∙ (ap (λ x. x ∷ none) is ∙ ap (λ t. made ∷ t) empty))) in
      let last : IsMadeBetween g start told (instant new after) = inr (⊎_elim (λ failed. inl (failed, refl)) (λ same. inr (fresh_still s new fresh same)) ends) in
      subst (λ t. CreatedIsKept g start t (instant new after)) (sym mids)
      (last, (inr (inr (fresh_still s s.devices fresh refl)), inl (given_none IsOfNone before)))
