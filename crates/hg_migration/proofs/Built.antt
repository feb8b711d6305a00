-- The two new files while they are built.
use Rattle.std.proofs.Common.{◌≡◌, ◌+◌, ◌-◌, ◌≤◌, ◌⊎◌, inl, inr, ℕ, Result, Ok, Err, OnOk, OnErr, List, [], ◌∷◌, ◌++◌, length, refl, ◌∙◌, ap, subst, arith}
use Rattle.std.proofs.lemmas.Bool.{cases_eq}
use Rattle.std.proofs.lemmas.List.{take_rest}
use Rattle.hg_disk.specs.declared.disk.Disk as disk
use Rattle.hg_disk.specs.Moments.{LeavesOnly}
use Rattle.hg_disk.specs.State.{DiskState, IsImage, SameImages, after_sync, after_write, counted, overwritten, settled}
use Rattle.hg_disk.proofs.Images.{overwritten_at}
use Rattle.hg_disk.proofs.Moments.{weaker}
use Rattle.hg_gate.specs.Batches.{IsClosed, closed_gate, open_gate}
use Rattle.hg_gate.proofs.Gates.{behind_gate}
use Rattle.hg_migration.specs.Building.{HasCopy, IsCopy, IsFilled, IsGated, MakesGate, with_gate, zero_front}
use Rattle.hg_migration.specs.Copying.{AreRead}

-- the gate that is opened
pub opened : (rest : List ℕ) (s t : DiskState) → s ≡ settled (closed_gate ∷ rest) → t ≡ settled (overwritten s.contents 0 (open_gate ∷ [])) → t ≡ settled (open_gate ∷ rest)
opened rest s t was is = is ∙ ap settled (ap (λ (u : DiskState). overwritten u.contents 0 (open_gate ∷ [])) was ∙ overwritten_at [] (closed_gate ∷ rest) 0 (open_gate ∷ []) refl)

module _ {D : Type 0} (g : disk.Ghosts D) where
  -- what was read behind the header is a copy
  pub copy_of : (old copied : List ℕ) → 8 ≤ length old → AreRead g old 8 (length old - 8) copied → IsCopy g old copied
  copy_of old copied header read = record { size = omega (arith, header, read.size); same = λ honest. read.same honest ∙ take_rest old 8 }

  -- while the gate of a filled file is opened
  shut_or_copy : (old copied : List ℕ) (s : DiskState) (image : List ℕ) → IsCopy g old copied → s ≡ settled (closed_gate ∷ (zero_front ++ copied)) → IsImage (after_write 0 (open_gate ∷ []) s) image → IsClosed image ⊎ HasCopy g old image
  shut_or_copy old copied s image is_copy was left =
      let found = behind_gate s closed_gate open_gate (zero_front ++ copied) image was left in
      elim (cases_eq found.gate open_gate) [
        | inl shown ↦ inr (copied, is_copy, (found.rest, found.spelling ∙ ap (λ (b : ℕ). b ∷ ((zero_front ++ copied) ++ found.rest)) shown))
        | inr shut ↦ inl (record { gate = found.gate; rest = (zero_front ++ copied) ++ found.rest; spelling = found.spelling; closed = shut })
      ]

  pub opening : (old : List ℕ) (from to : D) → IsFilled g old from → LeavesOnly g from to (IsImage (after_write 0 (open_gate ∷ []) (g.state from))) → LeavesOnly g from to (λ image. IsClosed image ⊎ HasCopy g old image)
  opening old from to filled only =
      weaker g from to (IsImage (after_write 0 (open_gate ∷ []) (g.state from))) (λ image. IsClosed image ⊎ HasCopy g old image) only (λ image left.
      shut_or_copy old filled.0 (g.state from) image filled.1 filled.2 left)

  -- ---- the gate of an empty file

  -- the write failed,
  pub write_failed : (old new : D) → g.past new ≡ (g.state old ∷ g.past old) → SameImages (with_gate g old) (g.state new) → g.failures new ≡ g.failures old + 1 → MakesGate g old new
  write_failed old new clock same failed = record { calls = inl clock; now = inr (inr (same, failed)) }

  pub gate_synced : (old mid new : D) → (g.state old).contents ≡ [] → g.state mid ≡ with_gate g old → g.state new ≡ after_sync (g.state mid) → IsGated g new
  gate_synced old mid new none written ok =
      ok ∙ ap (λ (s : DiskState). settled s.contents) written ∙ ap (λ (l : List ℕ). settled (overwritten l 0 (closed_gate ∷ []))) none

  -- or it was synced
  gate_now : {T E : Type 0} (old mid new : D) (result : Result T E) → (g.state old).contents ≡ [] → g.state mid ≡ with_gate g old → g.failures mid ≡ g.failures old → OnOk result (g.state new ≡ after_sync (g.state mid)) → OnErr result (SameImages (g.state mid) (g.state new))
      → g.failures new ≡ counted result (g.failures mid)
      → (g.state new ≡ with_gate g old) ⊎ (IsGated g new ⊎ (SameImages (with_gate g old) (g.state new) × (g.failures new ≡ g.failures old + 1)))
  gate_now old mid new (Ok value) none written before ok err failed = inr (inl (gate_synced old mid new none written ok))
  gate_now old mid new (Err error) none written before ok err failed =
      inr (inr (subst (λ (s : DiskState). SameImages s (g.state new)) written err, failed ∙ ap (λ (n : ℕ). n + 1) before))

  pub was_synced : {T E : Type 0} (old mid new : D) (result : Result T E) → (g.state old).contents ≡ [] → g.state mid ≡ with_gate g old → g.past mid ≡ (g.state old ∷ g.past old) → g.failures mid ≡ g.failures old
      → OnOk result (g.state new ≡ after_sync (g.state mid)) → OnErr result (SameImages (g.state mid) (g.state new)) → g.past new ≡ (g.state mid ∷ g.past mid) → g.failures new ≡ counted result (g.failures mid) → MakesGate g old new
  was_synced old mid new result none written first before ok err clock failed = record {
    calls = inr (clock ∙ (λ i. written i ∷ first i));
    now = gate_now old mid new result none written before ok err failed;
  }
