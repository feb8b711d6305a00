-- What a crash leaves of a log in the two steps of `append`.
use Rattle.std.proofs.Common.{◌≡◌, ◌≢◌, inl, inr, ◌+◌, ℕ, List, [], ◌∷◌, ◌++◌, length, drop, get_or, refl, sym, ◌∙◌, ap, subst, arith, append_assoc, length-append}
use Rattle.std.proofs.lemmas.Bool.{cases_eq}
use Rattle.std.proofs.lemmas.List.{flat_map_more}
use Rattle.std.specs.List.{AllByRecursion}
use Rattle.hg_disk.specs.State.{DiskState, IsImage, settled, overwritten, after_write}
use Rattle.hg_disk.proofs.Images.{front_kept, torn_middle, overwritten_at}
use Rattle.hg_gate.specs.Batches.{open_gate, closed_gate, IsBody, sized, batch, spelled, IsLog, IsBeforeOrAfter}

abbrev pub frame_of : List ℕ → List ℕ
frame_of body = sized body ++ closed_gate ∷ []

pub spelled_push : (front : List ℕ) (bodies : List (List ℕ)) (body tail : List ℕ) → spelled front (bodies ++ body ∷ []) ++ tail ≡ spelled front bodies ++ (batch body ++ tail)
spelled_push front bodies body tail =
    ap (λ (l : List ℕ). l ++ tail) (sym (flat_map_more batch front bodies body)) ∙ append_assoc (spelled front bodies) (batch body) tail

pub each_push : (bodies : List (List ℕ)) (body : List ℕ) → AllByRecursion IsBody bodies → IsBody body → AllByRecursion IsBody (bodies ++ body ∷ [])
each_push [] body each is = (is, tt)
each_push (b ∷ bodies) body each is = (each.0, each_push bodies body each.1 is)

pub one : (l : List ℕ) → length l ≡ 1 → l ≡ get_or l 0 0 ∷ []
one [] is = absurd (omega arith)
one (x ∷ []) is = refl
one (x ∷ y ∷ l) is = absurd (omega arith)

module _ (front : List ℕ) (bodies : List (List ℕ)) (gate : ℕ) (rest : List ℕ) (closed : gate ≢ open_gate) (each : AllByRecursion IsBody bodies) where
  regroup : spelled front bodies ++ gate ∷ rest ≡ (spelled front bodies ++ gate ∷ []) ++ rest
  regroup = sym (append_assoc (spelled front bodies) (gate ∷ []) rest)

  size : length (spelled front bodies ++ gate ∷ []) ≡ length (spelled front bodies) + 1
  size = length-append (spelled front bodies) (gate ∷ [])

  -- the closed gate stands in each image of the first write
  pub behind_gate : (at : ℕ) (frame image : List ℕ) → at ≡ length (spelled front bodies) + 1 → IsImage (after_write at frame (settled (spelled front bodies ++ gate ∷ rest))) image → IsLog front image bodies
  behind_gate at frame image here is =
      let kept = front_kept (spelled front bodies ++ gate ∷ []) rest at frame image (omega (arith, here, size)) (subst (λ (l : List ℕ). IsImage (after_write at frame (settled l)) image) regroup is) in
      record { gate = gate; rest = kept.0; spelling = kept.1 ∙ append_assoc (spelled front bodies) (gate ∷ []) kept.0; closed = closed; each = each }

  pub staged : (at : ℕ) (frame : List ℕ) → at ≡ length (spelled front bodies) + 1 → overwritten (spelled front bodies ++ gate ∷ rest) at frame ≡ spelled front bodies ++ gate ∷ (frame ++ drop (length frame) rest)
  staged at frame here =
      ap (λ (l : List ℕ). overwritten l at frame) regroup ∙ overwritten_at (spelled front bodies ++ gate ∷ []) rest at frame (omega (arith, here, size))
      ∙ append_assoc (spelled front bodies) (gate ∷ []) (frame ++ drop (length frame) rest)

  -- a whole batch behind any gate counts or it doesn't
  any_gate : (body more image : List ℕ) (byte : ℕ) → IsBody body → image ≡ spelled front bodies ++ byte ∷ (frame_of body ++ more) → IsBeforeOrAfter front bodies body image
  any_gate body more image byte fits is = elim (cases_eq byte open_gate) [
    | inl opened ↦ inr (record {
      gate = closed_gate;
      rest = more;
      spelling = is ∙ ap (λ (b : ℕ). spelled front bodies ++ b ∷ (frame_of body ++ more)) opened
          ∙ ap (λ (l : List ℕ). spelled front bodies ++ open_gate ∷ l) (append_assoc (sized body) (closed_gate ∷ []) more)
          ∙ sym (spelled_push front bodies body (closed_gate ∷ more));
      closed = omega arith;
      each = each_push bodies body each fits;
    })
    | inr shut ↦ inl (record { gate = byte; rest = frame_of body ++ more; spelling = is; closed = shut; each = each })
  ]

  -- and the batch stands whole in each image of the second
  pub at_gate : (at : ℕ) (body more image : List ℕ) → at ≡ length (spelled front bodies) → IsBody body
      → IsImage (after_write at (open_gate ∷ []) (settled (spelled front bodies ++ gate ∷ (frame_of body ++ more)))) image → IsBeforeOrAfter front bodies body image
  at_gate at body more image here fits is =
      let torn = torn_middle (spelled front bodies) (gate ∷ []) (frame_of body ++ more) at (open_gate ∷ []) image here refl is in
      any_gate body (more ++ torn.extra) image (get_or torn.torn 0 0) fits
      (torn.whole ∙ ap (λ (l : List ℕ). spelled front bodies ++ (l ++ ((frame_of body ++ more) ++ torn.extra))) (one torn.torn torn.size)
      ∙ ap (λ (l : List ℕ). spelled front bodies ++ get_or torn.torn 0 0 ∷ l) (append_assoc (frame_of body) more torn.extra))

  pub opened : (at : ℕ) (body more : List ℕ) → at ≡ length (spelled front bodies)
      → overwritten (spelled front bodies ++ gate ∷ (frame_of body ++ more)) at (open_gate ∷ []) ≡ spelled front (bodies ++ body ∷ []) ++ closed_gate ∷ more
  opened at body more here =
      overwritten_at (spelled front bodies) (gate ∷ (frame_of body ++ more)) at (open_gate ∷ []) here
      ∙ ap (λ (l : List ℕ). spelled front bodies ++ open_gate ∷ l) (append_assoc (sized body) (closed_gate ∷ []) more)
      ∙ sym (spelled_push front bodies body (closed_gate ∷ more))

  pub new_end : (body : List ℕ) → length (spelled front (bodies ++ body ∷ [])) ≡ length (spelled front bodies) + length (frame_of body)
  new_end body = omega (arith, ap length (spelled_push front bodies body []), length-append (spelled front (bodies ++ body ∷ [])) [], length-append (spelled front bodies) (batch body ++ []), length-append body [], length-append body (closed_gate ∷ []))

  -- the file between the two steps
  pub mid_is : (old mid : DiskState) (at : ℕ) (frame body : List ℕ) → old ≡ settled (spelled front bodies ++ gate ∷ rest) → at ≡ length (spelled front bodies) + 1 → frame ≡ frame_of body
      → mid ≡ settled (overwritten old.contents at frame) → mid ≡ settled (spelled front bodies ++ gate ∷ (frame_of body ++ drop (length (frame_of body)) rest))
  mid_is old mid at frame body was here framed is =
      is ∙ ap settled (ap (λ (s : DiskState). overwritten s.contents at frame) was ∙ ap (λ (l : List ℕ). overwritten (spelled front bodies ++ gate ∷ rest) at l) framed ∙ staged at (frame_of body) here)

  pub new_is : (mid new : DiskState) (at : ℕ) (body more : List ℕ) → mid ≡ settled (spelled front bodies ++ gate ∷ (frame_of body ++ more)) → at ≡ length (spelled front bodies)
      → new ≡ settled (overwritten mid.contents at (open_gate ∷ [])) → new ≡ settled (spelled front (bodies ++ body ∷ []) ++ closed_gate ∷ more)
  new_is mid new at body more was here is = is ∙ ap settled (ap (λ (s : DiskState). overwritten s.contents at (open_gate ∷ [])) was ∙ opened at body more here)

  pub first_image : (s : DiskState) (body : List ℕ) (at : ℕ) (frame image : List ℕ) → s ≡ settled (spelled front bodies ++ gate ∷ rest) → at ≡ length (spelled front bodies) + 1
      → IsImage (after_write at frame s) image → IsBeforeOrAfter front bodies body image
  first_image s body at frame image was here is = inl (behind_gate at frame image here (subst (λ (t : DiskState). IsImage (after_write at frame t) image) was is))

  pub second_image : (s : DiskState) (body more : List ℕ) (at : ℕ) (image : List ℕ) → s ≡ settled (spelled front bodies ++ gate ∷ (frame_of body ++ more)) → at ≡ length (spelled front bodies) → IsBody body
      → IsImage (after_write at (open_gate ∷ []) s) image → IsBeforeOrAfter front bodies body image
  second_image s body more at image was here fits is = at_gate at body more image here fits (subst (λ (t : DiskState). IsImage (after_write at (open_gate ∷ []) t) image) was is)
