-- Bytes that are copied by pieces.
use Rattle.std.proofs.Common.{◌≡◌, ◌≤◌, ◌+◌, ◌/◌, ℕ, zero, suc, Result, OnOk, OnErr, List, [], ◌∷◌, ◌++◌, length, take, drop, refl, sym, ◌∙◌, ap, subst, arith, append_assoc, length-append}
use Rattle.std.proofs.Math.Seq.{take-add}
use Rattle.std.proofs.lemmas.List.{append-nil, drop-drop, nil_from_length}
use Rattle.hg_disk.specs.declared.disk.Disk as disk
use Rattle.hg_disk.specs.Moments.{WereTrueBefore}
use Rattle.hg_disk.specs.State.{SameImages, after_write, overwritten}
use Rattle.hg_disk.proofs.Images.{overwritten_at}
use Rattle.hg_disk.proofs.Keeping.{keeps_image}
use Rattle.hg_disk.proofs.Moments.{joined, started}
use Rattle.hg_gate.specs.Batches.{IsClosed}
use Rattle.hg_gate.proofs.Gates.{written_kept, write_shut}
use Rattle.hg_migration.specs.Copying.{Appends, KeepsGate, StaysClosed}

drop_none : (n : ℕ) → drop {A = ℕ} n [] ≡ []
drop_none zero = refl
drop_none (suc n) = refl

-- a write at the end of a file
pub appended : (file bytes : List ℕ) (at : ℕ) → at ≡ length file → overwritten file at bytes ≡ file ++ bytes
appended file bytes at is =
    ap (λ (l : List ℕ). overwritten l at bytes) (sym (append-nil file)) ∙ overwritten_at file [] at bytes is
    ∙ ap (λ (l : List ℕ). file ++ (bytes ++ l)) (drop_none (length bytes)) ∙ ap (λ (l : List ℕ). file ++ l) (append-nil bytes)

module _ {D : Type 0} (g : disk.Ghosts D) where
  pub no_more : (file old : List ℕ) (at : ℕ) → Appends g file at 0 old old
  no_more file old at = ([], record { size = refl; same = λ _. refl }, sym (append-nil old))

  -- a piece behind the others
  pub one_more : (file old mid new : List ℕ) (at next n count : ℕ) → next ≡ at + n → Appends g file at n old mid → Appends g file next count mid new → Appends g file at (n + count) old new
  one_more file old mid new at next n count is all one = (
    all.0 ++ one.0,
    record {
      size = omega (arith, length-append all.0 one.0, all.1.size, one.1.size);
      same = λ honest.
          let there : drop next file ≡ drop n (drop at file) = ap (λ (k : ℕ). drop k file) is ∙ sym (drop-drop n at file) in
          (λ i. all.1.same honest i ++ (one.1.same honest ∙ ap (λ (l : List ℕ). take count l) there) i) ∙ sym (take-add n count (drop at file));
    },
    one.2 ∙ ap (λ (l : List ℕ). l ++ one.0) all.2 ∙ append_assoc old all.0 one.0,
  )

  pub as_many : (file old new : List ℕ) (at n k : ℕ) → n ≡ k → Appends g file at n old new → Appends g file at k old new
  as_many file old new at n k is all = subst (λ (m : ℕ). Appends g file at m old new) is all

  -- before the first call
  pub closed_now : (d : D) → StaysClosed g d d
  closed_now d gate closed kept =
      started g d IsClosed (λ image is.
      let found = keeps_image (g.state d) 0 (gate ∷ []) image kept is in
      record { gate = gate; rest = found.after; spelling = found.whole ∙ ap (λ (l : List ℕ). l ++ (gate ∷ found.after)) (nil_from_length found.before found.place); closed = closed })

  -- one run of calls behind another
  pub closed_on : (old mid new : D) → StaysClosed g old mid → KeepsGate g old mid → StaysClosed g mid new → StaysClosed g old new
  closed_on old mid new first keeps next gate closed kept = joined g old mid new IsClosed (first gate closed kept) (next gate closed (keeps gate kept))

  -- a write at the end
  pub write_closed : {T E : Type 0} (old new : D) (at : ℕ) (bytes : List ℕ) (result : Result T E) → at ≡ length (g.state old).contents → OnOk result (g.state new ≡ after_write at bytes (g.state old))
      → OnErr result (SameImages (after_write at bytes (g.state old)) (g.state new)) → g.past new ≡ (g.state old ∷ g.past old) → WereTrueBefore g old new → StaysClosed g old new
  write_closed old new at bytes result is ok err clock before gate closed kept =
      write_shut g gate closed old new at bytes result (omega (arith, is, kept.held)) kept ok err clock before

  pub write_keeps : (old new : D) (at : ℕ) (bytes : List ℕ) → at ≡ length (g.state old).contents → g.state new ≡ after_write at bytes (g.state old) → KeepsGate g old new
  write_keeps old new at bytes is written gate kept = written_kept (g.state old) (g.state new) gate at bytes (omega (arith, is, kept.held)) kept written

-- how many pieces there are
pub pieces_grow : (m n : ℕ) → m ≤ n → m / 65536 ≤ n / 65536
pieces_grow m n le = omega arith

pub piece_more : (m : ℕ) → (m + 65536) / 65536 ≡ m / 65536 + 1
piece_more m = omega arith
