-- What a crash leaves of a file while its gate is written, and while it is closed.
use Rattle.std.proofs.Common.{◌≡◌, ◌≢◌, inl, inr, ◌≤◌, ◌+◌, ℕ, Result, Ok, Err, OnOk, OnErr, List, [], ◌∷◌, ◌++◌, length, take, drop, get_or, refl, sym, ◌∙◌, ap, subst, arith, append_assoc, length-append}
use Rattle.std.proofs.lemmas.Bool.{cases_eq}
use Rattle.std.proofs.lemmas.List.{nil_from_length, take_at}
use Rattle.std.specs.Int.{w64, to_be_bytes}
use Rattle.hg_disk.specs.declared.disk.Disk as disk
use Rattle.hg_disk.specs.State.{DiskState, IsImage, SameImages, settled, overwritten, after_write, after_cut, after_sync}
use Rattle.hg_disk.specs.Laws.{KeepsBytes}
use Rattle.hg_disk.specs.Moments.{LeavesOnly, WereTrueBefore}
use Rattle.hg_disk.proofs.Moments.{weaker, write_leaves, cut_leaves, sync_leaves}
use Rattle.hg_disk.proofs.Images.{torn_middle, overwritten_at}
use Rattle.hg_disk.proofs.Keeping.{keeps_settled, keeps_write_behind, keeps_cut, keeps_image}
use Rattle.hg_gate.specs.Batches.{open_gate, IsClosed}
use Rattle.hg_gate.specs.Gated.{framed, IsClosedOrOpenWith, IsBehindGate}
use Rattle.hg_gate.proofs.Crash.{one}

-- the gate is torn, and nothing behind it
pub behind_gate : (s : DiskState) (gate byte : ℕ) (rest image : List ℕ) → s ≡ settled (gate ∷ rest) → IsImage (after_write 0 (byte ∷ []) s) image → IsBehindGate rest image
behind_gate s gate byte rest image was is =
    let torn = torn_middle [] (gate ∷ []) rest 0 (byte ∷ []) image refl refl (subst (λ (t : DiskState). IsImage (after_write 0 (byte ∷ []) t) image) was is) in
    record { gate = get_or torn.torn 0 0; rest = torn.extra; spelling = torn.whole ∙ ap (λ (l : List ℕ). l ++ (rest ++ torn.extra)) (one torn.torn torn.size) }

-- so the file is closed, or open with what stands there
closed_or_open : (body rest image : List ℕ) → IsBehindGate (framed body ++ rest) image → IsClosedOrOpenWith body image
closed_or_open body rest image found = elim (cases_eq found.gate open_gate) [
  | inl opened ↦ inr (record {
    rest = rest ++ found.rest;
    spelling = found.spelling ∙ ap (λ (b : ℕ). b ∷ ((framed body ++ rest) ++ found.rest)) opened ∙ ap (λ (l : List ℕ). open_gate ∷ l) (append_assoc (framed body) rest found.rest);
  })
  | inr shut ↦ inl (record { gate = found.gate; rest = (framed body ++ rest) ++ found.rest; spelling = found.spelling; closed = shut })
]

pub shut_or_open : (s : DiskState) (gate byte : ℕ) (body rest image : List ℕ) → s ≡ settled (gate ∷ (framed body ++ rest)) → IsImage (after_write 0 (byte ∷ []) s) image → IsClosedOrOpenWith body image
shut_or_open s gate byte body rest image was is = closed_or_open body rest image (behind_gate s gate byte (framed body ++ rest) image was is)

-- the gate is on the disk
pub gate_kept : (s : DiskState) (gate : ℕ) (rest : List ℕ) → s ≡ settled (gate ∷ rest) → KeepsBytes s 0 (gate ∷ [])
gate_kept s gate rest was = subst (λ (t : DiskState). KeepsBytes t 0 (gate ∷ [])) (sym was) (keeps_settled (gate ∷ rest) 0 (gate ∷ []) (record { before = []; after = rest; place = refl; whole = refl }))

-- and stays there
pub written_kept : (s new : DiskState) (gate at : ℕ) (bytes : List ℕ) → 1 ≤ at → KeepsBytes s 0 (gate ∷ []) → new ≡ after_write at bytes s → KeepsBytes new 0 (gate ∷ [])
written_kept s new gate at bytes behind was is = subst (λ (t : DiskState). KeepsBytes t 0 (gate ∷ [])) (sym is) (keeps_write_behind at bytes s 0 (gate ∷ []) (omega (arith, behind)) was)

pub cut_kept : (s new : DiskState) (gate to : ℕ) → 1 ≤ to → KeepsBytes s 0 (gate ∷ []) → new ≡ after_cut to s → KeepsBytes new 0 (gate ∷ [])
cut_kept s new gate to le was is = subst (λ (t : DiskState). KeepsBytes t 0 (gate ∷ [])) (sym is) (keeps_cut to s 0 (gate ∷ []) (omega (arith, le)) was)

shut : (s : DiskState) (gate : ℕ) (image : List ℕ) → gate ≢ open_gate → KeepsBytes s 0 (gate ∷ []) → IsImage s image → IsClosed image
shut s gate image closed kept is =
    let found = keeps_image s 0 (gate ∷ []) image kept is in
    record { gate = gate; rest = found.after; spelling = found.whole ∙ ap (λ (l : List ℕ). l ++ (gate ∷ found.after)) (nil_from_length found.before found.place); closed = closed }

module _ {D : Type 0} (g : disk.Ghosts D) (gate : ℕ) (closed : gate ≢ open_gate) where
  -- each image of a call that leaves the closed gate is closed
  pub write_shut : {T E : Type 0} (old new : D) (at : ℕ) (bytes : List ℕ) (result : Result T E) → 1 ≤ at → KeepsBytes (g.state old) 0 (gate ∷ []) → OnOk result (g.state new ≡ after_write at bytes (g.state old))
      → OnErr result (SameImages (after_write at bytes (g.state old)) (g.state new)) → g.past new ≡ (g.state old ∷ g.past old) → WereTrueBefore g old new → LeavesOnly g old new IsClosed
  write_shut old new at bytes result behind kept ok err clock goes =
      weaker g old new (IsImage (after_write at bytes (g.state old))) IsClosed (write_leaves g old new at bytes result ok err clock goes) (λ image is.
      shut (after_write at bytes (g.state old)) gate image closed (written_kept (g.state old) (after_write at bytes (g.state old)) gate at bytes behind kept refl) is)

  pub cut_shut : {T E : Type 0} (old new : D) (to : ℕ) (result : Result T E) → 1 ≤ to → KeepsBytes (g.state old) 0 (gate ∷ []) → OnOk result (g.state new ≡ after_cut to (g.state old))
      → OnErr result (SameImages (after_cut to (g.state old)) (g.state new)) → g.past new ≡ (g.state old ∷ g.past old) → WereTrueBefore g old new → LeavesOnly g old new IsClosed
  cut_shut old new to result behind kept ok err clock goes =
      weaker g old new (IsImage (after_cut to (g.state old))) IsClosed (cut_leaves g old new to result ok err clock goes) (λ image is.
      shut (after_cut to (g.state old)) gate image closed (cut_kept (g.state old) (after_cut to (g.state old)) gate to behind kept refl) is)

  pub sync_shut : {T E : Type 0} (old new : D) (result : Result T E) → ((d : D) → IsImage (g.state d) (g.state d).contents) → KeepsBytes (g.state old) 0 (gate ∷ []) → OnOk result (g.state new ≡ after_sync (g.state old))
      → OnErr result (SameImages (g.state old) (g.state new)) → g.past new ≡ (g.state old ∷ g.past old) → WereTrueBefore g old new → LeavesOnly g old new IsClosed
  sync_shut old new result has_its_bytes kept ok err clock goes =
      weaker g old new (IsImage (g.state old)) IsClosed (sync_leaves g old new result has_its_bytes ok err clock goes) (λ image is. shut (g.state old) gate image closed kept is)

-- what follows where a call answered Ok
pub on_ok : {T E : Type 0} {A B : Type 0} (result : Result T E) → (A → B) → OnOk result A → OnOk result B
on_ok (Ok value) f is = f is
on_ok (Err error) f is = is

pub was_ok : {T E : Type 0} {A : Type 0} (result : Result T E) (value : T) → result ≡ Ok value → OnOk result A → A
was_ok {T} {E} {A} result value is = subst (λ (r : Result T E). OnOk r A) is

-- the file after the two writes, the cut and the sync
pub body_written : (s0 s1 s2 s3 s4 : DiskState) (gate to : ℕ) (rest body number : List ℕ) → number ≡ to_be_bytes w64 (length body) → s0 ≡ settled (gate ∷ rest) → s1 ≡ after_write 1 number s0 → s2 ≡ after_write 9 body s1
    → to ≡ 9 + length body → s3 ≡ after_cut to s2 → s4 ≡ after_sync s3 → s4 ≡ settled (gate ∷ framed body)
body_written s0 s1 s2 s3 s4 gate to rest body number is_number is0 is1 is2 end is3 is4 =
    let eight : length number ≡ 8 = ap length is_number in
    let one : s1.contents ≡ (gate ∷ number) ++ drop (length number) rest =
    ap (λ (s : DiskState). s.contents) is1 ∙ ap (λ (s : DiskState). overwritten s.contents 1 number) is0 ∙ overwritten_at (gate ∷ []) rest 1 number refl in
    let two : s2.contents ≡ (gate ∷ number) ++ (body ++ drop (length body) (drop (length number) rest)) =
    ap (λ (s : DiskState). s.contents) is2 ∙ ap (λ (l : List ℕ). overwritten l 9 body) one ∙ overwritten_at (gate ∷ number) (drop (length number) rest) 9 body (omega (arith, eight)) in
    let size : length ((gate ∷ number) ++ body) ≡ to = omega (arith, end, eight, length-append number body) in
    let three : s3.contents ≡ (gate ∷ number) ++ body =
    ap (λ (s : DiskState). s.contents) is3 ∙ ap (λ (l : List ℕ). take to l) (two ∙ sym (append_assoc (gate ∷ number) body (drop (length body) (drop (length number) rest))))
    ∙ take_at ((gate ∷ number) ++ body) (drop (length body) (drop (length number) rest)) to size in
    is4 ∙ ap settled (three ∙ ap (λ (l : List ℕ). (gate ∷ l) ++ body) is_number)
