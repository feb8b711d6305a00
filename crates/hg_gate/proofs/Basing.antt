-- Logs with a base, and spare files.
use Rattle.std.proofs.Common.{◌≡◌, inl, inr, ◌<◌, ◌^◌, ℕ, zero, suc, false, List, [], ◌∷◌, ◌++◌, length, take, drop, get_or, refl, sym, ◌∙◌, ap, arith, append_assoc}
use Rattle.std.proofs.lemmas.Bool.{cases_eq}
use Rattle.std.proofs.lemmas.List.{append-nil, take_at}
use Rattle.std.proofs.lemmas.Nat.{from_be_bytes-to_be_bytes_8}
use Rattle.std.specs.List.{flat_map}
use Rattle.std.specs.Int.{w64, to_be_bytes, from_be_bytes}
use Rattle.hg_disk.specs.declared.disk.Disk as disk
use Rattle.hg_disk.specs.State.{DiskState, IsImage, settled, overwritten, after_write}
use Rattle.hg_disk.specs.Moments.{LeavesOnly}
use Rattle.hg_disk.proofs.Moments.{weaker}
use Rattle.hg_disk.proofs.Images.{overwritten_at}
use Rattle.hg_gate.specs.declared.based.TheConstants.{MAX_BASE}
use Rattle.hg_gate.specs.declared.log.Log.{Log}
use Rattle.hg_gate.specs.Based.{IsSpare}
use Rattle.hg_gate.specs.Batches.{HasBase, IsBased, IsClosed, IsLog, IsNoLogFile, IsSpareOrHas, base_front, base_header, batch, closed_gate, open_gate, spelled}
use Rattle.hg_gate.specs.Log.{Has}
use Rattle.hg_gate.specs.Scan.{IsNoTail}
use Rattle.hg_gate.proofs.Gates.{behind_gate}
use Rattle.hg_gate.proofs.Opening.{not_closed}
use Rattle.hg_gate.proofs.Reading.{behind}

drop_none : (n : ℕ) → drop {A = ℕ} n [] ≡ []
drop_none zero = refl
drop_none (suc n) = refl

-- one byte, with these bytes put behind it
pub put : (gate : ℕ) (bytes : List ℕ) → overwritten (gate ∷ []) 1 bytes ≡ gate ∷ bytes
put gate bytes =
    overwritten_at (gate ∷ []) [] 1 bytes refl ∙ ap (λ (l : List ℕ). gate ∷ (bytes ++ l)) (drop_none (length bytes)) ∙ ap (λ (l : List ℕ). gate ∷ l) (append-nil bytes)

-- what stands behind the gate of a log with this base and no batches
abbrev pub start : ℕ → List ℕ
start base = (base_header ++ to_be_bytes w64 base) ++ closed_gate ∷ []

-- the gate of a new log is torn, and nothing behind it
pub new_image : (base gate : ℕ) (s : DiskState) (image : List ℕ) → s ≡ settled (gate ∷ start base) → IsImage (after_write 0 (open_gate ∷ []) s) image → IsSpareOrHas base [] image
new_image base gate s image was is =
    let found = behind_gate s gate open_gate (start base) image was is in
    elim (cases_eq found.gate open_gate) [
      | inl opened ↦ inr (record {
        gate = closed_gate;
        rest = found.rest;
        spelling = found.spelling ∙ ap (λ (b : ℕ). b ∷ (start base ++ found.rest)) opened;
        closed = omega arith;
        each = tt;
      })
      | inr shut ↦ inl (record { gate = found.gate; rest = start base ++ found.rest; spelling = found.spelling; closed = shut })
    ]

-- the gate of a log is torn, and nothing behind it
pub close_image : (base : ℕ) (bodies : List (List ℕ)) (file : List ℕ) (s : DiskState) (image : List ℕ) → IsLog (base_front base) file bodies → s ≡ settled file → IsImage (after_write 0 (closed_gate ∷ []) s) image
    → IsSpareOrHas base bodies image
close_image base bodies file s image has was is =
    let tail = ((base_header ++ to_be_bytes w64 base) ++ flat_map batch bodies) ++ has.gate ∷ has.rest in
    let found = behind_gate s open_gate closed_gate tail image (was ∙ ap settled has.spelling) is in
    elim (cases_eq found.gate open_gate) [
      | inl opened ↦ inr (record {
        gate = has.gate;
        rest = has.rest ++ found.rest;
        spelling = found.spelling ∙ ap (λ (b : ℕ). b ∷ (tail ++ found.rest)) opened ∙ append_assoc (spelled (base_front base) bodies) (has.gate ∷ has.rest) found.rest;
        closed = has.closed;
        each = has.each;
      })
      | inr shut ↦ inl (record { gate = found.gate; rest = tail ++ found.rest; spelling = found.spelling; closed = shut })
    ]

-- the new log on the disk
pub opened : (base gate : ℕ) (mid new : DiskState) → mid ≡ settled (gate ∷ start base) → new ≡ settled (overwritten mid.contents 0 (open_gate ∷ [])) → new ≡ settled (base_front base ++ closed_gate ∷ [])
opened base gate mid new was is =
    is ∙ ap settled (ap (λ (s : DiskState). overwritten s.contents 0 (open_gate ∷ [])) was ∙ overwritten_at [] (gate ∷ start base) 0 (open_gate ∷ []) refl)

module _ {D : Type 0} (g : disk.Ghosts D) where
  pub spare_as : (log : Log D g) (h : IsSpare log) → g.state log.disk ≡ settled (h.reads.closed.gate ∷ h.reads.closed.rest)
  spare_as log h = h.durable ∙ ap settled h.reads.closed.spelling

  -- a log with this base and no batches
  pub empty_log : (base : ℕ) (log : Log D g) → log.is_broken ≡ false → log.begins ≡ 17 → log.end ≡ 17 → g.state log.disk ≡ settled (base_front base ++ closed_gate ∷ []) → Has (base_front base) log []
  empty_log base log works begins end is =
      let bytes = ap (λ (s : DiskState). s.contents) is in
      record {
        reads = record {
          works = works;
          has = record { gate = closed_gate; rest = []; spelling = bytes; closed = omega arith; each = tt };
          begins = begins;
          end = end;
        };
        durable = is ∙ ap settled (sym bytes);
      }

  pub spare_or_new : (base : ℕ) (old new : D) → LeavesOnly g old new IsClosed → LeavesOnly g old new (IsSpareOrHas base [])
  spare_or_new base old new shut = weaker g old new IsClosed (IsSpareOrHas base []) shut (λ image is. inl is)

-- ---- what stands at the front of a file

pub front_of : (base : ℕ) (file : List ℕ) (bodies : List (List ℕ)) → IsLog (base_front base) file bodies → take 17 file ≡ base_front base
front_of base file bodies is =
    ap (λ (l : List ℕ). take 17 l) (is.spelling ∙ append_assoc (base_front base) (flat_map batch bodies) (is.gate ∷ is.rest)) ∙ take_at (base_front base) (flat_map batch bodies ++ is.gate ∷ is.rest) 17 refl

pub same_number : (m n : ℕ) → m < 2 ^ 64 → n < 2 ^ 64 → to_be_bytes w64 m ≡ to_be_bytes w64 n → m ≡ n
same_number m n small_m small_n is = sym (from_be_bytes-to_be_bytes_8 m small_m) ∙ ap (λ (l : List ℕ). from_be_bytes w64 l) is ∙ from_be_bytes-to_be_bytes_8 n small_n

pub same_base : (base other : ℕ) (file : List ℕ) (bodies others : List (List ℕ)) → IsBased base file bodies → IsBased other file others → base ≡ other
same_base base other file bodies others one two =
    same_number base other (omega (arith, one.0)) (omega (arith, two.0))
    (ap (λ (l : List ℕ). take 8 (drop 9 l)) (sym (front_of base file bodies one.1) ∙ front_of other file others two.1))

pub gate_at : (file front : List ℕ) → front ≡ take 17 file → get_or front 0 0 ≡ open_gate → get_or file 0 0 ≡ open_gate
gate_at [] front is gate = sym (ap (λ (l : List ℕ). get_or l 0 0) is) ∙ gate
gate_at (x ∷ file) front is gate = sym (ap (λ (l : List ℕ). get_or l 0 0) is) ∙ gate

pub based_is_open : (base : ℕ) (file : List ℕ) (bodies : List (List ℕ)) → IsLog (base_front base) file bodies → get_or file 0 0 ≡ open_gate
based_is_open base file bodies is = ap (λ (l : List ℕ). get_or l 0 0) is.spelling

pub too_great : (base n : ℕ) (file front : List ℕ) (bodies : List (List ℕ)) → front ≡ take 17 file → MAX_BASE < n → n < 2 ^ 64 → to_be_bytes w64 n ≡ take 8 (drop 9 front) → IsBased base file bodies → ⊥
too_great base n file front bodies front_is great small number is =
    let same : n ≡ base = same_number n base small (omega (arith, is.0)) (number ∙ ap (λ (l : List ℕ). take 8 (drop 9 l)) (front_is ∙ front_of base file bodies is.1)) in
    omega (arith, same, great, is.0)

-- a file that has a base and no batches behind it
pub no_file : (base : ℕ) (file : List ℕ) → HasBase file base → IsNoTail (drop 17 file) → IsNoLogFile file
no_file base file has none = (
  not_closed file (ap (λ (l : List ℕ). get_or l 0 0) has.1),
  λ other bodies is. none bodies (behind (base_front other) file bodies is.1),
)
