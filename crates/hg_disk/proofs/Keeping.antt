-- What stays on the disk while other places are written.
use Rattle.std.proofs.Common.{◌≡◌, ◌<◌, ◌≤◌, ◌+◌, ◌-◌, ℕ, min, nat_lt, nat_le, Bool, true, false, ◌&&◌, ◌||◌, List, ◌++◌, length, take, drop, replicate, get_or, refl, sym, ◌∙◌, ap, arith, length-append, length-drop, take-append-drop}
use Rattle.std.proofs.lemmas.Bool.Decides.{nat_tests}
use Rattle.std.proofs.lemmas.List.{places, get_or-drop, get_or-take, get_or-append-add, get_or_append_left, length-take-le, length-take, drop_at, take_at, append_assoc}
use Rattle.hg_disk.specs.State.{DiskState, IsImage, overwritten, is_written, settled, after_write, after_cut}
use Rattle.hg_disk.specs.Laws.{Holds, KeepsBytes}
use Rattle.hg_disk.specs.Kept.{length-overwritten, overwritten_before, overwritten_behind}
use Rattle.hg_disk.proofs.Images.{begins_as}

or_none : (a b : Bool) → a ≡ false → b ≡ false → (a || b) ≡ false
or_none true b h k = absurd (cc h)
or_none false b h k = k

held_at : (before bytes after : List ℕ) (at i : ℕ) → length before ≡ at → i < length bytes → get_or (before ++ (bytes ++ after)) (at + i) 0 ≡ get_or bytes i 0
held_at before bytes after at i place lt =
    ap (λ (n : ℕ). get_or (before ++ (bytes ++ after)) (n + i) 0) (sym place) ∙ get_or-append-add before (bytes ++ after) i 0 ∙ get_or_append_left bytes after 0 i lt

-- a sync keeps what a read gives
pub keeps_settled : (file : List ℕ) (at : ℕ) (bytes : List ℕ) → Holds file at bytes → KeepsBytes (settled file) at bytes
keeps_settled file at bytes has = record {
  long = omega (arith, size);
  held = omega (arith, size);
  untouched = λ i lt. refl;
  same = λ i lt. ap (λ (l : List ℕ). get_or l (at + i) 0) has.whole ∙ held_at has.before bytes has.after at i has.place lt;
}
  where
    size : at + length bytes ≤ length file
    size = omega (arith, ap length has.whole, has.place, length-append has.before (bytes ++ has.after), length-append bytes has.after)

not_behind : (at len end i : ℕ) → i < at → i < len → (nat_le (min at len) i && nat_lt i end) ≡ false
not_behind at len end i lt within = grind (arith, nat_tests)

not_before : (at len end i : ℕ) → end ≤ i → (nat_le (min at len) i && nat_lt i end) ≡ false
not_before at len end i le = grind (arith, nat_tests)

still_held : (at : ℕ) (bytes : List ℕ) (s : DiskState) (n : ℕ) → n ≤ length s.contents → n ≤ length (after_write at bytes s).contents
still_held at bytes s n le = omega (arith, le, length-overwritten s.contents at bytes)

-- a write behind them
pub keeps_write_behind : (at : ℕ) (written : List ℕ) (s : DiskState) (place : ℕ) (bytes : List ℕ) → place + length bytes ≤ at → KeepsBytes s place bytes → KeepsBytes (after_write at written s) place bytes
keeps_write_behind at written s place bytes le was = record {
  long = was.long;
  held = still_held at written s (place + length bytes) was.held;
  untouched = λ i lt. or_none (is_written s.since (place + i)) _ (was.untouched i lt) (not_behind at (length s.contents) (at + length written) (place + i) (omega (arith, le, lt)) (omega (arith, was.held, lt)));
  same = was.same;
}

-- a write before them
pub keeps_write_before : (at : ℕ) (written : List ℕ) (s : DiskState) (place : ℕ) (bytes : List ℕ) → at + length written ≤ place → KeepsBytes s place bytes → KeepsBytes (after_write at written s) place bytes
keeps_write_before at written s place bytes le was = record {
  long = was.long;
  held = still_held at written s (place + length bytes) was.held;
  untouched = λ i lt. or_none (is_written s.since (place + i)) _ (was.untouched i lt) (not_before at (length s.contents) (at + length written) (place + i) (omega (arith, le)));
  same = was.same;
}

cut_held : (to : ℕ) (s : DiskState) (n : ℕ) → n ≤ to → n ≤ length s.contents → n ≤ length (after_cut to s).contents
cut_held to s n le held = omega (arith, le, held, length-take to s.contents)

-- a cut behind them
pub keeps_cut : (to : ℕ) (s : DiskState) (place : ℕ) (bytes : List ℕ) → place + length bytes ≤ to → KeepsBytes s place bytes → KeepsBytes (after_cut to s) place bytes
keeps_cut to s place bytes le was = record {
  long = omega (arith, le, was.long);
  held = cut_held to s (place + length bytes) le was.held;
  untouched = was.untouched;
  same = was.same;
}

-- a list that has the bytes at each of their places
holds_as : (file : List ℕ) (at : ℕ) (bytes : List ℕ) → at + length bytes ≤ length file → ((i : ℕ) → i < length bytes → get_or file (at + i) 0 ≡ get_or bytes i 0) → Holds file at bytes
holds_as file at bytes long same =
    let found = begins_as bytes (drop at file) (omega (arith, long, length-drop at file)) (λ i lt. get_or-drop at file i 0 ∙ same i lt) in
    record {
      before = take at file;
      after = found.0;
      place = length-take-le at file (omega (arith, long));
      whole = sym (take-append-drop at file) ∙ ap (λ (l : List ℕ). take at file ++ l) found.1;
    }

-- so each image has them there
pub keeps_image : (s : DiskState) (at : ℕ) (bytes image : List ℕ) → KeepsBytes s at bytes → IsImage s image → Holds image at bytes
keeps_image s at bytes image was is =
    holds_as image at bytes (omega (arith, was.long, is.long)) (λ i lt. is.kept (at + i) (omega (arith, lt, was.long)) (was.untouched i lt) ∙ was.same i lt)

pub held_end : (file : List ℕ) (at : ℕ) (bytes : List ℕ) → Holds file at bytes → at + length bytes ≤ length file
held_end file at bytes has = omega (arith, ap length has.whole, has.place, length-append has.before (bytes ++ has.after), length-append bytes has.after)

pub held_byte : (file : List ℕ) (at : ℕ) (bytes : List ℕ) (i : ℕ) → Holds file at bytes → i < length bytes → get_or file (at + i) 0 ≡ get_or bytes i 0
held_byte file at bytes i has lt = ap (λ (l : List ℕ). get_or l (at + i) 0) has.whole ∙ held_at has.before bytes has.after at i has.place lt

-- what a read gives there
pub read_held : (file : List ℕ) (at : ℕ) (bytes : List ℕ) → Holds file at bytes → take (length bytes) (drop at file) ≡ bytes
read_held file at bytes has =
    ap (λ (l : List ℕ). take (length bytes) (drop at l)) has.whole ∙ ap (λ (l : List ℕ). take (length bytes) l) (drop_at has.before (bytes ++ has.after) at has.place)
    ∙ take_at bytes has.after (length bytes) refl

-- what was written is there
pub holds_written : (file : List ℕ) (at : ℕ) (bytes : List ℕ) → Holds (overwritten file at bytes) at bytes
holds_written file at bytes = record {
  before = take at file ++ replicate (at - length file) 0;
  after = drop (at + length bytes) file;
  place = grind (arith, places);
  whole = sym (append_assoc (take at file) (replicate (at - length file) 0) (bytes ++ drop (at + length bytes) file));
}

-- a write elsewhere
pub holds_write_behind : (file : List ℕ) (at : ℕ) (written : List ℕ) (place : ℕ) (bytes : List ℕ) → place + length bytes ≤ at → Holds file place bytes → Holds (overwritten file at written) place bytes
holds_write_behind file at written place bytes le has =
    let end = held_end file place bytes has in
    holds_as (overwritten file at written) place bytes (omega (arith, end, length-overwritten file at written)) (λ i lt.
    overwritten_before file at written (place + i) (omega (arith, le, lt)) (omega (arith, end, lt)) ∙ held_byte file place bytes i has lt)

pub holds_write_before : (file : List ℕ) (at : ℕ) (written : List ℕ) (place : ℕ) (bytes : List ℕ) → at + length written ≤ place → Holds file place bytes → Holds (overwritten file at written) place bytes
holds_write_before file at written place bytes le has =
    let end = held_end file place bytes has in
    holds_as (overwritten file at written) place bytes (omega (arith, end, length-overwritten file at written)) (λ i lt.
    overwritten_behind file at written (place + i) (omega (arith, le)) (omega (arith, end, lt)) ∙ held_byte file place bytes i has lt)

-- a cut behind
pub holds_cut : (file : List ℕ) (to place : ℕ) (bytes : List ℕ) → place + length bytes ≤ to → Holds file place bytes → Holds (take to file) place bytes
holds_cut file to place bytes le has =
    let end = held_end file place bytes has in
    holds_as (take to file) place bytes (omega (arith, le, end, length-take to file)) (λ i lt.
    get_or-take to file (place + i) 0 (omega (arith, le, lt)) ∙ held_byte file place bytes i has lt)
