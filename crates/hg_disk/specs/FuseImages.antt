-- The images of a `FuseDisk`: those of the inner disk are among them.
use Rattle.std.proofs.Common.{◌≡◌, ◌≤◌, ◌+◌, ℕ, min, Bool, true, false, ◌||◌, List, [], ◌∷◌, length, arith}
use Rattle.hg_disk.specs.State.{DiskState, Change, IsImage, least, is_written}
use Rattle.hg_disk.specs.State.Change.{Written, CutTo}
use Rattle.hg_disk.specs.Event.{Event}
use Rattle.hg_disk.specs.Fuse.{with_call, with_refused, on_top, before, size_now, shown}
use Rattle.hg_disk.specs.Kept.{changed, or_false}
use Rattle.hg_disk.specs.declared.call.Call.{Call}
use Rattle.hg_disk.specs.declared.call.Call.TheVariants.{Read, Write, Cut, Sync}
use Rattle.hg_disk.specs.declared.call.Answer.{Answer}
use Rattle.hg_disk.specs.declared.call.Answer.TheVariants.{Done, Failed, Refused}

-- more changes since a sync: less is certain
pub record Adds (few many : List Change) : Type 0 where
  pub none : many ≡ [] → few ≡ []
  pub shorter : (n : ℕ) → least many n ≤ least few n
  pub wider : (i : ℕ) → is_written many i ≡ false → is_written few i ≡ false

pub adds_none : (changes : List Change) → Adds changes changes
adds_none changes = record { none = λ e. e; shorter = λ n. omega arith; wider = λ i h. h }

or_none : (a b : Bool) → a ≡ false → b ≡ false → (a || b) ≡ false
or_none true b h k = absurd (cc h)
or_none false b h k = k

pub adds_change : (change : Change) (few many : List Change) → Adds few many → Adds few (change ∷ many)
adds_change (Written first end) few many adds = record { none = changed; shorter = adds.shorter; wider = λ i h. adds.wider i (or_false (is_written many i) _ h).0 }
adds_change (CutTo to) few many adds = record { none = changed; shorter = λ n. let le = adds.shorter n in omega arith; wider = adds.wider }

pub adds_under : (change : Change) (few many : List Change) → Adds few many → Adds (change ∷ few) (change ∷ many)
adds_under (Written first end) few many adds = record {
  none = changed;
  shorter = adds.shorter;
  wider = λ i h. or_none (is_written few i) _ (adds.wider i (or_false (is_written many i) _ h).0) (or_false (is_written many i) _ h).1;
}
adds_under (CutTo to) few many adds = record { none = changed; shorter = λ n. let le = adds.shorter n in omega arith; wider = adds.wider }

adds_on_top : (inner : List Change) (earlier : List Change → List Change) → ((few : List Change) → Adds few (earlier few)) → Adds inner (on_top inner earlier)
adds_on_top [] earlier adds = adds []
adds_on_top (change ∷ changes) earlier adds = adds_under change changes (earlier changes) (adds changes)

adds_call : (call : Call) (answer : Answer) (size : ℕ) (stayed earlier : List Change → List Change) → ((few : List Change) → Adds few (stayed few)) → ((few : List Change) → Adds few (earlier few))
    → (inner : List Change) → Adds inner (with_call call answer size stayed earlier inner)
adds_call (Read at) Refused size stayed earlier s e inner = s inner
adds_call (Read at) Done size stayed earlier s e inner = e inner
adds_call (Read at) Failed size stayed earlier s e inner = e inner
adds_call (Write at len) Refused size stayed earlier s e inner = adds_change (Written (min at size) (at + len)) inner (stayed inner) (s inner)
adds_call (Write at len) Done size stayed earlier s e inner = adds_on_top inner earlier e
adds_call (Write at len) Failed size stayed earlier s e inner = adds_on_top inner earlier e
adds_call (Cut to) Refused size stayed earlier s e inner = adds_change (CutTo to) inner (stayed inner) (s inner)
adds_call (Cut to) Done size stayed earlier s e inner = adds_on_top inner earlier e
adds_call (Cut to) Failed size stayed earlier s e inner = adds_on_top inner earlier e
adds_call Sync Refused size stayed earlier s e inner = s inner
adds_call Sync Done size stayed earlier s e inner = adds_none inner
adds_call Sync Failed size stayed earlier s e inner = e inner

adds_refused : (calls : List Event) (states : List DiskState) (inner : List Change) → Adds inner (with_refused calls states inner)
adds_refused [] states inner = adds_none inner
adds_refused (e ∷ calls) states inner = adds_call e.told.call e.told.answer (size_now states) (with_refused calls states) (with_refused calls (before states)) (adds_refused calls states) (adds_refused calls (before states)) inner

pub adds_image : (s : DiskState) (more : List Change) (image : List ℕ) → Adds s.since more → IsImage s image → IsImage (record s { since = more }) image
adds_image s more image adds is = record {
  clean = λ e. is.clean (adds.none e);
  long = let le = adds.shorter (length s.synced) in omega (arith, is.long, le);
  kept = λ i lt h. let le = adds.shorter (length s.synced) in is.kept i (omega (arith, lt, le)) (adds.wider i h);
}

pub shown_image : (calls : List Event) (s : DiskState) (past : List DiskState) → IsImage s s.contents → IsImage (shown calls s past) s.contents
shown_image calls s past is = adds_image s (with_refused calls (s ∷ past) s.since) s.contents (adds_refused calls (s ∷ past) s.since) is
