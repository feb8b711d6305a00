-- A store that was fed a trace text.
use Rattle.std.proofs.Common.{◌≡◌, ℕ, ◌+◌, ◌-◌, Bool, true, false, List, ◌++◌, IsTrue, Option, Some, None, codes, sym, ap, subst, ◌∙◌, inl, inr, arith}
use Rattle.std.proofs.lemmas.List.{append-nil}
use Rattle.hg_streams.specs.declared.call.WriteCall.{WriteCall}
use Rattle.hg_streams.specs.declared.call.ReadCall.{ReadCall}
use Rattle.hg_streams.specs.Written.{Took}
use Rattle.hg_model.specs.Contents.{Content}
use Rattle.hg_sets.specs.Interning.{Table}
use Rattle.hg_detect.specs.Shown as detect
use Rattle.hg_disk.specs.declared.disk.Disk as disk
use Rattle.hg_pool.specs.Maps as pools
use Rattle.hg_pool.specs.Shown as pool
use Rattle.hg_images.specs.Choices.{Stands}
use Rattle.hg_images.specs.Images.{HasContent, Image}
use Rattle.hg_images.specs.Stores.{IsLeft}
use Rattle.hg_store.specs.declared.devices.Devices.{Devices}
use Rattle.hg_disk.specs.Calls.{CallsAtMost}
use Rattle.hg_disk.specs.State.{IsImage}
use Rattle.hg_store.specs.Doing.{SameRoots}
use Rattle.hg_store.specs.Images.{FilesReadSame, HasOpened, RootCallsAtMost, failures_of, read_of, states_of}
use Rattle.hg_store.specs.Recovering.{HasTable}
use Rattle.hg_store.specs.Shown.{ShownStore, live, saved}
use Rattle.hg_store.specs.Store.{Backs, HasItsEvents, IsFresh}
use Rattle.hg_reading.specs.declared.ending.Ending.{Ending}
use Rattle.hg_commands.specs.declared.lines.Fed.{Fed}
use Rattle.hg_commands.specs.Feeding.{ack_text, acks_text, checkpoint_text, feed_end_text, feed_text}
use Rattle.hg_commands.specs.FeedRunning.{FeedDone, Feeds, IsPrinted, WasCheckpointed, WasCommitted, WasFed, WasMade, WentWell, is_due, place}
use Rattle.hg_commands.specs.TakingLaws.{quiet_then}
use Rattle.hg_commands.proofs.GivingUp.{gave_up, gives_up_behind, one_alone}
use Rattle.hg_streams.specs.Texts.{number_text}
use Rattle.hg_streams.specs.Calls.{failed_writes}
use Rattle.hg_commands.specs.Storing.{EndsFlushed, failed_calls}
use Rattle.hg_streams.proofs.Printed.{appends_on, failed_on}

-- no call of an output failed that took a text
pub took_intact : {text : List ℕ} (old new : List WriteCall) → Took old new text → failed_writes new ≡ failed_writes old
took_intact old new t = ap failed_writes t.since ∙ omega (arith, failed_on t.later old, t.whole)

-- an image that stands for one content
stands_for_one : (durable live : Content) (doubt : Bool) (image : Image) → durable ≡ live → Stands durable live doubt image → HasContent image live
stands_for_one durable live doubt image same (inl is) = subst (λ (c : Content). HasContent image c) same is
stands_for_one durable live doubt image same (inr is) = is.1

module _ {D : Type 0} (g : disk.Ghosts D) where
  -- a checkpoint of one content
  made_of_same : (b : Bool) (devices : Devices D) (c d : Content) (checkpoint : Option ℕ) → (IsTrue g.is_honest → d ≡ c) → WasMade g b devices c checkpoint → WasMade g b devices d checkpoint
  made_of_same true devices c d (Some number) same made = λ honest. subst (λ (x : Content). HasOpened g devices number x) (sym (same honest)) (made honest)
  made_of_same true devices c d None same made = made
  made_of_same false devices c d checkpoint same made = made

  feeds_to_same : (reads later : List ReadCall) (source : ℕ) (table : Table) (start c d : Content) (end : Ending) → (IsTrue g.is_honest → d ≡ c) → Feeds g reads later source table start c end → Feeds g reads later source table start d end
  feeds_to_same reads later source table start c d end same f = record {
    later = f.later;
    since = f.since;
    whole = f.whole;
    needed = f.needed;
    leads = λ honest. rw (same honest) (f.leads honest);
  }

  printed_in_all : (source : ℕ) (first last : Content) (accepted : ℕ) (checkpoint : Option ℕ) (end : Ending) (o q r v x : List WriteCall) → last.events ≡ first.events + accepted
      → Took o q (number_text (codes "resume ") (first.last source) ++ acks_text first.events accepted) → Took q r (ack_text last.events) → Took r v (checkpoint_text checkpoint) → Took v x (feed_end_text last end)
      → Took o x (feed_text source first last checkpoint end)
  printed_in_all source first last accepted checkpoint end o q r v x count a b d e =
      let resume = number_text (codes "resume ") (first.last source) in
      let n : accepted ≡ last.events - first.events = omega (arith, count) in
      subst (λ (k : ℕ). Took o x ((((resume ++ acks_text first.events k) ++ ack_text last.events) ++ checkpoint_text checkpoint) ++ feed_end_text last end)) n
      (appends_on o v x (((resume ++ acks_text first.events accepted) ++ ack_text last.events) ++ checkpoint_text checkpoint) (feed_end_text last end)
      (appends_on o r v ((resume ++ acks_text first.events accepted) ++ ack_text last.events) (checkpoint_text checkpoint)
      (appends_on o q r (resume ++ acks_text first.events accepted) (ack_text last.events) a b) d) e)

  pub was_fed : (reads later : List ReadCall) (source : ℕ) (asked is_made : Bool) (s t u w : ShownStore D) (f i : Fed) (o p q r v x : List WriteCall) (end : Ending) → is_made ≡ is_due asked end → f.accepted ≡ 0
      → Took o p (number_text (codes "resume ") ((live g s).last source)) → WentWell g (place s f p) (place t i q) → Feeds g reads later source s.detector.sets (live g s) (live g t) end
      → WasCommitted g t u → Took q r (ack_text (live g t).events) → WasCheckpointed g is_made u w r v → Took v x (feed_end_text (live g w) end) → (IsTrue g.is_honest → Backs g w)
      → (IsTrue g.is_honest → w.is_broken ≡ false → HasItsEvents g w) → EndsFlushed x → WasFed g reads later source asked s w o x end
  was_fed reads later source asked is_made s t u w f i o p q r v x end due none resumed goes feeds committed acked made ended backs keeps flushed =
      let kept : live g u ≡ live g t = ap (λ (d : detect.ShownDetector (pool.ShownPool D)). detect.content (pools.live g) d) committed.detector in
      let same = λ (honest : IsTrue g.is_honest). made.live honest ∙ kept in
      let resume = number_text (codes "resume ") ((live g s).last source) in
      let start : IsPrinted g o resume (live g s).events (place s f p) = record {
        count = omega (arith, none);
        printed = subst (λ (k : ℕ). Took o p (resume ++ acks_text (live g s).events k)) (sym none) (subst (λ (t : List ℕ). Took o p t) (sym (append-nil resume)) resumed);
      } in
      record {
        checkpoint = made.checkpoint;
        feeds = feeds_to_same reads later source s.detector.sets (live g s) (live g t) (live g w) end same feeds;
        printed = λ honest.
            let come = goes.printed honest o resume (live g s).events start in
            printed_in_all source (live g s) (live g w) i.accepted made.checkpoint end o q r v x (ap (λ (c : Content). c.events) (same honest) ∙ come.count) come.printed
            (subst (λ (c : Content). Took q r (ack_text c.events)) (sym (same honest)) acked) made.printed ended;
        flushed = flushed;
        made = subst (λ (b : Bool). WasMade g b w.devices (live g w) made.checkpoint) due (made_of_same is_made w.devices (live g u) (live g w) made.checkpoint made.live made.made);
        given_up = λ is honest.
            gives_up_behind g s u w (quiet_then s t u goes.quiet committed.quiet) (made.given_up (due ∙ is) honest);
        quiet = λ none. quiet_then s t w goes.quiet (quiet_then t u w committed.quiet (made.quiet (due ∙ none)));
        failures = omega (arith, made.failures, committed.failures, goes.failures, took_intact o p resumed, took_intact q r acked, took_intact r v made.printed, took_intact v x ended);
        works = made.works;
        durable = λ honest.
            ap (λ (d : detect.ShownDetector (pool.ShownPool D)). detect.content (pools.live g) d) (made.committed ∙ committed.committed) ∙ sym (same honest);
        backs = backs;
        keeps = λ honest. keeps honest made.works;
      }

  pub fresh_is_left : (s : ShownStore D) (c : Content) (new : Devices D) (image : Image) → IsFresh g s c → new ≡ s.devices → IsLeft (states_of g new) image → HasContent image c
  fresh_is_left s c new image fresh is left =
      subst (λ (x : Content). HasContent image x) fresh.has
      (stands_for_one (saved g s) (live g s) s.in_doubt image (fresh.durable ∙ sym fresh.has) (fresh.backs.stands image (subst (λ (d : Devices D). IsLeft (states_of g d) image) is left)))

  -- no root was called once the store was open
  calls_stay : (old new : Devices D) (s u : ShownStore D) → RootCallsAtMost g 4 old s.devices → SameRoots s u → new ≡ u.devices → RootCallsAtMost g 4 old new
  calls_stay old new s u calls same is =
      subst (λ (d : Devices D). RootCallsAtMost g 4 old d) (sym is)
      (subst (λ (d : D). CallsAtMost g 4 old.root0 d) (sym same.root0) calls.0, subst (λ (d : D). CallsAtMost g 4 old.root1 d) (sym same.root1) calls.1)

  pub feed_done : ((d : D) → IsImage (g.state d) (g.state d).contents) → (reads later : List ReadCall) (source : ℕ) (asked : Bool) (old new : Devices D) (s u : ShownStore D) (o v : List WriteCall) (end : Ending)
      → (IsTrue g.is_honest → (c : Content) × HasContent (read_of g old) c × IsFresh g s c) → (IsTrue g.is_honest → HasTable 262144 (read_of g old) (live g s) s.detector.sets) → failures_of g s.devices ≡ failures_of g old → RootCallsAtMost g 4 old s.devices
      → FilesReadSame g old s.devices → (IsTrue g.is_honest → s.is_broken ≡ false → HasItsEvents g s) → WasFed g reads later source asked s u o v end → new ≡ u.devices → FeedDone g reads later source asked old new o v end
  feed_done has_its_bytes reads later source asked old new s u o v end began sets failures calls bytes keeps was is = record {
    table = s.detector.sets;
    first = live g s;
    last = live g u;
    checkpoint = was.checkpoint;
    feeds = was.feeds;
    printed = was.printed;
    flushed = was.flushed;
    made = subst (λ (d : Devices D). WasMade g (is_due asked end) d (live g u) was.checkpoint) (sym is) was.made;
    given_up = λ due honest.
        gave_up g has_its_bytes old new s u (live g u) bytes (keeps honest (began honest).2.idle.works) (was.keeps honest) ((was.backs honest).count ∙ ap (λ (c : Content). c.events) (was.durable honest)) (was.given_up due honest) is;
    quiet = λ none. calls_stay old new s u calls (was.quiet none).roots is;
    alone = λ none. one_alone g old new s u bytes (was.quiet none) is;
    failures = ap (λ (d : Devices D). failed_calls g d v) is ∙ (was.failures ∙ ap (λ (n : ℕ). n + failed_writes o) failures);
    began = λ honest.
        let b = began honest in
        (subst (λ (c : Content). HasContent (read_of g old) c) (sym b.2.has) b.1, sets honest);
    ended = λ honest image left.
        stands_for_one (saved g u) (live g u) u.in_doubt image (was.durable honest) ((was.backs honest).stands image (subst (λ (d : Devices D). IsLeft (states_of g d) image) is left));
  }
