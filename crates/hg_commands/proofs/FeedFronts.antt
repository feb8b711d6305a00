-- What was written when feeding was broken off.
use Rattle.std.proofs.Common.{◌≡◌, ℕ, ◌-◌, List, [], ◌++◌, IsTrue, Option, codes, refl, sym, subst, inl, inr, arith}
use Rattle.std.proofs.lemmas.List.{append-nil}
use Rattle.hg_streams.specs.declared.call.ReadCall.{ReadCall}
use Rattle.hg_streams.specs.declared.call.WriteCall.{WriteCall}
use Rattle.hg_model.specs.Contents.{Content}
use Rattle.hg_sets.specs.Interning.{Table}
use Rattle.hg_disk.specs.declared.disk.Disk as disk
use Rattle.hg_store.specs.Shown.{ShownStore, live}
use Rattle.hg_reading.specs.declared.ending.Ending.{Ending}
use Rattle.hg_streams.specs.Written.{Took, TookFront}
use Rattle.hg_streams.proofs.Printed.{appends_on, front_more}
use Rattle.hg_commands.specs.declared.lines.Fed.{Fed}
use Rattle.hg_commands.specs.Feeding.{ack_text, acks_text, checkpoint_text, feed_end_text, feed_text}
use Rattle.hg_streams.specs.Printed.{IsPrintedNow}
use Rattle.hg_streams.specs.Texts.{number_text}
use Rattle.hg_commands.specs.FeedRunning.{Feeds, HasFront, IsPrinted, WentWell, WroteFrontFrom, place}
use Rattle.hg_streams.proofs.Fronts.{printed_front_on}

-- ---- all that is printed

abbrev resume_text : ℕ → Content → List ℕ
resume_text source c = number_text (codes "resume ") (c.last source)

abbrev fed_text : ℕ → Content → Content → List ℕ
fed_text source first last = resume_text source first ++ acks_text first.events (last.events - first.events)

abbrev acked_text : ℕ → Content → Content → List ℕ
acked_text source first last = fed_text source first last ++ ack_text last.events

abbrev made_text : ℕ → Content → Content → Option ℕ → List ℕ
made_text source first last checkpoint = acked_text source first last ++ checkpoint_text checkpoint

front_of_made : (o now : List WriteCall) (source : ℕ) (first last : Content) (checkpoint : Option ℕ) (end : Ending) → TookFront o now (made_text source first last checkpoint) → TookFront o now (feed_text source first last checkpoint end)
front_of_made o now source first last checkpoint end f = front_more o now (made_text source first last checkpoint) (feed_end_text last end) (feed_text source first last checkpoint end) refl f

front_of_acked : (o now : List WriteCall) (source : ℕ) (first last : Content) (checkpoint : Option ℕ) (end : Ending) → TookFront o now (acked_text source first last) → TookFront o now (feed_text source first last checkpoint end)
front_of_acked o now source first last checkpoint end f =
    front_of_made o now source first last checkpoint end
    (front_more o now (acked_text source first last) (checkpoint_text checkpoint) (made_text source first last checkpoint) refl f)

front_of_fed : (o now : List WriteCall) (source : ℕ) (first last : Content) (checkpoint : Option ℕ) (end : Ending) → TookFront o now (fed_text source first last) → TookFront o now (feed_text source first last checkpoint end)
front_of_fed o now source first last checkpoint end f =
    front_of_acked o now source first last checkpoint end
    (front_more o now (fed_text source first last) (ack_text last.events) (acked_text source first last) refl f)

pub wrote_resume : (source : ℕ) (table : Table) (c : Content) (reads : List ReadCall) (o p : List WriteCall) → TookFront o p (number_text (codes "resume ") (c.last source)) → WroteFrontFrom source table c reads reads o p
wrote_resume source table c reads o p f = inl (record {
  later = [];
  since = refl;
  front = λ input last checkpoint end room m l. front_of_fed o p source c last checkpoint end
      (front_more o p (resume_text source c) (acks_text c.events (last.events - c.events)) (fed_text source c last) refl f);
})

module _ {D : Type 0} (g : disk.Ghosts D) where
  pub resumed : (s : ShownStore D) (f : Fed) (o p : List WriteCall) (source : ℕ) → f.accepted ≡ 0 → Took o p (number_text (codes "resume ") ((live g s).last source))
      → IsPrinted g o (number_text (codes "resume ") ((live g s).last source)) (live g s).events (place s f p)
  resumed s f o p source none t = record {
    count = omega (arith, none);
    printed = subst (λ (k : ℕ). Took o p (resume_text source (live g s) ++ acks_text (live g s).events k)) (sym none)
        (subst (λ (t : List ℕ). Took o p t) (sym (append-nil (resume_text source (live g s)))) t);
  }

  pub wrote_fed : IsTrue g.is_honest → (s : ShownStore D) (f : Fed) (source : ℕ) (reads later : List ReadCall) (o p now : List WriteCall)
      → IsPrinted g o (number_text (codes "resume ") ((live g s).last source)) (live g s).events (place s f p)
      → HasFront g reads later source s.detector.sets (live g s) (place s f p) now → WroteFrontFrom source s.detector.sets (live g s) reads later o now
  wrote_fed honest s f source reads later o p now is h = inl (record {
    later = h.later;
    since = h.since;
    front = λ input last checkpoint end room m l. front_of_fed o now source (live g s) last checkpoint end
        (h.front honest input last end room m l o (resume_text source (live g s)) (live g s).events is);
  })

  -- what the reads led to is settled, and a front of its text was written
  wrote_settled : IsTrue g.is_honest → (source : ℕ) (table : Table) (start : Content) (reads later : List ReadCall) (o now : List WriteCall) (c : Content) (checkpoint : Option ℕ) (end : Ending) → Feeds g reads later source table start c end
      → TookFront o now (feed_text source start c checkpoint end) → WroteFrontFrom source table start reads later o now
  wrote_settled honest source table start reads later o now c checkpoint end r f = inr (record {
    later = r.later;
    since = r.since;
    last = c;
    checkpoint = checkpoint;
    end = end;
    leads = r.leads honest;
    front = f;
  })

  -- the lines of commits so far
  acks_printed : IsTrue g.is_honest → (source : ℕ) (s t : ShownStore D) (f i : Fed) (o p q : List WriteCall) → f.accepted ≡ 0 → Took o p (number_text (codes "resume ") ((live g s).last source)) → WentWell g (place s f p) (place t i q)
      → Took o q (fed_text source (live g s) (live g t))
  acks_printed honest source s t f i o p q none resume goes =
      let come = goes.printed honest o (resume_text source (live g s)) (live g s).events (resumed s f o p source none resume) in
      let n : i.accepted ≡ (live g t).events - (live g s).events = omega (arith, come.count) in
      subst (λ (k : ℕ). Took o q (resume_text source (live g s) ++ acks_text (live g s).events k)) n come.printed

  -- feeding was broken off at the last commit
  pub wrote_acks : IsTrue g.is_honest → (reads later : List ReadCall) (source : ℕ) (s t : ShownStore D) (f i : Fed) (o p q r : List WriteCall) (checkpoint : Option ℕ) (end : Ending) → f.accepted ≡ 0
      → Took o p (number_text (codes "resume ") ((live g s).last source)) → WentWell g (place s f p) (place t i q) → Feeds g reads later source s.detector.sets (live g s) (live g t) end
      → IsPrintedNow q r (ack_text (live g t).events) → WroteFrontFrom source s.detector.sets (live g s) reads later o r
  wrote_acks honest reads later source s t f i o p q r checkpoint end none resume goes feeds now =
      let first = live g s in
      let last = live g t in
      wrote_settled honest source s.detector.sets first reads later o r last checkpoint end feeds
      (front_of_acked o r source first last checkpoint end
      (printed_front_on o q r (fed_text source first last) (ack_text last.events) (acks_printed honest source s t f i o p q none resume goes) now))

  -- feeding was broken off at the checkpoint
  pub wrote_made : IsTrue g.is_honest → (reads later : List ReadCall) (source : ℕ) (s t : ShownStore D) (f i : Fed) (o p q r v : List WriteCall) (checkpoint : Option ℕ) (end : Ending) → f.accepted ≡ 0
      → Took o p (number_text (codes "resume ") ((live g s).last source)) → WentWell g (place s f p) (place t i q) → Feeds g reads later source s.detector.sets (live g s) (live g t) end
      → Took q r (ack_text (live g t).events) → IsPrintedNow r v (checkpoint_text checkpoint) → WroteFrontFrom source s.detector.sets (live g s) reads later o v
  wrote_made honest reads later source s t f i o p q r v checkpoint end none resume goes feeds acked now =
      let first = live g s in
      let last = live g t in
      wrote_settled honest source s.detector.sets first reads later o v last checkpoint end feeds
      (front_of_made o v source first last checkpoint end
      (printed_front_on o r v (acked_text source first last) (checkpoint_text checkpoint)
      (appends_on o q r (fed_text source first last) (ack_text last.events) (acks_printed honest source s t f i o p q none resume goes) acked) now))

  -- feeding was broken off at the last line
  pub wrote_end : IsTrue g.is_honest → (reads later : List ReadCall) (source : ℕ) (s t : ShownStore D) (f i : Fed) (o p q r v w : List WriteCall) (c : Content) (checkpoint : Option ℕ) (end : Ending) → f.accepted ≡ 0
      → Took o p (number_text (codes "resume ") ((live g s).last source)) → WentWell g (place s f p) (place t i q) → Feeds g reads later source s.detector.sets (live g s) (live g t) end
      → Took q r (ack_text (live g t).events) → Took r v (checkpoint_text checkpoint) → c ≡ live g t → IsPrintedNow v w (feed_end_text c end) → WroteFrontFrom source s.detector.sets (live g s) reads later o w
  wrote_end honest reads later source s t f i o p q r v w c checkpoint end none resume goes feeds acked made same now =
      let first = live g s in
      let last = live g t in
      wrote_settled honest source s.detector.sets first reads later o w last checkpoint end feeds
      (printed_front_on o v w (made_text source first last checkpoint) (feed_end_text last end)
      (appends_on o r v (acked_text source first last) (checkpoint_text checkpoint)
      (appends_on o q r (fed_text source first last) (ack_text last.events) (acks_printed honest source s t f i o p q none resume goes) acked) made)
      (subst (λ (x : Content). IsPrintedNow v w (feed_end_text x end)) same now))
