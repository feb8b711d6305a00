use Rattle.std.proofs.Common.{◌≡◌, ℕ, Bool, true, false, None, Result, Ok, Err, cond, codes, refl, ap, subst, inl, inr, arith, ◌∙◌}
use Rattle.hg_streams.specs.Calls.{failed_writes}
use Rattle.hg_streams.specs.Written.{Took, TookFront}
use Rattle.hg_model.specs.declared.verdict.Refusal.{Refusal}
use Rattle.hg_model.specs.declared.verdict.Refusal.TheVariants as refusal
use Rattle.hg_detect.specs.Shown as detect
use Rattle.hg_pool.specs.Maps as pools
use Rattle.hg_pool.specs.Shown as pool
use Rattle.hg_store.specs.Shown.{Progress, live}
use Rattle.hg_commands.specs.Feeding.{feed_end_text}
use Rattle.hg_streams.specs.Texts.{number_text}
use Rattle.hg_commands.specs.TakingLaws.{keeps_then}
use Rattle.hg_commands.proofs.Kept.{keeps_printed}
use Rattle.hg_commands.proofs.FeedDone.{was_fed}
use Rattle.hg_commands.proofs.Ways.{way_at_start, way_same}
use Rattle.hg_commands.proofs.Checkpointed.{fault_of_due, rests_behind}
use Rattle.std.proofs.lemmas.Result.{err_from_is_err_and}
use Rattle.hg_commands.proofs.FeedWhole.{fails_behind, reads_intact, reads_served}
use Rattle.hg_streams.proofs.Printed.{always_err, front_none}
use Rattle.hg_streams.proofs.Fronts.{printed_front}
use Rattle.hg_commands.proofs.FeedFronts.{resumed, wrote_acks, wrote_end, wrote_fed, wrote_made, wrote_resume}
use Rattle.hg_commands.proofs.lines.Feeding.feed_store.Goals as goal

last_is : (b : Bool) (n x : ℕ) → b ≡ false → ◌≡◌ {A = Result ℕ Refusal} (Ok n) (cond b (Err refusal.Broken) (Ok x)) → n ≡ x
last_is true n x works h = absurd (cc)
last_is false n x works h = cc

pub returns-clause-fed : goal.returns-clause-fed
returns-clause-fed g c =
    let s = c.args.self.now.store in
    let o = c.args.output.now.calls in
    let p = c.print_number.new.output.calls in
    was_fed g.D.Disk c.args.input.now.calls c.feed_lines.new.input.calls c.args.self.now.fed.source c.args.asked c.checkpoint_is_due-is_made.result s c.feed_lines.new.self.store c.acknowledge.new.self.store c.checkpoint_if_due.new.self.store
    c.args.self.now.fed c.feed_lines.new.self.fed
    o p c.feed_lines.new.output.calls c.acknowledge.new.output.calls c.checkpoint_if_due.new.output.calls c.print_end.new.output.calls c.in_ok-end.end
    c.checkpoint_is_due-is_made.ensures c.requires.accepted
    (subst (λ (n : ℕ). Took o p (number_text (codes "resume ") n)) (last_is s.is_broken c.in_ok-last.last ((live g.D.Disk s).last c.args.self.now.fed.source) c.requires.idle.works c.in_ok-last.ensures) c.in_ok-print_number.ensures.printed)
    c.in_ok-end.ensures.goes c.in_ok-end.ensures.feeds
    c.in_ok-acknowledge.ensures.committed c.in_ok-acknowledge.ensures.printed c.in_ok-checkpoint_if_due.ensures.made c.in_ok-print_end.ensures.printed c.stands.ensures.backs c.stands.ensures.kept c.in_ok-print_end.ensures.flushed

never_fails : (b : Bool) (r : Refusal) (x : ℕ) → b ≡ false → ◌≡◌ {A = Result ℕ Refusal} (Err r) (cond b (Err refusal.Broken) (Ok x)) → ⊥
never_fails true r x works h = absurd (cc)
never_fails false r x works h = absurd (cc)

pub returns-in_err-last-clause-cause : goal.returns-in_err-last-clause-cause
returns-in_err-last-clause-cause g c =
    let s = c.args.self.now.store in
    absurd (never_fails s.is_broken _ ((live g.D.Disk s).last c.args.self.now.fed.source) c.requires.idle.works c.in_err-last.ensures)

pub returns-in_err-end-clause-cause : goal.returns-in_err-end-clause-cause
returns-in_err-end-clause-cause g c =
    let same : failed_writes c.print_number.new.output.calls ≡ failed_writes c.args.output.now.calls = omega (arith, c.in_ok-print_number.ensures.fault) in
    let q = err_from_is_err_and c.from_residual-in_err-end.result c.from_residual-in_err-end.ensures.1 in
    rw (q.1, q.2)
    (fails_behind g.D.Disk c.args.asked c.args.self.now.store.devices c.feed_lines.new.self.store.devices c.args.input.now.calls c.feed_lines.new.input.calls c.args.output.now.calls c.print_number.new.output.calls c.feed_lines.new.output.calls _
    same c.in_err-end.ensures.cause)

pub checkpoint_if_due-requires : goal.checkpoint_if_due-requires
checkpoint_if_due-requires g c =
    record { rests = rests_behind c.acknowledge.new.self.store c.in_ok-acknowledge.ensures.committed.works (ap (λ (p : Progress). p.phase) c.acknowledge.ensures.progress ∙ c.in_ok-end.ensures.goes.ready.phase) c.in_ok-acknowledge.ensures.committed.none }

pub returns-in_err-acknowledge-clause-cause : goal.returns-in_err-acknowledge-clause-cause
returns-in_err-acknowledge-clause-cause g c =
    let q = err_from_is_err_and c.from_residual-in_err-acknowledge.result c.from_residual-in_err-acknowledge.ensures.1 in
    rw (q.1, q.2)
    (record {
      is = inl (inl c.in_err-acknowledge.ensures.cause);
      failed = inl (omega (
        arith,
        c.in_err-acknowledge.ensures.fault,
        c.in_ok-end.ensures.goes.failures,
        c.in_ok-print_number.ensures.fault,
        reads_intact g.D.Disk c.args.input.now.calls c.feed_lines.new.input.calls c.args.self.now.fed.source c.args.self.now.store.detector.sets (live g.D.Disk c.args.self.now.store) (live g.D.Disk c.feed_lines.new.self.store) c.in_ok-end.end c.in_ok-end.ensures.feeds,
      ));
      memory = inr (reads_served g.D.Disk c.args.input.now.calls c.feed_lines.new.input.calls c.args.self.now.fed.source c.args.self.now.store.detector.sets (live g.D.Disk c.args.self.now.store) (live g.D.Disk c.feed_lines.new.self.store) c.in_ok-end.end c.in_ok-end.ensures.feeds);
    })

pub returns-in_err-checkpoint_if_due-clause-cause : goal.returns-in_err-checkpoint_if_due-clause-cause
returns-in_err-checkpoint_if_due-clause-cause g c =
    let q = err_from_is_err_and c.from_residual-in_err-checkpoint_if_due.result c.from_residual-in_err-checkpoint_if_due.ensures.1 in
    rw (q.1, q.2)
    (record {
      is = fault_of_due g.D.Disk c.args.asked c.checkpoint_is_due-is_made.result c.in_ok-end.end c.checkpoint_if_due.new.self.store.devices _ c.checkpoint_is_due-is_made.ensures c.in_err-checkpoint_if_due.ensures.cause;
      failed = inl (omega (
        arith,
        c.in_err-checkpoint_if_due.ensures.fault,
        c.in_ok-acknowledge.ensures.fault,
        c.in_ok-end.ensures.goes.failures,
        c.in_ok-print_number.ensures.fault,
        reads_intact g.D.Disk c.args.input.now.calls c.feed_lines.new.input.calls c.args.self.now.fed.source c.args.self.now.store.detector.sets (live g.D.Disk c.args.self.now.store) (live g.D.Disk c.feed_lines.new.self.store) c.in_ok-end.end c.in_ok-end.ensures.feeds,
      ));
      memory = inr (reads_served g.D.Disk c.args.input.now.calls c.feed_lines.new.input.calls c.args.self.now.fed.source c.args.self.now.store.detector.sets (live g.D.Disk c.args.self.now.store) (live g.D.Disk c.feed_lines.new.self.store) c.in_ok-end.end c.in_ok-end.ensures.feeds);
    })

pub returns-in_err-print_end-clause-cause : goal.returns-in_err-print_end-clause-cause
returns-in_err-print_end-clause-cause g c =
    let q = err_from_is_err_and c.from_residual-in_err-print_end.result c.from_residual-in_err-print_end.ensures.1 in
    rw (q.1, q.2)
    (record {
      is = inl (inl c.in_err-print_end.ensures.cause);
      failed = inl (omega (
        arith,
        c.in_err-print_end.ensures.fault,
        c.in_ok-checkpoint_if_due.ensures.fault,
        c.in_ok-acknowledge.ensures.fault,
        c.in_ok-end.ensures.goes.failures,
        c.in_ok-print_number.ensures.fault,
        reads_intact g.D.Disk c.args.input.now.calls c.feed_lines.new.input.calls c.args.self.now.fed.source c.args.self.now.store.detector.sets (live g.D.Disk c.args.self.now.store) (live g.D.Disk c.feed_lines.new.self.store) c.in_ok-end.end c.in_ok-end.ensures.feeds,
      ));
      memory = inr (reads_served g.D.Disk c.args.input.now.calls c.feed_lines.new.input.calls c.args.self.now.fed.source c.args.self.now.store.detector.sets (live g.D.Disk c.args.self.now.store) (live g.D.Disk c.feed_lines.new.self.store) c.in_ok-end.end c.in_ok-end.ensures.feeds);
    })

pub returns-in_err-print_number-clause-kept : goal.returns-in_err-print_number-clause-kept
returns-in_err-print_number-clause-kept g c =
    let s = c.args.self.now.store in
    let o = c.args.output.now.calls in
    let p = c.print_number.new.output.calls in
    keeps_printed g.D.Disk s o p c.args.self.now.moments (number_text (codes "resume ") c.in_ok-last.last) c.print_number.ensures.calls (λ honest backs. inr (inr (inl (c.in_ok-last.last, refl))))

pub returns-in_err-end-clause-kept : goal.returns-in_err-end-clause-kept
returns-in_err-end-clause-kept g c =
    let s = c.args.self.now.store in
    let o = c.args.output.now.calls in
    let p = c.print_number.new.output.calls in
    keeps_then g.D.Disk s s c.feed_lines.new.self.store o p c.feed_lines.new.output.calls c.args.self.now.moments c.args.self.now.moments c.feed_lines.new.self.moments
    (keeps_printed g.D.Disk s o p c.args.self.now.moments (number_text (codes "resume ") c.in_ok-last.last) c.print_number.ensures.calls (λ honest backs. inr (inr (inl (c.in_ok-last.last, refl))))) c.feed_lines.ensures.kept

pub returns-in_err-acknowledge-clause-kept : goal.returns-in_err-acknowledge-clause-kept
returns-in_err-acknowledge-clause-kept g c =
    let s = c.args.self.now.store in
    let o = c.args.output.now.calls in
    let p = c.print_number.new.output.calls in
    keeps_then g.D.Disk s c.feed_lines.new.self.store c.acknowledge.new.self.store o c.feed_lines.new.output.calls c.acknowledge.new.output.calls c.args.self.now.moments c.feed_lines.new.self.moments c.acknowledge.new.self.moments
    (keeps_then g.D.Disk s s c.feed_lines.new.self.store o p c.feed_lines.new.output.calls c.args.self.now.moments c.args.self.now.moments c.feed_lines.new.self.moments
    (keeps_printed g.D.Disk s o p c.args.self.now.moments (number_text (codes "resume ") c.in_ok-last.last) c.print_number.ensures.calls (λ honest backs. inr (inr (inl (c.in_ok-last.last, refl))))) c.feed_lines.ensures.kept) c.acknowledge.ensures.kept

pub returns-in_err-checkpoint_if_due-clause-kept : goal.returns-in_err-checkpoint_if_due-clause-kept
returns-in_err-checkpoint_if_due-clause-kept g c =
    let s = c.args.self.now.store in
    let o = c.args.output.now.calls in
    let p = c.print_number.new.output.calls in
    keeps_then g.D.Disk s c.acknowledge.new.self.store c.checkpoint_if_due.new.self.store o c.acknowledge.new.output.calls c.checkpoint_if_due.new.output.calls c.args.self.now.moments c.acknowledge.new.self.moments c.checkpoint_if_due.new.self.moments
    (keeps_then g.D.Disk s c.feed_lines.new.self.store c.acknowledge.new.self.store o c.feed_lines.new.output.calls c.acknowledge.new.output.calls c.args.self.now.moments c.feed_lines.new.self.moments c.acknowledge.new.self.moments
    (keeps_then g.D.Disk s s c.feed_lines.new.self.store o p c.feed_lines.new.output.calls c.args.self.now.moments c.args.self.now.moments c.feed_lines.new.self.moments
    (keeps_printed g.D.Disk s o p c.args.self.now.moments (number_text (codes "resume ") c.in_ok-last.last) c.print_number.ensures.calls (λ honest backs. inr (inr (inl (c.in_ok-last.last, refl))))) c.feed_lines.ensures.kept) c.acknowledge.ensures.kept) c.checkpoint_if_due.ensures.kept

pub returns-in_err-print_end-clause-kept : goal.returns-in_err-print_end-clause-kept
returns-in_err-print_end-clause-kept g c =
    let s = c.args.self.now.store in
    let o = c.args.output.now.calls in
    let p = c.print_number.new.output.calls in
    keeps_then g.D.Disk s c.checkpoint_if_due.new.self.store c.checkpoint_if_due.new.self.store o c.checkpoint_if_due.new.output.calls c.print_end.new.output.calls c.args.self.now.moments c.checkpoint_if_due.new.self.moments c.checkpoint_if_due.new.self.moments
    (keeps_then g.D.Disk s c.acknowledge.new.self.store c.checkpoint_if_due.new.self.store o c.acknowledge.new.output.calls c.checkpoint_if_due.new.output.calls c.args.self.now.moments c.acknowledge.new.self.moments c.checkpoint_if_due.new.self.moments
    (keeps_then g.D.Disk s c.feed_lines.new.self.store c.acknowledge.new.self.store o c.feed_lines.new.output.calls c.acknowledge.new.output.calls c.args.self.now.moments c.feed_lines.new.self.moments c.acknowledge.new.self.moments
    (keeps_then g.D.Disk s s c.feed_lines.new.self.store o p c.feed_lines.new.output.calls c.args.self.now.moments c.args.self.now.moments c.feed_lines.new.self.moments
    (keeps_printed g.D.Disk s o p c.args.self.now.moments (number_text (codes "resume ") c.in_ok-last.last) c.print_number.ensures.calls (λ honest backs. inr (inr (inl (c.in_ok-last.last, refl))))) c.feed_lines.ensures.kept) c.acknowledge.ensures.kept) c.checkpoint_if_due.ensures.kept)
    (keeps_printed g.D.Disk c.checkpoint_if_due.new.self.store c.checkpoint_if_due.new.output.calls c.print_end.new.output.calls c.checkpoint_if_due.new.self.moments (feed_end_text (live g.D.Disk c.checkpoint_if_due.new.self.store) c.in_ok-end.end)
    c.print_end.ensures.calls (λ honest backs. inr (inr (inr (inr (live g.D.Disk c.checkpoint_if_due.new.self.store, c.in_ok-end.end, refl))))))

pub returns-clause-kept : goal.returns-clause-kept
returns-clause-kept g c =
    let s = c.args.self.now.store in
    let o = c.args.output.now.calls in
    let p = c.print_number.new.output.calls in
    keeps_then g.D.Disk s c.checkpoint_if_due.new.self.store c.checkpoint_if_due.new.self.store o c.checkpoint_if_due.new.output.calls c.print_end.new.output.calls c.args.self.now.moments c.checkpoint_if_due.new.self.moments c.checkpoint_if_due.new.self.moments
    (keeps_then g.D.Disk s c.acknowledge.new.self.store c.checkpoint_if_due.new.self.store o c.acknowledge.new.output.calls c.checkpoint_if_due.new.output.calls c.args.self.now.moments c.acknowledge.new.self.moments c.checkpoint_if_due.new.self.moments
    (keeps_then g.D.Disk s c.feed_lines.new.self.store c.acknowledge.new.self.store o c.feed_lines.new.output.calls c.acknowledge.new.output.calls c.args.self.now.moments c.feed_lines.new.self.moments c.acknowledge.new.self.moments
    (keeps_then g.D.Disk s s c.feed_lines.new.self.store o p c.feed_lines.new.output.calls c.args.self.now.moments c.args.self.now.moments c.feed_lines.new.self.moments
    (keeps_printed g.D.Disk s o p c.args.self.now.moments (number_text (codes "resume ") c.in_ok-last.last) c.print_number.ensures.calls (λ honest backs. inr (inr (inl (c.in_ok-last.last, refl))))) c.feed_lines.ensures.kept) c.acknowledge.ensures.kept) c.checkpoint_if_due.ensures.kept)
    (keeps_printed g.D.Disk c.checkpoint_if_due.new.self.store c.checkpoint_if_due.new.output.calls c.print_end.new.output.calls c.checkpoint_if_due.new.self.moments (feed_end_text (live g.D.Disk c.checkpoint_if_due.new.self.store) c.in_ok-end.end)
    c.print_end.ensures.calls (λ honest backs. inr (inr (inr (inr (live g.D.Disk c.checkpoint_if_due.new.self.store, c.in_ok-end.end, refl))))))

pub returns-in_err-last-clause-front : goal.returns-in_err-last-clause-front
returns-in_err-last-clause-front g c = λ honest.
    let o = c.args.output.now.calls in
    let s = c.args.self.now.store in
    always_err _ (wrote_resume c.args.self.now.fed.source s.detector.sets (live g.D.Disk s) c.args.input.now.calls o o (front_none o (number_text (codes "resume ") ((live g.D.Disk s).last c.args.self.now.fed.source))))

pub returns-in_err-print_number-clause-front : goal.returns-in_err-print_number-clause-front
returns-in_err-print_number-clause-front g c = λ honest.
    let s = c.args.self.now.store in
    let o = c.args.output.now.calls in
    let p = c.print_number.new.output.calls in
    always_err _ (wrote_resume c.args.self.now.fed.source s.detector.sets (live g.D.Disk s) c.args.input.now.calls o p
    (subst (λ (n : ℕ). TookFront o p (number_text (codes "resume ") n)) (last_is s.is_broken c.in_ok-last.last ((live g.D.Disk s).last c.args.self.now.fed.source) c.requires.idle.works c.in_ok-last.ensures)
    (printed_front o p (number_text (codes "resume ") c.in_ok-last.last) c.print_number.ensures.calls)))

pub returns-in_err-end-clause-front : goal.returns-in_err-end-clause-front
returns-in_err-end-clause-front g c = λ honest.
    let s = c.args.self.now.store in
    let o = c.args.output.now.calls in
    let p = c.print_number.new.output.calls in
    always_err _ (wrote_fed g.D.Disk honest s c.args.self.now.fed c.args.self.now.fed.source c.args.input.now.calls c.feed_lines.new.input.calls o p c.feed_lines.new.output.calls
    (resumed g.D.Disk s c.args.self.now.fed o p c.args.self.now.fed.source c.requires.accepted (subst (λ (n : ℕ). Took o p (number_text (codes "resume ") n)) (last_is s.is_broken c.in_ok-last.last ((live g.D.Disk s).last c.args.self.now.fed.source) c.requires.idle.works c.in_ok-last.ensures) c.in_ok-print_number.ensures.printed))
    c.in_err-end.ensures.front)

pub returns-in_err-acknowledge-clause-front : goal.returns-in_err-acknowledge-clause-front
returns-in_err-acknowledge-clause-front g c = λ honest.
    let s = c.args.self.now.store in
    let o = c.args.output.now.calls in
    let p = c.print_number.new.output.calls in
    always_err _ (wrote_acks g.D.Disk honest c.args.input.now.calls c.feed_lines.new.input.calls c.args.self.now.fed.source s c.feed_lines.new.self.store c.args.self.now.fed c.feed_lines.new.self.fed
    o p c.feed_lines.new.output.calls c.acknowledge.new.output.calls None c.in_ok-end.end c.requires.accepted (subst (λ (n : ℕ). Took o p (number_text (codes "resume ") n)) (last_is s.is_broken c.in_ok-last.last ((live g.D.Disk s).last c.args.self.now.fed.source) c.requires.idle.works c.in_ok-last.ensures) c.in_ok-print_number.ensures.printed)
    c.in_ok-end.ensures.goes c.in_ok-end.ensures.feeds c.acknowledge.ensures.calls)

pub returns-in_err-checkpoint_if_due-clause-front : goal.returns-in_err-checkpoint_if_due-clause-front
returns-in_err-checkpoint_if_due-clause-front g c = λ honest.
    let s = c.args.self.now.store in
    let o = c.args.output.now.calls in
    let p = c.print_number.new.output.calls in
    let front = c.in_err-checkpoint_if_due.ensures.front in
    always_err _ (wrote_made g.D.Disk honest c.args.input.now.calls c.feed_lines.new.input.calls c.args.self.now.fed.source s c.feed_lines.new.self.store c.args.self.now.fed c.feed_lines.new.self.fed
    o p c.feed_lines.new.output.calls c.acknowledge.new.output.calls c.checkpoint_if_due.new.output.calls front.0 c.in_ok-end.end c.requires.accepted (subst (λ (n : ℕ). Took o p (number_text (codes "resume ") n)) (last_is s.is_broken c.in_ok-last.last ((live g.D.Disk s).last c.args.self.now.fed.source) c.requires.idle.works c.in_ok-last.ensures) c.in_ok-print_number.ensures.printed)
    c.in_ok-end.ensures.goes c.in_ok-end.ensures.feeds c.in_ok-acknowledge.ensures.printed front.1)

pub returns-in_err-print_end-clause-front : goal.returns-in_err-print_end-clause-front
returns-in_err-print_end-clause-front g c = λ honest.
    let s = c.args.self.now.store in
    let o = c.args.output.now.calls in
    let p = c.print_number.new.output.calls in
    let made = c.in_ok-checkpoint_if_due.ensures.made in
    always_err _ (wrote_end g.D.Disk honest c.args.input.now.calls c.feed_lines.new.input.calls c.args.self.now.fed.source s c.feed_lines.new.self.store c.args.self.now.fed c.feed_lines.new.self.fed
    o p c.feed_lines.new.output.calls c.acknowledge.new.output.calls c.checkpoint_if_due.new.output.calls c.print_end.new.output.calls (live g.D.Disk c.checkpoint_if_due.new.self.store) made.checkpoint c.in_ok-end.end c.requires.accepted (subst (λ (n : ℕ). Took o p (number_text (codes "resume ") n)) (last_is s.is_broken c.in_ok-last.last ((live g.D.Disk s).last c.args.self.now.fed.source) c.requires.idle.works c.in_ok-last.ensures) c.in_ok-print_number.ensures.printed)
    c.in_ok-end.ensures.goes c.in_ok-end.ensures.feeds c.in_ok-acknowledge.ensures.printed made.printed
    (made.live honest ∙ ap (λ (d : detect.ShownDetector (pool.ShownPool g.row.D.Denot)). detect.content (pools.live g.D.Disk) d) c.in_ok-acknowledge.ensures.committed.detector) c.print_end.ensures.calls)

pub returns-in_err-last-clause-way : goal.returns-in_err-last-clause-way
returns-in_err-last-clause-way g c = λ honest. way_at_start c.args.self.now.fed.source c.args.self.now.store.detector.sets (live g.D.Disk c.args.self.now.store) c.args.input.now.calls

pub returns-in_err-print_number-clause-way : goal.returns-in_err-print_number-clause-way
returns-in_err-print_number-clause-way g c = λ honest. way_at_start c.args.self.now.fed.source c.args.self.now.store.detector.sets (live g.D.Disk c.args.self.now.store) c.args.input.now.calls

pub returns-in_err-acknowledge-clause-way : goal.returns-in_err-acknowledge-clause-way
returns-in_err-acknowledge-clause-way g c = λ honest.
    let s = c.args.self.now.store in
    let fed = live g.D.Disk c.feed_lines.new.self.store in
    way_same c.args.self.now.fed.source s.detector.sets (live g.D.Disk s) fed (live g.D.Disk c.acknowledge.new.self.store) c.args.input.now.calls c.feed_lines.new.input.calls
    (ap (λ (d : detect.ShownDetector (pool.ShownPool g.row.D.Denot)). detect.content (pools.live g.D.Disk) d) c.acknowledge.ensures.detector) (c.feed_lines.ensures.way honest)

pub returns-in_err-checkpoint_if_due-clause-way : goal.returns-in_err-checkpoint_if_due-clause-way
returns-in_err-checkpoint_if_due-clause-way g c = λ honest.
    let s = c.args.self.now.store in
    let fed = live g.D.Disk c.feed_lines.new.self.store in
    way_same c.args.self.now.fed.source s.detector.sets (live g.D.Disk s) fed (live g.D.Disk c.checkpoint_if_due.new.self.store) c.args.input.now.calls c.feed_lines.new.input.calls
    (c.checkpoint_if_due.ensures.live honest ∙ ap (λ (d : detect.ShownDetector (pool.ShownPool g.row.D.Denot)). detect.content (pools.live g.D.Disk) d) c.acknowledge.ensures.detector) (c.feed_lines.ensures.way honest)

pub returns-in_err-print_end-clause-way : goal.returns-in_err-print_end-clause-way
returns-in_err-print_end-clause-way g c = λ honest.
    let s = c.args.self.now.store in
    let fed = live g.D.Disk c.feed_lines.new.self.store in
    way_same c.args.self.now.fed.source s.detector.sets (live g.D.Disk s) fed (live g.D.Disk c.checkpoint_if_due.new.self.store) c.args.input.now.calls c.feed_lines.new.input.calls
    (c.checkpoint_if_due.ensures.live honest ∙ ap (λ (d : detect.ShownDetector (pool.ShownPool g.row.D.Denot)). detect.content (pools.live g.D.Disk) d) c.acknowledge.ensures.detector) (c.feed_lines.ensures.way honest)

pub returns-clause-way : goal.returns-clause-way
returns-clause-way g c = λ honest.
    let s = c.args.self.now.store in
    let fed = live g.D.Disk c.feed_lines.new.self.store in
    way_same c.args.self.now.fed.source s.detector.sets (live g.D.Disk s) fed (live g.D.Disk c.checkpoint_if_due.new.self.store) c.args.input.now.calls c.feed_lines.new.input.calls
    (c.checkpoint_if_due.ensures.live honest ∙ ap (λ (d : detect.ShownDetector (pool.ShownPool g.row.D.Denot)). detect.content (pools.live g.D.Disk) d) c.acknowledge.ensures.detector) (c.feed_lines.ensures.way honest)
