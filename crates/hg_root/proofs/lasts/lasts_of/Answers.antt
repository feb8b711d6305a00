use Rattle.std.proofs.Common.{◌≡◌, ◌∙◌, ℕ, List, Option, None, get_or, length, replicate, take, refl, sym, ap, arith, rules}
use Rattle.std.proofs.lemmas.List.{get_or-replicate, length-replicate}
use Rattle.hg_root.proofs.LastSegments.{agrees_still, begun, done_lawful, done_messages, done_table, no_mark, no_place, no_such_thread, refused, stands_so, step, told}
use Rattle.hg_root.proofs.lasts.lasts_of.Goals as goal

pub loop-k-preserved : goal.loop-k-preserved
loop-k-preserved c =
    let segments = c.args.segments.now in
    let s = c.index-segments-k.result in
    let earlier = take c.loop-k.k segments in
    let fits = told segments c.loop-k.k c.from-thread.result c.loop-k.lasts.items c.loop-k.messages s c.index.result.now c.fits.result c.loop-k.invariant c.from-thread.ensures c.if-thread-ge-THREAD_NUMBERS.false c.index.ensures c.fits.ensures in
    let may = c.may_note.ensures.follows earlier c.loop-k.invariant.agrees in
    step segments c.loop-k.k c.from-thread.result c.loop-k.lasts.items c.loop-k.messages c.note.new.self s s c.loop-k.invariant c.loop-k-test.true c.index-segments-k.is c.from-thread.ensures c.if-thread-ge-THREAD_NUMBERS.false
    (stands_so earlier s (sym c.if-not-fits.false ∙ fits) (sym c.if-not-may_note.false ∙ may))
    (c.note.ensures.agrees earlier s refl (agrees_still earlier c.loop-k.messages c.make_room.new.self c.in_ok-make_room.ensures.same c.loop-k.invariant.agrees))

pub returns-then-not-fits-clause-damaged : goal.returns-then-not-fits-clause-damaged
returns-then-not-fits-clause-damaged c = λ _ some few.
    let segments = c.args.segments.now in
    let s = c.index-segments-k.result in
    let fits = told segments c.loop-k.k c.from-thread.result c.loop-k.lasts.items c.loop-k.messages s c.index.result.now c.fits.result c.loop-k.invariant c.from-thread.ensures c.if-thread-ge-THREAD_NUMBERS.false c.index.ensures c.fits.ensures in
    refused segments c.loop-k.k s s c.loop-k-test.true c.index-segments-k.is (no_place (take c.loop-k.k segments) s (sym c.if-not-fits.true ∙ fits))

pub returns-then-not-may_note-clause-damaged : goal.returns-then-not-may_note-clause-damaged
returns-then-not-may_note-clause-damaged c = λ _ some few.
    let segments = c.args.segments.now in
    let s = c.index-segments-k.result in
    let may = c.may_note.ensures.follows (take c.loop-k.k segments) c.loop-k.invariant.agrees in
    refused segments c.loop-k.k s s c.loop-k-test.true c.index-segments-k.is (no_mark (take c.loop-k.k segments) s (sym c.if-not-may_note.true ∙ may))

pub returns-then-thread-ge-THREAD_NUMBERS-clause-damaged : goal.returns-then-thread-ge-THREAD_NUMBERS-clause-damaged
returns-then-thread-ge-THREAD_NUMBERS-clause-damaged c = λ _ some few.
    let s = c.index-segments-k.result in
    refused c.args.segments.now c.loop-k.k s s c.loop-k-test.true c.index-segments-k.is (no_such_thread _ s (omega (arith, c.from-thread.ensures, c.if-thread-ge-THREAD_NUMBERS.true)))

pub returns-clause-lawful : goal.returns-clause-lawful
returns-clause-lawful c = done_lawful c.args.segments.now c.loop-k.k c.loop-k.lasts.items c.loop-k.messages c.loop-k.invariant c.loop-k-test.false

pub loop-k-init : goal.loop-k-init
loop-k-init c =
    let none : c.in_ok-lasts.lasts.items ≡ replicate 1024 None = c.in_ok-lasts.ensures.items_if_clones_equal (search rules) in
    begun c.args.segments.now c.in_ok-lasts.lasts.items c.new-messages.result (ap length none ∙ length-replicate {A = Option ℕ} 1024 None)
    (λ t lt. ap (λ (l : List (Option ℕ)). get_or l t None) none ∙ get_or-replicate 1024 t None None lt) c.new-messages.ensures.agrees

pub returns-clause-table : goal.returns-clause-table
returns-clause-table c = done_table c.args.segments.now c.loop-k.k c.loop-k.lasts.items c.loop-k.messages c.loop-k.invariant c.loop-k-test.false

pub returns-clause-messages : goal.returns-clause-messages
returns-clause-messages c = done_messages c.args.segments.now c.loop-k.k c.loop-k.lasts.items c.loop-k.messages c.loop-k.invariant c.loop-k-test.false
