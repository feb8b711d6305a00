use Rattle.std.proofs.Common.{[]}
use Rattle.hg_store.specs.Shown.{live}
use Rattle.hg_commands.specs.Listings.{listing_text}
use Rattle.hg_streams.proofs.Printed.{always_err, due_flushed, front_by_flush, took_by_flush}
use Rattle.hg_commands.proofs.listing.print_store.Goals as goal

pub returns-clause-printed : goal.returns-clause-printed
returns-clause-printed g c =
    let old = c.args.output.now.calls in
    let text = listing_text c.args.listing (live g.D.Disk c.args.store.now) in
    due_flushed old c.write_out.new.output.calls c.flush.new.self.calls c.write_out.new.held.items text c.in_ok-write_out.ensures.none
    (c.in_ok-write_out.ensures.printed old [] text c.in_ok-print_listing.ensures.printed)
    (took_by_flush c.write_out.new.output.calls c.flush.new.self.calls c.in_ok-flush.ensures.calls)

pub returns-in_err-write_out-clause-front : goal.returns-in_err-write_out-clause-front
returns-in_err-write_out-clause-front g c =
    always_err _ (c.in_err-write_out.ensures.front c.args.output.now.calls [] (listing_text c.args.listing (live g.D.Disk c.args.store.now)) c.in_ok-print_listing.ensures.printed)

pub returns-in_err-flush-clause-front : goal.returns-in_err-flush-clause-front
returns-in_err-flush-clause-front g c =
    let old = c.args.output.now.calls in
    let text = listing_text c.args.listing (live g.D.Disk c.args.store.now) in
    always_err _ (front_by_flush old c.write_out.new.output.calls c.flush.new.self.calls c.write_out.new.held.items [] text c.in_err-flush.ensures.calls
    (c.in_ok-write_out.ensures.printed old [] text c.in_ok-print_listing.ensures.printed))

pub returns-clause-flushed : goal.returns-clause-flushed
returns-clause-flushed g c = (c.write_out.new.output.calls, c.in_ok-flush.ensures.calls)
