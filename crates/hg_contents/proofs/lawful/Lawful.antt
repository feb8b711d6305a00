-- The content that accepted events lead to is lawful.
use Rattle.std.proofs.Common.{◌≡◌, List, Some}
use Rattle.std.proofs.lemmas.List.Elements.{All-from_recursion}
use Rattle.hg_model.specs.declared.event.Named.{Named}
use Rattle.hg_model.specs.Contents.{Content}
use Rattle.hg_model.specs.ThreadSets.{HasThreadSets}
use Rattle.hg_model.specs.Change.{empty_content, followed}
use Rattle.hg_model.proofs.ThreadSets.{kept, start}
use Rattle.hg_contents.specs.Lawful.{IsLawfulContent}
use Rattle.hg_contents.proofs.lawful.Passing.{kept_along}
use Rattle.hg_contents.proofs.lawful.Sending.{HasSent, sent_after, sent_first}
use Rattle.hg_contents.proofs.lawful.Holding.{EachHolds, Holds, holds_after, holds_first}
use Rattle.hg_contents.proofs.lawful.Fitting.{AreFit, fit_after, fit_first, threads_fit}
use Rattle.hg_contents.proofs.lawful.Ordering.{AreOrdered, in_order, ordered_after, ordered_first}
use Rattle.hg_contents.proofs.lawful.Threading.{reports_are}

-- what the rules follow from
pub lawful_with : (c : Content) → AreFit c → HasSent c → AreOrdered c → EachHolds c → HasThreadSets c → IsLawfulContent c
lawful_with c fit sent ordered holds sets =
    let grown = fit.grown in
    let counted = grown.counted in
    record {
      events = counted.events;
      segment_count = (counted.some, counted.few);
      segments = grown.named.lawful;
      threads = threads_fit c fit;
      named = grown.named.named;
      held = All-from_recursion Holds c.threads holds;
      total = counted.total;
      kept = counted.kept;
      reports = reports_are c ordered.made sets.reports;
      order = in_order c.reports ordered.sorted;
      last = sent;
    }

pub lawful : (events : List Named) (c : Content) → followed empty_content events ≡ Some c → IsLawfulContent c
lawful events c led =
    lawful_with c (kept_along AreFit fit_after empty_content c events led fit_first) (kept_along HasSent sent_after empty_content c events led sent_first)
    (kept_along AreOrdered ordered_after empty_content c events led ordered_first) (kept_along EachHolds holds_after empty_content c events led holds_first) (kept empty_content c events led start)
