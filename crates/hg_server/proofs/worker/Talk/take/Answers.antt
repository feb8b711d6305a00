use Rattle.std.proofs.Common.{rules, ◌≡◌, ◌++◌, ◌∙◌, ℕ, List, [], true, false, ap, is_some, refl, subst, sym}
use Rattle.hg_protocol.specs.declared.frame.Frame.{Frame}
use Rattle.hg_protocol.specs.Streams.{FramesRead}
use Rattle.hg_streams.specs.declared.call.ReadCall.{ReadCall}
use Rattle.hg_streams.proofs.Printed.{due_written, front_due, took_by}
use Rattle.hg_server.specs.Talking.{Follows, IsTalk, WasTalk, frames_text}
use Rattle.hg_server.specs.declared.worker.Course.{Course}
use Rattle.hg_server.specs.declared.worker.Course.TheVariants as course
use Rattle.hg_server.proofs.Talking.{due_on, ended, fault_of, faulted, front_written, left_of, spelled_on}
use Rattle.hg_server.proofs.worker.Talk.take.Goals as goal

pub returns-in_default-clause-taken : goal.returns-in_default-clause-taken
returns-in_default-clause-taken g c first p =
    let me = c.args.self.now in
    ended g.D.Disk g.A.Opening.start first me.desk c.args.seat.now.share me.wire.reads me.wire.writes me.wire.writes me.replies.items [] [] (me.feed.left ++ c.args.piece.now) (λ goal d. front_due [] me.wire.writes me.replies.items [] goal d) p

pub returns-in-Torn-clause-taken : goal.returns-in-Torn-clause-taken
returns-in-Torn-clause-taken g c first p =
    let start = g.A.Opening.start in
    let me = c.args.self.now in
    let told = c.args.seat.now.share in
    let gives = c.in-Ok.ensures.ok in
    let messages = c.as_slice.result.now in
    let rest = gives.rest in
    let spelled : me.feed.left ++ c.args.piece.now ≡ frames_text messages ++ rest = subst (λ (l : List Frame). me.feed.left ++ c.args.piece.now ≡ frames_text l ++ rest) (sym c.as_slice.ensures.value) gives.read.spelled in
    let q = spelled_on g.D.Disk start first me.desk told me.wire.reads me.wire.writes me.replies.items [] (me.feed.left ++ c.args.piece.now) rest messages spelled p in
    let f = c.answer_all-course.ensures.carried first rest q in
    let now = c.answer_all-course.new.self in
    let told_after = c.answer_all-course.new.seat.share in
    let h : Follows g.D.Disk start first course.Torn now told_after rest = subst (λ (k : Course). Follows g.D.Disk start first k now told_after rest) c.in-Torn.is f in
    h

pub returns-in-ReadOn-clause-taken : goal.returns-in-ReadOn-clause-taken
returns-in-ReadOn-clause-taken g c first p =
    let start = g.A.Opening.start in
    let me = c.args.self.now in
    let told = c.args.seat.now.share in
    let gives = c.in-Ok.ensures.ok in
    let messages = c.as_slice.result.now in
    let rest = gives.rest in
    let spelled : me.feed.left ++ c.args.piece.now ≡ frames_text messages ++ rest = subst (λ (l : List Frame). me.feed.left ++ c.args.piece.now ≡ frames_text l ++ rest) (sym c.as_slice.ensures.value) gives.read.spelled in
    let q = spelled_on g.D.Disk start first me.desk told me.wire.reads me.wire.writes me.replies.items [] (me.feed.left ++ c.args.piece.now) rest messages spelled p in
    let f = c.answer_all-course.ensures.carried first rest q in
    let now = c.answer_all-course.new.self in
    let told_after = c.answer_all-course.new.seat.share in
    let h : Follows g.D.Disk start first course.ReadOn now told_after rest = subst (λ (k : Course). Follows g.D.Disk start first k now told_after rest) c.in-ReadOn.is f in
    let some : is_some c.in-Ok.fed.fault ≡ true = search rules in
    let found = fault_of c.in-Ok.fed.fault rest some gives.read.ends in
    let after = c.tell_fault.new.self.wire.writes in
    subst (λ (r : List ReadCall). WasTalk g.D.Disk start first told_after r after) (sym c.tell_fault.ensures.reads)
    (faulted g.D.Disk start first now.desk told_after now.wire.reads now.wire.writes after now.replies.items rest found.0 found.1 c.tell_fault.ensures.fault h)

pub returns-then-not-write_out-clause-taken : goal.returns-then-not-write_out-clause-taken
returns-then-not-write_out-clause-taken g c first p =
    let start = g.A.Opening.start in
    let me = c.args.self.now in
    let told = c.args.seat.now.share in
    let gives = c.in-Ok.ensures.ok in
    let messages = c.as_slice.result.now in
    let rest = gives.rest in
    let spelled : me.feed.left ++ c.args.piece.now ≡ frames_text messages ++ rest = subst (λ (l : List Frame). me.feed.left ++ c.args.piece.now ≡ frames_text l ++ rest) (sym c.as_slice.ensures.value) gives.read.spelled in
    let q = spelled_on g.D.Disk start first me.desk told me.wire.reads me.wire.writes me.replies.items [] (me.feed.left ++ c.args.piece.now) rest messages spelled p in
    let f = c.answer_all-course.ensures.carried first rest q in
    let now = c.answer_all-course.new.self in
    let told_after = c.answer_all-course.new.seat.share in
    let h : Follows g.D.Disk start first course.ReadOn now told_after rest = subst (λ (k : Course). Follows g.D.Disk start first k now told_after rest) c.in-ReadOn-2.is f in
    let after = c.write_out.new.self.wire.writes in
    subst (λ (r : List ReadCall). WasTalk g.D.Disk start first told_after r after) (sym c.write_out.ensures.same.0)
    (ended g.D.Disk start first now.desk told_after now.wire.reads now.wire.writes after now.replies.items [] [] rest (λ goal d. front_written c.write_out.result [] now.wire.writes after now.replies.items [] goal c.write_out.ensures.took c.write_out.ensures.torn d) h)

pub returns-in-ReadOn-2-clause-taken : goal.returns-in-ReadOn-2-clause-taken
returns-in-ReadOn-2-clause-taken g c first p =
    let start = g.A.Opening.start in
    let me = c.args.self.now in
    let told = c.args.seat.now.share in
    let gives = c.in-Ok.ensures.ok in
    let messages = c.as_slice.result.now in
    let rest = gives.rest in
    let spelled : me.feed.left ++ c.args.piece.now ≡ frames_text messages ++ rest = subst (λ (l : List Frame). me.feed.left ++ c.args.piece.now ≡ frames_text l ++ rest) (sym c.as_slice.ensures.value) gives.read.spelled in
    let q = spelled_on g.D.Disk start first me.desk told me.wire.reads me.wire.writes me.replies.items [] (me.feed.left ++ c.args.piece.now) rest messages spelled p in
    let f = c.answer_all-course.ensures.carried first rest q in
    let now = c.answer_all-course.new.self in
    let told_after = c.answer_all-course.new.seat.share in
    let h : Follows g.D.Disk start first course.ReadOn now told_after rest = subst (λ (k : Course). Follows g.D.Disk start first k now told_after rest) c.in-ReadOn-2.is f in
    let none : is_some c.in-Ok.fed.fault ≡ false = search rules in
    let took : c.write_out.result ≡ true = search rules in
    let last = c.write_out.new.self in
    let held = now.replies.items in
    let same : rest ≡ last.feed.left = left_of c.in-Ok.fed.fault rest c.push.new.self none gives.behind ∙ sym (ap (λ (f : FramesRead). f.left) (c.write_out.ensures.same.2 ∙ c.answer_all-course.ensures.feed)) in
    let end = due_on g.D.Disk start first now.desk told_after now.wire.reads now.wire.writes last.wire.writes held [] [] [] [] rest
    (λ goal d. due_written [] now.wire.writes last.wire.writes held [] goal d (took_by now.wire.writes last.wire.writes held held (c.write_out.ensures.took took) refl)) h in
    (rw (c.write_out.ensures.none, c.write_out.ensures.same.0, c.write_out.ensures.same.1) (subst (λ (t : List ℕ). IsTalk g.D.Disk start first now.desk told_after now.wire.reads last.wire.writes [] [] [] t) same end), c.write_out.ensures.none)

pub returns-in-End-clause-taken : goal.returns-in-End-clause-taken
returns-in-End-clause-taken g c first p =
    let start = g.A.Opening.start in
    let me = c.args.self.now in
    let told = c.args.seat.now.share in
    let gives = c.in-Ok.ensures.ok in
    let messages = c.as_slice.result.now in
    let rest = gives.rest in
    let spelled : me.feed.left ++ c.args.piece.now ≡ frames_text messages ++ rest = subst (λ (l : List Frame). me.feed.left ++ c.args.piece.now ≡ frames_text l ++ rest) (sym c.as_slice.ensures.value) gives.read.spelled in
    let q = spelled_on g.D.Disk start first me.desk told me.wire.reads me.wire.writes me.replies.items [] (me.feed.left ++ c.args.piece.now) rest messages spelled p in
    let f = c.answer_all-course.ensures.carried first rest q in
    let now = c.answer_all-course.new.self in
    let told_after = c.answer_all-course.new.seat.share in
    let h : Follows g.D.Disk start first course.End now told_after rest = subst (λ (k : Course). Follows g.D.Disk start first k now told_after rest) c.in-End.is f in
    let after = c.write_out-in-End.new.self.wire.writes in
    subst (λ (r : List ReadCall). WasTalk g.D.Disk start first told_after r after) (sym c.write_out-in-End.ensures.same.0)
    (ended g.D.Disk start first h.0 told_after now.wire.reads now.wire.writes after now.replies.items h.1 h.2 h.3 (λ goal d. front_written c.write_out-in-End.result [] now.wire.writes after now.replies.items h.1 goal c.write_out-in-End.ensures.took c.write_out-in-End.ensures.torn d) h.4)

pub returns-clause-taken : goal.returns-clause-taken
returns-clause-taken g c first p =
    let start = g.A.Opening.start in
    let me = c.args.self.now in
    let told = c.args.seat.now.share in
    let gives = c.in-Ok.ensures.ok in
    let messages = c.as_slice.result.now in
    let rest = gives.rest in
    let spelled : me.feed.left ++ c.args.piece.now ≡ frames_text messages ++ rest = subst (λ (l : List Frame). me.feed.left ++ c.args.piece.now ≡ frames_text l ++ rest) (sym c.as_slice.ensures.value) gives.read.spelled in
    let q = spelled_on g.D.Disk start first me.desk told me.wire.reads me.wire.writes me.replies.items [] (me.feed.left ++ c.args.piece.now) rest messages spelled p in
    let f = c.answer_all-course.ensures.carried first rest q in
    let now = c.answer_all-course.new.self in
    let told_after = c.answer_all-course.new.seat.share in
    let h : Follows g.D.Disk start first course.Stop now told_after rest = subst (λ (k : Course). Follows g.D.Disk start first k now told_after rest) c.in-Stop.is f in
    let after = c.write_out-in-Stop.new.self.wire.writes in
    subst (λ (r : List ReadCall). WasTalk g.D.Disk start first told_after r after) (sym c.write_out-in-Stop.ensures.same.0)
    (ended g.D.Disk start first h.0 told_after now.wire.reads now.wire.writes after now.replies.items h.1 h.2 h.3 (λ goal d. front_written c.write_out-in-Stop.result [] now.wire.writes after now.replies.items h.1 goal c.write_out-in-Stop.ensures.took c.write_out-in-Stop.ensures.torn d) h.4)
