use Rattle.std.proofs.Common.{◌≡◌, ◌++◌, refl, sym, ap, ◌∙◌, subst, arith}
use Rattle.hg_model.specs.Change.{Follows}
use Rattle.hg_model.specs.Parts.{Parts}
use Rattle.hg_model.specs.Segments.{opened}
use Rattle.hg_model.specs.declared.event.Event.TheVariants.{Send}
use Rattle.hg_model.specs.Verdicts.{standing}
use Rattle.hg_detect.specs.Engine.{shown_of}
use Rattle.hg_detect.specs.Shown.{content}
use Rattle.hg_detect.proofs.Others.{answers_roomy, quiet_answers, roomy, roomy_sound, send_quiet, send_words}
use Rattle.hg_detect.proofs.Threads.{acts_started, send_passes}
use Rattle.hg_detect.proofs.engine.Engine.send.Goals as goal

pub send-requires-clause-named : goal.send-requires-clause-named
send-requires-clause-named g c =
    sym (c.requires.sound.threads c.args.t) ∙ (send_passes (standing c.args.self.now.state) c.args.named.now c.args.t c.args.k c.requires.event c.requires.accepted).0.named

pub returns-clause-answers : goal.returns-clause-answers
returns-clause-answers g c =
    let words = g.W.Words in
    let laws = g.met.W.Words in
    let old = c.args.self.now in
    let n = c.args.named.now in
    let m = c.make_room.new.self.messages in
    let same = c.in_ok-make_room.ensures.same in
    let mid = roomy old m in
    let opens : c.send.new.self ≡ old.graph ++ opened old.graph (Send c.args.t c.args.k) = grind arith in
    answers_roomy words old _ m n _
    (quiet_answers words mid _ n (send_quiet n.event c.args.t c.args.k c.requires.event)
    (record { parts = subst (λ (p : Parts). Follows p n c.follow.new.self) c.in_ok-make_room.ensures.rest c.follow.ensures; graph = opens ∙ ap (λ e. old.graph ++ opened old.graph e) (sym c.requires.event); sets = refl; kept = refl; total = refl; plan = refl })
    (acts_started (standing old.state) n c.requires.accepted)
    laws.brings_more laws.more_faithful (roomy_sound old m same c.requires.sound) c.requires.lawful (λ k l h. h) (λ h w. sym (send_words (content words.cell_of (shown_of old)) n.event c.args.t c.args.k c.requires.event w)))
