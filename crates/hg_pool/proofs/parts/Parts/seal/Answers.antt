use Rattle.std.proofs.Common.{rules, ◌≡◌, ℕ, true, List, [], ◌∷◌, length, refl, sym, ◌∙◌, arith}
use Rattle.hg_pool.specs.Sound.{shown_of}
use Rattle.hg_pool.proofs.Breaking.{broke}
use Rattle.hg_pool.proofs.Sealed.{seal_sealed, stays_sealed, usable}
use Rattle.hg_pool.proofs.parts.Parts.seal.Goals as goal

none_of : (table : List (ℕ × ℕ)) → length table ≡ 0 → table ≡ []
none_of [] is = refl
none_of (e ∷ rest) is = absurd (omega (arith, is))

pub returns-in_err-seal-clause-writes : goal.returns-in_err-seal-clause-writes
returns-in_err-seal-clause-writes g c =
    let p = c.args.self.now in
    record {
      stays = stays_sealed g.D.Disk (shown_of p) c.seal.new.self p.is_sealed c.seal.ensures.any_moment (λ works. absurd (cc (sym c.in_err-seal.ensures.breaks ∙ works))) (broke g.D.Disk p.file c.seal.new.self c.seal.result c.seal.ensures.device c.seal.ensures.works c.seal.ensures.breaks c.seal.ensures.broken.broken c.seal.ensures.broken.refuses) c.seal.ensures.known (λ marked. marked);
      broken = search rules;
      breaks = search rules;
      device = search rules;
      calls = search rules;
    }

pub returns-then-len-eq0-clause-writes : goal.returns-then-len-eq0-clause-writes
returns-then-len-eq0-clause-writes g c =
    let p = c.args.self.now in
    record {
      stays = stays_sealed g.D.Disk (shown_of p) c.seal.new.self true c.seal.ensures.any_moment (λ _. usable p.file.is_broken c.in_ok-seal.was c.seal.ensures.broken.refuses) (broke g.D.Disk p.file c.seal.new.self c.seal.result c.seal.ensures.device c.seal.ensures.works c.seal.ensures.breaks c.seal.ensures.broken.broken c.seal.ensures.broken.refuses) c.seal.ensures.known (λ marked. refl);
      broken = search rules;
      breaks = search rules;
      device = search rules;
      calls = search rules;
    }

pub returns-else-len-eq0-clause-writes : goal.returns-else-len-eq0-clause-writes
returns-else-len-eq0-clause-writes g c =
    let p = c.args.self.now in
    record {
      stays = stays_sealed g.D.Disk (shown_of p) c.seal.new.self p.is_sealed c.seal.ensures.any_moment (λ _. usable p.file.is_broken c.in_ok-seal.was c.seal.ensures.broken.refuses) (broke g.D.Disk p.file c.seal.new.self c.seal.result c.seal.ensures.device c.seal.ensures.works c.seal.ensures.breaks c.seal.ensures.broken.broken c.seal.ensures.broken.refuses) c.seal.ensures.known (λ marked. marked);
      broken = search rules;
      breaks = search rules;
      device = search rules;
      calls = search rules;
    }

pub returns-then-len-eq0-clause-sealed : goal.returns-then-len-eq0-clause-sealed
returns-then-len-eq0-clause-sealed g c h none = seal_sealed g.D.Disk (shown_of c.args.self.now) c.seal.new.self true h none c.seal.ensures.known c.in_ok-seal.ensures.durable

pub returns-then-len-eq0-clause-sound : goal.returns-then-len-eq0-clause-sound
returns-then-len-eq0-clause-sound g c =
    let s = c.requires.sound in
    record {
      picked = s.picked;
      copied = s.copied;
      few = s.few;
      most = s.most;
      numbers = s.numbers;
      sealed = λ _. none_of c.args.self.now.waiting.entries (sym c.len.ensures.value ∙ c.if-len-eq0.true);
      most_frames = s.most_frames;
      least_frames = s.least_frames;
      most_slots = s.most_slots;
      root_below = s.root_below;
      frozen_below = s.frozen_below;
      live_below = s.live_below;
    }
