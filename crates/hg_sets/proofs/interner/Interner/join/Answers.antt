use Rattle.std.proofs.Common.{◌≡◌, [], Ok, Err, inl, refl, sym, ◌∙◌}
use Rattle.hg_model.specs.Sets.{with_member}
use Rattle.hg_sets.specs.Interning.{set_at}
use Rattle.hg_sets.proofs.Rising.{with_member-increasing, with_member-searched}
use Rattle.hg_sets.proofs.interner.Interner.join.Goals as goal
use Rattle.hg_sets.proofs.interner.Interner.join.Goals.{After-write_joined}

-- the buffer has the set with the member
joined : (c : After-write_joined) → c.write_joined.new.joined.items ≡ with_member (set_at c.args.self.now.lists.all c.args.a) c.args.member
joined c =
    let found = rw c.get-members.ensures at c.in-Err.ensures.position in
    let rises = c.requires.sound.sets.rising c.args.a [] c.requires.known in
    c.write_joined.ensures.items ∙ rw c.get-members.ensures (sym (with_member-searched _ c.args.member (Err c.in-Err.at) rises found))

pub intern_scratch-requires-clause-rising : goal.intern_scratch-requires-clause-rising
intern_scratch-requires-clause-rising c =
    let set = joined (goal.at.intern_scratch-requires-clause-rising c).After-write_joined in
    rw set (with_member-increasing _ c.args.member (c.requires.sound.sets.rising c.args.a [] c.requires.known))

pub returns-in-Ok-clause-exact : goal.returns-in-Ok-clause-exact
returns-in-Ok-clause-exact c =
    let found = rw c.get-members.ensures at c.in-Ok.ensures.position in
    let there = with_member-searched (set_at c.args.self.now.lists.all c.args.a) c.args.member (Ok c.in-Ok.field-0) (c.requires.sound.sets.rising c.args.a [] c.requires.known) found in
    inl (c.args.a, (c.requires.known, sym there), refl, refl)

pub returns-in-Err-clause-exact : goal.returns-in-Err-clause-exact
returns-in-Err-clause-exact c =
    let set = joined (goal.at.returns-in-Err-clause-exact c).After-write_joined in
    rw (← set) c.intern_scratch.ensures.exact
