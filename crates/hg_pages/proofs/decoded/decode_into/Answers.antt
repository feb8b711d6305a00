use Rattle.std.proofs.Common.{◌≡◌, ◌∙◌, ℕ, ap, sym, subst, take, arith}
use Rattle.std.specs.Int.{w64, to_be_bytes}
use Rattle.hg_cells.specs.Cells.{IsWithin}
use Rattle.std.specs.List.{AllByRecursion}
use Rattle.hg_pages.specs.Numbers.{AreRead}
use Rattle.hg_pages.proofs.Reading.{each_within, none_known, sets_of_none, slot_read}
use Rattle.hg_pages.proofs.decoded.decode_into.Goals as goal

pub returns-clause-yes : goal.returns-clause-yes
returns-clause-yes c right =
    let number : to_be_bytes w64 c.args.page ≡ take 8 c.args.bytes.now = ap (λ (n : ℕ). to_be_bytes w64 n) (sym c.if-page_in-page.false) ∙ c.page_in.ensures in
    slot_read c.args.bytes.now c.args.page c.args.segments c.args.sets.now.sets c.read_cells-are_right.new.cells (omega (arith, c.if-page-ge-MOST_PAGES.false)) c.requires c.read_cells-are_right.ensures.words number
    (subst (λ (n : ℕ). AreRead c.args.segments n 256 c.args.bytes.now c.read_cells-are_right.new.cells) c.len.ensures.len (c.read_cells-are_right.ensures.read c.if-not-are_right.false))
    (c.have_thread_sets.ensures.yes right)

pub returns-then-not-has_shared-clause-yes : goal.returns-then-not-has_shared-clause-yes
returns-then-not-has_shared-clause-yes c _ =
    let number : to_be_bytes w64 c.args.page ≡ take 8 c.args.bytes.now = ap (λ (n : ℕ). to_be_bytes w64 n) (sym c.if-page_in-page.false) ∙ c.page_in.ensures in
    slot_read c.args.bytes.now c.args.page c.args.segments c.args.sets.now.sets c.read_cells-are_right.new.cells (omega (arith, c.if-page-ge-MOST_PAGES.false)) c.requires c.read_cells-are_right.ensures.words number
    (subst (λ (n : ℕ). AreRead c.args.segments n 256 c.args.bytes.now c.read_cells-are_right.new.cells) c.len.ensures.len (c.read_cells-are_right.ensures.read c.if-not-are_right.false))
    (sets_of_none c.args.bytes.now c.args.sets.now.sets (c.read_cells-are_right.ensures.shared c.if-not-has_shared.true))

pub returns-then-not-are_right-clause-no : goal.returns-then-not-are_right-clause-no
returns-then-not-are_right-clause-no c _ cells is known =
    c.read_cells-are_right.ensures.none c.if-not-are_right.true c.args.page cells is
    (subst (λ (n : ℕ). AllByRecursion (IsWithin c.args.segments n) cells) (sym c.len.ensures.len) (each_within c.args.segments c.args.sets.now.sets cells known))

pub returns-clause-no : goal.returns-clause-no
returns-clause-no c wrong = none_known c.args.bytes.now c.args.page c.args.segments c.args.sets.now.sets (c.have_thread_sets.ensures.no wrong)
