use Rattle.std.proofs.Common.{◌∙◌, sym, ap, subst, arith}
use Rattle.std.proofs.lemmas.List.{take_all}
use Rattle.hg_pages.specs.Tables.{AreEntries}
use Rattle.hg_checkpoint.specs.NamedPages.{entries_of}
use Rattle.hg_checkpoint.proofs.Entries.{are_entries}
use Rattle.hg_checkpoint.proofs.page_table.table_of.Goals as goal

pub from_entries-requires : goal.from_entries-requires
from_entries-requires c =
    let pages = c.args.pages.now in
    subst AreEntries (sym (c.loop-i.invariant ∙ ap entries_of (take_all c.loop-i.i pages (omega (arith, c.loop-i-test.false))))) (are_entries pages c.requires)
