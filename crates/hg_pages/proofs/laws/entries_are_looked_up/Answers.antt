use Rattle.hg_pages.proofs.Places.{found_at, in_order, once, placed_at, same_entries}
use Rattle.hg_pages.proofs.laws.entries_are_looked_up.Goals as goal

pub returns-clause-found : goal.returns-clause-found
returns-clause-found c entries place page slot are is = found_at entries place page slot (in_order entries are).rising is

pub returns-clause-placed : goal.returns-clause-placed
returns-clause-placed c = placed_at

pub returns-clause-one_list : goal.returns-clause-one_list
returns-clause-one_list c entries others are also same = same_entries entries others (in_order entries are).rising (in_order others also).rising same

pub returns-clause-one_page : goal.returns-clause-one_page
returns-clause-one_page c entries page other slot are one two = once entries page other slot (in_order entries are).distinct one two
