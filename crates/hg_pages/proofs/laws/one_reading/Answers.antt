use Rattle.hg_pages.proofs.OneReading.{one_page, one_page_in}
use Rattle.hg_pages.proofs.laws.one_reading.Goals as goal

pub returns-clause-slot : goal.returns-clause-slot
returns-clause-slot c = one_page

pub returns-clause-file : goal.returns-clause-file
returns-clause-file c = one_page_in
