use Rattle.hg_root.proofs.body.segments_of.Goals as goal

pub returns-in-Written : goal.returns-in-Written
returns-in-Written c = rw (c.in_ok-count.ensures, c.in-Written.is) c.take_times.ensures

pub returns-in-Former : goal.returns-in-Former
returns-in-Former c = rw (c.in_ok-count.ensures, c.in-Former.is) c.former_times.ensures
