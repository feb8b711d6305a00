use Rattle.hg_protocol.proofs.put.body_len.Goals as goal

pub returns-in-Alloc : goal.returns-in-Alloc
returns-in-Alloc c = rw c.in-Alloc.is (c.block_body_len.ensures 8 12)

pub returns-in-Free : goal.returns-in-Free
returns-in-Free c = rw c.in-Free.is (c.block_body_len-in-Free.ensures 9 13)
