-- What a call wrote, by its answer.
use Rattle.std.specs.Prelude.{◌+◌, ℕ}
use Rattle.hg_disk.specs.declared.call.Call.{Call}
use Rattle.hg_disk.specs.declared.call.Call.TheVariants.{Read, Write, Cut, Sync}
use Rattle.hg_disk.specs.declared.call.Answer.{Answer}
use Rattle.hg_disk.specs.declared.call.Answer.TheVariants.{Done, Failed, Refused}

-- how many bytes a call with this answer wrote
abbrev pub len_written : Call → Answer → ℕ
len_written (Write at len) Done = len
len_written (Write at len) Failed = 0
len_written (Write at len) Refused = 0
len_written (Read at) answer = 0
len_written (Cut to) answer = 0
len_written Sync answer = 0

-- where the written bytes end
abbrev pub end_written : Call → Answer → ℕ
end_written (Write at len) Done = at + len
end_written (Write at len) Failed = 0
end_written (Write at len) Refused = 0
end_written (Read at) answer = 0
end_written (Cut to) answer = 0
end_written Sync answer = 0
