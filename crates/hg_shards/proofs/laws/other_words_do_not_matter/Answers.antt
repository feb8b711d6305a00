use Rattle.hg_shards.proofs.Rules.{same_length, same_segments, same_threads, same_held}
use Rattle.hg_shards.proofs.Lives.{same_history, same_state, same_reported}
use Rattle.hg_shards.proofs.Reports.{same_last, same_reports}
use Rattle.hg_shards.proofs.laws.other_words_do_not_matter.Goals as goal

pub returns : goal.returns
returns c = λ within es fs h.
    record {
      events = same_length within es fs h;
      segments = same_segments within es fs h;
      threads = same_threads within es fs h;
      locks = λ t. same_held within t es fs h;
      histories = λ w inside. same_history within w inside es fs h;
      states = λ w inside. same_state within w inside es fs h;
      reported = λ w inside. same_reported within w inside es fs h;
      last = same_last within es fs h;
      reports = same_reports within es fs h;
    }
