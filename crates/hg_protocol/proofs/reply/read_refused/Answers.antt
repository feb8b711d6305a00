use Rattle.std.proofs.Common.{◌≢◌, ◌<◌, ◌^◌, rules}
use Rattle.hg_protocol.proofs.ReplyLemmas.{no_refusal, only_refusal}
use Rattle.hg_protocol.proofs.reply.read_refused.Goals as goal

pub returns-then-expected-ne0-clause-none : goal.returns-then-expected-ne0-clause-none
returns-then-expected-ne0-clause-none c reply is =
    let one = only_refusal c.args.bytes.now reply is.0 is.1.0 is.1.1 in
    let small : c.in-Some.expected < 2 ^ 64 = search rules in
    let no_gap : c.in-Some.code ≢ 1 = search rules in
    let some : c.in-Some.expected ≢ 0 = search rules in
    no_refusal c.args.bytes.now c.in-Some.number c.in-Some.code c.in-Some.expected one.0 one.1 one.2 small no_gap some c.in-Some.ensures.some one.3 one.4
