use Rattle.std.proofs.Common.{rules, ◌<◌, ◌^◌}
use Rattle.hg_protocol.proofs.LineLemmas.{end_line_len}
use Rattle.hg_protocol.proofs.put.put_lines.Goals as goal

pub put_line-requires : goal.put_line-requires
put_line-requires c =
    let events : c.args.lines.now.events < 2 ^ 64 = search rules in
    let races : c.args.lines.now.races < 2 ^ 64 = search rules in
    let segments : c.args.lines.now.segments < 2 ^ 64 = search rules in
    let few = end_line_len c.args.lines.now.events c.args.lines.now.races c.args.lines.now.segments events races segments in
    search rules
