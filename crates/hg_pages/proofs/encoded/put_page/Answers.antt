use Rattle.std.proofs.Common.{◌<◌, length, arith}
use Rattle.hg_pages.proofs.Encoding.{fit_more, got, put_more}
use Rattle.hg_pages.proofs.encoded.put_page.Goals as goal

pub loop-word-preserved : goal.loop-word-preserved
loop-word-preserved c =
    let word = c.loop-word.word in
    let cells = c.args.cells.now in
    let inside : word < length cells = omega (arith, c.get-lowest.ensures.words, c.loop-word-test.true) in
    let is = got cells word c.get.result c.get.ensures.cell in
    record {
      size = c.put_cell.ensures.length;
      front = put_more c.args.page word cells c.get.result c.loop-word.bytes c.put_cell.new.bytes inside c.loop-word-test.true c.loop-word.invariant.size is c.loop-word.invariant.front c.put_cell.ensures.bytes;
      fit = fit_more cells word c.get.result inside is c.loop-word.invariant.fit c.put_cell.ensures.fits;
    }
