use Rattle.hg_pages.specs.Files.{known}
use Rattle.hg_saved.proofs.Contents.{each_content}
use Rattle.hg_saved.proofs.Numbers.{is_numbered}
use Rattle.hg_saved.proofs.detectors.detector_at.Goals as goal

pub returns-clause-content : goal.returns-clause-content
returns-clause-content g c honest = each_content c.args.root (known g.D.Disk c.args.file.now) c.in_ok-words.words c.over_words.result c.requires.whole (c.in_ok-words.ensures.cells honest) c.over_words.ensures.shown

pub returns-clause-numbered : goal.returns-clause-numbered
returns-clause-numbered g c = is_numbered c.args.root c.in_ok-words.words c.over_words.result c.requires.lawful c.requires.whole c.over_words.ensures.shown
