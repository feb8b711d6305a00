use Rattle.hg_protocol.proofs.FrameLemmas.{fits_both, spelled_both}
use Rattle.hg_protocol.proofs.laws.cuts_are_nothing.Goals as goal

pub returns : goal.returns
returns g c bytes more left rest front later fault first second = record {
  spelled = spelled_both g.M.Message front later bytes more left rest first.spelled second.spelled;
  fits = fits_both g.M.Message front later first.fits second.fits;
  ends = second.ends;
}
