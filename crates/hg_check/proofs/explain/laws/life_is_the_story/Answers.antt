use Rattle.hg_check.proofs.Story.{life_is_story}
use Rattle.hg_check.proofs.explain.laws.life_is_the_story.Goals as goal

pub returns : goal.returns
returns c w form bytes last end h = life_is_story w form bytes last end h
