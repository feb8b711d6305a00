use Rattle.std.proofs.Common.{refl}
use Rattle.hg_shards.proofs.Routing.{pushed_common}
use Rattle.hg_shards.proofs.routes.Routes.push_common.Goals as goal

pub returns-clause-pushes : goal.returns-clause-pushes
returns-clause-pushes c = pushed_common c.args.self.now _ c.args.event c.requires refl c.push_reserved.ensures.items refl
