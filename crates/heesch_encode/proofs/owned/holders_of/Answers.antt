use Rattle.std.proofs.Common.{ap, ◌∙◌}
use Rattle.heesch_place.specs.Universes.{covering}
use Rattle.heesch_encode.proofs.Holders.{holders_are}
use Rattle.heesch_encode.proofs.owned.holders_of.Goals as goal

pub returns : goal.returns
returns g c =
    let u = c.args.universe.now in
    c.covered_by.ensures ∙ ap (λ k. covering u.vars k c.args.c) c.level.ensures.level ∙ holders_are g.G.Grid.geometry u.shape u.level u.vars c.args.c c.requires
