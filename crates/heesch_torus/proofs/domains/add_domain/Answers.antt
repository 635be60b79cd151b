use Rattle.std.proofs.Common.{◌-◌, ◌*◌, ◌≤◌, rules, arith}
use Rattle.heesch_tiling.specs.Search.{IsAreaOf, NoAreaOf}
use Rattle.heesch_torus.proofs.Listed.{begun, skipped}
use Rattle.heesch_torus.proofs.domains.add_domain.Goals as goal

pub loop-triple-init : goal.loop-triple-init
loop-triple-init g c =
    let geometry = g.G.Grid.geometry in
    let two : 2 ≤ c.args.tiles = c.requires.tiles.0 in
    let area : IsAreaOf geometry (c.args.tiles * c.args.count) c.in-Some.area = search rules in
    begun geometry g.met.G.Grid.laws c.args.count c.requires.count.0 (c.args.tiles - 1) c.args.tiles (omega arith) c.args.all.now.items c.requires.before c.in-Some.area area c.into_iter-triple-iterator.result (search rules) (omega arith)

pub returns-in_default : goal.returns-in_default
returns-in_default g c =
    let geometry = g.G.Grid.geometry in
    let two : 2 ≤ c.args.tiles = c.requires.tiles.0 in
    let none : NoAreaOf geometry (c.args.tiles * c.args.count) = search rules in
    skipped geometry g.met.G.Grid.laws c.args.count c.requires.count.0 (c.args.tiles - 1) c.args.tiles (omega arith) c.args.all.now.items c.requires.before none
