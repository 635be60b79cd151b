use Rattle.std.proofs.Common.{◌∙◌, subst, rules}
use Rattle.heesch_grid.specs.Lattice.{IsTriple}
use Rattle.heesch_lattice.proofs.Sides.{sides_of}
use Rattle.heesch_lattice.proofs.Reducing.{reduced_by_sides}
use Rattle.heesch_lattice.specs.Reduction.{lattice}
use Rattle.heesch_lattice.proofs.triple.Triple.reduce.Goals as goal

pub reduced-requires : goal.reduced-requires
reduced-requires g c =
    let t = lattice c.self.inside.p c.self.inside.q c.self.inside.s in
    let sides = sides_of g.G.Grid.geometry g.met.G.Grid.laws c.UNIT-unit.result t (c.UNIT-unit.ensures ∙ g.met.G.Grid.sizes.unit_is) c.self.invariant in
    record {
      within = search rules;
      wide_positive = sides.wide.positive c.self.invariant.is_triple.p_positive;
      wide_small = sides.wide.small;
      high_positive = sides.high.positive c.self.invariant.is_triple.q_positive;
      high_small = sides.high.small;
      slant_positive = sides.slant.from;
      slant_small = sides.slant.small;
    }

pub returns : goal.returns
returns g c =
    let t = lattice c.self.inside.p c.self.inside.q c.self.inside.s in
    let sides = sides_of g.G.Grid.geometry g.met.G.Grid.laws c.UNIT-unit.result t (c.UNIT-unit.ensures ∙ g.met.G.Grid.sizes.unit_is) c.self.invariant in
    let read = reduced_by_sides g.G.Grid.geometry g.met.G.Grid.laws c.UNIT-unit.result t c.args.self c.self.view_is c.self.invariant.is_triple sides c.args.c c.reduced.result c.reduced.ensures in
    record { triple = subst IsTriple c.self.view_is c.self.invariant.is_triple; differs = read.0; unit = read.1; reduced = read.2 }
