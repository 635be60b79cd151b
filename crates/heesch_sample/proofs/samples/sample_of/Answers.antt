use Rattle.std.proofs.Common.{length, sym, ap, ◌∙◌, subst}
use Rattle.std.specs.Prelude.{All}
use Rattle.heesch_grid.specs.Polyform.{IsCanonicalListOf}
use Rattle.heesch_catalogue.specs.Catalogues.{AreEntries}
use Rattle.heesch_sample.proofs.Growing.{grown_are_canonical, grown_length}
use Rattle.heesch_sample.proofs.Tallies.{tally_written}
use Rattle.heesch_sample.proofs.samples.sample_of.Goals as goal

pub tally_of-requires-clause-canonical : goal.tally_of-requires-clause-canonical
tally_of-requires-clause-canonical g c κs within =
    let geometry = g.G.Grid.geometry in
    let laws = (g.met.G.Grid g.world.𝓛 g.world.𝓜 g.world.𝓡 ((λ s x. x), (λ x. x), (λ x. x), λ x. x)).laws in
    subst (λ xs. All (λ s. IsCanonicalListOf geometry s s) xs) (sym c.deref.ensures.value)
    (grown_are_canonical geometry laws c.args.growth.n c.args.growth.seed c.args.growth.count c.in_ok-shapes.shapes.items c.in_ok-shapes.ensures)

pub tally_of-requires-clause-count : goal.tally_of-requires-clause-count
tally_of-requires-clause-count g c κs within =
    sym (ap length c.deref.ensures.value ∙ grown_length g.G.Grid.geometry c.args.growth.n c.args.growth.seed c.args.growth.count c.in_ok-shapes.shapes.items c.in_ok-shapes.ensures)

pub returns : goal.returns
returns g c =
    let geometry = g.G.Grid.geometry in
    let (entries, are, counts) = c.in_ok-tally.ensures in
    record {
      shapes = c.in_ok-shapes.shapes.items;
      are_grown = c.in_ok-shapes.ensures;
      entries = entries;
      are_entries = subst (λ ss. AreEntries geometry c.args.limits ss entries) c.deref.ensures.value are;
      is_tally = tally_written geometry entries c.in_ok-tally.tally c.new-text.result.items c.write.new.out.items counts c.new-text.ensures.items c.in_ok-write.ensures.ok;
    }
