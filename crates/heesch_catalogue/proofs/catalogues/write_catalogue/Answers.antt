use Rattle.std.proofs.Common.{◌∙◌}
use Rattle.heesch_grid.specs.Geometry.{IsGrid}
use Rattle.heesch_catalogue.proofs.CatalogueTexts.{begun_is_catalogue, whole_is_catalogue}
use Rattle.heesch_catalogue.proofs.RoundTexts.{begins_as, writes_as}
use Rattle.heesch_catalogue.proofs.catalogues.write_catalogue.Given as given
use Rattle.heesch_catalogue.proofs.catalogues.write_catalogue.Goals as goal

laws : (g : given.Over) → IsGrid g.G.Grid.geometry
laws g = (g.met.G.Grid g.world.𝓛 g.world.𝓜 g.world.𝓡 ((λ s x. x), (λ x. x), (λ x. x), λ x. x)).laws

pub returns-clause-ok : goal.returns-clause-ok
returns-clause-ok g c =
    writes_as c.write_texts.result (g.W.Sink.held c.args.sink.now) (g.W.Sink.held c.write_texts.new.sink)
    (λ output. whole_is_catalogue g.G.Grid.geometry (laws g) c.args.header.now c.requires.limits c.deref.result.now (c.deref.ensures.value ∙ c.in_ok-head.ensures) c.args.shapes.now output c.requires.canonical)
    (rw c.texts_of-texts.ensures.1 at c.write_texts.ensures.ok)

pub returns-clause-err : goal.returns-clause-err
returns-clause-err g c =
    begins_as c.write_texts.result (g.W.Sink.held c.args.sink.now) (g.W.Sink.held c.write_texts.new.sink)
    (λ output. begun_is_catalogue g.G.Grid.geometry (laws g) c.args.header.now c.requires.limits c.deref.result.now (c.deref.ensures.value ∙ c.in_ok-head.ensures) c.args.shapes.now output c.requires.canonical)
    (rw c.texts_of-texts.ensures.1 at c.write_texts.ensures.err)
