use Rattle.heesch_grid.specs.Geometry.{IsGrid}
use Rattle.heesch_catalogue.proofs.RoundTexts.{begins_as, writes_as}
use Rattle.heesch_outer.proofs.OuterTexts.{begun_is_outers, whole_is_outers}
use Rattle.heesch_outer.proofs.outers.write_outers.Given as given
use Rattle.heesch_outer.proofs.outers.write_outers.Goals as goal

laws : (g : given.Over) → IsGrid g.G.Grid.geometry
laws g = (g.met.G.Grid g.world.𝓛 g.world.𝓜 g.world.𝓡 ((λ s x. x), (λ x. x), (λ x. x), λ x. x)).laws

pub returns-clause-ok : goal.returns-clause-ok
returns-clause-ok g c =
    writes_as c.write_texts.result (g.W.Sink.held c.args.sink.now) (g.W.Sink.held c.write_texts.new.sink)
    (λ output. whole_is_outers g.G.Grid.geometry (laws g) c.args.limits c.requires.limits c.args.shapes.now output c.requires.canonical)
    c.write_texts.ensures.ok

pub returns-clause-err : goal.returns-clause-err
returns-clause-err g c =
    begins_as c.write_texts.result (g.W.Sink.held c.args.sink.now) (g.W.Sink.held c.write_texts.new.sink)
    (λ output. begun_is_outers g.G.Grid.geometry (laws g) c.args.limits c.requires.limits c.args.shapes.now output c.requires.canonical)
    c.write_texts.ensures.err
