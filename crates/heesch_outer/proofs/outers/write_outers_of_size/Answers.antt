use Rattle.heesch_grid.specs.Names.{geometry_of}
use Rattle.heesch_catalogue.proofs.GridLaws.{laws_of}
use Rattle.heesch_catalogue.proofs.RoundTexts.{begins_as, writes_as}
use Rattle.heesch_outer.proofs.OuterTexts.{begun_of_size, whole_of_size}
use Rattle.heesch_outer.proofs.outers.write_outers_of_size.Goals as goal

pub returns-clause-ok : goal.returns-clause-ok
returns-clause-ok g c =
    writes_as c.write_texts_of_size.result (g.W.Sink.held c.args.sink.now) (g.W.Sink.held c.write_texts_of_size.new.sink)
    (whole_of_size (geometry_of c.args.grid) (laws_of c.args.grid) c.args.limits c.requires.limits c.args.n)
    c.write_texts_of_size.ensures.ok

pub returns-clause-err : goal.returns-clause-err
returns-clause-err g c =
    begins_as c.write_texts_of_size.result (g.W.Sink.held c.args.sink.now) (g.W.Sink.held c.write_texts_of_size.new.sink)
    (begun_of_size (geometry_of c.args.grid) (laws_of c.args.grid) c.args.limits c.requires.limits c.args.n)
    c.write_texts_of_size.ensures.err
