use Rattle.heesch_shape.proofs.Words.{form_of}
use Rattle.heesch_grow.proofs.growing.is_new.Goals as goal

pub is_next_to-requires-clause-cells : goal.is_next_to-requires-clause-cells
is_next_to-requires-clause-cells g c =
    λ d h. (form_of g.G.Grid.geometry c.args.parent.now c.cells-shape.ensures.shape.polyform).cells d (c.requires d h)

pub is_next_to-requires-clause-within : goal.is_next_to-requires-clause-within
is_next_to-requires-clause-within g c =
    λ d h. c.cells-shape.ensures.shape.within d (c.requires d h)
