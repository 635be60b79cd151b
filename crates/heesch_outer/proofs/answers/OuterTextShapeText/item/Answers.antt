use Rattle.heesch_outer.proofs.answers.OuterTextShapeText.item.Goals as goal

pub classify-requires-clause-limits : goal.classify-requires-clause-limits
classify-requires-clause-limits g c = c.args.self.now.valid

pub outer-requires-clause-limits : goal.outer-requires-clause-limits
outer-requires-clause-limits g c = c.args.self.now.valid
