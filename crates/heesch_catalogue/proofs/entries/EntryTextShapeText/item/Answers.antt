use Rattle.heesch_catalogue.proofs.entries.EntryTextShapeText.item.Goals as goal

pub classify-requires-clause-limits : goal.classify-requires-clause-limits
classify-requires-clause-limits g c = c.args.self.now.valid
