use Rattle.heesch_reader.proofs.Endings.{told_ending}
use Rattle.heesch_reader.proofs.reader.Reader.at_hand.Goals as goal

pub returns : goal.returns
returns c = told_ending c.self.inside.refusal c.self.inside.scan c.args.self.now c.at_hand.result c.self.view_is c.self.invariant c.at_hand.ensures
