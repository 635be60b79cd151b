use Rattle.std.proofs.Common.{rules}
use Rattle.heesch_cert.specs.TrueEntry.{IsUndecided}
use Rattle.heesch_verdict.proofs.Entries.{settled_result}
use Rattle.heesch_verdict.proofs.subject.Subject.settled_for.Goals as goal

pub returns-in_default : goal.returns-in_default
returns-in_default g c =
    let undecided : IsUndecided c.args.verdict = search rules in
    settled_result g.G.Grid.geometry c.args.self.now.limits c.args.self.now.shape.now c.args.verdict c.args.triples.now c.requires.triples undecided c.settle_all.result c.settle_all.ensures
