use Rattle.std.proofs.Common.{◌≡◌, arith}
use Rattle.heesch_audit.proofs.Portions.{parts_answer}
use Rattle.heesch_audit.proofs.audited.Audited.are_parts_due.Goals as goal

pub returns : goal.returns
returns g c =
    let first : c.args.portion ≡ 0 = omega arith in
    let answer = parts_answer g.G.Grid.geometry c.args.self.now.limits c.args.self.now.entry.now c.requires.canonical c.in_ok-failing.failing c.is_none.result c.is_none.ensures c.in_ok-failing.ensures in
    ((λ t zero. answer.0 t), (λ parts. answer.1 (parts first)))
