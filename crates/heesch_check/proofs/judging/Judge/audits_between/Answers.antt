use Rattle.std.proofs.Common.{take, arith, subst, sym}
use Rattle.heesch_check.specs.Judging.{AreAudits, ArePlaced}
use Rattle.heesch_check.proofs.Audits.{if_both}
use Rattle.heesch_check.proofs.judging.Judge.audits_between.Goals as goal

pub returns-clause-audits : goal.returns-clause-audits
returns-clause-audits g c =
    let header = c.args.self.now.header in
    let found = c.args.items.now in
    if_both c.audits.result.0
    (λ audits long are.
    let many = audits.ok.0 in
    record {
      few = omega (arith, long, many, c.requires.some);
      room = omega (arith, long, many, c.ranges.until);
      placed = subst (λ n. ArePlaced header c.args.before (take n found)) (omega (arith, long, many)) c.requires.placed;
      are = subst (λ x. AreAudits x header.limits found audits.items) (sym c.requires.grid) are;
    })
    c.audits.ensures.len c.audits.ensures.audits
