use Rattle.std.proofs.Common.{ap, length, arith}
use Rattle.heesch_outer_check.proofs.Judged.{bad_round, good_round}
use Rattle.heesch_outer_check.proofs.checking.judge_round.Goals as goal

pub returns-then-good-len : goal.returns-then-good-len
returns-then-good-len g c =
    let a = c.args in
    let round = c.in_ok-round.round in
    bad_round a.header.now a.before c.leading-good.result a.bytes.now _ round.blocks c.as_slice.result.now c.in_ok-answers.answers.items c.deref.result.now c.in_ok-round.ensures.blocks c.as_slice.ensures
    c.in_ok-answers.ensures.answers c.deref.ensures.value c.leading-good.ensures.first (omega (arith, c.if-good-len.true, c.len.ensures))

pub returns : goal.returns
returns g c =
    let a = c.args in
    let round = c.in_ok-round.round in
    let over = ap length c.as_slice.ensures in
    let heard = ap length c.deref.ensures.value in
    let many = c.in_ok-answers.answers.ok.0 in
    record {
      within = c.in_ok-round.ensures.within;
      most = omega (arith, c.in_ok-round.ensures.most, c.in_ok-answers.ensures.many, c.leading-good.ensures.few, over, heard, many, c.requires.span);
      good = good_round a.header.now a.before c.leading-good.result a.bytes.now _ round.blocks c.as_slice.result.now c.in_ok-answers.answers.items c.deref.result.now c.in_ok-round.ensures.blocks c.as_slice.ensures
          c.in_ok-answers.ensures.answers c.deref.ensures.value c.leading-good.ensures.first (omega (arith, c.leading-good.ensures.few, heard)) (omega (arith, c.if-good-len.false, c.len.ensures, many));
      all = λ less. c.in_ok-round.ensures.all (omega (arith, less, c.in_ok-answers.ensures.many, c.if-good-len.false, c.len.ensures, over, many));
    }
