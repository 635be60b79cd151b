use Rattle.std.proofs.Common.{◌≡◌, ◌+◌, arith, rules, subst, sym}
use Rattle.std.proofs.lemmas.Result.{IfOk-weaker}
use Rattle.heesch_outer_check.specs.Answers.{IsInvalidRecord}
use Rattle.heesch_outer_check.specs.Rounds.{JudgesRound}
use Rattle.heesch_outer_check.proofs.AnswerBehind.{bad_tells, behind_tells, further_within, goes_on}
use Rattle.heesch_outer_check.proofs.checking.check_listed.Goals as goal

pub returns-in-Bad : goal.returns-in-Bad
returns-in-Bad g c =
    let a = c.args in
    let rest = c.from_place-rest.result.now in
    let up = subst (JudgesRound a.header.now c.rounds.count _ rest) c.in-Bad.is c.in_ok-judged.ensures in
    let same : c.from-number.result ≡ c.in-Bad.after = search rules in
    subst (λ n. IsInvalidRecord a.header.now a.input.now (n + 1)) (sym same)
    (bad_tells a.header.now a.input.now rest c.rounds.at c.rounds.count c.in-Bad.after c.rounds.invariant.good c.from_place-rest.ensures up)

pub returns-then-count-until : goal.returns-then-count-until
returns-then-count-until g c =
    let a = c.args in
    let rest = c.from_place-rest.result.now in
    let j = subst (JudgesRound a.header.now c.rounds.count _ rest) c.in-Good.is c.in_ok-judged.ensures in
    let good = goes_on a.header.now a.input.now rest c.rounds.at c.rounds.count _ c.in-Good.after c.in-Good.length c.rounds.invariant.good c.from_place-rest.ensures j in
    IfOk-weaker c.answer_behind.result _ _ (λ checked is. behind_tells a.header.now a.input.now c.from_place.result.now (c.rounds.at + c.in-Good.length) c.in-Good.after checked good c.from_place.ensures is) c.answer_behind.ensures

pub rounds-preserved : goal.rounds-preserved
rounds-preserved g c =
    let a = c.args in
    let rest = c.from_place-rest.result.now in
    let j = subst (JudgesRound a.header.now c.rounds.count _ rest) c.in-Good.is c.in_ok-judged.ensures in
    record {
      within = further_within a.input.now rest c.rounds.at c.in-Good.length c.from_place-rest.ensures j.within c.rounds.invariant.within;
      most = omega (arith, j.most);
      good = goes_on a.header.now a.input.now rest c.rounds.at c.rounds.count _ c.in-Good.after c.in-Good.length c.rounds.invariant.good c.from_place-rest.ensures j;
    }

pub returns : goal.returns
returns g c =
    let a = c.args in
    IfOk-weaker c.answer_behind-2.result _ _ (λ checked is. behind_tells a.header.now a.input.now c.from_place-2.result.now c.rounds.at c.rounds.count checked c.rounds.invariant.good c.from_place-2.ensures is) c.answer_behind-2.ensures
