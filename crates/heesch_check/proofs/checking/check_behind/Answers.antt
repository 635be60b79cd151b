use Rattle.std.proofs.Common.{ℕ, List, Option, ap, arith, rules, subst}
use Rattle.std.proofs.lemmas.Result.{err_from_is_err_and}
use Rattle.heesch_cert.specs.declared.header.Header.{Header}
use Rattle.heesch_reader.specs.declared.item.Item.{Item}
use Rattle.heesch_io.specs.Input.{ReadsNoFurther}
use Rattle.heesch_check.specs.Reading.{DecideNothing, IsPending, IsReading, JudgesRound}
use Rattle.heesch_check.proofs.Leading.{bounded}
use Rattle.heesch_check.proofs.Behind.{pending_ahead, pending_answers, pending_fits, pending_gathered, pending_more, pending_no_further, pending_smaller, start_pending, start_some}
use Rattle.heesch_check.proofs.checking.check_behind.Given as given
use Rattle.heesch_check.proofs.checking.check_behind.Goals as goal
use Rattle.heesch_check.proofs.checking.check_behind.Goals.{After-round_from, In_ok-answer, In_ok-round}

-- no piece is read beyond a round and the items ahead of the next, however it ends
read_in_time : (g : given.Over) (c : After-round_from g) (first : Option (List ℕ)) → IsReading first (g.R.Source.left c.args.source.now) c.args.items c.args.stream.now c.args.reading → ReadsNoFurther DecideNothing first (g.R.Source.left c.args.source.now) → ReadsNoFurther DecideNothing first (g.R.Source.left c.round_from.new.source)
read_in_time g c first h none =
    pending_no_further first (g.R.Source.left c.rounds.source) (g.R.Source.left c.round_from.new.source) c.args.judge.header c.rounds.at_hand.items c.rounds.stream c.rounds.judge.entries c.most_at_hand-most.result c.rounds.at_hand.reading c.requires.full c.most_at_hand-most.ensures.most (c.rounds.invariant.pending first h) c.round_from.ensures.no_further (c.rounds.invariant.no_further first h none)

-- a round that was gathered is pending, as far as reading came with it
gathered : (g : given.Over) (c : In_ok-round g) (first : Option (List ℕ)) → IsReading first (g.R.Source.left c.args.source.now) c.args.items c.args.stream.now c.args.reading
    → IsPending c.args.judge.header first c.in_ok-round.ensures.gathers.middle c.in_ok-round.round.items c.in_ok-round.ensures.gathers.between c.rounds.judge.entries c.in_ok-round.round.reading
gathered g c first h =
    let round = c.in_ok-round.round in
    let r = c.in_ok-round.ensures.gathers in
    pending_gathered first (g.R.Source.left c.rounds.source) r.middle c.args.judge.header c.rounds.at_hand.items round.items c.rounds.judge.entries r.enough c.rounds.stream r.between c.rounds.at_hand.reading round.reading (c.rounds.invariant.pending first h) r.gathers

-- and then it was judged
judged : (g : given.Over) (c : In_ok-answer g) → JudgesRound c.args.judge.header c.rounds.judge.entries c.judge_audited_round.new.self.entries c.in_ok-round.round.items c.in_ok-round.round.reading c.in_ok-answer.answer
judged g c =
    let judge = c.rounds.judge in
    let entries = c.judge_audited_round.new.self.entries in
    let round = c.in_ok-round.round in
    let same = ap (λ w. w.header) c.rounds.invariant.kept in
    subst (λ (x : Header). JudgesRound x judge.entries entries round.items round.reading c.in_ok-answer.answer) same
    (subst (λ (x : List Item). JudgesRound judge.header judge.entries entries x round.reading c.in_ok-answer.answer) c.as_slice.ensures c.in_ok-answer.ensures.judges)

pub behind_header-requires : goal.behind_header-requires
behind_header-requires g c = start_some c.args.judge.header c.args.items c.requires.begins

pub rounds-init : goal.rounds-init
rounds-init g c = record {
  kept = search rules;
  pending = λ first h. start_pending first (g.R.Source.left c.args.source.now) c.args.judge.header c.args.items c.behind_header.result c.args.stream.now c.args.judge.entries c.args.reading c.behind_header.ensures c.requires.begins c.requires.none h;
  no_further = λ first h none. none;
  later = omega arith;
}

pub round_from-requires-clause-may : goal.round_from-requires-clause-may
round_from-requires-clause-may g c κs within =
    let first = c.requires.underway.0 in
    let p = c.rounds.invariant.pending first c.requires.underway.1 in
    (first, p.found, p.reads)

pub returns-in_err-round-clause-in_time : goal.returns-in_err-round-clause-in_time
returns-in_err-round-clause-in_time g c =
    let exit = err_from_is_err_and c.from_residual.result c.from_residual.ensures.1 in
    record { answers = λ first h. rw exit.1 tt; no_further = read_in_time g (goal.at.returns-in_err-round-clause-in_time g c).After-round_from }

pub judge_audited_round-requires-clause-fit : goal.judge_audited_round-requires-clause-fit
judge_audited_round-requires-clause-fit g c κs within =
    let round = c.in_ok-round.round in
    let r = c.in_ok-round.ensures.gathers in
    let p = gathered g (goal.at.judge_audited_round-requires-clause-fit g c).In_ok-round c.requires.underway.0 c.requires.underway.1 in
    rw c.as_slice.ensures (pending_fits c.requires.underway.0 r.middle c.args.judge.header round.items r.between c.rounds.judge.entries round.reading p)

pub returns-in_err-answer-clause-in_time : goal.returns-in_err-answer-clause-in_time
returns-in_err-answer-clause-in_time g c =
    let exit = err_from_is_err_and c.from_residual-in_err-answer.result c.from_residual-in_err-answer.ensures.1 in
    record { answers = λ first h. rw exit.1 tt; no_further = read_in_time g (goal.at.returns-in_err-answer-clause-in_time g c).After-round_from }

pub returns-in-Some-clause-in_time : goal.returns-in-Some-clause-in_time
returns-in-Some-clause-in_time g c =
    let a = goal.at.returns-in-Some-clause-in_time g c in
    let round = c.in_ok-round.round in
    let r = c.in_ok-round.ensures.gathers in
    record {
      answers = λ first h. pending_answers first r.middle c.args.judge.header round.items c.rounds.judge.entries c.judge_audited_round.new.self.entries r.between round.reading c.in_ok-answer.answer c.in-Some.answer (bounded c.args.judge.header c.args.judge.shapes c.requires.shapes) c.requires.full (gathered g a.In_ok-round first h) (judged g a.In_ok-answer) c.in-Some.is;
      no_further = read_in_time g a.After-round_from;
    }

pub rounds-smaller : goal.rounds-smaller
rounds-smaller g c =
    let left = g.R.Source.left in
    let (first, h) = c.requires.underway in
    let round = c.in_ok-round.round in
    let more = pending_more c.args.judge.header round.items c.rounds.judge.entries c.judge_audited_round.new.self.entries round.reading c.in_ok-answer.answer (judged g (goal.at.rounds-smaller g c).In_ok-answer) c.in_default.is in
    pending_smaller first (left c.rounds.source) (left c.round_from.new.source) c.args.judge.header c.rounds.judge.entries c.rounds.stream c.round_from.new.stream c.rounds.at_hand round more (c.rounds.invariant.pending first h) c.in_ok-round.ensures.gathers

pub rounds-preserved : goal.rounds-preserved
rounds-preserved g c =
    let a = goal.at.rounds-preserved g c in
    let round = c.in_ok-round.round in
    let r = c.in_ok-round.ensures.gathers in
    let bound = bounded c.args.judge.header c.args.judge.shapes c.requires.shapes in
    record {
      kept = search rules;
      pending = λ first h.
          pending_ahead first r.middle (g.R.Source.left c.round_from.new.source) c.args.judge.header round.items round.ahead.items c.rounds.judge.entries c.judge_audited_round.new.self.entries r.left r.between c.round_from.new.stream round.reading round.ahead.reading c.in_ok-answer.answer bound c.requires.full (gathered g a.In_ok-round first h) (judged g a.In_ok-answer) c.in_default.is r.ahead;
      no_further = read_in_time g a.After-round_from;
      later = omega (arith, c.rounds.invariant.later, c.round_from.ensures.later);
    }
