use Rattle.std.proofs.Common.{◌≡◌, ◌∙◌, ◌+◌, ◌-◌, List, None, ap, drop, inl, length, refl, rules, subst, sym, take, true}
use Rattle.std.specs.Prelude.{is_some}
use Rattle.std.proofs.lemmas.List.{take_all}
use Rattle.heesch_reader.specs.declared.item.Item.{Item}
use Rattle.heesch_check.specs.Judging.{AreAllGood}
use Rattle.heesch_check.specs.Reading.{IsAnswerOf}
use Rattle.heesch_check.proofs.Audits.{round_stops, round_goes_on}
use Rattle.heesch_check.proofs.Batches.{stops_loop, loop_goes_on, round_read, round_stopped}
use Rattle.heesch_check.proofs.judging.Judge.judge_audited_round.Goals as goal

pub returns-then-good-audits-clause-judges : goal.returns-then-good-audits-clause-judges
returns-then-good-audits-clause-judges g c =
    let self = c.args.self.now in
    inl (round_stops self.header self.entries c.leading-good.result c.args.items.now c.args.audits.now c.next_is_invalid.result c.requires.audits c.requires.fit c.leading-good.ensures.first c.if-good-audits.true c.next_is_invalid.ensures)

pub returns-then-is_some-clause-judges : goal.returns-then-is_some-clause-judges
returns-then-is_some-clause-judges g c =
    let self = c.args.self.now in
    let loop = c.loop-item in
    let after = c.judge.new.self.entries in
    let others : List Item = take (length c.args.items.now - c.leading-good.result) (drop c.leading-good.result c.args.items.now) in
    let answer = c.in_ok-answer.answer in
    let some : is_some answer ≡ true = sym c.is_some.ensures ∙ c.if-is_some.true in
    round_stopped self.header self.entries after c.args.items.now c.args.reading answer some
    (round_goes_on self.header self.entries c.leading-good.result after c.args.items.now c.args.audits.now answer c.requires.audits c.requires.fit c.leading-good.ensures.first
    (stops_loop self.header loop.self.header (self.entries + c.leading-good.result) loop.self.entries after loop.item-index others c.item-item.result answer
    (ap (λ w. w.header) loop.invariant.kept) loop.invariant.good c.loop-item-test.true c.item-item.is c.in_ok-answer.ensures.judges some))

pub loop-item-preserved : goal.loop-item-preserved
loop-item-preserved g c =
    let self = c.args.self.now in
    let loop = c.loop-item in
    let others : List Item = take (length c.args.items.now - c.leading-good.result) (drop c.leading-good.result c.args.items.now) in
    record {
      kept = search rules;
      good = loop_goes_on self.header loop.self.header (self.entries + c.leading-good.result) loop.self.entries c.judge.new.self.entries loop.item-index others c.item-item.result c.in_ok-answer.answer
          (ap (λ w. w.header) loop.invariant.kept) loop.invariant.good c.loop-item-test.true c.item-item.is c.in_ok-answer.ensures.judges (sym c.is_some.ensures ∙ c.if-is_some.false);
    }

pub returns-clause-judges : goal.returns-clause-judges
returns-clause-judges g c =
    let self = c.args.self.now in
    let loop = c.loop-item in
    let after = loop.self.entries in
    let others : List Item = take (length c.args.items.now - c.leading-good.result) (drop c.leading-good.result c.args.items.now) in
    let good = subst (AreAllGood self.header (self.entries + c.leading-good.result) after) (take_all loop.item-index others c.loop-item-test.false) loop.invariant.good in
    let read = subst (λ x. IsAnswerOf x after c.args.reading c.answer.result) (ap (λ w. w.header) loop.invariant.kept) c.answer.ensures in
    round_read self.header self.entries after c.args.items.now c.args.reading None c.answer.result refl
    (round_goes_on self.header self.entries c.leading-good.result after c.args.items.now c.args.audits.now None c.requires.audits c.requires.fit c.leading-good.ensures.first good) read
