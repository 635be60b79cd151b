use Rattle.std.proofs.Common.{Vec, Global, ◌+◌, ◌++◌, ◌<◌, ◌≤◌, ◌∷◌, [], ℕ, List, length, refl, sym, ap, ◌∙◌, arith}
use Rattle.std.proofs.lemmas.List.{append-nil, append_assoc}
use Rattle.heesch_tori.specs.Shared.{tabled_sets}
use Rattle.heesch_tori.proofs.Clauses.{sets_many}
use Rattle.heesch_tori.proofs.Passed.{numbers_to, none_passed, one_passed, one_missed, all_passed}
use Rattle.heesch_tori.proofs.later.add_later.Goals as goal
use Rattle.heesch_tori.proofs.later.add_later.Goals.{then-meets+in_ok-push, else-meets}

pub loop-other-init : goal.loop-other-init
loop-other-init c =
    let numbers = c.args.numbers.now.items in
    sym (append-nil numbers) ∙ ap (λ (ns : List ℕ). c.args.numbers.now.items ++ ns) (sym (none_passed (tabled_sets c.args.table.now) c.args.first (c.args.first + 1) refl))

pub loop-other-preserved : goal.loop-other-preserved
loop-other-preserved c =
    let sets = tabled_sets c.args.table.now in
    let many = sets_many c.args.table.now.variables in
    let later : c.args.first < c.loop-other.other = omega (arith, c.loop-other.auto.other) in
    let last : c.loop-other.other ≤ length (tabled_sets c.args.table.now) = omega (arith, many, c.loop-other-test.true, c.count-last.ensures.count) in
    elim c.if-meets.branch [
      | then-meets+in_ok-push w ↦
          ap (λ (v : Vec ℕ Global). v.items) w.numbers-is
          ∙ w.in_ok-push.ensures.items
          ∙ ap (λ (ns : List ℕ). ns ++ c.loop-other.other ∷ []) c.loop-other.invariant
          ∙ append_assoc c.args.numbers.now.items (numbers_to sets c.args.first c.loop-other.other) (c.loop-other.other ∷ [])
          ∙ ap (λ (ns : List ℕ). c.args.numbers.now.items ++ ns) (sym (one_passed sets c.args.first c.loop-other.other later last (sym w.if-meets.true ∙ c.meets.ensures)))
      | else-meets w ↦
          ap (λ (v : Vec ℕ Global). v.items) w.numbers-is
          ∙ c.loop-other.invariant
          ∙ ap (λ (ns : List ℕ). c.args.numbers.now.items ++ ns) (sym (one_missed sets c.args.first c.loop-other.other later last (sym w.if-meets.false ∙ c.meets.ensures)))
    ]

pub returns : goal.returns
returns c =
    let many = sets_many c.args.table.now.variables in
    c.loop-other.invariant ∙ ap (λ (ns : List ℕ). c.args.numbers.now.items ++ ns) (all_passed (tabled_sets c.args.table.now) c.args.first c.loop-other.other (omega (arith, many, c.loop-other-test.false, c.count-last.ensures.count)))
