use Rattle.std.proofs.Common.{◌+◌, ◌-◌, ◌<◌, ◌∷◌, ◌++◌, [], List, ℕ, map, length, get_or, take, sym, ap, ◌∙◌, arith}
use Rattle.std.specs.List.{enumerate_from}
use Rattle.std.proofs.lemmas.List.{take_all, take_more, map-append}
use Rattle.std.proofs.lemmas.List.FromFn.{length-enumerate_from}
use Rattle.heesch_grid.specs.CoronaFormula.{Variable}
use Rattle.heesch_encode.specs.Families.{covering_at}
use Rattle.heesch_encode.proofs.Numbered.{no_entry}
use Rattle.heesch_encode.proofs.Pieces.{some_at, entry_read}
use Rattle.heesch_numbers.proofs.counts.counts_of.Goals as goal

pub loop-i-preserved : goal.loop-i-preserved
loop-i-preserved g c = λ around gives.
    let vars = c.args.plan.now.universe.now.vars in
    let entries : List (ℕ × Variable) = enumerate_from 1 vars in
    let i = c.loop-i.i in
    let less : i < length vars = omega (arith, c.loop-i-test.true, c.count-i-end.ensures.count) in
    let long = length-enumerate_from 1 vars in
    let f = λ (x : ℕ × Variable). length (covering_at around c.args.plan.now.shape.now c.args.plan.now.level vars x) in
    let count = c.count_of-count.ensures around (get_or vars (i + 1 - 1) no_entry.1) gives (some_at vars (i + 1) (omega arith) (omega (arith, less))) in
    c.in_ok-push.ensures.ok ∙ ap (λ ns. ns ++ c.count_of-count.result ∷ []) (c.loop-i.invariant around gives)
    ∙ ap (λ n. map f (take i entries) ++ n ∷ []) (count ∙ ap f (sym (entry_read vars i less)))
    ∙ sym (ap (map f) (take_more entries i no_entry (omega (arith, long, less))) ∙ map-append f (take i entries) (get_or entries i no_entry ∷ []))

pub returns : goal.returns
returns g c = λ around gives.
    let u = c.args.plan.now.universe.now in
    let entries : List (ℕ × Variable) = enumerate_from 1 u.vars in
    let long = length-enumerate_from 1 u.vars in
    c.loop-i.invariant around gives
    ∙ ap (map (λ (x : ℕ × Variable). length (covering_at around c.args.plan.now.shape.now c.args.plan.now.level u.vars x))) (take_all c.loop-i.i entries (omega (arith, long, c.loop-i-test.false, c.count-i-end.ensures.count)))
    ∙ (λ k. map (λ (x : ℕ × Variable). length (covering_at around (sym c.requires.shape_is k) (sym c.requires.level_is k) u.vars x)) entries)
