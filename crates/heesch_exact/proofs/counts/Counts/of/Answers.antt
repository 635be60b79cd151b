use Rattle.std.proofs.Common.{◌-◌, min, take, get_or, sym, ap, ◌∙◌, ℕ}
use Rattle.std.specs.Int.{bit_at}
use Rattle.std.proofs.lemmas.List.Sums.{sum_by_more}
use Rattle.heesch_exact.specs.Branches.{times}
use Rattle.heesch_exact.proofs.Bits.{count_first, count_more, minus_none}
use Rattle.heesch_exact.proofs.counts.Counts.of.Goals as goal

pub loop-number-preserved : goal.loop-number-preserved
loop-number-preserved c =
    let masks = c.args.masks.now in
    let numbers = c.args.numbers.now in
    let i = c.loop-number.number-index in
    let was = c.loop-number.invariant in
    let mask = get_or masks (get_or numbers i 0) 0 in
    let sum = λ (k : ℕ). times masks (take i numbers) k in
    let more = λ (k : ℕ). sym (sum_by_more (λ j. bit_at (get_or masks j 0) k) numbers i 0 c.loop-number-test.true) in
    record {
      one = λ k. count_first c.loop-number.one mask k (sum k) (was.one k) ∙ ap (λ n. min 1 n) (more k);
      two = λ k. count_more c.loop-number.two c.loop-number.one mask k (sum k) 0 (was.two k) (was.one k ∙ ap (λ n. min 1 n) (minus_none (sum k))) ∙ ap (λ n. min 1 (n - 1)) (more k);
      three = λ k. count_more c.loop-number.three c.loop-number.two mask k (sum k) 1 (was.three k) (was.two k) ∙ ap (λ n. min 1 (n - 2)) (more k);
    }
