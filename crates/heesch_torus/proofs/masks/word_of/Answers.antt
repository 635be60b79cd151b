use Rattle.std.proofs.Common.{◌≡◌, ℕ, inl, inr, sym, refl, ◌∙◌}
use Rattle.std.specs.Prelude.{slice_index_or}
use Rattle.std.specs.Int.{bit_at}
use Rattle.std.proofs.lemmas.Nat.Bits.{shr_and_one}
use Rattle.heesch_torus.proofs.Beside.{bit_cases}
use Rattle.heesch_torus.proofs.Words.{bits_more, twice_more}
use Rattle.heesch_torus.proofs.masks.word_of.Goals as goal

pub returns-then-word-point-eq1-clause-none : goal.returns-then-word-point-eq1-clause-none
returns-then-word-point-eq1-clause-none c =
    let point : ℕ = slice_index_or c.args.points.now c.loop-point.point-index 0 in
    twice_more c.args.points.now c.loop-point.point-index point c.loop-point.word c.loop-point-test.true refl (c.requires c.loop-point.point-index 0 c.loop-point-test.true) c.loop-point.invariant
    (sym (shr_and_one c.loop-point.word point) ∙ c.if-word-point-eq1.true)

pub loop-point-preserved : goal.loop-point-preserved
loop-point-preserved c =
    let point : ℕ = slice_index_or c.args.points.now c.loop-point.point-index 0 in
    let free : bit_at c.loop-point.word point ≡ 0 = elim (bit_cases c.loop-point.word point) [
      | inl z ↦ z
      | inr one ↦ absurd (c.if-word-point-eq1.false (shr_and_one c.loop-point.word point ∙ one))
    ] in
    bits_more c.args.points.now c.loop-point.point-index point c.loop-point.word c.loop-point-test.true refl (c.requires c.loop-point.point-index 0 c.loop-point-test.true) c.loop-point.invariant free
