use Rattle.std.proofs.Common.{◌≡◌, ◌∙◌, ◌+◌, ap, sym, subst, length, arith}
use Rattle.std.specs.Prelude.{IfOk}
use Rattle.std.proofs.lemmas.Result.{IfOk-weaker}
use Rattle.heesch_cert.specs.Proofs.{IsTooLarge}
use Rattle.heesch_cert.specs.declared.entry.Bare.TheVariants.{Same as BareSame}
use Rattle.heesch_cert.specs.declared.entry.Wall.TheVariants.{Refuted as WallRefuted}
use Rattle.heesch_cert.specs.declared.entry.Evidence.TheVariants.{Search}
use Rattle.heesch_cert.specs.TrueEntry.{first_number}
use Rattle.heesch_outer.specs.declared.answer.OuterAnswer.TheVariants.{Same}
use Rattle.heesch_outer.specs.Answer.{IsOuterAnswer, IsSearched}
use Rattle.heesch_outer.specs.Found.{IsNearAnswer}
use Rattle.heesch_outer.specs.Proofs.{LeavesOuterOpen}
use Rattle.heesch_outer.specs.Statements.{TellsNumber}
use Rattle.heesch_outer.proofs.OuterAnswers.{answer_beyond, answer_searched, count_in, fits_in, level_in, near_in, number_in}
use Rattle.heesch_outer.proofs.answering.outer.Goals as goal

pub returns-in-Same-clause-number : goal.returns-in-Same-clause-number
returns-in-Same-clause-number g c =
    let a = c.args in
    let s = c.in-Search in
    let proof = c.in-Refuted.proof in
    let geometry = g.G.Grid.geometry in
    let is = s.is ∙ ap (λ w. Search s.free w s.bare s.wider s.triples) c.in-Refuted.is ∙ ap (λ b. Search s.free (WallRefuted proof) b s.wider s.triples) c.in-Same.is in
    let answer = Same c.in_ok-proof.proof in
    number_in geometry a.limits a.entry.now c.requires.entry s.free proof BareSame s.wider s.triples is g.met.G.Grid.laws c.requires.limits answer
    ((answer_beyond geometry a.limits a.entry.now c.requires.entry s.free proof BareSame s.wider s.triples is answer).1 (ap Same c.in_ok-proof.ensures))

pub search_outer-requires : goal.search_outer-requires
search_outer-requires g c =
    let a = c.args in
    let s = c.in-Search in
    let proof = c.in-Refuted.proof in
    let geometry = g.G.Grid.geometry in
    let is = s.is ∙ ap (λ w. Search s.free w s.bare s.wider s.triples) c.in-Refuted.is in
    let level = level_in geometry a.limits a.entry.now c.requires.entry s.free proof s.bare s.wider s.triples is in
    let most = c.requires.limits.levels_range.1 in
    let count : c.first_number.result ≡ length s.free.layers = c.first_number.ensures ∙ sym (count_in geometry a.limits a.entry.now c.requires.entry s.free proof s.bare s.wider s.triples is) in
    let shape = c.shape_of-shape.ensures.same ∙ c.as_slice.ensures in
    record {
      limits = c.requires.limits;
      level = omega (arith, level, most, count);
      canonical = c.shape_of-shape.ensures.canonical.canonical;
      fits = subst (λ cells. ¬ IsTooLarge a.limits.version geometry cells (c.first_number.result + 1) a.limits.size) (sym shape)
          (subst (λ n. ¬ IsTooLarge a.limits.version geometry a.entry.now.cells (n + 1) a.limits.size) (sym count) (fits_in geometry a.limits a.entry.now c.requires.entry s.free proof s.bare s.wider s.triples is g.met.G.Grid.laws));
    }

pub returns : goal.returns
returns g c =
    let a = c.args in
    let s = c.in-Search in
    let proof = c.in-Refuted.proof in
    let geometry = g.G.Grid.geometry in
    let law = g.met.G.Grid.laws in
    let is = s.is ∙ ap (λ w. Search s.free w s.bare s.wider s.triples) c.in-Refuted.is in
    let count : c.first_number.result ≡ length s.free.layers = c.first_number.ensures ∙ sym (count_in geometry a.limits a.entry.now c.requires.entry s.free proof s.bare s.wider s.triples is) in
    let shape = c.shape_of-shape.ensures.same ∙ c.as_slice.ensures in
    let both = answer_searched geometry a.limits a.entry.now c.requires.entry s.free proof s.bare s.wider s.triples is c.in_default-bare.not-Same in
    let found : IfOk c.search_outer.result (IsSearched geometry a.limits a.entry.now.cells (length s.free.layers)) =
    subst (λ n. IfOk c.search_outer.result (IsSearched geometry a.limits a.entry.now.cells n)) count
    (subst (λ cells. IfOk c.search_outer.result (IsSearched geometry a.limits cells c.first_number.result)) shape c.search_outer.ensures.searched) in
    record {
      answer = IfOk-weaker c.search_outer.result (IsSearched geometry a.limits a.entry.now.cells (length s.free.layers)) (IsOuterAnswer geometry a.limits a.entry.now) (λ answer x. (both answer).1 x) found;
      near = IfOk-weaker c.search_outer.result (IsSearched geometry a.limits a.entry.now.cells (length s.free.layers)) IsNearAnswer
          (near_in geometry a.limits a.entry.now c.requires.entry s.free proof s.bare s.wider s.triples is law c.requires.limits) found;
      number = IfOk-weaker c.search_outer.result (IsSearched geometry a.limits a.entry.now.cells (length s.free.layers)) (TellsNumber geometry a.entry.now.cells (first_number a.entry.now.verdict))
          (λ answer x. number_in geometry a.limits a.entry.now c.requires.entry s.free proof s.bare s.wider s.triples is law c.requires.limits answer ((both answer).1 x)) found;
      left_open = subst (λ n. IfOk c.search_outer.result (LeavesOuterOpen geometry a.limits a.entry.now.cells n)) c.first_number.ensures
          (subst (λ cells. IfOk c.search_outer.result (LeavesOuterOpen geometry a.limits cells c.first_number.result)) shape c.search_outer.ensures.left_open);
    }
