use Rattle.std.proofs.Common.{◌≡◌, ◌∙◌, ap, sym, subst, length, arith}
use Rattle.std.specs.Prelude.{IfOk, IsTrue, ◌↔◌}
use Rattle.std.proofs.lemmas.Result.{IfOk-weaker}
use Rattle.heesch_cert.specs.declared.entry.Evidence.TheVariants.{Search}
use Rattle.heesch_logs.proofs.Equal.{back, through}
use Rattle.heesch_outer.specs.Answer.{IsSearched}
use Rattle.heesch_outer.proofs.OuterAnswers.{answer_searched, count_in, level_in}
use Rattle.heesch_outer.proofs.checking.check_outer.Goals as goal

pub is_searched-requires : goal.is_searched-requires
is_searched-requires g c =
    let a = c.args in
    let s = c.in-Search in
    let proof = c.in-Refuted.proof in
    let geometry = g.G.Grid.geometry in
    let is = s.is ∙ ap (λ w. Search s.free w s.bare s.wider s.triples) c.in-Refuted.is in
    let level = level_in geometry a.limits a.entry.now c.requires.entry s.free proof s.bare s.wider s.triples is in
    let most = c.requires.limits.levels_range.1 in
    let count : c.first_number.result ≡ length s.free.layers = c.first_number.ensures ∙ sym (count_in geometry a.limits a.entry.now c.requires.entry s.free proof s.bare s.wider s.triples is) in
    record {
      shape = c.shape_of-shape.ensures.canonical;
      level = omega (arith, level, most, count);
      limits = c.requires.limits;
      near = c.requires.near;
    }

pub returns : goal.returns
returns g c =
    let a = c.args in
    let s = c.in-Search in
    let proof = c.in-Refuted.proof in
    let geometry = g.G.Grid.geometry in
    let is = s.is ∙ ap (λ w. Search s.free w s.bare s.wider s.triples) c.in-Refuted.is in
    let count : c.first_number.result ≡ length s.free.layers = c.first_number.ensures ∙ sym (count_in geometry a.limits a.entry.now c.requires.entry s.free proof s.bare s.wider s.triples is) in
    let shape = c.shape_of-shape.ensures.same ∙ c.as_slice.ensures in
    let both = answer_searched geometry a.limits a.entry.now c.requires.entry s.free proof s.bare s.wider s.triples is c.in_default-bare.not-Same a.answer.now in
    IfOk-weaker c.is_searched.result _ _ (λ yes h. through h (back both))
    (subst (λ n. IfOk c.is_searched.result (λ yes. IsTrue yes ↔ IsSearched geometry a.limits a.entry.now.cells n a.answer.now)) count
    (subst (λ cells. IfOk c.is_searched.result (λ yes. IsTrue yes ↔ IsSearched geometry a.limits cells c.first_number.result a.answer.now)) shape c.is_searched.ensures))
