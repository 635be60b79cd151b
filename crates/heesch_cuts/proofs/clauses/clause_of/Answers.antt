use Rattle.std.proofs.Common.{◌≡◌, ℕ, ap, ◌∙◌}
use Rattle.std.specs.Prelude.{filter_map, List}
use Rattle.std.specs.List.{range_with_len, list_any}
use Rattle.std.proofs.lemmas.Result.{IfOk-weaker}
use Rattle.heesch_cnf.specs.declared.literal.Lit.{Lit}
use Rattle.heesch_cert.specs.Cuts.{cut_clause}
use Rattle.heesch_place.specs.Universes.{covering}
use Rattle.heesch_cuts.specs.Marks.{is_marked, is_in, literal_of}
use Rattle.heesch_cuts.proofs.CutClause.{clause_is}
use Rattle.heesch_cuts.proofs.clauses.clause_of.Goals as goal

pub returns : goal.returns
returns g c =
    let vars = c.args.universe.now.vars in
    let cut = c.args.cut.now in
    let border = c.deref.result.now in
    let fillers = c.deref-2.result.now in
    let b : (n : ℕ) → is_marked border n ≡ is_in cut.border n = λ n. ap (λ xs. is_marked xs n) c.deref.ensures.value ∙ c.in_ok-border.ensures.marks n ∙ ap (λ xs. is_in xs n) c.as_slice.ensures in
    let f : (n : ℕ) → is_marked fillers n ≡ list_any (λ c. is_in (covering vars cut.level c) n) cut.hole = λ n. ap (λ xs. is_marked xs n) c.deref-2.ensures.value ∙ c.in_ok-fillers.ensures.marks n ∙ ap (list_any (λ c. is_in (covering vars cut.level c) n)) c.as_slice-2.ensures in
    let walk : ℕ → List Lit = λ count. filter_map (λ n. literal_of (is_marked border n) (is_marked fillers n) n) (range_with_len 1 count) in
    IfOk-weaker c.literals.result (λ clause. clause ≡ walk c.count-count.result) (λ clause. clause ≡ cut_clause vars cut)
    (λ clause e. e ∙ ap walk c.count-count.ensures.count ∙ clause_is vars cut border fillers b f)
    c.literals.ensures
