-- An input that is answered has no fault.
use Rattle.std.proofs.Common.{◌≡◌, ◌≢◌, ◌∙◌, ℕ, List, [], ◌∷◌, ◌++◌, refl, sym, subst, arith, append_assoc, append-nil, inl, inr}
use Rattle.std.specs.Prelude.{Bool, Contains}
use Rattle.heesch_grid.specs.declared.Cell.{Cell}
use Rattle.heesch_grid.specs.Cells.{cell_before, IsCellListOf}
use Rattle.heesch_grid.specs.CoronaFormula.{Variable}
use Rattle.heesch_grid.specs.Geometry.{Geometry, IsGrid}
use Rattle.heesch_grid.specs.Polyform.{IsPolyform, IsCanonicalListOf}
use Rattle.heesch_grid.proofs.CellFacts.{cell_before-irreflexive, cell_before-asymmetric}
use Rattle.heesch_grid.proofs.IsometryFacts.{image_polyform}
use Rattle.heesch_grid.proofs.ListFacts.{same_listing}
use Rattle.heesch_grid.proofs.Pinned.{one_canonical_list}
use Rattle.heesch_grid.proofs.VersionFacts.{formulas_of_versions_are_unique}
use Rattle.heesch_cert.specs.Formulas.{IsCountedFormula, version_number}
use Rattle.heesch_cert.specs.Literals.{literals}
use Rattle.heesch_cert.specs.Proofs.{IsTooLarge}
use Rattle.heesch_cert.proofs.Exactly.{too_large_exactly}
use Rattle.heesch_cnf.specs.declared.literal.Lit.{Lit}
use Rattle.heesch_cnf.specs.declared.version.Version.{Version}
use Rattle.heesch_exchange.specs.declared.model_text.ModelStop.TheVariants.{NotText}
use Rattle.heesch_exchange.specs.Models.{IsModel, IsModelText, ended}
use Rattle.heesch_exchange.specs.Stops.{Stops}
use Rattle.heesch_exchange.proofs.Bytes.{cut_same}
use Rattle.heesch_line.proofs.OneList.{cells_tell}
use Rattle.heesch_shape.specs.Faults.{IsFault}
use Rattle.heesch_exchange.specs.Answers.{HasEndedLine, IsAnswer, HasAnswerFault, IsModelFault, IsUnended}
use Rattle.heesch_exchange.specs.Formulas.{IsFormula, HasFormulaFault}
use Rattle.heesch_given.specs.Given.{IsShapeLine, IsLineFault}
use Rattle.heesch_exchange.proofs.FirstLines.{as_line, not_endless, one_line}
use Rattle.heesch_exchange.specs.Shapes.{HasFormula, IsShapeFault}

-- ---- the first line

-- a line that ends is something
pub ended_some : (input line model : List ℕ) → HasEndedLine input line model → input ≢ []
ended_some input line model ended empty = not_empty line (sym ended.text ∙ empty)
  where
    not_empty : (line : List ℕ) → line ++ 10 ∷ model ≢ []
    not_empty [] is = cc
    not_empty (b ∷ line) is = cc

-- what has a line that ends isn't one without its newline
pub ended_not_unended : (most : ℕ) (input line model : List ℕ) → HasEndedLine input line model → IsUnended most input → ⊥
ended_not_unended most input line model ended u =
    absurd (let same = (cut_same 10 line (10 ∷ model) input [] ended.whole u.whole refl tt (sym ended.text ∙ sym (append-nil input))).1 in cc)

module _ (g : Geometry) (line : List ℕ) where
  -- a line has the shape of one canonical list
  one_shape : (a b : List Cell) → IsShapeLine g line a → IsShapeLine g line b → a ≡ b
  one_shape a b x y =
      let cells : x.cells ≡ y.cells = cells_tell x.cells y.cells x.are_cells y.are_cells (sym x.text ∙ y.text) in
      let p = x.is_canonical in
      let q = y.is_canonical in
      let shapes : p.shape ≡ q.shape =
      same_listing cell_before cell_before-irreflexive cell_before-asymmetric (Contains y.cells) p.shape q.shape (subst (λ (cs : List Cell). IsCellListOf cs p.shape) cells p.same_cells) q.same_cells in
      one_canonical_list g q.shape a b (subst (λ (s : List Cell). IsCanonicalListOf g s a) shapes p.is_canonical) q.is_canonical

  -- the line of a shape has no fault by itself
  pub faultless : (shape : List Cell) (number : ℕ) → IsShapeLine g line shape → IsLineFault g line number → ⊥
  faultless shape number x (inr (none, _)) = none x.cells x.are_cells x.text
  faultless shape number x (inl f) =
      let cells : f.cells ≡ x.cells = cells_tell f.cells x.cells f.are_cells x.are_cells (sym f.text ∙ x.text) in
      x.faultless f.fault (subst (λ (cs : List Cell). IsFault g cs f.fault) cells f.is_fault)

  module _ (law : IsGrid g) (version : Version) (j size : ℕ) (encoded : HasFormula version g j size line) where
    polyform : IsPolyform g encoded.shape
    polyform = let p = encoded.is_shape.is_canonical in image_polyform g law p.shape encoded.shape p.polyform p.is_canonical.is_image

    -- nor one by its formula, where that fits
    pub no_shape_fault : (number : ℕ) → IsShapeFault version g j size line number → ⊥
    no_shape_fault number (inl f) = faultless encoded.shape number encoded.is_shape f
    no_shape_fault number (inr (large, _)) =
        let same : large.shape ≡ encoded.shape = one_shape large.shape encoded.shape large.is_shape encoded.is_shape in
        let too_large : IsTooLarge version g encoded.shape j size = subst (λ (s : List Cell). IsTooLarge version g s j size) same large.too_large in
        let above = (too_large_exactly version g law encoded.shape polyform j encoded.vars encoded.count encoded.clauses encoded.formula size).0 too_large in
        let fits = encoded.fits in
        omega (arith, above, fits)

    -- a formula of the same line has as many variables
    pub one_count : (other : List Cell) (vars : List Variable) (count : ℕ) (clauses : List (List Lit)) → IsShapeLine g line other → IsCountedFormula version g other j vars count clauses → encoded.count ≡ count
    one_count other vars count clauses is_other formula_too =
        let same : other ≡ encoded.shape = one_shape other encoded.shape is_other encoded.is_shape in
        (formulas_of_versions_are_unique _ literals (version_number version) g encoded.shape j encoded.vars vars encoded.count count encoded.clauses clauses law polyform encoded.formula
        (subst (λ (s : List Cell). IsCountedFormula version g s j vars count clauses) same formula_too)).1

-- ---- `formula`

pub formula_has_none : (most : ℕ) (version : Version) (g : Geometry) (j size : ℕ) (input text : List ℕ) (at number : ℕ) → IsGrid g → IsFormula most version g j size input text → HasFormulaFault most version g j size input at number → ⊥
formula_has_none most version g j size input text at number law f (inl (empty, _, _)) = f.some empty
formula_has_none most version g j size input text at number law f (inr (inl (endless, _, _))) = not_endless most input f.line [] f.only f.in_time endless
formula_has_none most version g j size input text at number law f (inr (inr (inl (fault, _)))) =
    let lines = one_line input fault.line fault.behind f.line [] fault.first f.only in
    no_shape_fault g f.line law version j size f.encoded number (subst (λ (l : List ℕ). IsShapeFault version g j size l number) lines.0 fault.fault)
formula_has_none most version g j size input text at number law f (inr (inr (inr (second, _, _)))) =
    second.more (one_line input second.line second.behind f.line [] second.first f.only).1

-- ---- `answer`

-- a model text has no fault
no_model_fault : (count : ℕ) (model : List ℕ) (values : List Bool) (at number : ℕ) → IsModel count model values → IsModelFault count model at number → ⊥
no_model_fault count model values at number m (inl (line, stops, _, _)) = by stops
  where
    by : Stops count model (NotText line) → ⊥
    by (inl e) = e.other m.literals m.text_is
    by (inr o) =
        let h = o.has_line in
        let whole : model ≡ (o.front ++ ended o.line) ++ h.rest = h.reached.text_is ∙ sym (append_assoc o.front (ended o.line) h.rest) in
        o.other (record { more = h.rest; literals = m.literals; text_is = subst (λ (t : List ℕ). IsModelText t m.literals) whole m.text_is })
no_model_fault count model values at number m (inr (line, s, _, _)) =
    let h = s.has_line in
    let whole : model ≡ (s.front ++ ended s.line) ++ h.rest = h.reached.text_is ∙ sym (append_assoc s.front (ended s.line) h.rest) in
    s.stranger (record { more = h.rest; literals = m.literals; text_is = subst (λ (t : List ℕ). IsModelText t m.literals) whole m.text_is; over = m.over })

pub answer_has_none : (most : ℕ) (version : Version) (g : Geometry) (j size : ℕ) (input text : List ℕ) (at number : ℕ) → IsGrid g → IsAnswer most version g j size input text → HasAnswerFault most version g j size input at number → ⊥
answer_has_none most version g j size input text at number law a (inl (empty, _, _)) = ended_some input a.line a.model a.ended empty
answer_has_none most version g j size input text at number law a (inr (inl (endless, _, _))) = not_endless most input a.line a.model (as_line input a.line a.model a.ended) a.in_time endless
answer_has_none most version g j size input text at number law a (inr (inr (inl (unended, _, _)))) = ended_not_unended most input a.line a.model a.ended unended
answer_has_none most version g j size input text at number law a (inr (inr (inr (inl (fault, _))))) =
    let lines = one_line input fault.line fault.model a.line a.model (as_line input fault.line fault.model fault.ended) (as_line input a.line a.model a.ended) in
    no_shape_fault g a.line law version j size a.encoded number (subst (λ (l : List ℕ). IsShapeFault version g j size l number) lines.0 fault.fault)
answer_has_none most version g j size input text at number law a (inr (inr (inr (inr fault)))) =
    let lines = one_line input fault.line fault.model a.line a.model (as_line input fault.line fault.model fault.ended) (as_line input a.line a.model a.ended) in
    let other = fault.encoded in
    let is_shape : IsShapeLine g a.line other.shape = subst (λ (l : List ℕ). IsShapeLine g l other.shape) lines.0 other.is_shape in
    let counts : a.encoded.count ≡ other.count = one_count g a.line law version j size a.encoded other.shape other.vars other.count other.clauses is_shape other.formula in
    no_model_fault a.encoded.count a.model a.values at number a.is_model
    (subst (λ (m : List ℕ). IsModelFault a.encoded.count m at number) lines.1 (subst (λ (n : ℕ). IsModelFault n fault.model at number) (sym counts) fault.fault))
