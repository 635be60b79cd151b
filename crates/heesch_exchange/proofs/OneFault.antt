-- An input has one first fault at most.
use Rattle.std.proofs.Common.{◌≡◌, ◌∙◌, ◌⊎◌, ℕ, List, [], ◌∷◌, ◌++◌, length, refl, sym, ap, subst, arith, inl, inr}
use Rattle.heesch_grid.specs.declared.Cell.{Cell}
use Rattle.heesch_grid.specs.Geometry.{Geometry, IsGrid}
use Rattle.heesch_cnf.specs.declared.version.Version.{Version}
use Rattle.heesch_given.proofs.ShapeFaults.{one_number}
use Rattle.heesch_given.specs.Given.{IsLineFault, IsShapeLine}
use Rattle.heesch_line.proofs.OneList.{cells_tell}
use Rattle.heesch_shape.specs.Faults.{IsFault}
use Rattle.heesch_exchange.specs.Answers.{HasAnswerFault, HasEndedShapeFault, HasModelFault, IsModelFault, IsUnended}
use Rattle.heesch_exchange.specs.Formulas.{HasFormulaFault, HasSecondLine, HasShapeFault}
use Rattle.heesch_exchange.specs.Shapes.{IsEndless, IsShapeFault}
use Rattle.heesch_exchange.proofs.FirstLines.{as_line, not_endless, one_line}
use Rattle.heesch_exchange.proofs.NoFault.{ended_not_unended, ended_some, faultless, no_shape_fault, one_count}
use Rattle.heesch_exchange.proofs.OneModelFault.{one_model_fault}

-- ---- the line of the shape

-- a line has one fault by itself
one_line_fault : (g : Geometry) (line : List ℕ) (number other : ℕ) → IsLineFault g line number → IsLineFault g line other → number ≡ other
one_line_fault g line number other (inl f) (inl h) =
    let same : h.cells ≡ f.cells = cells_tell h.cells f.cells h.are_cells f.are_cells (sym h.text ∙ f.text) in
    f.number_is ∙ one_number g f.cells f.fault h.fault f.is_fault (subst (λ (cells : List Cell). IsFault g cells h.fault) same h.is_fault) ∙ sym h.number_is
one_line_fault g line number other (inl f) (inr none) = absurd (none.0 f.cells f.are_cells f.text)
one_line_fault g line number other (inr none) (inl h) = absurd (none.0 h.cells h.are_cells h.text)
one_line_fault g line number other (inr none) (inr too) = none.1 ∙ sym too.1

-- a line has one fault, by itself or by its formula
one_shape_fault : (version : Version) (g : Geometry) (j size : ℕ) (line : List ℕ) (number other : ℕ) → IsShapeFault version g j size line number → IsShapeFault version g j size line other → number ≡ other
one_shape_fault version g j size line number other (inl f) (inl h) = one_line_fault g line number other f h
one_shape_fault version g j size line number other (inl f) (inr (large, _)) = absurd (faultless g line large.shape number large.is_shape f)
one_shape_fault version g j size line number other (inr (large, _)) (inl h) = absurd (faultless g line large.shape other large.is_shape h)
one_shape_fault version g j size line number other (inr (_, is)) (inr (_, too)) = is ∙ sym too

-- ---- `formula`

module _ (most : ℕ) (version : Version) (g : Geometry) (j size : ℕ) (input : List ℕ) (law : IsGrid g) where
  empty_not_second : input ≡ [] → HasSecondLine most version g j size input → ⊥
  empty_not_second empty s = by s.first.text
    where
      by : (input ≡ s.line ++ 10 ∷ s.behind) ⊎ ((input ≡ s.line) × (s.behind ≡ [])) → ⊥
      by (inl ends) = ended_some input s.line s.behind (record { whole = s.first.whole; text = ends }) empty
      by (inr (_, none)) = s.more none

  empty_not_endless : input ≡ [] → IsEndless most input → ⊥
  empty_not_endless empty e =
      let none : length input ≡ 0 = ap length empty in
      e.late (inr (omega (arith, none)))

  shape_not_second : (number : ℕ) → HasShapeFault most version g j size input number → HasSecondLine most version g j size input → ⊥
  shape_not_second number f s =
      let lines = one_line input f.line f.behind s.line s.behind f.first s.first in
      no_shape_fault g s.line law version j size s.encoded number (subst (λ (l : List ℕ). IsShapeFault version g j size l number) lines.0 f.fault)

  same_shape_fault : (number other : ℕ) → HasShapeFault most version g j size input number → HasShapeFault most version g j size input other → number ≡ other
  same_shape_fault number other f h =
      let lines = one_line input f.line f.behind h.line h.behind f.first h.first in
      one_shape_fault version g j size h.line number other (subst (λ (l : List ℕ). IsShapeFault version g j size l number) lines.0 f.fault) h.fault

  shape_not_endless : (number : ℕ) → HasShapeFault most version g j size input number → IsEndless most input → ⊥
  shape_not_endless number f e = not_endless most input f.line f.behind f.first f.in_time e

  second_not_endless : HasSecondLine most version g j size input → IsEndless most input → ⊥
  second_not_endless s e = not_endless most input s.line s.behind s.first s.in_time e

  pub one_formula_fault : (line number at other : ℕ) → HasFormulaFault most version g j size input line number → HasFormulaFault most version g j size input at other → (line ≡ at) × (number ≡ other)
  one_formula_fault line number at other (inl (_, a, n)) (inl (_, b, m)) = (a ∙ sym b, n ∙ sym m)
  one_formula_fault line number at other (inl (empty, _, _)) (inr (inl (e, _, _))) = absurd (empty_not_endless empty e)
  one_formula_fault line number at other (inl (empty, _, _)) (inr (inr (inl (f, _)))) = absurd (f.some empty)
  one_formula_fault line number at other (inl (empty, _, _)) (inr (inr (inr (s, _, _)))) = absurd (empty_not_second empty s)
  one_formula_fault line number at other (inr (inl (e, _, _))) (inl (empty, _, _)) = absurd (empty_not_endless empty e)
  one_formula_fault line number at other (inr (inl (_, a, n))) (inr (inl (_, b, m))) = (a ∙ sym b, n ∙ sym m)
  one_formula_fault line number at other (inr (inl (e, _, _))) (inr (inr (inl (f, _)))) = absurd (shape_not_endless other f e)
  one_formula_fault line number at other (inr (inl (e, _, _))) (inr (inr (inr (s, _, _)))) = absurd (second_not_endless s e)
  one_formula_fault line number at other (inr (inr (inl (f, _)))) (inl (empty, _, _)) = absurd (f.some empty)
  one_formula_fault line number at other (inr (inr (inl (f, _)))) (inr (inl (e, _, _))) = absurd (shape_not_endless number f e)
  one_formula_fault line number at other (inr (inr (inl (f, a)))) (inr (inr (inl (h, b)))) = (a ∙ sym b, same_shape_fault number other f h)
  one_formula_fault line number at other (inr (inr (inl (f, _)))) (inr (inr (inr (s, _, _)))) = absurd (shape_not_second number f s)
  one_formula_fault line number at other (inr (inr (inr (s, _, _)))) (inl (empty, _, _)) = absurd (empty_not_second empty s)
  one_formula_fault line number at other (inr (inr (inr (s, _, _)))) (inr (inl (e, _, _))) = absurd (second_not_endless s e)
  one_formula_fault line number at other (inr (inr (inr (s, _, _)))) (inr (inr (inl (f, _)))) = absurd (shape_not_second other f s)
  one_formula_fault line number at other (inr (inr (inr (_, a, n)))) (inr (inr (inr (_, b, m)))) = (a ∙ sym b, n ∙ sym m)

  -- ---- `answer`

  ended_not_endless : (number : ℕ) → HasEndedShapeFault most version g j size input number → IsEndless most input → ⊥
  ended_not_endless number f e = not_endless most input f.line f.model (as_line input f.line f.model f.ended) f.in_time e

  model_not_endless : (at number : ℕ) → HasModelFault most version g j size input at number → IsEndless most input → ⊥
  model_not_endless at number f e = not_endless most input f.line f.model (as_line input f.line f.model f.ended) f.in_time e

  unended_not_endless : IsUnended most input → IsEndless most input → ⊥
  unended_not_endless u e = not_endless most input input [] (record { whole = u.whole; text = inr (refl, refl) }) u.in_time e

  same_ended_fault : (number other : ℕ) → HasEndedShapeFault most version g j size input number → HasEndedShapeFault most version g j size input other → number ≡ other
  same_ended_fault number other f h =
      let lines = one_line input f.line f.model h.line h.model (as_line input f.line f.model f.ended) (as_line input h.line h.model h.ended) in
      one_shape_fault version g j size h.line number other (subst (λ (l : List ℕ). IsShapeFault version g j size l number) lines.0 f.fault) h.fault

  shape_not_model : (number at other : ℕ) → HasEndedShapeFault most version g j size input number → HasModelFault most version g j size input at other → ⊥
  shape_not_model number at other f m =
      let lines = one_line input f.line f.model m.line m.model (as_line input f.line f.model f.ended) (as_line input m.line m.model m.ended) in
      no_shape_fault g m.line law version j size m.encoded number (subst (λ (l : List ℕ). IsShapeFault version g j size l number) lines.0 f.fault)

  same_model_fault : (line number at other : ℕ) → HasModelFault most version g j size input line number → HasModelFault most version g j size input at other → (line ≡ at) × (number ≡ other)
  same_model_fault line number at other f m =
      let lines = one_line input f.line f.model m.line m.model (as_line input f.line f.model f.ended) (as_line input m.line m.model m.ended) in
      let e = f.encoded in
      let is_shape : IsShapeLine g m.line e.shape = subst (λ (l : List ℕ). IsShapeLine g l e.shape) lines.0 e.is_shape in
      let counts : m.encoded.count ≡ e.count = one_count g m.line law version j size m.encoded e.shape e.vars e.count e.clauses is_shape e.formula in
      one_model_fault m.encoded.count m.model line number at other
      (subst (λ (t : List ℕ). IsModelFault m.encoded.count t line number) lines.1 (subst (λ (n : ℕ). IsModelFault n f.model line number) (sym counts) f.fault)) m.fault

  pub one_answer_fault : (line number at other : ℕ) → HasAnswerFault most version g j size input line number → HasAnswerFault most version g j size input at other → (line ≡ at) × (number ≡ other)
  one_answer_fault line number at other (inl (_, a, n)) (inl (_, b, m)) = (a ∙ sym b, n ∙ sym m)
  one_answer_fault line number at other (inl (empty, _, _)) (inr (inl (e, _, _))) = absurd (empty_not_endless empty e)
  one_answer_fault line number at other (inl (empty, _, _)) (inr (inr (inl (u, _, _)))) = absurd (u.some empty)
  one_answer_fault line number at other (inl (empty, _, _)) (inr (inr (inr (inl (f, _))))) = absurd (ended_some input f.line f.model f.ended empty)
  one_answer_fault line number at other (inl (empty, _, _)) (inr (inr (inr (inr m)))) = absurd (ended_some input m.line m.model m.ended empty)
  one_answer_fault line number at other (inr (inl (e, _, _))) (inl (empty, _, _)) = absurd (empty_not_endless empty e)
  one_answer_fault line number at other (inr (inl (_, a, n))) (inr (inl (_, b, m))) = (a ∙ sym b, n ∙ sym m)
  one_answer_fault line number at other (inr (inl (e, _, _))) (inr (inr (inl (u, _, _)))) = absurd (unended_not_endless u e)
  one_answer_fault line number at other (inr (inl (e, _, _))) (inr (inr (inr (inl (f, _))))) = absurd (ended_not_endless other f e)
  one_answer_fault line number at other (inr (inl (e, _, _))) (inr (inr (inr (inr m)))) = absurd (model_not_endless at other m e)
  one_answer_fault line number at other (inr (inr (inl (u, _, _)))) (inl (empty, _, _)) = absurd (u.some empty)
  one_answer_fault line number at other (inr (inr (inl (u, _, _)))) (inr (inl (e, _, _))) = absurd (unended_not_endless u e)
  one_answer_fault line number at other (inr (inr (inl (_, a, n)))) (inr (inr (inl (_, b, m)))) = (a ∙ sym b, n ∙ sym m)
  one_answer_fault line number at other (inr (inr (inl (u, _, _)))) (inr (inr (inr (inl (f, _))))) = absurd (ended_not_unended most input f.line f.model f.ended u)
  one_answer_fault line number at other (inr (inr (inl (u, _, _)))) (inr (inr (inr (inr m)))) = absurd (ended_not_unended most input m.line m.model m.ended u)
  one_answer_fault line number at other (inr (inr (inr (inl (f, _))))) (inl (empty, _, _)) = absurd (ended_some input f.line f.model f.ended empty)
  one_answer_fault line number at other (inr (inr (inr (inl (f, _))))) (inr (inl (e, _, _))) = absurd (ended_not_endless number f e)
  one_answer_fault line number at other (inr (inr (inr (inl (f, _))))) (inr (inr (inl (u, _, _)))) = absurd (ended_not_unended most input f.line f.model f.ended u)
  one_answer_fault line number at other (inr (inr (inr (inl (f, a))))) (inr (inr (inr (inl (h, b))))) = (a ∙ sym b, same_ended_fault number other f h)
  one_answer_fault line number at other (inr (inr (inr (inl (f, _))))) (inr (inr (inr (inr m)))) = absurd (shape_not_model number at other f m)
  one_answer_fault line number at other (inr (inr (inr (inr m)))) (inl (empty, _, _)) = absurd (ended_some input m.line m.model m.ended empty)
  one_answer_fault line number at other (inr (inr (inr (inr m)))) (inr (inl (e, _, _))) = absurd (model_not_endless line number m e)
  one_answer_fault line number at other (inr (inr (inr (inr m)))) (inr (inr (inl (u, _, _)))) = absurd (ended_not_unended most input m.line m.model m.ended u)
  one_answer_fault line number at other (inr (inr (inr (inr m)))) (inr (inr (inr (inl (f, _))))) = absurd (shape_not_model other line number f m)
  one_answer_fault line number at other (inr (inr (inr (inr f)))) (inr (inr (inr (inr m)))) = same_model_fault line number at other f m
