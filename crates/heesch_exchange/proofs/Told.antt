-- What is told of an input, from the steps.
use Rattle.std.proofs.Common.{◌≡◌, ◌≢◌, ◌∙◌, ◌⊎◌, ◌↔◌, ℕ, ◌+◌, ◌≤◌, Bool, true, false, List, [], ◌∷◌, ◌++◌, length, length-append, refl, ap, sym, subst, arith, inl, inr, eqb-true}
use Rattle.std.specs.Prelude.{◌==◌, Result, Ok, Err, IfErr}
use Rattle.std.specs.List.{AllZip, range_with_len}
use Rattle.std.specs.Result.{IsErrAnd}
use Rattle.std.proofs.lemmas.List.{length-map}
use Rattle.std.proofs.lemmas.List.FromFn.{length-range_with_len}
use Rattle.std.proofs.lemmas.Slice.Zip.{AllZip-long}
use Rattle.heesch_grid.specs.declared.Cell.{Cell}
use Rattle.heesch_grid.specs.declared.isometries.Iso.{Iso}
use Rattle.heesch_grid.specs.Clauses.{formula_size}
use Rattle.heesch_grid.specs.Corona.{AreCoronas, HasCoronas}
use Rattle.heesch_grid.specs.CoronaFormula.{Variable}
use Rattle.heesch_grid.specs.Geometry.{Geometry}
use Rattle.heesch_grid.specs.Placement.{IsLeastIsometry}
use Rattle.heesch_grid.specs.Statements.{chosen_layer, chosen_layers}
use Rattle.heesch_cert.specs.Formulas.{IsCountedFormula}
use Rattle.heesch_cert.specs.Proofs.{IsTooLarge}
use Rattle.heesch_cert.specs.TrueEntry.{Spells}
use Rattle.heesch_cnf.specs.declared.literal.Lit.{Lit}
use Rattle.heesch_cnf.specs.declared.version.Version.{Version}
use Rattle.heesch_cnf.specs.Clauses.{Satisfies, assignment_of}
use Rattle.heesch_exchange.specs.declared.model_text.ModelStop.TheVariants.{NotText, Stranger}
use Rattle.heesch_exchange.specs.ClauseTexts.{clause_text}
use Rattle.heesch_exchange.specs.Models.{IsModel, ended, text_of}
use Rattle.heesch_exchange.specs.Stops.{Stops, IsReached}
use Rattle.heesch_line.specs.Forms.{HasNoNewline}
use Rattle.heesch_line.specs.declared.stops.LineStop.{LineStop}
use Rattle.heesch_line.specs.declared.stops.LineStop.TheVariants.{Fault, NoMemory}
use Rattle.heesch_place.specs.Universes.{Levels}
use Rattle.heesch_text.specs.Catalogue.{coronas_text}
use Rattle.heesch_exchange.specs.Answers.{HasEndedLine, IsAnswer, IsAnswerStop, IsModelStop, TellsCoronas, TellsFalse}
use Rattle.heesch_exchange.specs.Formulas.{IsFormula, IsFormulaStop, HasSecondLine}
use Rattle.heesch_given.specs.Given.{IsShapeLine}
use Rattle.heesch_exchange.specs.Shapes.{HasFirstLine, HasFormula, IsInTime, IsLineStop, IsShapeStop, EncodesLine}

-- ---- empty texts

pub not_empty : (xs : List ℕ) (b : Bool) → b ≡ (length xs == 0) → b ≡ false → xs ≢ []
not_empty [] b is f = λ _. let t : b ≡ true = is in cc
not_empty (x ∷ xs) b is f = λ e. cc

pub empty_is : (xs : List ℕ) (b : Bool) → b ≡ (length xs == 0) → b ≡ true → xs ≡ []
empty_is [] b is t = refl
empty_is (x ∷ xs) b is t = let none : length (x ∷ xs) ≡ 0 = eqb-true (length (x ∷ xs)) 0 (sym is ∙ t) in absurd (omega arith)

-- ---- the first line that doesn't end in time

-- it is told of an input to `formula`
pub formula_late : (most : ℕ) (version : Version) (g : Geometry) (j size : ℕ) (input line behind : List ℕ) → HasFirstLine input line behind → (IsInTime most input line → ⊥) → IsFormulaStop most version g j size input (Fault 1 8)
formula_late most version g j size input line behind first late = inr (inl (record { line = line; behind = behind; first = first; late = late }, refl, refl))

-- and of one to `answer`
pub answer_late : (most : ℕ) (version : Version) (g : Geometry) (j size : ℕ) (input line behind : List ℕ) → HasFirstLine input line behind → (IsInTime most input line → ⊥) → IsAnswerStop most version g j size input (Fault 1 8)
answer_late most version g j size input line behind first late = inr (inl (record { line = line; behind = behind; first = first; late = late }, refl, refl))

-- ---- the line of the shape

-- what holds of the error that another was turned into
pub as_error : {T E : Type 0} (result : Result T E) (e : E) (P : E → Type 0) → IsErrAnd result (λ x. x ≡ e) → P e → IfErr result P
as_error (Ok t) e P is p = tt
as_error (Err x) e P is p = subst P (sym is) p

module _ (version : Version) (g : Geometry) (j size : ℕ) (line : List ℕ) where
  -- its own fault
  pub line_stop : (stop : LineStop ℕ) → IsLineStop g line stop → IsShapeStop version g j size line stop
  line_stop (Fault at number) (first, fault) = (first, inl fault)
  line_stop NoMemory _ = tt

  -- its formula is too large
  pub too_large : (shape : List Cell) → IsShapeLine g line shape → IsTooLarge version g shape j size → IsShapeStop version g j size line (Fault 1 14)
  too_large shape is_shape large = (refl, inr (record { shape = shape; is_shape = is_shape; too_large = large }, refl))

  -- its fault is told of an input to `formula`
  pub formula_stop : (most : ℕ) (input behind : List ℕ) → input ≢ [] → HasFirstLine input line behind → IsInTime most input line → (stop : LineStop ℕ) → IsShapeStop version g j size line stop → IsFormulaStop most version g j size input stop
  formula_stop most input behind some first in_time (Fault at number) (one, fault) = inr (inr (inl (
    record {
      some = some;
      line = line;
      behind = behind;
      first = first;
      in_time = in_time;
      fault = fault;
    },
    one,
  )))
  formula_stop most input behind some first in_time NoMemory _ = tt

  -- and of one to `answer`
  pub answer_stop : (most : ℕ) (input model : List ℕ) → HasEndedLine input line model → IsInTime most input line → (stop : LineStop ℕ) → IsShapeStop version g j size line stop → IsAnswerStop most version g j size input stop
  answer_stop most input model ended in_time (Fault at number) (one, fault) = inr (inr (inr (inl (
    record {
      line = line;
      model = model;
      ended = ended;
      in_time = in_time;
      fault = fault;
    },
    one,
  ))))
  answer_stop most input model ended in_time NoMemory _ = tt

  -- its formula, over a universe of its shape
  pub encodes : (shape : List Cell) (u : Levels) (count : ℕ) (clauses : List (List Lit)) → u.shape ≡ shape → u.level ≡ j → IsShapeLine g line shape → IsCountedFormula version g shape j u.vars count clauses → formula_size clauses ≤ size
      → ((values : ℕ → Bool) × Satisfies values clauses) ↔ HasCoronas g shape j → ((values : ℕ → Bool) → Satisfies values clauses → AreCoronas g shape (chosen_layers values u.vars j)) → EncodesLine version g j size line u count clauses
  encodes shape u count clauses same level_is is_shape formula fits satisfiable models = record {
    is_shape = subst (IsShapeLine g line) (sym same) is_shape;
    level_is = level_is;
    formula = subst (λ (s : List Cell). IsCountedFormula version g s j u.vars count clauses) (sym same) formula;
    fits = fits;
    satisfiable = subst (λ (s : List Cell). ((values : ℕ → Bool) × Satisfies values clauses) ↔ HasCoronas g s j) (sym same) satisfiable;
    models = λ values holds. subst (λ (s : List Cell). AreCoronas g s (chosen_layers values u.vars j)) (sym same) (models values holds);
  }

-- the formula of the line's shape
abbrev pub encoded_as : (version : Version) (g : Geometry) (j size : ℕ) (line : List ℕ) (u : Levels) (count : ℕ) (clauses : List (List Lit)) → EncodesLine version g j size line u count clauses → HasFormula version g j size line
encoded_as version g j size line u count clauses e =
    record { shape = u.shape; is_shape = e.is_shape; vars = u.vars; count = count; clauses = clauses; formula = e.formula; fits = e.fits }

-- ---- `formula`

module _ (most : ℕ) (version : Version) (g : Geometry) (j size : ℕ) (input line behind : List ℕ) (first : HasFirstLine input line behind) (in_time : IsInTime most input line) (encoded : HasFormula version g j size line) where
  pub second_line : behind ≢ [] → HasSecondLine most version g j size input
  second_line more = record {
    line = line;
    behind = behind;
    first = first;
    in_time = in_time;
    encoded = encoded;
    more = more;
  }

  pub is_formula : input ≢ [] → behind ≡ [] → (text : List ℕ) → text ≡ clause_text encoded.count encoded.clauses → ((values : ℕ → Bool) × Satisfies values encoded.clauses) ↔ HasCoronas g encoded.shape j → IsFormula most version g j size input text
  is_formula some none text is satisfiable = record {
    some = some;
    line = line;
    only = subst (HasFirstLine input line) none first;
    in_time = in_time;
    encoded = encoded;
    text_is = is;
    satisfiable = satisfiable;
  }

-- ---- `answer`

-- as many layers are spelled as levels
layer_count : (g : Geometry) (shape : List Cell) (j : ℕ) (vars : List Variable) (v : ℕ → Bool) (layers : List (List Iso)) → Spells g shape layers (chosen_layers v vars j) → length layers ≡ j
layer_count g shape j vars v layers s =
    let long : length (chosen_layers v vars j) ≡ length layers =
    AllZip-long (λ (layer : List Iso) (placed : List (List Cell)). AllZip (λ by tile. IsLeastIsometry g shape tile by) layer placed) layers (chosen_layers v vars j) s.isometries in
    sym long ∙ length-map (range_with_len 1 j) (chosen_layer v vars) ∙ length-range_with_len 1 j

-- the layers of a universe are spelled as those of its level
pub spelled_of : (g : Geometry) (u : Levels) (j : ℕ) (values other : List Bool) (layers : List (List Iso)) → u.level ≡ j → other ≡ values
    → Spells g u.shape layers (chosen_layers (assignment_of other) u.vars u.level) → Spells g u.shape layers (chosen_layers (assignment_of values) u.vars j)
spelled_of g u j values other layers level_is same s =
    subst (λ (k : ℕ). Spells g u.shape layers (chosen_layers (assignment_of values) u.vars k)) level_is
    (subst (λ (vs : List Bool). Spells g u.shape layers (chosen_layers (assignment_of vs) u.vars u.level)) same s)

pub tells_coronas : (g : Geometry) (shape : List Cell) (j : ℕ) (vars : List Variable) (v : ℕ → Bool) (clauses : List (List Lit)) (layers : List (List Iso)) (text : List ℕ) → Satisfies v clauses
    → Spells g shape layers (chosen_layers v vars j) → AreCoronas g shape (chosen_layers v vars j) → text ≡ coronas_text layers → TellsCoronas g shape j vars v clauses text
tells_coronas g shape j vars v clauses layers text satisfies spelled coronas is =
    record { satisfies = satisfies; layers = layers; count = layer_count g shape j vars v layers spelled; spelled = spelled; coronas = coronas; text_is = is }

-- it has one line, without its newline
pub unended : (most : ℕ) (version : Version) (g : Geometry) (j size : ℕ) (input : List ℕ) → input ≢ [] → HasNoNewline input → IsInTime most input input → IsAnswerStop most version g j size input (Fault 1 6)
unended most version g j size input some whole in_time = inr (inr (inl (record { some = some; whole = whole; in_time = in_time }, refl, refl)))

module _ (most : ℕ) (version : Version) (g : Geometry) (j size : ℕ) (input line model : List ℕ) (ended : HasEndedLine input line model) (in_time : IsInTime most input line) (encoded : HasFormula version g j size line) where
  -- the fault of the model text is told
  pub model_stop : (stop : LineStop ℕ) → IsModelStop encoded.count model stop → IsAnswerStop most version g j size input stop
  model_stop (Fault at number) fault = inr (inr (inr (inr (record {
    line = line;
    model = model;
    ended = ended;
    in_time = in_time;
    encoded = encoded;
    fault = fault;
  }))))
  model_stop NoMemory _ = tt

  pub is_answer : (values : List Bool) → IsModel encoded.count model values → (text : List ℕ) → TellsCoronas g encoded.shape j encoded.vars (assignment_of values) encoded.clauses text ⊎ TellsFalse (assignment_of values) encoded.clauses text → IsAnswer most version g j size input text
  is_answer values is_model text told = record {
    line = line;
    model = model;
    ended = ended;
    in_time = in_time;
    encoded = encoded;
    values = values;
    is_model = is_model;
    told = told;
  }

-- ---- the numbers of a model text's lines

-- a text has as many bytes as lines
few_lines : (lines : List (List ℕ)) → length lines ≤ length (text_of lines)
few_lines [] = omega arith
few_lines (line ∷ lines) =
    omega (arith, length-append (ended line) (text_of lines), length-append line (10 ∷ []), few_lines lines)

reached_few : (vars : ℕ) (text : List ℕ) (number : ℕ) (front rest : List ℕ) → IsReached vars text number front rest → number ≤ length text + 1
reached_few vars text number front rest r =
    let parts : length text ≡ length front + length rest = subst (λ (t : List ℕ). length t ≡ length front + length rest) (sym r.text_is) (length-append front rest) in
    let fronts : length front ≡ length (text_of r.lines) = ap length r.front_is in
    omega (arith, r.number_is, parts, fronts, few_lines r.lines)

-- the line of a model text's fault is at most the one behind as many as it has bytes
pub few_before : (vars : ℕ) (text : List ℕ) (line : ℕ) → Stops vars text (NotText line) → line ≤ length text + 1
few_before vars text line (inl e) = reached_few vars text line e.front e.rest e.reached
few_before vars text line (inr o) = reached_few vars text line o.front (ended o.line ++ o.has_line.rest) o.has_line.reached

pub few_before_stranger : (vars : ℕ) (text : List ℕ) (line : ℕ) → Stops vars text (Stranger line) → line ≤ length text + 1
few_before_stranger vars text line s = reached_few vars text line s.front (ended s.line ++ s.has_line.rest) s.has_line.reached
