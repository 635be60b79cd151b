-- A list of shapes has no fault, and a text one at most.
use Rattle.std.proofs.Common.{◌≡◌, ℕ, ◌+◌, ◌<◌, ◌≤◌, List, [], ◌∷◌, ◌++◌, length, map, length-append, refl, sym, ap, subst, ◌∙◌, arith, append-nil, inl, inr}
use Rattle.std.specs.Prelude.{All}
use Rattle.std.specs.List.{AllByRecursion}
use Rattle.std.proofs.ByRecursion.{All-from_get_or}
use Rattle.std.proofs.lemmas.List.{length-map}
use Rattle.heesch_grid.specs.declared.Cell.{Cell}
use Rattle.heesch_grid.specs.Geometry.{Geometry}
use Rattle.heesch_line.specs.Lists.{AreCells}
use Rattle.heesch_line.proofs.OneList.{cells_tell}
use Rattle.heesch_shape.specs.Faults.{IsFault, IsFaultless}
use Rattle.heesch_text.specs.Fields.{cells_text}
use Rattle.heesch_text.specs.Shapes.{list_text, shape_text}
use Rattle.heesch_given.specs.Given.{AreGiven, HasFault, EndsInTime, IsLineFault, IsFaultBehind}
use Rattle.heesch_given.proofs.ShapeFaults.{one_number}

-- lines that begin with those of shapes are a shape's at a place among these, and end before these do
record IsEarlierShape (g : Geometry) (before more : List (List Cell)) (at : List ℕ) : Type 0 where
  cells : List Cell
  are : AreCells cells
  text : at ≡ cells_text cells
  faultless : IsFaultless g cells
  ends : length (list_text before) + length at < length (list_text more)

line_long : (cells : List Cell) (given : List (List Cell)) → length (list_text (cells ∷ given)) ≡ length (cells_text cells) + 1 + length (list_text given)
line_long cells given =
    let whole = length-append (shape_text cells) (list_text given) in
    let one = length-append (cells_text cells) (10 ∷ []) in
    omega (arith, whole, one)

shape_line : (g : Geometry) (before more : List (List Cell)) (at : List ℕ) (back rest : List (List ℕ)) → length before < length more → AllByRecursion AreCells before → AllByRecursion AreCells more → AllByRecursion (IsFaultless g) more
    → map cells_text before ++ at ∷ back ≡ map cells_text more ++ rest → IsEarlierShape g before more at
shape_line g before [] at back rest less fit fits all same = absurd (omega (arith, less))
shape_line g [] (c ∷ more) at back rest less fit fits all same =
    let head : at ≡ cells_text c = cc in
    let long = line_long c more in
    let same_length = ap length head in
    record { cells = c; are = fits.0; text = head; faultless = all.0; ends = omega (arith, long, same_length) }
shape_line g (d ∷ before) (c ∷ more) at back rest less fit fits all same =
    let heads : cells_text d ≡ cells_text c = cc in
    let tails : map cells_text before ++ at ∷ back ≡ map cells_text more ++ rest = cc in
    let other = shape_line g before more at back rest (omega (arith, less)) fit.1 fits.1 all.1 tails in
    let long = line_long c more in
    let long_too = line_long d before in
    let same_length = ap length heads in
    record { cells = other.cells; are = other.are; text = other.text; faultless = other.faultless; ends = omega (arith, other.ends, long, long_too, same_length) }

faultless_each : (g : Geometry) (given : List (List Cell)) → All (IsFaultless g) given → AllByRecursion (IsFaultless g) given
faultless_each g given all = All-from_get_or (IsFaultless g) given [] (λ i less. all i [] less)

-- the line of a shape has no fault of its own
no_own_fault : (g : Geometry) (before more : List (List Cell)) (at : List ℕ) (number : ℕ) → IsEarlierShape g before more at → IsLineFault g at number → ⊥
no_own_fault g before more at number s (inl f) = s.faultless f.fault (subst (λ (cells : List Cell). IsFault g cells f.fault) (cells_tell f.cells s.cells f.are_cells s.are (sym f.text ∙ s.text)) f.is_fault)
no_own_fault g before more at number s (inr none) = none.0 s.cells s.are s.text

-- a line among those of shapes has no fault
no_fault_among : (most : ℕ) (g : Geometry) (text : List ℕ) (before more : List (List Cell)) (at : List ℕ) (number : ℕ) → IsEarlierShape g before more at → length before < length more → length more ≤ 10000
    → EndsInTime most text before at → IsFaultBehind most g text before at number → ⊥
no_fault_among most g text before more at number s less few ends (inl full) = omega (arith, full.0, less, few)
no_fault_among most g text before more at number s less few ends (inr (inl own)) = no_own_fault g before more at number s own.2
no_fault_among most g text before more at number s less few ends (inr (inr late)) = late.1 ends

-- ---- a list has no fault

pub no_fault : (most : ℕ) (g : Geometry) (text : List ℕ) (shapes : List (List Cell)) (line number : ℕ) → AreGiven most g text shapes → HasFault most g text line number → ⊥
no_fault most g text shapes line number a f =
    let same : map cells_text f.given ++ f.at ∷ f.goes_on.back ≡ map cells_text a.given ++ [] = sym f.goes_on.lines ∙ a.listed.lines ∙ sym (append-nil (map cells_text a.given)) in
    let long = ap length same in
    let first = length-append (map cells_text f.given) (f.at ∷ f.goes_on.back) in
    let second = length-append (map cells_text a.given) [] in
    let less : length f.given < length a.given = omega (arith, long, first, second, length-map f.given cells_text, length-map a.given cells_text) in
    no_fault_among most g text f.given a.given f.at number
    (shape_line g f.given a.given f.at f.goes_on.back [] less f.goes_on.cells a.listed.cells (faultless_each g a.given a.are_shapes) same) less a.listed.most (inr a.in_time) f.fault

-- ---- a text has one fault

few_before : (most : ℕ) (g : Geometry) (text : List ℕ) (given : List (List Cell)) (at : List ℕ) (number : ℕ) → IsFaultBehind most g text given at number → length given ≤ 10000
few_before most g text given at number (inl full) = omega (arith, full.0)
few_before most g text given at number (inr (inl own)) = omega (arith, own.0)
few_before most g text given at number (inr (inr late)) = omega (arith, late.0)

not_before : (most : ℕ) (g : Geometry) (text : List ℕ) (line number at other : ℕ) → (f : HasFault most g text line number) → (h : HasFault most g text at other) → length f.given < length h.given → ⊥
not_before most g text line number at other f h less =
    let s = shape_line g f.given h.given f.at f.goes_on.back (h.at ∷ h.goes_on.back) less f.goes_on.cells h.goes_on.cells (faultless_each g h.given h.shapes) (sym f.goes_on.lines ∙ h.goes_on.lines) in
    no_fault_among most g text f.given h.given f.at number s less (few_before most g text h.given h.at other h.fault) (inl (omega (arith, s.ends, h.in_time))) f.fault

same_given : (first second : List (List Cell)) (a b : List ℕ) (back rest : List (List ℕ)) → length first ≡ length second → AllByRecursion AreCells first → AllByRecursion AreCells second
    → map cells_text first ++ a ∷ back ≡ map cells_text second ++ b ∷ rest → (first ≡ second) × (a ≡ b)
same_given [] [] a b back rest long fit fits same = (refl, cc)
same_given [] (d ∷ second) a b back rest long fit fits same = absurd (omega (arith, long))
same_given (c ∷ first) [] a b back rest long fit fits same = absurd (omega (arith, long))
same_given (c ∷ first) (d ∷ second) a b back rest long fit fits same =
    let heads : cells_text c ≡ cells_text d = cc in
    let tails : map cells_text first ++ a ∷ back ≡ map cells_text second ++ b ∷ rest = cc in
    let one = cells_tell c d fit.0 fits.0 heads in
    let others = same_given first second a b back rest (omega (arith, long)) fit.1 fits.1 tails in
    (ap (λ (x : List Cell). x ∷ first) one ∙ ap (λ (xs : List (List Cell)). d ∷ xs) others.0, others.1)

own_once : (g : Geometry) (line : List ℕ) (number other : ℕ) → IsLineFault g line number → IsLineFault g line other → number ≡ other
own_once g line number other (inl f) (inl h) =
    let same : h.cells ≡ f.cells = cells_tell h.cells f.cells h.are_cells f.are_cells (sym h.text ∙ f.text) in
    f.number_is ∙ one_number g f.cells f.fault h.fault f.is_fault (subst (λ (cells : List Cell). IsFault g cells h.fault) same h.is_fault) ∙ sym h.number_is
own_once g line number other (inl f) (inr none) = absurd (none.0 f.cells f.are_cells f.text)
own_once g line number other (inr none) (inl h) = absurd (none.0 h.cells h.are_cells h.text)
own_once g line number other (inr none) (inr too) = none.1 ∙ sym too.1

number_once : (most : ℕ) (g : Geometry) (text : List ℕ) (given : List (List Cell)) (at : List ℕ) (number other : ℕ) → IsFaultBehind most g text given at number → IsFaultBehind most g text given at other → number ≡ other
number_once most g text given at number other (inl full) (inl too) = full.1 ∙ sym too.1
number_once most g text given at number other (inl full) (inr (inl own)) = absurd (omega (arith, full.0, own.0))
number_once most g text given at number other (inl full) (inr (inr late)) = absurd (omega (arith, full.0, late.0))
number_once most g text given at number other (inr (inl own)) (inl full) = absurd (omega (arith, full.0, own.0))
number_once most g text given at number other (inr (inl own)) (inr (inl too)) = own_once g at number other own.2 too.2
number_once most g text given at number other (inr (inl own)) (inr (inr late)) = absurd (late.1 own.1)
number_once most g text given at number other (inr (inr late)) (inl full) = absurd (omega (arith, full.0, late.0))
number_once most g text given at number other (inr (inr late)) (inr (inl own)) = absurd (late.1 own.1)
number_once most g text given at number other (inr (inr late)) (inr (inr too)) = late.2 ∙ sym too.2

pub one_fault : (most : ℕ) (g : Geometry) (text : List ℕ) (line number at other : ℕ) → HasFault most g text line number → HasFault most g text at other → (line ≡ at) × (number ≡ other)
one_fault most g text line number at other f h =
    let long : length f.given ≡ length h.given = tight (length f.given) (length h.given) (not_before most g text line number at other f h) (not_before most g text at other line number h f) in
    let same = same_given f.given h.given f.at h.at f.goes_on.back h.goes_on.back long f.goes_on.cells h.goes_on.cells (sym f.goes_on.lines ∙ h.goes_on.lines) in (
      omega (arith, long, f.line_is, h.line_is),
      number_once most g text h.given h.at number other
          (subst (λ (l : List ℕ). IsFaultBehind most g text h.given l number) same.1 (subst (λ (ss : List (List Cell)). IsFaultBehind most g text ss f.at number) same.0 f.fault)) h.fault,
    )
  where
    tight : (n m : ℕ) → (n < m → ⊥) → (m < n → ⊥) → n ≡ m
    tight n m below above = grind (arith, below, above)
