-- Translations between cell lists.
use Rattle.std.proofs.Common.{ℕ, ◌≡◌, sym, ap, subst, ◌∙◌, ◌<◌, true, List, [], ◌∷◌, map, length, get_or, ℤ, pos, ◌*ℤ◌, arith, Contains}
use Rattle.std.specs.Prelude.{IsTrue}
use Rattle.std.proofs.lemmas.Int.{ints}
use Rattle.std.proofs.lemmas.List.Elements.{All-contains}
use Rattle.heesch_grid.specs.declared.Cell.{Cell}
use Rattle.heesch_grid.specs.Listing.{IsRising}
use Rattle.heesch_grid.specs.Cells.{cell_before, has, same_cell, SameCells}
use Rattle.heesch_grid.specs.Geometry.{Geometry, moved}
use Rattle.heesch_grid.specs.Pairs.{Cell-eta, or-left, same_cell-refl}
use Rattle.heesch_grid.specs.Polyform.{IsPolyform}
use Rattle.heesch_grid.specs.Vectors.{AreUnitsOf, IsWithin, plus, times}
use Rattle.heesch_grid.proofs.CellFacts.{cell_before-irreflexive, cell_before-asymmetric}
use Rattle.heesch_grid.proofs.ListFacts.{same_rising, All-from_members}
use Rattle.heesch_grid.proofs.WindowFacts.{map_member}
use Rattle.heesch_orbit.specs.Steps.{IsStepBetween}
use Rattle.heesch_orbit.proofs.Sets.{set_of, same_through, map_alike}

before_moved : (s c d : Cell) → cell_before c d ≡ true → cell_before (plus s c) (plus s d) ≡ true
before_moved s c d h = grind (arith, ints)

-- a moved rising list rises
rising_moved : (s : Cell) (xs : List Cell) → IsRising cell_before xs → IsRising cell_before (map (plus s) xs)
rising_moved s [] r = r
rising_moved s (x ∷ xs) r = (All-from_members (λ y. IsTrue (cell_before (plus s x) y)) (map (plus s) xs) later, rising_moved s xs r.1)
  where
    later : (y : Cell) → Contains (map (plus s) xs) y → cell_before (plus s x) y ≡ true
    later y m = let c = map_member (plus s) xs y m in subst (λ z. cell_before (plus s x) z ≡ true) c.2 (before_moved s x c.0 (All-contains (λ z. IsTrue (cell_before x z)) xs c.0 r.0 c.1))

-- rising lists of the same cells are one
lists_moved : (s : Cell) (xs ys : List Cell) → IsRising cell_before xs → IsRising cell_before ys → SameCells (map (plus s) xs) ys → map (plus s) xs ≡ ys
lists_moved s xs ys r q h = same_rising cell_before cell_before-irreflexive cell_before-asymmetric (map (plus s) xs) ys (rising_moved s xs r) q (λ c m. (h c).0 m) (λ c m. (h c).1 m)

moved_is : (g : Geometry) (w c : Cell) → moved g w.a w.b c ≡ plus (times g.unit w) c
moved_is g w c = Cell-eta (moved g w.a w.b c) (plus (times g.unit w) c) (omega (arith, ints)) (omega (arith, ints))

-- a step moves list to list
pub step_lists : (g : Geometry) (w : Cell) (xs ys : List Cell) → IsRising cell_before xs → IsRising cell_before ys → IsStepBetween g xs ys w → map (plus (times g.unit w)) xs ≡ ys
step_lists g w xs ys r q h =
    lists_moved (times g.unit w) xs ys r q (same_through (map (plus (times g.unit w)) xs) (map (moved g w.a w.b) xs) ys (set_of (map (plus (times g.unit w)) xs) (map (moved g w.a w.b) xs) (sym (map_alike (moved g w.a w.b) (plus (times g.unit w)) (moved_is g w) xs))) h)

plus_once : (c s d : Cell) → plus s c ≡ plus d c → s ≡ d
plus_once c s d e = let a = ap (λ z. z.a) e in let b = ap (λ z. z.b) e in Cell-eta s d (omega (arith, ints, a)) (omega (arith, ints, b))

heads : (xs ys : List Cell) (d : Cell) → xs ≡ ys → get_or xs 0 d ≡ get_or ys 0 d
heads xs ys d e = ap (λ zs. get_or zs 0 d) e

-- so it is the difference of the first cells
pub step_first : (g : Geometry) (w v : Cell) (xs ys : List Cell) (d e : Cell) → IsRising cell_before xs → IsRising cell_before ys → 0 < length xs → 0 < length ys → plus v (get_or xs 0 d) ≡ get_or ys 0 e → IsStepBetween g xs ys w → times g.unit w ≡ v
step_first g w v [] ys d e r q l m f h = absurd (omega arith)
step_first g w v (x ∷ xs) [] d e r q l m f h = absurd (omega arith)
step_first g w v (x ∷ xs) (y ∷ ys) d e r q l m f h = plus_once x (times g.unit w) v (heads (map (plus (times g.unit w)) (x ∷ xs)) (y ∷ ys) d (step_lists g w (x ∷ xs) (y ∷ ys) r q h) ∙ sym f)

-- the first cell of a list is near where all are
pub first_near : (n : ℕ) (xs ys : List Cell) (d : Cell) → ys ≡ xs → 0 < length xs → ((c : Cell) → has xs c ≡ true → IsWithin n c) → IsWithin n (get_or ys 0 d)
first_near n [] ys d e some near = absurd (omega arith)
first_near n (x ∷ xs) ys d e some near = subst (λ zs. IsWithin n (get_or zs 0 d)) (sym e) (near x (or-left (same_cell x x) (has xs x) (same_cell-refl x)))

-- a translation by a multiple of the unit is a step
pub is_step : (g : Geometry) (w v : Cell) (xs ys : List Cell) → times g.unit w ≡ v → map (plus v) xs ≡ ys → IsStepBetween g xs ys w
is_step g w v xs ys e h = set_of (map (moved g w.a w.b) xs) ys (map_alike (moved g w.a w.b) (plus (times g.unit w)) (moved_is g w) xs ∙ ap (λ s. map (plus s) xs) e ∙ h)

pub in_units : (g : Geometry) (unit : ℤ) (w v : Cell) → unit ≡ pos g.unit → times g.unit w ≡ v → AreUnitsOf unit w v
in_units g unit w v e h = record { in_a = ap (λ u. u *ℤ w.a) e ∙ ap (λ z. z.a) h; in_b = ap (λ u. u *ℤ w.b) e ∙ ap (λ z. z.b) h }

pub of_units : (g : Geometry) (unit : ℤ) (w v : Cell) → unit ≡ pos g.unit → AreUnitsOf unit w v → times g.unit w ≡ v
of_units g unit w v e h = Cell-eta (times g.unit w) v (ap (λ u. u *ℤ w.a) (sym e) ∙ h.in_a) (ap (λ u. u *ℤ w.b) (sym e) ∙ h.in_b)

-- a step between two shapes, as their lists were read
module _ (g : Geometry) (xs ys cells others : List Cell) (cells_are : cells ≡ xs) (others_are : others ≡ ys) (p : IsPolyform g xs) (q : IsPolyform g ys) (d v : Cell) (first : plus v (get_or cells 0 d) ≡ get_or others 0 d) (w : Cell) (h : IsStepBetween g xs ys w) where
  pub step_read : times g.unit w ≡ v
  step_read = step_first g w v xs ys d d p.is_set.rising q.is_set.rising p.some q.some (ap (λ (zs : List Cell). plus v (get_or zs 0 d)) (sym cells_are) ∙ first ∙ ap (λ (zs : List Cell). get_or zs 0 d) others_are) h

  pub lists_read : map (plus v) cells ≡ others
  lists_read = ap (map (plus v)) cells_are ∙ ap (λ (s : Cell). map (plus s) xs) (sym step_read) ∙ step_lists g w xs ys p.is_set.rising q.is_set.rising h ∙ sym others_are
