-- Moves of cell lists, and isometries that differ by a move.
use Rattle.std.proofs.Common.{◌≡◌, refl, sym, ap, subst, ◌∙◌, ℕ, zero, suc, ◌+◌, ◌*◌, ◌<◌, ◌≤◌, true, List, [], ◌∷◌, ◌++◌, map, length, get_or, take, ℤ, pos, ◌*ℤ◌, inl, inr, arith, Contains}
use Rattle.std.specs.Prelude.{nat_lt, false}
use Rattle.std.proofs.lemmas.Int.{ints}
use Rattle.std.proofs.lemmas.Bool.{cases_Bool}
use Rattle.std.proofs.lemmas.List.{take_more}
use Rattle.std.proofs.lemmas.List.Elements.{All-contains}
use borrow.Author.Tests.{ltb-true}
use Rattle.heesch_grid.specs.declared.Cell.{Cell}
use Rattle.heesch_grid.specs.declared.isometries.Iso.{Iso}
use Rattle.heesch_grid.specs.Lists.{rising_by_test}
use Rattle.heesch_grid.specs.Cells.{cell, cell_before, has, IsCellListOf}
use Rattle.heesch_grid.specs.Geometry.{Geometry, IsGrid, IsIsometry, apply, image}
use Rattle.heesch_grid.specs.Listing.{IsRising}
use Rattle.heesch_grid.specs.Placement.{IsLeastIsometry}
use Rattle.heesch_grid.specs.Vectors.{AreUnitsOf, IsWithin, plus, minus}
use Rattle.heesch_grid.specs.Pairs.{Cell-eta}
use Rattle.heesch_grid.specs.PatternLaws.{rises_moved}
use Rattle.heesch_grid.proofs.Images.{unit_product}
use Rattle.heesch_grid.proofs.CellFacts.{cell_before-irreflexive, cell_before-asymmetric, has-is}
use Rattle.heesch_grid.proofs.ListFacts.{same_listing, All-from_members}
use Rattle.heesch_grid.proofs.WindowFacts.{member_map, map_member}
use Rattle.heesch_shape.proofs.Loops.{map_more}
use Rattle.heesch_shape.proofs.Words.{rising_test}
use Rattle.heesch_place.specs.Steps.{IsFirstOf}

-- ---- moved lists

pub first_of : (xs : List Cell) (d : Cell) → 0 < length xs → IsFirstOf xs (get_or xs 0 d)
first_of [] d h = absurd (omega (arith, h))
first_of (x ∷ xs) d h = record { rest = xs; is = refl }

pub one_cell_list : (zs xs ys : List Cell) → IsCellListOf zs xs → IsCellListOf zs ys → xs ≡ ys
one_cell_list zs xs ys p q = same_listing cell_before cell_before-irreflexive cell_before-asymmetric (Contains zs) xs ys p q

-- the cell list of a moved set is the moved cell list
pub moved_list : (s : Cell) (zs xs : List Cell) → IsCellListOf zs xs → IsCellListOf (map (plus s) zs) (map (plus s) xs)
moved_list s zs xs l = record {
  rising = rising_by_test cell_before (map (plus s) xs) (rises_moved s xs (rising_test cell_before xs l.rising));
  only = All-from_members (Contains (map (plus s) zs)) (map (plus s) xs) (λ d m.
      let c = map_member (plus s) xs d m in
      subst (Contains (map (plus s) zs)) c.2 (member_map (plus s) zs c.0 (All-contains (Contains zs) xs c.0 l.only c.1)));
  every = λ d m.
      let c = map_member (plus s) zs d m in
      subst (Contains (map (plus s) xs)) c.2 (member_map (plus s) xs c.0 (l.every c.0 c.1));
}

-- the move of an isometry
abbrev pub move_of : Geometry → Iso → Cell
move_of g by = cell (pos g.unit *ℤ by.da) (pos g.unit *ℤ by.db)

pub applied : (g : Geometry) (by : Iso) (c : Cell) → plus (move_of g by) (g.turn by.turn c) ≡ apply g by c
applied g by c = Cell-eta (plus (move_of g by) (g.turn by.turn c)) (apply g by c) (omega (arith, ints)) (omega (arith, ints))

moved_image : (g : Geometry) (by : Iso) (xs : List Cell) → map (plus (move_of g by)) (map (g.turn by.turn) xs) ≡ image g by xs
moved_image g by [] = refl
moved_image g by (x ∷ xs) = λ i. applied g by x i ∷ moved_image g by xs i

-- the cell list of an image is the moved list of the turned cells
pub image_list : (g : Geometry) (by : Iso) (shape turned : List Cell) → IsCellListOf (map (g.turn by.turn) shape) turned → IsCellListOf (image g by shape) (map (plus (move_of g by)) turned)
image_list g by shape turned l =
    subst (λ zs. IsCellListOf zs (map (plus (move_of g by)) turned)) (moved_image g by shape) (moved_list (move_of g by) (map (g.turn by.turn) shape) turned l)

pub move_is : (g : Geometry) (unit : ℤ) (by : Iso) (units s : Cell) → unit ≡ pos g.unit → by.da ≡ units.a → by.db ≡ units.b → AreUnitsOf unit units s → move_of g by ≡ s
move_is g unit by units s e ea eb h =
    Cell-eta (move_of g by) s (ap (λ u. u *ℤ by.da) (sym e) ∙ ap (λ z. unit *ℤ z) ea ∙ h.in_a) (ap (λ u. u *ℤ by.db) (sym e) ∙ ap (λ z. unit *ℤ z) eb ∙ h.in_b)

pub plus_once : (s t c : Cell) → plus s c ≡ plus t c → s ≡ t
plus_once s t c e = let a = ap (λ z. z.a) e in let b = ap (λ z. z.b) e in Cell-eta s t (omega (arith, ints, a)) (omega (arith, ints, b))

pub head_of : (x y : Cell) (xs ys : List Cell) → x ∷ xs ≡ y ∷ ys → x ≡ y
head_of x y xs ys e = cc

-- a move that takes a list to another takes the first cell to the first cell
pub one_step : (from to : List Cell) (x y s m : Cell) → IsFirstOf from x → IsFirstOf to y → plus s x ≡ y → to ≡ map (plus m) from → m ≡ s
one_step from to x y s m fx fy d is =
    let first : plus m x ∷ map (plus m) fx.rest ≡ y ∷ fy.rest = sym (ap (map (plus m)) fx.is) ∙ sym is ∙ fy.is in
    plus_once m s x (head_of (plus m x) y (map (plus m) fx.rest) fy.rest first ∙ sym d)

-- an isometry of the turn gives the tile just where its move takes the turned cells to the tile
pub led : (g : Geometry) (k : ℕ) (by : Iso) (shape turned tile : List Cell) → by.turn ≡ k → IsCellListOf (map (g.turn k) shape) turned → tile ≡ map (plus (move_of g by)) turned → IsCellListOf (image g by shape) tile
led g k by shape turned tile turn t is = subst (IsCellListOf (image g by shape)) (sym is) (image_list g by shape turned (subst (λ j. IsCellListOf (map (g.turn j) shape) turned) (sym turn) t))

pub leads : (g : Geometry) (k : ℕ) (by : Iso) (shape turned tile : List Cell) → by.turn ≡ k → IsCellListOf (map (g.turn k) shape) turned → IsCellListOf (image g by shape) tile → tile ≡ map (plus (move_of g by)) turned
leads g k by shape turned tile turn t l =
    one_cell_list (image g by shape) tile (map (plus (move_of g by)) turned) l (image_list g by shape turned (subst (λ j. IsCellListOf (map (g.turn j) shape) turned) (sym turn) t))

-- and so it moves the first turned cell to the first cell of the tile
pub must_move : (g : Geometry) (k : ℕ) (by : Iso) (shape turned tile : List Cell) (x y s : Cell) → by.turn ≡ k → IsCellListOf (map (g.turn k) shape) turned → IsCellListOf (image g by shape) tile → IsFirstOf turned x → IsFirstOf tile y → plus s x ≡ y → (move_of g by ≡ s) × (tile ≡ map (plus s) turned)
must_move g k by shape turned tile x y s turn t l fx fy d =
    let is = leads g k by shape turned tile turn t l in
    let e : move_of g by ≡ s = one_step turned tile x y s (move_of g by) fx fy d is in
    (e, is ∙ ap (λ z. map (plus z) turned) e)

pub must_be_units : (g : Geometry) (unit : ℤ) (by : Iso) (s : Cell) → unit ≡ pos g.unit → move_of g by ≡ s → AreUnitsOf unit (cell by.da by.db) s
must_be_units g unit by s e h = record { in_a = ap (λ u. u *ℤ by.da) e ∙ ap (λ c. c.a) h; in_b = ap (λ u. u *ℤ by.db) e ∙ ap (λ c. c.b) h }

-- one more cell of a moved list
pub moved_more : (f : Cell → Cell) (from to : List Cell) (i : ℕ) (d e : Cell) → i < length from → i < length to → get_or to i e ≡ f (get_or from i d) → take i to ≡ map f (take i from) → take (i + 1) to ≡ map f (take (i + 1) from)
moved_more f from to i d e lf lt is so_far =
    take_more to i e lt ∙ ap (λ zs. zs ++ get_or to i e ∷ []) so_far ∙ ap (λ z. map f (take i from) ++ z ∷ []) is ∙ sym (map_more f from i d lf)

pub get_or_map : (f : Cell → Cell) (xs : List Cell) (i : ℕ) (d e : Cell) → i < length xs → get_or (map f xs) i e ≡ f (get_or xs i d)
get_or_map f [] i d e l = absurd (omega arith)
get_or_map f (x ∷ xs) zero d e l = refl
get_or_map f (x ∷ xs) (suc i) d e l = get_or_map f xs i d e (omega arith)

-- ---- isometries of least turn

not_below : (m n : ℕ) → (m < n → ⊥) → n ≤ m
not_below m n f = elim (cases_Bool (nat_lt m n)) [ inl t ↦ absurd (f (ltb-true m n t)) | inr e ↦ at_least m n e ]
  where
    at_least : (m n : ℕ) → nat_lt m n ≡ false → n ≤ m
    at_least m n e = grind arith

-- no isometry of a lesser turn gives the tile
pub least_of : (g : Geometry) (shape tile : List Cell) (by : Iso) → IsIsometry g by → IsCellListOf (image g by shape) tile → ((other : Iso) → other.turn < by.turn → IsCellListOf (image g other shape) tile → ⊥) → IsLeastIsometry g shape tile by
least_of g shape tile by is gives none =
    record { is_isometry = is; gives = gives; least = λ other o l. not_below other.turn by.turn (λ less. none other less l) }

pub none_more : (g : Geometry) (shape tile : List Cell) (k : ℕ) → ((other : Iso) → other.turn < k → IsCellListOf (image g other shape) tile → ⊥) → ((other : Iso) → other.turn ≡ k → IsCellListOf (image g other shape) tile → ⊥) → (other : Iso) → other.turn < k + 1 → IsCellListOf (image g other shape) tile → ⊥
none_more g shape tile k old now other less l =
    elim (cases_Bool (nat_lt other.turn k)) [ inl t ↦ old other (ltb-true other.turn k t) l | inr e ↦ now other (equal other.turn k less e) l ]
  where
    equal : (m n : ℕ) → m < n + 1 → nat_lt m n ≡ false → m ≡ n
    equal m n l e = grind arith

-- ---- moves without a turn
module _ (g : Geometry) (law : IsGrid g) where
  unturned : (xs : List Cell) → map (g.turn 0) xs ≡ xs
  unturned [] = refl
  unturned (x ∷ xs) = λ i. law.identity x i ∷ unturned xs i

  -- the image of a list in cell order by a move is the moved list
  pub carried : (by : Iso) (xs ys : List Cell) → by.turn ≡ 0 → IsRising cell_before xs → IsCellListOf (image g by xs) ys → ys ≡ map (plus (move_of g by)) xs
  carried by xs ys turn r l =
      leads g 0 by xs xs ys turn (subst (λ zs. IsCellListOf zs xs) (sym (unturned xs)) (record { rising = r; only = All-from_members (Contains xs) xs (λ c m. m); every = λ c m. m })) l

  -- a move by few units is short
  pub step_near : (by : Iso) (units : Cell) (n : ℕ) → by.da ≡ units.a → by.db ≡ units.b → IsWithin n units → IsWithin (6 * n) (move_of g by)
  step_near by units n ea eb w =
      let a = unit_product g law (pos g.unit *ℤ by.da) (pos g.unit) by.da units.a n refl refl ea w.a_low w.a_high in
      let b = unit_product g law (pos g.unit *ℤ by.db) (pos g.unit) by.db units.b n refl refl eb w.b_low w.b_high in
      record { a_low = a.1; a_high = a.2; b_low = b.1; b_high = b.2 }

  -- and lies near where the list lies
  pub carried_near : (by : Iso) (xs : List Cell) (n m : ℕ) → by.turn ≡ 0 → ((c : Cell) → has xs c ≡ true → IsWithin n c) → IsWithin m (move_of g by) → (d : Cell) → Contains (image g by xs) d → IsWithin (n + m) d
  carried_near by xs n m turn near w d inside =
      let c = map_member (apply g by) xs d inside in
      let v = near c.0 (has-is xs c.0 c.1) in
      let e : apply g by c.0 ≡ plus (move_of g by) c.0 = sym (applied g by c.0) ∙ ap (λ k. plus (move_of g by) (g.turn k c.0)) turn ∙ ap (plus (move_of g by)) (law.identity c.0) in
      subst (IsWithin (n + m)) (sym e ∙ c.2) (record { a_low = omega (arith, ints, v.a_low, w.a_low); a_high = omega (arith, ints, v.a_high, w.a_high); b_low = omega (arith, ints, v.b_low, w.b_low); b_high = omega (arith, ints, v.b_high, w.b_high) })

-- how far the one cell lies from the other
pub away : (d from to : Cell) → plus d from ≡ to → d ≡ minus to from
away d from to e = let a = ap (λ z. z.a) e in let b = ap (λ z. z.b) e in Cell-eta d (minus to from) (omega (arith, ints, a)) (omega (arith, ints, b))
