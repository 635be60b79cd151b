-- Steps of loops that look for a cell.
use Rattle.std.proofs.Common.{◌≡◌, refl, sym, ap, ◌∙◌, ℕ, ◌+◌, ◌<◌, Bool, true, false, ◌||◌, ◌&&◌, not, List, length, get_or, take, Some, true≢false}
use Rattle.std.specs.List.{list_any, slice_get}
use Rattle.std.proofs.Math.Seq.{take-length}
use Rattle.std.proofs.lemmas.List.Folds.{list_any_at, list_any_more}
use Rattle.std.proofs.lemmas.Option.{get_or_from_slice_get}
use Rattle.std.proofs.lemmas.List.Elements.{All-contains}
use Rattle.heesch_grid.specs.declared.Cell.{Cell}
use Rattle.heesch_grid.specs.Cells.{has, meet}
use Rattle.heesch_grid.specs.Geometry.{Geometry, IsCell, IsGrid, Touching, are_touching}
use Rattle.heesch_grid.specs.Placement.{touch}
use Rattle.heesch_grid.specs.Pairs.{has-true}
use Rattle.heesch_shape.specs.Walks.{IsShape}
use Rattle.heesch_grid.proofs.CellFacts.{has-is}
use Rattle.heesch_grid.proofs.ListFacts.{any_member, member_any}

or_none : (a b : Bool) → a ≡ false → b ≡ false → (a || b) ≡ false
or_none true b e f = absurd (true≢false e)
or_none false b e f = f

pub found : (p : Cell → Bool) (xs : List Cell) (i : ℕ) (e : Cell) → i < length xs → p (get_or xs i e) ≡ true → list_any p xs ≡ true
found p xs i e less h = list_any_at p xs i e less h

pub none_more : (p : Cell → Bool) (xs : List Cell) (i : ℕ) (e : Cell) → i < length xs → p (get_or xs i e) ≡ false → list_any p (take i xs) ≡ false → list_any p (take (i + 1) xs) ≡ false
none_more p xs i e less h old = list_any_more p xs i e less ∙ or_none (list_any p (take i xs)) (p (get_or xs i e)) old h

pub none_all : (p : Cell → Bool) (xs : List Cell) (i : ℕ) → i ≡ length xs → list_any p (take i xs) ≡ false → list_any p xs ≡ false
none_all p xs i e h = ap (list_any p) (sym (take-length xs) ∙ ap (λ n. take n xs) (sym e)) ∙ h

pub item_at : (p : Cell → Bool) (xs : List Cell) (i : ℕ) (r : Cell) (b : Bool) → slice_get xs i ≡ Some r → p r ≡ b → p (get_or xs i r) ≡ b
item_at p xs i r b e h = ap p (get_or_from_slice_get xs i r r e) ∙ h

-- a cell touches one of the others where one of the cells that touch it is among them
pub touching_any : (g : Geometry) → IsGrid g → (c : Cell) → IsCell g c → (xs : List Cell) → list_any (has xs) (g.touching c) ≡ list_any (are_touching g c) xs
touching_any g law c c_in xs = go (list_any (has xs) (g.touching c)) (list_any (are_touching g c) xs) refl refl
  where
    forth : list_any (has xs) (g.touching c) ≡ true → list_any (are_touching g c) xs ≡ true
    forth h =
        let d = any_member (has xs) (g.touching c) h in
        member_any (are_touching g c) xs d.0 (has-true xs d.0 d.2) (All-contains (Touching g c) (g.touching c) d.0 (law.touching_listed c c_in).0.only d.1)

    back : list_any (are_touching g c) xs ≡ true → list_any (has xs) (g.touching c) ≡ true
    back h =
        let d = any_member (are_touching g c) xs h in
        member_any (has xs) (g.touching c) d.0 ((law.touching_listed c c_in).0.every d.0 d.2) (has-is xs d.0 d.1)

    go : (a b : Bool) → list_any (has xs) (g.touching c) ≡ a → list_any (are_touching g c) xs ≡ b → a ≡ b
    go true true p q = refl
    go false false p q = refl
    go true false p q = sym (forth p) ∙ q
    go false true p q = sym p ∙ back q

pub shape_cells : (g : Geometry) (xs : List Cell) → IsShape g xs → (c : Cell) → has xs c ≡ true → IsCell g c
shape_cells g xs s c h = All-contains (IsCell g) xs c s.polyform.is_set.in_grid (has-true xs c h)

pub touch_apart : (g : Geometry) (xs ys : List Cell) → meet xs ys ≡ false → list_any (λ c. list_any (are_touching g c) ys) xs ≡ touch g xs ys
touch_apart g xs ys e = ap (λ b. not b && list_any (λ c. list_any (are_touching g c) ys) xs) (sym e)
