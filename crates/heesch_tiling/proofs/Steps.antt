-- One step of the loops over tiles, and the bounds of images.
use Rattle.std.proofs.Common.{◌≡◌, refl, sym, ap, ◌∙◌, ℕ, suc, ◌+◌, ◌*◌, ◌<◌, List, [], ◌∷◌, ◌++◌, map, length, get_or, take, true, arith}
use Rattle.std.proofs.lemmas.Int.{ints}
use Rattle.std.proofs.lemmas.List.{take_more}
use Rattle.heesch_grid.specs.declared.Cell.{Cell}
use Rattle.heesch_grid.specs.declared.isometries.Iso.{Iso}
use Rattle.heesch_grid.specs.Cells.{has}
use Rattle.heesch_grid.specs.Polyform.{IsPolyform}
use Rattle.heesch_grid.specs.Pairs.{has-true}
use Rattle.std.proofs.lemmas.List.Elements.{All-contains}
use Rattle.heesch_grid.specs.Vectors.{IsWithin}
use Rattle.heesch_grid.specs.Geometry.{Geometry, IsGrid, IsCell, apply, image}
use Rattle.heesch_grid.specs.Integers.{small_multiple}
use Rattle.heesch_grid.specs.Lattice.{Triple}
use Rattle.heesch_grid.proofs.Images.{turn_within}
use Rattle.heesch_tiling.specs.Counting.{residue, tile_cells, tile_residues, residues, IsInRange}

pub image_within : (g : Geometry) → IsGrid g → (by : Iso) (c : Cell) → IsInRange g by → IsWithin 100000 c → IsWithin 1000000 (apply g by c)
image_within g law by c range w =
    let m = turn_within g law by.turn 100000 c range.turn w in
    let a = small_multiple g.unit by.da 100000 law.unit_range.1 range.near.a_low range.near.a_high in
    let b = small_multiple g.unit by.db 100000 law.unit_range.1 range.near.b_low range.near.b_high in
    record {
      a_low = omega (arith, ints, m.a_low, a.0);
      a_high = omega (arith, ints, m.a_high, a.1);
      b_low = omega (arith, ints, m.b_low, b.0);
      b_high = omega (arith, ints, m.b_high, b.1);
    }

pub map_append : {X Y : Type 0} (f : X → Y) (xs ys : List X) → map f (xs ++ ys) ≡ map f xs ++ map f ys
map_append f [] ys = refl
map_append f (x ∷ xs) ys = ap (λ zs. f x ∷ zs) (map_append f xs ys)

append_assoc : {X : Type 0} (xs ys zs : List X) → (xs ++ ys) ++ zs ≡ xs ++ (ys ++ zs)
append_assoc [] ys zs = refl
append_assoc (x ∷ xs) ys zs = ap (λ ws. x ∷ ws) (append_assoc xs ys zs)

pub append_none : {X : Type 0} (xs : List X) → xs ++ [] ≡ xs
append_none [] = refl
append_none (x ∷ xs) = ap (λ ws. x ∷ ws) (append_none xs)

append_length : {X : Type 0} (xs ys : List X) → length (xs ++ ys) ≡ length xs + length ys
append_length [] ys = omega arith
append_length (x ∷ xs) ys = let e = append_length xs ys in omega (arith, e)

pub map_length : {X Y : Type 0} (f : X → Y) (xs : List X) → length (map f xs) ≡ length xs
map_length f [] = refl
map_length f (x ∷ xs) = ap suc (map_length f xs)

module _ (g : Geometry) (shape : List Cell) (t : Triple) where
  cells_more : (places : List Iso) (by : Iso) → tile_cells g shape (places ++ by ∷ []) ≡ tile_cells g shape places ++ image g by shape
  cells_more [] by = append_none (image g by shape)
  cells_more (x ∷ places) by = ap (λ cs. image g x shape ++ cs) (cells_more places by) ∙ sym (append_assoc (image g x shape) (tile_cells g shape places) (image g by shape))

  pub residues_more : (places : List Iso) (i : ℕ) (d : Iso) → i < length places → residues g shape t (take (i + 1) places) ≡ residues g shape t (take i places) ++ tile_residues g shape t (get_or places i d)
  residues_more places i d less =
      ap (residues g shape t) (take_more places i d less)
      ∙ ap (map (residue g t)) (cells_more (take i places) (get_or places i d))
      ∙ map_append (residue g t) (tile_cells g shape (take i places)) (image g (get_or places i d) shape)

  cells_length : (places : List Iso) → length (tile_cells g shape places) ≡ length shape * length places
  cells_length [] = omega arith
  cells_length (by ∷ places) =
      let a = append_length (image g by shape) (tile_cells g shape places) in
      let b = map_length (apply g by) shape in
      let c = cells_length places in
      omega (arith, a, b, c)

  pub residues_length : (places : List Iso) → length (residues g shape t places) ≡ length shape * length places
  residues_length places = map_length (residue g t) (tile_cells g shape places) ∙ cells_length places

pub cells_near : (g : Geometry) (xs : List Cell) → IsPolyform g xs → ((c : Cell) → has xs c ≡ true → IsWithin 100000 c) → (c : Cell) → has xs c ≡ true → IsCell g c × IsWithin 100000 c
cells_near g xs form near c h = (All-contains (IsCell g) xs c form.is_set.in_grid (has-true xs c h), near c h)
