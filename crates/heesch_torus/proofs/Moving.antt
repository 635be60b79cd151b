-- Reduced cells, moved: a lattice vector doesn't change what a cell is reduced to, and moving what a cell is reduced to leads where moving the cell does.
use Rattle.std.proofs.Common.{◌≡◌, refl, sym, ap, subst, ◌∙◌, List, [], ◌∷◌, map, arith, Contains}
use Rattle.std.specs.Prelude.{ℤ, pos, ◌+ℤ◌, ◌*ℤ◌}
use lib.IntN.{zero-*ℤ}
use Rattle.std.proofs.lemmas.Int.{ints}
use Rattle.heesch_grid.specs.declared.Cell.{Cell}
use Rattle.heesch_grid.specs.declared.isometries.Iso.{Iso}
use Rattle.heesch_grid.specs.Geometry.{Geometry, IsGrid, IsCell, IsIsometry, apply, moved}
use Rattle.heesch_grid.specs.Lattice.{Triple, IsTriple, translated}
use Rattle.heesch_grid.proofs.ListFacts.{member_here, member_there}
use Rattle.heesch_grid.proofs.IsometryFacts.{moved_twice}
use Rattle.heesch_grid.proofs.ReductionFacts.{vector_i, vector_j, is_reduced, reduced_once, translated_twice, translated_cell}
use Rattle.heesch_tiling.specs.Counting.{residue, tile_residues}
use Rattle.heesch_torus.specs.Stepping.{one_further}

-- the isometry, and then a translation by so many units
abbrev pub further : Iso → ℤ → ℤ → Iso
further by da db = record { turn = by.turn; da = by.da +ℤ da; db = by.db +ℤ db }

module _ (g : Geometry) (law : IsGrid g) (t : Triple) (triple : IsTriple t) where
  pub residue_moved : (i j : ℤ) (c : Cell) → IsCell g c → residue g t (translated g t i j c) ≡ residue g t c
  residue_moved i j c cell =
      let d : Cell = translated g t i j c in
      let d_cell = translated_cell g law t triple i j c cell in
      reduced_once g law t triple (i +ℤ vector_i g law t triple d) (j +ℤ vector_j g law t triple d) c (residue g t d) cell (is_reduced g law t triple d d_cell) (translated_twice g law t triple i j (vector_i g law t triple d) (vector_j g law t triple d) c)

  pub moved_cell : (da db : ℤ) (c : Cell) → IsCell g c → IsCell g (moved g da db c)
  moved_cell da db c cell =
      let by : Iso = record { turn = 0; da = da; db = db } in
      subst (λ z. IsCell g (moved g da db z)) (law.identity c) (law.cells_kept by law.turns_range.0 c cell)

  pub further_reduced : (da db : ℤ) (c : Cell) → IsCell g c → one_further g t da db (residue g t c) ≡ one_further g t da db c
  further_reduced da db c cell =
      let i : ℤ = vector_i g law t triple c in
      let j : ℤ = vector_j g law t triple c in
      let x : ℤ = i *ℤ pos t.p +ℤ j *ℤ pos t.s in
      let y : ℤ = j *ℤ pos t.q in
      ap (residue g t) (moved_twice g law x y da db c ∙ (λ n. moved g (turned x da n) (turned y db n) c) ∙ sym (moved_twice g law da db x y c))
      ∙ residue_moved i j (moved g da db c) (moved_cell da db c cell)
    where
      turned : (x y : ℤ) → x +ℤ y ≡ y +ℤ x
      turned x y = omega (arith, ints)

  -- the reduced cells of a tile moved further
  pub residues_further : (by : Iso) (da db : ℤ) → IsIsometry g by → (cells : List Cell) → ((c : Cell) → Contains cells c → IsCell g c) → tile_residues g cells t (further by da db) ≡ map (one_further g t da db) (tile_residues g cells t by)
  residues_further by da db p [] cell = refl
  residues_further by da db p (c ∷ cells) cell = λ n.
      (ap (residue g t) (sym (moved_twice g law by.da by.db da db (g.turn by.turn c))) ∙ sym (further_reduced da db (apply g by c) (law.cells_kept by p c (cell c (member_here c cells))))) n
      ∷ residues_further by da db p cells (λ d m. cell d (member_there c cells d m)) n

  -- p units to the right of a tile are the same reduced cells
  pub residues_round : (by : Iso) → IsIsometry g by → (cells : List Cell) → ((c : Cell) → Contains cells c → IsCell g c) → tile_residues g cells t (further by (pos t.p) (pos 0)) ≡ tile_residues g cells t by
  residues_round by p [] cell = refl
  residues_round by p (c ∷ cells) cell = λ n.
      (ap (residue g t) (round c) ∙ residue_moved (pos 1) (pos 0) (apply g by c) (law.cells_kept by p c (cell c (member_here c cells)))) n
      ∷ residues_round by p cells (λ d m. cell d (member_there c cells d m)) n
    where
      across : (x : ℤ) → x ≡ pos 0 → pos t.p ≡ pos 1 *ℤ pos t.p +ℤ x
      across x e = omega (arith, ints)

      round : (c : Cell) → apply g (further by (pos t.p) (pos 0)) c ≡ translated g t (pos 1) (pos 0) (apply g by c)
      round c =
          sym (moved_twice g law by.da by.db (pos t.p) (pos 0) (g.turn by.turn c))
          ∙ (λ n. moved g (across (pos 0 *ℤ pos t.s) (zero-*ℤ (pos t.s)) n) (sym (zero-*ℤ (pos t.q)) n) (apply g by c))
