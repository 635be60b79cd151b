-- The residue set of an image, from its reduced cells in order.
use Rattle.std.proofs.Common.{◌≡◌, sym, subst, ◌∙◌, List, length, arith, Contains, IsPermutation, IsSorted}
use Rattle.std.proofs.lemmas.List.Elements.{All-contains}
use Rattle.std.proofs.lemmas.List.Sorted.{length_permutation, Contains-permutation, IsPermutation-sym}
use Rattle.heesch_grid.specs.declared.Cell.{Cell}
use Rattle.heesch_grid.specs.declared.isometries.Iso.{Iso}
use Rattle.heesch_grid.specs.Cells.{cell_cmp}
use Rattle.heesch_grid.specs.Geometry.{Geometry, IsCell, IsIsometry, IsGrid, apply, image}
use Rattle.heesch_grid.specs.Lattice.{Triple, IsTriple}
use Rattle.heesch_grid.specs.Polyform.{IsPolyform}
use Rattle.heesch_grid.specs.TorusFormula.{IsReducedFrom, GivesResidues}
use Rattle.heesch_grid.proofs.ListFacts.{All-from_members}
use Rattle.heesch_grid.proofs.ReductionFacts.{vector_i, vector_j, is_reduced, reduced_once}
use Rattle.heesch_grid.proofs.WindowFacts.{map_member, member_map}
use Rattle.heesch_tiling.specs.Counting.{residue, tile_residues}
use Rattle.heesch_tiling.proofs.Steps.{map_length}
use Rattle.heesch_torus.specs.Repeats.{HasRepeat, HasNoRepeat}
use Rattle.heesch_torus.proofs.Repeating.{rising_from_sorted, Shorter, shorter, fits}

-- the cells of a polyform are cells of the grid
pub in_grid : (g : Geometry) (shape : List Cell) → IsPolyform g shape → (c : Cell) → Contains shape c → IsCell g c
in_grid g shape form c m = All-contains (IsCell g) shape c form.is_set.in_grid m

module _ (g : Geometry) (law : IsGrid g) (shape : List Cell) (cells : (c : Cell) → Contains shape c → IsCell g c) (t : Triple) (triple : IsTriple t) (by : Iso) (turn : IsIsometry g by) where
  pub image_cell : (c : Cell) → Contains (image g by shape) c → IsCell g c
  image_cell c m = let r = map_member (apply g by) shape c m in subst (λ z. IsCell g z) r.2 (law.cells_kept by turn r.0 (cells r.0 r.1))

  -- the members of the reduced cells are the reduced cells of the image
  pub from_tile : (c : Cell) → Contains (tile_residues g shape t by) c → IsReducedFrom g t (image g by shape) c
  from_tile c m =
      let q = map_member (residue g t) (image g by shape) c m in
      subst (IsReducedFrom g t (image g by shape)) q.2 (record {
        reduced = is_reduced g law t triple q.0 (image_cell q.0 q.1);
        member = q.0;
        inside = q.1;
        differs = record { i = vector_i g law t triple q.0; j = vector_j g law t triple q.0; is = λ _. residue g t q.0 };
      })

  pub in_tile : (c : Cell) → IsReducedFrom g t (image g by shape) c → Contains (tile_residues g shape t by) c
  in_tile c a = subst (λ z. Contains (tile_residues g shape t by) z) (sym (reduced_once g law t triple a.differs.i a.differs.j a.member c (image_cell a.member a.inside) a.reduced a.differs.is)) (member_map (residue g t) (image g by shape) a.member a.inside)

  pub tile_count : length (tile_residues g shape t by) ≡ length shape
  tile_count = map_length (residue g t) (image g by shape) ∙ map_length (apply g by) shape

  -- sorted without repeats they are the residue set
  pub gives_residues : (xs : List Cell) → IsPermutation (tile_residues g shape t by) xs → IsSorted cell_cmp xs → HasNoRepeat xs → GivesResidues g shape t xs by
  gives_residues xs p sorted none = record {
    is_isometry = turn;
    lists = record {
      rising = rising_from_sorted xs sorted none;
      only = All-from_members (IsReducedFrom g t (image g by shape)) xs (λ c m. from_tile c (Contains-permutation xs (tile_residues g shape t by) c (IsPermutation-sym (tile_residues g shape t by) xs p) m));
      every = λ c a. Contains-permutation (tile_residues g shape t by) xs c p (in_tile c a);
    };
    all_differ = length_permutation (tile_residues g shape t by) xs p ∙ tile_count;
  }

  -- and with a repeat there is no residue set
  pub gives_none : (xs : List Cell) → IsPermutation (tile_residues g shape t by) xs → HasRepeat xs → (residues : List Cell) → ¬ GivesResidues g shape t residues by
  gives_none xs p repeat residues k =
      let s : Shorter xs = shorter xs repeat.at repeat.below repeat.same in
      let few = fits residues s.list k.lists.rising (λ c m. s.keeps c (Contains-permutation (tile_residues g shape t by) xs c p (in_tile c (All-contains (IsReducedFrom g t (image g by shape)) residues c k.lists.only m)))) in
      let all = k.all_differ in
      let long = length_permutation (tile_residues g shape t by) xs p in
      let count = tile_count in
      let less = s.less in
      omega arith
