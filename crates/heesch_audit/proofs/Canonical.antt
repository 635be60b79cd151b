-- Cells that are canonical have no fault, and are their own canonical list.
use Rattle.std.proofs.Common.{◌≡◌, refl, sym, ap, subst, ◌∙◌, ℕ, zero, suc, ◌<◌, ◌≤◌, true, false, not, ◌||◌, List, [], ◌∷◌, length, take, arith, true≢false, not-suc-le-zero, le_of_suc-le-suc, inl, inr}
use Rattle.std.specs.Prelude.{IsTrue}
use Rattle.std.proofs.lemmas.Bool.{cases_Bool}
use Rattle.std.proofs.lemmas.Int.{ints}
use Rattle.std.proofs.lemmas.List.Elements.{All-contains, Contains-get_or}
use Rattle.heesch_grid.specs.declared.Cell.{Cell}
use Rattle.heesch_grid.specs.Cells.{has, same_cell, cell_before, IsCellListOf}
use Rattle.heesch_grid.specs.Geometry.{Geometry, IsGrid, IsCell}
use Rattle.heesch_grid.specs.Listing.{IsRising}
use Rattle.heesch_grid.specs.Pairs.{same_cell-true}
use Rattle.heesch_grid.specs.Polyform.{IsPolyform, IsCanonicalListOf}
use Rattle.heesch_grid.specs.Vectors.{IsWithin}
use Rattle.heesch_grid.proofs.CellFacts.{cell_before-irreflexive}
use Rattle.heesch_grid.proofs.GrowthOfLists.{canonical_of_image, image_length}
use Rattle.heesch_grid.proofs.IsometryFacts.{image_polyform}
use Rattle.heesch_grid.proofs.Pinned.{one_canonical_list}
use Rattle.heesch_shape.specs.declared.faults.ShapeFault.{ShapeFault}
use Rattle.heesch_shape.specs.declared.faults.ShapeFault.TheVariants.{Empty, TooMany, NotACell, Repeated, Apart}
use Rattle.heesch_shape.specs.Faults.{IsFault}
use Rattle.heesch_shape.specs.Places.{nth}
use Rattle.heesch_shape.specs.Walks.{IsShape}
use Rattle.heesch_shape.proofs.Made.{zero_cell}
use Rattle.heesch_shape.proofs.Near.{canonical_within}
use Rattle.heesch_shape.proofs.Sets.{one_list}
use Rattle.heesch_shape.proofs.Words.{rising_test, same_of_list}
use Rattle.heesch_audit.specs.Shapes.{AreCanonical, IsCanonicalShape}

-- a cell of a rising list is none of those before it
no_repeat : (xs : List Cell) (at : ℕ) → IsRising cell_before xs → at < length xs → has (take at xs) (nth xs at) ≡ false
no_repeat [] at r l = absurd (not-suc-le-zero l)
no_repeat (x ∷ xs) zero r l = refl
no_repeat (x ∷ xs) (suc k) r l =
    let c : Cell = nth xs k in
    let later : cell_before x c ≡ true = All-contains (λ y. IsTrue (cell_before x y)) xs c r.0 (Contains-get_or xs k zero_cell (le_of_suc-le-suc l)) in
    let first : same_cell c x ≡ false =
    elim (cases_Bool (same_cell c x)) [
      | inl same ↦ absurd (true≢false (sym later ∙ (ap (cell_before x) (same_cell-true c x same) ∙ cell_before-irreflexive x)))
      | inr other ↦ other
    ] in
    ap (λ b. b || has (take k xs) c) first ∙ no_repeat xs k r.1 (le_of_suc-le-suc l)

module _ (g : Geometry) (law : IsGrid g) (cells : List Cell) where
  pub record Form : Type 0 where
    pub polyform : IsPolyform g cells
    pub few : length cells ≤ 32
    pub canonical : IsCanonicalListOf g cells cells

  pub form_of : AreCanonical g cells → Form
  form_of (n, low, high, free) =
      let image = free.canonical.is_image in
      let long : length cells ≡ length free.cells = image_length g law free.cells cells free.polyform.is_set.rising image in
      let size = free.size in
      record {
        polyform = image_polyform g law free.cells cells free.polyform image;
        few = omega arith;
        canonical = canonical_of_image g law free.cells cells cells free.polyform.is_set.rising image free.canonical;
      }

  pub no_fault : (f : ShapeFault) → IsFault g cells f → ¬ AreCanonical g cells
  no_fault Empty h a = let f = form_of a in let some = f.polyform.some in omega (arith, h, some)
  no_fault TooMany h a = let f = form_of a in let few = f.few in omega (arith, h, few)
  no_fault (NotACell at) h a =
      let f = form_of a in
      let cell : IsCell g (nth cells at) = All-contains (IsCell g) cells (nth cells at) f.polyform.is_set.in_grid (Contains-get_or cells at zero_cell h.2.below) in
      true≢false (sym cell ∙ h.2.fails)
  no_fault (Repeated at) h a =
      let f = form_of a in
      true≢false (ap not (sym (no_repeat cells at f.polyform.is_set.rising h.3.below)) ∙ h.3.fails)
  no_fault (Apart at) h a =
      let f = form_of a in
      let some = f.polyform.some in
      h.4.apart (f.polyform.joined (nth cells 0) (nth cells at) (Contains-get_or cells 0 zero_cell some) (Contains-get_or cells at zero_cell h.4.below))

  -- the shape of the cells is the cells, where they are canonical
  pub shape_itself : (shape : List Cell) → IsShape g shape → IsCellListOf cells shape → AreCanonical g cells → shape ≡ cells
  shape_itself shape form list a =
      one_list shape cells (rising_test cell_before shape form.polyform.is_set.rising) (rising_test cell_before cells (form_of a).polyform.is_set.rising) (same_of_list cells shape list).same

  -- and so is its canonical list
  pub made_itself : (shape canonical : List Cell) → IsShape g shape → IsCellListOf cells shape → IsCanonicalListOf g shape canonical → AreCanonical g cells → canonical ≡ cells
  made_itself shape canonical form list c a = one_canonical_list g cells canonical cells (subst (λ xs. IsCanonicalListOf g xs canonical) (shape_itself shape form list a) c) (form_of a).canonical

-- the cells are canonical where the canonical list is the cells
pub are_canonical : (g : Geometry) (cells shape canonical : List Cell) → IsShape g shape → IsCanonicalListOf g shape canonical → canonical ≡ cells → AreCanonical g cells
are_canonical g cells shape canonical form c same =
    (length shape, form.polyform.some, form.few, record { cells = shape; polyform = form.polyform; size = refl; canonical = subst (IsCanonicalListOf g shape) same c })

wider : (c : Cell) → IsWithin 200 c → IsWithin 100000 c
wider c w = record { a_low = omega (arith, ints, w.a_low); a_high = omega (arith, ints, w.a_high); b_low = omega (arith, ints, w.b_low); b_high = omega (arith, ints, w.b_high) }

pub canonical_shape : (g : Geometry) → IsGrid g → (shape canonical : List Cell) → IsShape g shape → IsShape g canonical → IsCanonicalListOf g shape canonical → IsCanonicalShape g canonical
canonical_shape g law shape canonical form other c = record {
  is_shape = other;
  canonical = canonical_of_image g law shape canonical canonical form.polyform.is_set.rising c.is_image c;
  near = λ d h. wider d (canonical_within g law shape canonical form.polyform c other.few d h);
}
