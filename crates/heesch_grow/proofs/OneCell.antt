-- There is one free polyform of one cell, since each cell is carried to each other.
use Rattle.std.proofs.Common.{◌≡◌, List, [], ◌∷◌, length, Contains, All, refl, sym, ◌∙◌, subst, arith, inl, inr}
use Rattle.std.specs.Prelude.{IsTrue}
use Rattle.std.proofs.lemmas.List.Elements.{All-contains, All-cons, All-nil}
use Rattle.heesch_grid.specs.declared.Cell.{Cell}
use Rattle.heesch_grid.specs.declared.isometries.Iso.{Iso}
use Rattle.heesch_grid.specs.Cells.{cell_before, cells_before}
use Rattle.heesch_grid.specs.Geometry.{Geometry, IsGrid, IsCell, IsIsometry, apply}
use Rattle.heesch_grid.specs.Polyform.{IsImageOf, IsCanonicalListOf, IsFreePolyform}
use Rattle.heesch_grid.proofs.ListFacts.{member_cases, member_here, no_member}
use Rattle.heesch_grid.proofs.GrowthOfLists.{image_then}
use Rattle.heesch_grid.proofs.Pinned.{one_canonical_list}
use Rattle.heesch_grow.specs.First.{FirstIsFreeList}

module _ (g : Geometry) (law : IsGrid g) where
  -- one cell is the image of another
  one_image : (by : Iso) (c d : Cell) → IsIsometry g by → apply g by c ≡ d → IsImageOf g (c ∷ []) (d ∷ [])
  one_image by c d less e = record {
    by = by;
    is_isometry = less;
    is_list = record {
      rising = (All-nil (λ y. IsTrue (cell_before d y)), tt);
      only = All-cons (Contains (apply g by c ∷ [])) d [] (subst (λ z. Contains (z ∷ []) d) (sym e) (member_here d [])) (All-nil (Contains (apply g by c ∷ [])));
      every = λ x m. elim (member_cases (apply g by c) [] x m) [ inl h ↦ subst (λ z. Contains (d ∷ []) z) (sym e ∙ h) (member_here d []) | inr none ↦ absurd (no_member x none) ];
    };
  }

  -- one cell has the canonical list of another that it is carried to and from
  one_canonical : (c d : Cell) (result : List Cell) → IsImageOf g (c ∷ []) (d ∷ []) → IsImageOf g (d ∷ []) (c ∷ []) → IsCanonicalListOf g (c ∷ []) result → IsCanonicalListOf g (d ∷ []) result
  one_canonical c d result to from canonical = record {
    is_image = image_then g law (d ∷ []) (c ∷ []) result from canonical.is_image;
    normalised = canonical.normalised;
    least = λ other k n. canonical.least other (image_then g law (c ∷ []) (d ∷ []) other to k) n;
  }

one_cell : (xs : List Cell) → length xs ≡ 1 → (c : Cell) × (xs ≡ c ∷ [])
one_cell [] e = absurd (omega arith)
one_cell (c ∷ []) e = (c, refl)
one_cell (c ∷ d ∷ xs) e = absurd (omega arith)

-- a free polyform of one cell is the canonical list of that cell
record IsOfCell (g : Geometry) (result : List Cell) : Type 0 where
  of : Cell
  is_cell : IsCell g of
  canonical : IsCanonicalListOf g (of ∷ []) result

of_cell : (g : Geometry) (result : List Cell) → IsFreePolyform g 1 result → IsOfCell g result
of_cell g result f =
    let c = one_cell f.cells f.size in
    record {
      of = c.0;
      is_cell = All-contains (IsCell g) (c.0 ∷ []) c.0 (subst (All (IsCell g)) c.1 f.polyform.is_set.in_grid) (member_here c.0 []);
      canonical = subst (λ xs. IsCanonicalListOf g xs result) c.1 f.canonical;
    }

pub first_is_free_list : FirstIsFreeList
first_is_free_list g first law f = record {
  rising = (All-nil (λ ys. IsTrue (cells_before first ys)), tt);
  only = All-cons (IsFreePolyform g 1) first [] f (All-nil (IsFreePolyform g 1));
  every = λ other h.
      let c = of_cell g first f in
      let d = of_cell g other h in
      let to = law.alike d.of c.of d.is_cell c.is_cell in
      let from = law.alike c.of d.of c.is_cell d.is_cell in
      let same = one_canonical g law d.of c.of other (one_image g law to.0 d.of c.of to.1 to.2) (one_image g law from.0 c.of d.of from.1 from.2) d.canonical in
      subst (λ z. Contains (first ∷ []) z) (one_canonical_list g (c.of ∷ []) first other c.canonical same) (member_here first []);
}
