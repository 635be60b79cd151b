-- One cell is a shape.
use Rattle.std.proofs.Common.{◌≡◌, true, [], ◌∷◌, Contains, sym, ◌∙◌, subst, arith, inl, inr}
use Rattle.std.specs.Prelude.{IsTrue}
use Rattle.std.proofs.lemmas.List.Elements.{All-cons, All-nil}
use Rattle.heesch_grid.specs.declared.Cell.{Cell}
use Rattle.heesch_grid.specs.Cells.{cell_before}
use Rattle.heesch_grid.specs.Vectors.{IsWithin}
use Rattle.heesch_grid.specs.Geometry.{Geometry, IsCell}
use Rattle.heesch_grid.specs.Polyform.{Joined, start}
use Rattle.heesch_grid.specs.Pairs.{has-true}
use Rattle.heesch_grid.proofs.ListFacts.{member_cases, no_member}
use Rattle.heesch_shape.specs.Walks.{IsShape}

only : (c d : Cell) → Contains (c ∷ []) d → c ≡ d
only c d m = elim (member_cases c [] d m) [ inl e ↦ e | inr none ↦ absurd (no_member d none) ]

pub single_shape : (g : Geometry) (c : Cell) → g.is_cell c ≡ true → IsWithin 1000000 c → IsShape g (c ∷ [])
single_shape g c c_in near = record {
  polyform = record {
    is_set = record {
      rising = (All-nil (λ y. IsTrue (cell_before c y)), tt);
      in_grid = All-cons (IsCell g) c [] c_in (All-nil (IsCell g));
    };
    some = omega arith;
    joined = λ d e m k. subst (λ z. Joined g (c ∷ []) d z) (sym (only c d m) ∙ only c e k) start;
  };
  few = omega arith;
  within = λ d h. subst (IsWithin 1000000) (only c d (has-true (c ∷ []) d h)) near;
}
