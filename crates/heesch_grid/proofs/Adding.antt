-- A polyform with one more cell, beside one of its cells, is a polyform.
use Rattle.std.proofs.Common.{◌≡◌, subst, suc, ◌&&◌, ◌==◌, not, List, ◌∷◌, length, inl, inr, arith, Contains}
use Rattle.std.proofs.lemmas.List.Elements.{All-cons, All-contains}
use Rattle.std.proofs.lemmas.Bool.{and_parts}
use Rattle.heesch_grid.specs.declared.Cell.{Cell}
use Rattle.heesch_grid.specs.Cells.{same_cell, IsCellListOf}
use Rattle.heesch_grid.specs.Geometry.{Geometry, IsCell, Adjacent, are_two_cells, shared_corners, IsGrid}
use Rattle.heesch_grid.specs.Polyform.{Joined, start, next, IsPolyform}
use Rattle.heesch_grid.proofs.ListFacts.{member_here, member_there, member_cases, All-from_members}
use Rattle.heesch_grid.proofs.GridFacts.{Adjacent-symmetric}
use Rattle.heesch_grid.proofs.Growth.{joined_trans, joined_within}
use Rattle.heesch_grid.proofs.GrowthOfLists.{not_has, rising_no_repeat, list_length}

module _ (g : Geometry) (law : IsGrid g) where
  pub adjacent_cell : (c d : Cell) → Adjacent g c d → IsCell g d
  adjacent_cell c d a =
      (and_parts (g.is_cell d) (not (same_cell c d)) (and_parts (g.is_cell c) (g.is_cell d && not (same_cell c d)) (and_parts (are_two_cells g c d) (shared_corners g c d == 2) a).0).1).0

  record Ways (cells : List Cell) (c d : Cell) : Type 0 where
    to : Joined g cells c d
    from : Joined g cells d c

  module _ (parent : List Cell) (form : IsPolyform g parent) (member added : Cell) (inside : Contains parent member) (adjacent : Adjacent g member added) (outside : Contains parent added → ⊥) (cells : List Cell) (is_list : IsCellListOf (added ∷ parent) cells) where
    pub added_length : length cells ≡ suc (length parent)
    added_length = list_length (added ∷ parent) cells is_list (not_has parent added outside, rising_no_repeat parent form.is_set.rising)

    pub added_polyform : IsPolyform g cells
    added_polyform =
        let longer = added_length in
        let in_cells : (x : Cell) → Contains parent x → Contains cells x = λ x m. is_list.every x (member_there added parent x m) in
        let has_added : Contains cells added = is_list.every added (member_here added parent) in
        let ways : (x : Cell) → Contains cells x → Ways cells member x =
        λ x m. elim (member_cases added parent x (All-contains (Contains (added ∷ parent)) cells x is_list.only m)) [
          | inl e ↦ subst (λ z. Ways cells member z) e (record { to = next start adjacent has_added; from = next start (Adjacent-symmetric g law member added adjacent) (in_cells member inside) })
          | inr h ↦ record { to = joined_within g parent cells in_cells member x (form.joined member x inside h); from = joined_within g parent cells in_cells x member (form.joined x member h inside) }
        ]
        in
        record {
          is_set = record {
            rising = is_list.rising;
            in_grid = All-from_members (IsCell g) cells (λ x m. All-contains (IsCell g) (added ∷ parent) x (All-cons (IsCell g) added parent (adjacent_cell member added adjacent) form.is_set.in_grid) (All-contains (Contains (added ∷ parent)) cells x is_list.only m));
          };
          some = omega arith;
          joined = λ c d m k. joined_trans g cells c member d (ways c m).from (ways d k).to;
        }
