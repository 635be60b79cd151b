-- A hole of a patch with its border is a lawful cut whose clause is false, and a model without holes is open.
use Rattle.std.proofs.Common.{◌⊎◌, ◌≡◌, sym, ap, subst, ◌∙◌, ℕ, zero, suc, ◌+◌, ◌<◌, ◌≤◌, Bool, true, ◌&&◌, List, [], ◌∷◌, ◌++◌, map, Contains, inl, inr, arith, true≢false, eqb-true, leb-true, append-nil}
use Rattle.std.specs.Prelude.{nat_eq, nat_le}
use Rattle.std.specs.List.{list_any, enumerate_from, range_with_len}
use Rattle.std.proofs.lemmas.Bool.{and_parts, cases_Bool}
use Rattle.std.proofs.lemmas.List.Concat.{flat_map-append}
use Rattle.std.proofs.lemmas.List.Elements.{All-contains}
use Rattle.heesch_grid.specs.declared.Cell.{Cell}
use Rattle.heesch_grid.specs.Listing.{IsRising}
use Rattle.heesch_grid.specs.Cells.{cell_before, meet}
use Rattle.heesch_grid.specs.Geometry.{Geometry}
use Rattle.heesch_grid.specs.Hole.{IsHole, IsHoleFree}
use Rattle.heesch_grid.specs.Corona.{cells_of, StaysHoleFree}
use Rattle.heesch_grid.specs.Clauses.{clause_holds}
use Rattle.heesch_grid.specs.CoronaFormula.{IsVariable}
use Rattle.heesch_grid.specs.Statements.{chosen_layer}
use Rattle.heesch_grid.proofs.CellFacts.{meet-true}
use Rattle.heesch_grid.proofs.ListFacts.{All-from_members, any_member}
use Rattle.heesch_grid.proofs.TileFacts.{Apart-from}
use Rattle.heesch_grid.proofs.ClauseFacts.{reason, entry_made, entry_variable}
use Rattle.heesch_cnf.specs.Clauses.{assignment_of}
use Rattle.heesch_cert.specs.declared.proof.Cut.{Cut}
use Rattle.heesch_cert.specs.Literals.{literals}
use Rattle.heesch_cert.specs.Cuts.{IsBorderVariable, IsLawful, cut_clause}
use Rattle.heesch_place.specs.Universes.{Levels, IsUniverseOf}
use Rattle.heesch_cuts.specs.Chosen.{IsOpen, CutsOff}
use Rattle.heesch_cuts.specs.Patches.{patch_cells, IsChosen, IsBorderOf}
use Rattle.heesch_cuts.proofs.Covering.{Entry}
use Rattle.heesch_cuts.proofs.PatchCells.{shape_patch, tile_patch}

-- ---- the cut

module _ (g : Geometry) (u : Levels) (universe : IsUniverseOf g u) (values : List Bool) (k : ℕ) (low : 1 ≤ k) (high : k ≤ u.level) (hole : List Cell) (border : List ℕ) (is_hole : IsHole g (patch_cells u values k) hole) (rising : IsRising cell_before hole) (is_border : IsBorderOf g u values k hole border) where
  abbrev cut : Cut
  cut = record { level = k; hole = hole; border = border }

  level_from : (x : Entry) → Contains (enumerate_from 1 u.vars) x → 1 ≤ x.1.level
  level_from x m = let v : IsVariable g u.shape u.level x.1 = All-contains (IsVariable g u.shape u.level) u.vars x.1 universe.only (entry_variable u.vars 1 x m) in v.level_from

  -- no cell of the hole is in a chosen placement of level at most k
  not_chosen : (x : Entry) → Contains (enumerate_from 1 u.vars) x → x.1.level ≤ k → assignment_of values x.0 ≡ true → (c : Cell) → Contains x.1.tile c → Contains hole c → ⊥
  not_chosen x m l t c n h = is_hole.outside c h (tile_patch u values k c x m (level_from x m) l t n)

  border_variable : (n : ℕ) → Contains border n → IsBorderVariable u.vars k hole n
  border_variable n m =
      let v : IsChosen u.vars values k n = All-contains (IsChosen u.vars values k) border n is_border.chosen m in
      let x : Entry = (n, v.variable) in
      let entry = entry_made u.vars n v.variable v.is_variable in
      record { variable = v.variable; is_variable = v.is_variable; level = v.level; apart = Apart-from v.variable.tile hole (λ c a h. not_chosen x entry v.level v.value c a h) }

  lawful_cut : IsLawful g u.shape u.level u.vars cut
  lawful_cut = record {
    level_from = low;
    level_to = high;
    some = is_hole.some;
    is_set = record { rising = rising; in_grid = is_hole.in_grid };
    outside = Apart-from u.shape hole (λ c m h. is_hole.outside c h (shape_patch u values k c m));
    rising = is_border.rising;
    border = All-from_members (IsBorderVariable u.vars k hole) border border_variable;
    enclosed = λ c d m a. elim (is_hole.enclosed c d m a) [ inl h ↦ inl h | inr p ↦ inr (is_border.around c d m a p) ];
  }

  abbrev in_border : Entry → Bool
  in_border x = list_any (nat_eq x.0) border

  abbrev fills : Entry → Bool
  fills x = nat_le x.1.level k && meet x.1.tile hole

  no_reason : clause_holds literals (assignment_of values) (cut_clause u.vars cut) ≡ true → ⊥
  no_reason t =
      let r = reason literals (assignment_of values) in_border fills u.vars t in
      let x : Entry = r.0 in
      elim r.2 [
        | inl b ↦
            let q = any_member (nat_eq x.0) border b.0 in
            let v : IsChosen u.vars values k q.0 = All-contains (IsChosen u.vars values k) border q.0 is_border.chosen q.1 in
            true≢false (sym v.value ∙ ap (assignment_of values) (sym (eqb-true x.0 q.0 q.2)) ∙ b.1)
        | inr b ↦
            let both = and_parts (nat_le x.1.level k) (meet x.1.tile hole) b.0 in
            let c = meet-true x.1.tile hole both.1 in
            not_chosen x r.1 (leb-true x.1.level k both.0) b.1 c.0 c.1 c.2
      ]

  pub cuts_off : CutsOff g u values cut
  cuts_off = record {
    lawful = lawful_cut;
    fails = elim (cases_Bool (clause_holds literals (assignment_of values) (cut_clause u.vars cut))) [ inl t ↦ absurd (no_reason t) | inr f ↦ f ];
  }

-- ---- the patches

cells_more : (patch layer : List (List Cell)) → cells_of (patch ++ layer) ≡ cells_of patch ++ cells_of layer
cells_more patch layer = flat_map-append (λ tile. tile) patch layer

module _ (g : Geometry) (u : Levels) (values : List Bool) where
  -- from level n + 1 on, m levels are hole-free
  stays_free : (m n : ℕ) (patch : List (List Cell)) → cells_of patch ≡ patch_cells u values n → ((i : ℕ) → n < i → i ≤ n + m → IsHoleFree g (patch_cells u values i)) → StaysHoleFree g patch (map (chosen_layer (assignment_of values) u.vars) (range_with_len (n + 1) m))
  stays_free zero n patch e free = tt
  stays_free (suc m) n patch e free =
      let next : n + 1 ≡ suc n = omega arith in
      let layer = chosen_layer (assignment_of values) u.vars (n + 1) in
      let more : cells_of (patch ++ layer) ≡ patch_cells u values (suc n) = cells_more patch layer ∙ ap (λ xs. xs ++ cells_of layer) e ∙ ap (λ j. patch_cells u values n ++ cells_of (chosen_layer (assignment_of values) u.vars j)) next in
      let later : cells_of (patch ++ layer) ≡ patch_cells u values (n + 1) = more ∙ ap (patch_cells u values) (sym next) in (
        subst (IsHoleFree g) (sym more) (free (suc n) (omega arith) (omega arith)),
        stays_free m (n + 1) (patch ++ layer) later (λ i l h. free i (omega arith) (omega arith)),
      )

  -- one more hole-free level
  pub free_more : (k : ℕ) → ((i : ℕ) → 0 < i → i ≤ k → IsHoleFree g (patch_cells u values i)) → IsHoleFree g (patch_cells u values (k + 1)) → (i : ℕ) → 0 < i → i ≤ k + 1 → IsHoleFree g (patch_cells u values i)
  free_more k free last i some most =
      elim (last_or_less i k most) [ inl e ↦ subst (λ j. IsHoleFree g (patch_cells u values j)) (sym e) last | inr l ↦ free i some l ]
    where
      last_or_less : (l k : ℕ) → l ≤ k + 1 → (l ≡ k + 1) ⊎ (l ≤ k)
      last_or_less l k h = grind arith

  pub open_where_free : ((i : ℕ) → 0 < i → i ≤ u.level → IsHoleFree g (patch_cells u values i)) → IsOpen g u values
  open_where_free free =
      let start : 0 + 1 ≡ 1 = omega arith in
      subst (λ n. StaysHoleFree g (u.shape ∷ []) (map (chosen_layer (assignment_of values) u.vars) (range_with_len n u.level))) start
      (stays_free u.level 0 (u.shape ∷ []) (append-nil u.shape) (λ i l h. free i l (omega arith)))
