-- Holes of lawful cuts lie near 0.
use Rattle.std.proofs.Common.{ap, ℕ, ◌-◌, ◌≤◌, not, List, ◌++◌, length, filter, All, Contains, ◌⊎◌, inl, inr, arith}
use Rattle.std.specs.Prelude.{flat_map}
use Rattle.std.proofs.lemmas.Bool.{cases_Bool, not-true}
use Rattle.std.proofs.lemmas.List.Elements.{All-contains, recursion_from_All, Contains-append_left, Contains-append_right, Contains-append_cases}
use Rattle.heesch_grid.specs.declared.Cell.{Cell}
use Rattle.heesch_grid.specs.Cells.{has}
use Rattle.heesch_grid.specs.Geometry.{Geometry, IsGrid, Adjacent}
use Rattle.heesch_grid.specs.CoronaFormula.{Variable, IsVariable, IsUniverse}
use Rattle.heesch_grid.specs.Hole.{IsHole}
use Rattle.heesch_grid.specs.Pairs.{has-true}
use Rattle.heesch_grid.specs.Vectors.{IsWithin}
use Rattle.heesch_grid.proofs.CellFacts.{has-false}
use Rattle.heesch_grid.proofs.ListFacts.{All-from_members, filter_member, member_filter, member_at}
use Rattle.heesch_grid.proofs.WindowFacts.{member_flat_map, flat_map_member}
use Rattle.heesch_cert.specs.declared.proof.Cut.{Cut}
use Rattle.heesch_cert.specs.Cuts.{IsLawful, IsInBorder}
use Rattle.heesch_cert.proofs.Versions.{universe_of}
use Rattle.heesch_cuts.proofs.HoleFacts.{hole_within}
use Rattle.heesch_written.specs.Near.{HolesAreNear}
use Rattle.heesch_grid.proofs.Images.{wider}
use Rattle.heesch_written.proofs.Shapes.{IsNearShape, near_shape}
use Rattle.heesch_written.proofs.Levels.{level_within}

module _ (g : Geometry) (law : IsGrid g) (shape : List Cell) (s : IsNearShape g shape) (j : ℕ) (vars : List Variable) (few : j ≤ 6) (universe : IsUniverse g shape j vars) (cut : Cut) (lawful : IsLawful g shape j vars cut) where
  -- the cells of the shape and of the universe
  abbrev whole : List Cell
  whole = shape ++ flat_map (λ v. v.tile) vars

  -- those of them outside the hole
  abbrev around : List Cell
  around = filter (λ c. not (has cut.hole c)) whole

  whole_near : (c : Cell) → Contains whole c → IsWithin 1200 c
  whole_near c m =
      elim (Contains-append_cases shape (flat_map (λ v. v.tile) vars) c m) [
        | inl h ↦ wider 200 1200 c (omega arith) (s.near c h)
        | inr h ↦
            let v = flat_map_member (λ v. v.tile) vars c h in
            let is : IsVariable g shape j v.0 = All-contains (IsVariable g shape j) vars v.0 universe.only v.1 in
            level_within g law shape s v.0.level v.0.tile (let l = is.level_to in omega (arith, l, few)) is.at_level c v.2
      ]

  in_whole : (d : Cell) → Contains shape d ⊎ IsInBorder vars cut.border d → Contains whole d
  in_whole d h =
      elim h [
        | inl m ↦ Contains-append_left shape (flat_map (λ v. v.tile) vars) d m
        | inr b ↦ Contains-append_right shape (flat_map (λ v. v.tile) vars) d (member_flat_map (λ v. v.tile) vars b.variable d (member_at vars (b.number - 1) b.variable b.is_variable.1) b.member)
      ]

  enclosed : (c d : Cell) → Contains cut.hole c → Adjacent g c d → Contains cut.hole d ⊎ Contains around d
  enclosed c d m a =
      elim (cases_Bool (has cut.hole d)) [
        | inl t ↦ inl (has-true cut.hole d t)
        | inr f ↦ elim (lawful.enclosed c d m a) [ inl h ↦ inl h | inr h ↦ inr (member_filter (λ c. not (has cut.hole c)) whole d (in_whole d h) (ap not f)) ]
      ]

  is_hole : IsHole g around cut.hole
  is_hole = record {
    some = lawful.some;
    in_grid = lawful.is_set.in_grid;
    outside = λ c m n. has-false cut.hole c (not-true (has cut.hole c) (filter_member (λ c. not (has cut.hole c)) whole c n).1) m;
    enclosed = enclosed;
  }

  pub hole_near : All (IsWithin 1200) cut.hole
  hole_near = hole_within g law around cut.hole is_hole 1200 (All-from_members (IsWithin 1200) around (λ c m. whole_near c (filter_member (λ c. not (has cut.hole c)) whole c m).0))

pub holes_are_near : HolesAreNear
holes_are_near version g law n shape j vars count clauses cut low most free from to formula lawful =
    let s : IsNearShape g shape = near_shape g law n shape most free in
    let near = hole_near g law shape s j vars to (universe_of version g shape j vars count clauses formula) cut lawful in
    record {
      some = λ e. let l = lawful.some in let none = ap length e in omega (arith, l, none);
      near = recursion_from_All (IsWithin 100000) cut.hole (All-from_members (IsWithin 100000) cut.hole (λ c m. wider 1200 100000 c (omega arith) (All-contains (IsWithin 1200) cut.hole c near m)));
    }
