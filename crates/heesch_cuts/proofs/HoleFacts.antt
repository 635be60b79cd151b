-- Holes lie within the bounds of what encloses them, and a closed part of a hole is one.
use Rattle.std.proofs.Common.{subst, ℕ, ◌<◌, List, [], ◌∷◌, length, All, Contains, ℤ, pos, neg_ℤ, ◌≤ℤ◌, ◌<ℤ◌, inl, inr, arith}
use Rattle.std.specs.Prelude.{int_lt}
use Rattle.std.proofs.lemmas.Int.{ints}
use Rattle.std.proofs.lemmas.Bool.{cases_Bool}
use Rattle.std.proofs.lemmas.List.Elements.{All-contains}
use Rattle.heesch_grid.specs.declared.Cell.{Cell}
use Rattle.heesch_grid.specs.Vectors.{IsWithin}
use Rattle.heesch_grid.specs.Geometry.{Geometry, IsGrid, IsCell, Adjacent}
use Rattle.heesch_grid.specs.Hole.{IsHole, IsGreatestHole}
use Rattle.heesch_grid.proofs.ListFacts.{no_member, member_cases, member_here, member_there, All-from_members}
use Rattle.heesch_grid.proofs.FromDefinitions.{greatest_holes_are_holes}
use Rattle.heesch_cuts.specs.Parts.{IsClosedPart}

-- a member with the greatest number
record HasGreatest (f : Cell → ℤ) (xs : List Cell) : Type 0 where
  top : Cell
  inside : Contains xs top
  all : (y : Cell) → Contains xs y → f y ≤ℤ f top

greatest_of : (f : Cell → ℤ) (xs : List Cell) (x : Cell) → Contains xs x → HasGreatest f xs
greatest_of f [] x m = absurd (no_member x m)
greatest_of f (x ∷ []) z m = record { top = x; inside = member_here x []; all = λ y n. elim (member_cases x [] y n) [ inl e ↦ subst (λ w. f w ≤ℤ f x) e (omega (arith, ints)) | inr o ↦ absurd (no_member y o) ] }
greatest_of f (x ∷ w ∷ ws) z m =
    let rest : HasGreatest f (w ∷ ws) = greatest_of f (w ∷ ws) w (member_here w ws) in
    elim (cases_Bool (int_lt (f rest.top) (f x))) [
      | inl t ↦ record { top = x; inside = member_here x (w ∷ ws); all = λ y n. elim (member_cases x (w ∷ ws) y n) [ inl e ↦ subst (λ v. f v ≤ℤ f x) e (omega (arith, ints)) | inr o ↦ let l = rest.all y o in omega (arith, ints, l, t) ] }
      | inr u ↦ record { top = rest.top; inside = member_there x (w ∷ ws) rest.top rest.inside; all = λ y n. elim (member_cases x (w ∷ ws) y n) [ inl e ↦ subst (λ v. f v ≤ℤ f rest.top) e (omega (arith, ints, u)) | inr o ↦ rest.all y o ] }
    ]

module _ (g : Geometry) (law : IsGrid g) (cells hole : List Cell) (is : IsHole g cells hole) where
  -- where each cell has a neighbour with a greater number, no cell of the hole has a greater one than all cells around
  bounded : (f : Cell → ℤ) → ((c : Cell) → IsCell g c → (d : Cell) × Adjacent g c d × (f c <ℤ f d)) → (m : ℤ) → ((c : Cell) → Contains cells c → f c ≤ℤ m) → (c : Cell) → Contains hole c → f c ≤ℤ m
  bounded f up m low c c_in =
      let t : HasGreatest f hole = greatest_of f hole c c_in in
      let r = up t.top (All-contains (IsCell g) hole t.top is.in_grid t.inside) in
      let above : f t.top <ℤ f r.0 = r.2 in
      let top_low : f c ≤ℤ f t.top = t.all c c_in in
      elim (is.enclosed t.top r.0 t.inside r.1) [
        | inl h ↦ let back = t.all r.0 h in absurd (omega (arith, ints, above, back))
        | inr o ↦ let most = low r.0 o in omega (arith, ints, above, top_low, most)
      ]

  -- a hole lies within the bounds of the set
  pub hole_within : (n : ℕ) → All (IsWithin n) cells → All (IsWithin n) hole
  hole_within n within =
      let of : (c : Cell) → Contains cells c → IsWithin n c = λ c m. All-contains (IsWithin n) cells c within m in
      All-from_members (IsWithin n) hole (λ c m. record {
        a_low = let h = bounded (λ c. neg_ℤ c.a) (λ c c_in. let r = law.smaller_a c c_in in (r.0, r.1, (let l = r.2 in omega (arith, ints, l)))) (pos n) (λ d k. let w = (of d k).a_low in omega (arith, ints, w)) c m in omega (arith, ints, h);
        a_high = bounded (λ c. c.a) law.greater_a (pos n) (λ d k. (of d k).a_high) c m;
        b_low = let h = bounded (λ c. neg_ℤ c.b) (λ c c_in. let r = law.smaller_b c c_in in (r.0, r.1, (let l = r.2 in omega (arith, ints, l)))) (pos n) (λ d k. let w = (of d k).b_low in omega (arith, ints, w)) c m in omega (arith, ints, h);
        b_high = bounded (λ c. c.b) law.greater_b (pos n) (λ d k. (of d k).b_high) c m;
      })

  -- a closed part of a hole is a hole
  pub part_hole : (part : List Cell) → IsClosedPart g hole part → IsHole g cells part
  part_hole part p = record {
    some = p.some;
    in_grid = All-from_members (IsCell g) part (λ c m. All-contains (IsCell g) hole c is.in_grid (p.within c m));
    outside = λ c m. is.outside c (p.within c m);
    enclosed = λ c d m a. elim (is.enclosed c d (p.within c m) a) [ inl h ↦ inl (p.closed c d m h a) | inr o ↦ inr o ];
  }

-- a greatest hole that isn't empty is a hole
pub greatest_hole : (g : Geometry) (cells hole : List Cell) → 0 < length hole → IsGreatestHole g cells hole → IsHole g cells hole
greatest_hole g cells hole some greatest = (greatest_holes_are_holes g cells hole greatest).hole some
