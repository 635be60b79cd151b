-- The placements of a universe's levels 1 to 6 lie near the shape, and so near each other.
use Rattle.std.proofs.Common.{◌≡◌, subst, ℕ, zero, suc, ◌+◌, ◌*◌, ◌<◌, ◌≤◌, true, List, [], ◌∷◌, length, Contains, ℤ, pos, ◌+ℤ◌, ◌-ℤ◌, ◌≤ℤ◌, inl, inr, arith}
use Rattle.std.specs.Prelude.{Bool}
use Rattle.std.proofs.lemmas.Int.{ints}
use Rattle.std.proofs.lemmas.List.Elements.{All-contains}
use Rattle.heesch_grid.specs.declared.Cell.{Cell}
use Rattle.heesch_grid.specs.Cells.{has}
use Rattle.heesch_grid.specs.Vectors.{IsWithin, minus}
use Rattle.heesch_grid.specs.Pairs.{has-true}
use Rattle.heesch_grid.specs.Geometry.{Geometry, IsGrid}
use Rattle.heesch_grid.specs.Polyform.{IsPolyform}
use Rattle.heesch_grid.specs.Placement.{IsPlacement, Touch}
use Rattle.heesch_grid.specs.CoronaFormula.{IsAtLevel, IsVariable}
use Rattle.heesch_grid.proofs.CellFacts.{has-is}
use Rattle.heesch_grid.proofs.GridFacts.{touching_near}
use Rattle.heesch_grid.proofs.GrowthOfLists.{image_length}
use Rattle.heesch_grid.proofs.IsometryFacts.{image_polyform}
use Rattle.heesch_grid.proofs.ListFacts.{member_here}
use Rattle.heesch_grid.proofs.TileFacts.{Contact, contact}
use Rattle.heesch_grid.proofs.ClauseFacts.{entry_variable}
use Rattle.heesch_shape.proofs.Forms.{spread_a, spread_b}
use Rattle.heesch_shape.proofs.Words.{form_of}
use Rattle.heesch_place.specs.Universes.{Levels, IsUniverseOf}
use Rattle.heesch_cuts.specs.Patches.{patch_cells}
use Rattle.heesch_cuts.proofs.PatchCells.{patch_member}

-- ---- distances

-- each coordinate of the two cells differs by at most n
pub record AreNear (n : ℕ) (c d : Cell) : Type 0 where
  pub a_up : d.a ≤ℤ (c.a +ℤ pos n)
  pub a_down : c.a ≤ℤ (d.a +ℤ pos n)
  pub b_up : d.b ≤ℤ (c.b +ℤ pos n)
  pub b_down : c.b ≤ℤ (d.b +ℤ pos n)

near_back : (n : ℕ) (c d : Cell) → AreNear n c d → AreNear n d c
near_back n c d h = record { a_up = h.a_down; a_down = h.a_up; b_up = h.b_down; b_down = h.b_up }

near_on : (m n k : ℕ) (c d e : Cell) → m + n ≤ k → AreNear m c d → AreNear n d e → AreNear k c e
near_on m n k c d e l h i = record {
  a_up = further m n k c.a d.a e.a l h.a_up i.a_up;
  a_down = further n m k e.a d.a c.a (omega arith) i.a_down h.a_down;
  b_up = further m n k c.b d.b e.b l h.b_up i.b_up;
  b_down = further n m k e.b d.b c.b (omega arith) i.b_down h.b_down;
}
  where
    further : (m n k : ℕ) (x y z : ℤ) → m + n ≤ k → y ≤ℤ (x +ℤ pos m) → z ≤ℤ (y +ℤ pos n) → z ≤ℤ (x +ℤ pos k)
    further m n k x y z l h i = omega (arith, ints, l, h, i)

near_of_within : (n : ℕ) (c d : Cell) → IsWithin n (minus d c) → AreNear n c d
near_of_within n c d w = record {
  a_up = up n c.a d.a w.a_high;
  a_down = omega (arith, ints, w.a_low);
  b_up = up n c.b d.b w.b_high;
  b_down = omega (arith, ints, w.b_low);
}
  where
    up : (n : ℕ) (x y : ℤ) → (y -ℤ x) ≤ℤ pos n → y ≤ℤ (x +ℤ pos n)
    up n x y h = omega (arith, ints, h)

-- ---- tiles

module _ (g : Geometry) (law : IsGrid g) where
  -- any two cells of a polyform of at most 32 cells
  pub polyform_near : (tile : List Cell) → IsPolyform g tile → length tile ≤ 32 → (c d : Cell) → Contains tile c → Contains tile d → AreNear 131 c d
  polyform_near tile form few c d m n =
      let f = form_of g tile form in
      let c_in = has-is tile c m in
      let d_in = has-is tile d n in
      let long : 4 * length tile + 3 ≤ 131 = omega arith in
      record {
        a_up = wider (4 * length tile + 3) c.a d.a long (spread_a g law tile c d f c_in d_in);
        a_down = wider (4 * length tile + 3) d.a c.a long (spread_a g law tile d c f d_in c_in);
        b_up = wider (4 * length tile + 3) c.b d.b long (spread_b g law tile c d f c_in d_in);
        b_down = wider (4 * length tile + 3) d.b c.b long (spread_b g law tile d c f d_in c_in);
      }
    where
      wider : (n : ℕ) (x y : ℤ) → n ≤ 131 → y ≤ℤ (x +ℤ pos n) → y ≤ℤ (x +ℤ pos 131)
      wider n x y l h = omega (arith, ints, l, h)

  module _ (shape : List Cell) (form : IsPolyform g shape) (few : length shape ≤ 32) where
    tile_near : (tile : List Cell) → IsPlacement g shape tile → (c d : Cell) → Contains tile c → Contains tile d → AreNear 131 c d
    tile_near tile p = polyform_near tile (image_polyform g law shape tile form p) (let e = image_length g law shape tile form.is_set.rising p in omega arith)

    -- across a touch
    touch_near : (n : ℕ) (base : Cell) (inner tile : List Cell) → ((d : Cell) → Contains inner d → AreNear n base d) → Touch g inner tile → IsPlacement g shape tile → (d : Cell) → Contains tile d → AreNear (n + 135) base d
    touch_near n base inner tile h t p d m =
        let k : Contact g inner tile = contact g inner tile t in
        let step : AreNear 4 k.first k.second = near_of_within 4 k.first k.second (touching_near g law k.first k.second k.touching) in
        near_on (n + 4) 131 (n + 135) base k.second d (omega arith) (near_on n 4 (n + 4) base k.first k.second (omega arith) (h k.first k.in_first) step) (tile_near tile p k.second d k.in_second m)

    -- a placement of level k
    pub level_near : (k : ℕ) (tile : List Cell) → IsAtLevel g shape k tile → (base d : Cell) → Contains shape base → Contains tile d → AreNear (131 + 135 * k) base d
    level_near zero tile h base d b m = absurd h
    level_near (suc zero) tile h base d b m =
        touch_near 131 base shape tile (λ e n. polyform_near shape form few base e b n) h.1 h.0 d m
    level_near (suc (suc k)) tile h base d b m =
        let inner = h.3 in
        let n = 131 + 135 * suc k in
        let same : n + 135 ≡ 131 + 135 * suc (suc k) = omega arith in
        subst (λ j. AreNear j base d) same (touch_near n base inner.0 tile (λ e i. level_near (suc k) inner.0 inner.1 base e b i) inner.2 h.0 d m)

  -- any cell of a patch is near each cell of the shape
  patch_near : (u : Levels) (values : List Bool) (k : ℕ) → IsUniverseOf g u → IsPolyform g u.shape → length u.shape ≤ 32 → k ≤ 6 → (base d : Cell) → Contains u.shape base → Contains (patch_cells u values k) d → AreNear 941 base d
  patch_near u values k universe form few low base d b m =
      elim (patch_member u values k d m) [
        | inl s ↦ near_more 131 base d (omega arith) (polyform_near u.shape form few base d b s)
        | inr x ↦
            let v : IsVariable g u.shape u.level x.entry.1 = All-contains (IsVariable g u.shape u.level) u.vars x.entry.1 universe.only (entry_variable u.vars 1 x.entry x.is_entry) in
            near_more (131 + 135 * x.entry.1.level) base d (let l = x.level in omega arith) (level_near u.shape form few x.entry.1.level x.entry.1.tile v.at_level base d b x.member)
      ]
    where
      near_more : (n : ℕ) (c d : Cell) → n ≤ 941 → AreNear n c d → AreNear 941 c d
      near_more n c d l h = near_on n 0 941 c d d (omega arith) h (near_itself d)
        where
          near_itself : (d : Cell) → AreNear 0 d d
          near_itself d = record { a_up = omega (arith, ints); a_down = omega (arith, ints); b_up = omega (arith, ints); b_down = omega (arith, ints) }

  first_cell : (shape : List Cell) → IsPolyform g shape → (c : Cell) × Contains shape c
  first_cell shape form = go shape form.some
    where
      go : (xs : List Cell) → 0 < length xs → (c : Cell) × Contains xs c
      go [] l = absurd (omega arith)
      go (x ∷ xs) l = (x, member_here x xs)

  -- any two cells of a patch lie together
  pub patch_together : (u : Levels) (values : List Bool) (k : ℕ) → IsUniverseOf g u → IsPolyform g u.shape → length u.shape ≤ 32 → k ≤ 6 → (c d : Cell) → has (patch_cells u values k) c ≡ true → has (patch_cells u values k) d ≡ true → (d.a ≤ℤ (c.a +ℤ pos 4096)) × (d.b ≤ℤ (c.b +ℤ pos 4096))
  patch_together u values k universe form few low c d m n =
      let b = first_cell u.shape form in
      let first = patch_near u values k universe form few low b.0 c b.1 (has-true (patch_cells u values k) c m) in
      let second = patch_near u values k universe form few low b.0 d b.1 (has-true (patch_cells u values k) d n) in
      let all = near_on 941 941 4096 c b.0 d (omega arith) (near_back 941 b.0 c first) second in
      (all.a_up, all.b_up)
