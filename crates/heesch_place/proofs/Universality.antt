-- Levels one after another are the universe, and lie near 0.
use Rattle.std.proofs.Common.{◌≡◌, ℕ, zero, suc, ◌+◌, ◌*◌, ◌≤◌, true, ◌&&◌, ◌==◌, ◌-ℤ◌, List, [], ◌∷◌, ◌++◌, map, Contains, refl, sym, ap, subst, ◌∙◌, arith, inl, inr, append_assoc}
use Rattle.std.specs.Prelude.{IsTrue, nat_lt}
use Rattle.std.proofs.lemmas.Int.{ints}
use Rattle.std.proofs.lemmas.Bool.{lt-ltb, eq-eqb, or_left, or_right, and_from, cases_lt}
use Rattle.std.proofs.lemmas.List.{map-append}
use Rattle.std.proofs.lemmas.List.Elements.{All-contains, All-nil, Contains-append_cases, Contains-append_left, Contains-append_right}
use Rattle.heesch_grid.specs.declared.Cell.{Cell}
use Rattle.heesch_grid.specs.declared.isometries.Iso.{Iso}
use Rattle.heesch_grid.specs.Listing.{IsRising, ListsExactly}
use Rattle.heesch_grid.specs.Cells.{cells_before, has}
use Rattle.heesch_grid.specs.CoronaFormula.{Variable, variable_before, IsAtLevel, IsVariable, IsUniverse}
use Rattle.heesch_grid.specs.Geometry.{Geometry, IsGrid, apply, image}
use Rattle.heesch_grid.specs.Pairs.{has-true}
use Rattle.heesch_grid.specs.Placement.{IsPlacement, IsLeastIsometry}
use Rattle.heesch_grid.specs.Vectors.{IsWithin}
use Rattle.heesch_grid.proofs.CellFacts.{has-is}
use Rattle.heesch_grid.proofs.GridFacts.{touching_near}
use Rattle.heesch_grid.proofs.Images.{turn_within}
use Rattle.heesch_grid.proofs.ListFacts.{All-from_members, member_cases, no_member}
use Rattle.heesch_grid.proofs.TileFacts.{contact}
use Rattle.heesch_grid.proofs.WindowFacts.{map_member, member_map}
use Rattle.heesch_place.specs.Found.{IsBeyond}
use Rattle.heesch_place.proofs.Gathering.{rising_append}
use Rattle.heesch_place.specs.Universes.{HaveLeast, AddTiles}

-- ---- rising lists
abbrev variable_at : ℕ → List Cell → Variable
variable_at k tile = record { level = k; tile = tile }

rising_level : (k : ℕ) (tiles : List (List Cell)) → IsRising cells_before tiles → IsRising variable_before (map (variable_at k) tiles)
rising_level k [] r = tt
rising_level k (t ∷ tiles) r = (
  All-from_members (λ y. IsTrue (variable_before (variable_at k t) y)) (map (variable_at k) tiles) (λ y m.
      let s = map_member (variable_at k) tiles y m in
      subst (λ z. variable_before (variable_at k t) z ≡ true) s.2
      (or_right (nat_lt k k) (k == k && cells_before t s.0) (and_from (k == k) (cells_before t s.0) (eq-eqb k k refl) (All-contains (λ u. IsTrue (cells_before t u)) tiles s.0 r.0 s.1)))),
  rising_level k tiles r.1,
)

-- ---- the universe
module _ (g : Geometry) (shape : List Cell) where
  pub universe_none : IsUniverse g shape 0 []
  universe_none = record { rising = tt; only = All-nil (IsVariable g shape 0); every = λ x v. let a = v.level_from in let b = v.level_to in absurd (omega arith) }

  -- with one more level
  pub universe_more : (k : ℕ) (vars : List Variable) (tiles : List (List Cell)) → IsUniverse g shape k vars → ListsExactly cells_before (IsAtLevel g shape (k + 1)) tiles → IsUniverse g shape (k + 1) (vars ++ map (λ tile. record { level = k + 1; tile = tile }) tiles)
  universe_more k vars tiles u l = record {
    rising = rising_append variable_before vars (map (variable_at (k + 1)) tiles) u.rising (rising_level (k + 1) tiles l.rising) (λ x y m n.
        let v = All-contains (IsVariable g shape k) vars x u.only m in
        let t = map_member (variable_at (k + 1)) tiles y n in
        let e = ap (λ (z : Variable). z.level) t.2 in
        let high = v.level_to in
        or_left (nat_lt x.level y.level) (x.level == y.level && cells_before x.tile y.tile) (lt-ltb x.level y.level (omega (arith, e, high))));
    only = All-from_members (IsVariable g shape (k + 1)) (vars ++ map (variable_at (k + 1)) tiles) (λ x m. elim (Contains-append_cases vars (map (variable_at (k + 1)) tiles) x m) [
      | inl n ↦ let v = All-contains (IsVariable g shape k) vars x u.only n in record { level_from = v.level_from; level_to = (let high = v.level_to in omega arith); at_level = v.at_level }
      | inr n ↦ let t = map_member (variable_at (k + 1)) tiles x n in
          subst (IsVariable g shape (k + 1)) t.2 (record { level_from = omega arith; level_to = omega arith; at_level = All-contains (IsAtLevel g shape (k + 1)) tiles t.0 l.only t.1 })
    ]);
    every = λ x v. elim (cases_lt x.level (k + 1)) [
      | inl less ↦ Contains-append_left vars (map (variable_at (k + 1)) tiles) x (u.every x (record { level_from = v.level_from; level_to = omega arith; at_level = v.at_level }))
      | inr high ↦
          let top = v.level_to in
          let e : x.level ≡ k + 1 = omega arith in
          Contains-append_right vars (map (variable_at (k + 1)) tiles) x
          (subst (Contains (map (variable_at (k + 1)) tiles)) (ap (λ n. variable_at n x.tile) (sym e))
          (member_map (variable_at (k + 1)) tiles x.tile (l.every x.tile (subst (λ n. IsAtLevel g shape n x.tile) e v.at_level))))
    ];
  }

  -- what lies beyond a level is the next one
  pub level_up : (k : ℕ) (inner tiles : List (List Cell)) → 1 ≤ k → ListsExactly cells_before (IsAtLevel g shape k) inner → ListsExactly cells_before (IsBeyond g shape inner) tiles → ListsExactly cells_before (IsAtLevel g shape (k + 1)) tiles
  level_up zero inner tiles low l b = absurd (omega arith)
  level_up (suc k) inner tiles low l b =
      let e : suc (suc k) ≡ suc k + 1 = omega arith in
      subst (λ n. ListsExactly cells_before (IsAtLevel g shape n) tiles) e (record {
        rising = b.rising;
        only = All-from_members (IsAtLevel g shape (suc (suc k))) tiles (λ t m.
            let h = All-contains (IsBeyond g shape inner) tiles t b.only m in
            (h.placement, h.apart, h.clear, (h.touched.source, All-contains (IsAtLevel g shape (suc k)) inner h.touched.source l.only h.touched.inside, h.touched.gives)));
        every = λ t h. b.every t (record { placement = h.0; apart = h.1; clear = h.2; touched = record { source = h.3.0; inside = l.every h.3.0 h.3.1; gives = h.3.2 } });
      })

  -- ---- distances
  module _ (law : IsGrid g) (near : (c : Cell) → has shape c ≡ true → IsWithin 200 c) where
    wider : (m n : ℕ) (c : Cell) → m ≤ n → IsWithin m c → IsWithin n c
    wider m n c l w = record { a_low = omega (arith, ints, w.a_low); a_high = omega (arith, ints, w.a_high); b_low = omega (arith, ints, w.b_low); b_high = omega (arith, ints, w.b_high) }

    -- a placement with a cell within m of 0 lies within 800 more
    whole_near : (tile : List Cell) (m : ℕ) (d c : Cell) → IsPlacement g shape tile → Contains tile d → IsWithin m d → Contains tile c → IsWithin (m + 800) c
    whole_near tile m d c p d_in w c_in =
        let x = map_member (apply g p.by) shape d (All-contains (Contains (image g p.by shape)) tile d p.is_list.only d_in) in
        let y = map_member (apply g p.by) shape c (All-contains (Contains (image g p.by shape)) tile c p.is_list.only c_in) in
        let v = turn_within g law p.by.turn 200 x.0 p.is_isometry (near x.0 (has-is shape x.0 x.1)) in
        let u = turn_within g law p.by.turn 200 y.0 p.is_isometry (near y.0 (has-is shape y.0 y.1)) in
        let xa = ap (λ z. z.a) x.2 in
        let xb = ap (λ z. z.b) x.2 in
        let ya = ap (λ z. z.a) y.2 in
        let yb = ap (λ z. z.b) y.2 in
        record {
          a_low = omega (arith, ints, w.a_low, v.a_high, u.a_low, xa, ya);
          a_high = omega (arith, ints, w.a_high, v.a_low, u.a_high, xa, ya);
          b_low = omega (arith, ints, w.b_low, v.b_high, u.b_low, xb, yb);
          b_high = omega (arith, ints, w.b_high, v.b_low, u.b_high, xb, yb);
        }

    stepped : (m : ℕ) (c d : Cell) → IsWithin m c → IsWithin 4 (record { a = d.a -ℤ c.a; b = d.b -ℤ c.b }) → IsWithin (m + 4) d
    stepped m c d w n = record { a_low = omega (arith, ints, w.a_low, n.a_low); a_high = omega (arith, ints, w.a_high, n.a_high); b_low = omega (arith, ints, w.b_low, n.b_low); b_high = omega (arith, ints, w.b_high, n.b_high) }

    -- each level lies within 1,000 more than the one inside
    at_level_near : (k : ℕ) (tile : List Cell) (c : Cell) → IsAtLevel g shape k tile → Contains tile c → IsWithin (200 + 1000 * k) c
    at_level_near zero tile c h m = absurd h
    at_level_near (suc zero) tile c h m =
        let k = contact g shape tile h.1 in
        let w = stepped 200 k.first k.second (near k.first (has-is shape k.first k.in_first)) (touching_near g law k.first k.second k.touching) in
        wider (200 + 4 + 800) (200 + 1000 * 1) c (omega arith) (whole_near tile (200 + 4) k.second c h.0 k.in_second w m)
    at_level_near (suc (suc n)) tile c h m =
        let inner = h.3 in
        let k = contact g inner.0 tile inner.2 in
        let old = at_level_near (suc n) inner.0 k.first inner.1 k.in_first in
        let w = stepped (200 + 1000 * suc n) k.first k.second old (touching_near g law k.first k.second k.touching) in
        wider (200 + 1000 * suc n + 4 + 800) (200 + 1000 * suc (suc n)) c (omega arith) (whole_near tile (200 + 1000 * suc n + 4) k.second c h.0 k.in_second w m)

    pub level_near : (k : ℕ) (tiles : List (List Cell)) → k ≤ 6 → ListsExactly cells_before (IsAtLevel g shape k) tiles → (tile : List Cell) (c : Cell) → Contains tiles tile → has tile c ≡ true → IsWithin 50000 c
    level_near k tiles few l tile c m h =
        wider (200 + 1000 * k) 50000 c (omega arith) (at_level_near k tile c (All-contains (IsAtLevel g shape k) tiles tile l.only m) (has-true tile c h))

-- ---- entries
module _ {E : Type 0} (variable : E → Variable) (by : E → Iso) (g : Geometry) (shape : List Cell) (level : ℕ) where
  nothing_after : (xs : List Variable) → xs ≡ xs ++ []
  nothing_after [] = refl
  nothing_after (x ∷ xs) = ap (λ zs. x ∷ zs) (nothing_after xs)

  pub tiles_none : (old : List E) → AddTiles variable by g shape level [] old old
  tiles_none old = record { variables = nothing_after (map variable old); least = λ h. h }

  pub tiles_push : (tiles : List (List Cell)) (t : List Cell) (old mid new : List E) (e : E) → AddTiles variable by g shape level tiles old mid → new ≡ mid ++ e ∷ [] → variable e ≡ record { level = level; tile = t } → IsLeastIsometry g shape (variable e).tile (by e) → AddTiles variable by g shape level (tiles ++ t ∷ []) old new
  tiles_push tiles t old mid new e a is at least = record {
    variables =
        ap (map variable) is ∙ map-append variable mid (e ∷ []) ∙ ap (λ zs. zs ++ variable e ∷ []) a.variables
        ∙ ap (λ v. (map variable old ++ map (variable_at level) tiles) ++ v ∷ []) at
        ∙ append_assoc (map variable old) (map (variable_at level) tiles) (variable_at level t ∷ [])
        ∙ ap (λ zs. map variable old ++ zs) (sym (map-append (variable_at level) tiles (t ∷ [])));
    least = λ h. subst (HaveLeast variable by g shape) (sym is) (All-from_members (λ e. IsLeastIsometry g shape (variable e).tile (by e)) (mid ++ e ∷ []) (λ x m. elim (Contains-append_cases mid (e ∷ []) x m) [
      | inl n ↦ All-contains (λ e. IsLeastIsometry g shape (variable e).tile (by e)) mid x (a.least h) n
      | inr n ↦ elim (member_cases e [] x n) [ inl s ↦ subst (λ z. IsLeastIsometry g shape (variable z).tile (by z)) s least | inr none ↦ absurd (no_member x none) ]
    ]));
  }

-- the entries of a level after a universe
pub level_added : {E : Type 0} (variable : E → Variable) (by : E → Iso) (g : Geometry) (shape : List Cell) (k : ℕ) (tiles : List (List Cell)) (old new : List E) → AddTiles variable by g shape (k + 1) tiles old new → IsUniverse g shape k (map variable old) → HaveLeast variable by g shape old → ListsExactly cells_before (IsAtLevel g shape (k + 1)) tiles → IsUniverse g shape (k + 1) (map variable new) × HaveLeast variable by g shape new
level_added variable by g shape k tiles old new a u least l =
    (subst (IsUniverse g shape (k + 1)) (sym a.variables) (universe_more g shape k (map variable old) tiles u l), a.least least)
