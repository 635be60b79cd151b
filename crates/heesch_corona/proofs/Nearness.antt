-- The cells of tiles that each touch an earlier layer lie close together.
use Rattle.std.proofs.Common.{◌≡◌, sym, ap, subst, ◌∙◌, ℕ, zero, suc, ◌+◌, ◌-◌, ◌*◌, ◌<◌, ◌≤◌, ℤ, pos, ◌+ℤ◌, ◌≤ℤ◌, true, false, List, [], length, get_or, All, inl, inr, arith}
use Rattle.std.specs.Prelude.{nat_lt, slice_index}
use Rattle.std.proofs.lemmas.Int.{ints}
use Rattle.std.proofs.lemmas.Bool.{cases_Bool}
use Rattle.std.proofs.lemmas.List.Elements.{All-contains}
use Rattle.heesch_grid.specs.declared.Cell.{Cell}
use Rattle.heesch_grid.specs.Cells.{has, set_of}
use Rattle.heesch_grid.specs.Vectors.{IsWithin, minus}
use Rattle.heesch_grid.specs.Geometry.{Geometry, IsCell, IsGrid}
use Rattle.heesch_grid.specs.Corona.{cells_of}
use Rattle.heesch_grid.proofs.CellFacts.{has-is}
use Rattle.heesch_grid.proofs.GridFacts.{touching_near}
use Rattle.heesch_shape.specs.Walks.{IsShape}
use Rattle.heesch_shape.proofs.Words.{form_of}
use Rattle.heesch_shape.proofs.Forms.{spread_a, spread_b}
use Rattle.std.proofs.Math.Seq.{take-length}
use Rattle.heesch_corona.specs.Building.{ArePatches, AreClose}
use Rattle.heesch_corona.specs.Searches.{does_reach, DoReach}
use Rattle.heesch_corona.proofs.Members.{covered_by}
use Rattle.heesch_corona.proofs.Numbered.{last_end, level_there}
use Rattle.heesch_corona.proofs.Bridge.{reached}

-- the cells differ by at most n in each coordinate
record AreNear (n : ℕ) (c d : Cell) : Type 0 where
  a_up : d.a ≤ℤ (c.a +ℤ pos n)
  a_down : c.a ≤ℤ (d.a +ℤ pos n)
  b_up : d.b ≤ℤ (c.b +ℤ pos n)
  b_down : c.b ≤ℤ (d.b +ℤ pos n)

near_back : (n : ℕ) (c d : Cell) → AreNear n c d → AreNear n d c
near_back n c d h = record { a_up = h.a_down; a_down = h.a_up; b_up = h.b_down; b_down = h.b_up }

near_then : (m n k : ℕ) (c d e : Cell) → AreNear m c d → AreNear n d e → m + n ≤ k → AreNear k c e
near_then m n k c d e p q l =
    record { a_up = up c.a d.a e.a p.a_up q.a_up; a_down = down c.a d.a e.a p.a_down q.a_down; b_up = up c.b d.b e.b p.b_up q.b_up; b_down = down c.b d.b e.b p.b_down q.b_down }
  where
    up : (x y z : ℤ) → y ≤ℤ (x +ℤ pos m) → z ≤ℤ (y +ℤ pos n) → z ≤ℤ (x +ℤ pos k)
    up x y z a b = omega (arith, ints, a, b, l)

    down : (x y z : ℤ) → x ≤ℤ (y +ℤ pos m) → y ≤ℤ (z +ℤ pos n) → x ≤ℤ (z +ℤ pos k)
    down x y z a b = omega (arith, ints, a, b, l)

module _ (g : Geometry) (law : IsGrid g) where
  -- two cells of a shape
  in_shape : (cells : List Cell) → IsShape g cells → (c d : Cell) → has cells c ≡ true → has cells d ≡ true → AreNear 131 c d
  in_shape cells is c d h k =
      let form = form_of g cells is.polyform in
      let few = is.few in
      record {
        a_up = less d.a c.a (spread_a g law cells c d form h k);
        a_down = less c.a d.a (spread_a g law cells d c form k h);
        b_up = less d.b c.b (spread_b g law cells c d form h k);
        b_down = less c.b d.b (spread_b g law cells d c form k h);
      }
    where
      less : (x y : ℤ) → x ≤ℤ (y +ℤ pos (4 * length cells + 3)) → x ≤ℤ (y +ℤ pos 131)
      less x y p = let few = is.few in omega (arith, ints, p, few)

  touching_cells : (c d : Cell) → IsWithin 4 (minus d c) → AreNear 4 c d
  touching_cells c d w =
      let al = w.a_low in
      let ah = w.a_high in
      let bl = w.b_low in
      let bh = w.b_high in
      record { a_up = omega (arith, ints, ah); a_down = omega (arith, ints, al); b_up = omega (arith, ints, bh); b_down = omega (arith, ints, bl) }

  module _ (shape : List Cell) (tiles : List (List (List Cell))) (sets : List (List Cell)) (ends : List ℕ) (p : ArePatches shape tiles sets ends) (shapes : All (IsShape g) sets) (reach : (level : ℕ) → 1 ≤ level → level < length ends → DoReach g sets ends level) (origin : Cell) (origin_in : has shape origin ≡ true) where
    set_shape : (n : ℕ) → 1 ≤ n → n ≤ length sets → IsShape g (set_of sets n)
    set_shape n low high = shapes (n - 1) [] (omega (arith, low, high))

    first_set : set_of sets 1 ≡ shape
    first_set = ap (λ xs. get_or xs 0 []) p.all

    one_end : slice_index ends 0 ≡ 1
    one_end = p.sizes 0 (omega arith)

    -- how far a tile of a level lies from the shape
    level_near : (k : ℕ) → k ≤ length tiles → (n : ℕ) → 1 ≤ n → n ≤ slice_index ends k → n ≤ length sets → (c : Cell) → has (set_of sets n) c ≡ true → AreNear (131 + 135 * k) origin c
    level_near zero l n low high most c h =
        let e = one_end in
        let is : n ≡ 1 = omega (arith, e, low, high) in
        let in_first : has shape c ≡ true = ap (λ xs. has xs c) (sym (ap (set_of sets) is ∙ first_set)) ∙ h in
        let one : 1 ≤ length sets = omega (arith, low, most) in
        in_shape shape (subst (IsShape g) first_set (set_shape 1 (omega arith) one)) origin c origin_in in_first
    level_near (suc k) l n low high most c h = elim (cases_Bool (nat_lt (slice_index ends k) n)) [
      | inr f ↦ wider (131 + 135 * k) (131 + 135 * suc k) origin c (omega arith) (level_near k (omega (arith, l)) n low (at_least (slice_index ends k) n f) most c h)
      | inl t ↦
          let back : suc k - 1 ≡ k = omega arith in
          let later : slice_index ends (suc k - 1) < n = subst (λ j. slice_index ends j < n) (sym back) (is_less (slice_index ends k) n t) in
          let does : does_reach g sets (set_of sets n) (slice_index ends (suc k - 1)) ≡ true = reach (suc k) (omega arith) (level_there shape tiles sets ends p (suc k) l) n later high in
          let is = set_shape n low most in
          let r = reached g law sets (set_of sets n) (λ e m. All-contains (IsCell g) (set_of sets n) e is.polyform.is_set.in_grid m) (slice_index ends (suc k - 1)) does in
          let by = covered_by sets (slice_index ends (suc k - 1)) r.to r.to_in in
          let old = level_near k (omega (arith, l)) by.0 by.1 (subst (λ j. by.0 ≤ slice_index ends j) back by.2) by.3 r.to by.4 in
          let step = near_back 4 r.from r.to (touching_cells r.from r.to (touching_near g law r.from r.to r.touching)) in
          let own = in_shape (set_of sets n) is r.from c (has-is (set_of sets n) r.from r.from_in) h in
          near_then (131 + 135 * k) 135 (131 + 135 * suc k) origin r.to c old (near_then 4 131 135 r.to r.from c step own (omega arith)) (omega arith)
    ]
      where
        at_least : (m n : ℕ) → nat_lt m n ≡ false → n ≤ m
        at_least m n h = grind arith

        is_less : (m n : ℕ) → nat_lt m n ≡ true → m < n
        is_less m n h = grind arith

        wider : (m k : ℕ) (c d : Cell) → m ≤ k → AreNear m c d → AreNear k c d
        wider m k c d l h =
            let au = h.a_up in
            let ad = h.a_down in
            let bu = h.b_up in
            let bd = h.b_down in
            record { a_up = omega (arith, ints, au, l); a_down = omega (arith, ints, ad, l); b_up = omega (arith, ints, bu, l); b_down = omega (arith, ints, bd, l) }

    pub all_close : length tiles ≤ 6 → AreClose sets
    all_close few c d h k =
        let x = near c h in
        let y = near d k in
        let xa = x.a_down in
        let xb = x.b_down in
        let ya = y.a_up in
        let yb = y.b_up in
        (sum c.a origin.a d.a xa ya, sum c.b origin.b d.b xb yb)
      where
        near : (c : Cell) → has (cells_of sets) c ≡ true → AreNear (131 + 135 * length tiles) origin c
        near c h =
            let end = last_end shape tiles sets ends p in
            let by = covered_by sets (length sets) c (ap (λ ss. has (cells_of ss) c) (take-length sets) ∙ h) in
            level_near (length tiles) (omega arith) by.0 by.1 (let l = by.3 in omega (arith, l, end)) by.3 c by.4

        sum : (x y z : ℤ) → y ≤ℤ (x +ℤ pos (131 + 135 * length tiles)) → z ≤ℤ (y +ℤ pos (131 + 135 * length tiles)) → z ≤ℤ (x +ℤ pos 4096)
        sum x y z a b = omega (arith, ints, a, b, few)
