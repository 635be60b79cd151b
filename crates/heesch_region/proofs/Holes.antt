-- What the flood leaves is the greatest hole.
use Rattle.std.proofs.Common.{◌≡◌, refl, sym, ap, ◌∙◌, ℕ, zero, suc, ◌+◌, ◌*◌, ◌-◌, ◌/◌, ◌<◌, ◌≤◌, not-suc-le-zero, ℤ, pos, neg_ℤ, ◌+ℤ◌, ◌≤ℤ◌, ◌<ℤ◌, Bool, true, false, not, ◌&&◌, ◌||◌, List, [], ◌∷◌, length, filter, ◌⊎◌, inl, inr, arith, true≢false, Contains}
use Rattle.std.specs.Prelude.{int_lt}
use Rattle.std.proofs.lemmas.Int.{ints}
use Rattle.std.proofs.lemmas.Nat.{div-add-mod', le-div, div_below, mul-le}
use Rattle.std.proofs.lemmas.Bool.{and_parts, and_from, cases_Bool, or_cases}
use Rattle.std.proofs.lemmas.List.Elements.{All-contains}
use Rattle.heesch_grid.specs.declared.Cell.{Cell}
use Rattle.heesch_grid.specs.Listing.{ListsExactly}
use Rattle.heesch_grid.specs.Cells.{cell_before, has}
use Rattle.heesch_grid.specs.Geometry.{Geometry, IsCell, Adjacent, IsGrid}
use Rattle.heesch_grid.specs.Hole.{IsHole, IsHoleFree, IsInHole, IsGreatestHole}
use Rattle.heesch_grid.specs.Pairs.{has-true, or-left, or-right}
use Rattle.heesch_grid.proofs.ListFacts.{fewer_pass, All-from_members, no_member, member_here}
use Rattle.heesch_grid.proofs.CellFacts.{has-is, has-false}
use Rattle.heesch_grid.proofs.Adding.{adjacent_cell}
use Rattle.heesch_region.specs.declared.window.Window.{Window}
use Rattle.heesch_region.specs.Windows.{bits, column, is_inner, is_marked}
use Rattle.heesch_region.specs.Marks.{AreMarksOf}
use Rattle.heesch_region.specs.Floods.{IsClosed, IsNarrowed}
use Rattle.heesch_region.proofs.Places.{inner-true, inner-is, distance, mod_less}

lt-is : (x y : ℤ) → x <ℤ y → int_lt x y ≡ true
lt-is x y h = grind (arith, ints)

lt-true : (x y : ℤ) → int_lt x y ≡ true → x <ℤ y
lt-true x y h = omega (arith, ints)

lt-self : (x : ℤ) → int_lt x x ≡ false
lt-self x = grind (arith, ints)

-- no finite set leads on and on to members with a lesser number
descend : (hole : List Cell) (P : Cell → Type 0) (f : Cell → ℤ) → ((c : Cell) → Contains hole c → P c → (d : Cell) × Contains hole d × P d × (f d <ℤ f c)) → (n : ℕ) (c : Cell) → length (filter (λ x. int_lt (f x) (f c)) hole) < n → Contains hole c → P c → ⊥
descend hole P f step zero c l m p = not-suc-le-zero l
descend hole P f step (suc n) c l m p =
    let s = step c m p in
    let less : (x : Cell) → int_lt (f x) (f s.0) ≡ true → int_lt (f x) (f c) ≡ true = λ x h. lower (f x) (f s.0) (f c) h s.3 in
    let fewer = fewer_pass (λ x. int_lt (f x) (f c)) (λ x. int_lt (f x) (f s.0)) less hole s.0 s.1 (lt-is (f s.0) (f c) s.3) (lt-self (f s.0)) in
    descend hole P f step n s.0 (omega (arith, fewer, l)) s.1 s.2
  where
    lower : (x y z : ℤ) → int_lt x y ≡ true → y <ℤ z → int_lt x z ≡ true
    lower x y z h k = grind (arith, ints)

-- ---- the box inside the border

record IsBoxed (w : Window) (c : Cell) : Type 0 where
  a_low : (w.low.a +ℤ pos (64 * w.unit)) ≤ℤ c.a
  a_high : c.a <ℤ (w.low.a +ℤ pos ((bits w - 64) * w.unit))
  b_low : (w.low.b +ℤ pos 4) ≤ℤ c.b
  b_high : c.b <ℤ (w.low.b +ℤ pos (w.tall - 4))

boxed : (w : Window) (c : Cell) → is_inner w c ≡ true → IsBoxed w c
boxed w c h =
    let i = inner-true w c h in
    let a = distance w.low.a c.a i.inside.a_low in
    let b = distance w.low.b c.b i.inside.b_low in
    let low = spot_from (column w c) w.unit i.spot_low in
    let high = spot_to (column w c) w.unit (bits w) w.some i.spot_high in
    let r_low = i.row_low in
    let r_high = i.row_high in
    record {
      a_low = omega (arith, ints, a, low);
      a_high = omega (arith, ints, a, high);
      b_low = omega (arith, ints, b, r_low);
      b_high = omega (arith, ints, b, r_high);
    }
  where
    spot_from : (k u : ℕ) → 64 ≤ k / u → 64 * u ≤ k
    spot_from k u l = let e = div-add-mod' k u in let m : 64 * u ≤ k / u * u = mul-le 64 u (k / u) u l (omega arith) in omega (arith, e, m)

    spot_to : (k u l : ℕ) → 1 ≤ u → k / u + 64 < l → k < (l - 64) * u
    spot_to k u l some h =
        let e = div-add-mod' k u in
        let r = mod_less k u some in
        let m : (k / u + 1) * u ≤ (l - 64) * u = mul-le (k / u + 1) u (l - 64) u (omega (arith, h)) (omega arith) in
        omega (arith, e, r, m)

unboxed : (w : Window) (c : Cell) → IsBoxed w c → is_inner w c ≡ true
unboxed w c h =
    let al = h.a_low in
    let ah = h.a_high in
    let bl = h.b_low in
    let bh = h.b_high in
    let a_low : w.low.a ≤ℤ c.a = omega (arith, ints, al) in
    let b_low : w.low.b ≤ℤ c.b = omega (arith, ints, bl) in
    let a = distance w.low.a c.a a_low in
    let b = distance w.low.b c.b b_low in
    let rows : 9 ≤ w.tall = w.rows in
    let border : 3 ≤ w.words = w.border in
    let from : 64 * w.unit ≤ column w c = omega (arith, ints, a, al) in
    let to : column w c < (bits w - 64) * w.unit = omega (arith, ints, a, ah) in
    let spot : column w c / w.unit < bits w - 64 = div_below (column w c) w.unit (bits w - 64) (positive w.unit w.some) to in
    inner-is w c
    (record {
      inside = record { a_low = a_low; a_high = whole (column w c) w.unit (bits w) to; b_low = b_low; b_high = omega (arith, ints, b, bh, rows) };
      spot_low = le-div 64 (column w c) w.unit (positive w.unit w.some) from;
      spot_high = omega (arith, spot);
      row_low = omega (arith, ints, b, bl);
      row_high = omega (arith, ints, b, bh, rows);
    })
  where
    positive : (u : ℕ) → 1 ≤ u → 0 < u
    positive u h = omega arith

    whole : (k u l : ℕ) → k < (l - 64) * u → k < l * u
    whole k u l h = let m : (l - 64) * u ≤ l * u = mul-le (l - 64) u l u (omega arith) (omega arith) in omega (arith, h, m)

module _ (g : Geometry) (law : IsGrid g) (w : Window) (cells : List Cell) (within : (c : Cell) → has cells c ≡ true → is_inner w c ≡ true) where
  -- a cell of a hole with a number below that of every cell of the set leads to another one
  beyond : (f : Cell → ℤ) (bound : ℤ) → ((c : Cell) → IsBoxed w c → bound ≤ℤ f c) → ((c : Cell) → IsCell g c → (d : Cell) × Adjacent g c d × (f d <ℤ f c)) → (hole : List Cell) → IsHole g cells hole → (c : Cell) → Contains hole c → bound ≤ℤ f c
  beyond f bound in_window next hole h c m = elim (cases_Bool (int_lt (f c) bound)) [
    | inl t ↦ absurd (descend hole (λ x. f x <ℤ bound) f step (suc (length (filter (λ x. int_lt (f x) (f c)) hole))) c (omega arith) m (lt-true (f c) bound t))
    | inr n ↦ at_least (f c) bound n
  ]
    where
      at_least : (x y : ℤ) → int_lt x y ≡ false → y ≤ℤ x
      at_least x y h = omega (arith, ints)

      step : (x : Cell) → Contains hole x → f x <ℤ bound → (d : Cell) × Contains hole d × (f d <ℤ bound) × (f d <ℤ f x)
      step x k low =
          let n = next x (All-contains (IsCell g) hole x h.in_grid k) in
          elim (h.enclosed x n.0 k n.1) [
            | inl d_in ↦ (n.0, d_in, omega (arith, ints, n.2, low), n.2)
            | inr in_set ↦ absurd (omega (arith, ints, n.2, low, in_window n.0 (boxed w n.0 (within n.0 (has-is cells n.0 in_set)))))
          ]

  -- holes lie inside the border
  pub holes_inner : (hole : List Cell) → IsHole g cells hole → (c : Cell) → Contains hole c → is_inner w c ≡ true
  holes_inner hole h c m =
      unboxed w c
      (record {
        a_low = beyond (λ x. x.a) (w.low.a +ℤ pos (64 * w.unit)) (λ x i. i.a_low) law.smaller_a hole h c m;
        a_high = let l = beyond (λ x. neg_ℤ x.a) (neg_ℤ (w.low.a +ℤ pos ((bits w - 64) * w.unit)) +ℤ pos 1) (λ x i. let k = i.a_high in flip x.a (w.low.a +ℤ pos ((bits w - 64) * w.unit)) k) (λ x k. let n = law.greater_a x k in (n.0, n.1, omega (arith, ints, n.2))) hole h c m in unflip c.a (w.low.a +ℤ pos ((bits w - 64) * w.unit)) l;
        b_low = beyond (λ x. x.b) (w.low.b +ℤ pos 4) (λ x i. i.b_low) law.smaller_b hole h c m;
        b_high = let l = beyond (λ x. neg_ℤ x.b) (neg_ℤ (w.low.b +ℤ pos (w.tall - 4)) +ℤ pos 1) (λ x i. let k = i.b_high in flip x.b (w.low.b +ℤ pos (w.tall - 4)) k) (λ x k. let n = law.greater_b x k in (n.0, n.1, omega (arith, ints, n.2))) hole h c m in unflip c.b (w.low.b +ℤ pos (w.tall - 4)) l;
      })
    where
      flip : (x y : ℤ) → x <ℤ y → (neg_ℤ y +ℤ pos 1) ≤ℤ neg_ℤ x
      flip x y h = omega (arith, ints, h)

      unflip : (x y : ℤ) → (neg_ℤ y +ℤ pos 1) ≤ℤ neg_ℤ x → x <ℤ y
      unflip x y h = omega (arith, ints, h)

-- what is kept of all inner cells, once nothing more leads out
module _ (g : Geometry) (law : IsGrid g) (w : Window) (cells : List Cell) (words : List ℕ) (marks : AreMarksOf g w cells words) (first kept : Cell → Bool) (all : (c : Cell) → first c ≡ (is_inner w c && g.is_cell c)) (narrowed : IsNarrowed g (is_marked w words) first kept) (settled : (c d : Cell) → kept c ≡ true → Adjacent g c d → (is_marked w words c ≡ true) ⊎ (kept d ≡ true)) (xs : List Cell) (listed : ListsExactly cell_before (λ c. (kept c && not (is_marked w words c)) ≡ true) xs) where
  left_parts : (c : Cell) → Contains xs c → (kept c ≡ true) × (has cells c ≡ false)
  left_parts c m =
      let both = and_parts (kept c) (not (is_marked w words c)) (All-contains (λ c. (kept c && not (is_marked w words c)) ≡ true) xs c listed.only m) in
      (both.0, sym (marks.exact c) ∙ not_not (is_marked w words c) both.1)
    where
      not_not : (b : Bool) → not b ≡ true → b ≡ false
      not_not true h = absurd (true≢false (sym h))
      not_not false h = refl

  left_is : (c : Cell) → kept c ≡ true → has cells c ≡ false → Contains xs c
  left_is c k h = listed.every c (and_from (kept c) (not (is_marked w words c)) k (ap not (marks.exact c ∙ h)))

  -- each hole, with the set, is closed, so it is kept
  hole_kept : (hole : List Cell) → IsHole g cells hole → (c : Cell) → Contains hole c → kept c ≡ true
  hole_kept hole h c m = narrowed.keeps test closed start c (and_from (g.is_cell c) (has hole c || has cells c) (All-contains (IsCell g) hole c h.in_grid m) (or-left (has hole c) (has cells c) (has-is hole c m)))
    where
      test : Cell → Bool
      test c = g.is_cell c && (has hole c || has cells c)

      closed : IsClosed g (is_marked w words) test
      closed c d t a =
          let both = and_parts (g.is_cell c) (has hole c || has cells c) t in
          let d_in : IsCell g d = adjacent_cell g law c d a in
          elim (or_cases (has hole c) (has cells c) both.1) [
            | inl k ↦ elim (h.enclosed c d (has-true hole c k) a) [
              | inl e ↦ inr (and_from (g.is_cell d) (has hole d || has cells d) d_in (or-left (has hole d) (has cells d) (has-is hole d e)))
              | inr e ↦ inr (and_from (g.is_cell d) (has hole d || has cells d) d_in (or-right (has hole d) (has cells d) (has-is cells d e)))
            ]
            | inr k ↦ inl (marks.exact c ∙ k)
          ]

      start : (c : Cell) → test c ≡ true → first c ≡ true
      start c t =
          let both = and_parts (g.is_cell c) (has hole c || has cells c) t in
          all c ∙ and_from (is_inner w c) (g.is_cell c) (elim (or_cases (has hole c) (has cells c) both.1) [
            | inl k ↦ holes_inner g law w cells marks.inner hole h c (has-true hole c k)
            | inr k ↦ marks.inner c k
          ]) both.0

  left_hole : 0 < length xs → IsHole g cells xs
  left_hole some =
      record {
        some = some;
        in_grid = All-from_members (IsCell g) xs (λ c m. (and_parts (is_inner w c) (g.is_cell c) (sym (all c) ∙ narrowed.only c (left_parts c m).0)).1);
        outside = λ c m. has-false cells c (left_parts c m).1;
        enclosed = λ c d m a.
            let parts = left_parts c m in
            elim (settled c d parts.0 a) [
              | inl t ↦ absurd (true≢false (sym t ∙ marks.exact c ∙ parts.1))
              | inr k ↦ elim (cases_Bool (has cells d)) [
                | inl t ↦ inr (has-true cells d t)
                | inr f ↦ inl (left_is d k f)
              ]
            ];
      }

  outside_hole : (hole : List Cell) → IsHole g cells hole → (c : Cell) → Contains hole c → has cells c ≡ false
  outside_hole hole h c m = elim (cases_Bool (has cells c)) [ inl t ↦ absurd (h.outside c m (has-true cells c t)) | inr f ↦ f ]

  pub greatest : IsGreatestHole g cells xs
  greatest =
      record {
        rising = listed.rising;
        only = All-from_members (IsInHole g cells) xs (λ c m. record { hole = xs; is_hole = left_hole (some_of xs c m); member = m });
        every = λ c i. left_is c (hole_kept i.hole i.is_hole c i.member) (outside_hole i.hole i.is_hole c i.member);
      }
    where
      some_of : (xs : List Cell) (c : Cell) → Contains xs c → 0 < length xs
      some_of [] c m = absurd (no_member c m)
      some_of (x ∷ xs) c m = omega arith

  pub hole_free : length xs ≡ 0 → IsHoleFree g cells
  hole_free none hole h = absurd (empty hole h.some (λ c m. left_is c (hole_kept hole h c m) (outside_hole hole h c m)))
    where
      nothing : (xs : List Cell) (c : Cell) → length xs ≡ 0 → Contains xs c → ⊥
      nothing [] c e m = no_member c m
      nothing (x ∷ xs) c e m = omega arith

      empty : (hole : List Cell) → 0 < length hole → ((c : Cell) → Contains hole c → Contains xs c) → ⊥
      empty [] l f = omega arith
      empty (x ∷ hole) l f = nothing xs x none (f x (member_here x hole))
