-- A relation on cells that is asked of how many corners they share, against a table of differences for each kind.
use Rattle.std.proofs.Common.{◌≡◌, ℕ, ◌*◌, ◌<◌, ◌≤◌, Bool, true, false, not, ◌&&◌, List, map, get_or, length, pos, ◌-ℤ◌, ◌≤ℤ◌, refl, sym, ap, ◌∙◌, arith}
use Rattle.std.specs.List.{list_any, list_all}
use Rattle.std.proofs.lemmas.Int.{ints}
use Rattle.heesch_grid.specs.declared.Cell.{Cell}
use Rattle.heesch_grid.specs.declared.isometries.Iso.{Iso}
use Rattle.heesch_grid.specs.Cells.{cell, same_cell}
use Rattle.heesch_grid.specs.Geometry.{apply}
use Rattle.heesch_grid.specs.KindLemmas.{is_cell_moved, kind_found, kind_moved, moved_from, shared_moved}
use Rattle.heesch_grid.specs.Pairs.{Cell-eta, same_cell-is, same_cell-true, turned_add, turned_times, within_of}
use Rattle.heesch_grid.specs.Pattern.{Kind, Pattern, grid_of, identity, kind_of, shared, turned, within_test}
use Rattle.heesch_grid.specs.Vectors.{IsWithin, minus, negated, plus, times}
use Rattle.heesch_grid.specs.Integers.{same_truth, mul_sub, small_factor}
use Rattle.heesch_grid.specs.Lists.{all_within, all_within_at, found, all_at, any_map, filter_some}

-- whether both are true or both false
abbrev pub same : Bool → Bool → Bool
same true b = b
same false b = not b

pub same_is : (b c : Bool) → same b c ≡ true → b ≡ c
same_is true true h = refl
same_is true false h = sym h
same_is false true h = h
same_is false false h = refl

-- each pair within 4 of 0 passes
abbrev pub window_passes : (Cell → Bool) → Bool
window_passes t = all_within 4 (λ x. all_within 4 (λ y. t (cell x y)))

pub window_at : (t : Cell → Bool) (c : Cell) → window_passes t ≡ true → IsWithin 4 c → t c ≡ true
window_at t c h w =
    all_within_at 4 (λ y. t (cell c.a y)) c.b (all_within_at 4 (λ x. all_within 4 (λ y. t (cell x y))) c.a h w.a_low w.a_high) w.b_low w.b_high

-- d is another cell, and rel holds of how many corners c shares with it
abbrev pub related : Pattern → (ℕ → Bool) → Cell → Cell → Bool
related p rel c d = (grid_of p).is_cell d && (not (same_cell c d) && rel (shared p c d))

-- the table of each kind lists just the differences to the related cells near it
abbrev pub table_test : Pattern → (Kind → List Cell) → (ℕ → Bool) → Bool
table_test p table rel =
    list_all (λ k. window_passes (λ x. same (related p rel k.cell (plus k.cell x)) (list_any (same_cell x) (table k)))) p.kinds

-- whether the tables' differences lie within 4 of 0
abbrev pub table_near : Pattern → (Kind → List Cell) → Bool
table_near p table = list_all (λ k. list_all (within_test 4) (table k)) p.kinds

-- each turn carries the table of a kind into that of its image
abbrev pub table_turns : Pattern → (Kind → List Cell) → Bool
table_turns p table =
    list_all (λ t. list_all (λ k. list_all (λ x. list_any (same_cell (turned t x)) (table (kind_of p.unit p.kinds (turned t k.cell)))) (table k)) p.kinds) p.turns

-- each difference of a table leads back by its negative
abbrev pub table_back : Pattern → (Kind → List Cell) → Bool
table_back p table =
    list_all (λ k. list_all (λ x. list_any (same_cell (negated x)) (table (kind_of p.unit p.kinds (plus k.cell x)))) (table k)) p.kinds

-- the corners of a cell lie near it
abbrev pub corners_near : Pattern → Bool
corners_near p = list_all (λ k. list_all (within_test (2 * p.scale)) k.corners) p.kinds

-- each turn of a kind's cell is a cell
abbrev pub cells_turn : Pattern → Bool
cells_turn p = list_all (λ t. list_all (λ k. (grid_of p).is_cell (turned t k.cell)) p.kinds) p.turns

-- two scaled pairs that are near each other
near_pairs : (s : ℕ) (c d k l : Cell) → 1 ≤ s → IsWithin (2 * s) k → IsWithin (2 * s) l → plus (times s c) k ≡ plus (times s d) l → IsWithin 4 (minus d c)
near_pairs s c d k l low kw lw e =
    let ea = ap (λ x. x.a) e in
    let eb = ap (λ x. x.b) e in
    let da = mul_sub (pos s) d.a c.a in
    let db = mul_sub (pos s) d.b c.b in
    let ca = mul_sub (pos s) c.a d.a in
    let cb = mul_sub (pos s) c.b d.b in
    let h1 : (d.a -ℤ c.a) ≤ℤ pos 4 = small_factor s (d.a -ℤ c.a) low (omega (arith, ints, ea, da)) in
    let h2 : (c.a -ℤ d.a) ≤ℤ pos 4 = small_factor s (c.a -ℤ d.a) low (omega (arith, ints, ea, ca)) in
    let h3 : (d.b -ℤ c.b) ≤ℤ pos 4 = small_factor s (d.b -ℤ c.b) low (omega (arith, ints, eb, db)) in
    let h4 : (c.b -ℤ d.b) ≤ℤ pos 4 = small_factor s (c.b -ℤ d.b) low (omega (arith, ints, eb, cb)) in
    record { a_low = omega (arith, ints, h2); a_high = h1; b_low = omega (arith, ints, h4); b_high = h3 }

module _ (p : Pattern) (low : 1 ≤ p.unit) (scale_low : 1 ≤ p.scale) (corners : corners_near p ≡ true) where
  -- cells that share a corner are near each other
  pub sharing_near : (c d : Cell) → (grid_of p).is_cell c ≡ true → (grid_of p).is_cell d ≡ true → 1 ≤ shared p c d → IsWithin 4 (minus d c)
  sharing_near c d c_in d_in h =
      let n = p.unit in
      let s = p.scale in
      let kc = kind_of n p.kinds c in
      let kd = kind_of n p.kinds d in
      let t : Kind → Bool = λ k. list_all (within_test (2 * p.scale)) k.corners in
      let near_c = (kind_found n t p.kinds c corners c_in).0 in
      let near_d = (kind_found n t p.kinds d corners d_in).0 in
      let some : list_any (λ k. list_any (same_cell k) (map (plus (times s d)) kd.corners)) (map (plus (times s c)) kc.corners) ≡ true = filter_some (λ k. list_any (same_cell k) (map (plus (times s d)) kd.corners)) (map (plus (times s c)) kc.corners) h in
      let at_c : list_any (λ k. list_any (same_cell (plus (times s c) k)) (map (plus (times s d)) kd.corners)) kc.corners ≡ true = sym (any_map (λ k. list_any (same_cell k) (map (plus (times s d)) kd.corners)) (plus (times s c)) kc.corners) ∙ some in
      let k = found (λ k. list_any (same_cell (plus (times s c) k)) (map (plus (times s d)) kd.corners)) (within_test (2 * s)) kc.corners at_c near_c in
      let at_d : list_any (λ l. same_cell (plus (times s c) k.0) (plus (times s d) l)) kd.corners ≡ true = sym (any_map (same_cell (plus (times s c) k.0)) (plus (times s d)) kd.corners) ∙ k.1 in
      let l = found (λ l. same_cell (plus (times s c) k.0) (plus (times s d) l)) (within_test (2 * s)) kd.corners at_d near_d in
      near_pairs s c d k.0 l.0 scale_low (within_of (2 * s) k.0 k.2) (within_of (2 * s) l.0 l.2) (same_cell-true (plus (times s c) k.0) (plus (times s d) l.0) l.1)

module _ (p : Pattern) (low : 1 ≤ p.unit) where
  -- a turned cell is a cell, and its kind is that of its kind's turned cell
  pub turned_is_cell : (k : ℕ) (c : Cell) → cells_turn p ≡ true → k < length p.turns → (grid_of p).is_cell c ≡ true → (grid_of p).is_cell (turned (get_or p.turns k identity) c) ≡ true
  turned_is_cell k c turns less c_in =
      let n = p.unit in
      let t = get_or p.turns k identity in
      let test : Kind → Bool = λ k. (grid_of p).is_cell (turned t k.cell) in
      let all = all_at (λ t. list_all (λ k. (grid_of p).is_cell (turned t k.cell)) p.kinds) p.turns k identity turns less in
      let f = kind_found n test p.kinds c all c_in in
      let o = (kind_of n p.kinds c).cell in
      let m = moved_from n c o low f.1 in
      let e : turned t c ≡ plus (turned t o) (times n (turned t m.0)) = ap (turned t) m.1 ∙ turned_add t o (times n m.0) ∙ ap (plus (turned t o)) (turned_times t m.0 n) in
      ap (grid_of p).is_cell e ∙ is_cell_moved p low (turned t o) (turned t m.0) ∙ f.0

  related_moved : (rel : ℕ → Bool) (c d v : Cell) → related p rel (plus c (times p.unit v)) (plus d (times p.unit v)) ≡ related p rel c d
  related_moved rel c d v =
      let w = times p.unit v in
      let zero_cell = cell (pos 0) (pos 0) in
      let e : same_cell (plus c w) (plus d w) ≡ same_cell c d = cell_eq_shift c d w in
      rw (is_cell_moved p low d v, shared_moved p low c d v, e) refl
    where
      cell_eq_shift : (x y w : Cell) → same_cell (plus x w) (plus y w) ≡ same_cell x y
      cell_eq_shift x y w =
          same_truth (same_cell (plus x w) (plus y w)) (same_cell x y)
          (λ h. let e = same_cell-true (plus x w) (plus y w) h in let ea = ap (λ x. x.a) e in let eb = ap (λ x. x.b) e in same_cell-is x y (Cell-eta x y (omega (arith, ints, ea)) (omega (arith, ints, eb))))
          (λ h. same_cell-is (plus x w) (plus y w) (ap (λ z. plus z w) (same_cell-true x y h)))

module _ (p : Pattern) (low : 1 ≤ p.unit) (table : Kind → List Cell) (rel : ℕ → Bool) (exact : table_test p table rel ≡ true) (near : table_near p table ≡ true) where
  -- near a cell, the table decides
  at_difference : (c x : Cell) → (grid_of p).is_cell c ≡ true → IsWithin 4 x → related p rel c (plus c x) ≡ list_any (same_cell x) (table (kind_of p.unit p.kinds c))
  at_difference c x c_in w =
      let n = p.unit in
      let k = kind_of n p.kinds c in
      let f = kind_found n (λ k. window_passes (λ x. same (related p rel k.cell (plus k.cell x)) (list_any (same_cell x) (table k)))) p.kinds c exact c_in in
      let m = moved_from n c k.cell low f.1 in
      let at_kind = same_is (related p rel k.cell (plus k.cell x)) (list_any (same_cell x) (table k)) (window_at (λ x. same (related p rel k.cell (plus k.cell x)) (list_any (same_cell x) (table k))) x f.0 w) in
      let e : plus c x ≡ plus (plus k.cell x) (times n m.0) = Cell-eta (plus c x) (plus (plus k.cell x) (times n m.0)) (omega (arith, ints, ap (λ z. z.a) m.1)) (omega (arith, ints, ap (λ z. z.b) m.1)) in
      let r : related p rel c (plus c x) ≡ related p rel (plus k.cell (times n m.0)) (plus (plus k.cell x) (times n m.0)) = ap (λ y. related p rel y (plus c x)) m.1 ∙ ap (λ y. related p rel (plus k.cell (times n m.0)) y) e in
      r ∙ related_moved p low rel k.cell (plus k.cell x) m.0 ∙ at_kind

  pub listed_near : (c x : Cell) → (grid_of p).is_cell c ≡ true → list_any (same_cell x) (table (kind_of p.unit p.kinds c)) ≡ true → IsWithin 4 x
  listed_near c x c_in h =
      let k = kind_of p.unit p.kinds c in
      let f = kind_found p.unit (λ k. list_all (within_test 4) (table k)) p.kinds c near c_in in
      let y = found (same_cell x) (within_test 4) (table k) h f.0 in
      rw (same_cell-true x y.0 y.1) (within_of 4 y.0 y.2)

  pub listed_related : (c d : Cell) → (grid_of p).is_cell c ≡ true → list_any (same_cell (minus d c)) (table (kind_of p.unit p.kinds c)) ≡ true → related p rel c d ≡ true
  listed_related c d c_in h =
      let e : plus c (minus d c) ≡ d = Cell-eta (plus c (minus d c)) d (omega (arith, ints)) (omega (arith, ints)) in
      ap (related p rel c) (sym e) ∙ at_difference c (minus d c) c_in (listed_near c (minus d c) c_in h) ∙ h

  pub related_listed : (c d : Cell) → (grid_of p).is_cell c ≡ true → IsWithin 4 (minus d c) → related p rel c d ≡ true → list_any (same_cell (minus d c)) (table (kind_of p.unit p.kinds c)) ≡ true
  related_listed c d c_in w h =
      let e : plus c (minus d c) ≡ d = Cell-eta (plus c (minus d c)) d (omega (arith, ints)) (omega (arith, ints)) in
      sym (at_difference c (minus d c) c_in w) ∙ ap (related p rel c) e ∙ h

  -- an isometry keeps the relation
  pub listed_kept : (i : Iso) (c d : Cell) → cells_turn p ≡ true → table_turns p table ≡ true → i.turn < length p.turns → (grid_of p).is_cell c ≡ true → list_any (same_cell (minus d c)) (table (kind_of p.unit p.kinds c)) ≡ true → related p rel (apply (grid_of p) i c) (apply (grid_of p) i d) ≡ true
  listed_kept i c d cells turns less c_in h =
      let n = p.unit in
      let ks = p.kinds in
      let t = get_or p.turns i.turn identity in
      let k = kind_of n ks c in
      let v = cell i.da i.db in
      let c' = apply (grid_of p) i c in
      let d' = apply (grid_of p) i d in
      let all = all_at (λ t. list_all (λ k. list_all (λ x. list_any (same_cell (turned t x)) (table (kind_of n ks (turned t k.cell)))) (table k)) ks) p.turns i.turn identity turns less in
      let f = kind_found n (λ k. list_all (λ x. list_any (same_cell (turned t x)) (table (kind_of n ks (turned t k.cell)))) (table k)) ks c all c_in in
      let m = moved_from n c k.cell low f.1 in
      let x = found (same_cell (minus d c)) (λ x. list_any (same_cell (turned t x)) (table (kind_of n ks (turned t k.cell)))) (table k) h f.0 in
      let same_x = same_cell-true (minus d c) x.0 x.1 in
      let listed : list_any (same_cell (turned t (minus d c))) (table (kind_of n ks (turned t k.cell))) ≡ true = ap (λ y. list_any (same_cell (turned t y)) (table (kind_of n ks (turned t k.cell)))) same_x ∙ x.2 in
      let turn_c : turned t c ≡ plus (turned t k.cell) (times n (turned t m.0)) = ap (turned t) m.1 ∙ turned_add t k.cell (times n m.0) ∙ ap (plus (turned t k.cell)) (turned_times t m.0 n) in
      let kind_c : kind_of n ks c' ≡ kind_of n ks (turned t k.cell) = kind_moved n ks (turned t c) v low ∙ ap (kind_of n ks) turn_c ∙ kind_moved n ks (turned t k.cell) (turned t m.0) low in
      let sum : plus c (minus d c) ≡ d = Cell-eta (plus c (minus d c)) d (omega (arith, ints)) (omega (arith, ints)) in
      let turn_d : turned t d ≡ plus (turned t c) (turned t (minus d c)) = ap (turned t) (sym sum) ∙ turned_add t c (minus d c) in
      let difference : minus d' c' ≡ turned t (minus d c) = Cell-eta (minus d' c') (turned t (minus d c)) (omega (arith, ints, ap (λ z. z.a) turn_d)) (omega (arith, ints, ap (λ z. z.b) turn_d)) in
      let c'_in : (grid_of p).is_cell c' ≡ true = is_cell_moved p low (turned t c) v ∙ turned_is_cell p low i.turn c cells less c_in in
      listed_related c' d' c'_in (ap (λ y. list_any (same_cell y) (table (kind_of n ks c'))) difference ∙ ap (λ k. list_any (same_cell (turned t (minus d c))) (table k)) kind_c ∙ listed)

  -- the relation goes both ways
  pub listed_back : (c d : Cell) → table_back p table ≡ true → (grid_of p).is_cell c ≡ true → (grid_of p).is_cell d ≡ true → list_any (same_cell (minus d c)) (table (kind_of p.unit p.kinds c)) ≡ true → related p rel d c ≡ true
  listed_back c d back c_in d_in h =
      let n = p.unit in
      let ks = p.kinds in
      let k = kind_of n ks c in
      let test : Kind → Bool = λ k. list_all (λ x. list_any (same_cell (negated x)) (table (kind_of n ks (plus k.cell x)))) (table k) in
      let f = kind_found n test ks c back c_in in
      let m = moved_from n c k.cell low f.1 in
      let x = found (same_cell (minus d c)) (λ x. list_any (same_cell (negated x)) (table (kind_of n ks (plus k.cell x)))) (table k) h f.0 in
      let y = minus d c in
      let listed : list_any (same_cell (negated y)) (table (kind_of n ks (plus k.cell y))) ≡ true = ap (λ y. list_any (same_cell (negated y)) (table (kind_of n ks (plus k.cell y)))) (same_cell-true y x.0 x.1) ∙ x.2 in
      let place : d ≡ plus (plus k.cell y) (times n m.0) = Cell-eta d (plus (plus k.cell y) (times n m.0)) (omega (arith, ints, ap (λ z. z.a) m.1)) (omega (arith, ints, ap (λ z. z.b) m.1)) in
      let kind_d : kind_of n ks d ≡ kind_of n ks (plus k.cell y) = ap (kind_of n ks) place ∙ kind_moved n ks (plus k.cell y) m.0 low in
      let opposite : minus c d ≡ negated y = Cell-eta (minus c d) (negated y) (omega (arith, ints)) (omega (arith, ints)) in
      listed_related d c d_in (ap (λ y. list_any (same_cell y) (table (kind_of n ks d))) opposite ∙ ap (λ k. list_any (same_cell (negated y)) (table k)) kind_d ∙ listed)
