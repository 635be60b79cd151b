-- Images of a shape that are moved, and its forms.
use Rattle.std.proofs.Common.{◌≡◌, refl, sym, ap, ◌∙◌, subst, ℕ, ◌+◌, ◌<◌, ◌≤◌, true, List, [], ◌∷◌, ◌++◌, map, length, take, get_or, inl, inr, ℤ, pos, ◌+ℤ◌, ◌-ℤ◌, neg_ℤ, ◌*ℤ◌, ◌≤ℤ◌, ◌<ℤ◌, negsuc, ◌*◌, ◌/◌, ◌%◌, Contains, arith}
use Rattle.std.proofs.lemmas.Int.{ints}
use Rattle.std.proofs.lemmas.Nat.{mul-le}
use Rattle.std.proofs.lemmas.Bool.{or_cases, cases_lt}
use Rattle.std.proofs.lemmas.List.Elements.{All-contains, Contains-append_cases, Contains-append_left, Contains-append_right}
use Rattle.std.proofs.lemmas.List.{take_more, length-append, get_or_append_left, get_or_push}
use Rattle.heesch_grid.specs.Listing.{ListsExactly}
use Rattle.heesch_grid.proofs.Images.{wider, turn_within}
use Rattle.heesch_shape.proofs.Loops.{has_more}
use Rattle.heesch_grid.specs.declared.Cell.{Cell}
use Rattle.heesch_grid.specs.declared.isometries.Iso.{Iso}
use Rattle.heesch_grid.specs.Cells.{cell, same_cell, cells_before, has, IsCellListOf}
use Rattle.heesch_grid.specs.Geometry.{Geometry, IsGrid, apply, image}
use Rattle.heesch_grid.specs.Integers.{mul_add, mul_neg, mul_sub}
use Rattle.std.specs.Int.{int_div_euclid}
use Rattle.heesch_grid.specs.Pairs.{Cell-eta, has-true, same_cell-true}
use Rattle.heesch_grid.specs.Placement.{IsLeastIsometry, IsPlacement}
use Rattle.heesch_grid.specs.Vectors.{IsWithin, plus, minus}
use Rattle.heesch_grid.proofs.CellFacts.{has-is}
use Rattle.heesch_grid.proofs.ListFacts.{no_member, member_here, member_cases}
use Rattle.heesch_grid.proofs.WindowFacts.{map_member}
use Rattle.heesch_place.specs.Found.{FromOne, IsMoved, AreTurned}
use Rattle.heesch_place.specs.Spots.{AreForms, AreUnitsBack, BeginsInBlock, IsInBlock, head_of}
use Rattle.heesch_place.specs.Steps.{IsFirstOf}
use Rattle.heesch_place.proofs.Gathering.{any_default, member_at}
use Rattle.heesch_place.proofs.Moves.{moved_list, move_of, image_list, leads}

-- the step of so many units
abbrev pub scaled : Geometry → Cell → Cell
scaled g units = cell (pos g.unit *ℤ units.a) (pos g.unit *ℤ units.b)

pub map_twice : (f h k : Cell → Cell) (xs : List Cell) → ((c : Cell) → f (h c) ≡ k c) → map f (map h xs) ≡ map k xs
map_twice f h k [] e = refl
map_twice f h k (x ∷ xs) e = λ i. e x i ∷ map_twice f h k xs e i

pub map_same : (xs : List Cell) → map (λ c. c) xs ≡ xs
map_same [] = refl
map_same (x ∷ xs) = ap (λ zs. x ∷ zs) (map_same xs)

across : (n : ℕ) (z u v : ℤ) → (pos n *ℤ (v -ℤ u)) +ℤ ((pos n *ℤ u) +ℤ z) ≡ (pos n *ℤ v) +ℤ z
across n z u v = omega (arith, ints, mul_sub (pos n) v u)

further : (n : ℕ) (z u v : ℤ) → (pos n *ℤ v) +ℤ (z +ℤ (pos n *ℤ u)) ≡ z +ℤ (pos n *ℤ (u +ℤ v))
further n z u v = omega (arith, ints, mul_add (pos n) u v)

-- one more cell near 0
pub near_more : (xs : List Cell) (i : ℕ) (d : Cell) (m n : ℕ) → i < length xs → ((c : Cell) → has (take i xs) c ≡ true → IsWithin m c) → m ≤ n → IsWithin n (get_or xs i d) → (c : Cell) → has (take (i + 1) xs) c ≡ true → IsWithin n c
near_more xs i d m n less near up here c h =
    elim (or_cases (has (take i xs) c) (same_cell c (get_or xs i d)) (sym (has_more xs i d c less) ∙ h)) [
      | inl old ↦ wider m n c up (near c old)
      | inr e ↦ subst (IsWithin n) (sym (same_cell-true c (get_or xs i d) e)) here
    ]

module _ (g : Geometry) where
  -- two lists that are one list moved are one another moved
  pub moved_across : (t x y : List Cell) → IsMoved g t x → IsMoved g t y → IsMoved g x y
  moved_across t x y u v =
      let w : Cell = minus v.units u.units in
      record {
        units = w;
        is = v.is ∙ sym (map_twice (plus (scaled g w)) (plus (scaled g u.units)) (plus (scaled g v.units)) t (λ c. Cell-eta (plus (scaled g w) (plus (scaled g u.units) c)) (plus (scaled g v.units) c) (across g.unit c.a u.units.a v.units.a) (across g.unit c.b u.units.b v.units.b))) ∙ ap (map (plus (scaled g w))) (sym u.is);
      }

  -- a placement, moved by whole units, is one
  pub placement_moved : (shape t tile : List Cell) → IsPlacement g shape t → IsMoved g t tile → IsPlacement g shape tile
  placement_moved shape t tile p m =
      let s = scaled g m.units in
      let by : Iso = record { turn = p.by.turn; da = p.by.da +ℤ m.units.a; db = p.by.db +ℤ m.units.b } in
      let same : map (plus s) (image g p.by shape) ≡ image g by shape = map_twice (plus s) (apply g p.by) (apply g by) shape (λ c. Cell-eta (plus s (apply g p.by c)) (apply g by c) (further g.unit (g.turn p.by.turn c).a p.by.da m.units.a) (further g.unit (g.turn p.by.turn c).b p.by.db m.units.b)) in
      record {
        by = by;
        is_isometry = p.is_isometry;
        is_list = subst (IsCellListOf (image g by shape)) (sym m.is) (subst (λ zs. IsCellListOf zs (map (plus s) t)) same (moved_list s (image g p.by shape) t p.is_list));
      }

  -- a turned shape, moved by whole units, is a placement, and each placement of the turn is so
  pub turned_moved : (k : ℕ) (shape t tile : List Cell) → k < g.turns → IsCellListOf (map (g.turn k) shape) t → IsMoved g t tile → IsPlacement g shape tile
  turned_moved k shape t tile less l m =
      let by : Iso = record { turn = k; da = m.units.a; db = m.units.b } in
      record { by = by; is_isometry = less; is_list = subst (IsCellListOf (image g by shape)) (sym m.is) (image_list g by shape t l) }

  pub placement_turned : (shape t tile : List Cell) (p : IsPlacement g shape tile) → IsCellListOf (map (g.turn p.by.turn) shape) t → IsMoved g t tile
  placement_turned shape t tile p l = record { units = cell p.by.da p.by.db; is = leads g p.by.turn p.by shape t tile refl l p.is_list }

-- ---- shapes under each turn, and orientations
unmoved : (g : Geometry) (k : ℕ) (shape : List Cell) → image g (record { turn = k; da = pos 0; db = pos 0 }) shape ≡ map (g.turn k) shape
unmoved g k [] = refl
unmoved g k (x ∷ xs) = λ i. Cell-eta (apply g (record { turn = k; da = pos 0; db = pos 0 }) x) (g.turn k x) (nothing g.unit (g.turn k x).a) (nothing g.unit (g.turn k x).b) i ∷ unmoved g k xs i
  where
    nothing : (n : ℕ) (z : ℤ) → z +ℤ (pos n *ℤ pos 0) ≡ z
    nothing n z = omega (arith, ints)

-- the shape under each turn below k
pub record TurnedBelow (g : Geometry) (shape : List Cell) (k : ℕ) (lists : List (List Cell)) : Type 0 where
  pub long : length lists ≡ k
  pub each : (j : ℕ) → j < k → IsCellListOf (map (g.turn j) shape) (get_or lists j [])

pub turned_none : (g : Geometry) (shape : List Cell) → TurnedBelow g shape 0 []
turned_none g shape = record { long = refl; each = λ j l. absurd (omega arith) }

pub turned_more : (g : Geometry) (shape : List Cell) (k : ℕ) (old new : List (List Cell)) (made : List Cell) → TurnedBelow g shape k old → IsCellListOf (image g (record { turn = k; da = pos 0; db = pos 0 }) shape) made → new ≡ old ++ made ∷ [] → TurnedBelow g shape (k + 1) new
turned_more g shape k old new made t l is = record {
  long = ap length is ∙ length-append old (made ∷ []) ∙ (let e = t.long in omega arith);
  each = λ j less. elim (cases_lt j k) [
    | inl low ↦ subst (IsCellListOf (map (g.turn j) shape)) (sym (ap (λ zs. get_or zs j []) is ∙ get_or_append_left old (made ∷ []) [] j (let e = t.long in omega arith))) (t.each j low)
    | inr high ↦
        let e : j ≡ k = omega arith in
        let here : get_or new j [] ≡ made = ap (λ zs. get_or zs j []) is ∙ get_or_push old made [] j (let f = t.long in omega arith) in
        subst (IsCellListOf (map (g.turn j) shape)) (sym here) (subst (λ n. IsCellListOf (map (g.turn n) shape) made) (sym e) (subst (λ zs. IsCellListOf zs made) (unmoved g k shape) l))
  ];
}

pub turned_near : (g : Geometry) → IsGrid g → (shape turned : List Cell) (k : ℕ) → k < g.turns → ((c : Cell) → has shape c ≡ true → IsWithin 200 c) → IsCellListOf (map (g.turn k) shape) turned → (c : Cell) → has turned c ≡ true → IsWithin 400 c
turned_near g law shape turned k less near l c h =
    let d = map_member (g.turn k) shape c (All-contains (Contains (map (g.turn k) shape)) turned c l.only (has-true turned c h)) in
    subst (IsWithin 400) d.2 (turn_within g law k 200 d.0 less (near d.0 (has-is shape d.0 d.1)))

-- the lists are lists of the others, moved near 0
pub record AreSettled (g : Geometry) (turned lists : List (List Cell)) : Type 0 where
  pub long : length lists ≡ length turned
  pub only : (x : List Cell) → Contains lists x → FromOne (IsMoved g) turned x
  pub near : (x : List Cell) (c : Cell) → Contains lists x → has x c ≡ true → IsWithin 5000 c
  pub begins : (x : List Cell) → Contains lists x → BeginsInBlock g x
  pub every : (t : List Cell) → Contains turned t → (x : List Cell) × Contains lists x × IsMoved g t x

module _ (g : Geometry) (turned : List (List Cell)) where
  pub settled_none : AreSettled g [] []
  settled_none = record { long = refl; only = λ x m. absurd (no_member x m); near = λ x c m h. absurd (no_member x m); begins = λ x m. absurd (no_member x m); every = λ t m. absurd (no_member t m) }

  pub settled_more : (i : ℕ) (old new : List (List Cell)) (made : List Cell) → i < length turned → AreSettled g (take i turned) old → IsMoved g (get_or turned i []) made → ((c : Cell) → has made c ≡ true → IsWithin 5000 c) → BeginsInBlock g made → new ≡ old ++ made ∷ [] → AreSettled g (take (i + 1) turned) new
  settled_more i old new made less a m near begins is =
      let t = get_or turned i [] in
      let taken = take_more turned i [] less in
      record {
        long = ap length is ∙ length-append old (made ∷ []) ∙ ap (λ n. n + 1) a.long ∙ sym (ap length taken ∙ length-append (take i turned) (t ∷ []));
        only = λ x n. elim (Contains-append_cases old (made ∷ []) x (subst (λ zs. Contains zs x) is n)) [
          | inl o ↦ let h = a.only x o in record { source = h.source; inside = subst (λ zs. Contains zs h.source) (sym taken) (Contains-append_left (take i turned) (t ∷ []) h.source h.inside); gives = h.gives }
          | inr o ↦ elim (member_cases made [] x o) [
            | inl e ↦ record { source = t; inside = subst (λ zs. Contains zs t) (sym taken) (Contains-append_right (take i turned) (t ∷ []) t (member_here t [])); gives = subst (IsMoved g t) e m }
            | inr none ↦ absurd (no_member x none)
          ]
        ];
        near = λ x c n h. elim (Contains-append_cases old (made ∷ []) x (subst (λ zs. Contains zs x) is n)) [
          | inl o ↦ a.near x c o h
          | inr o ↦ elim (member_cases made [] x o) [ inl e ↦ near c (ap (λ zs. has zs c) e ∙ h) | inr none ↦ absurd (no_member x none) ]
        ];
        begins = λ x n. elim (Contains-append_cases old (made ∷ []) x (subst (λ zs. Contains zs x) is n)) [
          | inl o ↦ a.begins x o
          | inr o ↦ elim (member_cases made [] x o) [ inl e ↦ subst (BeginsInBlock g) e begins | inr none ↦ absurd (no_member x none) ]
        ];
        every = λ u n. elim (Contains-append_cases (take i turned) (t ∷ []) u (subst (λ zs. Contains zs u) taken n)) [
          | inl o ↦ let h = a.every u o in (h.0, subst (λ zs. Contains zs h.0) (sym is) (Contains-append_left old (made ∷ []) h.0 h.1), h.2)
          | inr o ↦ elim (member_cases t [] u o) [
            | inl e ↦ (made, subst (λ zs. Contains zs made) (sym is) (Contains-append_right old (made ∷ []) made (member_here made [])), subst (λ z. IsMoved g z made) e m)
            | inr none ↦ absurd (no_member u none)
          ]
        ];
      }

  -- what the settled lists have are the forms
  pub forms : IsGrid g → (shape : List Cell) (all zs : List (List Cell)) → length zs ≤ length all → AreTurned g shape turned → AreSettled g turned all → ListsExactly cells_before (Contains all) zs → AreForms g shape zs
  forms law shape all zs few turns a l = record {
    few = let e = a.long in let f = turns.long in let most = law.turns_range.1 in omega arith;
    placed = λ x n.
        let h = a.only x (All-contains (Contains all) zs x l.only n) in
        let k = h.inside in
        let less : k.0 < g.turns = let m = k.1 in let e = turns.long in omega arith in
        let same : get_or turned k.0 [] ≡ h.source = any_default turned k.0 [] h.source k.1 ∙ k.2 in
        turned_moved g k.0 shape h.source x less (subst (IsCellListOf (map (g.turn k.0) shape)) same (turns.each k.0 less)) h.gives;
    near = λ x c n. a.near x c (All-contains (Contains all) zs x l.only n);
    begins = λ x n. a.begins x (All-contains (Contains all) zs x l.only n);
    every = λ tile p.
        let k = p.by.turn in
        let t = get_or turned k [] in
        let inside : Contains turned t = member_at turned k [] (let less = p.is_isometry in let e = turns.long in omega arith) in
        let h = a.every t inside in
        record { source = h.0; inside = l.every h.0 h.1; gives = moved_across g t h.0 tile h.2 (placement_turned g shape t tile p (turns.each k p.is_isometry)) };
    rising = l.rising;
  }

-- ---- units below a coordinate
pub euclid : (z unit : ℤ) → pos 1 ≤ℤ unit → ((unit *ℤ int_div_euclid z unit) ≤ℤ z) × (z <ℤ ((unit *ℤ int_div_euclid z unit) +ℤ unit))
euclid (pos a) (pos n) low =
    let l : 1 ≤ n = omega (arith, ints) in
    let k : n * (a / n) + a % n ≡ a = omega arith in
    let less : a % n < n = omega arith in
    (omega (arith, ints, k), omega (arith, ints, k, less))
euclid (negsuc a) (pos n) low =
    let l : 1 ≤ n = omega (arith, ints) in
    let k : n * (a / n) + a % n ≡ a = omega arith in
    let less : a % n < n = omega arith in
    let e : (pos n *ℤ negsuc (a / n)) ≡ neg_ℤ (pos n *ℤ pos (a / n + 1)) = ap (λ z. pos n *ℤ z) (back (a / n)) ∙ mul_neg (pos n) (pos (a / n + 1)) in
    (omega (arith, ints, k, less, e), omega (arith, ints, k, less, e))
  where
    back : (m : ℕ) → negsuc m ≡ neg_ℤ (pos (m + 1))
    back m = omega (arith, ints)
euclid z (negsuc n) low = absurd (omega (arith, ints))

-- ---- where a moved list begins
pub first_is : (xs : List Cell) (x : Cell) → IsFirstOf xs x → head_of xs ≡ x
first_is xs x f = ap head_of f.is

pub head_moved : (m : Cell) (xs : List Cell) → 1 ≤ length xs → head_of (map (plus m) xs) ≡ plus m (head_of xs)
head_moved m [] l = absurd (omega arith)
head_moved m (x ∷ xs) l = refl

module _ (g : Geometry) where
  pub begins_in_block : (unit : ℤ) (by : Iso) (units first : Cell) (xs ys : List Cell) → unit ≡ pos g.unit → by.da ≡ units.a → by.db ≡ units.b → IsFirstOf xs first → ys ≡ map (plus (move_of g by)) xs → AreUnitsBack unit first units → BeginsInBlock g ys
  begins_in_block unit by units first xs ys e ea eb f is h =
      let begins : head_of ys ≡ plus (move_of g by) first = ap head_of (is ∙ ap (map (plus (move_of g by))) f.is) in
      let a : (unit *ℤ units.a) ≡ (pos g.unit *ℤ by.da) = ap (λ u. u *ℤ units.a) e ∙ ap (λ z. pos g.unit *ℤ z) (sym ea) in
      let b : (unit *ℤ units.b) ≡ (pos g.unit *ℤ by.db) = ap (λ u. u *ℤ units.b) e ∙ ap (λ z. pos g.unit *ℤ z) (sym eb) in
      record {
        some = subst (λ zs. 1 ≤ length zs) (sym (is ∙ ap (map (plus (move_of g by))) f.is)) (omega arith);
        in_block = subst (IsInBlock g) (sym begins) (record {
          a_low = omega (arith, ints, h.a_low, a);
          a_high = omega (arith, ints, h.a_high, a, e);
          b_low = omega (arith, ints, h.b_low, b);
          b_high = omega (arith, ints, h.b_high, b, e);
        });
      }

  -- a move takes the least isometry of a tile to that of the moved tile
  shifted_image : (by to : Iso) (units : Cell) (shape : List Cell) → to.turn ≡ by.turn → to.da ≡ by.da +ℤ units.a → to.db ≡ by.db +ℤ units.b → map (plus (scaled g units)) (image g by shape) ≡ image g to shape
  shifted_image by to units shape turn a b =
      map_twice (plus (scaled g units)) (apply g by) (apply g to) shape (λ c. Cell-eta (plus (scaled g units) (apply g by c)) (apply g to c)
      (further g.unit (g.turn by.turn c).a by.da units.a ∙ (λ i. (g.turn (sym turn i) c).a +ℤ (pos g.unit *ℤ sym a i)))
      (further g.unit (g.turn by.turn c).b by.db units.b ∙ (λ i. (g.turn (sym turn i) c).b +ℤ (pos g.unit *ℤ sym b i))))

  pub least_moved : (shape tile : List Cell) (by to : Iso) (units : Cell) → to.turn ≡ by.turn → to.da ≡ by.da +ℤ units.a → to.db ≡ by.db +ℤ units.b → IsLeastIsometry g shape tile by → IsLeastIsometry g shape (map (plus (scaled g units)) tile) to
  least_moved shape tile by to units turn a b h = record {
    is_isometry = subst (λ k. k < g.turns) (sym turn) h.is_isometry;
    gives = subst (λ zs. IsCellListOf zs (map (plus (scaled g units)) tile)) (shifted_image by to units shape turn a b) (moved_list (scaled g units) (image g by shape) tile h.gives);
    least = λ other less l.
        let back : Cell = cell (neg_ℤ units.a) (neg_ℤ units.b) in
        let from : Iso = record { turn = other.turn; da = other.da +ℤ neg_ℤ units.a; db = other.db +ℤ neg_ℤ units.b } in
        let gone : map (plus (scaled g back)) (map (plus (scaled g units)) tile) ≡ tile = map_twice (plus (scaled g back)) (plus (scaled g units)) (λ c. c) tile (λ c. Cell-eta (plus (scaled g back) (plus (scaled g units) c)) c (undone g.unit c.a units.a) (undone g.unit c.b units.b)) ∙ map_same tile in
        let k = h.least from less (subst (λ zs. IsCellListOf zs tile) (shifted_image other from back shape refl refl refl) (subst (IsCellListOf (map (plus (scaled g back)) (image g other shape))) gone (moved_list (scaled g back) (image g other shape) (map (plus (scaled g units)) tile) l))) in
        subst (λ n. n ≤ other.turn) (sym turn) k;
  }
    where
      undone : (n : ℕ) (z u : ℤ) → (pos n *ℤ neg_ℤ u) +ℤ ((pos n *ℤ u) +ℤ z) ≡ z
      undone n z u = omega (arith, ints, mul_neg (pos n) u)

-- ---- isometries near 0
factor_high : (n : ℕ) (z : ℤ) (m : ℕ) → 1 ≤ n → (pos n *ℤ z) ≤ℤ pos m → z ≤ℤ pos m
factor_high n (pos k) m l h = let e = mul-le 1 k n k l (omega arith) in omega (arith, ints, h, e)
factor_high n (negsuc k) m l h = omega (arith, ints)

factor_low : (n : ℕ) (z : ℤ) (m : ℕ) → 1 ≤ n → neg_ℤ (pos m) ≤ℤ (pos n *ℤ z) → neg_ℤ (pos m) ≤ℤ z
factor_low n z m l h = let e = mul_neg (pos n) z in let k = factor_high n (neg_ℤ z) m l (omega (arith, ints, e, h)) in omega (arith, ints, k)

-- the isometry that gives a tile near 0 of a shape near 0 moves by few units
pub isometry_near : (g : Geometry) → IsGrid g → (shape tile : List Cell) (by : Iso) (c : Cell) → by.turn < g.turns → IsCellListOf (image g by shape) tile → Contains tile c → ((d : Cell) → has shape d ≡ true → IsWithin 200 d) → IsWithin 5000 c → IsWithin 10000 (cell by.da by.db)
isometry_near g law shape tile by c less l inside near w =
    let d = map_member (apply g by) shape c (All-contains (Contains (image g by shape)) tile c l.only inside) in
    let v = turn_within g law by.turn 200 d.0 less (near d.0 (has-is shape d.0 d.1)) in
    let a = ap (λ z. z.a) d.2 in
    let b = ap (λ z. z.b) d.2 in
    let some = law.unit_range.0 in
    record {
      a_low = factor_low g.unit by.da 10000 some (omega (arith, ints, v.a_low, v.a_high, w.a_low, w.a_high, a));
      a_high = factor_high g.unit by.da 10000 some (omega (arith, ints, v.a_low, v.a_high, w.a_low, w.a_high, a));
      b_low = factor_low g.unit by.db 10000 some (omega (arith, ints, v.b_low, v.b_high, w.b_low, w.b_high, b));
      b_high = factor_high g.unit by.db 10000 some (omega (arith, ints, v.b_low, v.b_high, w.b_low, w.b_high, b));
    }
