-- The residue sets of the isometries within the triple are all of them, and each has the first that was tried.
use Rattle.std.proofs.Common.{◌≡◌, refl, sym, ap, subst, ◌∙◌, ℕ, ◌+◌, ◌*◌, ◌/◌, ◌%◌, ◌<◌, ◌≤◌, List, Bool, true, ◌⊎◌, inl, inr, arith, Contains, ◌&&◌}
use Rattle.std.specs.Prelude.{ℤ, pos, negsuc, neg_ℤ, ◌+ℤ◌, ◌*ℤ◌, ◌≤ℤ◌, ◌<ℤ◌, int_lt}
use Rattle.std.specs.Ordering.{int_eq}
use lib.IntN.{*ℤ_comm}
use Rattle.std.proofs.lemmas.Int.{ints}
use Rattle.std.proofs.lemmas.Nat.{div-mul-add}
use Rattle.std.proofs.lemmas.Bool.{cases_order}
use Rattle.std.proofs.lemmas.List.Elements.{All-contains}
use Rattle.heesch_grid.specs.declared.Cell.{Cell}
use Rattle.heesch_grid.specs.declared.isometries.Iso.{Iso}
use Rattle.heesch_grid.specs.Cells.{cell, cell_before, cells_before}
use Rattle.heesch_grid.specs.Listing.{IsRising}
use Rattle.heesch_grid.specs.Geometry.{Geometry, IsGrid, apply, image}
use Rattle.heesch_grid.specs.Lattice.{Triple, IsTriple, translated}
use Rattle.heesch_grid.specs.Polyform.{floor_div}
use Rattle.heesch_grid.specs.TorusFormula.{IsReducedFrom, GivesResidues, IsWithinTriple, IsometryBefore}
use Rattle.heesch_grid.specs.Pairs.{or-left, or-right}
use Rattle.heesch_grid.proofs.ListFacts.{All-from_members, same_listing}
use Rattle.heesch_grid.proofs.CellFacts.{cell_before-irreflexive, cell_before-asymmetric}
use Rattle.heesch_grid.proofs.CanonicalFacts.{Rounds, floor_rounds}
use Rattle.heesch_grid.proofs.IsometryFacts.{scale_neg, moved_twice}
use Rattle.heesch_grid.proofs.ReductionFacts.{translated_twice}
use Rattle.heesch_grid.proofs.WindowFacts.{map_member, member_map}
use Rattle.heesch_tiling.specs.Counting.{spot}
use Rattle.heesch_tiling.proofs.Spots.{below_quotient, spots_in_order}
use Rattle.heesch_torus.specs.Variables.{TorusVariable, torus_variable, sets_of, Adds, AddsFirst, HasIsometry, AreVariables}
use Rattle.heesch_torus.specs.Trying.{tried, IsNewFrom, Tries, IsTried, HasTried}

-- ---- isometries by their numbers

pub natural_below : (z : ℤ) (n : ℕ) → pos 0 ≤ℤ z → z <ℤ pos n → (x : ℕ) × (z ≡ pos x) × (x < n)
natural_below (pos x) n from below = (x, refl, omega (arith, ints))
natural_below (negsuc x) n from below = absurd (omega (arith, ints))

-- an isometry within the triple has a number
record IsNumbered (t : Triple) (x : Iso) : Type 0 where
  number : ℕ
  below : number < t.p * t.q
  is : x ≡ tried t x.turn number

number_below : (p q a b : ℕ) → a < p → b < q → b * p + a < p * q
number_below p q a b la lb = grind arith

numbered : (t : Triple) (x : Iso) → IsWithinTriple t x → IsNumbered t x
numbered t x w =
    let a = natural_below x.da t.p w.da_from w.da_below in
    let b = natural_below x.db t.q w.db_from w.db_below in
    let column : a.0 < t.p = a.2 in
    let quotient : (b.0 * t.p + a.0) / t.p ≡ b.0 = div-mul-add b.0 t.p a.0 column in
    let rest : (b.0 * t.p + a.0) % t.p ≡ a.0 = rest_is (b.0 * t.p + a.0) t.p b.0 a.0 refl column quotient in
    record {
      number = b.0 * t.p + a.0;
      below = number_below t.p t.q a.0 b.0 column b.2;
      is = λ i. record { turn = x.turn; da = (a.1 ∙ ap pos (sym rest)) i; db = (b.1 ∙ ap pos (sym quotient)) i };
    }
  where
    product_is : (p b k : ℕ) → k ≡ b → p * k ≡ b * p
    product_is p b k e = ap (λ n. p * n) e ∙ turn p b
      where
        turn : (m n : ℕ) → m * n ≡ n * m
        turn m n = omega arith

    rest_is : (n p b a : ℕ) → n ≡ b * p + a → a < p → n / p ≡ b → n % p ≡ a
    rest_is n p b a e less q =
        let split : p * (n / p) + n % p ≡ n = omega arith in
        let product = product_is p b (n / p) q in
        omega (arith, split, product, e)

int_lt-is : (x y : ℤ) → x <ℤ y → int_lt x y ≡ true
int_lt-is x y l = grind (arith, ints)

int_eq-is : (x y : ℤ) → x ≡ y → int_eq x y ≡ true
int_eq-is x y e = grind (arith, ints)

and-both : (a b : Bool) → a ≡ true → b ≡ true → (a && b) ≡ true
and-both a b p q = ap (λ x. x && b) p ∙ q

-- the isometries before one of a turn were tried before it
module _ (t : Triple) (triple : IsTriple t) where
  pub within_tried : (turn k : ℕ) → k < t.p * t.q → IsWithinTriple t (tried t turn k)
  within_tried turn k less =
      let some = triple.p_positive in
      let column : k % t.p < t.p = omega arith in
      let row : k / t.p < t.q = below_quotient k t.p t.q some less in
      record { da_from = omega (arith, ints); da_below = omega (arith, ints, column); db_from = omega (arith, ints); db_below = omega (arith, ints, row) }

  in_order : (x : Iso) (turn j k : ℕ) → x ≡ tried t turn j → ((x.db <ℤ pos (k / t.p)) ⊎ ((x.db ≡ pos (k / t.p)) × (x.da <ℤ pos (k % t.p)))) → j < k
  in_order x turn j k e o = spots_in_order t.p j k triple.p_positive (ap (λ (c : Cell). cell_before c (spot t.p k)) (λ i. cell (sym e i).da (sym e i).db) ∙ before o)
    where
      before : ((x.db <ℤ pos (k / t.p)) ⊎ ((x.db ≡ pos (k / t.p)) × (x.da <ℤ pos (k % t.p)))) → cell_before (cell x.da x.db) (spot t.p k) ≡ true
      before (inl l) = or-left (int_lt x.db (pos (k / t.p))) (int_eq x.db (pos (k / t.p)) && int_lt x.da (pos (k % t.p))) (int_lt-is x.db (pos (k / t.p)) l)
      before (inr h) = or-right (int_lt x.db (pos (k / t.p))) (int_eq x.db (pos (k / t.p)) && int_lt x.da (pos (k % t.p))) (and-both (int_eq x.db (pos (k / t.p))) (int_lt x.da (pos (k % t.p))) (int_eq-is x.db (pos (k / t.p)) h.0) (int_lt-is x.da (pos (k % t.p)) h.1))

  pub of_turn : (x : Iso) (turn : ℕ) → IsWithinTriple t x → x.turn ≡ turn → (j : ℕ) × (j < t.p * t.q) × (x ≡ tried t turn j)
  of_turn x turn w e = let n = numbered t x w in (n.number, n.below, n.is ∙ ap (λ k. tried t k n.number) e)

  earlier : (x : Iso) (turn k : ℕ) → IsWithinTriple t x → IsometryBefore x (tried t turn k) → IsTried t turn k x
  earlier x turn k w (inl l) = inl (w, l)
  earlier x turn k w (inr h) = let n = of_turn x turn w h.0 in inr (n.0, in_order x turn n.0 k n.2 h.1, n.2)

-- ---- what is found

set_of : (vars : List TorusVariable) (x : TorusVariable) → Contains vars x → Contains (sets_of vars) x.cells
set_of vars x m = member_map (λ (x : TorusVariable). x.cells) vars x m

of_set : (vars : List TorusVariable) (r : List Cell) → Contains (sets_of vars) r → (x : TorusVariable) × Contains vars x × (x.cells ≡ r)
of_set vars r m = map_member (λ (x : TorusVariable). x.cells) vars r m

module _ (g : Geometry) (shape : List Cell) (t : Triple) where
  one_set : (by : Iso) (r s : List Cell) → GivesResidues g shape t r by → GivesResidues g shape t s by → r ≡ s
  one_set by r s p q = same_listing cell_before cell_before-irreflexive cell_before-asymmetric (IsReducedFrom g t (image g by shape)) r s p.lists q.lists

  pub tries_none : (by : Iso) (old : List TorusVariable) → ((r : List Cell) → ¬ GivesResidues g shape t r by) → Tries g shape t by old old
  tries_none by old none = record { kept = λ x m. m; only = λ x m. inl m; gives = λ r k. absurd (none r k); few = omega arith }

  tries_known : (by : Iso) (old : List TorusVariable) (s : List Cell) → GivesResidues g shape t s by → Contains (sets_of old) s → Tries g shape t by old old
  tries_known by old s h m = record { kept = λ x m. m; only = λ x m. inl m; gives = λ r k. subst (λ z. Contains (sets_of old) z) (one_set by s r h k) m; few = omega arith }

  tries_new : (by : Iso) (old new : List TorusVariable) (s : List Cell) → GivesResidues g shape t s by → (¬ Contains (sets_of old) s) → Adds (torus_variable s by) old new → Tries g shape t by old new
  tries_new by old new s h fresh a = record {
    kept = λ x m. (a.members x).1 (inr m);
    only = λ x m. elim ((a.members x).0 m) [
      | inl e ↦ inr (subst (λ y. IsNewFrom g shape t by old y) e (record { by_is = refl; gives = h; fresh = fresh }))
      | inr k ↦ inl k
    ];
    gives = λ r k. subst (λ z. Contains (sets_of new) z) (one_set by s r h k) (set_of new (torus_variable s by) ((a.members (torus_variable s by)).1 (inl refl)));
    few = let longer = a.longer in omega arith;
  }

  pub tries_first : (by : Iso) (old new : List TorusVariable) (s : List Cell) → GivesResidues g shape t s by → AddsFirst (torus_variable s by) old new → Tries g shape t by old new
  tries_first by old new s h (inl k) = subst (Tries g shape t by old) (sym k.1) (tries_known by old s h k.0)
  tries_first by old new s h (inr k) = tries_new by old new s h k.0 k.1

  kept_sets : (by : Iso) (old new : List TorusVariable) → Tries g shape t by old new → (r : List Cell) → Contains (sets_of old) r → Contains (sets_of new) r
  kept_sets by old new h r m = let x = of_set old r m in subst (λ z. Contains (sets_of new) z) x.2 (set_of new x.0 (h.kept x.0 x.1))

  module _ (triple : IsTriple t) where
    pub one_tried : (turn k : ℕ) (old new : List TorusVariable) → k < t.p * t.q → HasTried g shape t turn k old → Tries g shape t (tried t turn k) old new → HasTried g shape t turn (k + 1) new
    one_tried turn k old new less h s = record {
      isometries = λ x m. elim (s.only x m) [ inl o ↦ h.isometries x o | inr n ↦ first x n ];
      all = λ x tried_so r gives. elim tried_so [
        | inl l ↦ kept_sets (tried t turn k) old new s r (h.all x (inl l) r gives)
        | inr l ↦ by_number x r gives l.0 l.1 l.2
      ];
      few = let a = h.few in let b = s.few in omega arith;
    }
      where
        first : (x : TorusVariable) → IsNewFrom g shape t (tried t turn k) old x → HasIsometry g shape t x
        first x n =
            let it : HasIsometry g shape t (torus_variable x.cells (tried t turn k)) = record {
              holds = (within_tried t triple turn k less, n.gives);
              first = λ y k' before. n.fresh (h.all y (earlier t triple y turn k k'.0 before) x.cells k'.1);
            } in
            subst (λ b. HasIsometry g shape t (torus_variable x.cells b)) (sym n.by_is) it

        by_number : (x : Iso) (r : List Cell) → GivesResidues g shape t r x → (j : ℕ) → j < k + 1 → x ≡ tried t turn j → Contains (sets_of new) r
        by_number x r gives j l e =
            elim (cases_order j k) [
              | inl same ↦ s.gives r (subst (λ y. GivesResidues g shape t r y) (e ∙ ap (tried t turn) same) gives)
              | inr o ↦ elim o [
                | inl before ↦ kept_sets (tried t turn k) old new s r (h.all x (inr (j, before, e)) r gives)
                | inr after ↦ absurd (omega arith)
              ]
            ]

    pub turn_tried : (turn : ℕ) (found : List TorusVariable) → t.p * t.q ≤ 384 → HasTried g shape t turn (t.p * t.q) found → HasTried g shape t (turn + 1) 0 found
    turn_tried turn found small h = record {
      isometries = h.isometries;
      all = λ x tried_so. elim tried_so [
        | inl l ↦ of_earlier x l.0 l.1
        | inr l ↦ let less = l.1 in absurd (omega arith)
      ];
      few = let a = h.few in omega (arith, small, a);
    }
      where
        of_earlier : (x : Iso) → IsWithinTriple t x → x.turn < turn + 1 → (r : List Cell) → GivesResidues g shape t r x → Contains (sets_of found) r
        of_earlier x w l r gives =
            elim (cases_order x.turn turn) [
              | inl same ↦ h.all x (inr (of_turn t triple x turn w same)) r gives
              | inr o ↦ elim o [ inl before ↦ h.all x (inl (w, before)) r gives | inr after ↦ absurd (omega arith) ]
            ]

-- ---- each residue set has an isometry within the triple

-- what is left of a number
left_over : (z : ℤ) (n : ℕ) → 1 ≤ n → (pos 0 ≤ℤ (z +ℤ neg_ℤ (floor_div z n) *ℤ pos n)) × ((z +ℤ neg_ℤ (floor_div z n) *ℤ pos n) <ℤ pos n)
left_over z n some =
    let r : Rounds z n (floor_div z n) = floor_rounds z n some in
    let product = *ℤ_comm (neg_ℤ (floor_div z n)) (pos n) ∙ scale_neg n (floor_div z n) in
    (low (pos n *ℤ floor_div z n) (neg_ℤ (floor_div z n) *ℤ pos n) product r.low, high (pos n *ℤ floor_div z n) (neg_ℤ (floor_div z n) *ℤ pos n) product r.high)
  where
    low : (f m : ℤ) → m ≡ neg_ℤ f → f ≤ℤ z → pos 0 ≤ℤ (z +ℤ m)
    low f m e l = omega (arith, ints)

    high : (f m : ℤ) → m ≡ neg_ℤ f → z <ℤ (f +ℤ pos n) → (z +ℤ m) <ℤ pos n
    high f m e l = omega (arith, ints)

module _ (g : Geometry) (law : IsGrid g) (shape : List Cell) (t : Triple) (triple : IsTriple t) (by : Iso) where
  abbrev pub rows : ℤ
  rows = neg_ℤ (floor_div by.db t.q)

  abbrev pub columns : ℤ
  columns = neg_ℤ (floor_div (by.da +ℤ rows *ℤ pos t.s) t.p)

  -- the isometry moved into the triple
  abbrev pub moved_in : Iso
  moved_in = record { turn = by.turn; da = by.da +ℤ (columns *ℤ pos t.p +ℤ rows *ℤ pos t.s); db = by.db +ℤ rows *ℤ pos t.q }

  pub moved_within : IsWithinTriple t moved_in
  moved_within =
      let b = left_over by.db t.q triple.q_positive in
      let a = left_over (by.da +ℤ rows *ℤ pos t.s) t.p triple.p_positive in
      let same = turn_sum by.da (rows *ℤ pos t.s) (columns *ℤ pos t.p) in
      record {
        da_from = subst (λ z. pos 0 ≤ℤ z) same a.0;
        da_below = subst (λ z. z <ℤ pos t.p) same a.1;
        db_from = b.0;
        db_below = b.1;
      }
    where
      turn_sum : (x y z : ℤ) → (x +ℤ y) +ℤ z ≡ x +ℤ (z +ℤ y)
      turn_sum x y z = omega (arith, ints)

  pub image_is : (c : Cell) → apply g moved_in c ≡ translated g t columns rows (apply g by c)
  image_is c = sym (moved_twice g law by.da by.db (columns *ℤ pos t.p +ℤ rows *ℤ pos t.s) (rows *ℤ pos t.q) (g.turn by.turn c))

  there : (c : Cell) → IsReducedFrom g t (image g by shape) c → IsReducedFrom g t (image g moved_in shape) c
  there c a =
      let m = map_member (apply g by) shape a.member a.inside in
      let moved : apply g moved_in m.0 ≡ translated g t columns rows a.member = image_is m.0 ∙ ap (translated g t columns rows) m.2 in
      record {
        reduced = a.reduced;
        member = apply g moved_in m.0;
        inside = member_map (apply g moved_in) shape m.0 m.1;
        differs = record {
          i = neg_ℤ columns +ℤ a.differs.i;
          j = neg_ℤ rows +ℤ a.differs.j;
          is = a.differs.is ∙ (λ n. translated g t (cancel columns a.differs.i n) (cancel rows a.differs.j n) a.member) ∙ sym (translated_twice g law t triple columns rows (neg_ℤ columns +ℤ a.differs.i) (neg_ℤ rows +ℤ a.differs.j) a.member) ∙ ap (translated g t (neg_ℤ columns +ℤ a.differs.i) (neg_ℤ rows +ℤ a.differs.j)) (sym moved);
        };
      }
    where
      cancel : (x y : ℤ) → y ≡ x +ℤ (neg_ℤ x +ℤ y)
      cancel x y = omega (arith, ints)

  back : (c : Cell) → IsReducedFrom g t (image g moved_in shape) c → IsReducedFrom g t (image g by shape) c
  back c a =
      let m = map_member (apply g moved_in) shape a.member a.inside in
      let moved : a.member ≡ translated g t columns rows (apply g by m.0) = sym m.2 ∙ image_is m.0 in
      record {
        reduced = a.reduced;
        member = apply g by m.0;
        inside = member_map (apply g by) shape m.0 m.1;
        differs = record {
          i = columns +ℤ a.differs.i;
          j = rows +ℤ a.differs.j;
          is = a.differs.is ∙ ap (translated g t a.differs.i a.differs.j) moved ∙ translated_twice g law t triple columns rows a.differs.i a.differs.j (apply g by m.0);
        };
      }

  moved_gives : (r : List Cell) → GivesResidues g shape t r by → GivesResidues g shape t r moved_in
  moved_gives r k = record {
    is_isometry = k.is_isometry;
    lists = record {
      rising = k.lists.rising;
      only = All-from_members (IsReducedFrom g t (image g moved_in shape)) r (λ c m. there c (All-contains (IsReducedFrom g t (image g by shape)) r c k.lists.only m));
      every = λ c a. k.lists.every c (back c a);
    };
    all_differ = k.all_differ;
  }

-- after all turns the variables are found
module _ (g : Geometry) (law : IsGrid g) (shape : List Cell) (t : Triple) (triple : IsTriple t) where
  pub all_tried : (found : List TorusVariable) → IsRising cells_before (sets_of found) → HasTried g shape t g.turns 0 found → AreVariables g shape t found
  all_tried found rising h = record {
    listed = record {
      rising = rising;
      only = All-from_members (λ r. (by : Iso) × GivesResidues g shape t r by) (sets_of found) (λ r m. let x = of_set found r m in subst (λ z. (by : Iso) × GivesResidues g shape t z by) x.2 (x.0.by, (h.isometries x.0 x.1).holds.1));
      every = λ r k. let by : Iso = k.0 in h.all (moved_in g law shape t triple by) (inl (moved_within g law shape t triple by, k.1.is_isometry)) r (moved_gives g law shape t triple by r k.1);
    };
    isometries = All-from_members (HasIsometry g shape t) found h.isometries;
    few = let few = h.few in let turns = law.turns_range.1 in omega arith;
  }
