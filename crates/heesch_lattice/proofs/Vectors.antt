-- A turn that carries the two vectors of a lattice to vectors of another carries every vector to one.
use Rattle.std.proofs.Common.{◌≡◌, refl, sym, ap, subst, ◌∙◌, ℕ, zero, suc, ◌<◌, arith}
use Rattle.std.specs.Prelude.{ℤ, pos, negsuc, neg_ℤ, ◌+ℤ◌, ◌*ℤ◌}
use Rattle.std.proofs.lemmas.Int.{ints}
use Rattle.heesch_grid.specs.declared.Cell.{Cell}
use Rattle.heesch_grid.specs.Cells.{cell, origin}
use Rattle.heesch_grid.specs.Geometry.{Geometry, IsGrid, moved}
use Rattle.heesch_grid.specs.Lattice.{Triple, IsTriple, translated, DiffersByLattice}
use Rattle.heesch_grid.specs.Pairs.{Cell-eta}
use Rattle.heesch_grid.specs.Vectors.{IsWithin, plus, times}
use Rattle.heesch_grid.proofs.Images.{read, turn_times, turn_within}
use Rattle.heesch_grid.proofs.ReductionFacts.{translated_twice, translated_none, translated_back}
use Rattle.heesch_lattice.specs.Turned.{CarriesInto, CarriesVectors}

-- the ends of a lattice's two vectors, from (0, 0)
abbrev pub first_end : Geometry → Triple → Cell
first_end g t = moved g (pos t.p) (pos 0) origin

abbrev pub second_end : Geometry → Triple → Cell
second_end g t = moved g (pos t.s) (pos t.q) origin

module _ (g : Geometry) (law : IsGrid g) where
  -- where a turn brings the end of v from (0, 0)
  pub turned_moved : (k : ℕ) → k < g.turns → (v m : Cell) → IsWithin 10000 v → m ≡ g.turn k v → moved g (read m.a) (read m.b) (g.turn k origin) ≡ g.turn k (moved g v.a v.b origin)
  turned_moved k l v m near e =
      let w : IsWithin 20000 m = subst (IsWithin 20000) (sym e) (turn_within g law k 10000 v l near) in
      let same : cell (read m.a) (read m.b) ≡ m = Cell-eta (cell (read m.a) (read m.b)) m (omega (arith, ints, w.a_low, w.a_high)) (omega (arith, ints, w.b_low, w.b_high)) in
      ap (λ (w : Cell). moved g w.a w.b (g.turn k origin)) (same ∙ e)
      ∙ sym (law.additive k l origin (times g.unit v) ∙ ap (plus (g.turn k origin)) (turn_times g law k g.unit v l))

  module _ (t u : Triple) (t_is : IsTriple t) (u_is : IsTriple u) (k : ℕ) (below : k < g.turns) where
    -- what a turned pair differs by from a turned (0, 0) it differs by from each turned pair
    shifted : (da db i j : ℤ) → g.turn k (moved g da db origin) ≡ translated g u i j (g.turn k origin) → (x : Cell) → g.turn k (moved g da db x) ≡ translated g u i j (g.turn k x)
    shifted da db i j e x =
        let v : Cell = times g.unit (cell da db) in
        let at_origin = sym (law.additive k below origin v) ∙ e in
        let at_x = law.additive k below x v in
        let oa = ap (λ (z : Cell). z.a) at_origin in
        let ob = ap (λ (z : Cell). z.b) at_origin in
        let xa = ap (λ (z : Cell). z.a) at_x in
        let xb = ap (λ (z : Cell). z.b) at_x in
        Cell-eta (g.turn k (moved g da db x)) (translated g u i j (g.turn k x)) (omega (arith, ints, oa, xa)) (omega (arith, ints, ob, xb))

    abbrev Differ : Cell → Cell → Type 0
    Differ c d = DiffersByLattice g u (g.turn k c) (g.turn k d)

    same : (c : Cell) → Differ c c
    same c = record { i = pos 0; j = pos 0; is = sym (translated_none g law u u_is (pos 0) (pos 0) (g.turn k c) refl refl) }

    back : (c d : Cell) → Differ c d → Differ d c
    back c d h = record { i = neg_ℤ h.i; j = neg_ℤ h.j; is = translated_back g law u u_is h.i h.j (g.turn k c) (g.turn k d) h.is }

    through : (c d e : Cell) → Differ c d → Differ d e → Differ c e
    through c d e h n = record {
      i = h.i +ℤ n.i;
      j = h.j +ℤ n.j;
      is = n.is ∙ ap (translated g u n.i n.j) h.is ∙ translated_twice g law u u_is h.i h.j n.i n.j (g.turn k c);
    }

    module _ (first : DiffersByLattice g u (g.turn k origin) (g.turn k (first_end g t))) (second : DiffersByLattice g u (g.turn k origin) (g.turn k (second_end g t))) where
      one_first : (x : Cell) → Differ x (translated g t (pos 1) (pos 0) x)
      one_first x =
          let da : pos 1 *ℤ pos t.p +ℤ pos 0 *ℤ pos t.s ≡ pos t.p = omega (arith, ints) in
          let db : pos 0 *ℤ pos t.q ≡ pos 0 = omega (arith, ints) in
          record { i = first.i; j = first.j; is = ap (g.turn k) (λ n. moved g (da n) (db n) x) ∙ shifted (pos t.p) (pos 0) first.i first.j first.is x }

      one_second : (x : Cell) → Differ x (translated g t (pos 0) (pos 1) x)
      one_second x =
          let da : pos 0 *ℤ pos t.p +ℤ pos 1 *ℤ pos t.s ≡ pos t.s = omega (arith, ints) in
          let db : pos 1 *ℤ pos t.q ≡ pos t.q = omega (arith, ints) in
          record { i = second.i; j = second.j; is = ap (g.turn k) (λ n. moved g (da n) (db n) x) ∙ shifted (pos t.s) (pos t.q) second.i second.j second.is x }

      -- so many times a vector that does so from each pair
      module _ (a b : ℤ) (one : (x : Cell) → Differ x (translated g t a b x)) where
        many : (n : ℕ) (x : Cell) → Differ x (translated g t (pos n *ℤ a) (pos n *ℤ b) x)
        many zero x = subst (Differ x) (sym (translated_none g law t t_is (pos 0 *ℤ a) (pos 0 *ℤ b) x (omega (arith, ints)) (omega (arith, ints)))) (same x)
        many (suc n) x =
            let y : Cell = translated g t (pos n *ℤ a) (pos n *ℤ b) x in
            let next : translated g t a b y ≡ translated g t (pos (suc n) *ℤ a) (pos (suc n) *ℤ b) x =
            translated_twice g law t t_is (pos n *ℤ a) (pos n *ℤ b) a b x ∙ (λ i. translated g t (more n a i) (more n b i) x) in
            subst (Differ x) next (through x y (translated g t a b y) (many n x) (one y))
          where
            more : (n : ℕ) (z : ℤ) → pos n *ℤ z +ℤ z ≡ pos (suc n) *ℤ z
            more n z = omega (arith, ints)

        whole : (z : ℤ) (x : Cell) → Differ x (translated g t (z *ℤ a) (z *ℤ b) x)
        whole (pos n) x = many n x
        whole (negsuc n) x =
            let y : Cell = translated g t (negsuc n *ℤ a) (negsuc n *ℤ b) x in
            let x_is : x ≡ translated g t (neg_ℤ (negsuc n *ℤ a)) (neg_ℤ (negsuc n *ℤ b)) y = translated_back g law t t_is (negsuc n *ℤ a) (negsuc n *ℤ b) x y refl in
            let there : translated g t (pos (suc n) *ℤ a) (pos (suc n) *ℤ b) y ≡ x = sym (x_is ∙ (λ i. translated g t (positive n a i) (positive n b i) y)) in
            back y x (subst (Differ y) there (many (suc n) y))
          where
            positive : (n : ℕ) (z : ℤ) → neg_ℤ (negsuc n *ℤ z) ≡ pos (suc n) *ℤ z
            positive n z = omega (arith, ints)

      pub carries_into : CarriesInto g k t u
      carries_into c d h =
          let x : Cell = translated g t (h.i *ℤ pos 1) (h.i *ℤ pos 0) c in
          let y : Cell = translated g t (h.j *ℤ pos 0) (h.j *ℤ pos 1) x in
          let sum : y ≡ translated g t h.i h.j c =
          translated_twice g law t t_is (h.i *ℤ pos 1) (h.i *ℤ pos 0) (h.j *ℤ pos 0) (h.j *ℤ pos 1) c ∙ (λ n. translated g t (left h.i h.j n) (right h.i h.j n) c) in
          subst (Differ c) (sum ∙ sym h.is) (through c x y (whole (pos 1) (pos 0) one_first h.i c) (whole (pos 0) (pos 1) one_second h.j x))
        where
          left : (i j : ℤ) → i *ℤ pos 1 +ℤ j *ℤ pos 0 ≡ i
          left i j = omega (arith, ints)

          right : (i j : ℤ) → i *ℤ pos 0 +ℤ j *ℤ pos 1 ≡ j
          right i j = omega (arith, ints)

    -- and a turn that does so carries the two vectors
    pub carries_first : CarriesInto g k t u → DiffersByLattice g u (g.turn k origin) (g.turn k (first_end g t))
    carries_first h =
        let da : pos t.p ≡ pos 1 *ℤ pos t.p +ℤ pos 0 *ℤ pos t.s = omega (arith, ints) in
        let db : pos 0 ≡ pos 0 *ℤ pos t.q = omega (arith, ints) in
        h origin (first_end g t) (record { i = pos 1; j = pos 0; is = λ n. moved g (da n) (db n) origin })

    pub carries_second : CarriesInto g k t u → DiffersByLattice g u (g.turn k origin) (g.turn k (second_end g t))
    carries_second h =
        let da : pos t.s ≡ pos 0 *ℤ pos t.p +ℤ pos 1 *ℤ pos t.s = omega (arith, ints) in
        let db : pos t.q ≡ pos 1 *ℤ pos t.q = omega (arith, ints) in
        h origin (second_end g t) (record { i = pos 0; j = pos 1; is = λ n. moved g (da n) (db n) origin })

-- so its two vectors decide whether a turn carries a lattice into another
module _ (g : Geometry) (law : IsGrid g) (t u : Triple) (t_is : IsTriple t) (u_is : IsTriple u) (k : ℕ) (below : k < g.turns) (v w : Cell) (v_is : v ≡ cell (pos t.p) (pos 0)) (w_is : w ≡ cell (pos t.s) (pos t.q)) where
  abbrev Leads : Cell → Type 0
  Leads x = DiffersByLattice g u (g.turn k origin) (g.turn k (moved g x.a x.b origin))

  pub by_vectors : CarriesVectors g k v w u → CarriesInto g k t u
  by_vectors h = carries_into g law t u t_is u_is k below (subst Leads v_is h.0) (subst Leads w_is h.1)

  pub vectors_by : CarriesInto g k t u → CarriesVectors g k v w u
  vectors_by h = (subst Leads (sym v_is) (carries_first g law t u t_is u_is k below h), subst Leads (sym w_is) (carries_second g law t u t_is u_is k below h))
