-- The border of a hole by marks.
use Rattle.std.proofs.Common.{◌≡◌, sym, ap, subst, ◌∙◌, ℕ, zero, suc, ◌+◌, ◌-◌, ◌<◌, ◌≤◌, ◌⊎◌, Bool, true, false, List, length, set, filter, All, Contains, arith, inl, inr, true≢false, eq-eqb, eqb-true, leb-true, le-leb, lt-ltb}
use Rattle.std.specs.Prelude.{nat_eq, nat_le, nat_lt, IsTrue}
use Rattle.std.specs.List.{list_any, range_with_len}
use Rattle.std.proofs.lemmas.Bool.{and_parts, and_from, cases_Bool}
use Rattle.std.proofs.lemmas.List.Elements.{All-contains, All-weaker}
use Rattle.heesch_grid.specs.declared.Cell.{Cell}
use Rattle.heesch_grid.specs.Listing.{IsRising}
use Rattle.heesch_grid.specs.Cells.{has}
use Rattle.heesch_grid.specs.Pairs.{has-true}
use Rattle.heesch_grid.specs.Geometry.{Geometry, IsGrid, IsCell, Adjacent}
use Rattle.heesch_grid.specs.CoronaFormula.{Variable, IsNumbered}
use Rattle.heesch_grid.proofs.CellFacts.{has-is, has-false}
use Rattle.heesch_grid.proofs.GridFacts.{adjacent_exact}
use Rattle.heesch_grid.proofs.ListFacts.{no_member, member_cases, All-from_members, rising_filter, member_filter, filter_member, any_member, member_any}
use Rattle.heesch_grid.proofs.ClauseFacts.{entry_at}
use Rattle.heesch_grid.proofs.WindowFacts.{member_range}
use Rattle.heesch_cnf.specs.Clauses.{assignment_of}
use Rattle.heesch_cert.specs.Cuts.{IsInBorder}
use Rattle.heesch_place.specs.Universes.{Levels, covering}
use Rattle.heesch_cuts.specs.Marks.{is_marked, is_in}
use Rattle.heesch_cuts.specs.Enclosing.{is_covered}
use Rattle.heesch_cuts.specs.Patches.{patch_cells, IsChosen, AreChosen, Grows, IsBordered, IsBorderOf}
use Rattle.heesch_cuts.proofs.Marking.{marked-set_same, marked-set_other}
use Rattle.heesch_cuts.proofs.Covering.{covering_entry, entry_covering, covering_range}
use Rattle.heesch_cuts.proofs.PatchCells.{patch_member}

-- ---- one more mark

module _ (vars : List Variable) (values : List Bool) (k : ℕ) where
  -- a true number that covers a cell is chosen
  pub chosen_of : (d : Cell) (n : ℕ) → is_in (covering vars k d) n ≡ true → assignment_of values n ≡ true → IsChosen vars values k n
  chosen_of d n i t =
      let r = any_member (nat_eq n) (covering vars k d) i in
      let m : Contains (covering vars k d) n = subst (Contains (covering vars k d)) (sym (eqb-true n r.0 r.2)) r.1 in
      let x = covering_entry vars k d n m in
      let a = entry_at vars 1 x.0 x.1 in
      record {
        variable = x.0.1;
        is_variable = subst (λ j. IsNumbered vars j x.0.1) x.2 a;
        level = leb-true x.0.1.level k (and_parts (nat_le x.0.1.level k) (has x.0.1.tile d) x.3).0;
        value = t;
      }

  pub chosen_more : (marks : List Bool) (n : ℕ) → AreChosen vars values k marks → IsChosen vars values k n → AreChosen vars values k (set marks n true)
  chosen_more marks n all one m t =
      elim (cases_Bool (nat_eq m n)) [
        | inl e ↦ subst (IsChosen vars values k) (sym (eqb-true m n e)) one
        | inr f ↦ all m (sym (marked-set_other marks n m (λ e. true≢false (sym (eq-eqb m n e) ∙ f))) ∙ t)
      ]

  -- a marked number that covers the cell
  pub covered_by : (marks : List Bool) (d : Cell) (n : ℕ) → is_in (covering vars k d) n ≡ true → is_marked marks n ≡ true → is_covered vars k marks d ≡ true
  covered_by marks d n i t =
      let r = any_member (nat_eq n) (covering vars k d) i in
      member_any (is_marked marks) (covering vars k d) r.0 r.1 (subst (λ j. is_marked marks j ≡ true) (eqb-true n r.0 r.2) t)

  pub covered_grows : (old new : List Bool) (d : Cell) → Grows old new → is_covered vars k old d ≡ true → is_covered vars k new d ≡ true
  covered_grows old new d grows t =
      let r = any_member (is_marked old) (covering vars k d) t in
      member_any (is_marked new) (covering vars k d) r.0 r.1 (grows r.0 r.2)

  pub bordered_grows : (shape patch : List Cell) (old new : List Bool) → Grows old new → (ds : List Cell) → All (IsBordered shape vars k patch old) ds → All (IsBordered shape vars k patch new) ds
  bordered_grows shape patch old new grows ds h = All-weaker (IsBordered shape vars k patch old) (IsBordered shape vars k patch new) (λ d b i o. covered_grows old new d grows (b i o)) ds h

pub grows_set : (marks : List Bool) (n : ℕ) → n < length marks → Grows marks (set marks n true)
grows_set marks n l m t =
    elim (cases_Bool (nat_eq m n)) [
      | inl e ↦ subst (λ j. is_marked (set marks n true) j ≡ true) (sym (eqb-true m n e)) (marked-set_same marks n l)
      | inr f ↦ marked-set_other marks n m (λ e. true≢false (sym (eq-eqb m n e) ∙ f)) ∙ t
    ]

-- ---- the border

module _ (u : Levels) (values : List Bool) (k : ℕ) where
  -- a cell of the patch outside the shape is in a chosen placement
  pub patch_covered : (patch : List Cell) (d : Cell) → patch ≡ patch_cells u values k → has patch d ≡ true → has u.shape d ≡ false → list_any (assignment_of values) (covering u.vars k d) ≡ true
  patch_covered patch d e t f =
      elim (patch_member u values k d (has-true (patch_cells u values k) d (ap (λ p. has p d) (sym e) ∙ t))) [
        | inl s ↦ absurd (has-false u.shape d f s)
        | inr x ↦ member_any (assignment_of values) (covering u.vars k d) x.entry.0 (entry_covering u.vars k d x.entry x.is_entry (and_from (nat_le x.entry.1.level k) (has x.entry.1.tile d) (le-leb x.entry.1.level k x.level) (has-is x.entry.1.tile d x.member))) x.value
      ]

  range_rising : (a n : ℕ) → IsRising nat_lt (range_with_len a n)
  range_rising a zero = tt
  range_rising a (suc n) = (All-from_members (λ m. IsTrue (nat_lt a m)) (range_with_len (a + 1) n) (λ m h. lt-ltb a m (let l = range_from (a + 1) n m h in omega arith)), range_rising (a + 1) n)
    where
      range_from : (b n m : ℕ) → Contains (range_with_len b n) m → b ≤ m
      range_from b zero m h = absurd (no_member m h)
      range_from b (suc n) m h = elim (member_cases b (range_with_len (b + 1) n) m h) [ inl e ↦ omega arith | inr r ↦ let l = range_from (b + 1) n m r in omega arith ]

  module _ (g : Geometry) (law : IsGrid g) (hole : List Cell) (marks : List Bool) (count : ℕ) (count_is : count ≡ length u.vars) (cells : All (IsCell g) hole) (chosen : AreChosen u.vars values k marks) (beside : All (λ c. All (IsBordered u.shape u.vars k (patch_cells u values k) marks) (g.adjacent c)) hole) where
    numbers : List ℕ
    numbers = filter (is_marked marks) (range_with_len 1 count)

    in_numbers : (n : ℕ) → 1 ≤ n → n ≤ length u.vars → is_marked marks n ≡ true → Contains numbers n
    unfolding numbers
    in_numbers n low high t =
        let less : n - 1 < count = omega arith in
        let same : 1 + (n - 1) ≡ n = omega arith in
        member_filter (is_marked marks) (range_with_len 1 count) n (subst (Contains (range_with_len 1 count)) same (member_range count 1 (n - 1) less)) t

    around : (c d : Cell) → Contains hole c → Adjacent g c d → Contains (patch_cells u values k) d → Contains u.shape d ⊎ IsInBorder u.vars numbers d
    around c d m a p =
        let c_in = All-contains (IsCell g) hole c cells m in
        let d_in : Contains (g.adjacent c) d = has-true (g.adjacent c) d ((adjacent_exact g law c d c_in).1 a) in
        let b : IsBordered u.shape u.vars k (patch_cells u values k) marks d = All-contains (IsBordered u.shape u.vars k (patch_cells u values k) marks) (g.adjacent c) d (All-contains (λ c. All (IsBordered u.shape u.vars k (patch_cells u values k) marks) (g.adjacent c)) hole c beside m) d_in in
        elim (cases_Bool (has u.shape d)) [
          | inl t ↦ inl (has-true u.shape d t)
          | inr f ↦
              let r = any_member (is_marked marks) (covering u.vars k d) (b (has-is (patch_cells u values k) d p) f) in
              let x = covering_entry u.vars k d r.0 r.1 in
              let range = All-contains (λ n. (1 ≤ n) × (n ≤ length u.vars)) (covering u.vars k d) r.0 (covering_range u.vars k d) r.1 in
              inr (record {
                number = r.0;
                in_border = in_numbers r.0 range.0 range.1 r.2;
                variable = x.0.1;
                is_variable = subst (λ n. IsNumbered u.vars n x.0.1) x.2 (entry_at u.vars 1 x.0 x.1);
                member = has-true x.0.1.tile d (and_parts (nat_le x.0.1.level k) (has x.0.1.tile d) x.3).1;
              })
        ]

    pub border_is : IsBorderOf g u values k hole (filter (is_marked marks) (range_with_len 1 count))
    unfolding numbers
    border_is = record {
      rising = rising_filter nat_lt (is_marked marks) (range_with_len 1 count) (range_rising 1 count);
      chosen = All-from_members (IsChosen u.vars values k) (filter (is_marked marks) (range_with_len 1 count)) (λ n m. chosen n (filter_member (is_marked marks) (range_with_len 1 count) n m).1);
      around = around;
    }

-- a number that covers a cell has a place among marks of all variables
pub number_below : (vars : List Variable) (k : ℕ) (d : Cell) (n count : ℕ) → length vars < count → is_in (covering vars k d) n ≡ true → n < count
number_below vars k d n count room i =
    let r = any_member (nat_eq n) (covering vars k d) i in
    let same : n ≡ r.0 = eqb-true n r.0 r.2 in
    let range = All-contains (λ m. (1 ≤ m) × (m ≤ length vars)) (covering vars k d) r.0 (covering_range vars k d) r.1 in
    let high = range.1 in
    omega (arith, same, high, room)
