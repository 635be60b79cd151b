-- What a reader expects of the definitions.
use Rattle.std.proofs.Common.{◌≡◌, refl, sym, ap, subst, ◌∙◌, ℕ, zero, suc, ◌+◌, ◌*◌, ◌<◌, ◌≤◌, not-suc-le-zero, le_of_suc-le-suc, List, [], ◌∷◌, ◌++◌, length, take, ◌&&◌, ◌==◌, inl, inr, arith, Contains, lt-ltb, eq-eqb, ◌/◌}
use Rattle.std.specs.Prelude.{ℤ, nat_lt, IsTrue, Some, None}
use Rattle.std.proofs.lemmas.Int.{ints}
use Rattle.std.proofs.Math.Nat.{mul-div_cancel_left}
use Rattle.std.proofs.lemmas.List.Elements.{All-contains}
use Rattle.std.proofs.lemmas.Bool.{and_from, cases_order}
use Rattle.heesch_grid.specs.declared.Cell.{Cell}
use Rattle.heesch_grid.specs.declared.isometries.Iso.{Iso}
use Rattle.heesch_grid.specs.Listing.{IsFirst}
use Rattle.heesch_grid.specs.Cells.{cell_before, cells_before}
use Rattle.heesch_grid.specs.Geometry.{Geometry, IsGrid, IsCell}
use Rattle.heesch_grid.specs.Hole.{IsHoleFree, IsInHole}
use Rattle.heesch_grid.specs.Corona.{AreCoronasOf, StaysHoleFree}
use Rattle.heesch_grid.specs.Lattice.{Triple, IsTripleOfDomain, triple_before, IsReduced}
use Rattle.heesch_grid.specs.Tiling.{Translation, HalfTurn, TilesByHalfTurn, HalfTurnBefore}
use Rattle.heesch_grid.specs.Pairs.{or-left, or-right}
use Rattle.heesch_grid.specs.TorusFormula.{GivesResidues, torus_clauses}
use Rattle.heesch_grid.specs.Facts.{PolyformsHaveOneCanonicalList, ImagesShareCanonicalLists, FreeListsAreUnique, GreatestHolesAreHoles, FewerCoronasExist, HeeschNumbersAreUnique, HeeschNumbersLieBelow, CellsHaveOneReducedCell, WindowCoversShrink, TilersAreNeverRefuted, PlainTilingsAreUnique, CoronaFormulasAreUnique, TorusFormulasAreUnique, PlacementsTouchBothWays}
use Rattle.heesch_grid.proofs.ListFacts.{member_here, no_member, All-from_members, same_listing}
use Rattle.heesch_grid.proofs.CellFacts.{cell_before-irreflexive, cell_before-asymmetric, cells_before-irreflexive}
use Rattle.heesch_grid.proofs.SortFacts.{compared}
use Rattle.heesch_grid.proofs.TileFacts.{Touch-symmetric}
use Rattle.heesch_grid.proofs.IsometryFacts.{image_polyform}
use Rattle.heesch_grid.proofs.CanonicalFacts.{Canonical, canonical}
use Rattle.heesch_grid.proofs.GrowthOfLists.{image_length, image_then, image_back, canonical_of_image}
use Rattle.heesch_grid.proofs.Pinned.{one_canonical_list, one_free_list, one_greatest_hole, one_universe, one_formula, cells_before-asymmetric}
use Rattle.heesch_grid.proofs.ReductionFacts.{reduced, is_reduced, reduced_once, vector_i, vector_j}
use Rattle.heesch_grid.proofs.PeriodicToWindow.{tilers_have_window_covers}
use Rattle.heesch_grid.proofs.WindowToCoronas.{window_covers_have_coronas}

-- ---- canonical lists and free lists

pub polyforms_have_one_canonical_list : PolyformsHaveOneCanonicalList
polyforms_have_one_canonical_list g cells law form =
    let c : Canonical g cells = canonical g law cells form.some in
    record {
      once = record { value = c.result; holds = c.is; only = λ xs h. one_canonical_list g cells xs c.result h c.is };
      polyform = image_polyform g law cells c.result form c.is.is_image;
      size = image_length g law cells c.result form.is_set.rising c.is.is_image;
    }

pub images_share_canonical_lists : ImagesShareCanonicalLists
images_share_canonical_lists g cells other result law form other_form c =
    ((λ d. image_then g law cells result other c.is_image (image_back g law other result other_form.is_set.rising d.is_image)), (λ i. canonical_of_image g law cells other result form.is_set.rising i c))

pub free_lists_are_unique : FreeListsAreUnique
free_lists_are_unique = one_free_list

-- ---- holes

pub greatest_holes_are_holes : GreatestHolesAreHoles
greatest_holes_are_holes g cells union greatest = record {
  only = λ other h. one_greatest_hole g cells other union h greatest;
  empty = (none, λ free. all_gone free union refl);
  hole = λ some. record {
    some = some;
    in_grid = All-from_members (IsCell g) union (λ c m. let h = in_hole c m in All-contains (IsCell g) h.hole c h.is_hole.in_grid h.member);
    outside = λ c m. let h = in_hole c m in h.is_hole.outside c h.member;
    enclosed = λ c d m a.
        let h = in_hole c m in
        elim (h.is_hole.enclosed c d h.member a) [ inl n ↦ inl (greatest.every d (record { hole = h.hole; is_hole = h.is_hole; member = n })) | inr n ↦ inr n ];
  };
}
  where
    in_hole : (c : Cell) → Contains union c → IsInHole g cells c
    in_hole c m = All-contains (IsInHole g cells) union c greatest.only m

    none : union ≡ [] → IsHoleFree g cells
    none e [] h = not-suc-le-zero h.some
    none e (c ∷ hole) h = no_member c (subst (λ xs. Contains xs c) e (greatest.every c (record { hole = c ∷ hole; is_hole = h; member = member_here c hole })))

    all_gone : IsHoleFree g cells → (xs : List Cell) → xs ≡ union → union ≡ []
    all_gone free [] e = sym e
    all_gone free (c ∷ xs) e = let h = in_hole c (subst (λ xs. Contains xs c) e (member_here c xs)) in absurd (free h.hole h.is_hole)

-- ---- coronas

first_coronas : (g : Geometry) (shape : List Cell) (patch : List (List Cell)) (layers : List (List (List Cell))) (n : ℕ) → AreCoronasOf g shape patch layers → AreCoronasOf g shape patch (take n layers)
first_coronas g shape patch layers zero h = tt
first_coronas g shape patch [] (suc n) h = tt
first_coronas g shape patch (layer ∷ layers) (suc n) h = (h.0, first_coronas g shape (patch ++ layer) layers n h.1)

first_hole_free : (g : Geometry) (patch : List (List Cell)) (layers : List (List (List Cell))) (n : ℕ) → StaysHoleFree g patch layers → StaysHoleFree g patch (take n layers)
first_hole_free g patch layers zero h = tt
first_hole_free g patch [] (suc n) h = tt
first_hole_free g patch (layer ∷ layers) (suc n) h = (h.0, first_hole_free g (patch ++ layer) layers n h.1)

length_first : (layers : List (List (List Cell))) (j k : ℕ) → j ≤ k → length layers ≡ k → length (take j layers) ≡ j
length_first layers zero k l e = refl
length_first [] (suc j) k l e = absurd (omega arith)
length_first (layer ∷ layers) (suc j) zero l e = absurd (not-suc-le-zero l)
length_first (layer ∷ layers) (suc j) (suc k) l e = ap suc (length_first layers j k (le_of_suc-le-suc l) (omega arith))

pub fewer_coronas_exist : FewerCoronasExist
fewer_coronas_exist g shape j k l = (
  (λ h. (take j h.0, length_first h.0 j k l h.1, first_coronas g shape (shape ∷ []) h.0 j h.2)),
  (λ h. (take j h.0, length_first h.0 j k l h.1, (first_coronas g shape (shape ∷ []) h.0 j h.2.0, first_hole_free g (shape ∷ []) h.0 j h.2.1))),
)

pub heesch_numbers_are_unique : HeeschNumbersAreUnique
heesch_numbers_are_unique g shape h k p q =
    elim (cases_order h k) [
      | inl e ↦ e
      | inr o ↦ elim o [
        | inl less ↦ absurd (p.1 ((fewer_coronas_exist g shape (h + 1) k (omega arith)).1 q.0))
        | inr more ↦ absurd (q.1 ((fewer_coronas_exist g shape (k + 1) h (omega arith)).1 p.0))
      ]
    ]

pub heesch_numbers_lie_below : HeeschNumbersLieBelow
heesch_numbers_lie_below g shape h m p none =
    elim (cases_order h m) [
      | inl e ↦ absurd (refuted (omega arith))
      | inr o ↦ elim o [ inl less ↦ less | inr more ↦ absurd (refuted (omega arith)) ]
    ]
  where
    refuted : m ≤ h → ⊥
    refuted l = let k = (fewer_coronas_exist g shape m h l).1 p.0 in none (k.0, k.1, k.2.0)

-- ---- lattices, covers and tilings

pub cells_have_one_reduced_cell : CellsHaveOneReducedCell
cells_have_one_reduced_cell g t c law triple c_in = record {
  value = reduced g law t triple c;
  holds = (is_reduced g law t triple c c_in, record { i = vector_i g law t triple c; j = vector_j g law t triple c; is = refl });
  only = λ r h. reduced_once g law t triple h.1.i h.1.j c r c_in h.0 h.1.is;
}

pub window_covers_shrink : WindowCoversShrink
window_covers_shrink g shape r s l h = (
  h.0,
  record {
    placements = h.1.placements;
    has_shape = h.1.has_shape;
    apart = h.1.apart;
    covering = λ c c_in w. h.1.covering c c_in (record { a_low = let x = w.a_low in omega (arith, ints); a_high = let x = w.a_high in omega (arith, ints); b_low = let x = w.b_low in omega (arith, ints); b_high = let x = w.b_high in omega (arith, ints) });
  },
)

pub tilers_are_never_refuted : TilersAreNeverRefuted
tilers_are_never_refuted g shape law form tiles = record {
  tiles_alone = λ d. d.1 (tilers_have_window_covers g shape law form tiles d.0);
  coronas = λ m. let w = window_covers_have_coronas g shape m law form in w.1 (tilers_have_window_covers g shape law form tiles w.0);
}

cancel : (n x y : ℕ) → 1 ≤ n → n * x ≡ n * y → x ≡ y
cancel n x y l e = sym (mul-div_cancel_left x l) ∙ ap (λ z. z / n) e ∙ mul-div_cancel_left y l

-- triples of one domain neither of which comes before the other
one_triple : (g : Geometry) (n m : ℕ) (t u : Triple) → IsGrid g → IsTripleOfDomain g n m t → IsTripleOfDomain g n m u → (¬ IsTrue (triple_before t u)) → (¬ IsTrue (triple_before u t)) → t ≡ u
one_triple g n m t u law p q first second = λ i. record { p = same_p i; q = same_q i; s = same_s i }
  where
    by_p : (v w : Triple) → v.p < w.p → IsTrue (triple_before v w)
    by_p v w l = or-left (nat_lt v.p w.p) (v.p == w.p && nat_lt v.s w.s) (lt-ltb v.p w.p l)

    by_s : (v w : Triple) → v.p ≡ w.p → v.s < w.s → IsTrue (triple_before v w)
    by_s v w e l = or-right (nat_lt v.p w.p) (v.p == w.p && nat_lt v.s w.s) (and_from (v.p == w.p) (nat_lt v.s w.s) (eq-eqb v.p w.p e) (lt-ltb v.s w.s l))

    same_p : t.p ≡ u.p
    same_p = elim (cases_order t.p u.p) [ inl e ↦ e | inr o ↦ elim o [ inl l ↦ absurd (first (by_p t u l)) | inr l ↦ absurd (second (by_p u t l)) ] ]

    same_s : t.s ≡ u.s
    same_s = elim (cases_order t.s u.s) [ inl e ↦ e | inr o ↦ elim o [ inl l ↦ absurd (first (by_s t u same_p l)) | inr l ↦ absurd (second (by_s u t (sym same_p) l)) ] ]

    same_q : t.q ≡ u.q
    same_q =
        let area : t.p * t.q ≡ u.p * u.q = cancel g.per (t.p * t.q) (u.p * u.q) law.per_range.0 (p.area ∙ sym q.area) in
        cancel t.p t.q u.q p.is_triple.p_positive (area ∙ ap (λ z. z * u.q) (sym same_p))

-- half-turn tilings neither of which comes before the other
one_half_turn : (g : Geometry) (shape : List Cell) (x y : Triple × ℤ × ℤ) → IsGrid g → IsFirst HalfTurnBefore (TilesByHalfTurn g shape) x → IsFirst HalfTurnBefore (TilesByHalfTurn g shape) y → x ≡ y
one_half_turn g shape x y law p q = λ i. (same_triple i, same_da i, same_db i)
  where
    not_first : ¬ HalfTurnBefore x y
    not_first = q.first x p.holds

    not_second : ¬ HalfTurnBefore y x
    not_second = p.first y q.holds

    same_triple : x.0 ≡ y.0
    same_triple = one_triple g (length shape) 2 x.0 y.0 law p.holds.of_domain q.holds.of_domain (λ b. not_first (inl b)) (λ b. not_second (inl b))

    same_db : x.2 ≡ y.2
    same_db = elim (compared x.2 y.2) [ inl l ↦ absurd (not_first (inr (same_triple, inl l))) | inr o ↦ elim o [ inl e ↦ e | inr l ↦ absurd (not_second (inr (sym same_triple, inl l))) ] ]

    same_da : x.1 ≡ y.1
    same_da = elim (compared x.1 y.1) [ inl l ↦ absurd (not_first (inr (same_triple, inr (same_db, l)))) | inr o ↦ elim o [ inl e ↦ e | inr l ↦ absurd (not_second (inr (sym same_triple, inr (sym same_db, l)))) ] ]

pub plain_tilings_are_unique : PlainTilingsAreUnique
plain_tilings_are_unique g shape None None law p q = refl
plain_tilings_are_unique g shape None (Some (Translation u)) law p q = absurd (p.0 u q.holds)
plain_tilings_are_unique g shape None (Some (HalfTurn u da db)) law p q = absurd (p.1 (u, da, db) q.1.holds)
plain_tilings_are_unique g shape (Some (Translation t)) None law p q = absurd (q.0 t p.holds)
plain_tilings_are_unique g shape (Some (Translation t)) (Some (Translation u)) law p q =
    ap (λ t. Some (Translation t)) (one_triple g (length shape) 1 t u law p.holds.of_domain q.holds.of_domain (q.first t p.holds) (p.first u q.holds))
plain_tilings_are_unique g shape (Some (Translation t)) (Some (HalfTurn u da db)) law p q = absurd (q.0 t p.holds)
plain_tilings_are_unique g shape (Some (HalfTurn t da db)) None law p q = absurd (q.1 (t, da, db) p.1.holds)
plain_tilings_are_unique g shape (Some (HalfTurn t da db)) (Some (Translation u)) law p q = absurd (p.0 u q.holds)
plain_tilings_are_unique g shape (Some (HalfTurn t da db)) (Some (HalfTurn u ea eb)) law p q =
    ap (λ (x : Triple × ℤ × ℤ). Some (HalfTurn x.0 x.1 x.2)) (one_half_turn g shape (t, da, db) (u, ea, eb) law p.1 q.1)

-- ---- formulas and placements

pub corona_formulas_are_unique : (L : Type 0) → CoronaFormulasAreUnique L
corona_formulas_are_unique L ls g shape j vars others clauses rest law form p q =
    (one_universe g shape j vars others p.is_universe q.is_universe, one_formula ls g shape j vars others clauses rest law form p q)

pub torus_formulas_are_unique : (L : Type 0) → TorusFormulasAreUnique L
torus_formulas_are_unique L ls g shape t vars others clauses rest p q =
    let same_vars = same_listing cells_before cells_before-irreflexive cells_before-asymmetric (λ residues. (by : Iso) × GivesResidues g shape t residues by) vars others p.are_variables q.are_variables in
    let same_cells = same_listing cell_before cell_before-irreflexive cell_before-asymmetric (IsReduced g t) p.reduced q.reduced p.are_reduced q.are_reduced in
    (same_vars, p.is ∙ (λ i. torus_clauses ls (same_cells i) (same_vars i)) ∙ sym q.is)

pub placements_touch_both_ways : PlacementsTouchBothWays
placements_touch_both_ways g s t law h = Touch-symmetric g law s t h
