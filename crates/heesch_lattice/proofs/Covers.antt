-- A cover by a lattice, turned, is one by the turned lattice.
use Rattle.std.proofs.Common.{◌≡◌, refl, sym, ap, subst, ◌∙◌, ℕ, ◌<◌, List, map, Contains}
use Rattle.std.specs.Prelude.{ℤ, pos, neg_ℤ, Option, Some, None, option_map}
use Rattle.std.specs.List.{slice_get}
use Rattle.std.proofs.lemmas.List.Elements.{All-contains, All-map}
use Rattle.std.proofs.lemmas.Option.{slice_get-map}
use Rattle.heesch_grid.specs.declared.Cell.{Cell}
use Rattle.heesch_grid.specs.declared.isometries.Iso.{Iso}
use Rattle.heesch_grid.specs.Cells.{cell}
use Rattle.heesch_grid.specs.Geometry.{Geometry, IsGrid, IsCell, IsIsometry, apply, image, moved}
use Rattle.heesch_grid.specs.Lattice.{Triple, IsTriple, translated, DiffersByLattice}
use Rattle.heesch_grid.specs.Listing.{HoldsOnce}
use Rattle.heesch_grid.specs.Tiling.{HasCell, IsPeriodicCover}
use Rattle.heesch_grid.specs.Vectors.{plus, times}
use Rattle.heesch_grid.proofs.Images.{turn_times}
use Rattle.heesch_grid.proofs.IsometryFacts.{moved_none}
use Rattle.heesch_grid.proofs.ListFacts.{member_at, All-from_members}
use Rattle.heesch_grid.proofs.ReductionFacts.{translated_back, translated_cell, vector_once}
use Rattle.heesch_grid.proofs.WindowFacts.{map_member, member_map}
use Rattle.heesch_lattice.specs.Turned.{TurnsOnto, CoversTurn}

-- what a mapped list has at a number comes from what the list has there
mapped_at : {X Y : Type 0} (f : X → Y) (xs : List X) (n : ℕ) (y : Y) → slice_get (map f xs) n ≡ Some y → (x : X) × (slice_get xs n ≡ Some x) × (f x ≡ y)
mapped_at {X = X} {Y = Y} f xs n y e = of_option (slice_get xs n) refl (sym (slice_get-map f xs n) ∙ e)
  where
    of_option : (o : Option X) → slice_get xs n ≡ o → option_map f o ≡ Some y → (x : X) × (slice_get xs n ≡ Some x) × (f x ≡ y)
    of_option (Some x) h k = (x, h, cc)
    of_option None h k = absurd cc

module _ (g : Geometry) (law : IsGrid g) (shape : List Cell) (k : ℕ) (below : k < g.turns) (t u : Triple) where
  -- the isometry followed by the turn
  abbrev turned : Iso → Iso
  turned by =
      let w : Cell = g.turn k (cell by.da by.db) in
      record { turn = g.compose by.turn k; da = w.a; db = w.b }

  turned_is : (by : Iso) → IsIsometry g by → (c : Cell) → apply g (turned by) c ≡ g.turn k (apply g by c)
  turned_is by p c =
      let w : Cell = g.turn k (cell by.da by.db) in
      let x : Cell = g.turn by.turn c in
      ap (moved g w.a w.b) ((law.compose by.turn k p below).1 c)
      ∙ sym (law.additive k below x (times g.unit (cell by.da by.db)) ∙ ap (plus (g.turn k x)) (turn_times g law k g.unit (cell by.da by.db) below))

  turned_isometry : (by : Iso) → IsIsometry g by → IsIsometry g (turned by)
  turned_isometry by p = (law.compose by.turn k p below).0

  turned_cell : (l : ℕ) → l < g.turns → (c : Cell) → IsCell g c → IsCell g (g.turn l c)
  turned_cell l less c h = subst (IsCell g) (moved_none g law (pos 0) (pos 0) (g.turn l c) refl refl) (law.cells_kept (record { turn = l; da = pos 0; db = pos 0 }) less c h)

  module _ (t_is : IsTriple t) (u_is : IsTriple u) (onto : TurnsOnto g k t u) (places : List Iso) (cover : IsPeriodicCover g shape t places) (c : Cell) (c_in : IsCell g c) where
    -- where the turn that undoes it brings the cell
    abbrev before : Cell
    before = g.turn (g.inverse k) c

    before_in : IsCell g before
    before_in = turned_cell (g.inverse k) (law.inverse k below).0 c c_in

    there : g.turn k before ≡ c
    there = ((law.inverse k below).1 c).1

    abbrev once : HoldsOnce (HasCell g shape t places before)
    once = cover.exactly_one before before_in

    abbrev has : HasCell g shape t places before once.value
    has = once.holds

    abbrev leads : DiffersByLattice g u (g.turn k has.member) (g.turn k before)
    leads = onto.into has.member before (record { i = once.value.1; j = once.value.2; is = has.is })

    abbrev value : ℕ × ℤ × ℤ
    value = (once.value.0, leads.i, leads.j)

    isometry : (n : ℕ) (by : Iso) → slice_get places n ≡ Some by → IsIsometry g by
    isometry n by e = All-contains (IsIsometry g) places by cover.isometries (member_at places n by e)

    in_turned : (by : Iso) → IsIsometry g by → (m : Cell) → Contains (image g by shape) m → Contains (image g (turned by) shape) (g.turn k m)
    in_turned by p m h =
        let x = map_member (apply g by) shape m h in
        subst (Contains (image g (turned by) shape)) (turned_is by p x.0 ∙ ap (g.turn k) x.2) (member_map (apply g (turned by)) shape x.0 x.1)

    holds : HasCell g shape u (map turned places) c value
    holds = record {
      by = turned has.by;
      is_place = slice_get-map turned places once.value.0 ∙ ap (option_map turned) has.is_place;
      member = g.turn k has.member;
      in_tile = in_turned has.by (isometry once.value.0 has.by has.is_place) has.member has.in_tile;
      is = sym there ∙ leads.is;
    }

    member_is : (m : Cell) → before ≡ translated g t once.value.1 once.value.2 m → m ≡ has.member
    member_is m e = translated_back g law t t_is once.value.1 once.value.2 m before e ∙ sym (translated_back g law t t_is once.value.1 once.value.2 has.member before has.is)

    member_in : IsCell g has.member
    member_in = subst (IsCell g) (sym (translated_back g law t t_is once.value.1 once.value.2 has.member before has.is)) (translated_cell g law t t_is (neg_ℤ once.value.1) (neg_ℤ once.value.2) before before_in)

    only : (at : ℕ × ℤ × ℤ) → HasCell g shape u (map turned places) c at → at ≡ value
    only at p =
        let place = mapped_at turned places at.0 p.by p.is_place in
        let by : Iso = place.0 in
        let is_isometry : IsIsometry g by = isometry at.0 by place.1 in
        let inside : Contains (image g (turned by) shape) p.member = subst (λ (x : Iso). Contains (image g x shape) p.member) (sym place.2) p.in_tile in
        let x = map_member (apply g (turned by)) shape p.member inside in
        let m : Cell = apply g by x.0 in
        let turned_m : g.turn k m ≡ p.member = sym (turned_is by is_isometry x.0) ∙ x.2 in
        let back : DiffersByLattice g t (g.turn (g.inverse k) p.member) before = onto.back p.member c (record { i = at.1; j = at.2; is = p.is }) in
        let undone : g.turn (g.inverse k) p.member ≡ m = ap (g.turn (g.inverse k)) (sym turned_m) ∙ ((law.inverse k below).1 m).0 in
        let from_m : before ≡ translated g t back.i back.j m = back.is ∙ ap (translated g t back.i back.j) undone in
        let same : (at.0, back.i, back.j) ≡ once.value = once.only (at.0, back.i, back.j) (record { by = by; is_place = place.1; member = m; in_tile = member_map (apply g by) shape x.0 x.1; is = from_m }) in
        let number : at.0 ≡ once.value.0 = ap (λ (z : ℕ × ℤ × ℤ). z.0) same in
        let at_i : back.i ≡ once.value.1 = ap (λ (z : ℕ × ℤ × ℤ). z.1) same in
        let at_j : back.j ≡ once.value.2 = ap (λ (z : ℕ × ℤ × ℤ). z.2) same in
        let one_member : m ≡ has.member = member_is m (from_m ∙ (λ n. translated g t (at_i n) (at_j n) m)) in
        let p_is : c ≡ translated g u at.1 at.2 (g.turn k has.member) = p.is ∙ ap (translated g u at.1 at.2) (sym turned_m ∙ ap (g.turn k) one_member) in
        let v_is : c ≡ translated g u leads.i leads.j (g.turn k has.member) = sym there ∙ leads.is in
        let both = vector_once g law u u_is at.1 at.2 leads.i leads.j (g.turn k has.member) (turned_cell k below has.member member_in) (sym p_is ∙ v_is) in
        λ n. (number n, both.0 n, both.1 n)

    exactly : HoldsOnce (HasCell g shape u (map turned places) c)
    exactly = record { value = value; holds = holds; only = only }

pub covers_turn : CoversTurn
covers_turn g shape k t u law below u_is onto places cover = (
  map (turned g law shape k below t u) places,
  record {
    is_triple = u_is;
    isometries = All-map (IsIsometry g) (turned g law shape k below t u) places (All-from_members (λ by. IsIsometry g (turned g law shape k below t u by)) places (λ by m. turned_isometry g law shape k below t u by (All-contains (IsIsometry g) places by cover.isometries m)));
    exactly_one = λ c h. exactly g law shape k below t u cover.is_triple u_is onto places cover c h;
  },
)
