-- The variables whose masks are among exact ones are a periodic cover.
use Rattle.std.proofs.Common.{◌≡◌, refl, sym, ap, subst, ◌∙◌, ℕ, ◌+◌, ◌-◌, ◌<◌, ◌≤◌, List, [], ◌∷◌, ◌++◌, filter, length, get_or, eqb, Bool, true, false, cond, inl, inr, arith, Contains, true≢false, eqb-true, eq-eqb}
use Rattle.std.specs.Prelude.{◌↔◌, ◌==◌, Some, nat_lt, slice_index_or}
use Rattle.std.specs.List.{enumerate_from, list_any, slice_get}
use Rattle.std.proofs.Math.Seq.{get_or-append_seam}
use Rattle.std.proofs.lemmas.List.{length-append, get_or_append_left}
use Rattle.std.specs.Int.{bit_at}
use Rattle.std.proofs.lemmas.Nat.Bits.{bit_at-zero}
use Rattle.std.proofs.lemmas.Bool.{cases_Bool, cases_order}
use Rattle.std.proofs.lemmas.List.Elements.{All-contains}
use Rattle.std.proofs.lemmas.Option.{slice_get_within, get_or_from_slice_get}
use Rattle.heesch_grid.specs.declared.Cell.{Cell}
use Rattle.heesch_grid.specs.declared.isometries.Iso.{Iso}
use Rattle.heesch_grid.specs.Listing.{IsRising}
use Rattle.heesch_grid.specs.Cells.{cell_before, cells_before, has}
use Rattle.heesch_grid.specs.Geometry.{Geometry, IsGrid, IsIsometry, image}
use Rattle.heesch_grid.specs.Lattice.{Triple, IsTriple, IsReduced}
use Rattle.heesch_grid.specs.Pairs.{has-true}
use Rattle.heesch_grid.specs.Polyform.{IsPolyform}
use Rattle.heesch_grid.specs.Tiling.{IsPeriodicCover}
use Rattle.heesch_grid.specs.TorusFormula.{IsReducedFrom, GivesResidues}
use Rattle.heesch_grid.proofs.ListFacts.{member_here, member_there, All-from_members, filter_member, member_filter, rising_filter, same_rising, any_member, member_any}
use Rattle.heesch_grid.proofs.CellFacts.{has-is, cell_before-irreflexive, cell_before-asymmetric, cells_before-irreflexive}
use Rattle.heesch_grid.proofs.ClauseFacts.{entry_at, entry_of, entries_rising, entries_ordered}
use Rattle.heesch_grid.proofs.SortFacts.{sorted, sorted_list, sorted_has, has_sorted}
use Rattle.heesch_grid.proofs.GrowthOfLists.{NoRepeat, sorted_length, not_has}
use Rattle.heesch_tiling.specs.Counting.{tile_residues, times_in}
use Rattle.heesch_grid.proofs.WindowFacts.{map_member, member_map}
use Rattle.heesch_tiling.proofs.Areas.{times_first, times_more, times_some}
use Rattle.heesch_tiling.proofs.Distinct.{OnePasses, one_passes}
use Rattle.heesch_torus.specs.Answer.{IsChosenCover}
use Rattle.heesch_torus.specs.Chosen.{chosen, chosen_places, chosen_tiling}
use Rattle.heesch_torus.specs.Covers.{HasAllPoints, HasMaskAmong, IsTileMask, AreExactMasks, AreValuesOf}
use Rattle.heesch_torus.specs.Formula.{reduced_cells}
use Rattle.heesch_torus.specs.Masks.{IsMaskOf, HasDouble}
use Rattle.heesch_torus.specs.Variables.{TorusVariable, sets_of, HasIsometry, AreVariables}
use Rattle.heesch_torus.proofs.Beside.{index_of, bit_cases, with_bit_filter}
use Rattle.heesch_torus.proofs.Images.{in_grid, from_tile, in_tile, tile_count}
use Rattle.heesch_torus.proofs.Masking.{one_mask, double_unmasked}
use Rattle.heesch_torus.proofs.Modelled.{Numbered, TwoOf, two_of, of_variable, member_some, tile_times, with_cell, once_covers, chosen_cover}
use Rattle.heesch_torus.proofs.Numbering.{reduced_listed}

-- ---- a list in which no cell stands twice

no_repeat : (xs : List Cell) → ((c : Cell) → Contains xs c → times_in xs c ≤ 1) → NoRepeat xs
no_repeat [] few = tt
no_repeat (x ∷ xs) few = (
  not_has xs x (λ m. let some = times_some xs x m in let one = few x (member_here x xs) in let more = times_first x xs in absurd (omega arith)),
  no_repeat xs (λ c m. let most = few c (member_there x xs c m) in let more = times_more x xs c in omega arith),
)

module _ (g : Geometry) (law : IsGrid g) (shape : List Cell) (form : IsPolyform g shape) (t : Triple) (triple : IsTriple t) where
  abbrev points : List Cell
  points = reduced_cells g t

  point_of : (r : Cell) → IsReduced g t r → (k : ℕ) × (slice_get (reduced_cells g t) k ≡ Some r)
  point_of r red = index_of (reduced_cells g t) r ((reduced_listed g t law triple).every r red)

  -- a tile with a mask gives a residue set
  set_of_mask : (by : Iso) → IsIsometry g by → (m : ℕ) → IsMaskOf g shape t by m → GivesResidues g shape t (sorted (tile_residues g shape t by)) by
  set_of_mask by p m is =
      let xs : List Cell = tile_residues g shape t by in
      let few : (c : Cell) → Contains (tile_residues g shape t by) c → times_in (tile_residues g shape t by) c ≤ 1 = λ c i.
      let k = point_of c (from_tile g law shape (in_grid g shape form) t triple by p c i).reduced in
      let e = is.cells k.0 c k.1 in
      elim (bit_cases m k.0) [ inl z ↦ omega arith | inr o ↦ omega arith ]
      in
      record {
        is_isometry = p;
        lists = record {
          rising = (sorted_list xs).rising;
          only = All-from_members (IsReducedFrom g t (image g by shape)) (sorted xs) (λ c i. from_tile g law shape (in_grid g shape form) t triple by p c (has_sorted xs c i));
          every = λ c a. sorted_has xs c (in_tile g law shape (in_grid g shape form) t triple by p c a);
        };
        all_differ = sorted_length xs (no_repeat xs few) ∙ tile_count g law shape (in_grid g shape form) t triple by p;
      }

  -- the bits of a tile's mask are those of its residue set
  bit_is : (by : Iso) (m : ℕ) (r : List Cell) → IsMaskOf g shape t by m → GivesResidues g shape t r by → (k : ℕ) (c : Cell) → slice_get (reduced_cells g t) k ≡ Some c → bit_at m k ≡ length (cond (has r c) (c ∷ []) [])
  bit_is by m r is gives k c e = is.cells k c e ∙ tile_times g law shape form t triple r by gives c

  set_bit : (r : List Cell) (c : Cell) → has r c ≡ true → ◌≡◌ {A = ℕ} (length (cond (has r c) (c ∷ []) [])) 1
  set_bit r c h = ap (λ b. length (cond b (c ∷ []) [])) h

  bit_set : (r : List Cell) (c : Cell) → ◌≡◌ {A = ℕ} (length (cond (has r c) (c ∷ []) [])) 1 → has r c ≡ true
  bit_set r c e = elim (cases_Bool (has r c)) [ inl h ↦ h | inr f ↦ absurd (none (ap (λ b. length (cond b (c ∷ []) [])) f)) ]
    where
      none : ◌≡◌ {A = ℕ} (length (cond (has r c) (c ∷ []) [])) 0 → ⊥
      none z = omega (arith, e, z)

  reduced_member : (r : List Cell) (by : Iso) → GivesResidues g shape t r by → (c : Cell) → Contains r c → IsReduced g t c
  reduced_member r by gives c i = (All-contains (IsReducedFrom g t (image g by shape)) r c gives.lists.only i).reduced

  -- masks that are one are of one residue set
  one_set : (a b : Iso) (m : ℕ) (r s : List Cell) → IsMaskOf g shape t a m → IsMaskOf g shape t b m → GivesResidues g shape t r a → GivesResidues g shape t s b → r ≡ s
  one_set a b m r s p q gr gs =
      same_rising cell_before cell_before-irreflexive cell_before-asymmetric r s gr.lists.rising gs.lists.rising
      (λ c i. let k = point_of c (reduced_member r a gr c i) in has-true s c (bit_set s c (sym (bit_is b m s q gs k.0 c k.1) ∙ bit_is a m r p gr k.0 c k.1 ∙ set_bit r c (has-is r c i))))
      (λ c i. let k = point_of c (reduced_member s b gs c i) in has-true r c (bit_set r c (sym (bit_is a m r p gr k.0 c k.1) ∙ bit_is b m s q gs k.0 c k.1 ∙ set_bit s c (has-is s c i))))

  -- a mask of one tile is that of each other with its residue set
  mask_of_set : (a b : Iso) (m : ℕ) (r : List Cell) → IsMaskOf g shape t a m → GivesResidues g shape t r a → GivesResidues g shape t r b → IsMaskOf g shape t b m
  mask_of_set a b m r is ga gb = record {
    cells = λ k c e. bit_is a m r is ga k c e ∙ sym (tile_times g law shape form t triple r b gb c);
    others = is.others;
  }

  module _ (vars : List TorusVariable) (are : AreVariables g shape t vars) (masks : List ℕ) (full : ℕ) (all : HasAllPoints g t full) (few : length (reduced_cells g t) ≤ 64) (exact : AreExactMasks g shape t full masks) (values : List Bool) (of : AreValuesOf g shape t masks vars values) where
    abbrev is_true : Numbered → Bool
    is_true x = slice_index_or values (x.0 - 1) false

    -- one mask has a point
    one_with : (k : ℕ) → k < length (reduced_cells g t) → OnePasses (λ m. bit_at m k == 1) masks
    one_with k less = one_passes (λ m. bit_at m k == 1) masks (with_bit_filter k masks ∙ (let f = exact.fill k (omega arith) in let z = bit_at-zero k in let a = all k in let b = less_bit k (length (reduced_cells g t)) less in omega arith))
      where
        less_bit : (k n : ℕ) → k < n → ◌≡◌ {A = ℕ} (cond (nat_lt k n) 1 0) 1
        less_bit k n l = grind arith

    true_mask : (x : Numbered) → Contains (chosen values vars) x → HasMaskAmong g shape t masks x.1.by
    true_mask x i =
        let f = filter_member is_true (enumerate_from 1 vars) x i in
        (of.each (x.0 - 1) x.1 (entry_at vars 1 x f.0).1).0 f.1

    gives : (x : Numbered) → Contains (chosen values vars) x → GivesResidues g shape t x.1.cells x.1.by
    gives x i = (All-contains (HasIsometry g shape t) vars x.1 are.isometries (of_variable 1 vars x (filter_member is_true (enumerate_from 1 vars) x i).0)).holds.1

    variable_of : (r : List Cell) → Contains (sets_of vars) r → (x : TorusVariable) × Contains vars x × (x.cells ≡ r)
    variable_of r i = map_member (λ (x : TorusVariable). x.cells) vars r i

    covered : (r : Cell) → IsReduced g t r → 1 ≤ length (with_cell g law shape form t triple vars are values (reduced_cells g t) (reduced_listed g t law triple) r)
    covered r red =
        let k = point_of r red in
        let o : OnePasses (λ m. bit_at m k.0 == 1) masks = one_with k.0 (slice_get_within (reduced_cells g t) k.0 r k.1) in
        let tile : IsTileMask g shape t o.it = exact.tiles o.it o.inside in
        let set : GivesResidues g shape t (sorted (tile_residues g shape t tile.0)) tile.0 = set_of_mask tile.0 tile.1 o.it tile.2 in
        let s : List Cell = sorted (tile_residues g shape t tile.0) in
        let v = variable_of s (are.listed.every s (tile.0, set)) in
        let e = entry_of vars 1 v.0 v.1 in
        let x : Numbered = (e.0, v.0) in
        let own : GivesResidues g shape t v.0.cells v.0.by = (All-contains (HasIsometry g shape t) vars v.0 are.isometries v.1).holds.1 in
        let mask : IsMaskOf g shape t v.0.by o.it = mask_of_set tile.0 v.0.by o.it s tile.2 set (subst (λ z. GivesResidues g shape t z v.0.by) v.2 own) in
        let is : is_true (e.0, v.0) ≡ true = (of.each (e.0 - 1) v.0 (entry_at vars 1 x e.1).1).1 (o.it, mask, o.inside) in
        let here : has v.0.cells r ≡ true = bit_set v.0.cells r (sym (bit_is v.0.by o.it v.0.cells mask own k.0 r k.1) ∙ eqb-true (bit_at o.it k.0) 1 o.passes) in
        member_some (filter (λ (x : Numbered). has x.1.cells r) (chosen values vars)) x (member_filter (λ (x : Numbered). has x.1.cells r) (chosen values vars) x (member_filter is_true (enumerate_from 1 vars) x e.1 is) here)

    not_twice : (r : Cell) → IsReduced g t r → 2 ≤ length (with_cell g law shape form t triple vars are values (reduced_cells g t) (reduced_listed g t law triple) r) → ⊥
    not_twice r red l =
        let order : Numbered → Numbered → Bool = λ (x y : Numbered). nat_lt x.0 y.0 in
        let mine : List Numbered = filter (λ (x : Numbered). has x.1.cells r) (chosen values vars) in
        let two : TwoOf (filter (λ (x : Numbered). has x.1.cells r) (chosen values vars)) = two_of mine (rising_filter order (λ (x : Numbered). has x.1.cells r) (chosen values vars) (rising_filter order is_true (enumerate_from 1 vars) (entries_rising vars 1))) l in
        let a = filter_member (λ (x : Numbered). has x.1.cells r) (chosen values vars) two.one two.first in
        let b = filter_member (λ (x : Numbered). has x.1.cells r) (chosen values vars) two.other two.second in
        let k = point_of r red in
        let o : OnePasses (λ m. bit_at m k.0 == 1) masks = one_with k.0 (slice_get_within (reduced_cells g t) k.0 r k.1) in
        let p = true_mask two.one a.0 in
        let q = true_mask two.other b.0 in
        let gp = gives two.one a.0 in
        let gq = gives two.other b.0 in
        let p_is : p.0 ≡ o.it = o.only p.0 p.2 (eq-eqb (bit_at p.0 k.0) 1 (bit_is two.one.1.by p.0 two.one.1.cells p.1 gp k.0 r k.1 ∙ set_bit two.one.1.cells r a.1)) in
        let q_is : q.0 ≡ o.it = o.only q.0 q.2 (eq-eqb (bit_at q.0 k.0) 1 (bit_is two.other.1.by q.0 two.other.1.cells q.1 gq k.0 r k.1 ∙ set_bit two.other.1.cells r b.1)) in
        let same : two.one.1.cells ≡ two.other.1.cells = one_set two.one.1.by two.other.1.by p.0 two.one.1.cells two.other.1.cells p.1 (subst (IsMaskOf g shape t two.other.1.by) (q_is ∙ sym p_is) q.1) gp gq in
        let before : cells_before two.one.1.cells two.other.1.cells ≡ true = entries_ordered (λ (x y : TorusVariable). cells_before x.cells y.cells) vars 1 (rising_sets vars are.listed.rising) two.one two.other (filter_member is_true (enumerate_from 1 vars) two.one a.0).0 (filter_member is_true (enumerate_from 1 vars) two.other b.0).0 two.less in
        true≢false (sym before ∙ ap (cells_before two.one.1.cells) (sym same) ∙ cells_before-irreflexive two.one.1.cells)
      where
        rising_sets : (vs : List TorusVariable) → IsRising cells_before (sets_of vs) → IsRising (λ (x y : TorusVariable). cells_before x.cells y.cells) vs
        rising_sets [] r = tt
        rising_sets (v ∷ vs) r = (All-from_members (λ (y : TorusVariable). cells_before v.cells y.cells ≡ true) vs (λ y i. All-contains (λ z. cells_before v.cells z ≡ true) (sets_of vs) y.cells r.0 (member_map (λ (x : TorusVariable). x.cells) vs y i)), rising_sets vs r.1)

    pub valued_covers : IsPeriodicCover g shape t (chosen_places values vars)
    valued_covers = once_covers g law shape form t triple vars are values (reduced_cells g t) (reduced_listed g t law triple) covered not_twice

  pub valued_tiling : (vars : List TorusVariable) → AreVariables g shape t vars → (masks : List ℕ) (full : ℕ) → HasAllPoints g t full → length (reduced_cells g t) ≤ 64 → AreExactMasks g shape t full masks → (values : List Bool) → AreValuesOf g shape t masks vars values → IsChosenCover g shape t (chosen_tiling t values vars)
  valued_tiling vars are masks full all few exact values of = chosen_cover g law shape form t triple vars are values (valued_covers vars are masks full all few exact values of)

-- ---- one value more

pub contains_is : (xs : List ℕ) (m : ℕ) (b : Bool) → b ≡ list_any (λ y. eqb y m) xs → (b ≡ true) ↔ Contains xs m
contains_is xs m b e = (
  (λ t. let a = any_member (λ y. eqb y m) xs (sym e ∙ t) in subst (Contains xs) (eqb-true a.0 m a.2) a.1),
  (λ i. e ∙ member_any (λ y. eqb y m) xs m i (eq-eqb m m refl)),
)

pub one_more : (old : List Bool) (b : Bool) (new : List Bool) → new ≡ old ++ b ∷ [] → length new ≡ length old + 1
one_more old b new e = ap length e ∙ length-append old (b ∷ [])

pub values_more : (g : Geometry) (shape : List Cell) (t : Triple) (masks : List ℕ) (vars : List TorusVariable) (i : ℕ) (y : TorusVariable) (old new : List Bool) (b : Bool) → i < length vars → y ≡ get_or vars i y → new ≡ old ++ b ∷ [] → length old ≡ i → (b ≡ true) ↔ HasMaskAmong g shape t masks y.by → ((k : ℕ) (x : TorusVariable) → k < i → slice_get vars k ≡ Some x → (slice_index_or old k false ≡ true) ↔ HasMaskAmong g shape t masks x.by) → (k : ℕ) (x : TorusVariable) → k < i + 1 → slice_get vars k ≡ Some x → (slice_index_or new k false ≡ true) ↔ HasMaskAmong g shape t masks x.by
values_more g shape t masks vars i y old new b less is e long now before k x l at = elim (cases_order k i) [
  | inl same ↦
      let value : b ≡ slice_index_or new k false = sym ((λ j. slice_index_or (e j) ((same ∙ sym long) j) false) ∙ get_or-append_seam old b [] false) in
      let one : y ≡ x = is ∙ ap (λ n. get_or vars n y) (sym same) ∙ get_or_from_slice_get vars k x y at in
      subst (λ (z : TorusVariable). (slice_index_or new k false ≡ true) ↔ HasMaskAmong g shape t masks z.by) one (subst (λ c. (c ≡ true) ↔ HasMaskAmong g shape t masks y.by) value now)
  | inr o ↦ elim o [
    | inl earlier ↦
        let value : slice_index_or old k false ≡ slice_index_or new k false = sym (ap (λ vs. slice_index_or vs k false) e ∙ get_or_append_left old (b ∷ []) false k (omega arith)) in
        subst (λ c. (c ≡ true) ↔ HasMaskAmong g shape t masks x.by) value (before k x earlier at)
    | inr later ↦ absurd (omega arith)
  ]
]

module _ (g : Geometry) (law : IsGrid g) (shape : List Cell) (t : Triple) (triple : IsTriple t) (masks : List ℕ) where
  pub mask_among : (by : Iso) (m : ℕ) → IsMaskOf g shape t by m → (b : Bool) → ((b ≡ true) ↔ Contains masks m) → (b ≡ true) ↔ HasMaskAmong g shape t masks by
  mask_among by m is b h = ((λ e. (m, is, h.0 e)), (λ a. h.1 (subst (Contains masks) (one_mask g t shape by a.0 m a.1 is) a.2)))

  pub double_among : (by : Iso) → HasDouble g shape t by → (false ≡ true) ↔ HasMaskAmong g shape t masks by
  double_among by double = ((λ e. absurd (true≢false (sym e))), (λ a. absurd (double_unmasked g shape t law triple by a.0 double a.1)))
