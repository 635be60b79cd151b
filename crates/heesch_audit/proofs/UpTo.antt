-- What an answer about layers says of the levels up to which they are hole-free.
use Rattle.std.proofs.Common.{◌≡◌, refl, sym, ap, subst, ℕ, zero, suc, ◌<◌, ◌≤◌, Bool, true, List, [], ◌∷◌, length, take, All, Contains, inl, inr, arith, not-suc-le-zero, le_of_suc-le-suc}
use Rattle.std.specs.Prelude.{◌↔◌}
use Rattle.std.specs.List.{AllZip}
use Rattle.std.proofs.lemmas.Bool.{cases_lt}
use Rattle.std.proofs.lemmas.List.{length-take, take_all}
use Rattle.std.proofs.lemmas.List.Elements.{All-contains}
use Rattle.std.proofs.lemmas.Slice.Zip.{AllZip-long}
use Rattle.heesch_grid.specs.declared.Cell.{Cell}
use Rattle.heesch_grid.specs.declared.isometries.Iso.{Iso}
use Rattle.heesch_grid.specs.Geometry.{Geometry, IsGrid}
use Rattle.heesch_grid.specs.Placement.{IsLeastIsometry, IsPlacement}
use Rattle.heesch_grid.specs.Corona.{AreCoronas, AreHoleFreeCoronas, StaysHoleFree, cells_of}
use Rattle.heesch_grid.specs.Hole.{IsHoleFree, IsInHole}
use Rattle.heesch_grid.proofs.ListFacts.{member_here}
use Rattle.heesch_cert.specs.TrueEntry.{Spells}
use Rattle.heesch_corona.specs.declared.check.CoronaAnswer.{CoronaAnswer}
use Rattle.heesch_corona.specs.declared.check.CoronaAnswer.TheVariants.{Meets, Loose, Uncovered, Hole, Holds}
use Rattle.heesch_corona.specs.Answer.{IsAnswer, IsFirstHoled}
use Rattle.heesch_corona.specs.Rules.{AreRuled, NoneHoled}
use Rattle.heesch_corona.specs.Tiles.{AreTilesOf, IsInRange, all_tiles, patch_at}
use Rattle.heesch_corona.proofs.Coronas.{holed_stays, rules_make_coronas, stays_holed}
use Rattle.heesch_corona.proofs.Unique.{placements_of}
use Rattle.heesch_audit.specs.Spelling.{AreCoronasUpTo, HoldsUpTo, SpellCoronas}

-- the first of the first are the first
take_first : {X : Type 0} (n k : ℕ) (xs : List X) → n ≤ k → take n (take k xs) ≡ take n xs
take_first zero k xs l = refl
take_first (suc n) zero xs l = absurd (not-suc-le-zero l)
take_first (suc n) (suc k) [] l = refl
take_first (suc n) (suc k) (x ∷ xs) l = ap (λ ys. x ∷ ys) (take_first n k xs (le_of_suc-le-suc l))

none_in : (cells : List Cell) → 0 < length cells → ((c : Cell) → Contains cells c → ⊥) → ⊥
none_in [] l f = not-suc-le-zero l
none_in (c ∷ cs) l f = f c (member_here c cs)

module _ (g : Geometry) (law : IsGrid g) (shape : List Cell) (tiles : List (List (List Cell))) where
  same_patch : (k n : ℕ) → n ≤ k → patch_at shape (take k tiles) n ≡ patch_at shape tiles n
  same_patch k n l = ap (all_tiles shape) (take_first n k tiles l)

  -- the patches of the levels 1 to k are hole-free where the first hole is above them, and only there
  below_hole : (k level : ℕ) (cells : List Cell) → IsFirstHoled g shape tiles level cells → k < level → StaysHoleFree g (shape ∷ []) (take k tiles)
  below_hole k level cells first above = holed_stays g law shape (take k tiles) whole
    where
      whole : NoneHoled g shape (take k tiles)
      whole n from to =
          let long = length-take k tiles in
          let low : n ≤ k = omega (arith, to, long) in
          subst (λ ts. IsHoleFree g (cells_of ts)) (sym (same_patch k n low)) (first.below n from (omega (arith, low, above)))

  above_free : (k level : ℕ) (cells : List Cell) → IsFirstHoled g shape tiles level cells → StaysHoleFree g (shape ∷ []) (take k tiles) → k < level
  above_free k level cells first free =
      elim (cases_lt k level) [
        | inl above ↦ above
        | inr low ↦
            let long = length-take k tiles in
            let to = first.to in
            let whole : IsHoleFree g (cells_of (patch_at shape tiles level)) = subst (λ ts. IsHoleFree g (cells_of ts)) (same_patch k level low) (stays_holed g law shape (take k tiles) free level first.from (omega (arith, low, to, long))) in
            absurd (none_in cells first.some (λ c m. let i = All-contains (IsInHole g (cells_of (patch_at shape tiles level))) cells c first.greatest.only m in whole i.hole i.is_hole))
      ]

  -- where no patch has a hole, none of these has
  whole_up_to : (k : ℕ) (hole_free : Bool) → (0 < k → hole_free ≡ true) → (hole_free ≡ true → NoneHoled g shape tiles) → StaysHoleFree g (shape ∷ []) (take k tiles)
  whole_up_to zero hole_free asked none = tt
  whole_up_to (suc k) hole_free asked none = holed_stays g law shape (take (suc k) tiles) whole
    where
      whole : NoneHoled g shape (take (suc k) tiles)
      whole n from to =
          let long = length-take (suc k) tiles in
          let low : n ≤ suc k = omega (arith, to, long) in
          subst (λ ts. IsHoleFree g (cells_of ts)) (sym (same_patch (suc k) n low)) (none (asked (omega arith)) n from (omega (arith, to, long)))

  -- an answer, for which holes were looked for where a level is to be hole-free
  module _ (placed : All (All (IsPlacement g shape)) tiles) (k : ℕ) (hole_free : Bool) (asked : 0 < k → hole_free ≡ true) where
    ruled : AreRuled g shape tiles ↔ AreCoronas g shape tiles
    ruled = rules_make_coronas g shape tiles law placed

    up_to : (answer : CoronaAnswer) → IsAnswer g shape tiles hole_free answer → HoldsUpTo k answer ↔ AreCoronasUpTo g shape k tiles
    up_to (Meets i j) h = ((λ e. absurd e), (λ a. absurd ((ruled.1 a.0).none_meet (i, j) h.holds)))
    up_to (Loose i) h = ((λ e. absurd e), (λ a. absurd ((ruled.1 a.0).none_loose i h.1.holds)))
    up_to (Uncovered level cell) h = ((λ e. absurd e), (λ a. absurd ((ruled.1 a.0).none_uncovered (level, cell) h.2.holds)))
    up_to (Hole level cells) h = ((λ above. (ruled.0 h.0, below_hole k level cells h.2 above)), (λ a. above_free k level cells h.2 a.1))
    up_to Holds h = ((λ t. (ruled.0 h.0, whole_up_to k hole_free asked h.1)), (λ a. tt))

-- of the tiles of layers, whatever they are
pub told_up_to : (g : Geometry) → IsGrid g → (shape : List Cell) (layers : List (List Iso)) → All (All (IsInRange g)) layers → (k : ℕ) (hole_free : Bool) (answer : CoronaAnswer) → (0 < k → hole_free ≡ true)
    → ((tiles : List (List (List Cell))) → AreTilesOf g shape layers tiles → IsAnswer g shape tiles hole_free answer) → (tiles : List (List (List Cell))) → AreTilesOf g shape layers tiles → HoldsUpTo k answer ↔ AreCoronasUpTo g shape k tiles
told_up_to g law shape layers ranges k hole_free answer asked says tiles are = up_to g law shape tiles (placements_of g shape layers tiles ranges are) k hole_free asked answer (says tiles are)

module _ (g : Geometry) (shape : List Cell) (layers : List (List Iso)) where
  -- no level hole-free: coronas with holes allowed
  pub spell_open : SpellCoronas g shape 0 layers ↔ ((tiles : List (List (List Cell))) × Spells g shape layers tiles × AreCoronas g shape tiles)
  spell_open = ((λ s. (s.0, s.1, s.2.0)), (λ s. (s.0, s.1, (s.2, tt))))

  -- all levels: hole-free coronas
  pub spell_free : (count : ℕ) → length layers ≡ count → SpellCoronas g shape count layers ↔ ((tiles : List (List (List Cell))) × Spells g shape layers tiles × AreHoleFreeCoronas g shape tiles)
  spell_free count long = (
    (λ s. (s.0, s.1, (s.2.0, subst (StaysHoleFree g (shape ∷ [])) (whole s.0 s.1) s.2.1))),
    (λ s. (s.0, s.1, (s.2.0, subst (StaysHoleFree g (shape ∷ [])) (sym (whole s.0 s.1)) s.2.1))),
  )
    where
      whole : (tiles : List (List (List Cell))) → Spells g shape layers tiles → take count tiles ≡ tiles
      whole tiles s =
          let same = AllZip-long (λ (layer : List Iso) (placed : List (List Cell)). AllZip (λ by tile. IsLeastIsometry g shape tile by) layer placed) layers tiles s.isometries in
          take_all count tiles (omega (arith, same, long))
