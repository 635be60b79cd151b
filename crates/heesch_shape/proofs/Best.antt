-- The least of the normalised images.
use Rattle.std.proofs.Common.{◌≡◌, ℕ, ◌+◌, ◌<◌, ◌≤◌, true, false, List, pos, Ordering, refl, sym, ap, ◌∙◌, arith, inl, inr}
use Rattle.std.specs.declared.cmp.Ordering.TheVariants.{Less, Equal, Greater}
use Rattle.std.specs.Cmp.Lexicographic.{slice_cmp}
use Rattle.std.specs.Ordering.{is_gt, is_lt, ordering_reverse}
use Rattle.std.proofs.lemmas.Int.{ints}
use Rattle.std.proofs.lemmas.Bool.{cases_order}
use Rattle.std.proofs.lemmas.Cmp.{upto, tied_itself}
use Rattle.heesch_grid.specs.declared.Cell.{Cell}
use Rattle.heesch_grid.specs.declared.isometries.Iso.{Iso}
use Rattle.heesch_grid.specs.Geometry.{Geometry, apply, IsGrid}
use Rattle.heesch_grid.specs.Cells.{cell_cmp}
use Rattle.heesch_grid.specs.Vectors.{IsWithin}
use Rattle.heesch_shape.specs.Walks.{IsNormalImage, IsLeastImage}
use Rattle.heesch_shape.specs.Order.{list_total}
use Rattle.heesch_shape.specs.Least.{IsLeastBelow, IsTranslate, IsTurned}
use Rattle.heesch_grid.proofs.Images.{turn_within}
use Rattle.heesch_shape.proofs.Normal.{one_normal, image_of_translate}

less_not_greater : (o : Ordering) → is_lt o ≡ true → is_gt o ≡ false
less_not_greater Less e = refl
less_not_greater Equal e = refl
less_not_greater Greater e = sym e

-- where the second is not less than the first, the first is not greater
not_greater : (xs ys : List Cell) → is_lt (slice_cmp cell_cmp ys xs) ≡ false → is_gt (slice_cmp cell_cmp xs ys) ≡ false
not_greater xs ys h =
    ap is_gt (list_total.antisymm xs ys) ∙ reversed (slice_cmp cell_cmp ys xs) h
  where
    reversed : (o : Ordering) → is_lt o ≡ false → is_gt (ordering_reverse o) ≡ false
    reversed Less h = h
    reversed Equal h = refl
    reversed Greater h = refl

module _ (g : Geometry) (laws : IsGrid g) (xs : List Cell) where
  -- of what a turn makes
  of_turn : (j i : Iso) (ys zs : List Cell) → j.turn ≡ i.turn → IsNormalImage g j xs ys → IsNormalImage g i xs zs → is_gt (slice_cmp cell_cmp ys zs) ≡ false
  of_turn j i ys zs e y z =
      let same = one_normal g laws i j xs ys zs (sym e) z y in
      ap (λ ws. is_gt (slice_cmp cell_cmp ys ws)) (sym same) ∙ ap is_gt (tied_itself list_total ys)

  pub first_best : (j : Iso) (ys : List Cell) → j.turn ≡ 0 → IsNormalImage g j xs ys → IsLeastBelow g 1 xs ys
  first_best j ys e y =
      record { of = (j, y); least = λ i zs less z. of_turn j i ys zs (let l = less in omega arith) y z }

  pub kept_best : (k : ℕ) (j : Iso) (ys ws : List Cell) → IsLeastBelow g k xs ys → j.turn ≡ k → IsNormalImage g j xs ws → is_lt (slice_cmp cell_cmp ws ys) ≡ false → IsLeastBelow g (k + 1) xs ys
  kept_best k j ys ws best e w h =
      record {
        of = best.of;
        least = λ i zs less z. elim (cases_order i.turn k) [
          | inr o ↦ elim o [ inl below ↦ best.least i zs below z | inr above ↦ absurd (let l = less in omega arith) ]
          | inl same ↦ upto list_total ys ws zs (not_greater ys ws h) (of_turn j i ws zs (e ∙ sym same) w z)
        ];
      }

  pub new_best : (k : ℕ) (j : Iso) (ys ws : List Cell) → IsLeastBelow g k xs ys → j.turn ≡ k → IsNormalImage g j xs ws → is_lt (slice_cmp cell_cmp ws ys) ≡ true → IsLeastBelow g (k + 1) xs ws
  new_best k j ys ws best e w h =
      record {
        of = (j, w);
        least = λ i zs less z. elim (cases_order i.turn k) [
          | inr o ↦ elim o [ inl below ↦ upto list_total ws ys zs (less_not_greater (slice_cmp cell_cmp ws ys) h) (best.least i zs below z) | inr above ↦ absurd (let l = less in omega arith) ]
          | inl same ↦ of_turn j i ws zs (e ∙ sym same) w z
        ];
      }

  pub best_of_all : (n : ℕ) (ys : List Cell) → g.turns ≤ n → IsLeastBelow g n xs ys → IsLeastImage g xs ys
  best_of_all n ys e best =
      record { of = best.of; least = λ i zs z. best.least i zs (let t = z.turn in omega arith) z }

  -- what a turn makes of a translate of the list, it makes of the list
  pub turned_translate : (k : ℕ) (base ys : List Cell) → IsTranslate g xs base → IsTurned g k base ys → (j : Iso) × (j.turn ≡ k) × IsNormalImage g j xs ys
  turned_translate k base ys moved t =
      let j = image_of_translate g laws t.by xs base ys moved t.image in
      (j.0, j.1 ∙ t.turn_is, j.2)

pub image_small : (g : Geometry) → IsGrid g → (k : ℕ) (c : Cell) → k < g.turns → IsWithin 200 c → IsWithin 1000000 (apply g (record { turn = k; da = pos 0; db = pos 0 }) c)
image_small g laws k c less w =
    let t = turn_within g laws k 200 c less w in
    record { a_low = omega (arith, ints, t.a_low); a_high = omega (arith, ints, t.a_high); b_low = omega (arith, ints, t.b_low); b_high = omega (arith, ints, t.b_high) }
