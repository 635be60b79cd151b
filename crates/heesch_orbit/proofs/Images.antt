-- A shape under all turns, and the translations between its images.
use Rattle.std.proofs.Common.{◌≡◌, refl, sym, ap, subst, ◌∙◌, ℕ, ◌+◌, ◌*◌, ◌<◌, true, List, [], ◌∷◌, ◌++◌, map, length, get_or, ℤ, pos, ◌+ℤ◌, ◌*ℤ◌, inl, inr, arith, Contains, All, length-append}
use Rattle.std.proofs.Math.ListN.{get_or-append}
use Rattle.std.proofs.Math.Seq.{get_or-append_seam}
use Rattle.std.proofs.lemmas.Bool.{cases_lt}
use Rattle.std.proofs.lemmas.Int.{ints}
use Rattle.std.proofs.lemmas.List.Elements.{All-contains}
use Rattle.heesch_grid.specs.declared.Cell.{Cell}
use Rattle.heesch_grid.specs.declared.isometries.Iso.{Iso}
use Rattle.heesch_grid.specs.Listing.{IsRising}
use Rattle.heesch_grid.specs.Cells.{cell_before, has, SameCells, IsCellListOf}
use Rattle.heesch_grid.specs.Geometry.{Geometry, IsGrid, apply, image, moved}
use Rattle.heesch_grid.specs.Pairs.{Cell-eta, has-true}
use Rattle.heesch_grid.specs.Vectors.{IsWithin}
use Rattle.heesch_grid.proofs.CellFacts.{cell_before-irreflexive, cell_before-asymmetric, has-is}
use Rattle.heesch_grid.proofs.Images.{turn_within, wider}
use Rattle.heesch_grid.proofs.IsometryFacts.{moved_twice}
use Rattle.heesch_grid.proofs.ListFacts.{same_rising, All-from_members}
use Rattle.heesch_grid.proofs.SymmetryFacts.{translations_are_determined}
use Rattle.heesch_grid.proofs.WindowFacts.{map_member}
use Rattle.heesch_orbit.specs.Steps.{IsStep, IsStepBetween, turn_alone, turn_and_shift}
use Rattle.heesch_orbit.specs.Turned.{first_of, AreImages, AreTurned}
use Rattle.heesch_orbit.proofs.Sets.{set_of, same_back, same_through, same_map, map_twice, map_same, still}

-- a cell list has the cells of its set
pub cells_of : (xs ys : List Cell) → IsCellListOf xs ys → SameCells ys xs
cells_of xs ys l c = ((λ m. All-contains (Contains xs) ys c l.only m), (λ m. l.every c m))

-- ---- how far the images reach

turned_within : (g : Geometry) → IsGrid g → (k n : ℕ) (c : Cell) → k < g.turns → IsWithin n c → IsWithin (2 * n) (apply g (turn_alone k) c)
turned_within g law k n c less w =
    let t = turn_within g law k n c less w in
    let z : pos g.unit *ℤ pos 0 ≡ pos 0 = omega (arith, ints) in
    record { a_low = omega (arith, ints, t.a_low, z); a_high = omega (arith, ints, t.a_high, z); b_low = omega (arith, ints, t.b_low, z); b_high = omega (arith, ints, t.b_high, z) }

pub images_within : (g : Geometry) → IsGrid g → (k : ℕ) (shape : List Cell) → k < g.turns → ((c : Cell) → has shape c ≡ true → IsWithin 100000 c) → All (IsWithin 1000000) (image g (turn_alone k) shape)
images_within g law k shape less near = All-from_members (IsWithin 1000000) (image g (turn_alone k) shape) (λ d m.
    let c = map_member (apply g (turn_alone k)) shape d m in
    subst (IsWithin 1000000) c.2 (wider 200000 1000000 (apply g (turn_alone k) c.0) (omega arith) (turned_within g law k 100000 c.0 less (near c.0 (has-is shape c.0 c.1)))))

pub image_near : (g : Geometry) → IsGrid g → (k : ℕ) (shape cells : List Cell) → k < g.turns → ((c : Cell) → has shape c ≡ true → IsWithin 100000 c) → IsCellListOf (image g (turn_alone k) shape) cells → (c : Cell) → has cells c ≡ true → IsWithin 200000 c
image_near g law k shape cells less near l d h =
    let c = map_member (apply g (turn_alone k)) shape d (All-contains (Contains (image g (turn_alone k) shape)) cells d l.only (has-true cells d h)) in
    subst (IsWithin 200000) c.2 (turned_within g law k 100000 c.0 less (near c.0 (has-is shape c.0 c.1)))

-- ---- the lists

pub one_more : (g : Geometry) (shape : List Cell) (k : ℕ) (images more : List (List Cell)) (cells : List Cell) → AreImages g shape k images → more ≡ images ++ cells ∷ [] → IsCellListOf (image g (turn_alone k) shape) cells → AreImages g shape (k + 1) more
one_more g shape k images more cells a e l = record {
  all = ap length e ∙ length-append images (cells ∷ []) ∙ ap (λ n. n + 1) a.all;
  each = λ n d less. subst (λ (zs : List (List Cell)). IsCellListOf (image g (turn_alone n) shape) (get_or zs n d)) (sym e) (at n d less);
  some = a.some;
  near = a.near;
}
  where
    long : length images ≡ k
    long = a.all

    at : (n : ℕ) (d : List Cell) → n < k + 1 → IsCellListOf (image g (turn_alone n) shape) (get_or (images ++ cells ∷ []) n d)
    at n d less =
        elim (cases_lt n k) [
          | inl h ↦ subst (λ ys. IsCellListOf (image g (turn_alone n) shape) ys) (sym (get_or-append images (cells ∷ []) d n (omega arith))) (a.each n d h)
          | inr h ↦
              let is : n ≡ k = omega arith in
              let last : get_or (images ++ cells ∷ []) n d ≡ cells = ap (λ i. get_or (images ++ cells ∷ []) i d) (is ∙ sym long) ∙ get_or-append_seam images cells [] d in
              subst (λ ys. IsCellListOf (image g (turn_alone n) shape) ys) (sym last) (subst (λ i. IsCellListOf (image g (turn_alone i) shape) cells) (sym is) l)
        ]

-- the image under turn 0 is the shape
pub first_is_shape : (g : Geometry) → IsGrid g → (shape : List Cell) (count : ℕ) (images : List (List Cell)) → IsRising cell_before shape → 0 < count → AreImages g shape count images → first_of images ≡ shape
first_is_shape g law shape count [] rising some a = absurd (let e : 0 ≡ count = a.all in omega arith)
first_is_shape g law shape count (cells ∷ rest) rising some a =
    let l : IsCellListOf (image g (turn_alone 0) shape) cells = a.each 0 [] some in
    let same : SameCells cells shape = same_through cells (image g (turn_alone 0) shape) shape (cells_of (image g (turn_alone 0) shape) cells l) (set_of (image g (turn_alone 0) shape) shape (map_same (apply g (turn_alone 0)) (still g law) shape)) in
    same_rising cell_before cell_before-irreflexive cell_before-asymmetric cells shape l.rising rising (λ c m. (same c).0 m) (λ c m. (same c).1 m)

-- ---- steps between images

shifted : (g : Geometry) → IsGrid g → (k : ℕ) (w c : Cell) → moved g w.a w.b (apply g (turn_alone k) c) ≡ apply g (turn_and_shift k w) c
shifted g law k w c = moved_twice g law (pos 0) (pos 0) w.a w.b (g.turn k c) ∙ (λ i. moved g (none w.a i) (none w.b i) (g.turn k c))
  where
    none : (x : ℤ) → pos 0 +ℤ x ≡ x
    none x = omega (arith, ints)

moved_image : (g : Geometry) → IsGrid g → (k : ℕ) (w : Cell) (shape cells : List Cell) → IsCellListOf (image g (turn_alone k) shape) cells → SameCells (map (moved g w.a w.b) cells) (image g (turn_and_shift k w) shape)
moved_image g law k w shape cells l =
    same_through (map (moved g w.a w.b) cells) (map (moved g w.a w.b) (image g (turn_alone k) shape)) (image g (turn_and_shift k w) shape)
    (same_map (moved g w.a w.b) cells (image g (turn_alone k) shape) (cells_of (image g (turn_alone k) shape) cells l))
    (set_of (map (moved g w.a w.b) (image g (turn_alone k) shape)) (image g (turn_and_shift k w) shape) (map_twice (moved g w.a w.b) (apply g (turn_alone k)) (apply g (turn_and_shift k w)) (shifted g law k w) shape))

pub to_step : (g : Geometry) → IsGrid g → (shape xs ys : List Cell) (a b : ℕ) (w : Cell) → IsCellListOf (image g (turn_alone a) shape) xs → IsCellListOf (image g (turn_alone b) shape) ys → IsStepBetween g xs ys w → IsStep g shape a b w
to_step g law shape xs ys a b w l m h =
    same_through (image g (turn_and_shift a w) shape) (map (moved g w.a w.b) xs) (image g (turn_alone b) shape) (same_back (map (moved g w.a w.b) xs) (image g (turn_and_shift a w) shape) (moved_image g law a w shape xs l))
    (same_through (map (moved g w.a w.b) xs) ys (image g (turn_alone b) shape) h (cells_of (image g (turn_alone b) shape) ys m))

pub from_step : (g : Geometry) → IsGrid g → (shape xs ys : List Cell) (a b : ℕ) (w : Cell) → IsCellListOf (image g (turn_alone a) shape) xs → IsCellListOf (image g (turn_alone b) shape) ys → IsStep g shape a b w → IsStepBetween g xs ys w
from_step g law shape xs ys a b w l m h =
    same_through (map (moved g w.a w.b) xs) (image g (turn_and_shift a w) shape) ys (moved_image g law a w shape xs l)
    (same_through (image g (turn_and_shift a w) shape) (image g (turn_alone b) shape) ys h (same_back ys (image g (turn_alone b) shape) (cells_of (image g (turn_alone b) shape) ys m)))

-- there is one step
pub one_step : (g : Geometry) → IsGrid g → (shape : List Cell) (a b : ℕ) (w v : Cell) → 0 < length shape → IsStep g shape a b w → IsStep g shape a b v → w ≡ v
one_step g law shape a b w v some p q =
    let e : turn_and_shift a w ≡ turn_and_shift a v = translations_are_determined g shape (turn_and_shift a w) (turn_and_shift a v) law some refl (same_through (image g (turn_and_shift a w) shape) (image g (turn_alone b) shape) (image g (turn_and_shift a v) shape) p (same_back (image g (turn_and_shift a v) shape) (image g (turn_alone b) shape) q)) in
    Cell-eta w v (ap (λ (i : Iso). i.da) e) (ap (λ (i : Iso). i.db) e)

-- ---- the images under all turns

-- where the shape was turned by each turn, its first image is the shape
pub all_turned : (g : Geometry) → IsGrid g → (shape : List Cell) → IsRising cell_before shape → (turn : ℕ) (images : List (List Cell)) → turn ≡ g.turns → AreImages g shape turn images → AreTurned g (first_of images) images × (first_of images ≡ shape)
all_turned g law shape rising turn images is a =
    let all : AreTurned g shape images = subst (λ (k : ℕ). AreImages g shape k images) is a in
    let first = first_is_shape g law shape g.turns images rising law.turns_range.0 all in
    (subst (λ xs. AreImages g xs g.turns images) (sym first) all, first)

-- the list of a turn
listed_at : (g : Geometry) (shape : List Cell) (images : List (List Cell)) → AreTurned g shape images → (k : ℕ) → k < g.turns → (cells : List Cell) → cells ≡ get_or images k cells → IsCellListOf (image g (turn_alone k) shape) cells
listed_at g shape images a k less cells is = subst (λ ys. IsCellListOf (image g (turn_alone k) shape) ys) (sym is) (a.each k cells less)

pub listed_near : (g : Geometry) → IsGrid g → (shape : List Cell) (images : List (List Cell)) → AreTurned g shape images → (k : ℕ) → k < g.turns → (cells : List Cell) → cells ≡ get_or images k cells → (c : Cell) → has cells c ≡ true → IsWithin 200000 c
listed_near g law shape images a k less cells is = image_near g law k shape cells less a.near (listed_at g shape images a k less cells is)

-- a step between the lists of two turns is one between the turns of the shape, and there is one
module _ (g : Geometry) (law : IsGrid g) (shape : List Cell) (images : List (List Cell)) (a : AreTurned g shape images) (from to : ℕ) (is_from : from < g.turns) (is_to : to < g.turns) (xs ys : List Cell) (first : xs ≡ get_or images from xs) (second : ys ≡ get_or images to ys)
    (seen : List Cell) (view : shape ≡ seen) where
  inside : (w : Cell) → IsStepBetween g xs ys w → IsStep g shape from to w
  inside w h = to_step g law shape xs ys from to w (listed_at g shape images a from is_from xs first) (listed_at g shape images a to is_to ys second) h

  pub listed_to : (w : Cell) → IsStepBetween g xs ys w → IsStep g seen from to w
  listed_to w h = subst (λ (zs : List Cell). IsStep g zs from to w) view (inside w h)

  pub listed_from : (w : Cell) → IsStep g seen from to w → IsStepBetween g xs ys w
  listed_from w h = from_step g law shape xs ys from to w (listed_at g shape images a from is_from xs first) (listed_at g shape images a to is_to ys second) (subst (λ (zs : List Cell). IsStep g zs from to w) (sym view) h)

  pub listed_only : (v : Cell) → IsStepBetween g xs ys v → (w : Cell) → IsStep g seen from to w → w ≡ v
  listed_only v h w k = one_step g law shape from to w v a.some (subst (λ (zs : List Cell). IsStep g zs from to w) (sym view) k) (inside v h)
