-- Sets of cells under maps, and isometries one after another.
use Rattle.std.proofs.Common.{◌≡◌, refl, sym, ap, subst, ◌∙◌, List, [], ◌∷◌, map, arith, Contains}
use Rattle.std.specs.Prelude.{pos, ◌+ℤ◌}
use Rattle.std.proofs.lemmas.Int.{ints}
use Rattle.heesch_grid.specs.declared.Cell.{Cell}
use Rattle.heesch_grid.specs.declared.isometries.Iso.{Iso}
use Rattle.heesch_grid.specs.Cells.{cell, SameCells}
use Rattle.heesch_grid.specs.Geometry.{Geometry, IsGrid, IsIsometry, apply, moved}
use Rattle.heesch_grid.specs.Pairs.{Cell-eta}
use Rattle.heesch_grid.specs.Tiling.{no_move}
use Rattle.heesch_grid.specs.Vectors.{plus, times}
use Rattle.heesch_grid.proofs.WindowFacts.{member_map, map_member}
use Rattle.heesch_grid.proofs.IsometryFacts.{moved_none}
use Rattle.heesch_grid.proofs.Images.{carried_twice, turn_times}
use Rattle.heesch_orbit.specs.Symmetries.{shift}

-- ---- sets

pub set_of : (xs ys : List Cell) → xs ≡ ys → SameCells xs ys
set_of xs ys e c = ((λ m. subst (λ z. Contains z c) e m), (λ m. subst (λ z. Contains z c) (sym e) m))

pub same_back : (xs ys : List Cell) → SameCells xs ys → SameCells ys xs
same_back xs ys h c = ((h c).1, (h c).0)

pub same_through : (xs ys zs : List Cell) → SameCells xs ys → SameCells ys zs → SameCells xs zs
same_through xs ys zs h k c = ((λ m. (k c).0 ((h c).0 m)), (λ m. (h c).1 ((k c).1 m)))

pub same_map : (f : Cell → Cell) (xs ys : List Cell) → SameCells xs ys → SameCells (map f xs) (map f ys)
same_map f xs ys h c = ((λ m. forth xs ys (λ d n. (h d).0 n) m), (λ m. forth ys xs (λ d n. (h d).1 n) m))
  where
    forth : (xs ys : List Cell) → ((d : Cell) → Contains xs d → Contains ys d) → Contains (map f xs) c → Contains (map f ys) c
    forth xs ys k m = let r = map_member f xs c m in subst (λ z. Contains (map f ys) z) r.2 (member_map f ys r.0 (k r.0 r.1))

-- where two maps agree, one after another, with a third
pub map_twice : (f h k : Cell → Cell) → ((c : Cell) → f (h c) ≡ k c) → (xs : List Cell) → map f (map h xs) ≡ map k xs
map_twice f h k e [] = refl
map_twice f h k e (x ∷ xs) = λ i. e x i ∷ map_twice f h k e xs i

pub map_same : (f : Cell → Cell) → ((c : Cell) → f c ≡ c) → (xs : List Cell) → map f xs ≡ xs
map_same f e [] = refl
map_same f e (x ∷ xs) = λ i. e x i ∷ map_same f e xs i

pub map_alike : (f h : Cell → Cell) → ((c : Cell) → f c ≡ h c) → (xs : List Cell) → map f xs ≡ map h xs
map_alike f h e [] = refl
map_alike f h e (x ∷ xs) = λ i. e x i ∷ map_alike f h e xs i

-- two ways round a square of maps
pub map_square : (f h u v : Cell → Cell) → ((c : Cell) → f (h c) ≡ u (v c)) → (xs : List Cell) → map f (map h xs) ≡ map u (map v xs)
map_square f h u v e [] = refl
map_square f h u v e (x ∷ xs) = λ i. e x i ∷ map_square f h u v e xs i

-- ---- isometries

-- the first isometry, and then the second
abbrev pub followed : Geometry → Iso → Iso → Iso
followed g x y = record { turn = g.compose x.turn y.turn; da = (g.turn y.turn (cell x.da x.db)).a +ℤ y.da; db = (g.turn y.turn (cell x.da x.db)).b +ℤ y.db }

module _ (g : Geometry) (law : IsGrid g) where
  pub still : (c : Cell) → apply g no_move c ≡ c
  still c = ap (moved g (pos 0) (pos 0)) (law.identity c) ∙ moved_none g law (pos 0) (pos 0) c refl refl

  pub followed_is : (x y : Iso) → IsIsometry g x → IsIsometry g y → (c : Cell) → apply g (followed g x y) c ≡ apply g y (apply g x c)
  followed_is x y p q c = carried_twice g law x.turn y.turn (cell x.da x.db) (cell y.da y.db) c p q

  pub shift_is : (v c : Cell) → apply g (shift v) c ≡ moved g v.a v.b c
  shift_is v c = ap (moved g v.a v.b) (law.identity c)

  -- a moved cell under an isometry is its image, moved by the turned translation
  pub carried_moved : (by : Iso) → IsIsometry g by → (v c : Cell) → apply g by (moved g v.a v.b c) ≡ moved g (g.turn by.turn v).a (g.turn by.turn v).b (apply g by c)
  carried_moved by p v c =
      let sum = law.additive by.turn p c (times g.unit v) ∙ ap (plus (g.turn by.turn c)) (turn_times g law by.turn g.unit v p) in
      Cell-eta (apply g by (moved g v.a v.b c)) (moved g (g.turn by.turn v).a (g.turn by.turn v).b (apply g by c)) (omega (arith, ints, ap (λ (z : Cell). z.a) sum)) (omega (arith, ints, ap (λ (z : Cell). z.b) sum))
