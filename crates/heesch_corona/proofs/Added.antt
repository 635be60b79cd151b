-- Tiles that are added.
use Rattle.std.proofs.Common.{◌≡◌, refl, sym, ap, subst, ◌∙◌, ℕ, ◌+◌, ◌*◌, ◌<◌, ◌≤◌, ℤ, pos, neg_ℤ, ◌+ℤ◌, ◌*ℤ◌, ◌≤ℤ◌, true, List, [], ◌∷◌, ◌++◌, length, get_or, take, All, length-append, append_assoc, inl, inr, ◌⊎◌, false, arith}
use Rattle.std.specs.Prelude.{nat_lt, slice_index}
use Rattle.std.specs.List.{AllZip}
use Rattle.std.proofs.Math.Seq.{take-length, get_or-append_seam}
use Rattle.std.proofs.lemmas.Bool.{cases_Bool}
use Rattle.std.proofs.lemmas.List.{take_more, flat_map_more, get_or_append_left, take-append-le}
use Rattle.std.proofs.lemmas.List.Elements.{All-contains, Contains-append_cases}
use Rattle.std.proofs.lemmas.Int.{ints}
use Rattle.heesch_grid.specs.declared.Cell.{Cell}
use Rattle.heesch_grid.specs.declared.isometries.Iso.{Iso}
use Rattle.heesch_grid.specs.Cells.{has, IsCellListOf}
use Rattle.heesch_grid.proofs.ListFacts.{All-from_members, member_cases, no_member}
use Rattle.heesch_shape.specs.Walks.{IsShape}
use Rattle.heesch_grid.specs.Geometry.{Geometry, apply, image, IsGrid}
use Rattle.heesch_grid.specs.Vectors.{IsWithin}
use Rattle.heesch_grid.proofs.Images.{turn_within, unit_product}
use Rattle.heesch_shape.proofs.Sets.{images_hold}
use Rattle.heesch_corona.specs.Tiles.{IsInRange, IsLayerOf, AreTilesOf, all_tiles, patch_at}
use Rattle.heesch_corona.specs.Building.{IsAdded, AreAdded, ArePatches, IsBuilt}

-- the image of a near shape by a near isometry lies within 1,000,000 of 0
pub image_near : (g : Geometry) → IsGrid g → (shape : List Cell) (by : Iso) → ((c : Cell) → has shape c ≡ true → IsWithin 100000 c) → IsInRange g by → All (IsWithin 1000000) (image g by shape)
image_near g law shape by near range = images_hold (IsWithin 1000000) (apply g by) shape (λ c h. one c (near c h))
  where
    one : (c : Cell) → IsWithin 100000 c → IsWithin 1000000 (apply g by c)
    one c w =
        let t = turn_within g law by.turn 100000 c range.0 w in
        let n = range.1 in
        let p = unit_product g law (pos g.unit *ℤ by.da) (pos g.unit) by.da by.da 100000 refl refl refl n.a_low n.a_high in
        let q = unit_product g law (pos g.unit *ℤ by.db) (pos g.unit) by.db by.db 100000 refl refl refl n.b_low n.b_high in
        let ta = t.a_low in
        let tb = t.a_high in
        let tc = t.b_low in
        let td = t.b_high in
        let pa = p.1 in
        let pb = p.2 in
        let qa = q.1 in
        let qb = q.2 in
        record { a_low = low (g.turn by.turn c).a (pos g.unit *ℤ by.da) ta pa; a_high = high (g.turn by.turn c).a (pos g.unit *ℤ by.da) tb pb; b_low = low (g.turn by.turn c).b (pos g.unit *ℤ by.db) tc qa; b_high = high (g.turn by.turn c).b (pos g.unit *ℤ by.db) td qb }
      where
        low : (x y : ℤ) → neg_ℤ (pos (2 * 100000)) ≤ℤ x → neg_ℤ (pos (6 * 100000)) ≤ℤ y → neg_ℤ (pos 1000000) ≤ℤ (x +ℤ y)
        low x y p q = omega (arith, ints, p, q)

        high : (x y : ℤ) → x ≤ℤ pos (2 * 100000) → y ≤ℤ pos (6 * 100000) → (x +ℤ y) ≤ℤ pos 1000000
        high x y p q = omega (arith, ints, p, q)

-- ---- what is built by adding

pub zip_push : {A B : Type 0} (R : A → B → Type 0) (xs : List A) (ys : List B) (x : A) (y : B) → AllZip R xs ys → R x y → AllZip R (xs ++ x ∷ []) (ys ++ y ∷ [])
zip_push R [] [] x y h r = (r, tt)
zip_push R [] (b ∷ ys) x y h r = absurd h
zip_push R (a ∷ xs) [] x y h r = absurd h
zip_push R (a ∷ xs) (b ∷ ys) x y h r = (h.0, zip_push R xs ys x y h.1 r)

pub all_append : {A : Type 0} (P : A → Type 0) (xs ys : List A) → All P xs → All P ys → All P (xs ++ ys)
all_append P xs ys p q =
    All-from_members P (xs ++ ys) (λ x m. elim (Contains-append_cases xs ys x m) [ inl k ↦ All-contains P xs x p k | inr k ↦ All-contains P ys x q k ])

pub all_one : {A : Type 0} (P : A → Type 0) (x : A) → P x → All P (x ∷ [])
all_one P x p = All-from_members P (x ∷ []) (λ y m. elim (member_cases x [] y m) [ inl e ↦ subst P e p | inr n ↦ absurd (no_member y n) ])

pub added_more : (g : Geometry) (shape : List Cell) (layer : List Iso) (i : ℕ) (d : Iso) (old mid new : List (List Cell)) → i < length layer → AreAdded g shape (take i layer) old mid → IsAdded g shape (get_or layer i d) mid new → AreAdded g shape (take (i + 1) layer) old new
added_more g shape layer i d old mid new less p q =
    record {
      tiles = p.tiles ++ q.tile ∷ [];
      are_given = subst (λ xs. IsLayerOf g shape xs (p.tiles ++ q.tile ∷ [])) (sym (take_more layer i d less)) (zip_push (λ by tile. IsCellListOf (image g by shape) tile) (take i layer) p.tiles (get_or layer i d) q.tile p.are_given q.gives);
      are_shapes = all_append (IsShape g) p.tiles (q.tile ∷ []) p.are_shapes (all_one (IsShape g) q.tile q.is_shape);
      is = q.is ∙ ap (λ xs. xs ++ q.tile ∷ []) p.is ∙ append_assoc old p.tiles (q.tile ∷ []);
    }

pub built_first : (g : Geometry) (shape : List Cell) (sets : List (List Cell)) (ends : List ℕ) → IsShape g shape → sets ≡ shape ∷ [] → ends ≡ 1 ∷ [] → IsBuilt g shape [] sets ends
built_first g shape sets ends is e f =
    record {
      tiles = [];
      are_given = tt;
      are_shapes = subst (All (IsShape g)) (sym e) (all_one (IsShape g) shape is);
      are_patches = record {
        all = e;
        levels = ap length f;
        sizes = λ k l. let z : k ≡ 0 = omega (arith, l) in ap (λ es. slice_index es k) f ∙ ap (λ n. slice_index (1 ∷ []) n) z ∙ ap (λ n. length (patch_at shape [] n)) (sym z);
      };
    }

last_or_before : (m n : ℕ) → m ≤ n + 1 → (m ≤ n) ⊎ (m ≡ n + 1)
last_or_before m n l = elim (cases_Bool (nat_lt n m)) [ inl t ↦ inr (same m n l t) | inr f ↦ inl (above n m f) ]
  where
    same : (m n : ℕ) → m ≤ n + 1 → nat_lt n m ≡ true → m ≡ n + 1
    same m n l h = grind arith

    above : (m n : ℕ) → nat_lt m n ≡ false → n ≤ m
    above m n h = grind arith

pub built_more : (g : Geometry) (shape : List Cell) (layers : List (List Iso)) (i : ℕ) (layer : List Iso) (sets sets' : List (List Cell)) (ends ends' : List ℕ) → i < length layers → layer ≡ get_or layers i layer → ends' ≡ ends ++ length sets' ∷ [] → IsBuilt g shape (take i layers) sets ends → AreAdded g shape layer sets sets' → IsBuilt g shape (take (i + 1) layers) sets' ends'
built_more g shape layers i layer sets sets' ends ends' less item pushed p q =
    let tiles' : List (List (List Cell)) = p.tiles ++ q.tiles ∷ [] in
    let old = p.are_patches in
    let all : sets' ≡ all_tiles shape tiles' = q.is ∙ ap (λ xs. xs ++ q.tiles) old.all ∙ flat_map_more (λ (l : List (List Cell)). l) (shape ∷ []) p.tiles q.tiles in
    record {
      tiles = tiles';
      are_given = subst (λ xs. AreTilesOf g shape xs tiles') (ap (λ z. take i layers ++ z ∷ []) item ∙ sym (take_more layers i layer less)) (zip_push (IsLayerOf g shape) (take i layers) p.tiles layer q.tiles p.are_given q.are_given);
      are_shapes = subst (All (IsShape g)) (sym q.is) (all_append (IsShape g) sets q.tiles p.are_shapes q.are_shapes);
      are_patches = record {
        all = all;
        levels = ap length pushed ∙ length-append ends (length sets' ∷ []) ∙ ap (λ n. n + 1) old.levels ∙ ap (λ n. n + 1) (sym (length-append p.tiles (q.tiles ∷ [])));
        sizes = λ k l. sizes p.tiles q.tiles old all k (let m = length-append p.tiles (q.tiles ∷ []) in omega (arith, l, m));
      };
    }
  where
    sizes : (tiles : List (List (List Cell))) (more : List (List Cell)) → ArePatches shape tiles sets ends → sets' ≡ all_tiles shape (tiles ++ more ∷ []) → (k : ℕ) → k ≤ length tiles + 1 → slice_index ends' k ≡ length (patch_at shape (tiles ++ more ∷ []) k)
    sizes tiles more old all k l = elim (last_or_before k (length tiles) l) [
      | inl m ↦
          ap (λ es. slice_index es k) pushed
          ∙ get_or_append_left ends (length sets' ∷ []) 0 k (let e = old.levels in omega (arith, e, m))
          ∙ old.sizes k m
          ∙ ap (λ ts. length (all_tiles shape ts)) (sym (take-append-le k tiles (more ∷ []) m))
      | inr e ↦
          let whole : length (tiles ++ more ∷ []) ≡ length tiles + 1 = length-append tiles (more ∷ []) in
          ap (λ es. slice_index es k) pushed
          ∙ ap (λ n. slice_index (ends ++ length sets' ∷ []) n) (e ∙ sym old.levels)
          ∙ get_or-append_seam ends (length sets') [] 0
          ∙ ap length all
          ∙ ap (λ ts. length (all_tiles shape ts)) (sym (ap (λ n. take n (tiles ++ more ∷ [])) (e ∙ sym whole) ∙ take-length (tiles ++ more ∷ [])))
    ]
