-- The first layers, and what layers that are spelled are.
use Rattle.std.proofs.Common.{◌≡◌, sym, subst, ◌∙◌, ℕ, zero, suc, ◌≤◌, Bool, true, false, List, [], ◌∷◌, ◌++◌, length, take, All, arith, true≢false}
use Rattle.std.specs.Prelude.{◌↔◌, IsTrue, None}
use Rattle.std.specs.List.{AllZip}
use Rattle.std.proofs.lemmas.Int.{ints}
use Rattle.std.proofs.lemmas.List.{take_all}
use Rattle.std.proofs.lemmas.List.Elements.{All-nil, All-cons, All-head, All-tail}
use Rattle.std.proofs.lemmas.Slice.Zip.{AllZip-long}
use Rattle.heesch_grid.specs.declared.Cell.{Cell}
use Rattle.heesch_grid.specs.declared.isometries.Iso.{Iso}
use Rattle.heesch_grid.specs.Corona.{AreCoronas, AreCoronasOf, StaysHoleFree}
use Rattle.heesch_grid.specs.Geometry.{Geometry, IsGrid}
use Rattle.heesch_grid.specs.Polyform.{IsCanonicalListOf}
use Rattle.heesch_grid.specs.Vectors.{IsWithin}
use Rattle.heesch_shape.specs.Walks.{IsShape}
use Rattle.heesch_shape.proofs.Near.{canonical_within}
use Rattle.heesch_cert.specs.declared.entry.Layers.{Layers}
use Rattle.heesch_corona.specs.Answer.{AreAsked}
use Rattle.heesch_corona.specs.Tiles.{AreTilesOf, IsLayerOf}
use Rattle.heesch_levels.specs.UpTo.{SpellsUpTo}
use Rattle.heesch_logs.specs.Near.{AreNearLayers}
use Rattle.heesch_logs.specs.Spelling.{IsNearShape, IsSpelledAfter}
use Rattle.heesch_logs.proofs.Equal.{granted, refused}
use Rattle.heesch_logs.proofs.Spelled.{all_spelled, spelled_all, tiles_of}

-- what holds of all holds of the first
pub first_all : {X : Type 0} (P : X → Type 0) (xs : List X) (n : ℕ) → All P xs → All P (take n xs)
first_all P xs zero all = All-nil P
first_all P [] (suc n) all = All-nil P
first_all P (x ∷ xs) (suc n) all = All-cons P x (take n xs) (All-head P x xs all) (first_all P xs n (All-tail P x xs all))

first_zip : {X Y : Type 0} (R : X → Y → Type 0) (xs : List X) (ys : List Y) (n : ℕ) → AllZip R xs ys → AllZip R (take n xs) (take n ys)
first_zip R xs ys zero h = tt
first_zip R [] [] (suc n) h = tt
first_zip R [] (y ∷ ys) (suc n) h = absurd h
first_zip R (x ∷ xs) [] (suc n) h = absurd h
first_zip R (x ∷ xs) (y ∷ ys) (suc n) h = (h.0, first_zip R xs ys n h.1)

first_coronas : (g : Geometry) (shape : List Cell) (patch : List (List Cell)) (layers : List (List (List Cell))) (n : ℕ) → AreCoronasOf g shape patch layers → AreCoronasOf g shape patch (take n layers)
first_coronas g shape patch layers zero h = tt
first_coronas g shape patch [] (suc n) h = tt
first_coronas g shape patch (layer ∷ layers) (suc n) h = (h.0, first_coronas g shape (patch ++ layer) layers n h.1)

module _ (g : Geometry) (shape : List Cell) (layers : List (List Iso)) (k : ℕ) where
  -- they are coronas, and the patches of the first levels are hole-free
  abbrev pub AreUpTo : List (List (List Cell)) → Type 0
  AreUpTo tiles = AreCoronas g shape tiles × StaysHoleFree g (shape ∷ []) (take k tiles)

  -- a test tells this of the tiles of the layers
  abbrev pub TellsUpTo : Bool → Type 0
  TellsUpTo told = (tiles : List (List (List Cell))) → AreTilesOf g shape layers tiles → IsTrue told ↔ (AreCoronas g shape tiles × StaysHoleFree g (shape ∷ []) (take k tiles))

  abbrev pub TellsAsked : Bool → List (List Iso) → Bool → Type 0
  TellsAsked hole_free of told = (tiles : List (List (List Cell))) → AreTilesOf g shape of tiles → IsTrue told ↔ AreAsked g shape hole_free tiles

  -- where all levels are to be hole-free
  pub by_all : (told : Bool) → length layers ≤ k → TellsAsked true layers told → TellsUpTo told
  by_all told few tells tiles are =
      let long : length tiles ≡ length layers = AllZip-long (IsLayerOf g shape) layers tiles are in
      let whole : take k tiles ≡ tiles = take_all k tiles (omega (arith, long, few)) in (
        (λ t. let both = (tells tiles are).0 t in (both.0, subst (StaysHoleFree g (shape ∷ [])) (sym whole) both.1)),
        (λ both. (tells tiles are).1 (both.0, subst (StaysHoleFree g (shape ∷ [])) whole both.1)),
      )

  -- where they aren't coronas
  pub by_neither : (told : Bool) → told ≡ false → TellsAsked false layers told → TellsUpTo false
  by_neither told fails tells tiles are = refused (λ both. true≢false (sym ((tells tiles are).1 both.0) ∙ fails))

  -- where none is to be hole-free
  pub by_none : (told : Bool) → told ≡ true → k ≡ 0 → TellsAsked false layers told → TellsUpTo true
  by_none told holds none tells tiles are = granted ((tells tiles are).0 holds, subst (λ n. StaysHoleFree g (shape ∷ []) (take n tiles)) (sym none) tt)

  -- where some are
  pub by_inner : (told : Bool) (inner : List (List Iso)) (within : Bool) → told ≡ true → inner ≡ take k layers → TellsAsked false layers told → TellsAsked true inner within → TellsUpTo within
  by_inner told inner within holds is whole tells tiles are =
      let first : AreTilesOf g shape inner (take k tiles) = subst (λ ls. AreTilesOf g shape ls (take k tiles)) (sym is) (first_zip (IsLayerOf g shape) layers tiles k are) in (
        (λ t. ((whole tiles are).0 holds, ((tells (take k tiles) first).0 t).1)),
        (λ both. (tells (take k tiles) first).1 (first_coronas g shape (shape ∷ []) tiles k both.0, both.1)),
      )

-- a shape that is its own canonical list lies near 0
pub near_shape : (g : Geometry) → IsGrid g → (shape : List Cell) → IsShape g shape → IsCanonicalListOf g shape shape → IsNearShape g shape
near_shape g law shape is canonical = record { is_shape = is; near = λ c h. wider c (canonical_within g law shape shape is.polyform canonical is.few c h) }
  where
    wider : (c : Cell) → IsWithin 200 c → IsWithin 100000 c
    wider c w = record { a_low = omega (arith, ints, w.a_low); a_high = omega (arith, ints, w.a_high); b_low = omega (arith, ints, w.b_low); b_high = omega (arith, ints, w.b_high) }

-- what is told of layers that are near and are spelled
module _ (g : Geometry) (shape : List Cell) (level k : ℕ) (layers : Layers) where
  abbrev pub AreRight : Type 0
  AreRight = AreNearLayers layers.layers × SpellsUpTo g shape level k layers

  pub unspelled : (¬ All (IsSpelledAfter g shape None) layers.layers) → IsTrue false ↔ (AreNearLayers layers.layers × SpellsUpTo g shape level k layers)
  unspelled fails = refused (λ r. fails (spelled_all g shape layers.layers r.1.tiles r.1.spelled))

  pub spelled_up_to : (told : Bool) → length layers.layers ≡ level → AreNearLayers layers.layers → All (IsSpelledAfter g shape None) layers.layers → TellsUpTo g shape layers.layers k told → IsTrue told ↔ (AreNearLayers layers.layers × SpellsUpTo g shape level k layers)
  spelled_up_to told count near spelled tells =
      let found = all_spelled g shape layers.layers spelled in (
        (λ t.
            let both = (tells found.0 (tiles_of g shape layers.layers found.0 found.1)).0 t in
            (near, record { count = count; tiles = found.0; spelled = found.1; coronas = both.0; free = both.1 })),
        (λ r. (tells r.1.tiles (tiles_of g shape layers.layers r.1.tiles r.1.spelled)).1 (r.1.coronas, r.1.free)),
      )
