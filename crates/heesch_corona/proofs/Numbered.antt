-- The numbered tiles of layers, and the patches.
use Rattle.std.proofs.Common.{◌≡◌, refl, sym, ap, subst, ◌∙◌, ℕ, zero, suc, ◌+◌, ◌-◌, ◌<◌, ◌≤◌, List, [], ◌∷◌, ◌++◌, length, get_or, take, drop, All, inl, inr, arith, length-append, take-append-drop}
use Rattle.std.specs.Prelude.{nat_lt, flat_map, slice_index, true, false}
use Rattle.std.proofs.Math.Seq.{take-append_seam, take-length}
use Rattle.std.proofs.lemmas.Bool.{cases_Bool}
use Rattle.std.proofs.lemmas.List.Concat.{flat_map-cons}
use Rattle.std.proofs.lemmas.Grind.{flat_map-append}
use Rattle.heesch_grid.specs.declared.Cell.{Cell}
use Rattle.heesch_corona.specs.Tiles.{all_tiles, tile_at, patch_at}
use Rattle.heesch_corona.specs.Building.{ArePatches}
use Rattle.heesch_grid.specs.Cells.{set_of}

abbrev pub flat : List (List (List Cell)) → List (List Cell)
flat tiles = flat_map (λ layer. layer) tiles

at_least : (m n : ℕ) → nat_lt m n ≡ false → n ≤ m
at_least m n h = grind arith

is_less : (m n : ℕ) → nat_lt m n ≡ true → m < n
is_less m n h = grind arith

-- all tiles are those of a patch and further ones
pub all_split : (shape : List Cell) (tiles : List (List (List Cell))) (k : ℕ) → all_tiles shape tiles ≡ patch_at shape tiles k ++ flat (drop k tiles)
all_split shape tiles k = ap (λ ts. shape ∷ flat ts) (sym (take-append-drop k tiles)) ∙ ap (λ ts. shape ∷ ts) (flat_map-append (λ (layer : List (List Cell)). layer) (take k tiles) (drop k tiles))

pub patch_fits : (shape : List Cell) (tiles : List (List (List Cell))) (k : ℕ) → length (patch_at shape tiles k) ≤ length (all_tiles shape tiles)
patch_fits shape tiles k =
    let e = ap length (all_split shape tiles k) ∙ length-append (patch_at shape tiles k) (flat (drop k tiles)) in omega (arith, e)

pub patch_whole : (shape : List Cell) (tiles : List (List (List Cell))) → patch_at shape tiles (length tiles) ≡ all_tiles shape tiles
patch_whole shape tiles = ap (all_tiles shape) (take-length tiles)

flat_step : (tiles : List (List (List Cell))) (k : ℕ) → length (flat (take k tiles)) ≤ length (flat (take (suc k) tiles))
flat_step [] zero = omega arith
flat_step [] (suc k) = omega arith
flat_step (t ∷ ts) zero = omega arith
flat_step (t ∷ ts) (suc k) =
    let a = ap length (flat_map-cons (λ (layer : List (List Cell)). layer) t (take k ts)) ∙ length-append t (flat (take k ts)) in
    let b = ap length (flat_map-cons (λ (layer : List (List Cell)). layer) t (take (suc k) ts)) ∙ length-append t (flat (take (suc k) ts)) in
    let h = flat_step ts k in
    omega (arith, a, b, h)

pub patch_grows : (shape : List Cell) (tiles : List (List (List Cell))) (j k : ℕ) → j ≤ k → length (patch_at shape tiles j) ≤ length (patch_at shape tiles k)
patch_grows shape tiles j zero l = let e : j ≡ 0 = omega (arith, l) in subst (λ n. length (patch_at shape tiles j) ≤ length (patch_at shape tiles n)) e (omega arith)
patch_grows shape tiles j (suc k) l = elim (cases_Bool (nat_lt k j)) [
  | inl t ↦ let e : j ≡ suc k = let m = is_less k j t in omega (arith, m, l) in subst (λ n. length (patch_at shape tiles j) ≤ length (patch_at shape tiles n)) e (omega arith)
  | inr f ↦ let h = patch_grows shape tiles j k (at_least k j f) in let s = flat_step tiles k in omega (arith, h, s)
]

pub next_level : (shape : List Cell) (tiles : List (List (List Cell))) (k : ℕ) → patch_at shape tiles (suc k) ≡ patch_at shape tiles (k + 1)
next_level shape tiles k = ap (patch_at shape tiles) (one k)
  where
    one : (k : ℕ) → suc k ≡ k + 1
    one k = omega arith

-- ---- sets and ends that are patches

module _ (shape : List Cell) (tiles : List (List (List Cell))) (sets : List (List Cell)) (ends : List ℕ) (p : ArePatches shape tiles sets ends) where
  pub patch_is : (k : ℕ) → k ≤ length tiles → take (slice_index ends k) sets ≡ patch_at shape tiles k
  patch_is k l =
      ap (λ n. take n sets) (p.sizes k l) ∙ ap (take (length (patch_at shape tiles k))) (p.all ∙ all_split shape tiles k) ∙ take-append_seam (patch_at shape tiles k) (flat (drop k tiles))

  pub end_is : (k : ℕ) → k < length ends → slice_index ends k ≡ length (patch_at shape tiles k)
  end_is k l = p.sizes k (let e = p.levels in omega (arith, e, l))

  pub in_levels : (k : ℕ) → k < length ends → k ≤ length tiles
  in_levels k l = let e = p.levels in omega (arith, e, l)

  pub level_there : (k : ℕ) → k ≤ length tiles → k < length ends
  level_there k l = let e = p.levels in omega (arith, e, l)

  pub size_is : length sets ≡ length (all_tiles shape tiles)
  size_is = ap length p.all

  pub ends_fit : All (λ end. end ≤ length sets) ends
  ends_fit k d l =
      let e = end_is k l in
      let f = patch_fits shape tiles k in
      let s = size_is in
      subst (λ n. n ≤ length sets) (default ends k d l) (omega (arith, e, f, s))
    where
      default : (xs : List ℕ) (k d : ℕ) → k < length xs → get_or xs k 0 ≡ get_or xs k d
      default [] k d l = absurd (omega (arith, l))
      default (x ∷ xs) zero d l = refl
      default (x ∷ xs) (suc k) d l = default xs k d (omega (arith, l))

  pub set_is : (n : ℕ) → set_of sets n ≡ tile_at shape tiles (n - 1)
  set_is n = ap (λ xs. get_or xs (n - 1) []) p.all

  pub set_after : (i : ℕ) → set_of sets (suc i) ≡ tile_at shape tiles i
  set_after i = set_is (suc i) ∙ ap (tile_at shape tiles) (back i)
    where
      back : (i : ℕ) → suc i - 1 ≡ i
      back i = omega arith

  pub last_end : slice_index ends (length tiles) ≡ length sets
  last_end = p.sizes (length tiles) (omega arith) ∙ ap length (patch_whole shape tiles) ∙ sym size_is
