-- The rules hold exactly where the layers are coronas.
use Rattle.std.proofs.Common.{◌≡◌, refl, sym, ap, subst, ◌∙◌, ℕ, zero, suc, ◌+◌, ◌-◌, ◌<◌, ◌≤◌, not-suc-le-zero, le_of_suc-le-suc, append-nil, append_assoc, true, false, List, [], ◌∷◌, ◌++◌, length, length-append, get_or, take, drop, All, Any, inl, inr, arith, true≢false, Contains}
use Rattle.std.specs.Prelude.{nat_lt, IsFalse}
use Rattle.std.specs.List.{list_any}
use Rattle.std.proofs.Math.ListN.{get_or-append}
use Rattle.std.proofs.lemmas.Bool.{cases_Bool}
use Rattle.std.proofs.lemmas.List.{get_or_default, get_or-append_right}
use Rattle.std.proofs.lemmas.List.Concat.{flat_map-cons}
use Rattle.std.proofs.lemmas.List.Elements.{All-contains, Contains-get_or, Contains-append_right, Contains-append_cases}
use Rattle.heesch_grid.specs.declared.Cell.{Cell}
use Rattle.heesch_grid.specs.Cells.{has, meet}
use Rattle.heesch_grid.specs.Geometry.{Geometry, IsAround, IsGrid}
use Rattle.heesch_grid.specs.Placement.{IsPlacement, Apart, touch, Touch}
use Rattle.heesch_grid.specs.Corona.{cells_of, IsCorona, AreCoronasOf, AreCoronas, StaysHoleFree}
use Rattle.heesch_grid.specs.Hole.{IsHoleFree}
use Rattle.heesch_grid.specs.Pairs.{has-true}
use Rattle.heesch_grid.proofs.ListFacts.{All-from_members, any_member, member_any, member_here, member_there}
use Rattle.heesch_grid.proofs.CellFacts.{has-is}
use Rattle.heesch_grid.proofs.TileFacts.{Apart-symmetric, member_cells, cells_member}
use Rattle.heesch_grid.proofs.LayerFacts.{layer_of, patch_before, patch-step, corona_at, any_of, any_from}
use Rattle.heesch_corona.specs.Tiles.{all_tiles, tile_at, patch_at}
use Rattle.heesch_corona.specs.Rules.{NoneMeet, NoneLoose, NoneUncovered, NoneHoled, AreRuled}
use Rattle.heesch_corona.specs.Statements.{RulesMakeCoronas, RulesMakeHoleFreeCoronas}
use Rattle.heesch_corona.proofs.Numbered.{flat, all_split, patch_fits, patch_whole, next_level}
use Rattle.heesch_corona.proofs.Bridge.{place_of}

at_least : (m n : ℕ) → nat_lt m n ≡ false → n ≤ m
at_least m n h = grind arith

is_less : (m n : ℕ) → nat_lt m n ≡ true → m < n
is_less m n h = grind arith

back : (i : ℕ) → i + 1 - 1 ≡ i
back i = omega arith

-- ---- the patch before a layer, by its number

before_is : (patch : List (List Cell)) (layers : List (List (List Cell))) (i : ℕ) → patch_before patch layers i ≡ patch ++ flat (take i layers)
before_is patch [] zero = sym (append-nil patch)
before_is patch (l ∷ ls) zero = sym (append-nil patch)
before_is patch [] (suc i) = sym (append-nil patch)
before_is patch (l ∷ ls) (suc i) = before_is (patch ++ l) ls i ∙ append_assoc patch l (flat (take i ls)) ∙ ap (λ xs. patch ++ xs) (sym (flat_map-cons (λ (layer : List (List Cell)). layer) l (take i ls)))

layer_in : (layers : List (List (List Cell))) (i : ℕ) → i < length layers → Contains layers (layer_of layers i)
layer_in [] i l = absurd (not-suc-le-zero l)
layer_in (x ∷ xs) zero l = member_here x xs
layer_in (x ∷ xs) (suc i) l = member_there x xs (layer_of xs i) (layer_in xs i (le_of_suc-le-suc l))

module _ (g : Geometry) (shape : List Cell) where
  coronas_from : (layers : List (List (List Cell))) (patch : List (List Cell)) → ((i : ℕ) → i < length layers → IsCorona g shape (patch_before patch layers i) (layer_of layers i)) → AreCoronasOf g shape patch layers
  coronas_from [] patch h = tt
  coronas_from (l ∷ ls) patch h = (h 0 (omega arith), coronas_from ls (patch ++ l) (λ i less. h (suc i) (omega (arith, less))))

  stays_at : (layers : List (List (List Cell))) (patch : List (List Cell)) → StaysHoleFree g patch layers → (i : ℕ) → i < length layers → IsHoleFree g (cells_of (patch_before patch layers (suc i)))
  stays_at [] patch h i l = absurd (not-suc-le-zero l)
  stays_at (x ∷ xs) patch h zero l = h.0
  stays_at (x ∷ xs) patch h (suc i) l = stays_at xs (patch ++ x) h.1 i (le_of_suc-le-suc l)

  stays_from : (layers : List (List (List Cell))) (patch : List (List Cell)) → ((i : ℕ) → i < length layers → IsHoleFree g (cells_of (patch_before patch layers (suc i)))) → StaysHoleFree g patch layers
  stays_from [] patch h = tt
  stays_from (l ∷ ls) patch h = (h 0 (omega arith), stays_from ls (patch ++ l) (λ i less. h (suc i) (omega (arith, less))))

module _ (g : Geometry) (law : IsGrid g) (shape : List Cell) (tiles : List (List (List Cell))) where
  patch : ℕ → List (List Cell)
  patch i = patch_at shape tiles i

  before_patch : (i : ℕ) → patch_before (shape ∷ []) tiles i ≡ patch_at shape tiles i
  before_patch i = before_is (shape ∷ []) tiles i

  step : (i : ℕ) → patch_at shape tiles (i + 1) ≡ patch_at shape tiles i ++ layer_of tiles i
  step i = sym (next_level shape tiles i) ∙ sym (before_patch (suc i)) ∙ patch-step (shape ∷ []) tiles i ∙ ap (λ xs. xs ++ layer_of tiles i) (before_patch i)

  step_length : (i : ℕ) → length (patch_at shape tiles (i + 1)) ≡ length (patch_at shape tiles i) + length (layer_of tiles i)
  step_length i = ap length (step i) ∙ length-append (patch_at shape tiles i) (layer_of tiles i)

  -- the tile of a number in a patch, and in the layer behind it
  in_patch_at : (i q : ℕ) → q < length (patch_at shape tiles i) → tile_at shape tiles q ≡ get_or (patch_at shape tiles i) q []
  in_patch_at i q l = ap (λ xs. get_or xs q []) (all_split shape tiles i) ∙ get_or-append (patch_at shape tiles i) (flat (drop i tiles)) [] q l

  in_layer_at : (i r : ℕ) → r < length (layer_of tiles i) → tile_at shape tiles (length (patch_at shape tiles i) + r) ≡ get_or (layer_of tiles i) r []
  in_layer_at i r l =
      let n : ℕ = length (patch_at shape tiles i) in
      in_patch_at (i + 1) (n + r) (let e = step_length i in omega (arith, e, l))
      ∙ ap (λ xs. get_or xs (n + r) []) (step i)
      ∙ get_or-append_right (patch_at shape tiles i) (layer_of tiles i) n (n + r) [] refl (omega arith)
      ∙ ap (λ k. get_or (layer_of tiles i) k []) (minus n r)
    where
      minus : (n r : ℕ) → n + r - n ≡ r
      minus n r = omega arith

  fits_all : (i : ℕ) → length (patch_at shape tiles (i + 1)) ≤ length (all_tiles shape tiles)
  fits_all i = patch_fits shape tiles (i + 1)

  -- the layer of a number
  record Located (q : ℕ) : Type 0 where
    level : ℕ
    is_level : level < length tiles
    place : ℕ
    there : place < length (layer_of tiles level)
    is : q ≡ length (patch_at shape tiles level) + place

  locate : (k q : ℕ) → k ≤ length tiles → 1 ≤ q → q < length (patch_at shape tiles k) → Located q
  locate zero q l from to = absurd (omega (arith, from, to))
  locate (suc k) q l from to = elim (cases_Bool (nat_lt q (length (patch_at shape tiles k)))) [
    | inl t ↦ locate k q (omega (arith, l)) from (is_less q (length (patch_at shape tiles k)) t)
    | inr f ↦
        let low = at_least q (length (patch_at shape tiles k)) f in
        let e = ap length (next_level shape tiles k) ∙ step_length k in
        record { level = k; is_level = omega (arith, l); place = q - length (patch_at shape tiles k); there = omega (arith, to, e, low); is = omega (arith, low) }
  ]

  -- ---- from the rules to coronas

  module _ (placed : All (All (IsPlacement g shape)) tiles) (rules : AreRuled g shape tiles) where
    corona : (i : ℕ) → i < length tiles → IsCorona g shape (patch_at shape tiles i) (layer_of tiles i)
    corona i less =
        let n : ℕ = length (patch_at shape tiles i) in
        let layer = layer_of tiles i in
        record {
          placements = All-contains (All (IsPlacement g shape)) tiles (layer_of tiles i) placed (layer_in tiles i less);
          apart = λ a b d l m.
              let e = in_layer_at i a (omega (arith, l, m)) ∙ get_or_default layer a [] d (omega (arith, l, m)) in
              let f = in_layer_at i b m ∙ get_or_default layer b [] d m in
              apart_by (n + a) (n + b) (get_or layer a d) (get_or layer b d) (omega (arith, l)) (let k = step_length i in let h = fits_all i in omega (arith, k, h, m)) e f;
          apart_from_patch = All-from_members (λ tile. All (Apart tile) (patch_at shape tiles i)) layer (λ tile m. All-from_members (Apart tile) (patch_at shape tiles i) (λ other k.
              let r = place_of layer [] tile m in
              let q = place_of (patch_at shape tiles i) [] other k in
              Apart-symmetric other tile (apart_by q.0 (n + r.0) other tile (let l = q.1 in omega (arith, l)) (let l = r.1 in let k = step_length i in let h = fits_all i in omega (arith, k, h, l)) (in_patch_at i q.0 q.1 ∙ q.2) (in_layer_at i r.0 r.1 ∙ r.2))));
          touching = All-from_members (λ tile. Any (Touch g tile) (patch_at shape tiles i)) layer (λ tile m. touches tile m);
          covering = λ c around. covers c around;
        }
      where
        apart_by : (p q : ℕ) (s t : List Cell) → p < q → q < length (all_tiles shape tiles) → tile_at shape tiles p ≡ s → tile_at shape tiles q ≡ t → Apart s t
        apart_by p q s t l m e f = elim (cases_Bool (meet s t)) [
          | inr no_meet ↦ no_meet
          | inl h ↦ absurd (rules.none_meet (p, q) (record { order = l; to = m; meets = ap (λ x. meet x (tile_at shape tiles q)) e ∙ ap (meet s) f ∙ h }))
        ]

        touches : (tile : List Cell) → Contains (layer_of tiles i) tile → Any (Touch g tile) (patch_at shape tiles i)
        touches tile m = elim (cases_Bool (list_any (touch g tile) (patch_at shape tiles i))) [
          | inl t ↦ let r = any_member (touch g tile) (patch_at shape tiles i) t in any_from (Touch g tile) (patch_at shape tiles i) r.0 r.1 r.2
          | inr f ↦
              let r = place_of (layer_of tiles i) [] tile m in
              let l = r.1 in
              let k = step_length i in
              let is : tile_at shape tiles (length (patch_at shape tiles i) + r.0) ≡ tile = in_layer_at i r.0 r.1 ∙ r.2 in
              absurd (rules.none_loose (length (patch_at shape tiles i) + r.0)
              (record {
                level = i;
                is_level = less;
                from = omega arith;
                to = omega (arith, k, l);
                loose = All-from_members (λ other. IsFalse (touch g (tile_at shape tiles (length (patch_at shape tiles i) + r.0)) other)) (patch_at shape tiles i) (λ other n. ap (λ s. touch g s other) is ∙ none tile f other n);
              }))
        ]
          where
            none : (tile : List Cell) → list_any (touch g tile) (patch_at shape tiles i) ≡ false → (other : List Cell) → Contains (patch_at shape tiles i) other → touch g tile other ≡ false
            none tile f other n = elim (cases_Bool (touch g tile other)) [
              | inr e ↦ e
              | inl t ↦ absurd (true≢false (sym (member_any (touch g tile) (patch_at shape tiles i) other n t) ∙ f))
            ]

        covers : (c : Cell) → IsAround g (cells_of (patch_at shape tiles i)) c → Contains (cells_of (layer_of tiles i)) c
        covers c around = elim (cases_Bool (has (cells_of (layer_of tiles i)) c)) [
          | inl t ↦ has-true (cells_of (layer_of tiles i)) c t
          | inr f ↦ absurd (rules.none_uncovered (i + 1, c)
              (record {
                from = omega arith;
                to = omega (arith, less);
                around = subst (λ k. IsAround g (cells_of (patch_at shape tiles k)) c) (sym (back i)) around;
                uncovered = λ m.
                    let r = cells_member (patch_at shape tiles (i + 1)) c m in
                    elim (Contains-append_cases (patch_at shape tiles i) (layer_of tiles i) r.0 (subst (λ ts. Contains ts r.0) (step i) r.1)) [
                      | inl k ↦ around.outside (member_cells (patch_at shape tiles i) r.0 c k r.2)
                      | inr k ↦ true≢false (sym (has-is (cells_of (layer_of tiles i)) c (member_cells (layer_of tiles i) r.0 c k r.2)) ∙ f)
                    ];
              }))
        ]

    pub ruled_coronas : AreCoronas g shape tiles
    ruled_coronas = coronas_from g shape tiles (shape ∷ []) (λ i l. subst (λ ts. IsCorona g shape ts (layer_of tiles i)) (sym (before_patch i)) (corona i l))

  -- ---- and back

  module _ (coronas : AreCoronas g shape tiles) where
    at : (i : ℕ) → i < length tiles → IsCorona g shape (patch_at shape tiles i) (layer_of tiles i)
    at i l = subst (λ ts. IsCorona g shape ts (layer_of tiles i)) (before_patch i) (corona_at g shape tiles (shape ∷ []) coronas i l)

    met_none : NoneMeet shape tiles
    met_none pair d =
        let order = d.order in
        let to = d.to in
        let whole = ap length (patch_whole shape tiles) in
        let q = locate (length tiles) pair.1 (omega arith) (omega (arith, order)) (omega (arith, to, whole)) in
        let n : ℕ = length (patch_at shape tiles q.level) in
        let layer = layer_of tiles q.level in
        let is = q.is in
        let there = q.there in
        let c = at q.level q.is_level in
        let second : tile_at shape tiles pair.1 ≡ get_or layer q.place [] = ap (tile_at shape tiles) q.is ∙ in_layer_at q.level q.place q.there in
        let second_in : Contains layer (get_or layer q.place []) = Contains-get_or layer q.place [] q.there in
        elim (cases_Bool (nat_lt pair.0 n)) [
          | inl t ↦
              let l = is_less pair.0 n t in
              let first : tile_at shape tiles pair.0 ≡ get_or (patch_at shape tiles q.level) pair.0 [] = in_patch_at q.level pair.0 l in
              let apart : Apart (get_or layer q.place []) (get_or (patch_at shape tiles q.level) pair.0 []) = All-contains (Apart (get_or layer q.place [])) (patch_at shape tiles q.level) (get_or (patch_at shape tiles q.level) pair.0 []) (All-contains (λ t. All (Apart t) (patch_at shape tiles q.level)) layer (get_or layer q.place []) c.apart_from_patch second_in) (Contains-get_or (patch_at shape tiles q.level) pair.0 [] l) in
              clash (tile_at shape tiles pair.0) (tile_at shape tiles pair.1) (get_or (patch_at shape tiles q.level) pair.0 []) (get_or layer q.place []) d.meets first second (Apart-symmetric (get_or layer q.place []) (get_or (patch_at shape tiles q.level) pair.0 []) apart)
          | inr f ↦
              let low = at_least pair.0 n f in
              let r : ℕ = pair.0 - n in
              let less : r < q.place = omega (arith, low, is, order) in
              let first : tile_at shape tiles pair.0 ≡ get_or layer r [] = ap (tile_at shape tiles) (split pair.0 n low) ∙ in_layer_at q.level r (omega (arith, less, there)) in
              clash (tile_at shape tiles pair.0) (tile_at shape tiles pair.1) (get_or layer r []) (get_or layer q.place []) d.meets first second (c.apart r q.place [] less q.there)
        ]
      where
        split : (p n : ℕ) → n ≤ p → p ≡ n + (p - n)
        split p n l = omega (arith, l)

        clash : (s t x y : List Cell) → meet s t ≡ true → s ≡ x → t ≡ y → Apart x y → ⊥
        clash s t x y m e f a = true≢false (sym m ∙ ap (λ z. meet z t) e ∙ ap (meet x) f ∙ a)

    loose_none : NoneLoose g shape tiles
    loose_none i l =
        let n : ℕ = length (patch_at shape tiles l.level) in
        let layer = layer_of tiles l.level in
        let from = l.from in
        let to = l.to in
        let e = step_length l.level in
        let r : ℕ = i - n in
        let less : r < length layer = omega (arith, from, to, e) in
        let is : tile_at shape tiles i ≡ get_or layer r [] = ap (tile_at shape tiles) (split i n from) ∙ in_layer_at l.level r less in
        let c = at l.level l.is_level in
        let some = any_of (Touch g (get_or layer r [])) (patch_at shape tiles l.level) (All-contains (λ t. Any (Touch g t) (patch_at shape tiles l.level)) layer (get_or layer r []) c.touching (Contains-get_or layer r [] less)) in
        true≢false (sym some.2 ∙ ap (λ s. touch g s some.0) (sym is) ∙ All-contains (λ other. IsFalse (touch g (tile_at shape tiles i) other)) (patch_at shape tiles l.level) some.0 l.loose some.1)
      where
        split : (p n : ℕ) → n ≤ p → p ≡ n + (p - n)
        split p n l = omega (arith, l)

    uncovered_none : NoneUncovered g shape tiles
    uncovered_none x u =
        let from = u.from in
        let to = u.to in
        let k : ℕ = x.0 - 1 in
        let less : k < length tiles = omega (arith, from, to) in
        let next : k + 1 ≡ x.0 = omega (arith, from) in
        let r = cells_member (layer_of tiles k) x.1 ((at k less).covering x.1 u.around) in
        u.uncovered (subst (λ j. Contains (cells_of (patch_at shape tiles j)) x.1) next (member_cells (patch_at shape tiles (k + 1)) r.0 x.1 (subst (λ ts. Contains ts r.0) (sym (step k)) (Contains-append_right (patch_at shape tiles k) (layer_of tiles k) r.0 r.1)) r.2))

    pub coronas_ruled : AreRuled g shape tiles
    coronas_ruled = record { none_meet = met_none; none_loose = loose_none; none_uncovered = uncovered_none }

  -- ---- holes

  pub holed_stays : NoneHoled g shape tiles → StaysHoleFree g (shape ∷ []) tiles
  holed_stays h = stays_from g shape tiles (shape ∷ []) (λ i l. subst (λ ts. IsHoleFree g (cells_of ts)) (sym (before_patch (suc i))) (h (suc i) (omega arith) (omega (arith, l))))

  pub stays_holed : StaysHoleFree g (shape ∷ []) tiles → NoneHoled g shape tiles
  stays_holed h zero from to = absurd (omega (arith, from))
  stays_holed h (suc i) from to = subst (λ ts. IsHoleFree g (cells_of ts)) (before_patch (suc i)) (stays_at g shape tiles (shape ∷ []) h i (omega (arith, to)))

pub rules_make_coronas : RulesMakeCoronas
rules_make_coronas g shape tiles law placed = (ruled_coronas g law shape tiles placed, coronas_ruled g law shape tiles)

pub rules_make_hole_free : RulesMakeHoleFreeCoronas
rules_make_hole_free g shape tiles law placed = (
  λ h. (ruled_coronas g law shape tiles placed h.0, holed_stays g law shape tiles h.1),
  λ h. (coronas_ruled g law shape tiles h.0, stays_holed g law shape tiles h.1),
)
