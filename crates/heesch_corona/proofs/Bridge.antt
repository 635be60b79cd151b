-- What the searches find is what the rules ask for.
use Rattle.std.proofs.Common.{◌≡◌, refl, sym, ap, subst, ◌∙◌, ℕ, zero, suc, ◌+◌, ◌-◌, ◌<◌, ◌≤◌, Bool, true, false, not, List, [], ◌∷◌, length, get_or, take, All, inl, inr, arith, true≢false, Contains}
use Rattle.std.specs.Prelude.{nat_lt, slice_index, IsFalse}
use Rattle.std.specs.List.{list_any}
use Rattle.std.proofs.lemmas.Bool.{cases_Bool, and_parts, and_from}
use Rattle.std.proofs.lemmas.List.Elements.{All-contains}
use Rattle.heesch_grid.specs.declared.Cell.{Cell}
use Rattle.heesch_grid.specs.Listing.{IsFirst}
use Rattle.heesch_grid.specs.Cells.{has, meet, set_of}
use Rattle.heesch_grid.specs.Geometry.{Geometry, IsCell, Touching, IsGrid}
use Rattle.heesch_grid.specs.Placement.{Apart, touch}
use Rattle.heesch_grid.specs.Corona.{cells_of}
use Rattle.heesch_grid.specs.Hole.{IsHoleFree, IsGreatestHole}
use Rattle.heesch_grid.specs.Pairs.{has-true}
use Rattle.heesch_grid.proofs.CellFacts.{has-is}
use Rattle.heesch_grid.proofs.ListFacts.{All-from_members, any_member, member_any}
use Rattle.heesch_grid.proofs.GridFacts.{touching_exact}
use Rattle.heesch_grid.proofs.TileFacts.{Apart-symmetric, member_cells, cells_member, Contact, contact, touch_by}
use Rattle.heesch_shape.specs.Walks.{IsShape}
use Rattle.heesch_corona.specs.Tiles.{all_tiles, tile_at, patch_at}
use Rattle.heesch_corona.specs.Building.{ArePatches}
use Rattle.heesch_corona.specs.Searches.{IsFirstMeeting, HaveNoMeeting, does_reach, DoReach, IsFirstLoose, is_gap, HasNoGap, IsFirstGap, IsWhole, IsFirstHole}
use Rattle.heesch_corona.specs.Rules.{DoMeet, PairBefore, IsLoose, IsUncovered, GapBefore, NoneMeet, NoneLoose, NoneUncovered, NoneHoled}
use Rattle.heesch_corona.specs.Answer.{IsFirstHoled}
use Rattle.heesch_corona.proofs.Members.{covered_by, covered_from}
use Rattle.heesch_corona.proofs.Numbered.{patch_is, in_levels, level_there, size_is, set_is, set_after, patch_fits, patch_grows}

at_least : (m n : ℕ) → nat_lt m n ≡ false → n ≤ m
at_least m n h = grind arith

is_less : (m n : ℕ) → nat_lt m n ≡ true → m < n
is_less m n h = grind arith

-- the place of a member
pub place_of : {X : Type 0} (xs : List X) (d x : X) → Contains xs x → (k : ℕ) × (k < length xs) × (get_or xs k d ≡ x)
place_of xs d x (k, l, e) = (k, l, default xs k d x l ∙ e)
  where
    default : {X : Type 0} (xs : List X) (k : ℕ) (d e : X) → k < length xs → get_or xs k d ≡ get_or xs k e
    default [] k d e l = absurd (omega (arith, l))
    default (x ∷ xs) zero d e l = refl
    default (x ∷ xs) (suc k) d e l = default xs k d e (omega (arith, l))

get_take : {X : Type 0} (xs : List X) (n k : ℕ) (d : X) → k < n → get_or (take n xs) k d ≡ get_or xs k d
get_take [] zero k d l = refl
get_take [] (suc n) k d l = refl
get_take (x ∷ xs) zero k d l = absurd (omega (arith, l))
get_take (x ∷ xs) (suc n) zero d l = refl
get_take (x ∷ xs) (suc n) (suc k) d l = get_take xs n k d (omega (arith, l))

length_take : {X : Type 0} (xs : List X) (n : ℕ) → length (take n xs) ≤ n
length_take [] zero = omega arith
length_take [] (suc n) = omega arith
length_take (x ∷ xs) zero = omega arith
length_take (x ∷ xs) (suc n) = let h = length_take xs n in omega (arith, h)

length_take_all : {X : Type 0} (xs : List X) (n : ℕ) → length (take n xs) ≤ length xs
length_take_all [] zero = omega arith
length_take_all [] (suc n) = omega arith
length_take_all (x ∷ xs) zero = omega arith
length_take_all (x ∷ xs) (suc n) = let h = length_take_all xs n in omega (arith, h)

-- ---- reaching and touching

module _ (g : Geometry) (law : IsGrid g) (sets : List (List Cell)) (cells : List Cell) (in_grid : (c : Cell) → Contains cells c → IsCell g c) (most : ℕ) where
  abbrev inside : List Cell
  inside = cells_of (take most sets)

  pub reach_by : (t : List Cell) → Contains (take most sets) t → (c d : Cell) → Contains cells c → Contains t d → Touching g c d → does_reach g sets cells most ≡ true
  reach_by t t_in c d c_in d_in touching =
      let listed : has (g.touching c) d ≡ true = (touching_exact g law c d (in_grid c c_in)).1 touching in
      member_any (λ c. list_any (has inside) (g.touching c)) cells c c_in (member_any (has inside) (g.touching c) d (has-true (g.touching c) d listed) (has-is inside d (member_cells (take most sets) t d t_in d_in)))

  -- what reaches no set touches none
  pub no_touch : does_reach g sets cells most ≡ false → (t : List Cell) → Contains (take most sets) t → touch g cells t ≡ false
  no_touch h t m = elim (cases_Bool (touch g cells t)) [
    | inr f ↦ f
    | inl touches ↦
        let k : Contact g cells t = contact g cells t touches in
        absurd (true≢false (sym (reach_by t m k.first k.second k.in_first k.in_second k.touching) ∙ h))
  ]

  pub record Reached : Type 0 where
    pub from : Cell
    pub to : Cell
    pub from_in : Contains cells from
    pub touching : Touching g from to
    pub to_in : has inside to ≡ true

  pub reached : does_reach g sets cells most ≡ true → Reached
  reached h =
      let c = any_member (λ c. list_any (has inside) (g.touching c)) cells h in
      let d = any_member (has inside) (g.touching c.0) c.2 in
      record { from = c.0; to = d.0; from_in = c.1; touching = (touching_exact g law c.0 d.0 (in_grid c.0 c.1)).0 (has-is (g.touching c.0) d.0 d.1); to_in = d.2 }

  -- and where it is apart from them, what touches none reaches none
  pub no_reach : ((t : List Cell) → Contains (take most sets) t → (touch g cells t ≡ false) × Apart cells t) → does_reach g sets cells most ≡ false
  no_reach h = elim (cases_Bool (does_reach g sets cells most)) [
    | inr f ↦ f
    | inl t ↦
        let r = reached t in
        let s = cells_member (take most sets) r.to (has-true inside r.to r.to_in) in
        let both = h s.0 s.1 in
        let touches : touch g cells s.0 ≡ true = touch_by g cells s.0 (record { apart = both.1; first = r.from; second = r.to; in_first = r.from_in; in_second = s.2; touching = r.touching }) in
        absurd (true≢false (sym touches ∙ both.0))
  ]

module _ (g : Geometry) (law : IsGrid g) (shape : List Cell) (tiles : List (List (List Cell))) (sets : List (List Cell)) (ends : List ℕ) (p : ArePatches shape tiles sets ends) (shapes : All (IsShape g) sets) where
  -- ---- tiles that meet

  meet_is : (m n : ℕ) → meet (set_of sets m) (set_of sets n) ≡ meet (tile_at shape tiles (m - 1)) (tile_at shape tiles (n - 1))
  meet_is m n = ap (λ xs. meet (get_or xs (m - 1) []) (get_or xs (n - 1) [])) p.all

  meet_after : (i j : ℕ) → meet (set_of sets (suc i)) (set_of sets (suc j)) ≡ meet (tile_at shape tiles i) (tile_at shape tiles j)
  meet_after i j = ap (λ t. meet t (set_of sets (suc j))) (set_after shape tiles sets ends p i) ∙ ap (meet (tile_at shape tiles i)) (set_after shape tiles sets ends p j)

  pub none_meet : HaveNoMeeting sets → NoneMeet shape tiles
  none_meet h pair d =
      let to = d.to in
      let order = d.order in
      let size = size_is shape tiles sets ends p in
      let f = h (suc pair.0) (suc pair.1) (omega arith) (omega (arith, order)) (omega (arith, to, size)) in
      true≢false (sym d.meets ∙ sym (meet_after pair.0 pair.1) ∙ f)

  pub first_meet : (m n : ℕ) → IsFirstMeeting sets (m, n) → IsFirst PairBefore (DoMeet shape tiles) (m - 1, n - 1)
  first_meet m n h =
      let from = h.from in
      let order = h.order in
      let to = h.to in
      let size = size_is shape tiles sets ends p in
      record {
        holds = record { order = omega (arith, from, order); to = omega (arith, from, order, to, size); meets = sym (meet_is m n) ∙ h.meets };
        first = λ y d b.
            let y_to = d.to in
            let y_order = d.order in
            let clash : meet (set_of sets (suc y.0)) (set_of sets (suc y.1)) ≡ false → ⊥ = λ f. true≢false (sym d.meets ∙ sym (meet_after y.0 y.1) ∙ f) in
            elim b [
              | inl l ↦ clash (h.before (suc y.0) (suc y.1) (omega arith) (omega (arith, l)) (omega (arith, y_order)) (omega (arith, y_to, size)))
              | inr e ↦
                  let q = e.0 in
                  let r = e.1 in
                  let at : suc y.0 ≡ m = omega (arith, q, from) in
                  clash (ap (λ k. meet (set_of sets k) (set_of sets (suc y.1))) at ∙ h.between (suc y.1) (omega (arith, at, y_order)) (omega (arith, r)))
            ];
      }

  -- ---- loose tiles

  set_shape : (n : ℕ) → 1 ≤ n → n ≤ length sets → IsShape g (set_of sets n)
  set_shape n low high = shapes (n - 1) [] (omega (arith, low, high))

  set_cells : (n : ℕ) → 1 ≤ n → n ≤ length sets → (c : Cell) → Contains (set_of sets n) c → IsCell g c
  set_cells n low high c m = All-contains (IsCell g) (set_of sets n) c (set_shape n low high).polyform.is_set.in_grid m

  -- a tile of a patch has a lesser number than those after it, so it is apart from them where no two tiles meet
  apart_from : NoneMeet shape tiles → (i most : ℕ) → most ≤ i → i < length (all_tiles shape tiles) → (t : List Cell) → Contains (take most sets) t → Apart (set_of sets (suc i)) t
  apart_from none i most l less t m =
      let k = place_of (take most sets) [] t m in
      let below : k.0 < most = let a = k.1 in let b = length_take sets most in omega (arith, a, b) in
      let is : tile_at shape tiles k.0 ≡ t = ap (λ xs. get_or xs k.0 []) (sym p.all) ∙ sym (get_take sets most k.0 [] below) ∙ k.2 in
      Apart-symmetric t (set_of sets (suc i)) (elim (cases_Bool (meet t (set_of sets (suc i)))) [
        | inr f ↦ f
        | inl h ↦ absurd (none (k.0, i) (record { order = omega (arith, below, l); to = less; meets = ap (λ s. meet s (tile_at shape tiles i)) is ∙ ap (meet t) (sym (set_after shape tiles sets ends p i)) ∙ h }))
      ])

  -- a loose tile of a level doesn't reach the patch before the level
  loose_no_reach : NoneMeet shape tiles → (i level : ℕ) → level < length tiles → length (patch_at shape tiles level) ≤ i → i < length (all_tiles shape tiles) → All (λ other. IsFalse (touch g (tile_at shape tiles i) other)) (patch_at shape tiles level) → does_reach g sets (set_of sets (suc i)) (slice_index ends level) ≡ false
  loose_no_reach none i level is_level from less loose =
      let size = size_is shape tiles sets ends p in
      let end = p.sizes level (omega (arith, is_level)) in
      no_reach g law sets (set_of sets (suc i)) (set_cells (suc i) (omega arith) (omega (arith, less, size))) (slice_index ends level)
      (λ t m. (
        ap (λ s. touch g s t) (set_after shape tiles sets ends p i) ∙ All-contains (λ other. IsFalse (touch g (tile_at shape tiles i) other)) (patch_at shape tiles level) t loose (subst (λ ts. Contains ts t) (patch_is shape tiles sets ends p level (omega (arith, is_level))) m),
        apart_from none i (slice_index ends level) (omega (arith, end, from)) less t m,
      ))

  -- so not all sets of its level reach those before it
  loose_refutes : NoneMeet shape tiles → (i : ℕ) (l : IsLoose g shape tiles i) → DoReach g sets ends (l.level + 1) → ⊥
  loose_refutes none i l reach =
      let is_level = l.is_level in
      let from = l.from in
      let to = l.to in
      let fits = patch_fits shape tiles (l.level + 1) in
      let no = loose_no_reach none i l.level is_level from (omega (arith, to, fits)) l.loose in
      let low = p.sizes l.level (omega (arith, is_level)) in
      let high = p.sizes (l.level + 1) (omega (arith, is_level)) in
      let back : l.level + 1 - 1 ≡ l.level = omega arith in
      let yes = reach (suc i) (let e = ap (slice_index ends) back in omega (arith, e, low, from)) (omega (arith, high, to)) in
      true≢false (sym yes ∙ ap (λ k. does_reach g sets (set_of sets (suc i)) (slice_index ends k)) back ∙ no)

  pub none_loose : NoneMeet shape tiles → ((level : ℕ) → 1 ≤ level → level < length ends → DoReach g sets ends level) → NoneLoose g shape tiles
  none_loose none reach i l =
      let is_level = l.is_level in
      loose_refutes none i l (reach (l.level + 1) (omega arith) (level_there shape tiles sets ends p (l.level + 1) (omega (arith, is_level))))

  pub first_loose : NoneMeet shape tiles → (n : ℕ) → IsFirstLoose g sets ends n → IsFirst (λ x y. x < y) (IsLoose g shape tiles) (n - 1)
  first_loose none n h =
      let from = h.from in
      let to = h.to in
      let low = h.low in
      let high = h.high in
      let in_level = in_levels shape tiles sets ends p h.level to in
      let k : ℕ = h.level - 1 in
      let next : k + 1 ≡ h.level = omega (arith, from) in
      let start = p.sizes k (omega (arith, in_level)) in
      let end = p.sizes h.level in_level in
      let fits = patch_fits shape tiles h.level in
      let size = size_is shape tiles sets ends p in
      let some : 1 ≤ n = omega (arith, low) in
      let most : n ≤ length sets = omega (arith, high, end, fits, size) in
      record {
        holds = record {
          level = k;
          is_level = omega (arith, from, in_level);
          from = omega (arith, start, low);
          to = subst (λ j. n - 1 < length (patch_at shape tiles j)) (sym next) (omega (arith, end, high, some));
          loose = All-from_members (λ other. IsFalse (touch g (tile_at shape tiles (n - 1)) other)) (patch_at shape tiles k) (λ t m. ap (λ s. touch g s t) (sym (set_is shape tiles sets ends p n)) ∙ no_touch g law sets (set_of sets n) (set_cells n some most) (slice_index ends k) h.loose t (subst (λ ts. Contains ts t) (sym (patch_is shape tiles sets ends p k (omega (arith, in_level)))) m));
        };
        first = λ y l less.
            let y_level = l.is_level in
            let y_from = l.from in
            let y_low = p.sizes l.level (omega (arith, y_level)) in
            elim (cases_Bool (nat_lt (l.level + 1) h.level)) [
              | inl t ↦ loose_refutes none y l (h.below (l.level + 1) (omega arith) (is_less (l.level + 1) h.level t))
              | inr f ↦ elim (cases_Bool (nat_lt h.level (l.level + 1))) [
                | inl t ↦
                    let grows = patch_grows shape tiles h.level l.level (let m = is_less h.level (l.level + 1) t in omega (arith, m)) in
                    absurd (omega (arith, grows, y_from, less, high, end))
                | inr e ↦
                    let same : l.level ≡ k = let a = at_least (l.level + 1) h.level f in let b = at_least h.level (l.level + 1) e in omega (arith, a, b, from) in
                    let at = ap (slice_index ends) same in
                    let yes = h.before (suc y) (omega (arith, at, y_low, y_from)) (omega (arith, less)) in
                    let y_to = l.to in
                    let y_fits = patch_fits shape tiles (l.level + 1) in
                    let no = loose_no_reach none y l.level y_level y_from (omega (arith, y_to, y_fits)) l.loose in
                    true≢false (sym yes ∙ ap (λ j. does_reach g sets (set_of sets (suc y)) (slice_index ends j)) (sym same) ∙ no)
              ]
            ];
      }

  -- ---- uncovered cells

  patch_cells : (k : ℕ) → k ≤ length tiles → cells_of (take (slice_index ends k) sets) ≡ cells_of (patch_at shape tiles k)
  patch_cells k l = ap cells_of (patch_is shape tiles sets ends p k l)

  patch_grid : (k : ℕ) → k ≤ length tiles → (c : Cell) → has (cells_of (take (slice_index ends k) sets)) c ≡ true → IsCell g c
  patch_grid k l c h =
      let by = covered_by sets (slice_index ends k) c h in
      set_cells by.0 by.1 by.3 c (has-true (set_of sets by.0) c by.4)

  -- a gap of a level is an uncovered cell, and the other way round
  gap_uncovered : (level : ℕ) → 1 ≤ level → level ≤ length tiles → (d : Cell) → is_gap g sets (slice_index ends (level - 1)) (slice_index ends level) d ≡ true → IsUncovered g shape tiles (level, d)
  gap_uncovered level from to d h =
      let inner = cells_of (take (slice_index ends (level - 1)) sets) in
      let outer = cells_of (take (slice_index ends level) sets) in
      let both = and_parts (list_any (λ c. has (g.touching c) d) inner) (not (has outer d)) h in
      let none : has outer d ≡ false = not_of (has outer d) both.1 in
      let c = any_member (λ c. has (g.touching c) d) inner both.0 in
      let before : level - 1 ≤ length tiles = omega (arith, to) in
      let a = p.sizes (level - 1) before in
      let b = p.sizes level to in
      let grows = patch_grows shape tiles (level - 1) level (omega arith) in
      record {
        from = from;
        to = to;
        around = record {
          outside = λ m. true≢false (sym (let by = covered_by sets (slice_index ends (level - 1)) d (has-is inner d (subst (λ cs. Contains cs d) (sym (patch_cells (level - 1) before)) m)) in covered_from sets (slice_index ends level) by.0 d by.1 (let l = by.2 in omega (arith, l, a, b, grows)) by.4) ∙ none);
          member = c.0;
          inside = subst (λ cs. Contains cs c.0) (patch_cells (level - 1) before) c.1;
          touching = (touching_exact g law c.0 d (patch_grid (level - 1) before c.0 (has-is inner c.0 c.1))).0 c.2;
        };
        uncovered = λ m. true≢false (sym (has-is outer d (subst (λ cs. Contains cs d) (sym (patch_cells level to)) m)) ∙ none);
      }
    where
      not_of : (b : Bool) → not b ≡ true → b ≡ false
      not_of true h = absurd (true≢false (sym h))
      not_of false h = refl

  uncovered_gap : (level : ℕ) (d : Cell) → IsUncovered g shape tiles (level, d) → is_gap g sets (slice_index ends (level - 1)) (slice_index ends level) d ≡ true
  uncovered_gap level d u =
      let to = u.to in
      let inner = cells_of (take (slice_index ends (level - 1)) sets) in
      let outer = cells_of (take (slice_index ends level) sets) in
      let before : level - 1 ≤ length tiles = omega (arith, to) in
      let c = u.around.member in
      let c_in = subst (λ cs. Contains cs c) (sym (patch_cells (level - 1) before)) u.around.inside in
      let listed = (touching_exact g law c d (patch_grid (level - 1) before c (has-is inner c c_in))).1 u.around.touching in
      let none : has outer d ≡ false = elim (cases_Bool (has outer d)) [
        | inl t ↦ absurd (u.uncovered (subst (λ cs. Contains cs d) (patch_cells level to) (has-true outer d t)))
        | inr f ↦ f
      ] in
      and_from (list_any (λ c. has (g.touching c) d) inner) (not (has outer d)) (member_any (λ c. has (g.touching c) d) inner c c_in listed) (ap not none)

  pub none_uncovered : ((level : ℕ) → 1 ≤ level → level < length ends → HasNoGap g sets ends level) → NoneUncovered g shape tiles
  none_uncovered none at u =
      true≢false (sym (uncovered_gap at.0 at.1 u) ∙ none at.0 u.from (level_there shape tiles sets ends p at.0 u.to) at.1)

  pub first_uncovered : (level : ℕ) (d : Cell) → IsFirstGap g sets ends (level, d) → IsFirst GapBefore (IsUncovered g shape tiles) (level, d)
  first_uncovered level d h =
      let to = in_levels shape tiles sets ends p level h.to in
      record {
        holds = gap_uncovered level h.from to d h.open_;
        first = λ y u b. elim b [
          | inl l ↦ true≢false (sym (uncovered_gap y.0 y.1 u) ∙ h.below y.0 u.from l y.1)
          | inr e ↦
              let gap = ap (λ k. is_gap g sets (slice_index ends (k - 1)) (slice_index ends k) y.1) (sym e.0) ∙ uncovered_gap y.0 y.1 u in
              true≢false (sym e.1 ∙ h.least y.1 gap)
        ];
      }

  -- ---- holes

  pub none_holed : ((level : ℕ) → 1 ≤ level → level < length ends → IsWhole g sets ends level) → NoneHoled g shape tiles
  none_holed whole k from to = subst (IsHoleFree g) (patch_cells k to) (whole k from (level_there shape tiles sets ends p k to))

  pub first_holed : (level : ℕ) (hole : List Cell) → IsFirstHole g sets ends (level, hole) → IsFirstHoled g shape tiles level hole
  first_holed level hole h =
      let to = in_levels shape tiles sets ends p level h.to in
      record {
        from = h.from;
        to = to;
        some = h.some;
        greatest = subst (λ cs. IsGreatestHole g cs hole) (patch_cells level to) h.greatest;
        below = λ k from l. subst (IsHoleFree g) (patch_cells k (omega (arith, l, to))) (h.below k from l);
      }
