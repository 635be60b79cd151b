-- A cover moved as a whole.
use Rattle.std.proofs.Common.{◌≡◌, refl, sym, ap, subst, ◌∙◌, ℕ, zero, suc, List, [], ◌∷◌, map, arith, Contains}
use Rattle.std.specs.Prelude.{ℤ, pos, neg_ℤ, ◌+ℤ◌, ◌*ℤ◌, Some, None, unwrap_or}
use Rattle.std.specs.List.{slice_get}
use Rattle.std.proofs.lemmas.Int.{ints}
use Rattle.std.proofs.lemmas.List.Elements.{All-contains}
use Rattle.heesch_grid.specs.declared.Cell.{Cell}
use Rattle.heesch_grid.specs.declared.isometries.Iso.{Iso}
use Rattle.heesch_grid.specs.Listing.{HoldsOnce}
use Rattle.heesch_grid.specs.Geometry.{Geometry, IsGrid, IsCell, IsIsometry, moved, apply, image}
use Rattle.heesch_grid.specs.Lattice.{Triple, translated}
use Rattle.heesch_grid.specs.Tiling.{HasCell, IsPeriodicCover}
use Rattle.heesch_grid.proofs.ListFacts.{All-from_members}
use Rattle.heesch_grid.proofs.IsometryFacts.{moved_twice, moved_none}
use Rattle.heesch_grid.proofs.WindowFacts.{map_member, member_map}

-- a tile moved
abbrev pub shifted : ℤ → ℤ → Iso → Iso
shifted da db by = record { turn = by.turn; da = by.da +ℤ da; db = by.db +ℤ db }

module _ (g : Geometry) (law : IsGrid g) (shape : List Cell) (t : Triple) where
  module _ (da db : ℤ) where
    apply_shifted : (by : Iso) (c : Cell) → apply g (shifted da db by) c ≡ moved g da db (apply g by c)
    apply_shifted by c = sym (moved_twice g law by.da by.db da db (g.turn by.turn c))

    moved_turn : (x y z w : ℤ) (c : Cell) → moved g z w (moved g x y c) ≡ moved g x y (moved g z w c)
    moved_turn x y z w c = moved_twice g law x y z w c ∙ (λ i. moved g (swap x z i) (swap y w i) c) ∙ sym (moved_twice g law z w x y c)
      where
        swap : (x z : ℤ) → x +ℤ z ≡ z +ℤ x
        swap x z = omega (arith, ints)

    translated_moved : (i j : ℤ) (c : Cell) → translated g t i j (moved g da db c) ≡ moved g da db (translated g t i j c)
    translated_moved i j c = moved_turn da db (i *ℤ pos t.p +ℤ j *ℤ pos t.s) (j *ℤ pos t.q) c

    get_map : (places : List Iso) (n : ℕ) (by : Iso) → slice_get places n ≡ Some by → slice_get (map (shifted da db) places) n ≡ Some (shifted da db by)
    get_map [] n by e = absurd (none_some by e)
      where
        none_some : (x : Iso) → None ≡ Some x → ⊥
        none_some x e = cc
    get_map (x ∷ places) zero by e = ap (λ o. Some (shifted da db (unwrap_or o x))) e
    get_map (x ∷ places) (suc n) by e = get_map places n by e

    map_get : (places : List Iso) (n : ℕ) (by : Iso) → slice_get (map (shifted da db) places) n ≡ Some by → (x : Iso) × (slice_get places n ≡ Some x) × (shifted da db x ≡ by)
    map_get [] n by e = absurd (none_some by e)
      where
        none_some : (x : Iso) → None ≡ Some x → ⊥
        none_some x e = cc
    map_get (x ∷ places) zero by e = (x, refl, ap (λ o. unwrap_or o by) e)
    map_get (x ∷ places) (suc n) by e = map_get places n by e

    to_shifted : (places : List Iso) (c : Cell) (k : ℕ × ℤ × ℤ) → HasCell g shape t places c k → HasCell g shape t (map (shifted da db) places) (moved g da db c) k
    to_shifted places c k h =
        let m = map_member (apply g h.by) shape h.member h.in_tile in
        record {
          by = shifted da db h.by;
          is_place = get_map places k.0 h.by h.is_place;
          member = moved g da db h.member;
          in_tile = subst (Contains (image g (shifted da db h.by) shape)) (apply_shifted h.by m.0 ∙ ap (moved g da db) m.2) (member_map (apply g (shifted da db h.by)) shape m.0 m.1);
          is = ap (moved g da db) h.is ∙ sym (translated_moved k.1 k.2 h.member);
        }

  -- what was moved comes back
  back : (da db : ℤ) (c : Cell) → moved g (neg_ℤ da) (neg_ℤ db) (moved g da db c) ≡ c
  back da db c = moved_twice g law da db (neg_ℤ da) (neg_ℤ db) c ∙ moved_none g law (da +ℤ neg_ℤ da) (db +ℤ neg_ℤ db) c (omega (arith, ints)) (omega (arith, ints))

  forth : (da db : ℤ) (c : Cell) → moved g da db (moved g (neg_ℤ da) (neg_ℤ db) c) ≡ c
  forth da db c = moved_twice g law (neg_ℤ da) (neg_ℤ db) da db c ∙ moved_none g law (neg_ℤ da +ℤ da) (neg_ℤ db +ℤ db) c (omega (arith, ints)) (omega (arith, ints))

  moved_cell : (da db : ℤ) (c : Cell) → IsCell g c → IsCell g (moved g da db c)
  moved_cell da db c h =
      let by : Iso = record { turn = 0; da = da; db = db } in
      subst (λ z. IsCell g (moved g da db z)) (law.identity c) (law.cells_kept by law.turns_range.0 c h)

  from_shifted : (da db : ℤ) (places : List Iso) (c : Cell) (k : ℕ × ℤ × ℤ) → HasCell g shape t (map (shifted da db) places) (moved g da db c) k → HasCell g shape t places c k
  from_shifted da db places c k h =
      let x = map_get da db places k.0 h.by h.is_place in
      let m = map_member (apply g h.by) shape h.member h.in_tile in
      let member : h.member ≡ moved g da db (apply g x.0 m.0) = sym m.2 ∙ ap (λ (z : Iso). apply g z m.0) (sym x.2) ∙ apply_shifted da db x.0 m.0 in
      record {
        by = x.0;
        is_place = x.1;
        member = apply g x.0 m.0;
        in_tile = member_map (apply g x.0) shape m.0 m.1;
        is = sym (back da db c)
            ∙ ap (moved g (neg_ℤ da) (neg_ℤ db)) (h.is ∙ ap (translated g t k.1 k.2) member ∙ translated_moved da db k.1 k.2 (apply g x.0 m.0))
            ∙ back da db (translated g t k.1 k.2 (apply g x.0 m.0));
      }

  pub shifted_cover : (da db : ℤ) (places : List Iso) → IsPeriodicCover g shape t places → IsPeriodicCover g shape t (map (shifted da db) places)
  shifted_cover da db places cover = record {
    is_triple = cover.is_triple;
    isometries = All-from_members (IsIsometry g) (map (shifted da db) places) (λ by m. let x = map_member (shifted da db) places by m in subst (IsIsometry g) x.2 (All-contains (IsIsometry g) places x.0 cover.isometries x.1));
    exactly_one = λ c h.
        let d : Cell = moved g (neg_ℤ da) (neg_ℤ db) c in
        let o : HoldsOnce (HasCell g shape t places (moved g (neg_ℤ da) (neg_ℤ db) c)) = cover.exactly_one d (moved_cell (neg_ℤ da) (neg_ℤ db) c h) in
        record {
          value = o.value;
          holds = subst (λ z. HasCell g shape t (map (shifted da db) places) z o.value) (forth da db c) (to_shifted da db places d o.value o.holds);
          only = λ k k_holds. o.only k (from_shifted da db places d k (subst (λ z. HasCell g shape t (map (shifted da db) places) z k) (sym (forth da db c)) k_holds));
        };
  }
