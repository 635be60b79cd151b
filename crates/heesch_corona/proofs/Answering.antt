-- What an answer for the tiles that were built says of all.
use Rattle.std.proofs.Common.{◌≡◌, ◌-◌, ◌≤◌, get_or, pos, Some, None, refl, sym, ap, subst, ℕ, ◌↔◌, Bool, true, false, List, [], ◌∷◌, length, All, ◌<◌, Contains, true≢false, arith}
use Rattle.std.proofs.lemmas.List.Elements.{All-contains}
use Rattle.heesch_grid.proofs.ListFacts.{member_here}
use Rattle.std.specs.Prelude.{Option, MatchOption}
use Rattle.std.specs.List.{AllZip}
use Rattle.std.proofs.lemmas.Slice.Zip.{AllZip-long}
use Rattle.std.proofs.lemmas.List.Folds.{list_any_at}
use Rattle.heesch_grid.specs.declared.Cell.{Cell}
use Rattle.heesch_grid.specs.Cells.{cell, same_cell}
use Rattle.heesch_grid.specs.Pairs.{same_cell-refl}
use Rattle.heesch_shape.specs.Walks.{IsShape}
use Rattle.heesch_grid.specs.declared.isometries.Iso.{Iso}
use Rattle.heesch_grid.specs.Geometry.{Geometry, IsGrid}
use Rattle.heesch_grid.specs.Placement.{IsPlacement}
use Rattle.heesch_grid.specs.Hole.{IsInHole}
use Rattle.heesch_grid.specs.Corona.{cells_of}
use Rattle.heesch_corona.specs.declared.check.CoronaAnswer.{CoronaAnswer}
use Rattle.heesch_corona.specs.declared.check.CoronaAnswer.TheVariants.{Meets, Loose, Uncovered, Hole, Holds}
use Rattle.heesch_corona.specs.Tiles.{IsInRange, IsLayerOf, AreTilesOf, patch_at}
use Rattle.heesch_corona.specs.Building.{IsBuilt, AreClose}
use Rattle.heesch_corona.specs.Searches.{IsFirstMeeting, HaveNoMeeting, DoReach, IsFirstLoose, HasNoGap, IsFirstGap, IsWhole, IsFirstHole}
use Rattle.heesch_corona.specs.Rules.{NoneMeet, NoneLoose, AreRuled, NoneHoled}
use Rattle.heesch_corona.specs.Answer.{IsAnswer, AreAsked}
use Rattle.heesch_corona.proofs.Numbered.{size_is, ends_fit}
use Rattle.heesch_corona.proofs.Bridge.{first_meet, none_meet, first_loose, none_loose, first_uncovered, none_uncovered, first_holed, none_holed}
use Rattle.heesch_corona.proofs.Nearness.{all_close}
use Rattle.heesch_corona.proofs.Coronas.{rules_make_coronas, rules_make_hole_free}
use Rattle.heesch_corona.proofs.Unique.{tiles_are_unique, placements_of}

-- coronas as asked keep the rules
asked_ruled : (g : Geometry) (shape : List Cell) (tiles : List (List (List Cell))) → IsGrid g → All (All (IsPlacement g shape)) tiles → (hole_free : Bool) → AreAsked g shape hole_free tiles → AreRuled g shape tiles
asked_ruled g shape tiles law placed true h = ((rules_make_hole_free g shape tiles law placed).1 h).0
asked_ruled g shape tiles law placed false h = (rules_make_coronas g shape tiles law placed).1 h

asked_whole : (g : Geometry) (shape : List Cell) (tiles : List (List (List Cell))) → IsGrid g → All (All (IsPlacement g shape)) tiles → (hole_free : Bool) → hole_free ≡ true → AreAsked g shape hole_free tiles → NoneHoled g shape tiles
asked_whole g shape tiles law placed true e h = ((rules_make_hole_free g shape tiles law placed).1 h).1
asked_whole g shape tiles law placed false e h = absurd (true≢false (sym e))

asked_from : (g : Geometry) (shape : List Cell) (tiles : List (List (List Cell))) → IsGrid g → All (All (IsPlacement g shape)) tiles → (hole_free : Bool) → AreRuled g shape tiles → (hole_free ≡ true → NoneHoled g shape tiles) → AreAsked g shape hole_free tiles
asked_from g shape tiles law placed true r h = (rules_make_hole_free g shape tiles law placed).0 (r, h refl)
asked_from g shape tiles law placed false r h = (rules_make_coronas g shape tiles law placed).0 r

empty : (cells : List Cell) → 0 < length cells → ((c : Cell) → Contains cells c → ⊥) → ⊥
empty [] l f = omega (arith, l)
empty (c ∷ cs) l f = f c (member_here c cs)

-- an answer is `Holds` exactly where the layers are coronas as asked
holds_where : (g : Geometry) (shape : List Cell) (tiles : List (List (List Cell))) → IsGrid g → All (All (IsPlacement g shape)) tiles → (hole_free : Bool) (answer : CoronaAnswer) → IsAnswer g shape tiles hole_free answer → (answer ≡ Holds) ↔ AreAsked g shape hole_free tiles
holds_where g shape tiles law placed hole_free (Meets i j) h = (λ e. absurd (differs e), λ a. absurd ((asked_ruled g shape tiles law placed hole_free a).none_meet (i, j) h.holds))
  where
    differs : {i j : ℕ} → Meets i j ≡ Holds → ⊥
    differs e = cc
holds_where g shape tiles law placed hole_free (Loose i) h = (λ e. absurd (differs e), λ a. absurd ((asked_ruled g shape tiles law placed hole_free a).none_loose i h.1.holds))
  where
    differs : {i : ℕ} → Loose i ≡ Holds → ⊥
    differs e = cc
holds_where g shape tiles law placed hole_free (Uncovered level cell) h = (λ e. absurd (differs e), λ a. absurd ((asked_ruled g shape tiles law placed hole_free a).none_uncovered (level, cell) h.2.holds))
  where
    differs : {level : ℕ} {cell : Cell} → Uncovered level cell ≡ Holds → ⊥
    differs e = cc
holds_where g shape tiles law placed hole_free (Hole level cells) h = (λ e. absurd (differs e), λ a. absurd (none (asked_whole g shape tiles law placed hole_free h.1 a)))
  where
    differs : Hole level cells ≡ Holds → ⊥
    differs e = cc

    none : NoneHoled g shape tiles → ⊥
    none w = empty cells h.2.some (λ c m. let i = All-contains (IsInHole g (cells_of (patch_at shape tiles level))) cells c h.2.greatest.only m in w level h.2.from h.2.to i.hole i.is_hole)
holds_where g shape tiles law placed hole_free Holds h = (λ e. asked_from g shape tiles law placed hole_free h.0 h.1, λ a. refl)

module _ (g : Geometry) (law : IsGrid g) (shape : List Cell) (layers : List (List Iso)) (ranges : All (All (IsInRange g)) layers) (sets : List (List Cell)) (ends : List ℕ) (built : IsBuilt g shape layers sets ends) (hole_free : Bool) (answer : CoronaAnswer) (is : IsAnswer g shape built.tiles hole_free answer) where
  pub answered : (tiles : List (List (List Cell))) → AreTilesOf g shape layers tiles → IsAnswer g shape tiles hole_free answer
  answered tiles are = subst (λ ts. IsAnswer g shape ts hole_free answer) (tiles_are_unique g shape layers built.tiles tiles built.are_given are) is

  pub held : (tiles : List (List (List Cell))) → AreTilesOf g shape layers tiles → (answer ≡ Holds) ↔ AreAsked g shape hole_free tiles
  held tiles are = holds_where g shape tiles law (placements_of g shape layers tiles ranges are) hole_free answer (answered tiles are)

-- ---- each answer, from what the searches found

zip_length : {A B : Type 0} (R : A → B → Type 0) (xs : List A) (ys : List B) → AllZip R xs ys → length ys ≡ length xs
zip_length R xs ys h = AllZip-long R xs ys h

module _ (g : Geometry) (law : IsGrid g) (shape : List Cell) (layers : List (List Iso)) (sets : List (List Cell)) (ends : List ℕ) (built : IsBuilt g shape layers sets ends) (hole_free : Bool) where
  -- the ends are few and fit the sets
  pub ends_few : length layers ≤ 6 → (es : List ℕ) → es ≡ ends → length es ≤ 7
  ends_few few es e =
      let l = built.are_patches.levels in
      let z = zip_length (IsLayerOf g shape) layers built.tiles built.are_given in
      let s = ap length e in
      omega (arith, few, l, z, s)

  pub ends_within : (es : List ℕ) → es ≡ ends → All (λ end. end ≤ length sets) es
  ends_within es e = subst (All (λ end. end ≤ length sets)) (sym e) (ends_fit shape built.tiles sets ends built.are_patches)

  first_shape : IsShape g shape
  first_shape =
      let size = size_is shape built.tiles sets ends built.are_patches in
      subst (IsShape g) (ap (λ xs. get_or xs 0 []) built.are_patches.all) (built.are_shapes 0 [] (omega (arith, size)))

  pub tiles_close : length layers ≤ 6 → (es : List ℕ) → es ≡ ends → ((level : ℕ) → 1 ≤ level → level < length es → DoReach g sets es level) → AreClose sets
  tiles_close few es e reach =
      let zero_cell : Cell = cell (pos 0) (pos 0) in
      let origin : Cell = get_or shape 0 zero_cell in
      all_close g law shape built.tiles sets ends built.are_patches built.are_shapes (subst (λ xs. (level : ℕ) → 1 ≤ level → level < length xs → DoReach g sets xs level) e reach) origin (list_any_at (same_cell origin) shape 0 zero_cell first_shape.polyform.some (same_cell-refl origin)) (let z = zip_length (IsLayerOf g shape) layers built.tiles built.are_given in omega (arith, few, z))

  pub meets_case : (m n : ℕ) → IsFirstMeeting sets (m, n) → IsAnswer g shape built.tiles hole_free (Meets (m - 1) (n - 1))
  meets_case m n h = first_meet g law shape built.tiles sets ends built.are_patches built.are_shapes m n h

  apart : HaveNoMeeting sets → NoneMeet shape built.tiles
  apart h = none_meet g law shape built.tiles sets ends built.are_patches built.are_shapes h

  pub loose_case : HaveNoMeeting sets → (es : List ℕ) → es ≡ ends → (n : ℕ) → IsFirstLoose g sets es n → IsAnswer g shape built.tiles hole_free (Loose (n - 1))
  loose_case none es e n h = (apart none, first_loose g law shape built.tiles sets ends built.are_patches built.are_shapes (apart none) n (subst (λ xs. IsFirstLoose g sets xs n) e h))

  joined : HaveNoMeeting sets → (es : List ℕ) → es ≡ ends → ((level : ℕ) → 1 ≤ level → level < length es → DoReach g sets es level) → NoneLoose g shape built.tiles
  joined none es e reach = none_loose g law shape built.tiles sets ends built.are_patches built.are_shapes (apart none) (subst (λ xs. (level : ℕ) → 1 ≤ level → level < length xs → DoReach g sets xs level) e reach)

  pub gap_case : HaveNoMeeting sets → (es : List ℕ) → es ≡ ends → ((level : ℕ) → 1 ≤ level → level < length es → DoReach g sets es level) → (fs : List ℕ) → fs ≡ ends → (level : ℕ) (d : Cell) → IsFirstGap g sets fs (level, d) → IsAnswer g shape built.tiles hole_free (Uncovered level d)
  gap_case none es e reach fs f level d h =
      (apart none, joined none es e reach, first_uncovered g law shape built.tiles sets ends built.are_patches built.are_shapes level d (subst (λ xs. IsFirstGap g sets xs (level, d)) f h))

  ruled : HaveNoMeeting sets → (es : List ℕ) → es ≡ ends → ((level : ℕ) → 1 ≤ level → level < length es → DoReach g sets es level) → (fs : List ℕ) → fs ≡ ends → ((level : ℕ) → 1 ≤ level → level < length fs → HasNoGap g sets fs level) → AreRuled g shape built.tiles
  ruled none es e reach fs f covered =
      record { none_meet = apart none; none_loose = joined none es e reach; none_uncovered = none_uncovered g law shape built.tiles sets ends built.are_patches built.are_shapes (subst (λ xs. (level : ℕ) → 1 ≤ level → level < length xs → HasNoGap g sets xs level) f covered) }

  pub hole_case : HaveNoMeeting sets → (es : List ℕ) → es ≡ ends → ((level : ℕ) → 1 ≤ level → level < length es → DoReach g sets es level) → (fs : List ℕ) → fs ≡ ends → ((level : ℕ) → 1 ≤ level → level < length fs → HasNoGap g sets fs level) → hole_free ≡ true → (hs : List ℕ) → hs ≡ ends → (level : ℕ) (hole : List Cell) → IsFirstHole g sets hs (level, hole) → IsAnswer g shape built.tiles hole_free (Hole level hole)
  hole_case none es e reach fs f covered asked hs h level hole is =
      (ruled none es e reach fs f covered, asked, first_holed g law shape built.tiles sets ends built.are_patches built.are_shapes level hole (subst (λ xs. IsFirstHole g sets xs (level, hole)) h is))

  pub holds_case : HaveNoMeeting sets → (es : List ℕ) → es ≡ ends → ((level : ℕ) → 1 ≤ level → level < length es → DoReach g sets es level) → (fs : List ℕ) → fs ≡ ends → ((level : ℕ) → 1 ≤ level → level < length fs → HasNoGap g sets fs level) → (hole_free ≡ true → (level : ℕ) → 1 ≤ level → level < length ends → IsWhole g sets ends level) → IsAnswer g shape built.tiles hole_free Holds
  holds_case none es e reach fs f covered whole =
      (ruled none es e reach fs f covered, λ asked. none_holed g law shape built.tiles sets ends built.are_patches built.are_shapes (whole asked))

-- what an option says where it is known
pub at_some : {X : Type 0} (P : Type 0) (Q : X → Type 0) (o : Option X) (x : X) → o ≡ Some x → MatchOption o P Q → Q x
at_some P Q o x e h = subst (λ z. MatchOption z P Q) e h

pub at_none : {X : Type 0} (P : Type 0) (Q : X → Type 0) (o : Option X) → o ≡ None → MatchOption o P Q → P
at_none P Q o e h = subst (λ z. MatchOption z P Q) e h
