-- A true entry of a cover: the single square, which tiles by translations with one class.
use Rattle.std.proofs.Common.{◌≡◌, refl, sym, ap, subst, ◌∙◌, ℕ, zero, suc, ◌+◌, ◌<◌, ◌≤◌, not-suc-le-zero, ltb-true, div-one, [], ◌∷◌, map, take, inl, inr, arith, Contains, true≢false}
use Rattle.std.specs.Prelude.{ℤ, pos, negsuc, IsTrue, nat_lt, is_some, Some, unwrap_or}
use Rattle.std.specs.List.{slice_get}
use Rattle.std.proofs.lemmas.Int.{ints}
use Rattle.std.proofs.lemmas.Bool.{and_parts, or_cases}
use Rattle.heesch_grid.specs.declared.Cell.{Cell}
use Rattle.heesch_grid.specs.declared.isometries.Iso.{Iso}
use Rattle.heesch_grid.specs.Cells.{cell_before, SameCells, origin}
use Rattle.heesch_grid.specs.Geometry.{image}
use Rattle.heesch_grid.specs.GridTests.{square_laws}
use Rattle.heesch_grid.specs.Pairs.{Cell-eta}
use Rattle.heesch_grid.specs.Polyform.{floor_div, IsFreePolyform}
use Rattle.heesch_grid.specs.Lattice.{Triple, triple_before, translated}
use Rattle.heesch_grid.specs.Tiling.{TilesByTranslation, Translation as PlainTranslation, IsPlain, no_move}
use Rattle.heesch_grid.specs.Symmetry.{Member, CarriesToTranslate, IsSymmetry, InOneClass, TakesExactly, AreClasses, greatest_class}
use Rattle.heesch_grid.proofs.ListFacts.{member_cases, member_here, no_member}
use Rattle.heesch_grid.proofs.CellFacts.{cell_before-irreflexive}
use Rattle.heesch_grid.proofs.SmallShapes.{only_place, single_tiles}
use Rattle.heesch_cert.specs.declared.verdict.Kind.TheVariants.{Translation}
use Rattle.heesch_cert.specs.declared.verdict.Verdict.TheVariants.{Tiles}
use Rattle.heesch_cert.specs.Limits.{AreLimits}
use Rattle.heesch_cert.specs.TrueEntry.{IsTrueEntry}
use Rattle.heesch_cert.specs.Examples.{square_limits, places, one_member, one_class, square_entry}
use Rattle.heesch_grid.specs.Examples.{square, single, unit_triple}
use Rattle.heesch_cert.specs.RightVerdict.{HasRightVerdict}
use Rattle.heesch_cert.proofs.OneCell.{one_polyform, one_canonical}
use Rattle.heesch_cert.proofs.Covered.{covered_true}
use Rattle.heesch_cert.proofs.EntryRight.{true_entries_are_right}

-- ---- it is a free polyform

floor_zero : (z : ℤ) → floor_div z 1 ≡ pos 0 → z ≡ pos 0
floor_zero (pos a) e = ap pos (sym (div-one a)) ∙ e
floor_zero (negsuc a) e = ap negsuc (sym (div-one a)) ∙ e

pub single_free : IsFreePolyform square 1 single
single_free = record {
  cells = single;
  polyform = one_polyform square square_laws origin refl;
  size = refl;
  canonical = one_canonical square square_laws origin refl refl refl (λ c k a b. ap (λ z. cell_before z origin) (Cell-eta c origin (floor_zero c.a a) (floor_zero c.b b)) ∙ cell_before-irreflexive origin);
}

-- ---- it tiles by translations, with the triple (1, 1, 0)

pub single_plain : IsPlain square single (Some (PlainTranslation unit_triple))
single_plain = record { holds = single_tiles; first = none }
  where
    none : (u : Triple) → TilesByTranslation square single u → ¬ IsTrue (triple_before u unit_triple)
    none u h t =
        let p : 1 ≤ u.p = h.of_domain.is_triple.p_positive in
        elim (or_cases (nat_lt u.p 1) _ t) [
          | inl l ↦ let low : u.p < 1 = ltb-true u.p 1 l in absurd (omega arith)
          | inr e ↦ let low : u.s < 0 = ltb-true u.s 0 (and_parts _ (nat_lt u.s 0) e).1 in not-suc-le-zero low
        ]

-- ---- its classes: one tile, in class 1 by no move

same_single : (c d : Cell) → c ≡ d → SameCells (c ∷ []) (d ∷ [])
same_single c d e x = ((λ m. subst (λ z. Contains (z ∷ []) x) e m), (λ m. subst (λ z. Contains (z ∷ []) x) (sym e) m))

no_move_symmetry : IsSymmetry square single unit_triple places no_move
no_move_symmetry = record {
  is_isometry = omega arith;
  carries = λ from m i j. (no_move, member_here no_move [], carried from i j (elim (member_cases no_move [] from m) [ inl e ↦ e | inr n ↦ absurd (no_member from n) ]));
}
  where
    carried : (from : Iso) (i j : ℤ) → no_move ≡ from → CarriesToTranslate square unit_triple no_move (map (translated square unit_triple i j) (image square from single)) (image square no_move single)
    carried from i j e = subst (λ (f : Iso). CarriesToTranslate square unit_triple no_move (map (translated square unit_triple i j) (image square f single)) (image square no_move single)) e (record { i = i; j = j; same = same_single _ _ (Cell-eta _ _ (omega (arith, ints)) (omega (arith, ints))) })

at_zero : (n : ℕ) (x : Member) → slice_get (one_member ∷ []) n ≡ Some x → (n ≡ 0) × (one_member ≡ x)
at_zero zero x e = (refl, ap (λ o. unwrap_or o one_member) e)
at_zero (suc n) x e = absurd (true≢false (sym (ap is_some e)))

pub single_classes : AreClasses square single unit_triple places one_class.count one_class.members
single_classes = record {
  one_each = refl;
  count_is = refl;
  together = λ m n x y from to ex ey ef et. ((λ e. in_class from to (only_place m from ef).1 (only_place n to et).1), (λ h. ap (λ (z : Member). z.class) (sym (at_zero m x ex).1 ∙ (at_zero n y ey).1)));
  numbered = λ n x e. let p = (at_zero n x e).1 in (subst (λ (z : Member). 1 ≤ z.class) p (omega arith), subst (λ (z : Member). z.class ≤ greatest_class (take n (one_member ∷ [])) + 1) p (omega arith));
  by_exact = λ n r x from to ex rep ef et. exact from to x (only_place r from ef).1 (only_place n to et).1 (at_zero n x ex).1;
  by_least = λ n r x from to by ex rep ef et h. subst (λ (z : Member). z.by.turn ≤ by.turn) (at_zero n x ex).1 (omega arith);
}
  where
    in_class : (from to : Iso) → no_move ≡ from → no_move ≡ to → InOneClass square single unit_triple places from to
    in_class from to p q = subst (λ (f : Iso). InOneClass square single unit_triple places f to) p (subst (λ (t : Iso). InOneClass square single unit_triple places no_move t) q (no_move, no_move_symmetry, record { i = pos 0; j = pos 0; same = same_single origin origin refl }))

    exact : (from to : Iso) (x : Member) → no_move ≡ from → no_move ≡ to → one_member ≡ x → TakesExactly square single unit_triple places from to x.by
    exact from to x p q e = subst (λ (z : Member). TakesExactly square single unit_triple places from to z.by) e (subst (λ (f : Iso). TakesExactly square single unit_triple places f to no_move) p (subst (λ (t : Iso). TakesExactly square single unit_triple places no_move t no_move) q (record { is_symmetry = no_move_symmetry; same = same_single origin origin refl })))

-- ---- the entry

pub square_entry_true : IsTrueEntry square square_limits square_entry
square_entry_true = covered_true square square_limits single (Tiles Translation 1 1) (record { triple = unit_triple; places = places }) one_class (1, omega arith, omega arith, single_free) (refl, refl, omega arith, (single_plain, refl)) single_tiles.cover (single_classes, refl)

ranges : AreLimits square_limits
ranges = record { turns_range = (omega arith, omega arith); levels_range = (omega arith, omega arith); domain_range = (omega arith, omega arith); size_range = (omega arith, omega arith) }

pub square_entry_right : HasRightVerdict square square_limits square_entry
square_entry_right = true_entries_are_right square square_limits square_entry square_laws ranges square_entry_true
