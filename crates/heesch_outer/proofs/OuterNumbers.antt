-- Outer coronas and outer numbers, from their definitions.
use Rattle.std.proofs.Common.{◌≡◌, refl, sym, ap, subst, ◌∙◌, ℕ, zero, suc, ◌+◌, ◌-◌, ◌≤◌, not-suc-le-zero, le_of_suc-le-suc, List, [], ◌∷◌, ◌++◌, length, take, ◌⊎◌, inl, inr, arith}
use Rattle.std.proofs.lemmas.Bool.{cases_lt, cases_order}
use Rattle.std.proofs.lemmas.List.{length-take-le, take_all}
use Rattle.heesch_grid.specs.declared.Cell.{Cell}
use Rattle.heesch_grid.specs.Geometry.{Geometry}
use Rattle.heesch_grid.specs.Corona.{AreCoronasOf, StaysHoleFree, HasHoleFreeCoronas}
use Rattle.heesch_grid.proofs.FromDefinitions.{fewer_coronas_exist}
use Rattle.heesch_outer.specs.Coronas.{inner_layers, HasOuterCoronas, HasOuterNumber}
use Rattle.heesch_outer.specs.Statements.{OuterCoronasLieBetween, FewerOuterCoronasExist, OuterNumbersAreUnique, OuterNumbersAreNext, OuterNumbersLieBelow}

pub first_coronas : (g : Geometry) (shape : List Cell) (patch : List (List Cell)) (layers : List (List (List Cell))) (n : ℕ) → AreCoronasOf g shape patch layers → AreCoronasOf g shape patch (take n layers)
first_coronas g shape patch layers zero h = tt
first_coronas g shape patch [] (suc n) h = tt
first_coronas g shape patch (layer ∷ layers) (suc n) h = (h.0, first_coronas g shape (patch ++ layer) layers n h.1)

-- where the first k layers leave no hole, neither do fewer
first_hole_free : (g : Geometry) (patch : List (List Cell)) (layers : List (List (List Cell))) (n k : ℕ) → n ≤ k → StaysHoleFree g patch (take k layers) → StaysHoleFree g patch (take n layers)
first_hole_free g patch layers zero k l h = tt
first_hole_free g patch [] (suc n) k l h = tt
first_hole_free g patch (layer ∷ layers) (suc n) zero l h = absurd (not-suc-le-zero l)
first_hole_free g patch (layer ∷ layers) (suc n) (suc k) l h = (h.0, first_hole_free g (patch ++ layer) layers n k (le_of_suc-le-suc l) h.1)

-- the inner ones of the first j layers, where j are there
inner_first : (layers : List (List (List Cell))) (n j : ℕ) → n ≤ j → take n (take j layers) ≡ take n layers
inner_first layers zero j l = refl
inner_first layers (suc n) zero l = absurd (not-suc-le-zero l)
inner_first [] (suc n) (suc j) l = refl
inner_first (layer ∷ layers) (suc n) (suc j) l = ap (λ ls. layer ∷ ls) (inner_first layers n j (le_of_suc-le-suc l))

inner_of_first : (layers : List (List (List Cell))) (j : ℕ) → j ≤ length layers → inner_layers (take j layers) ≡ take (j - 1) layers
inner_of_first layers j l = ap (λ n. take (n - 1) (take j layers)) (length-take-le j layers l) ∙ inner_first layers (j - 1) j (omega arith)

pub outer_coronas_lie_between : OuterCoronasLieBetween
outer_coronas_lie_between g shape k = (
  (λ h. (h.0, h.1, (h.2.0, first_hole_free g (shape ∷ []) h.0 (length h.0 - 1) (length h.0) (omega arith) (subst (StaysHoleFree g (shape ∷ [])) (sym (take_all (length h.0) h.0 (omega arith))) h.2.1)))),
  (λ h. (h.0, h.1, h.2.0)),
)

pub fewer_outer_coronas_exist : FewerOuterCoronasExist
fewer_outer_coronas_exist g shape j k l h =
    let few : j ≤ length h.0 = let e = h.1 in omega (arith, e, l) in (
      take j h.0,
      length-take-le j h.0 few,
      (first_coronas g shape (shape ∷ []) h.0 j h.2.0, subst (StaysHoleFree g (shape ∷ [])) (sym (inner_of_first h.0 j few)) (first_hole_free g (shape ∷ []) h.0 (j - 1) (length h.0 - 1) (omega (arith, few)) h.2.1)),
    )

-- without its outermost layer, outer coronas are hole-free ones
inner_hole_free : (g : Geometry) (shape : List Cell) (h : ℕ) → HasOuterCoronas g shape (h + 1) → HasHoleFreeCoronas g shape h
inner_hole_free g shape h o =
    let e : length o.0 ≡ h + 1 = o.1 in
    let less : length o.0 - 1 ≡ h = omega (arith, e) in (
      take h o.0,
      length-take-le h o.0 (omega (arith, e)),
      (first_coronas g shape (shape ∷ []) o.0 h o.2.0, subst (λ n. StaysHoleFree g (shape ∷ []) (take n o.0)) less o.2.1),
    )

pub outer_numbers_are_unique : OuterNumbersAreUnique
outer_numbers_are_unique g shape k j p q =
    elim (cases_order k j) [
      | inl e ↦ e
      | inr o ↦ elim o [
        | inl less ↦ absurd (p.1 (fewer_outer_coronas_exist g shape (k + 1) j (omega arith) q.0))
        | inr more ↦ absurd (q.1 (fewer_outer_coronas_exist g shape (j + 1) k (omega arith) p.0))
      ]
    ]

pub outer_numbers_are_next : OuterNumbersAreNext
outer_numbers_are_next g shape h number = record { more = λ o. (o, none_above); same = λ none. (here, none); either = either }
  where
    here : HasOuterCoronas g shape h
    here = (outer_coronas_lie_between g shape h).0 number.0

    none_above : ¬ HasOuterCoronas g shape (h + 1 + 1)
    none_above o = number.1 (inner_hole_free g shape (h + 1) o)

    either : (k : ℕ) → HasOuterNumber g shape k → (k ≡ h) ⊎ (k ≡ h + 1)
    either k p =
        elim (cases_order k h) [
          | inl e ↦ inl e
          | inr o ↦ elim o [
            | inl less ↦ absurd (p.1 (fewer_outer_coronas_exist g shape (k + 1) h (omega arith) here))
            | inr more ↦ elim (cases_order k (h + 1)) [
              | inl e ↦ inr e
              | inr a ↦ elim a [
                | inl less ↦ absurd (omega (arith, more, less))
                | inr above ↦ absurd (none_above (fewer_outer_coronas_exist g shape (h + 1 + 1) k (omega (arith, above)) p.0))
              ]
            ]
          ]
        ]

pub outer_numbers_lie_below : OuterNumbersLieBelow
outer_numbers_lie_below g shape k m p none =
    elim (cases_lt k m) [
      | inl less ↦ less
      | inr from ↦ absurd (none ((fewer_coronas_exist g shape m k from).0 ((outer_coronas_lie_between g shape k).1 p.0)))
    ]
