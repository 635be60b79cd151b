-- The fault of cells, which is one, and that of their first 33.
use Rattle.std.proofs.Common.{◌≡◌, ℕ, ◌<◌, ◌≤◌, Bool, List, length, take, refl, sym, subst, ◌∙◌, arith, ◌⊎◌, inl, inr}
use Rattle.std.proofs.lemmas.Bool.{true≢false}
use Rattle.std.proofs.lemmas.List.{take_all, length-take-le}
use Rattle.heesch_grid.specs.declared.Cell.{Cell}
use Rattle.heesch_grid.specs.Geometry.{Geometry}
use Rattle.heesch_shape.specs.declared.faults.ShapeFault.{ShapeFault}
use Rattle.heesch_shape.specs.declared.faults.ShapeFault.TheVariants.{Empty, TooMany, NotACell, Repeated, Apart}
use Rattle.heesch_shape.specs.Places.{AllHold, IsFirstFailure}
use Rattle.heesch_shape.specs.Faults.{IsFault, IsFaultless, number_of}

fails_not : (test : ℕ → Bool) (n at : ℕ) → IsFirstFailure test n at → AllHold test n → ⊥
fails_not test n at f a = true≢false (sym (a.all at f.below) ∙ f.fails)

-- no fault comes where an earlier one does
earlier : (g : Geometry) (xs : List Cell) (a b : ShapeFault) → IsFault g xs a → IsFault g xs b → number_of a < number_of b → ⊥
earlier g xs Empty Empty f h less = omega arith
earlier g xs Empty TooMany f h less = omega arith
earlier g xs Empty (NotACell k) f h less = omega (arith, f, h.0)
earlier g xs Empty (Repeated k) f h less = omega (arith, f, h.0)
earlier g xs Empty (Apart k) f h less = omega (arith, f, h.0)
earlier g xs TooMany Empty f h less = omega arith
earlier g xs TooMany TooMany f h less = omega arith
earlier g xs TooMany (NotACell k) f h less = omega (arith, f, h.1)
earlier g xs TooMany (Repeated k) f h less = omega (arith, f, h.1)
earlier g xs TooMany (Apart k) f h less = omega (arith, f, h.1)
earlier g xs (NotACell i) Empty f h less = omega arith
earlier g xs (NotACell i) TooMany f h less = omega arith
earlier g xs (NotACell i) (NotACell k) f h less = omega arith
earlier g xs (NotACell i) (Repeated k) f h less = fails_not _ _ _ f.2 h.2
earlier g xs (NotACell i) (Apart k) f h less = fails_not _ _ _ f.2 h.2
earlier g xs (Repeated i) Empty f h less = omega arith
earlier g xs (Repeated i) TooMany f h less = omega arith
earlier g xs (Repeated i) (NotACell k) f h less = omega arith
earlier g xs (Repeated i) (Repeated k) f h less = omega arith
earlier g xs (Repeated i) (Apart k) f h less = fails_not _ _ _ f.3 h.3
earlier g xs (Apart i) Empty f h less = omega arith
earlier g xs (Apart i) TooMany f h less = omega arith
earlier g xs (Apart i) (NotACell k) f h less = omega arith
earlier g xs (Apart i) (Repeated k) f h less = omega arith
earlier g xs (Apart i) (Apart k) f h less = omega arith

-- cells have one fault
pub one_number : (g : Geometry) (xs : List Cell) (a b : ShapeFault) → IsFault g xs a → IsFault g xs b → number_of a ≡ number_of b
one_number g xs a b f h =
    let not_less : number_of a < number_of b → ⊥ = earlier g xs a b f h in
    let not_more : number_of b < number_of a → ⊥ = earlier g xs b a h f in
    tight (number_of a) (number_of b) not_less not_more
  where
    tight : (n m : ℕ) → (n < m → ⊥) → (m < n → ⊥) → n ≡ m
    tight n m below above = grind (arith, below, above)

-- ---- the first 33 cells

first_many : (all : List Cell) → 33 ≤ length all → length (take 33 all) ≡ 33
first_many all many = length-take-le 33 all many

-- no more than 33 cells are their first 33
few_or_many : (all : List Cell) → (take 33 all ≡ all) ⊎ (33 ≤ length all)
few_or_many all = by (le_or_lt (length all) 32)
  where
    le_or_lt : (n m : ℕ) → (n ≤ m) ⊎ (m < n)
    le_or_lt n m = grind arith

    by : (length all ≤ 32) ⊎ (32 < length all) → (take 33 all ≡ all) ⊎ (33 ≤ length all)
    by (inl few) = inl (take_all 33 all (omega (arith, few)))
    by (inr many) = inr (omega (arith, many))

-- where the first 33 are a shape, they are all
pub faultless_all : (g : Geometry) (all : List Cell) → IsFaultless g (take 33 all) → take 33 all ≡ all
faultless_all g all faultless = elim (few_or_many all) [
  | inl same ↦ same
  | inr many ↦ absurd (faultless TooMany (omega (arith, first_many all many)))
]

many_fault : (g : Geometry) (all : List Cell) (f : ShapeFault) → 33 ≤ length all → IsFault g (take 33 all) f → (fault : ShapeFault) × IsFault g all fault × (number_of fault ≡ number_of f)
many_fault g all Empty many h = absurd (omega (arith, first_many all many, h))
many_fault g all TooMany many h = (TooMany, omega (arith, many), refl)
many_fault g all (NotACell k) many h = absurd (omega (arith, first_many all many, h.1))
many_fault g all (Repeated k) many h = absurd (omega (arith, first_many all many, h.1))
many_fault g all (Apart k) many h = absurd (omega (arith, first_many all many, h.1))

-- the fault of the first 33 is that of all
pub fault_of_all : (g : Geometry) (all : List Cell) (f : ShapeFault) → IsFault g (take 33 all) f → (fault : ShapeFault) × IsFault g all fault × (number_of fault ≡ number_of f)
fault_of_all g all f h = elim (few_or_many all) [
  | inl same ↦ (f, subst (λ (xs : List Cell). IsFault g xs f) same h, refl)
  | inr many ↦ many_fault g all f many h
]
