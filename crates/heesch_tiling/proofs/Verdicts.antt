-- From counts to the answers on covers.
use Rattle.std.proofs.Common.{◌≡◌, sym, ◌∙◌, ℕ, ◌<◌, ◌≤◌, List, Bool, true, false, ◌&&◌, ◌||◌, inl, inr, arith, All, ltb-true, lt-ltb}
use Rattle.std.specs.Prelude.{IsTrue, nat_lt, ◌⊎◌}
use Rattle.std.proofs.lemmas.Bool.{cases_Bool, and_parts, and_from, or_cases, cases_order, cases_lt, true≢false}
use Rattle.heesch_grid.specs.declared.Cell.{Cell}
use Rattle.heesch_grid.specs.declared.isometries.Iso.{Iso}
use Rattle.heesch_grid.specs.Listing.{IsFirst}
use Rattle.heesch_grid.specs.Cells.{cell_before}
use Rattle.heesch_grid.specs.Geometry.{Geometry, IsCell, IsGrid, IsIsometry}
use Rattle.heesch_grid.specs.Polyform.{IsPolyform}
use Rattle.heesch_grid.specs.Lattice.{Triple, IsTriple, IsReduced}
use Rattle.heesch_grid.specs.Tiling.{IsPeriodicCover}
use Rattle.heesch_grid.specs.Pairs.{or-left, or-right}
use Rattle.heesch_tiling.specs.Counting.{residues, times_in, is_amiss, IsFirstAmiss, IsDoubled, IsMissed}
use Rattle.heesch_tiling.proofs.Covers.{missed, once, doubled, covers, covers_once}

amiss_cases : (b : Bool) (n low most : ℕ) → (b && (nat_lt n low || nat_lt most n)) ≡ true → (n < low) ⊎ (most < n)
amiss_cases b n low most e =
    elim (or_cases (nat_lt n low) (nat_lt most n) (and_parts b (nat_lt n low || nat_lt most n) e).1) [ inl h ↦ inl (ltb-true n low h) | inr h ↦ inr (ltb-true most n h) ]

amiss_low : (b : Bool) (n low most : ℕ) → b ≡ true → n < low → (b && (nat_lt n low || nat_lt most n)) ≡ true
amiss_low b n low most e l = and_from b (nat_lt n low || nat_lt most n) e (or-left (nat_lt n low) (nat_lt most n) (lt-ltb n low l))

amiss_high : (b : Bool) (n low most : ℕ) → b ≡ true → most < n → (b && (nat_lt n low || nat_lt most n)) ≡ true
amiss_high b n low most e l = and_from b (nat_lt n low || nat_lt most n) e (or-right (nat_lt n low) (nat_lt most n) (lt-ltb most n l))

module _ (g : Geometry) (law : IsGrid g) (shape : List Cell) (form : IsPolyform g shape) (t : Triple) (triple : IsTriple t) (places : List Iso) (isometries : All (IsIsometry g) places) where
  abbrev times : Cell → ℕ
  times c = times_in (residues g shape t places) c

  fine : (low most : ℕ) (c : Cell) → IsReduced g t c → is_amiss g (residues g shape t places) low most c ≡ false → (low ≤ times c) × (times c ≤ most)
  fine low most c red e = (
    elim (cases_lt (times c) low) [ inl l ↦ absurd (true≢false (sym (amiss_low (g.is_cell c) (times c) low most red.in_grid l) ∙ e)) | inr l ↦ l ],
    elim (cases_lt most (times c)) [ inl l ↦ absurd (true≢false (sym (amiss_high (g.is_cell c) (times c) low most red.in_grid l) ∙ e)) | inr l ↦ l ],
  )

  pub exact : ((c : Cell) → IsReduced g t c → is_amiss g (residues g shape t places) 1 1 c ≡ false) → IsPeriodicCover g shape t places
  exact f = covers g law shape form t triple places isometries (λ r red. let both = fine 1 1 r red (f r red) in omega (arith, both.0, both.1))

  -- in a cover no pair is amiss
  pub never_amiss : IsPeriodicCover g shape t places → (c : Cell) → (IsCell g c → IsReduced g t c) → is_amiss g (residues g shape t places) 1 1 c ≡ false
  never_amiss cover c red =
      elim (cases_Bool (is_amiss g (residues g shape t places) 1 1 c)) [
        | inr f ↦ f
        | inl e ↦
            let in_grid : IsCell g c = (and_parts (g.is_cell c) (nat_lt (times c) 1 || nat_lt 1 (times c)) e).0 in
            let one = covers_once g law shape form t triple places isometries cover c (red in_grid) in
            elim (amiss_cases (g.is_cell c) (times c) 1 1 e) [ inl l ↦ absurd (omega (arith, one, l)) | inr l ↦ absurd (omega (arith, one, l)) ]
      ]

  -- a cell that is covered twice stands twice among the residues, and one that isn't covered not at all
  twice : (c : Cell) → IsReduced g t c → IsDoubled g shape t places c → 2 ≤ times c
  twice c red d =
      elim (cases_order (times c) 1) [
        | inl e ↦ let o = once g law shape form t triple places isometries c red e in absurd (d.differ (o.only d.one d.first ∙ sym (o.only d.other d.second)))
        | inr o ↦ elim o [
          | inl l ↦ let m = missed g law shape form t triple places isometries c red (omega arith) in absurd (m.none d.one d.first)
          | inr l ↦ l
        ]
      ]

  never : (c : Cell) → IsReduced g t c → IsMissed g shape t places c → times c < 1
  never c red m =
      elim (cases_order (times c) 1) [
        | inl e ↦ let o = once g law shape form t triple places isometries c red e in absurd (m.none o.value o.holds)
        | inr o ↦ elim o [ inl l ↦ l | inr l ↦ let d = doubled g law shape form t triple places isometries c red l in absurd (m.none d.one d.first) ]
      ]

  pub first_doubled : (c : Cell) → IsFirstAmiss g t (is_amiss g (residues g shape t places) 0 1) c → IsFirst (λ c d. IsTrue (cell_before c d)) (λ c. IsReduced g t c × IsDoubled g shape t places c) c
  first_doubled c f = record {
    holds = (f.reduced, doubled g law shape form t triple places isometries c f.reduced (elim (amiss_cases (g.is_cell c) (times c) 0 1 f.amiss) [ inl l ↦ absurd (omega arith) | inr l ↦ l ]));
    first = λ d h before. f.first d h.0 (amiss_high (g.is_cell d) (times d) 0 1 h.0.in_grid (twice d h.0 h.1)) before;
  }

  pub none_doubled : ((c : Cell) → IsReduced g t c → is_amiss g (residues g shape t places) 0 1 c ≡ false) → (c : Cell) → IsReduced g t c → ¬ IsDoubled g shape t places c
  none_doubled f c red d = let both = fine 0 1 c red (f c red) in let two = twice c red d in absurd (omega (arith, both.1, two))

  pub first_missed : (c : Cell) → ((c : Cell) → IsReduced g t c → is_amiss g (residues g shape t places) 0 1 c ≡ false) → IsFirstAmiss g t (is_amiss g (residues g shape t places) 1 1) c → IsFirst (λ c d. IsTrue (cell_before c d)) (λ c. IsReduced g t c × IsMissed g shape t places c) c
  first_missed c none f = record {
    holds = (f.reduced, missed g law shape form t triple places isometries c f.reduced (let both = fine 0 1 c f.reduced (none c f.reduced) in elim (amiss_cases (g.is_cell c) (times c) 1 1 f.amiss) [ inl l ↦ omega (arith, l) | inr l ↦ absurd (omega (arith, l, both.1)) ]));
    first = λ d h before. f.first d h.0 (amiss_low (g.is_cell d) (times d) 1 1 h.0.in_grid (never d h.0 h.1)) before;
  }
