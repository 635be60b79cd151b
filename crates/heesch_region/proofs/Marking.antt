-- Marks in a window.
use Rattle.std.proofs.Common.{◌≡◌, ◌≢◌, refl, sym, ap, subst, ◌∙◌, ℕ, zero, suc, ◌+◌, ◌*◌, ◌/◌, ◌%◌, ◌<◌, ◌≤◌, Bool, true, false, ◌&&◌, ◌||◌, ◌==◌, List, [], ◌∷◌, ◌++◌, length, get_or, replicate, inl, inr, arith, true≢false, eqb-true}
use Rattle.std.specs.Prelude.{slice_index, nat_lt}
use Rattle.std.proofs.Math.Seq.{get_or-append_seam}
use Rattle.std.proofs.lemmas.List.{get_or_append_left}
use Rattle.std.specs.Int.{bit_at}
use Rattle.std.proofs.lemmas.Nat.Bits.{bit_at-zero}
use Rattle.std.proofs.lemmas.Bool.{and_parts, and_from, cases_Bool}
use Rattle.heesch_grid.specs.declared.Cell.{Cell}
use Rattle.heesch_grid.specs.Cells.{same_cell}
use Rattle.heesch_grid.specs.Pairs.{same_cell-true, same_cell-is, or-right}
use Rattle.heesch_region.specs.declared.window.Window.{Window}
use Rattle.heesch_region.specs.Bits.{bit_of}
use Rattle.heesch_region.specs.Windows.{size, is_inside, is_inner, place, cell_of, is_marked}
use Rattle.heesch_region.proofs.Places.{IsIn, inside-true, inside-is, inner-true, place_same, place_below, pair_of_place}

one-is : (n : ℕ) → n ≡ 1 → (n == 1) ≡ true
one-is n e = ap (λ m. m == 1) e

-- a marked pair is in the window, and its bit is set
pub marked-true : (w : Window) (words : List ℕ) (c : Cell) → is_marked w words c ≡ true → IsIn w c × (bit_of words (place w c) ≡ 1)
marked-true w words c h =
    let both = and_parts (is_inside w c) (bit_of words (place w c) == 1) h in
    (inside-true w c both.0, eqb-true (bit_of words (place w c)) 1 both.1)

pub marked-is : (w : Window) (words : List ℕ) (c : Cell) → IsIn w c → bit_of words (place w c) ≡ 1 → is_marked w words c ≡ true
marked-is w words c i e = and_from (is_inside w c) (bit_of words (place w c) == 1) (inside-is w c i) (one-is (bit_of words (place w c)) e)

-- one more cell is marked
pub mark_more : (w : Window) (old new : List ℕ) (c : Cell) → IsIn w c → bit_of new (place w c) ≡ 1 → ((n : ℕ) → n ≢ place w c → bit_of new n ≡ bit_of old n) → (d : Cell) → is_marked w new d ≡ (is_marked w old d || same_cell d c)
mark_more w old new c i here other d = go (same_cell d c) refl
  where
    or_none : (a : Bool) → a ≡ (a || false)
    or_none true = refl
    or_none false = refl

    inside : (b : Bool) → is_inside w d ≡ b → same_cell d c ≡ false → (b && bit_of new (place w d) == 1) ≡ (b && bit_of old (place w d) == 1)
    inside true t f = ap (λ m. m == 1) (other (place w d) (λ e. true≢false (sym (same_cell-is d c (place_same w d c (inside-true w d t) i e)) ∙ f)))
    inside false n f = refl

    go : (b : Bool) → same_cell d c ≡ b → is_marked w new d ≡ (is_marked w old d || b)
    go true t =
        let e : d ≡ c = same_cell-true d c t in
        subst (λ x. is_marked w new x ≡ true) (sym e) (marked-is w new c i here) ∙ sym (or-right (is_marked w old d) true refl)
    go false f = inside (is_inside w d) refl f ∙ or_none (is_marked w old d)

no_word : (n i : ℕ) → slice_index (replicate n 0) i ≡ 0
no_word zero i = refl
no_word (suc n) zero = refl
no_word (suc n) (suc i) = no_word n i

-- at first nothing is marked
pub unmarked : (w : Window) (n : ℕ) (c : Cell) → is_marked w (replicate n 0) c ≡ false
unmarked w n c = go (is_inside w c)
  where
    bit : bit_of (replicate n 0) (place w c) ≡ 0
    bit = ap (λ m. bit_at m (place w c % 64)) (no_word n (place w c / 64)) ∙ bit_at-zero (place w c % 64)

    go : (b : Bool) → (b && bit_of (replicate n 0) (place w c) == 1) ≡ false
    go true = ap (λ m. m == 1) bit
    go false = refl

-- one more word of marks
pub words_more : (words : List ℕ) (word : ℕ) (f : ℕ → Bool) → ((n : ℕ) → n < 64 * length words → (bit_of words n == 1) ≡ f n) → ((j : ℕ) → j < 64 → (bit_at word j == 1) ≡ f (64 * length words + j)) → (n : ℕ) → n < 64 * (length words + 1) → (bit_of (words ++ word ∷ []) n == 1) ≡ f n
words_more words word f old here n l = elim (cases_Bool (nat_lt n (64 * length words))) [
  | inl t ↦ ap (λ w. bit_at w (n % 64) == 1) (get_or_append_left words (word ∷ []) 0 (n / 64) (let k = below n (64 * length words) t in omega (arith, k))) ∙ old n (below n (64 * length words) t)
  | inr e ↦
      let low = above n (64 * length words) e in
      let at : n / 64 ≡ length words = omega (arith, low, l) in
      let whole : 64 * length words + n % 64 ≡ n = omega (arith, at) in
      ap (λ k. bit_at (get_or (words ++ word ∷ []) k 0) (n % 64) == 1) at
      ∙ ap (λ w. bit_at w (n % 64) == 1) (get_or-append_seam words word [] 0)
      ∙ here (n % 64) (omega arith)
      ∙ ap f whole
]
  where
    below : (m n : ℕ) → nat_lt m n ≡ true → m < n
    below m n h = grind arith

    above : (m n : ℕ) → nat_lt m n ≡ false → n ≤ m
    above m n h = grind arith

-- the marks that each bit of a pair gives
pub marks_all : (w : Window) (words : List ℕ) (f : Cell → Bool) → ((n : ℕ) → n < 64 * size w → (bit_of words n == 1) ≡ (is_inner w (cell_of w n) && f (cell_of w n))) → (c : Cell) → is_marked w words c ≡ (is_inner w c && f c)
marks_all w words f bits c = go (is_inside w c) refl
  where
    inner-none : is_inside w c ≡ false → is_inner w c ≡ false
    inner-none e = elim (cases_Bool (is_inner w c)) [
      | inl t ↦ absurd (true≢false (sym (inside-is w c (inner-true w c t).inside) ∙ e))
      | inr f ↦ f
    ]

    go : (b : Bool) → is_inside w c ≡ b → (b && bit_of words (place w c) == 1) ≡ (is_inner w c && f c)
    go true t = let i = inside-true w c t in bits (place w c) (place_below w c i) ∙ ap (λ d. is_inner w d && f d) (pair_of_place w c i)
    go false n = ap (λ b. b && f c) (sym (inner-none n))
