-- Sums, differences and multiples of pairs.
use Rattle.std.proofs.Common.{negsuc, nat_abs, ◌||◌, ◌⊎◌, inl, inr, List, [], ◌∷◌, All, Contains, ◌≡◌, ◌≢◌, ℕ, ◌*◌, ◌≤◌, Bool, true, false, ◌&&◌, ℤ, pos, ◌+ℤ◌, ◌*ℤ◌, ◌≤ℤ◌, neg_ℤ, int_le, refl, sym, ap, ◌∙◌, arith}
use Rattle.std.specs.Ordering.{int_eq}
use Rattle.std.proofs.lemmas.Int.{ints}
use Rattle.std.proofs.lemmas.Bool.{and_parts, and_from, cases_Bool, true≢false}
use Rattle.std.proofs.lemmas.Map.Views.{Contains-from_any}
use Rattle.std.proofs.lemmas.List.Elements.{All-cons, All-nil}
use Rattle.std.proofs.lemmas.Bool.Decides.{Decides-int_eq}
use Rattle.heesch_grid.specs.declared.Cell.{Cell}
use Rattle.heesch_grid.specs.Cells.{cell, same_cell, has}
use Rattle.heesch_grid.specs.Pattern.{Turn, form, turned, within_test}
use Rattle.heesch_grid.specs.Vectors.{IsWithin, plus, times}
use Rattle.heesch_grid.specs.Integers.{add_mul, small_product, mul_add, mul_assoc, mul_comm}

pub Cell-eta : (c d : Cell) → c.a ≡ d.a → c.b ≡ d.b → c ≡ d
Cell-eta c d p q = λ i. record { a = p i; b = q i }

pub same_cell-true : (c d : Cell) → same_cell c d ≡ true → c ≡ d
same_cell-true c d h =
    let both = and_parts (int_eq c.a d.a) (int_eq c.b d.b) h in
    Cell-eta c d ((Decides-int_eq c.a d.a).0 both.0) ((Decides-int_eq c.b d.b).0 both.1)

pub same_cell-refl : (c : Cell) → same_cell c c ≡ true
same_cell-refl c = and_from (int_eq c.a c.a) (int_eq c.b c.b) ((Decides-int_eq c.a c.a).1 refl) ((Decides-int_eq c.b c.b).1 refl)

pub same_cell-is : (c d : Cell) → c ≡ d → same_cell c d ≡ true
same_cell-is c d e = rw e (same_cell-refl d)

pub times_add : (n : ℕ) (c d : Cell) → times n (plus c d) ≡ plus (times n c) (times n d)
times_add n c d = Cell-eta (times n (plus c d)) (plus (times n c) (times n d)) (mul_add (pos n) c.a d.a) (mul_add (pos n) c.b d.b)

pub form_add : (r c d : Cell) → form r (plus c d) ≡ (form r c +ℤ form r d)
form_add r c d = omega (arith, ints, mul_add r.a c.a d.a, mul_add r.b c.b d.b)

-- a form of a multiple
pub form_times : (r c : Cell) (n : ℕ) → form r (times n c) ≡ (pos n *ℤ form r c)
form_times r c n =
    omega (arith, ints, mul_add (pos n) (r.a *ℤ c.a) (r.b *ℤ c.b), mul_assoc r.a (pos n) c.a, mul_assoc r.b (pos n) c.b, mul_assoc (pos n) r.a c.a, mul_assoc (pos n) r.b c.b, ap (λ x. x *ℤ c.a) (mul_comm r.a (pos n)), ap (λ x. x *ℤ c.b) (mul_comm r.b (pos n)))

pub turned_add : (t : Turn) (c d : Cell) → turned t (plus c d) ≡ plus (turned t c) (turned t d)
turned_add t c d = Cell-eta (turned t (plus c d)) (plus (turned t c) (turned t d)) (form_add t.new_a c d) (form_add t.new_b c d)

pub turned_times : (t : Turn) (c : Cell) (n : ℕ) → turned t (times n c) ≡ times n (turned t c)
turned_times t c n = Cell-eta (turned t (times n c)) (times n (turned t c)) (form_times t.new_a c n) (form_times t.new_b c n)

-- The coefficients of a form after a turn, and of two turns.
abbrev pub form_after : Cell → Turn → Cell
form_after r s =
    cell ((r.a *ℤ s.new_a.a) +ℤ (r.b *ℤ s.new_b.a)) ((r.a *ℤ s.new_a.b) +ℤ (r.b *ℤ s.new_b.b))

-- the turn s followed by the turn t
abbrev pub turn_after : Turn → Turn → Turn
turn_after t s = record { new_a = form_after t.new_a s; new_b = form_after t.new_b s }

form_after_is : (r : Cell) (s : Turn) (c : Cell) → form (form_after r s) c ≡ form r (turned s c)
form_after_is r s c =
    let x = s.new_a in
    let y = s.new_b in
    omega (arith, ints, mul_add r.a (x.a *ℤ c.a) (x.b *ℤ c.b), mul_add r.b (y.a *ℤ c.a) (y.b *ℤ c.b), mul_assoc r.a x.a c.a, mul_assoc r.a x.b c.b, mul_assoc r.b y.a c.a, mul_assoc r.b y.b c.b, add_mul (r.a *ℤ x.a) (r.b *ℤ y.a) c.a, add_mul (r.a *ℤ x.b) (r.b *ℤ y.b) c.b)

pub turn_after_is : (t s : Turn) (c : Cell) → turned (turn_after t s) c ≡ turned t (turned s c)
turn_after_is t s c =
    Cell-eta (turned (turn_after t s) c) (turned t (turned s c)) (form_after_is t.new_a s c) (form_after_is t.new_b s c)

-- whether the coefficients are the same
abbrev pub turn_eq : Turn → Turn → Bool
turn_eq s t = same_cell s.new_a t.new_a && same_cell s.new_b t.new_b

pub eq_turn : (s t : Turn) → turn_eq s t ≡ true → s ≡ t
eq_turn s t h =
    let both = and_parts (same_cell s.new_a t.new_a) (same_cell s.new_b t.new_b) h in
    let make : Cell → Cell → Turn = λ x y. record { new_a = x; new_b = y } in
    let e : make s.new_a s.new_b ≡ make t.new_a t.new_b = rw (same_cell-true s.new_a t.new_a both.0, same_cell-true s.new_b t.new_b both.1) refl in
    e

pub within_of : (n : ℕ) (c : Cell) → within_test n c ≡ true → IsWithin n c
within_of n c h =
    let x = and_parts (int_le (neg_ℤ (pos n)) c.a) (int_le c.a (pos n) && (int_le (neg_ℤ (pos n)) c.b && int_le c.b (pos n))) h in
    let y = and_parts (int_le c.a (pos n)) (int_le (neg_ℤ (pos n)) c.b && int_le c.b (pos n)) x.1 in
    let z = and_parts (int_le (neg_ℤ (pos n)) c.b) (int_le c.b (pos n)) y.1 in
    record { a_low = omega (arith, ints, x.0); a_high = omega (arith, ints, y.0); b_low = omega (arith, ints, z.0); b_high = omega (arith, ints, z.1) }

form_within : (r c : Cell) (n : ℕ) → IsWithin 1 r → IsWithin n c → (neg_ℤ (pos (2 * n)) ≤ℤ form r c) × (form r c ≤ℤ pos (2 * n))
form_within r c n s w =
    let x = small_product r.a c.a n s.a_low s.a_high w.a_low w.a_high in
    let y = small_product r.b c.b n s.b_low s.b_high w.b_low w.b_high in
    (omega (arith, ints, x.0, x.1, y.0, y.1), omega (arith, ints, x.0, x.1, y.0, y.1))

-- whether no coefficient has more than 1
abbrev pub small_turn : Turn → Bool
small_turn t = within_test 1 t.new_a && within_test 1 t.new_b

pub turned_within : (t : Turn) (c : Cell) (n : ℕ) → small_turn t ≡ true → IsWithin n c → IsWithin (2 * n) (turned t c)
turned_within t c n h w =
    let both = and_parts (within_test 1 t.new_a) (within_test 1 t.new_b) h in
    let x = form_within t.new_a c n (within_of 1 t.new_a both.0) w in
    let y = form_within t.new_b c n (within_of 1 t.new_b both.1) w in
    record { a_low = x.0; a_high = x.1; b_low = y.0; b_high = y.1 }

-- the bounds by absolute values
pub within_abs : (n : ℕ) (c : Cell) → nat_abs c.a ≤ n → nat_abs c.b ≤ n → IsWithin n c
within_abs n c p q = record { a_low = (low c.a p).0; a_high = (low c.a p).1; b_low = (low c.b q).0; b_high = (low c.b q).1 }
  where
    low : (z : ℤ) → nat_abs z ≤ n → (neg_ℤ (pos n) ≤ℤ z) × (z ≤ℤ pos n)
    low (pos m) h = (omega (arith, ints), omega (arith, ints))
    low (negsuc m) h = (omega (arith, ints), omega (arith, ints))

pub abs_within : (n : ℕ) (c : Cell) → IsWithin n c → (nat_abs c.a ≤ n) × (nat_abs c.b ≤ n)
abs_within n c w = (size c.a w.a_low w.a_high, size c.b w.b_low w.b_high)
  where
    size : (z : ℤ) → neg_ℤ (pos n) ≤ℤ z → z ≤ℤ pos n → nat_abs z ≤ n
    size (pos m) h k = omega (arith, ints)
    size (negsuc m) h k = omega (arith, ints)

-- equal or not
pub int_cases : (x y : ℤ) → (x ≡ y) ⊎ (x ≢ y)
int_cases x y = elim (cases_Bool (int_eq x y)) [ inl e ↦ inl ((Decides-int_eq x y).0 e) | inr e ↦ inr (λ h. true≢false (sym ((Decides-int_eq x y).1 h) ∙ e)) ]

pub or-right : (a b : Bool) → b ≡ true → (a || b) ≡ true
or-right true b e = refl
or-right false b e = e

pub or-left : (a b : Bool) → a ≡ true → (a || b) ≡ true
or-left true b e = refl
or-left false b e = absurd (true≢false (sym e))

-- members by their test
pub has-true : (xs : List Cell) (c : Cell) → has xs c ≡ true → Contains xs c
has-true xs c t = Contains-from_any same_cell-true c xs t

-- a property of every member
pub All-by_members : (P : Cell → Type 0) (xs : List Cell) → ((c : Cell) → has xs c ≡ true → P c) → All P xs
All-by_members P [] h = All-nil P
All-by_members P (x ∷ xs) h =
    All-cons P x xs (h x (or-left (same_cell x x) (has xs x) (same_cell-refl x))) (All-by_members P xs (λ c k. h c (or-right (same_cell c x) (has xs c) k)))
