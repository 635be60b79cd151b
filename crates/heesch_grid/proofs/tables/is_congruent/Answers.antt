use Rattle.std.proofs.Common.{◌≡◌, Bool, ◌&&◌, ℤ, ◌-ℤ◌, to_z, of_z, w32, unsigned_abs, sym, ap, ◌∙◌, arith}
use Rattle.std.proofs.lemmas.Int.{ints}
use Rattle.heesch_grid.specs.Pattern.{divides}
use Rattle.heesch_grid.proofs.tables.is_congruent.Goals as goal

abbrev read : ℤ → ℤ
read z = to_z w32 (of_z w32 z)

-- the same test of the same numbers
same_test : (r : Bool) (m n z w : ℤ) → r ≡ divides (unsigned_abs m) z → m ≡ n → z ≡ w → r ≡ divides (unsigned_abs n) w
same_test r m n z w e f g = e ∙ ap (λ m. divides (unsigned_abs m) z) f ∙ ap (divides (unsigned_abs n)) g

pub returns-then-is_multiple : goal.returns-then-is_multiple
returns-then-is_multiple c =
    let y = c.args.c.b -ℤ c.args.o.b in
    let first = same_test _ (read c.args.n) c.args.n (read (read c.args.c.a -ℤ read c.args.o.a)) (c.args.c.a -ℤ c.args.o.a) c.is_multiple.ensures (omega (arith, ints)) (omega (arith, ints)) in
    let second = same_test _ (read c.args.n) c.args.n (read (read c.args.c.b -ℤ read c.args.o.b)) y c.is_multiple-then-is_multiple.ensures (omega (arith, ints)) (omega (arith, ints)) in
    second ∙ sym (ap (λ b. b && divides (unsigned_abs c.args.n) y) (sym first ∙ c.if-is_multiple.true))

pub returns-else-is_multiple : goal.returns-else-is_multiple
returns-else-is_multiple c =
    let first = same_test _ (read c.args.n) c.args.n (read (read c.args.c.a -ℤ read c.args.o.a)) (c.args.c.a -ℤ c.args.o.a) c.is_multiple.ensures (omega (arith, ints)) (omega (arith, ints)) in
    c.if-is_multiple.false ∙ sym (ap (λ b. b && divides (unsigned_abs c.args.n) (c.args.c.b -ℤ c.args.o.b)) (sym first ∙ c.if-is_multiple.false))
