-- Literals by whole numbers, as the lines of clause texts name them.
use Rattle.std.specs.Prelude.{ℤ, pos, unsigned_abs, int_lt}
use Rattle.heesch_cnf.specs.declared.literal.Lit.{Lit}

-- the literal of the variable of the number's magnitude, negated where the number isn't positive
abbrev pub numbered_literal : ℤ → Lit
numbered_literal n = record { var = unsigned_abs n; positive = int_lt (pos 0) n }
