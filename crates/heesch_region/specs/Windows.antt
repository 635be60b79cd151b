-- Windows of the plane, and the marks of their pairs.
-- A row of pairs is kept in as many strips as a unit has columns: a strip has the pairs whose columns leave one rest.
use Rattle.std.specs.Prelude.{ℕ, ◌+◌, ◌*◌, ◌/◌, ◌%◌, ◌==◌, ◌-ℤ◌, ◌+ℤ◌, pos, nat_abs, nat_lt, nat_le, int_le, Bool, ◌&&◌, List}
use Rattle.heesch_grid.specs.declared.Cell.{Cell}
use Rattle.heesch_grid.specs.Cells.{cell}
use Rattle.heesch_region.specs.declared.window.Window.{Window}
use Rattle.heesch_region.specs.Bits.{bit_of}

-- how many bits a strip has, and how many pairs a row
abbrev pub bits : Window → ℕ
bits w = 64 * w.words

abbrev pub wide : Window → ℕ
wide w = 64 * w.words * w.unit

-- how many words hold the marks
abbrev pub size : Window → ℕ
size w = w.tall * w.unit * w.words

-- how far a pair is from the first column and the first row
abbrev pub column : Window → Cell → ℕ
column w c = nat_abs (c.a -ℤ w.low.a)

abbrev pub row : Window → Cell → ℕ
row w c = nat_abs (c.b -ℤ w.low.b)

-- the window has the pair
abbrev pub is_inside : Window → Cell → Bool
is_inside w c =
    int_le w.low.a c.a && (nat_lt (column w c) (wide w) && (int_le w.low.b c.b && nat_lt (row w c) w.tall))

-- the pair is not in the border of the window: the first and the last word of each strip, and four rows below and above
abbrev pub is_inner : Window → Cell → Bool
is_inner w c =
    is_inside w c && (nat_le 64 (column w c / w.unit) && (nat_lt (column w c / w.unit + 64) (bits w) && (nat_le 4 (row w c) && nat_lt (row w c + 4) w.tall)))

-- the strip of a pair, and the bit of its mark
abbrev pub strip : Window → Cell → ℕ
strip w c = row w c * w.unit + column w c % w.unit

abbrev pub place : Window → Cell → ℕ
place w c = strip w c * bits w + column w c / w.unit

-- the pair of a bit
abbrev pub cell_of : Window → ℕ → Cell
cell_of w n = cell (w.low.a +ℤ pos (n % bits w * w.unit + n / bits w % w.unit)) (w.low.b +ℤ pos (n / bits w / w.unit))

-- the number of a pair, row by row
abbrev pub order : Window → Cell → ℕ
order w c = row w c * wide w + column w c

-- the pair is in the window and marked
abbrev pub is_marked : Window → List ℕ → Cell → Bool
is_marked w words c = is_inside w c && bit_of words (place w c) == 1
