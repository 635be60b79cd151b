-- What a tally asks of a verdict.
use Rattle.std.specs.Prelude.{ℕ, suc, Bool, false, true, ◌==◌}
use Rattle.heesch_cert.specs.declared.verdict.Kind.{Kind}
use Rattle.heesch_cert.specs.declared.verdict.Kind.TheVariants.{Translation, HalfTurn, Periodic}
use Rattle.heesch_cert.specs.declared.verdict.Verdict.{Verdict}
use Rattle.heesch_cert.specs.declared.verdict.Verdict.TheVariants.{Tiles, Heesch, Levels, Holes, Turns, Size}

-- whether it tiles by this kind of tiling: by translations, by translations and half-turns, or periodically by other isometries
abbrev pub tiles_by : Kind → Verdict → Bool
tiles_by Translation (Tiles Translation domain classes) = true
tiles_by HalfTurn (Tiles HalfTurn domain classes) = true
tiles_by Periodic (Tiles Periodic domain classes) = true
tiles_by kind _ = false

-- whether it tiles, with one class of tiles
abbrev pub is_isohedral : Verdict → Bool
is_isohedral (Tiles kind domain classes) = classes == 1
is_isohedral _ = false

-- whether its Heesch number is this one
abbrev pub has_heesch : ℕ → Verdict → Bool
has_heesch number (Heesch h m) = h == number
has_heesch number _ = false

-- whether it is undecided since as many coronas as the limit on levels were found
abbrev pub is_levels : Verdict → Bool
is_levels (Levels h) = true
is_levels _ = false

-- whether it is undecided since as many coronas with holes were found
abbrev pub is_holes : Verdict → Bool
is_holes (Holes h) = true
is_holes _ = false

-- whether it is undecided since a search took all its turns
abbrev pub is_turns : Verdict → Bool
is_turns (Turns h phase at) = true
is_turns _ = false

-- whether it is undecided since a formula is too large
abbrev pub is_size : Verdict → Bool
is_size (Size h phase at) = true
is_size _ = false

-- a number above the Heesch number of the verdict, where it has one
abbrev pub above_heesch : Verdict → ℕ
above_heesch (Heesch h m) = suc h
above_heesch _ = 0
