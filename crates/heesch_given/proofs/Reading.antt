-- A list text, as far as it was read, and its end.
use Rattle.std.proofs.Common.{◌≡◌, ◌≢◌, ℕ, ◌+◌, ◌<◌, ◌≤◌, List, [], ◌∷◌, ◌++◌, length, map, take, drop, get_or, length-append, refl, sym, ap, subst, ◌∙◌, arith, append_assoc, append-nil, inl, inr}
use Rattle.std.specs.Prelude.{Result, Ok, Err, IfOk, IfErr}
use Rattle.std.specs.List.{AllZip}
use Rattle.std.proofs.lemmas.List.{map-append, take_more, take-append-drop}
use Rattle.std.proofs.lemmas.List.Elements.{All-push, AllZip-push, length_all_zip}
use Rattle.std.proofs.ByRecursion as recursive
use Rattle.heesch_grid.specs.declared.Cell.{Cell}
use Rattle.heesch_grid.specs.Geometry.{Geometry}
use Rattle.heesch_text.specs.Fields.{cells_text}
use Rattle.heesch_text.specs.Shapes.{list_text}
use Rattle.heesch_line.specs.Lists.{lines_of, AreCells}
use Rattle.heesch_line.specs.Scanning.{Scanned, IsScanned, IsLineOf}
use Rattle.heesch_shape.specs.declared.faults.ShapeFault.{ShapeFault}
use Rattle.heesch_shape.specs.Faults.{IsFault, IsFaultless, number_of}
use Rattle.heesch_given.specs.Given.{AreGiven, IsCanonicalOf, IsShapeLine, IsNoShape, IsLineFault, EndsInTime, HasFault}
use Rattle.heesch_line.specs.declared.stops.InputStop.{InputStop}
use Rattle.heesch_line.specs.declared.stops.InputStop.TheVariants as stops
use Rattle.heesch_given.specs.Steps.{IsRead, AddsShape, EndsLine, IsFrontStop, IsWholeStop, IsStopBeyond}
use Rattle.heesch_given.proofs.ShapeFaults.{faultless_all, fault_of_all}
use Rattle.heesch_given.proofs.Texts.{front_lines, text_more, line_ended, begun_line, goes_on_in, last_line, line_more}

-- ---- the line that ended

-- where the first 33 cells are a shape's, the line is
pub shape_line : (g : Geometry) (line : List ℕ) (first canonical : List Cell) → IsLineOf line first → IsCanonicalOf g first canonical → IsFaultless g first → IsShapeLine g line canonical
shape_line g line first canonical l is faultless =
    let same : first ≡ l.all = l.first_are ∙ faultless_all g l.all (subst (IsFaultless g) l.first_are faultless) in
    record {
      cells = l.all;
      are_cells = l.are;
      text = l.text;
      faultless = subst (IsFaultless g) same faultless;
      is_canonical = subst (λ (cells : List Cell). IsCanonicalOf g cells canonical) same is;
    }

-- it is no shape, by its first 33 cells
pub no_shape : (g : Geometry) (line : List ℕ) (first : List Cell) (fault : ShapeFault) → IsLineOf line first → IsFault g first fault → IsNoShape g line (number_of fault)
no_shape g line first fault l is =
    let of_all = fault_of_all g l.all fault (subst (λ (cells : List Cell). IsFault g cells fault) l.first_are is) in
    record { cells = l.all; are_cells = l.are; text = l.text; fault = of_all.0; is_fault = of_all.1; number_is = sym of_all.2 }

-- ---- one byte more

pub nothing_read : (g : Geometry) (s : Scanned) → IsScanned [] s → IsRead g [] [] s
nothing_read g s scanned = record {
  begin = record {
    given = [];
    line = [];
    text = refl;
    one_line = tt;
    cells = tt;
    shapes = λ i d less. absurd (omega (arith, less));
    few = omega arith;
    full = λ none. refl;
  };
  canonical = tt;
  scanned = scanned;
}

-- as many lines ended as shapes were kept
pub as_many : (g : Geometry) (bytes : List ℕ) (shapes : List (List Cell)) (s : Scanned) → (r : IsRead g bytes shapes s) → length r.begin.given ≡ length shapes
as_many g bytes shapes s r = length_all_zip (IsCanonicalOf g) r.begin.given shapes r.canonical

-- a byte of the line
pub line_goes_on : (g : Geometry) (bytes : List ℕ) (shapes : List (List Cell)) (old new : Scanned) (byte : ℕ) → (r : IsRead g bytes shapes old) → length shapes < 10000 → byte ≢ 10
    → IsScanned (r.begin.line ++ byte ∷ []) new → IsRead g (bytes ++ byte ∷ []) shapes new
line_goes_on g bytes shapes old new byte r less other scanned =
    let u = r.begin in
    record {
      begin = record {
        given = u.given;
        line = u.line ++ byte ∷ [];
        text = ap (λ (t : List ℕ). t ++ byte ∷ []) u.text ∙ append_assoc (list_text u.given) u.line (byte ∷ []);
        one_line = line_more u.line byte u.one_line other;
        cells = u.cells;
        shapes = u.shapes;
        few = u.few;
        full = λ full. absurd (omega (arith, full, less, as_many g bytes shapes old r));
      };
      canonical = r.canonical;
      scanned = scanned;
    }

-- the newline of a shape
pub line_ends : (g : Geometry) (bytes : List ℕ) (old new : List (List Cell)) (s t : Scanned) → (r : IsRead g bytes old s) → length old < 10000
    → AddsShape g r.begin.line old new → IsScanned [] t → IsRead g (bytes ++ 10 ∷ []) new t
line_ends g bytes old new s t r less a scanned =
    let u = r.begin in
    let longer : length (u.given ++ a.shape.cells ∷ []) ≡ length u.given + 1 = length-append u.given (a.shape.cells ∷ []) in
    record {
      begin = record {
        given = u.given ++ a.shape.cells ∷ [];
        line = [];
        text = ap (λ (x : List ℕ). x ++ 10 ∷ []) u.text
            ∙ append_assoc (list_text u.given) u.line (10 ∷ [])
            ∙ ap (λ (l : List ℕ). list_text u.given ++ (l ++ 10 ∷ [])) a.shape.text
            ∙ sym (text_more u.given a.shape.cells)
            ∙ sym (append-nil (list_text (u.given ++ a.shape.cells ∷ [])));
        one_line = tt;
        cells = recursive.All-push AreCells u.given a.shape.cells u.cells a.shape.are_cells;
        shapes = All-push (IsFaultless g) u.given a.shape.cells u.shapes a.shape.faultless;
        few = omega (arith, longer, less, as_many g bytes old s r);
        full = λ full. refl;
      };
      canonical = subst (AllZip (IsCanonicalOf g) (u.given ++ a.shape.cells ∷ [])) (sym a.added) (AllZip-push (IsCanonicalOf g) u.given old a.shape.cells a.canonical r.canonical a.shape.is_canonical);
      scanned = scanned;
    }

-- ---- a line at fault

-- line 10,001 begins
pub one_too_many : (most : ℕ) (g : Geometry) (bytes : List ℕ) (shapes : List (List Cell)) (s : Scanned) (byte : ℕ) (rest : List ℕ) → IsRead g bytes shapes s → 10000 ≤ length shapes → length bytes ≤ most
    → HasFault most g (bytes ++ byte ∷ rest) (length shapes + 1) 7
one_too_many most g bytes shapes s byte rest r many few =
    let u = r.begin in
    let same = as_many g bytes shapes s r in
    let full : length u.given ≡ 10000 = omega (arith, many, same, u.few) in
    let whole : bytes ≡ list_text u.given = u.text ∙ ap (λ (l : List ℕ). list_text u.given ++ l) (u.full full) ∙ append-nil (list_text u.given) in
    let line = begun_line byte rest in
    record {
      given = u.given;
      at = line.whole;
      goes_on = record {
        back = line.back;
        lines = ap (λ (t : List ℕ). lines_of (t ++ byte ∷ rest)) whole ∙ front_lines u.given (byte ∷ rest) u.cells ∙ ap (λ (ls : List (List ℕ)). map cells_text u.given ++ ls) line.lines;
        cells = u.cells;
      };
      shapes = u.shapes;
      in_time = subst (λ (t : List ℕ). length t ≤ most) whole few;
      fault = inl (full, refl);
      line_is = omega (arith, same);
    }

text_split : (given : List (List Cell)) (line bytes rest : List ℕ) → bytes ≡ list_text given ++ line → bytes ++ rest ≡ list_text given ++ (line ++ rest)
text_split given line bytes rest text = ap (λ (t : List ℕ). t ++ rest) text ∙ append_assoc (list_text given) line rest

bytes_long : (given : List (List Cell)) (line bytes : List ℕ) → bytes ≡ list_text given ++ line → length bytes ≡ length (list_text given) + length line
bytes_long given line bytes text = ap length text ∙ length-append (list_text given) line

-- a line that ended is at fault
pub ended_fault : (most : ℕ) (g : Geometry) (bytes : List ℕ) (shapes : List (List Cell)) (s : Scanned) (number : ℕ) (rest : List ℕ) → (r : IsRead g bytes shapes s) → length shapes < 10000
    → IsLineFault g r.begin.line number → length (bytes ++ 10 ∷ []) ≤ most → HasFault most g ((bytes ++ 10 ∷ []) ++ rest) (length shapes + 1) number
ended_fault most g bytes shapes s number rest r less own few =
    let u = r.begin in
    let same = as_many g bytes shapes s r in
    let long = bytes_long u.given u.line bytes u.text in
    let one_more = length-append bytes (10 ∷ []) in
    let whole : (bytes ++ 10 ∷ []) ++ rest ≡ list_text u.given ++ (u.line ++ 10 ∷ rest) = append_assoc bytes (10 ∷ []) rest ∙ text_split u.given u.line bytes (10 ∷ rest) u.text in
    record {
      given = u.given;
      at = u.line;
      goes_on = record {
        back = lines_of rest;
        lines = ap lines_of whole ∙ front_lines u.given (u.line ++ 10 ∷ rest) u.cells ∙ ap (λ (ls : List (List ℕ)). map cells_text u.given ++ ls) (line_ended u.line rest u.one_line);
        cells = u.cells;
      };
      shapes = u.shapes;
      in_time = omega (arith, long, one_more, few);
      fault = inr (inl (omega (arith, less, same), inl (omega (arith, long, one_more, few)), own));
      line_is = omega (arith, same);
    }

-- the last line, which has no newline, is at fault
pub last_fault : (most : ℕ) (g : Geometry) (bytes : List ℕ) (shapes : List (List Cell)) (s : Scanned) (number : ℕ) → (r : IsRead g bytes shapes s) → r.begin.line ≢ []
    → IsLineFault g r.begin.line number → length bytes ≤ most → HasFault most g bytes (length shapes + 1) number
last_fault most g bytes shapes s number r some own few =
    let u = r.begin in
    let same = as_many g bytes shapes s r in
    let long = bytes_long u.given u.line bytes u.text in
    let less : length u.given < 10000 = not_full (length u.given) u.few (λ full. some (u.full full)) in
    record {
      given = u.given;
      at = u.line;
      goes_on = record {
        back = [];
        lines = ap lines_of u.text ∙ front_lines u.given u.line u.cells ∙ ap (λ (ls : List (List ℕ)). map cells_text u.given ++ ls) (last_line u.line some u.one_line);
        cells = u.cells;
      };
      shapes = u.shapes;
      in_time = omega (arith, long, few);
      fault = inr (inl (less, inr few, own));
      line_is = omega (arith, same);
    }
  where
    not_full : (n : ℕ) → n ≤ 10000 → (n ≡ 10000 → ⊥) → n < 10000
    not_full n few other = grind (arith, few, other)

-- a line goes on beyond what is read
pub beyond_fault : (g : Geometry) (bytes : List ℕ) (shapes : List (List Cell)) (s : Scanned) (byte : ℕ) (rest : List ℕ) → IsRead g bytes shapes s → length shapes < 10000
    → HasFault (length bytes) g (bytes ++ byte ∷ rest) (length shapes + 1) 8
beyond_fault g bytes shapes s byte rest r less =
    let u = r.begin in
    let same = as_many g bytes shapes s r in
    let long = bytes_long u.given u.line bytes u.text in
    let longer = length-append bytes (byte ∷ rest) in
    let line = goes_on_in u.line byte rest u.one_line in
    record {
      given = u.given;
      at = line.whole;
      goes_on = record {
        back = line.back;
        lines = ap lines_of (text_split u.given u.line bytes (byte ∷ rest) u.text) ∙ front_lines u.given (u.line ++ byte ∷ rest) u.cells ∙ ap (λ (ls : List (List ℕ)). map cells_text u.given ++ ls) line.lines;
        cells = u.cells;
      };
      shapes = u.shapes;
      in_time = omega (arith, long);
      fault = inr (inr (omega (arith, less, same), late line.whole long longer line.long, refl));
      line_is = omega (arith, same);
    }
  where
    late : (whole : List ℕ) → length bytes ≡ length (list_text r.begin.given) + length r.begin.line → length (bytes ++ byte ∷ rest) ≡ length bytes + length (byte ∷ rest) → length r.begin.line ≤ length whole
        → EndsInTime (length bytes) (bytes ++ byte ∷ rest) r.begin.given whole → ⊥
    late whole long longer more (inl ends) = omega (arith, long, more, ends)
    late whole long longer more (inr short) = omega (arith, longer, short)

-- ---- the end of the text

-- all lines have ended
pub all_ended : (most : ℕ) (g : Geometry) (bytes : List ℕ) (shapes : List (List Cell)) (s : Scanned) → (r : IsRead g bytes shapes s) → r.begin.line ≡ [] → length bytes ≤ most → AreGiven most g bytes shapes
all_ended most g bytes shapes s r none few =
    let u = r.begin in
    record {
      given = u.given;
      listed = record {
        lines = ap lines_of (u.text ∙ ap (λ (l : List ℕ). list_text u.given ++ l) none) ∙ front_lines u.given [] u.cells ∙ append-nil (map cells_text u.given);
        cells = u.cells;
        most = u.few;
      };
      in_time = few;
      are_shapes = u.shapes;
      canonical = r.canonical;
    }

-- the last line has no newline
pub last_ends : (most : ℕ) (g : Geometry) (bytes : List ℕ) (old new : List (List Cell)) (s : Scanned) → (r : IsRead g bytes old s) → r.begin.line ≢ [] → AddsShape g r.begin.line old new → length bytes ≤ most → AreGiven most g bytes new
last_ends most g bytes old new s r some a few =
    let u = r.begin in
    let longer : length (u.given ++ a.shape.cells ∷ []) ≡ length u.given + 1 = length-append u.given (a.shape.cells ∷ []) in
    let less : length u.given < 10000 = not_full (length u.given) u.few (λ full. some (u.full full)) in
    let one : lines_of u.line ≡ cells_text a.shape.cells ∷ [] = last_line u.line some u.one_line ∙ ap (λ (l : List ℕ). l ∷ []) a.shape.text in
    record {
      given = u.given ++ a.shape.cells ∷ [];
      listed = record {
        lines = ap lines_of u.text ∙ front_lines u.given u.line u.cells ∙ ap (λ (ls : List (List ℕ)). map cells_text u.given ++ ls) one ∙ sym (map-append cells_text u.given (a.shape.cells ∷ []));
        cells = recursive.All-push AreCells u.given a.shape.cells u.cells a.shape.are_cells;
        most = omega (arith, longer, less);
      };
      in_time = few;
      are_shapes = All-push (IsFaultless g) u.given a.shape.cells u.shapes a.shape.faultless;
      canonical = subst (AllZip (IsCanonicalOf g) (u.given ++ a.shape.cells ∷ [])) (sym a.added) (AllZip-push (IsCanonicalOf g) u.given old a.shape.cells a.canonical r.canonical a.shape.is_canonical);
    }
  where
    not_full : (n : ℕ) → n ≤ 10000 → (n ≡ 10000 → ⊥) → n < 10000
    not_full n few other = grind (arith, few, other)

-- ---- a fault at a front

-- it is one of a longer front
pub front_stop_later : (g : Geometry) (front more : List ℕ) (e : InputStop ℕ) → IsFrontStop g front e → IsFrontStop g (front ++ more) e
front_stop_later g front more (stops.Fault line number) h = λ most rest few.
    subst (λ (t : List ℕ). HasFault most g t line number) (sym (append_assoc front more rest)) (h most (more ++ rest) (omega (arith, few, length-append front more)))
front_stop_later g front more stops.Failed h = absurd h
front_stop_later g front more stops.NoMemory h = tt

-- the answer to a newline
pub newline_stops : (g : Geometry) (bytes : List ℕ) (old new : List (List Cell)) (s t : Scanned) (e : InputStop ℕ) → (r : IsRead g bytes old s) → length old < 10000
    → EndsLine g r.begin.line old new t (Err e) → IsFrontStop g (bytes ++ 10 ∷ []) e
newline_stops g bytes old new s t (stops.Fault line number) r less h = λ most rest few.
    subst (λ (l : ℕ). HasFault most g ((bytes ++ 10 ∷ []) ++ rest) l number) (sym h.0) (ended_fault most g bytes old s number rest r less h.1 few)
newline_stops g bytes old new s t stops.Failed r less h = absurd h
newline_stops g bytes old new s t stops.NoMemory r less h = tt

-- the answer to the end of the bytes
pub end_stops : (most : ℕ) (g : Geometry) (bytes : List ℕ) (old new : List (List Cell)) (s t : Scanned) (e : InputStop ℕ) → (r : IsRead g bytes old s) → r.begin.line ≢ [] → length bytes ≤ most
    → EndsLine g r.begin.line old new t (Err e) → IsWholeStop most g bytes e
end_stops most g bytes old new s t (stops.Fault line number) r some few h =
    subst (λ (l : ℕ). HasFault most g bytes l number) (sym h.0) (last_fault most g bytes old s number r some h.1 few)
end_stops most g bytes old new s t stops.Failed r some few h = absurd h
end_stops most g bytes old new s t stops.NoMemory r some few h = tt

-- the answer to a byte that is a newline
pub newline_goes_on : (g : Geometry) (bytes : List ℕ) (byte : ℕ) (old new : List (List Cell)) (s t : Scanned) (result : Result (Unit {0}) (InputStop ℕ)) → byte ≡ 10 → (r : IsRead g bytes old s) → length old < 10000
    → EndsLine g r.begin.line old new t result → IfOk result (λ _. IsRead g (bytes ++ byte ∷ []) new t)
newline_goes_on g bytes byte old new s t (Ok u) is r less e = subst (λ (b : ℕ). IsRead g (bytes ++ b ∷ []) new t) (sym is) (line_ends g bytes old new s t r less e.0 e.1)
newline_goes_on g bytes byte old new s t (Err stop) is r less e = tt

pub newline_told : (g : Geometry) (bytes : List ℕ) (byte : ℕ) (old new : List (List Cell)) (s t : Scanned) (result : Result (Unit {0}) (InputStop ℕ)) → byte ≡ 10 → (r : IsRead g bytes old s) → length old < 10000
    → EndsLine g r.begin.line old new t result → IfErr result (IsFrontStop g (bytes ++ byte ∷ []))
newline_told g bytes byte old new s t (Ok u) is r less e = tt
newline_told g bytes byte old new s t (Err stop) is r less e = subst (λ (b : ℕ). IsFrontStop g (bytes ++ b ∷ []) stop) (sym is) (newline_stops g bytes old new s t stop r less e)

-- a byte behind 10,000 lines
pub full_told : (g : Geometry) (bytes : List ℕ) (byte : ℕ) (shapes : List (List Cell)) (s : Scanned) (e : InputStop ℕ) → IsRead g bytes shapes s → 10000 ≤ length shapes → e ≡ stops.Fault (length shapes + 1) 7 → IsFrontStop g (bytes ++ byte ∷ []) e
full_told g bytes byte shapes s e r many is = subst (IsFrontStop g (bytes ++ byte ∷ [])) (sym is) told
  where
    told : (most : ℕ) (rest : List ℕ) → length (bytes ++ byte ∷ []) ≤ most → HasFault most g ((bytes ++ byte ∷ []) ++ rest) (length shapes + 1) 7
    told most rest few =
        subst (λ (t : List ℕ). HasFault most g t (length shapes + 1) 7) (sym (append_assoc bytes (byte ∷ []) rest))
        (one_too_many most g bytes shapes s byte rest r many (omega (arith, few, length-append bytes (byte ∷ []))))

-- the text goes on beyond what is read
pub full_beyond : (g : Geometry) (bytes : List ℕ) (shapes : List (List Cell)) (s : Scanned) (e : InputStop ℕ) → IsRead g bytes shapes s → 10000 ≤ length shapes → e ≡ stops.Fault (length shapes + 1) 7 → IsStopBeyond g bytes e
full_beyond g bytes shapes s e r many is = subst (IsStopBeyond g bytes) (sym is) (λ byte rest. one_too_many (length bytes) g bytes shapes s byte rest r many (omega arith))

pub line_beyond : (g : Geometry) (bytes : List ℕ) (shapes : List (List Cell)) (s : Scanned) (e : InputStop ℕ) → IsRead g bytes shapes s → length shapes < 10000 → e ≡ stops.Fault (length shapes + 1) 8 → IsStopBeyond g bytes e
line_beyond g bytes shapes s e r less is = subst (IsStopBeyond g bytes) (sym is) (λ byte rest. beyond_fault g bytes shapes s byte rest r less)

-- no line has begun
pub not_some : (line : List ℕ) → (line ≢ [] → ⊥) → line ≡ []
not_some [] none = refl
not_some (b ∷ line) none = absurd (none (λ e. cc))

-- ---- bytes one after the other

pub byte_more : (before bytes : List ℕ) (i d : ℕ) → i < length bytes → (before ++ take i bytes) ++ get_or bytes i d ∷ [] ≡ before ++ take (i + 1) bytes
byte_more before bytes i d less = append_assoc before (take i bytes) (get_or bytes i d ∷ []) ∙ ap (λ (t : List ℕ). before ++ t) (sym (take_more bytes i d less))

-- the fault of one byte is that of all
pub byte_stops : (g : Geometry) (before bytes : List ℕ) (i d : ℕ) (e : InputStop ℕ) → i < length bytes → IsFrontStop g ((before ++ take i bytes) ++ get_or bytes i d ∷ []) e → IsFrontStop g (before ++ bytes) e
byte_stops g before bytes i d e less h =
    let whole : (before ++ take (i + 1) bytes) ++ drop (i + 1) bytes ≡ before ++ bytes = append_assoc before (take (i + 1) bytes) (drop (i + 1) bytes) ∙ ap (λ (t : List ℕ). before ++ t) (take-append-drop (i + 1) bytes) in
    subst (λ (t : List ℕ). IsFrontStop g t e) whole
    (front_stop_later g (before ++ take (i + 1) bytes) (drop (i + 1) bytes) e (subst (λ (t : List ℕ). IsFrontStop g t e) (byte_more before bytes i d less) h))
