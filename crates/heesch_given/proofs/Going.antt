-- A list text that is read from a source, piece by piece.
use Rattle.std.proofs.Common.{◌≡◌, ℕ, ◌+◌, ◌<◌, ◌≤◌, List, [], ◌∷◌, ◌++◌, length, take, length-append, sym, subst, ◌∙◌, arith, append_assoc}
use Rattle.std.specs.Prelude.{Option, Result, Ok, Err, IfOk, IfErr}
use Rattle.std.specs.Io.KnownBytes.{Consumes, IsAtEnd}
use Rattle.std.proofs.lemmas.List.{length-take-le, append-nil}
use Rattle.heesch_grid.specs.declared.Cell.{Cell}
use Rattle.heesch_grid.specs.Geometry.{Geometry}
use Rattle.heesch_line.specs.Scanning.{Scanned}
use Rattle.heesch_io.proofs.KnownBytes.{all_given, consumes_both, front_given, front_read, one_byte}
use Rattle.heesch_line.specs.declared.stops.InputStop.{InputStop}
use Rattle.heesch_line.specs.declared.stops.InputStop.TheVariants as stops
use Rattle.heesch_io.specs.Input.{IsAllOf, ReadsNoFurther}
use Rattle.heesch_given.specs.Given.{AreGiven, HasFault, GivesShapes, GivesFault, DecideNothing}
use Rattle.heesch_given.specs.Steps.{IsRead, IsFrontStop, IsWholeStop, IsStopBeyond}

-- bytes were read since the source had `first` left, so many, and they begin a list of shapes
pub record Going (g : Geometry) (first now : Option (List ℕ)) (count : ℕ) (shapes : List (List Cell)) (s : Scanned) : Type 0 where
  pub bytes : List ℕ
  pub consumed : Consumes first now bytes
  pub read : IsRead g bytes shapes s
  pub count_is : count ≡ length bytes

-- what was read stands first in the room, and is as long
piece_read : (before now : Option (List ℕ)) (more : ℕ) (room rest : List ℕ) → more ≤ length room → Consumes before now (take more room) → Consumes before now (take more (room ++ rest)) × (length (take more (room ++ rest)) ≡ more)
piece_read before now more room rest fits c =
    (front_read before now more room rest fits c, length-take-le more (room ++ rest) (omega (arith, fits, length-append room rest)))

-- a piece more
pub going_on : (g : Geometry) (first before now : Option (List ℕ)) (count more : ℕ) (room rest : List ℕ) (old new : List (List Cell)) (s t : Scanned) → Going g first before count old s → more ≤ length room → Consumes before now (take more room)
    → ((bytes : List ℕ) → IsRead g bytes old s → IsRead g (bytes ++ take more (room ++ rest)) new t) → Going g first now (count + more) new t
going_on g first before now count more room rest old new s t o fits c taken =
    let piece = take more (room ++ rest) in
    let read = piece_read before now more room rest fits c in
    record {
      bytes = o.bytes ++ piece;
      consumed = consumes_both first before now o.bytes piece o.consumed read.0;
      read = taken o.bytes o.read;
      count_is = omega (arith, o.count_is, read.1, length-append o.bytes piece);
    }

-- the piece has the fault
pub piece_stops : (most : ℕ) (g : Geometry) (first before now : Option (List ℕ)) (count more : ℕ) (room rest : List ℕ) (old : List (List Cell)) (s : Scanned) (e : InputStop ℕ) → Going g first before count old s → more ≤ length room → Consumes before now (take more room)
    → count + more ≤ most → ((bytes : List ℕ) → IsRead g bytes old s → IsFrontStop g (bytes ++ take more (room ++ rest)) e) → GivesFault most g first e
piece_stops most g first before now count more room rest old s (stops.Fault line number) o fits c few told =
    let piece = take more (room ++ rest) in
    let read = piece_read before now more room rest fits c in
    let all = front_given first now (o.bytes ++ piece) (consumes_both first before now o.bytes piece o.consumed read.0) in
    ((o.bytes ++ piece) ++ all.0, all.1, told o.bytes o.read most all.0 (omega (arith, few, o.count_is, read.1, length-append o.bytes piece)))
piece_stops most g first before now count more room rest old s stops.Failed o fits c few told = tt
piece_stops most g first before now count more room rest old s stops.NoMemory o fits c few told = tt

-- a piece is no failure of the source
pub piece_not_failed : (g : Geometry) (first before : Option (List ℕ)) (count : ℕ) (piece : List ℕ) (old : List (List Cell)) (s : Scanned) (e : InputStop ℕ) → Going g first before count old s → e ≡ stops.Failed
    → ((bytes : List ℕ) → IsRead g bytes old s → IsFrontStop g (bytes ++ piece) e) → ⊥
piece_not_failed g first before count piece old s e o is told = subst (IsFrontStop g (o.bytes ++ piece)) is (told o.bytes o.read)

-- the source gave no byte, so it is at its end
end_read : (before now : Option (List ℕ)) (more : ℕ) (room : List ℕ) → more ≡ 0 → 0 < length room → Consumes before now (take more room) → (more ≡ 0 → 0 < length room → IsAtEnd now) → Consumes before now [] × IsAtEnd now
end_read before now more room none some c ended = (subst (λ (n : ℕ). Consumes before now (take n room)) none c, ended none some)

-- the source is at its end
pub end_given : {T : Type 0} (items : T → List (List Cell)) (result : Result T (InputStop ℕ)) (most : ℕ) (g : Geometry) (first before now : Option (List ℕ)) (count more : ℕ) (room : List ℕ) (old : List (List Cell)) (s : Scanned) → Going g first before count old s → count ≤ most
    → more ≡ 0 → 0 < length room → Consumes before now (take more room) → (more ≡ 0 → 0 < length room → IsAtEnd now)
    → ((bytes : List ℕ) (many : ℕ) → length bytes ≤ many → IsRead g bytes old s → IfOk result (λ v. AreGiven many g bytes (items v))) → IfOk result (λ v. GivesShapes most g first (items v))
end_given items (Ok v) most g first before now count more room old s o few none some c ended told =
    let end = end_read before now more room none some c ended in
    let all : Consumes first now (o.bytes ++ []) = consumes_both first before now o.bytes [] o.consumed end.0 in
    (o.bytes, all_given first now o.bytes (subst (Consumes first now) (append-nil o.bytes) all) end.1, told o.bytes most (omega (arith, few, o.count_is)) o.read)
end_given items (Err e) most g first before now count more room old s o few none some c ended told = tt

whole_told : (most : ℕ) (g : Geometry) (first : Option (List ℕ)) (bytes : List ℕ) (e : InputStop ℕ) → IsAllOf first bytes → IsWholeStop most g bytes e → GivesFault most g first e
whole_told most g first bytes (stops.Fault line number) all h = (bytes, all, h)
whole_told most g first bytes stops.Failed all h = tt
whole_told most g first bytes stops.NoMemory all h = tt

pub end_stopped : {T : Type 0} (result : Result T (InputStop ℕ)) (most : ℕ) (g : Geometry) (first before now : Option (List ℕ)) (count more : ℕ) (room : List ℕ) (old : List (List Cell)) (s : Scanned) → Going g first before count old s → count ≤ most
    → more ≡ 0 → 0 < length room → Consumes before now (take more room) → (more ≡ 0 → 0 < length room → IsAtEnd now)
    → ((bytes : List ℕ) (many : ℕ) → length bytes ≤ many → IsRead g bytes old s → IfErr result (IsWholeStop many g bytes)) → IfErr result (GivesFault most g first)
end_stopped (Ok v) most g first before now count more room old s o few none some c ended told = tt
end_stopped (Err e) most g first before now count more room old s o few none some c ended told =
    let end = end_read before now more room none some c ended in
    let all : Consumes first now (o.bytes ++ []) = consumes_both first before now o.bytes [] o.consumed end.0 in
    whole_told most g first o.bytes e (all_given first now o.bytes (subst (Consumes first now) (append-nil o.bytes) all) end.1) (told o.bytes most (omega (arith, few, o.count_is)) o.read)

-- the end is no failure of the source
pub end_not_failed : {T : Type 0} (result : Result T (InputStop ℕ)) (g : Geometry) (first before : Option (List ℕ)) (count : ℕ) (old : List (List Cell)) (s : Scanned) → Going g first before count old s → result ≡ Err stops.Failed
    → ((bytes : List ℕ) (many : ℕ) → length bytes ≤ many → IsRead g bytes old s → IfErr result (IsWholeStop many g bytes)) → ⊥
end_not_failed result g first before count old s o is told =
    subst (λ r. IfErr r (IsWholeStop (length o.bytes) g o.bytes)) is (told o.bytes (length o.bytes) (omega arith) o.read)

-- the source goes on behind the most that are read
pub goes_beyond : (most : ℕ) (g : Geometry) (first before now : Option (List ℕ)) (count more : ℕ) (room : List ℕ) (old : List (List Cell)) (s : Scanned) (e : InputStop ℕ) → Going g first before count old s → count ≡ most
    → length room ≡ 1 → more ≤ 1 → 0 < more → Consumes before now (take more room)
    → ((bytes : List ℕ) → IsRead g bytes old s → IsStopBeyond g bytes e) → GivesFault most g first e
goes_beyond most g first before now count more room old s (stops.Fault line number) o all_read one few some c told =
    let b = one_byte before now more room one few some c in
    let all = front_given first now (o.bytes ++ b.0 ∷ []) (consumes_both first before now o.bytes (b.0 ∷ []) o.consumed b.1) in
    let many : length o.bytes ≡ most = sym o.count_is ∙ all_read in (
      (o.bytes ++ b.0 ∷ []) ++ all.0,
      all.1,
      subst (λ (text : List ℕ). HasFault most g text line number) (sym (append_assoc o.bytes (b.0 ∷ []) all.0))
          (subst (λ (n : ℕ). HasFault n g (o.bytes ++ b.0 ∷ all.0) line number) many (told o.bytes o.read b.0 all.0)),
    )
goes_beyond most g first before now count more room old s stops.Failed o all_read one few some c told = tt
goes_beyond most g first before now count more room old s stops.NoMemory o all_read one few some c told = tt

pub beyond_not_failed : (g : Geometry) (first before : Option (List ℕ)) (count : ℕ) (old : List (List Cell)) (s : Scanned) (e : InputStop ℕ) → Going g first before count old s → e ≡ stops.Failed → ((bytes : List ℕ) → IsRead g bytes old s → IsStopBeyond g bytes e) → ⊥
beyond_not_failed g first before count old s e o is told = subst (IsStopBeyond g o.bytes) is (told o.bytes o.read)

-- ---- what is read

pub no_further : (most : ℕ) (g : Geometry) (first before now : Option (List ℕ)) (count more : ℕ) (room : List ℕ) (old : List (List Cell)) (s : Scanned) → Going g first before count old s → count ≤ most → more ≤ length room → Consumes before now (take more room) → length room ≤ 4096 → ReadsNoFurther (DecideNothing most g) first now
no_further most g first before now count more room old s o few fits c page = record {
  bytes = o.bytes;
  last = take more room;
  consumed = consumes_both first before now o.bytes (take more room) o.consumed c;
  one_piece = omega (arith, page, fits, length-take-le more room fits);
  undecided = record { begin = o.read.begin; in_time = omega (arith, few, o.count_is) };
}
