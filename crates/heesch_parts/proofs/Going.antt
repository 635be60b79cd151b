-- Share texts that are read from a source, piece by piece.
use Rattle.std.proofs.Common.{◌≡◌, ℕ, ◌+◌, ◌<◌, ◌≤◌, List, [], ◌∷◌, ◌++◌, length, take, length-append, append-nil, sym, subst, ◌∙◌, arith, append_assoc}
use Rattle.std.specs.Prelude.{Option, Some, None, Result, Ok, Err, IfOk, IfErr, OnOk}
use Rattle.std.specs.Io.KnownBytes.{Consumes, Keeps, IsAtEnd}
use Rattle.std.proofs.lemmas.List.{length-take-le}
use Rattle.heesch_reader.specs.declared.item.Item.{Item}
use Rattle.heesch_io.proofs.KnownBytes.{all_given, consumes_both, front_given, front_read, one_byte}
use Rattle.heesch_line.specs.declared.stops.LineStop.{LineStop}
use Rattle.heesch_line.specs.declared.stops.LineStop.TheVariants as line_stops
use Rattle.heesch_line.specs.declared.stops.InputStop.{InputStop}
use Rattle.heesch_line.specs.declared.stops.InputStop.TheVariants as stops
use Rattle.heesch_parts.specs.Faults.{HasFault}
use Rattle.heesch_parts.specs.Joining.{Kept, IsFed, GoesTo, IsFrontStop, IsWholeStop, IsStopBeyond, Joins, LeavesRoom}
use Rattle.heesch_io.specs.Input.{IsAllOf, ReadsNoFurther}
use Rattle.heesch_line.specs.Stops.{stop_of}
use Rattle.heesch_parts.specs.Inputs.{AreJoined, GivesJoined, GivesFault, DecideNothing, IsWholeInputStop}

-- ---- known bytes

-- what was read stands first in the room, and is as long
piece_read : (before now : Option (List ℕ)) (more : ℕ) (room rest : List ℕ) → more ≤ length room → Consumes before now (take more room) → Consumes before now (take more (room ++ rest)) × (length (take more (room ++ rest)) ≡ more)
piece_read before now more room rest fits c =
    (front_read before now more room rest fits c, length-take-le more (room ++ rest) (omega (arith, fits, length-append room rest)))

-- ---- so far

-- bytes were read since the source had `first` left, so many, and none of their lines is at fault
pub record Going (first now : Option (List ℕ)) (count : ℕ) (kept : Kept) (given : List Item) : Type 0 where
  pub bytes : List ℕ
  pub consumed : Consumes first now bytes
  pub fed : IsFed bytes given kept
  pub count_is : count ≡ length bytes
  pub room : kept.lines + length kept.left ≤ count

-- a piece more
pub going_on : (first before now : Option (List ℕ)) (count more : ℕ) (room rest : List ℕ) (given after : List Item) (old new : Kept) → Going first before count old given → more ≤ length room → Consumes before now (take more room)
    → ((bytes : List ℕ) (items : List Item) → IsFed bytes items old → GoesTo (bytes ++ take more (room ++ rest)) items given after new) → LeavesRoom old new (length (take more (room ++ rest))) → Going first now (count + more) new after
going_on first before now count more room rest given after old new o fits c told leaves =
    let piece = take more (room ++ rest) in
    let read = piece_read before now more room rest fits c in
    let g = told o.bytes given o.fed in
    record {
      bytes = o.bytes ++ piece;
      consumed = consumes_both first before now o.bytes piece o.consumed read.0;
      fed = subst (λ (x : List Item). IsFed (o.bytes ++ piece) x new) (sym g.after_is) g.fed;
      count_is = omega (arith, o.count_is, read.1, length-append o.bytes piece);
      room = omega (arith, o.room, leaves, read.1);
    }

-- the piece has the fault
pub piece_stops : (most : ℕ) (first before now : Option (List ℕ)) (count more : ℕ) (room rest : List ℕ) (given after : List Item) (old new : Kept) (e : LineStop ℕ) → Going first before count old given → more ≤ length room → Consumes before now (take more room) → count + more ≤ most
    → ((bytes : List ℕ) (items : List Item) → IsFed bytes items old → IsFrontStop (bytes ++ take more (room ++ rest)) e) → GivesFault most first (stop_of e)
piece_stops most first before now count more room rest given after old new (line_stops.Fault line fault) o fits c few told =
    let piece = take more (room ++ rest) in
    let read = piece_read before now more room rest fits c in
    let all = front_given first now (o.bytes ++ piece) (consumes_both first before now o.bytes piece o.consumed read.0) in
    ((o.bytes ++ piece) ++ all.0, all.1, told o.bytes given o.fed most all.0 (omega (arith, few, o.count_is, read.1, length-append o.bytes piece)))
piece_stops most first before now count more room rest given after old new line_stops.NoMemory o fits c few told = tt

-- ---- what is read

-- the bytes that were read decide nothing
going_undecided : (most : ℕ) (first now : Option (List ℕ)) (count : ℕ) (kept : Kept) (given : List Item) → (o : Going first now count kept given) → count ≤ most → DecideNothing most o.bytes
going_undecided most first now count kept given o few = record {
  few = omega (arith, few, o.count_is);
  ended = o.fed.ended;
  left = kept.left;
  stage = kept.stage;
  text = o.fed.text;
  one_line = o.fed.one_line;
  forms = o.fed.forms;
  walk = o.fed.walk;
}

pub no_further : (most : ℕ) (first before now : Option (List ℕ)) (count more : ℕ) (room : List ℕ) (kept : Kept) (given : List Item) → Going first before count kept given → count ≤ most → more ≤ length room → Consumes before now (take more room) → length room ≤ 4096 → ReadsNoFurther (DecideNothing most) first now
no_further most first before now count more room kept given o few fits c page = record {
  bytes = o.bytes;
  last = take more room;
  consumed = consumes_both first before now o.bytes (take more room) o.consumed c;
  one_piece = omega (arith, page, fits, length-take-le more room fits);
  undecided = going_undecided most first before count kept given o few;
}

-- ---- the end

-- the source gave no byte, so it is at its end
end_read : (before now : Option (List ℕ)) (more : ℕ) (room : List ℕ) → more ≡ 0 → 0 < length room → Consumes before now (take more room) → (more ≡ 0 → 0 < length room → IsAtEnd now) → Consumes before now [] × IsAtEnd now
end_read before now more room none some c ended = (subst (λ (n : ℕ). Consumes before now (take n room)) none c, ended none some)

-- all bytes were read
pub all_read : (first before now : Option (List ℕ)) (count more : ℕ) (room : List ℕ) (kept : Kept) (given : List Item) → (o : Going first before count kept given) → more ≡ 0 → 0 < length room → Consumes before now (take more room) → (more ≡ 0 → 0 < length room → IsAtEnd now) → IsAllOf first o.bytes
all_read first before now count more room kept given o none some c ended =
    let end = end_read before now more room none some c ended in
    let all : Consumes first now (o.bytes ++ []) = consumes_both first before now o.bytes [] o.consumed end.0 in
    all_given first now o.bytes (subst (Consumes first now) (append-nil o.bytes) all) end.1

-- the source is at its end
end_given : (result : Result (List Item) (InputStop ℕ)) (most : ℕ) (first before now : Option (List ℕ)) (count more : ℕ) (room : List ℕ) (kept : Kept) (given : List Item) → Going first before count kept given → count ≤ most
    → more ≡ 0 → 0 < length room → Consumes before now (take more room) → (more ≡ 0 → 0 < length room → IsAtEnd now)
    → ((bytes : List ℕ) → IsFed bytes given kept → IfOk result (AreJoined bytes)) → IfOk result (GivesJoined most first)
end_given (Ok all) most first before now count more room kept given o few none some c ended told =
    (o.bytes, all_read first before now count more room kept given o none some c ended, omega (arith, few, o.count_is), told o.bytes o.fed)
end_given (Err e) most first before now count more room kept given o few none some c ended told = tt

whole_told : (most : ℕ) (first : Option (List ℕ)) (bytes : List ℕ) (e : InputStop ℕ) → IsAllOf first bytes → length bytes ≤ most → IsWholeInputStop bytes e → GivesFault most first e
whole_told most first bytes (stops.Fault line fault) all few h = (bytes, all, h most few)
whole_told most first bytes stops.Failed all few h = tt
whole_told most first bytes stops.NoMemory all few h = tt

end_stopped : (result : Result (List Item) (InputStop ℕ)) (most : ℕ) (first before now : Option (List ℕ)) (count more : ℕ) (room : List ℕ) (kept : Kept) (given : List Item) → Going first before count kept given → count ≤ most
    → more ≡ 0 → 0 < length room → Consumes before now (take more room) → (more ≡ 0 → 0 < length room → IsAtEnd now)
    → ((bytes : List ℕ) → IsFed bytes given kept → IfErr result (IsWholeInputStop bytes)) → IfErr result (GivesFault most first)
end_stopped (Ok all) most first before now count more room kept given o few none some c ended told = tt
end_stopped (Err e) most first before now count more room kept given o few none some c ended told =
    whole_told most first o.bytes e (all_read first before now count more room kept given o none some c ended) (omega (arith, few, o.count_is)) (told o.bytes o.fed)

-- the end is no failure of the source
end_not_failed : (result : Result (List Item) (InputStop ℕ)) (first before : Option (List ℕ)) (count : ℕ) (kept : Kept) (given : List Item) → Going first before count kept given → result ≡ Err stops.Failed
    → ((bytes : List ℕ) → IsFed bytes given kept → IfErr result (IsWholeInputStop bytes)) → ⊥
end_not_failed result first before count kept given o is told = subst (λ r. IfErr r (IsWholeInputStop o.bytes)) is (told o.bytes o.fed)

-- what the result of an ended source says of what it gave
pub record AtEnd (result : Result (List Item) (InputStop ℕ)) (most : ℕ) (first now : Option (List ℕ)) : Type 0 where
  pub ok : IfOk result (GivesJoined most first)
  pub stop : IfErr result (GivesFault most first)
  pub ended : OnOk result (IsAtEnd now)
  pub no_further : ReadsNoFurther (DecideNothing most) first now
  pub not_failed : result ≡ Err stops.Failed → ⊥

pub at_end : (result : Result (List Item) (InputStop ℕ)) (most : ℕ) (first before now : Option (List ℕ)) (count more : ℕ) (room : List ℕ) (kept : Kept) (given : List Item) → Going first before count kept given → count ≤ most
    → more ≡ 0 → 0 < length room → length room ≤ 4096 → more ≤ length room → Consumes before now (take more room) → (more ≡ 0 → 0 < length room → IsAtEnd now)
    → ((bytes : List ℕ) → IsFed bytes given kept → IfOk result (AreJoined bytes)) → ((bytes : List ℕ) → IsFed bytes given kept → IfErr result (IsWholeInputStop bytes)) → AtEnd result most first now
at_end result most first before now count more room kept given o few none some page fits c ended joined stopped = record {
  ok = end_given result most first before now count more room kept given o few none some c ended joined;
  stop = end_stopped result most first before now count more room kept given o few none some c ended stopped;
  ended = if_ok result;
  no_further = no_further most first before now count more room kept given o few fits c page;
  not_failed = λ failed. end_not_failed result first before count kept given o failed stopped;
}
  where
    if_ok : (result : Result (List Item) (InputStop ℕ)) → OnOk result (IsAtEnd now)
    if_ok (Ok items) = ended none some
    if_ok (Err stop) = tt

-- the source goes on behind the most that are read
pub goes_beyond : (most : ℕ) (first before now : Option (List ℕ)) (count more : ℕ) (room : List ℕ) (kept : Kept) (given : List Item) (e : LineStop ℕ) → Going first before count kept given → count ≡ most
    → length room ≡ 1 → more ≤ 1 → 0 < more → Consumes before now (take more room)
    → ((bytes : List ℕ) (items : List Item) → IsFed bytes items kept → IsStopBeyond bytes e) → GivesFault most first (stop_of e)
goes_beyond most first before now count more room kept given (line_stops.Fault line fault) o read one few some c told =
    let b = one_byte before now more room one few some c in
    let all = front_given first now (o.bytes ++ b.0 ∷ []) (consumes_both first before now o.bytes (b.0 ∷ []) o.consumed b.1) in
    let many : length o.bytes ≡ most = sym o.count_is ∙ read in (
      (o.bytes ++ b.0 ∷ []) ++ all.0,
      all.1,
      subst (λ (text : List ℕ). HasFault most text line fault) (sym (append_assoc o.bytes (b.0 ∷ []) all.0))
          (subst (λ (n : ℕ). HasFault n (o.bytes ++ b.0 ∷ all.0) line fault) many (told o.bytes given o.fed b.0 all.0)),
    )
goes_beyond most first before now count more room kept given line_stops.NoMemory o read one few some c told = tt

-- ---- the answer of a joiner to the end

pub ends_joined : (before : List ℕ) (given after : List Item) → Joins before given given after → AreJoined before after
ends_joined before given after f = record { header = f.header; shares = f.shares; are = f.are; joined = f.after_is ∙ f.joined }

pub ends_stopped : (before : List ℕ) (e : LineStop ℕ) → IsWholeStop before e → IsWholeInputStop before (stop_of e)
ends_stopped before (line_stops.Fault line fault) h = h
ends_stopped before line_stops.NoMemory h = tt

-- the source failed, and gave nothing
pub no_further_kept : (most : ℕ) (first before now : Option (List ℕ)) (count : ℕ) (kept : Kept) (given : List Item) → Going first before count kept given → count ≤ most → Keeps before now → ReadsNoFurther (DecideNothing most) first now
no_further_kept most first before now count kept given o few same = record {
  bytes = o.bytes;
  last = [];
  consumed = consumes_both first before now o.bytes [] o.consumed (keeps_consumes before now same);
  one_piece = omega arith;
  undecided = going_undecided most first before count kept given o few;
}
  where
    keeps_consumes : (old new : Option (List ℕ)) → Keeps old new → Consumes old new []
    keeps_consumes None new k = tt
    keeps_consumes (Some all) None k = k
    keeps_consumes (Some all) (Some left) k = sym k
