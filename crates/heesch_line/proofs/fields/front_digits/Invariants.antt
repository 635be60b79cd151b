use Rattle.std.proofs.Common.{◌≡◌, ◌+◌, ◌<◌, ◌≤◌, ◌^◌, take, drop}
use Rattle.std.specs.Str.Parse.{digits_value}
use Rattle.heesch_line.specs.Reading.{digits_len}
use Rattle.heesch_line.proofs.fields.front_digits.Given as goal

abbrev pub invariant-loop-byte : goal.invariant-loop-byte
invariant-loop-byte l =
    ((l.count ≡ l.byte-index) × (l.count ≤ 10) × (l.count + digits_len (drop l.byte-index l.bytes) ≡ digits_len l.bytes))
    × ((l.value ≡ digits_value 10 (take l.byte-index l.bytes)) × (l.value < 10 ^ l.byte-index))
