use Rattle.std.proofs.Common.{◌≡◌, ◌+◌, ◌≤◌, true, get_or, drop, sym, ap, arith}
use Rattle.std.proofs.lemmas.Bool.Decides.{nat_tests}
use Rattle.std.proofs.lemmas.List.Sums.{prefix_len-drop_yes}
use Rattle.std.specs.Char.{is_ascii_digit}
use Rattle.heesch_line.specs.Reading.{digits_len}
use Rattle.heesch_line.proofs.Digits.{value_more}
use Rattle.heesch_line.proofs.fields.front_digits.Goals as goal

pub loop-byte-preserved : goal.loop-byte-preserved
loop-byte-preserved c =
    let bytes = c.args.bytes.now in
    let at = c.loop-byte.byte-index in
    let before = c.loop-byte.invariant in
    let digit : is_ascii_digit (get_or bytes at 0) ≡ true = sym c.if-not-is_ascii_digit.ensures.value in
    let few : c.loop-byte.count + 1 ≤ 10 = grind (arith, nat_tests, c.if-count-eq-MOST_DIGITS.false, before.0.1) in
    let left : digits_len (drop at bytes) ≡ 1 + digits_len (drop (at + 1) bytes) = prefix_len-drop_yes is_ascii_digit bytes at 0 c.loop-byte-test.true digit in
    let value = value_more bytes at c.loop-byte.value c.from.result c.loop-byte-test.true digit c.from.ensures before.1 in
    ((ap (λ n. n + 1) before.0.0, few, omega (arith, left, before.0.2)), value)
