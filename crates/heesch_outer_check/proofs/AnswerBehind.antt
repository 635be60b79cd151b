-- The answer of an input, by that of what stands behind its good records.
use Rattle.std.proofs.Common.{◌≡◌, ℕ, ◌+◌, ◌<◌, ◌≤◌, ◌==◌, List, [], ◌∷◌, ◌++◌, length, take, drop, false, codes, refl, sym, ap, subst, ◌∙◌, arith}
use Rattle.std.specs.Prelude.{count_by}
use Rattle.std.proofs.lemmas.List.{drop-drop, length-append, length-drop, length-take-le, take-append-drop}
use Rattle.heesch_cert.specs.declared.header.Header.{Header}
use Rattle.heesch_reader.specs.Faults.{begins}
use Rattle.heesch_check.specs.declared.answers.Checked.{Checked}
use Rattle.heesch_check.specs.declared.answers.Checked.TheVariants as answers
use Rattle.heesch_check.specs.Catalogues.{behind_block}
use Rattle.heesch_outer.specs.declared.answers.OuterEntry.{OuterEntry}
use Rattle.heesch_outer_check.specs.Records.{AreRecords}
use Rattle.heesch_outer_check.specs.Answers.{IsTooLong, Tells, IsOutersChecked}
use Rattle.heesch_outer_check.specs.Rounds.{AreGood, AreGoodUpTo, IsAnswerBehind, JudgesGood}

-- what is answered behind good records is the answer of all
pub tells : (header : Header) (input rest : List ℕ) (count : ℕ) (c : Checked) → AreGood header 0 input count rest → IsAnswerBehind header count rest c → Tells header input c
tells header input rest count c good is =
    let all : count ≡ length good.es = let after = good.after_is in omega (arith, after) in
    by_answer c (subst (λ (n : ℕ). IsAnswerBehind header n rest c) all is)
  where
    by_answer : (c : Checked) → IsAnswerBehind header (length good.es) rest c → Tells header input c
    by_answer (answers.Valid valid) e = record { es = good.es; rest = rest; records = good.records; ends = e.0; count_is = e.1 }
    by_answer answers.InvalidHeader e = e
    by_answer (answers.InvalidEntry number) e = record { es = good.es; rest = rest; records = good.records; begins_shape = e.0; no_record = e.1; number_is = e.2 }
    by_answer answers.InvalidEnd e = record { es = good.es; rest = rest; records = good.records; begins_none = e.0; no_end = e.1 }
    by_answer (answers.TooLong line) e = e

-- so it is of an input that isn't too long
pub checked : (header : Header) (input : List ℕ) (c : Checked) → length input ≤ 1099511627776 → Tells header input c → IsOutersChecked header input c
checked header input (answers.Valid valid) short t = (short, t)
checked header input answers.InvalidHeader short t = absurd t
checked header input (answers.InvalidEntry number) short t = (short, t)
checked header input answers.InvalidEnd short t = (short, t)
checked header input (answers.TooLong line) short t = absurd t

-- good records behind good records
pub good_then : (header : Header) (before middle after : ℕ) (bytes mid rest : List ℕ) → AreGood header before bytes middle mid → AreGood header middle mid after rest → AreGood header before bytes after rest
good_then header before middle after bytes mid rest first second =
    let n = first.after_is in let m = second.after_is in
    let many = length-append first.es second.es in
    record {
      es = first.es ++ second.es;
      records = joined before bytes first.es (subst (λ (k : ℕ). AreRecords header k mid second.es rest) n second.records) first.records;
      after_is = omega (arith, n, m, many);
    }
  where
    joined : (k : ℕ) (xs : List ℕ) (es : List OuterEntry) → AreRecords header (k + length es) mid second.es rest → AreRecords header k xs es mid → AreRecords header k xs (es ++ second.es) rest
    joined k xs [] behind are = subst (λ (j : ℕ). AreRecords header j xs second.es rest) (omega arith) (subst (λ (x : List ℕ). AreRecords header (k + 0) x second.es rest) (sym are) behind)
    joined k xs (e ∷ es) behind are = (are.0, are.1, joined (k + 1) (behind_block xs) es (subst (λ (j : ℕ). AreRecords header j mid second.es rest) (omega arith) behind) are.2)

-- an input that has more bytes than are read
pub too_long : (input : List ℕ) → 1099511627776 < length input → IsTooLong input (count_by (λ b. b == 10) (take 1099511627776 input) + 1)
too_long input long = by_rest (drop 1099511627776 input) refl
  where
    by_rest : (rest : List ℕ) → drop 1099511627776 input ≡ rest → IsTooLong input (count_by (λ b. b == 10) (take 1099511627776 input) + 1)
    by_rest [] is =
        let many = ap length is in
        let k = length-drop 1099511627776 input in
        absurd (omega (arith, long, many, k))
    by_rest (byte ∷ behind) is = record {
      front = take 1099511627776 input;
      byte = byte;
      behind = behind;
      text = sym (take-append-drop 1099511627776 input) ∙ ap (λ (x : List ℕ). take 1099511627776 input ++ x) is;
      length_is = length-take-le 1099511627776 input (omega (arith, long));
      line_is = refl;
    }

-- ---- rounds behind each other

pub further_within : (bytes rest : List ℕ) (far more : ℕ) → rest ≡ drop far bytes → more ≤ length rest → far ≤ length bytes → far + more ≤ length bytes
further_within bytes rest far more is few within =
    let many = ap length is in
    let left = length-drop far bytes in
    omega (arith, many, left, few, within)

-- a record that isn't good, behind good ones
pub bad_tells : (header : Header) (input rest : List ℕ) (far count after : ℕ) → AreGood header 0 input count (drop far input) → rest ≡ drop far input → AreGoodUpTo header count rest after → Tells header input (answers.InvalidEntry (after + 1))
bad_tells header input rest far count after good is up =
    tells header input up.rest after (answers.InvalidEntry (after + 1)) (good_then header 0 count after input rest up.rest (subst (AreGood header 0 input count) (sym is) good) up.good) up.bad

-- more good ones, behind good ones
pub goes_on : (header : Header) (input rest : List ℕ) (far count until after len : ℕ) → AreGood header 0 input count (drop far input) → rest ≡ drop far input → JudgesGood header count until rest after len → AreGood header 0 input after (drop (far + len) input)
goes_on header input rest far count until after len good is j =
    let behind : drop len rest ≡ drop (far + len) input = ap (drop len) is ∙ drop-drop len far input in
    subst (AreGood header 0 input after) behind (good_then header 0 count after input rest (drop len rest) (subst (AreGood header 0 input count) (sym is) good) j.good)

-- none begins behind them, where they are fewer than were asked for
pub begins_none : (input rest : List ℕ) (header : Header) (far count until after len : ℕ) → rest ≡ drop far input → JudgesGood header count until rest after len → after < until → begins (drop (far + len) input) (codes "shape ") ≡ false
begins_none input rest header far count until after len is j less =
    subst (λ (x : List ℕ). begins x (codes "shape ") ≡ false) (ap (drop len) is ∙ drop-drop len far input) (j.all less)

-- what is answered behind good records that stand so far in the input
pub behind_tells : (header : Header) (input rest : List ℕ) (far count : ℕ) (c : Checked) → AreGood header 0 input count (drop far input) → rest ≡ drop far input → IsAnswerBehind header count rest c → Tells header input c
behind_tells header input rest far count c good is answer = tells header input rest count c (subst (AreGood header 0 input count) (sym is) good) answer
