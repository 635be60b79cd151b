-- The records of a round, by the answers on its blocks.
use Rattle.std.proofs.Common.{◌≡◌, ◌↔◌, ℕ, suc, ◌+◌, ◌-◌, ◌<◌, ◌≤◌, Bool, true, false, not, IsTrue, List, [], ◌∷◌, length, refl, sym, ap, subst, ◌∙◌, arith}
use Rattle.std.specs.Prelude.{IfOk, Result, Ok, Err, Some, slice_get}
use Rattle.std.specs.List.{position_or_len}
use Rattle.std.proofs.lemmas.Bool.{false≢true}
use Rattle.heesch_cert.specs.declared.header.Header.{Header}
use Rattle.heesch_check.specs.Catalogues.{behind_block}
use Rattle.heesch_outer_check.specs.Records.{IsGoodBlock}
use Rattle.heesch_outer_check.specs.Rounds.{AreBlocks, AreAnswers, IsBlockAnswer, AreGood, AreGoodUpTo}

-- answers that are told by their numbers are those on the blocks
pub answers_from : (header : Header) (before : ℕ) (blocks : List (List ℕ)) (told : List Bool) → length told ≡ length blocks
    → ((i : ℕ) (holds : Bool) → slice_get told i ≡ Some holds → (block : List ℕ) → slice_get blocks i ≡ Some block → IsTrue holds ↔ IsGoodBlock header (before + i) block) → AreAnswers header before blocks told
answers_from header before [] [] many each = tt
answers_from header before [] (holds ∷ told) many each = absurd (omega (arith, many))
answers_from header before (block ∷ blocks) [] many each = absurd (omega (arith, many))
answers_from header before (block ∷ blocks) (holds ∷ told) many each =
    let here : before + 0 ≡ before = omega arith in (
      subst (λ (n : ℕ). IsTrue holds ↔ IsGoodBlock header n block) here (each 0 holds refl block refl),
      answers_from header (before + 1) blocks told (omega (arith, many)) (λ i h at b is.
          let further : before + suc i ≡ (before + 1) + i = omega arith in
          subst (λ (n : ℕ). IsTrue h ↔ IsGoodBlock header n b) further (each (suc i) h at b is)),
    )

-- where all answers say so, the blocks are good records
pub all_good : (header : Header) (before : ℕ) (bytes : List ℕ) (blocks : List (List ℕ)) (told : List Bool) (rest : List ℕ) → AreBlocks bytes blocks rest → AreAnswers header before blocks told
    → length told ≤ position_or_len not told → AreGood header before bytes (before + length told) rest
all_good header before bytes [] [] rest are say most = record { es = []; records = are; after_is = refl }
all_good header before bytes [] (holds ∷ told) rest are say most = absurd say
all_good header before bytes (block ∷ blocks) [] rest are say most = absurd say
all_good header before bytes (block ∷ blocks) (false ∷ told) rest are say most = absurd (omega (arith, most))
all_good header before bytes (block ∷ blocks) (true ∷ told) rest are say most =
    let good = say.0.0 refl in
    let others = all_good header (before + 1) (behind_block bytes) blocks told rest are.2 say.1 (omega (arith, most)) in
    let after = others.after_is in
    record {
      es = good.record_is ∷ others.es;
      records = (good.good, sym are.1 ∙ good.text, others.records);
      after_is = omega (arith, after);
    }

-- the first block whose answer doesn't say so is the first that isn't a good record
pub first_bad : (header : Header) (before : ℕ) (bytes : List ℕ) (blocks : List (List ℕ)) (told : List Bool) (rest : List ℕ) → AreBlocks bytes blocks rest → AreAnswers header before blocks told
    → position_or_len not told < length told → AreGoodUpTo header before bytes (before + position_or_len not told)
first_bad header before bytes [] [] rest are say less = absurd (omega (arith, less))
first_bad header before bytes [] (holds ∷ told) rest are say less = absurd say
first_bad header before bytes (block ∷ blocks) [] rest are say less = absurd say
first_bad header before bytes (block ∷ blocks) (false ∷ told) rest are say less =
    let here : before ≡ before + 0 = omega arith in
    subst (AreGoodUpTo header before bytes) here (record {
      rest = bytes;
      good = record { es = []; records = refl; after_is = omega arith };
      bad = (are.0, (λ good. false≢true (say.0.1 (subst (IsGoodBlock header before) (sym are.1) good))), refl);
    })
first_bad header before bytes (block ∷ blocks) (true ∷ told) rest are say less =
    let good = say.0.0 refl in
    let k = position_or_len not told in
    let others = first_bad header (before + 1) (behind_block bytes) blocks told rest are.2 say.1 (omega (arith, less)) in
    let after = others.good.after_is in
    let further : (before + 1) + k ≡ before + (1 + k) = omega arith in
    subst (AreGoodUpTo header before bytes) further (record {
      rest = others.rest;
      good = record {
        es = good.record_is ∷ others.good.es;
        records = (good.good, sym are.1 ∙ good.text, others.good.records);
        after_is = omega (arith, after);
      };
      bad = others.bad;
    })

-- the answers of a job that has the header, the blocks, and how many records stand before them
pub answers_of_numbers : (header : Header) (before : ℕ) (blocks : List (List ℕ)) (told : List Bool) {of : Header} {over : List (List ℕ)} {first : ℕ} → length told ≡ length blocks → of ≡ header → over ≡ blocks → first ≡ before
    → ((i : ℕ) (holds : Bool) → slice_get told i ≡ Some holds → IsBlockAnswer of over ((before + i) - first) (before + i) holds) → AreAnswers header before blocks told
answers_of_numbers header before blocks told {of} {over} {first} many same these here each =
    answers_from header before blocks told many (λ i holds at block is.
    let place : (before + i) - first ≡ i = omega (arith, here) in
    subst (λ (h : Header). IsTrue holds ↔ IsGoodBlock h (before + i) block) same
    (each i holds at block (ap (λ (x : List (List ℕ)). slice_get x ((before + i) - first)) these ∙ ap (slice_get blocks) place ∙ is)))

pub if_both : {A E : Type 0} (result : Result A E) {P Q R : A → Type 0} → ((x : A) → P x → Q x → R x) → IfOk result P → IfOk result Q → IfOk result R
if_both (Ok x) f p q = f x p q
if_both (Err e) f p q = tt

-- ---- a round

-- the first block that isn't good, of answers that are told and heard
pub bad_round : (header : Header) (before n : ℕ) (bytes rest : List ℕ) (blocks over : List (List ℕ)) (told heard : List Bool) → AreBlocks bytes blocks rest → over ≡ blocks → AreAnswers header before over told → heard ≡ told
    → n ≡ position_or_len not heard → n < length told → AreGoodUpTo header before bytes (before + n)
bad_round header before n bytes rest blocks over told heard are these say same is less =
    let place : n ≡ position_or_len not told = is ∙ ap (position_or_len not) same in
    subst (λ (k : ℕ). AreGoodUpTo header before bytes (before + k)) (sym place)
    (first_bad header before bytes blocks told rest are (subst (λ (x : List (List ℕ)). AreAnswers header before x told) these say) (omega (arith, place, less)))

-- all of them are good, so many
pub good_round : (header : Header) (before n : ℕ) (bytes rest : List ℕ) (blocks over : List (List ℕ)) (told heard : List Bool) → AreBlocks bytes blocks rest → over ≡ blocks → AreAnswers header before over told → heard ≡ told
    → n ≡ position_or_len not heard → n ≤ length told → length told ≤ n → AreGood header before bytes (before + n) rest
good_round header before n bytes rest blocks over told heard are these say same is few many =
    let place : n ≡ position_or_len not told = is ∙ ap (position_or_len not) same in
    let all : length told ≡ n = omega (arith, few, many) in
    subst (λ (k : ℕ). AreGood header before bytes (before + k) rest) all
    (all_good header before bytes blocks told rest are (subst (λ (x : List (List ℕ)). AreAnswers header before x told) these say) (omega (arith, place, many)))
