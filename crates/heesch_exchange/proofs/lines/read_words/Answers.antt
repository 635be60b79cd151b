use Rattle.std.proofs.Common.{◌≡◌, ◌≢◌, ℕ, [], ◌∷◌, ◌++◌, List, ap, sym, subst, ◌∙◌}
use Rattle.heesch_exchange.specs.Lines.{NoWords}
use Rattle.heesch_exchange.proofs.WordLists.{behind_zero, other_word, unspaced, goes_on, some_bytes}
use Rattle.heesch_exchange.proofs.lines.read_words.Goals as goal

pub returns-else-is_empty : goal.returns-else-is_empty
returns-else-is_empty c =
    let behind = c.cut_word.result.1.now in
    let zero = c.is_zero.ensures.0 c.if-is_zero.true in
    let here : c.loop-bytes.rest.now ≡ 32 ∷ 48 ∷ behind = c.in-Some.ensures ∙ ap (λ (t : List ℕ). 32 ∷ t) (c.cut_word.ensures.parts ∙ ap (λ (t : List ℕ). t ++ behind) zero) in
    c.loop-bytes.invariant.back (subst NoWords (sym here) (behind_zero behind (some_bytes behind c.if-is_empty.ensures)))

pub returns-in_default-read_literal : goal.returns-in_default-read_literal
returns-in_default-read_literal c =
    let word = c.cut_word.result.0.now in
    let behind = c.cut_word.result.1.now in
    let here : c.loop-bytes.rest.now ≡ 32 ∷ (word ++ behind) = c.in-Some.ensures ∙ ap (λ (t : List ℕ). 32 ∷ t) c.cut_word.ensures.parts in
    let other : word ≢ 48 ∷ [] = λ e. let yes = c.if-is_zero.ensures.1 e in absurd cc in
    c.loop-bytes.invariant.back (subst NoWords (sym here) (other_word word behind c.cut_word.ensures.whole c.cut_word.ensures.rest other c.in_default-read_literal.ensures))

pub loop-bytes-preserved : goal.loop-bytes-preserved
loop-bytes-preserved c =
    let word = c.cut_word.result.0.now in
    let behind = c.cut_word.result.1.now in
    let here : c.loop-bytes.rest.now ≡ 32 ∷ (word ++ behind) = c.in-Some.ensures ∙ ap (λ (t : List ℕ). 32 ∷ t) c.cut_word.ensures.parts in
    let read = c.in-Some-read_literal.ensures in
    rw c.in_ok-push.ensures.ok (goes_on c.args.words.now c.args.literals.now c.loop-bytes.literals c.loop-bytes.rest.now word behind c.in-Some-read_literal.literal c.loop-bytes.invariant here c.cut_word.ensures.rest read.0 read.1)

pub returns-else-is_empty-2 : goal.returns-else-is_empty-2
returns-else-is_empty-2 c = c.loop-bytes.invariant.back (unspaced c.loop-bytes.rest.now (some_bytes c.loop-bytes.rest.now c.if-is_empty-2.ensures) c.in_default.ensures)
