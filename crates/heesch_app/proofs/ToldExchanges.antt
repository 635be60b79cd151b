-- What is told of an exchange, and what was written of it.
use Rattle.std.proofs.Common.{◌≡◌, ◌≤◌, ◌∙◌, ◌⊎◌, ℕ, List, ◌++◌, length, Vec, Global, refl, sym, subst, inl, inr}
use Rattle.std.specs.Prelude.{Option, Result, Ok, Err, IfOk, IfErr, MatchResult}
use Rattle.heesch_cnf.specs.declared.version.Version.{Version}
use Rattle.heesch_line.specs.declared.stops.LineStop.{LineStop}
use Rattle.heesch_line.specs.declared.stops.LineStop.TheVariants.{Fault, NoMemory}
use Rattle.heesch_exchange.specs.Shapes.{IsEndless}
use Rattle.heesch_grid.specs.declared.GridName.{GridName}
use Rattle.heesch_grid.specs.Geometry.{Geometry}
use Rattle.heesch_grid.specs.Names.{geometry_of}
use Rattle.heesch_io.specs.declared.fault.IoStop.{IoStop}
use Rattle.heesch_io.specs.Input.{IsAllOf}
use Rattle.heesch_words.specs.declared.requests.Request.TheVariants.{Formula as FormulaRequest, Answer as AnswerRequest}
use Rattle.heesch_words.specs.Requests.{Asks}
use Rattle.heesch_app.specs.declared.reply.Reply.{Reply}
use Rattle.heesch_app.specs.declared.status.Status.{Status}
use Rattle.heesch_app.specs.declared.status.Status.TheVariants.{Done, BadInput}
use Rattle.heesch_app.specs.declared.exchanges.Exchange.{Exchange}
use Rattle.heesch_app.specs.declared.exchanges.Exchange.TheVariants.{Formula, Answer}
use Rattle.heesch_app.specs.Exchanges.{IsExchangeAnswer, IsFaultTold, WritesFormula, WritesAnswer}
use Rattle.heesch_reader.specs.Taking.{input_max}
use Rattle.heesch_app.specs.Inputs.{IsFrontOf, bad_input_text}
use Rattle.heesch_app.specs.Outputs.{OfInput, Writes}
use Rattle.heesch_app.proofs.Endings.{asked_output}
use Rattle.heesch_app.proofs.Fronts.{split_front, whole_front}

-- the text, which is as wanted, with the status Done, or the line of the fault
told : {V : Type 0} (items : V → List ℕ) (P : List ℕ → Type 0) (Q : LineStop ℕ → Type 0) (text : Result V (LineStop ℕ)) (status : Status) (written : V)
    → IfOk text (λ t. P (items t)) → IfErr text Q → MatchResult text (λ t. (status ≡ Done) × (written ≡ t)) (λ stop. IsFaultTold stop status (items written))
    → ((status ≡ Done) × P (items written)) ⊎ ((status ≡ BadInput) × ((line : ℕ) × (number : ℕ) × Q (Fault line number) × (items written ≡ bad_input_text line number)))
told items P Q (Ok t) status written is _ (done, same) = inl (done, subst (λ v. P (items v)) (sym same) is)
told items P Q (Err (Fault line number)) status written _ is (bad, line_is) = inr (bad, (line, number, is, line_is))
told items P Q (Err NoMemory) status written _ _ none = absurd none

-- the same with one fact more
with_fact : {A B P Q : Type 0} → P → (A × B) ⊎ Q → (A × P × B) ⊎ Q
with_fact p (inl (a, b)) = inl (a, p, b)
with_fact p (inr q) = inr q

-- what is told of all bytes that the source had left
pub told_of_input : (P : List ℕ → List ℕ → Type 0) (Q : List ℕ → LineStop ℕ → Type 0) (left : Option (List ℕ)) (bytes input : List ℕ) (text : Result (Vec ℕ Global) (LineStop ℕ)) (reply : Result Reply IoStop)
    → IsFrontOf left bytes → input ≡ bytes → length bytes ≤ input_max → IfOk text (λ t. P input t.items) → IfErr text (Q input)
    → IfOk reply (λ r. MatchResult text (λ t. (r.status ≡ Done) × (r.text ≡ t)) (λ stop. IsFaultTold stop r.status r.text.items))
    → IfOk reply (λ r. OfInput left (λ i. ((r.status ≡ Done) × (length i ≤ input_max) × P i r.text.items) ⊎ ((r.status ≡ BadInput) × ((line : ℕ) × (number : ℕ) × Q i (Fault line number) × (r.text.items ≡ bad_input_text line number)))))
told_of_input P Q left bytes input text (Ok r) front same few ok stop is =
    let short : length input ≤ input_max = subst (λ i. length i ≤ input_max) (sym same) few in
    (input, subst (λ i. IsAllOf left i) (sym same) (whole_front left bytes front few), with_fact short (told (λ v. v.items) (P input) (Q input) text r.status r.text ok stop is))
told_of_input P Q left bytes input text (Err e) front same few ok stop is = tt

-- what is told of a front whose first line doesn't end in time
pub told_endless : (asked : Exchange) (version : Version) (g : Geometry) (level size : ℕ) (left : Option (List ℕ)) (bytes front : List ℕ) (reply : Result Reply IoStop) → IsFrontOf left bytes → front ≡ bytes
    → ((rest : List ℕ) → IsEndless input_max (front ++ rest)) → IfOk reply (λ r. r.status ≡ BadInput) → IfOk reply (λ r. r.text.items ≡ bad_input_text 1 8)
    → IfOk reply (λ r. OfInput left (IsExchangeAnswer asked version g level size r.status r.text.items))
told_endless Formula version g level size left bytes front (Ok r) is same endless bad text =
    let (rest, all) = split_front left bytes is in
    (bytes ++ rest, all, inr (bad, (1, 8, inr (inl (subst (λ t. IsEndless input_max (t ++ rest)) same (endless rest), refl, refl)), text)))
told_endless Answer version g level size left bytes front (Ok r) is same endless bad text =
    let (rest, all) = split_front left bytes is in
    (bytes ++ rest, all, inr (bad, (1, 8, inr (inl (subst (λ t. IsEndless input_max (t ++ rest)) same (endless rest), refl, refl)), text)))
told_endless asked version g level size left bytes front (Err e) is same endless bad text = tt

-- a reply that tells a fault isn't Done
pub bad_not_done : (P : Type 0) (reply : Result Reply IoStop) → IfOk reply (λ r. r.status ≡ BadInput) → IfOk reply (λ r. r.status ≡ Done → P)
bad_not_done P (Ok r) bad = λ done. absurd (let no : BadInput ≡ Done = sym bad ∙ done in cc)
bad_not_done P (Err e) bad = tt

-- what holds anyhow holds where a reply is Done
pub done_anyhow : (P : Type 0) (reply : Result Reply IoStop) → P → IfOk reply (λ r. r.status ≡ Done → P)
done_anyhow P (Ok r) is = λ done. is
done_anyhow P (Err e) is = tt

-- of what is told with Done
told_done : {F P Q : Type 0} → ((Done ≡ Done) × F × P) ⊎ ((Done ≡ BadInput) × Q) → F × P
told_done (inl (_, few, is)) = (few, is)
told_done (inr (bad, _)) = absurd (let no : Done ≡ BadInput = bad in cc)

-- where the words ask for a formula, what was written is one
pub writes_formula : (words : List (List ℕ)) (left old new : Option (List ℕ)) (grid : GridName) (level size : ℕ) (version : Version)
    → Asks words (FormulaRequest grid level size version) → Writes words left Done old new → WritesFormula version (geometry_of grid) level size left old new
writes_formula words left old new grid level size version asks (text, is, appends) =
    let (input, all, says) = asked_output words (FormulaRequest grid level size version) left Done text asks is in
    (input, text, all, (told_done says).0, (told_done says).1, appends)

-- where they ask for what a model says, so is what was written
pub writes_answer : (words : List (List ℕ)) (left old new : Option (List ℕ)) (grid : GridName) (level size : ℕ) (version : Version)
    → Asks words (AnswerRequest grid level size version) → Writes words left Done old new → WritesAnswer version (geometry_of grid) level size left old new
writes_answer words left old new grid level size version asks (text, is, appends) =
    let (input, all, says) = asked_output words (AnswerRequest grid level size version) left Done text asks is in
    (input, text, all, (told_done says).0, (told_done says).1, appends)
