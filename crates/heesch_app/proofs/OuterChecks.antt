-- What is told of an outer text.
use Rattle.std.proofs.Common.{◌≡◌, ◌≤◌, ◌∙◌, ℕ, List, ◌∷◌, ◌++◌, length, sym, ap, subst, append_assoc, arith}
use Rattle.std.specs.Prelude.{Option, Result, Ok, Err, IfOk}
use Rattle.std.specs.Io.KnownBytes.{IsAtEnd}
use Rattle.heesch_cert.specs.declared.header.Header.{Header}
use Rattle.heesch_cert.specs.declared.header.Subject.{Subject}
use Rattle.heesch_cert.specs.declared.header.Subject.TheVariants.{Size, Given}
use Rattle.heesch_check.specs.declared.answers.Checked.{Checked}
use Rattle.heesch_check.specs.declared.answers.Checked.TheVariants as answers
use Rattle.heesch_io.specs.declared.fault.IoStop.{IoStop}
use Rattle.heesch_outer_check.specs.Answers.{IsOutersChecked}
use Rattle.heesch_outer_check.specs.Rounds.{CanBeListed}
use Rattle.heesch_reader.specs.Taking.{input_max}
use Rattle.heesch_app.specs.declared.reply.Reply.{Reply}
use Rattle.heesch_app.specs.declared.status.Status.TheVariants.{Done, Invalid, BadInput}
use Rattle.heesch_app.specs.Checks.{check_status, check_text}
use Rattle.heesch_app.specs.Inputs.{IsFrontOf}
use Rattle.heesch_app.specs.Outputs.{OfInput, IsOuterCheckAnswer}
use Rattle.heesch_app.specs.Ranges.{IsSubjectInRange}
use Rattle.heesch_app.proofs.Fronts.{split_front, whole_front}

-- a subject in its range can be listed
pub can_be_listed : (subject : Subject) → IsSubjectInRange subject → CanBeListed subject
can_be_listed (Size n) range = (range.0, omega (arith, range.1))
can_be_listed Given range = tt

-- the answer of a front is that of the whole input
of_front : (header : Header) (left : Option (List ℕ)) (bytes : List ℕ) (c : Checked) → IsFrontOf left bytes → IsOutersChecked header bytes c → OfInput left (λ input. IsOutersChecked header input c)
of_front header left bytes (answers.Valid count) front is = (bytes, whole_front left bytes front is.0, is)
of_front header left bytes answers.InvalidHeader front is = (bytes, whole_front left bytes front is.0, is)
of_front header left bytes (answers.InvalidEntry number) front is = (bytes, whole_front left bytes front is.0, is)
of_front header left bytes answers.InvalidEnd front is = (bytes, whole_front left bytes front is.0, is)
of_front header left bytes (answers.TooLong line) front is =
    let (rest, all) = split_front left bytes front in (
      bytes ++ rest,
      all,
      record {
        front = is.front;
        byte = is.byte;
        behind = is.behind ++ rest;
        text = ap (λ (x : List ℕ). x ++ rest) is.text ∙ append_assoc is.front (is.byte ∷ is.behind) rest;
        length_is = is.length_is;
        line_is = is.line_is;
      },
    )

pub outers_told : (header : Header) (left : Option (List ℕ)) (bytes input : List ℕ) (c : Checked) (reply : Result Reply IoStop) → IsFrontOf left bytes → input ≡ bytes → IsOutersChecked header input c
    → IfOk reply (λ r. r.status ≡ check_status c) → IfOk reply (λ r. r.text.items ≡ check_text c) → IfOk reply (λ r. OfInput left (IsOuterCheckAnswer header r.status r.text.items))
outers_told header left bytes input c (Ok r) front same is status text =
    let (whole, all, checked) = of_front header left bytes c front (subst (λ (x : List ℕ). IsOutersChecked header x c) same is) in
    (whole, all, (c, checked, status, text))
outers_told header left bytes input c (Err e) front same is status text = tt

-- a reply that tells Done comes of an input that was read to its end
pub outers_ended : (header : Header) (bytes input : List ℕ) (now : Option (List ℕ)) (c : Checked) (reply : Result Reply IoStop) → input ≡ bytes → IsOutersChecked header input c → (length bytes ≤ input_max → IsAtEnd now)
    → IfOk reply (λ r. r.status ≡ check_status c) → IfOk reply (λ r. r.status ≡ Done → IsAtEnd now)
outers_ended header bytes input now c (Err e) same is ended status = tt
outers_ended header bytes input now (answers.Valid count) (Ok r) same is ended status = λ done. ended (subst (λ (x : List ℕ). length x ≤ 1099511627776) same is.0)
outers_ended header bytes input now answers.InvalidHeader (Ok r) same is ended status = λ done. absurd (let no : Invalid ≡ Done = sym status ∙ done in cc)
outers_ended header bytes input now (answers.InvalidEntry number) (Ok r) same is ended status = λ done. absurd (let no : Invalid ≡ Done = sym status ∙ done in cc)
outers_ended header bytes input now answers.InvalidEnd (Ok r) same is ended status = λ done. absurd (let no : Invalid ≡ Done = sym status ∙ done in cc)
outers_ended header bytes input now (answers.TooLong line) (Ok r) same is ended status = λ done. absurd (let no : BadInput ≡ Done = sym status ∙ done in cc)
