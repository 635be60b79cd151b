-- How the parts of a run end, and what follows for the run.
use Rattle.std.proofs.Common.{◌≡◌, ◌≢◌, ◌⊎◌, ◌∙◌, ◌↔◌, ℕ, List, refl, sym, subst, inl, inr}
use Rattle.std.specs.Prelude.{Option, Some, None, Result, Ok, Err, IfOk, IfErr, OnOk, OnErr, ⊤}
use Rattle.std.specs.Io.KnownBytes.{Keeps}
use Rattle.heesch_io.specs.Causes.{Rose}
use Rattle.heesch_io.specs.declared.fault.IoStop.{IoStop}
use Rattle.heesch_io.specs.declared.fault.IoStop.TheVariants as stops
use Rattle.heesch_catalogue.specs.Rounds.{BeginsOne, WritesOne}
use Rattle.heesch_cert.specs.declared.header.Subject.TheVariants.{Size, Given}
use Rattle.heesch_check.specs.declared.answers.Checked.{Checked}
use Rattle.heesch_check.specs.declared.answers.Checked.TheVariants as answers
use Rattle.heesch_table.specs.declared.answers.Tabulated.{Tabulated}
use Rattle.heesch_table.specs.declared.answers.Tabulated.TheVariants as tables
use Rattle.heesch_words.specs.declared.requests.Request.{Request}
use Rattle.heesch_words.specs.declared.requests.Request.TheVariants.{List as ListRequest, Plain as PlainRequest, Classify as ClassifyRequest, Check as CheckRequest, CheckOuter as CheckOuterRequest, Table as TableRequest, Sample as SampleRequest, Formula as FormulaRequest, Answer as AnswerRequest, Share as ShareRequest, Join as JoinRequest, Outer as OuterRequest}
use Rattle.heesch_words.specs.Requests.{Asks}
use Rattle.heesch_words.proofs.Forms.{one_request}
use Rattle.heesch_app.specs.declared.reply.Reply.{Reply}
use Rattle.heesch_app.specs.declared.status.Status.{Status}
use Rattle.heesch_app.specs.declared.status.Status.TheVariants.{Done, Invalid, Usage, BadInput, ReadFault, WriteFault, NoMemory}
use Rattle.heesch_app.specs.Checks.{check_status}
use Rattle.heesch_app.specs.Endings.{EndsAs, IsPut, read_status, written_status}
use Rattle.heesch_app.specs.Outputs.{IsOutput, IsAnswer, IsBegunOutput, Writes, WritesPrefix}
use Rattle.heesch_app.specs.Tables.{table_status}
use Rattle.heesch_app.proofs.Beginnings.{begins_itself}

-- ---- statuses that come with a whole output

-- the status comes with a whole output
abbrev pub IsWhole : Status → Type 0
IsWhole Done = ⊤
IsWhole Invalid = ⊤
IsWhole Usage = ⊥
IsWhole BadInput = ⊤
IsWhole ReadFault = ⊥
IsWhole WriteFault = ⊥
IsWhole NoMemory = ⊥

-- a status that is one of these
pub whole_if : (status whole : Status) → status ≡ whole → IsWhole whole → IsWhole status
whole_if status whole same is = subst IsWhole (sym same) is

check_is_whole : (checked : Checked) → IsWhole (check_status checked)
check_is_whole (answers.Valid count) = tt
check_is_whole answers.InvalidHeader = tt
check_is_whole (answers.InvalidEntry number) = tt
check_is_whole answers.InvalidEnd = tt
check_is_whole (answers.TooLong line) = tt

table_is_whole : (told : Tabulated) → IsWhole (table_status told)
table_is_whole (tables.Tally text) = tt
table_is_whole (tables.Fault line number) = tt

-- the status of what a request asks for
output_is_whole : (request : Request) (left : Option (List ℕ)) (status : Status) (output : List ℕ) → IsOutput request left status output → IsWhole status
output_is_whole (ListRequest grid n workers) left status output (done, is) = whole_if status Done done tt
output_is_whole (PlainRequest grid n workers) left status output (done, is) = whole_if status Done done tt
output_is_whole (ClassifyRequest grid (Size n) limits workers brief) left status output (done, is) = whole_if status Done done tt
output_is_whole (ClassifyRequest grid Given limits workers brief) left status output (input, all, inl (done, is)) = whole_if status Done done tt
output_is_whole (ClassifyRequest grid Given limits workers brief) left status output (input, all, inr (bad, is)) = whole_if status BadInput bad tt
output_is_whole (CheckRequest workers) left status output (input, all, (checked, is, same, text)) = whole_if status (check_status checked) same (check_is_whole checked)
output_is_whole (CheckOuterRequest grid subject limits workers) left status output (input, all, (checked, is, same, text)) = whole_if status (check_status checked) same (check_is_whole checked)
output_is_whole TableRequest left status output (told, is, same, text) = whole_if status (table_status told) same (table_is_whole told)
output_is_whole (SampleRequest grid n count seed limits workers) left status output (done, is) = whole_if status Done done tt
output_is_whole (FormulaRequest grid level size version) left status output (input, all, inl (done, few, is)) = whole_if status Done done tt
output_is_whole (FormulaRequest grid level size version) left status output (input, all, inr (bad, is)) = whole_if status BadInput bad tt
output_is_whole (AnswerRequest grid level size version) left status output (input, all, inl (done, few, is)) = whole_if status Done done tt
output_is_whole (AnswerRequest grid level size version) left status output (input, all, inr (bad, is)) = whole_if status BadInput bad tt
output_is_whole (ShareRequest grid n i k limits workers) left status output (done, is) = whole_if status Done done tt
output_is_whole JoinRequest left status output (input, all, inl (done, few, is)) = whole_if status Done done tt
output_is_whole JoinRequest left status output (input, all, inr (bad, is)) = whole_if status BadInput bad tt
output_is_whole (OuterRequest grid (Size n) limits workers) left status output (done, is) = whole_if status Done done tt
output_is_whole (OuterRequest grid Given limits workers) left status output (input, all, inl (done, is)) = whole_if status Done done tt
output_is_whole (OuterRequest grid Given limits workers) left status output (input, all, inr (bad, is)) = whole_if status BadInput bad tt

-- a reply that is what a request asks for comes with such a status
pub reply_is_whole : (request : Request) (left : Option (List ℕ)) (reply : Result Reply IoStop) → IfOk reply (λ r. IsOutput request left r.status r.text.items) → IfOk reply (λ r. IsWhole r.status)
reply_is_whole request left (Ok r) is = output_is_whole request left r.status r.text.items is
reply_is_whole request left (Err stop) is = tt

-- ---- how the parts end

keeps_itself : (held : Option (List ℕ)) → Keeps held held
keeps_itself None = tt
keeps_itself (Some xs) = refl

-- with such a status a run ends just where it wrote one whole output
whole_ends : (W : Status → List ℕ → Type 0) (B : List ℕ → Type 0) (old new : Option (List ℕ)) (status : Status) → IsWhole status → (EndsAs W B old new status ↔ WritesOne (W status) old new)
unfolding EndsAs
whole_ends W B old new Done whole = ((λ ends. ends), λ writes. writes)
whole_ends W B old new Invalid whole = ((λ ends. ends), λ writes. writes)
whole_ends W B old new Usage whole = absurd whole
whole_ends W B old new BadInput whole = ((λ ends. ends), λ writes. writes)
whole_ends W B old new ReadFault whole = absurd whole
whole_ends W B old new WriteFault whole = absurd whole
whole_ends W B old new NoMemory whole = absurd whole

put_ends : (W : Status → List ℕ → Type 0) (B : List ℕ → Type 0) (old new : Option (List ℕ)) (text : List ℕ) (status result : Status) (before now : ℕ) → IsWhole status → W status text → B text
    → IsPut text status result old new before now → EndsAs W B old new result
unfolding EndsAs
put_ends W B old new text status result before now whole is begun (inl (same, appends)) =
    subst (λ s. EndsAs W B old new s) (sym same) ((whole_ends W B old new status whole).1 (text, is, appends))
put_ends W B old new text status result before now whole is begun (inr (failed, prefix, rose)) =
    subst (λ s. EndsAs W B old new s) (sym failed) (inr (text, begun, prefix))

stop_ends : (W : Status → List ℕ → Type 0) (B : List ℕ → Type 0) (S : Type 0) (held : S → Option (List ℕ)) (old new : S) (stop : IoStop) → new ≡ old → EndsAs W B (held old) (held new) (read_status stop)
unfolding EndsAs
stop_ends W B S held old new stops.Failed same = tt
stop_ends W B S held old new stops.NoMemory same = inl (subst (λ s. Keeps (held old) (held s)) (sym same) (keeps_itself (held old)))

-- where memory is refused before anything is written
pub memory_ends : (W : Status → List ℕ → Type 0) (B : List ℕ → Type 0) (held : Option (List ℕ)) → EndsAs W B held held NoMemory
unfolding EndsAs
memory_ends W B held = inl (keeps_itself held)

-- where reading fails
pub failure_ends : (W : Status → List ℕ → Type 0) (B : List ℕ → Type 0) (old new : Option (List ℕ)) → EndsAs W B old new ReadFault
unfolding EndsAs
failure_ends W B old new = tt

-- a reply that was put
pub reply_ends : (W : Status → List ℕ → Type 0) (B : List ℕ → Type 0) (S : Type 0) (held : S → Option (List ℕ)) (old new : S) (before now : ℕ) (reply : Result Reply IoStop) (result : Status)
    → IfOk reply (λ r. IsWhole r.status) → IfOk reply (λ r. W r.status r.text.items) → IfOk reply (λ r. B r.text.items)
    → IfOk reply (λ r. IsPut r.text.items r.status result (held old) (held new) before now) → IfErr reply (λ stop. (result ≡ read_status stop) × (new ≡ old))
    → EndsAs W B (held old) (held new) result
reply_ends W B S held old new before now (Ok r) result whole is begun put stops = put_ends W B (held old) (held new) r.text.items r.status result before now whole is begun put
reply_ends W B S held old new before now (Err stop) result whole is begun put (same, kept) = subst (λ s. EndsAs W B (held old) (held new) s) (sym same) (stop_ends W B S held old new stop kept)

begun_reply : (request : Request) (left : Option (List ℕ)) (reply : Result Reply IoStop) → IfOk reply (λ r. IsOutput request left r.status r.text.items) → IfOk reply (λ r. IsBegunOutput request left r.text.items)
begun_reply request left (Ok r) is = begins_itself request left r.status r.text.items is
begun_reply request left (Err stop) is = tt

-- a reply to a request that was put
pub request_ends : (request : Request) (left : Option (List ℕ)) (S : Type 0) (held : S → Option (List ℕ)) (old new : S) (before now : ℕ) (reply : Result Reply IoStop) (result : Status)
    → IfOk reply (λ r. IsOutput request left r.status r.text.items)
    → IfOk reply (λ r. IsPut r.text.items r.status result (held old) (held new) before now) → IfErr reply (λ stop. (result ≡ read_status stop) × (new ≡ old))
    → EndsAs (IsOutput request left) (IsBegunOutput request left) (held old) (held new) result
request_ends request left S held old new before now reply result is put stops =
    reply_ends (IsOutput request left) (IsBegunOutput request left) S held old new before now reply result (reply_is_whole request left reply is) is (begun_reply request left reply is) put stops

-- a catalogue that was written, or stopped
pub writing_ends : {A : Type 0} (W : Status → List ℕ → Type 0) (B One Part : List ℕ → Type 0) (old new : Option (List ℕ)) (written : Result A IoStop) (result : Status)
    → ((output : List ℕ) → One output → W Done output) → ((output : List ℕ) → Part output → B output)
    → OnOk written (WritesOne One old new) → OnErr written (BeginsOne Part old new) → result ≡ written_status written → EndsAs W B old new result
unfolding EndsAs
writing_ends {A} W B One Part old new written result whole begun ok err same = subst (λ s. EndsAs W B old new s) (sym same) (by_writing written ok err)
  where
    begins : BeginsOne Part old new → BeginsOne B old new
    begins (inl keeps) = inl keeps
    begins (inr (output, is, prefix)) = inr (output, begun output is, prefix)

    by_writing : (written : Result A IoStop) → OnOk written (WritesOne One old new) → OnErr written (BeginsOne Part old new) → EndsAs W B old new (written_status written)
    by_writing (Ok x) (output, is, appends) err = (output, whole output is, appends)
    by_writing (Err stops.Failed) ok err = begins err
    by_writing (Err stops.NoMemory) ok err = begins err

-- ---- the statuses of the parts

-- a reply that was put ends Done only where it comes with Done
pub put_done : (P : Type 0) (S : Type 0) (held : S → Option (List ℕ)) (old new : S) (before now : ℕ) (reply : Result Reply IoStop) (result : Status)
    → IfOk reply (λ r. r.status ≡ Done → P)
    → IfOk reply (λ r. IsPut r.text.items r.status result (held old) (held new) before now) → IfErr reply (λ stop. (result ≡ read_status stop) × (new ≡ old))
    → result ≡ Done → P
put_done P S held old new before now (Ok r) result is (inl (same, appends)) stops done = is (sym same ∙ done)
put_done P S held old new before now (Ok r) result is (inr (failed, prefix, rose)) stops done = absurd (let no : WriteFault ≡ Done = sym failed ∙ done in cc)
put_done P S held old new before now (Err stops.Failed) result is put (same, kept) done = absurd (let no : ReadFault ≡ Done = sym same ∙ done in cc)
put_done P S held old new before now (Err stops.NoMemory) result is put (same, kept) done = absurd (let no : NoMemory ≡ Done = sym same ∙ done in cc)

-- and ReadFault only where there is none, since reading failed; then nothing is written
pub put_read_fault : (S : Type 0) (held : S → Option (List ℕ)) (old new : S) (before now : ℕ) (reply : Result Reply IoStop) (result : Status)
    → IfOk reply (λ r. IsWhole r.status)
    → IfOk reply (λ r. IsPut r.text.items r.status result (held old) (held new) before now) → IfErr reply (λ stop. (result ≡ read_status stop) × (new ≡ old))
    → result ≡ ReadFault → (reply ≡ Err stops.Failed) × (new ≡ old)
put_read_fault S held old new before now (Ok r) result whole (inl (same, appends)) stops fault = absurd (whole_if ReadFault r.status (sym fault ∙ same) whole)
put_read_fault S held old new before now (Ok r) result whole (inr (failed, prefix, rose)) stops fault = absurd (let no : WriteFault ≡ ReadFault = sym failed ∙ fault in cc)
put_read_fault S held old new before now (Err stops.Failed) result whole put (same, kept) fault = (refl, kept)
put_read_fault S held old new before now (Err stops.NoMemory) result whole put (same, kept) fault = absurd (let no : NoMemory ≡ ReadFault = sym same ∙ fault in cc)

-- and NoMemory only where there is none either, since memory was refused; then nothing is written
pub put_no_memory : (S : Type 0) (held : S → Option (List ℕ)) (old new : S) (before now : ℕ) (reply : Result Reply IoStop) (result : Status)
    → IfOk reply (λ r. IsWhole r.status)
    → IfOk reply (λ r. IsPut r.text.items r.status result (held old) (held new) before now) → IfErr reply (λ stop. (result ≡ read_status stop) × (new ≡ old))
    → result ≡ NoMemory → new ≡ old
put_no_memory S held old new before now (Ok r) result whole (inl (same, appends)) stops refused = absurd (whole_if NoMemory r.status (sym refused ∙ same) whole)
put_no_memory S held old new before now (Ok r) result whole (inr (failed, prefix, rose)) stops refused = absurd (let no : WriteFault ≡ NoMemory = sym failed ∙ refused in cc)
put_no_memory S held old new before now (Err stop) result whole put (same, kept) refused = kept

-- and WriteFault only where the sink's count of faults rose
pub put_write_fault : (S : Type 0) (held : S → Option (List ℕ)) (old new : S) (before now : ℕ) (reply : Result Reply IoStop) (result : Status)
    → IfOk reply (λ r. IsWhole r.status)
    → IfOk reply (λ r. IsPut r.text.items r.status result (held old) (held new) before now) → IfErr reply (λ stop. (result ≡ read_status stop) × (new ≡ old))
    → result ≡ WriteFault → Rose before now
put_write_fault S held old new before now (Ok r) result whole (inl (same, appends)) stops fault = absurd (whole_if WriteFault r.status (sym fault ∙ same) whole)
put_write_fault S held old new before now (Ok r) result whole (inr (failed, prefix, rose)) stops fault = rose
put_write_fault S held old new before now (Err stops.Failed) result whole put (same, kept) fault = absurd (let no : ReadFault ≡ WriteFault = sym same ∙ fault in cc)
put_write_fault S held old new before now (Err stops.NoMemory) result whole put (same, kept) fault = absurd (let no : NoMemory ≡ WriteFault = sym same ∙ fault in cc)

-- ---- what follows for the run

-- what the words ask for is what this request does, where they ask for it
pub asked_output : (words : List (List ℕ)) (request : Request) (left : Option (List ℕ)) (status : Status) (output : List ℕ) → Asks words request → IsAnswer words left status output → IsOutput request left status output
asked_output words request left status output asks (other, asked, is) = subst (λ r. IsOutput r left status output) (one_request words other request asked asks) is

-- a run that ends with such a status wrote what the words ask for
pub run_writes : (words : List (List ℕ)) (request : Request) (left old new : Option (List ℕ)) (result status : Status) → Asks words request
    → EndsAs (IsOutput request left) (IsBegunOutput request left) old new result → IsWhole status → result ≡ status → Writes words left status old new
run_writes words request left old new result status asks ends whole same =
    let W = IsOutput request left in
    let B = IsBegunOutput request left in
    let (output, is, appends) = (whole_ends W B old new status whole).0 (subst (λ s. EndsAs W B old new s) same ends) in
    (output, (request, asks, is), appends)

begins_prefix : (words : List (List ℕ)) (request : Request) (left old new : Option (List ℕ)) → Asks words request → BeginsOne (IsBegunOutput request left) old new → WritesPrefix words left old new
begins_prefix words request left old new asks (inl keeps) = inl keeps
begins_prefix words request left old new asks (inr (output, is, prefix)) = inr (output, (request, asks, is), prefix)

-- one that ends WriteFault wrote a prefix
pub fault_prefix : (words : List (List ℕ)) (request : Request) (left old new : Option (List ℕ)) (result : Status) → Asks words request
    → EndsAs (IsOutput request left) (IsBegunOutput request left) old new result → result ≡ WriteFault → WritesPrefix words left old new
unfolding EndsAs
fault_prefix words request left old new result asks ends same =
    begins_prefix words request left old new asks (subst (λ s. EndsAs (IsOutput request left) (IsBegunOutput request left) old new s) same ends)

-- and so did one that ends NoMemory
pub memory_prefix : (words : List (List ℕ)) (request : Request) (left old new : Option (List ℕ)) (result : Status) → Asks words request
    → EndsAs (IsOutput request left) (IsBegunOutput request left) old new result → result ≡ NoMemory → WritesPrefix words left old new
unfolding EndsAs
memory_prefix words request left old new result asks ends same =
    begins_prefix words request left old new asks (subst (λ s. EndsAs (IsOutput request left) (IsBegunOutput request left) old new s) same ends)

-- no request ends Usage
pub not_usage : (request : Request) (left old new : Option (List ℕ)) (result : Status) → EndsAs (IsOutput request left) (IsBegunOutput request left) old new result → result ≢ Usage
unfolding EndsAs
not_usage request left old new result ends same = subst (λ s. EndsAs (IsOutput request left) (IsBegunOutput request left) old new s) same ends

-- a run is done, or told a fault of the input, or was refused memory, or a count rose
pub run_completes : (request : Request) (left old new : Option (List ℕ)) (Reading Writing : Type 0) (result : Status) → EndsAs (IsOutput request left) (IsBegunOutput request left) old new result
    → (result ≡ ReadFault → Reading) → (result ≡ WriteFault → Writing)
    → (result ≡ Done) ⊎ (result ≡ Invalid) ⊎ (result ≡ BadInput) ⊎ (result ≡ NoMemory) ⊎ Reading ⊎ Writing
unfolding EndsAs
run_completes request left old new Reading Writing Done ends read write = inl refl
run_completes request left old new Reading Writing Invalid ends read write = inr (inl refl)
run_completes request left old new Reading Writing Usage ends read write = absurd ends
run_completes request left old new Reading Writing BadInput ends read write = inr (inr (inl refl))
run_completes request left old new Reading Writing ReadFault ends read write = inr (inr (inr (inr (inl (read refl)))))
run_completes request left old new Reading Writing WriteFault ends read write = inr (inr (inr (inr (inr (write refl)))))
run_completes request left old new Reading Writing NoMemory ends read write = inr (inr (inr (inl refl)))
