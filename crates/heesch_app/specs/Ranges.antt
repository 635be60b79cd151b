-- The ranges of a request's numbers.
use Rattle.std.specs.Prelude.{◌≤◌, ⊤}
use Rattle.heesch_cert.specs.declared.header.Subject.{Subject}
use Rattle.heesch_cert.specs.declared.header.Subject.TheVariants.{Size, Given}
use Rattle.heesch_cert.specs.Limits.{AreLimits}
use Rattle.heesch_words.specs.declared.requests.Request.{Request}
use Rattle.heesch_words.specs.declared.requests.Request.TheVariants.{List as ListRequest, Plain as PlainRequest, Classify as ClassifyRequest, Check as CheckRequest, CheckOuter as CheckOuterRequest, Table as TableRequest, Sample as SampleRequest, Formula as FormulaRequest, Answer as AnswerRequest, Share as ShareRequest, Join as JoinRequest, Outer as OuterRequest}

-- a size of 1 to 31 cells, or any shapes that are given
abbrev pub IsSubjectInRange : Subject → Type 0
IsSubjectInRange (Size n) = (1 ≤ n) × (n ≤ 31)
IsSubjectInRange Given = ⊤

-- its size is 1 to 31 cells, its workers are 1 to 64, and its limits, or its level and literals, lie in their ranges
abbrev pub IsInRange : Request → Type 0
IsInRange (ListRequest grid n workers) = (1 ≤ n) × (n ≤ 31) × (1 ≤ workers) × (workers ≤ 64)
IsInRange (PlainRequest grid n workers) = (1 ≤ n) × (n ≤ 31) × (1 ≤ workers) × (workers ≤ 64)
IsInRange (ClassifyRequest grid subject limits workers brief) = IsSubjectInRange subject × AreLimits limits × (1 ≤ workers) × (workers ≤ 64)
IsInRange (CheckRequest workers) = (1 ≤ workers) × (workers ≤ 64)
IsInRange (CheckOuterRequest grid subject limits workers) = IsSubjectInRange subject × AreLimits limits × (1 ≤ workers) × (workers ≤ 64)
IsInRange TableRequest = ⊤
IsInRange (SampleRequest grid n count seed limits workers) = (1 ≤ n) × (n ≤ 32) × (count ≤ 1000) × AreLimits limits × (1 ≤ workers) × (workers ≤ 64)
IsInRange (FormulaRequest grid level size version) = (1 ≤ level) × (level ≤ 6) × (1 ≤ size) × (size ≤ 60000000)
IsInRange (AnswerRequest grid level size version) = (1 ≤ level) × (level ≤ 6) × (1 ≤ size) × (size ≤ 60000000)
IsInRange (ShareRequest grid n i k limits workers) = (1 ≤ n) × (n ≤ 31) × (1 ≤ i) × (i ≤ k) × (k ≤ 1000) × AreLimits limits × (1 ≤ workers) × (workers ≤ 64)
IsInRange JoinRequest = ⊤
IsInRange (OuterRequest grid subject limits workers) = IsSubjectInRange subject × AreLimits limits × (1 ≤ workers) × (workers ≤ 64)
