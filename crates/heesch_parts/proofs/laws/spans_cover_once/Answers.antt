use Rattle.heesch_parts.proofs.Spans.{cover_once, stay_within}
use Rattle.heesch_parts.proofs.laws.spans_cover_once.Goals as goal

pub returns-clause-once : goal.returns-clause-once
returns-clause-once c = cover_once

pub returns-clause-within : goal.returns-clause-within
returns-clause-within c = stay_within
