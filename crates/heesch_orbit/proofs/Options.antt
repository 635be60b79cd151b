-- Facts of an answer that may be none.
use Rattle.std.proofs.Common.{Option, Some, None, Result, Ok, Err}
use Rattle.std.specs.Option.{IfSome, IfNone}
use Rattle.std.specs.Result.{OnOk}

-- what follows from the fact of the value
pub some_also : {X : Type 0} (P Q : X → Type 0) → ((x : X) → P x → Q x) → (o : Option X) → IfSome o P → IfSome o Q
some_also P Q f (Some x) h = f x h
some_also P Q f None h = h

-- what follows from the fact of none
pub none_also : {X : Type 0} (A B : Type 0) → (A → B) → (o : Option X) → IfNone o A → IfNone o B
none_also A B f (Some x) h = h
none_also A B f None h = f h

-- what follows where a call went well
pub on_ok : {X E : Type 0} (A B : Type 0) → (A → B) → (r : Result X E) → OnOk r A → OnOk r B
on_ok A B f (Ok x) h = f h
on_ok A B f (Err e) h = h
