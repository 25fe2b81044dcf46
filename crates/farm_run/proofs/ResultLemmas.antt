-- Clauses on the results of calls, told otherwise.
use Rattle.std.proofs.Common.{Result, Ok, Err}
use Rattle.std.specs.Prelude.{IfOk, OnOk, OnErr}

pub ok_then : {X E : Type 0} {P Q : X → Type 0} (r : Result X E) → IfOk r P → ((x : X) → P x → Q x) → IfOk r Q
ok_then (Ok x) h f = f x h
ok_then (Err e) h f = tt

pub ok_and : {X E : Type 0} (P Q : X → Type 0) (r : Result X E) → IfOk r P → IfOk r Q
    → IfOk r (λ x. P x × Q x)
ok_and P Q (Ok x) h k = (h, k)
ok_and P Q (Err e) h k = tt

pub ok_on : {X E : Type 0} (T : Type 0) (r : Result X E) → OnOk r T → IfOk r (λ x. T)
ok_on T (Ok x) h = h
ok_on T (Err e) h = tt

pub on_ok : {X E T : Type 0} (r : Result X E) → T → OnOk r T
on_ok (Ok x) h = h
on_ok (Err e) h = tt

pub on_err : {X E T : Type 0} (r : Result X E) → T → OnErr r T
on_err (Ok x) h = tt
on_err (Err e) h = h

pub err_then : {X E T U : Type 0} (r : Result X E) → OnErr r T → (T → U) → OnErr r U
err_then (Ok x) h f = tt
err_then (Err e) h f = f h
