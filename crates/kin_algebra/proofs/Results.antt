-- Clauses that speak of an `Ok` alone, or of an `Err` alone.
use Rattle.std.proofs.Common.{◌≡◌, refl, subst, Result, Ok, Err}
use Rattle.std.specs.Prelude.{OnOk, OnErr}

-- what holds in any case
pub on_ok : {T E P : Type 0} (r : Result T E) → P → OnOk r P
on_ok (Ok v) p = p
on_ok (Err e) p = tt

pub on_err : {T E P : Type 0} (r : Result T E) → P → OnErr r P
on_err (Ok v) p = tt
on_err (Err e) p = p

pub for_ok : {T E : Type 0} (r : Result T E) (P : Type 0) → ((v : T) → r ≡ Ok v → P) → OnOk r P
for_ok (Ok v) P f = f v refl
for_ok (Err e) P f = tt

pub at_ok : {T E : Type 0} (r : Result T E) (P : Type 0) (v : T) → r ≡ Ok v → OnOk r P → P
at_ok {T} {E} r P v e h = let k : OnOk {T = T} {E = E} (Ok v) P = subst (λ (x : Result T E). OnOk x P) e h in k

-- what follows from two clauses, from three, from four
pub from_two : {T E A B P : Type 0} (r : Result T E) → (A → B → P) → OnOk r A → OnOk r B → OnOk r P
from_two (Ok v) f a b = f a b
from_two (Err e) f a b = tt

pub from_three : {T E A B C P : Type 0} (r : Result T E) → (A → B → C → P) → OnOk r A → OnOk r B → OnOk r C → OnOk r P
from_three (Ok v) f a b c = f a b c
from_three (Err e) f a b c = tt

pub from_four : {T E A B C D P : Type 0} (r : Result T E) → (A → B → C → D → P) → OnOk r A → OnOk r B → OnOk r C → OnOk r D → OnOk r P
from_four (Ok v) f a b c d = f a b c d
from_four (Err e) f a b c d = tt
