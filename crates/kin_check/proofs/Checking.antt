-- A known input has one verdict, and the status of that.
use Rattle.std.proofs.Common.{◌≡◌, ◌↔◌, ℕ, ◌+◌, ◌≤◌, ◌<◌, ◌^◌, Bool, List, [], ◌++◌, ap, ◌∙◌, length, Option, Some, refl, sym, subst, arith, ◌⊎◌, inl, inr, length-append, append-nil}
use Rattle.kin_check.specs.Splits.{IsTrueClaim, IsUnsplit}
use Rattle.kin_check.specs.declared.verdict.Verdict.{Verdict}
use Rattle.kin_check.specs.declared.verdict.Verdict.TheVariants as verdict
use Rattle.kin_check.specs.Checked.{CheckOutcome, Checks, IsVerdict, Tells, line_of, status_of_verdict}
use Rattle.kin_status.specs.Headline.{IsBrokenOff, TakesWhole}
use Rattle.kin_status.specs.declared.status.Status.{Status}
use Rattle.kin_status.specs.declared.status.Status.TheVariants as status
use Rattle.kin_status.specs.declared.status.Side.TheVariants.{Read, Write}
use Rattle.kin_status.proofs.OneText.{left_of}

-- a verdict that is written whole has its own status
pub told : (v : Verdict) → Tells v (status_of_verdict v) (line_of v)
told verdict.Yes = (refl, refl)
told verdict.No = (refl, refl)
told verdict.Unsplit = (refl, refl)

-- the verdict that `check` answers is that of the input
pub verdict_is : (input : List ℕ) (v : Verdict) → ((v ≡ verdict.Yes) ↔ IsTrueClaim input) → ((v ≡ verdict.Unsplit) ↔ IsUnsplit input)
    → ((v ≡ verdict.No) ↔ (¬ (IsTrueClaim input) × ¬ (IsUnsplit input))) → IsVerdict input v
verdict_is input verdict.Yes a b c = a.0 refl
verdict_is input verdict.No a b c = c.0 refl
verdict_is input verdict.Unsplit a b c = b.0 refl

-- the statuses of verdicts
abbrev pub IsOwn : Status → Type 0
IsOwn status.Done = Unit {0}
IsOwn status.Differs = Unit {0}
IsOwn status.Unsplit = Unit {0}
IsOwn other = ⊥

own : (v : Verdict) → IsOwn (status_of_verdict v)
own verdict.Yes = tt
own verdict.No = tt
own verdict.Unsplit = tt

only : (v : Verdict) (st : Status) → st ≡ status_of_verdict v → IsOwn st
only v st e = subst IsOwn (sym e) (own v)

-- what is written of the verdict of an input that was taken whole
pub outcome : (left : Option (List ℕ)) (ended : Bool) (input : List ℕ) (v : Verdict) (st : Status) (written : List ℕ) → TakesWhole left ended input → IsVerdict input v → Tells v st written
    → CheckOutcome left ended input st written
outcome left ended input v (status.Fault Read) written whole is t = absurd (only v (status.Fault Read) t.0)
outcome left ended input v (status.Fault Write) written whole is t = (whole, (v, is, t))
outcome left ended input v status.TooLong written whole is t = absurd (only v status.TooLong t.0)
outcome left ended input v status.NoMemory written whole is t = absurd (only v status.NoMemory t.0)
outcome left ended input v st written whole is t = (whole, (v, is, t))

pub has_words : {left now : Option (List ℕ)} {ended : Bool} {before after : Option (List ℕ)} → ¬ (Checks left now ended before after status.Words)
has_words p = only p.outcome.1.0 status.Words p.outcome.1.2.0

-- where a claim is true, the input is parted
parted : (input : List ℕ) → IsTrueClaim input → ¬ (IsUnsplit input)
parted input p none = none p.0 p.1 p.2.parted

one_verdict : (input : List ℕ) (v w : Verdict) → IsVerdict input v → IsVerdict input w → v ≡ w
one_verdict input verdict.Yes verdict.Yes p q = refl
one_verdict input verdict.Yes verdict.No p q = absurd (q.0 p)
one_verdict input verdict.Yes verdict.Unsplit p q = absurd (parted input p q)
one_verdict input verdict.No verdict.Yes p q = absurd (p.0 q)
one_verdict input verdict.No verdict.No p q = refl
one_verdict input verdict.No verdict.Unsplit p q = absurd (p.1 q)
one_verdict input verdict.Unsplit verdict.Yes p q = absurd (parted input q p)
one_verdict input verdict.Unsplit verdict.No p q = absurd (q.1 p)
one_verdict input verdict.Unsplit verdict.Unsplit p q = refl

-- a run answers the verdict of its input, unless it was broken off or the input is too long
ends : (left : Option (List ℕ)) (ended : Bool) (input : List ℕ) (st : Status) (written : List ℕ) → CheckOutcome left ended input st written
    → IsBrokenOff st ⊎ ((TakesWhole left ended input × ((v : Verdict) × IsVerdict input v × (st ≡ status_of_verdict v))) ⊎ ((st ≡ status.TooLong) × (length input ≡ 2 ^ 20 + 1)))
ends left ended input (status.Fault s) written o = inl tt
ends left ended input status.TooLong written o = inr (inr (refl, o.1))
ends left ended input status.NoMemory written o = inl tt
ends left ended input st written o = inr (inl (o.0, (o.1.0, o.1.1, o.1.2.0)))

module _ {left now : Option (List ℕ)} {ended : Bool} {before after : Option (List ℕ)} {st : Status} (input : List ℕ) (p : Checks left now ended before after st) (known : left ≡ Some input) where
  rest : (rest : List ℕ) × (now ≡ Some rest) × (input ≡ p.input ++ rest)
  rest = left_of now input p.input (rw known at p.taken)

  -- the whole input was taken
  taken : TakesWhole now ended p.input → input ≡ p.input
  taken whole = let none : rest.0 ≡ [] = rw rest.1 at whole.nothing_left in rest.2 ∙ ap (λ (more : List ℕ). p.input ++ more) none ∙ append-nil p.input

  size : length input ≡ length p.input + length rest.0
  size = ap (λ (bytes : List ℕ). length bytes) rest.2 ∙ length-append p.input rest.0

  -- a known input has the status of its verdict, unless the run was broken off
  pub exact : (v : Verdict) → length input ≤ 2 ^ 20 → IsVerdict input v → (st ≡ status_of_verdict v) ⊎ IsBrokenOff st
  exact v small q = elim (ends now ended p.input st p.written p.outcome) [
    | inl broken ↦ inr broken
    | inr rest ↦ elim rest [
      | inl told ↦ inl (told.1.2 ∙ ap status_of_verdict (one_verdict input told.1.0 v (subst (λ (bytes : List ℕ). IsVerdict bytes told.1.0) (sym (taken told.0)) told.1.1) q))
      | inr long ↦ absurd (let more = long.1 in omega (arith, small, size, more))
    ]
  ]

  -- and a longer one that of its length
  pub too_long : 2 ^ 20 < length input → (st ≡ status.TooLong) ⊎ IsBrokenOff st
  too_long high = elim (ends now ended p.input st p.written p.outcome) [
    | inl broken ↦ inr broken
    | inr rest ↦ elim rest [
      | inl told ↦ absurd (let within = told.0.within in let same = ap (λ (bytes : List ℕ). length bytes) (taken told.0) in omega (arith, high, within, same))
      | inr long ↦ inl long.0
    ]
  ]
