-- An input has one text, and one status with it.
use Rattle.std.proofs.Common.{rules, ◌≡◌, ℕ, ◌+◌, ◌≤◌, ◌^◌, Bool, List, [], ◌∷◌, ◌++◌, length, Option, Some, None, Ok, Err, refl, sym, ap, ◌∙◌, subst, arith, ◌⊎◌, inl, inr, length-append, append-nil, Result, take}
use Rattle.kin_status.proofs.Vocabulary.{Consumes, IsCanonical, start_canonical, deed_of, script_of, State, start, Ending, Text, bad_line, Script, Answers, IsAnswer, IsBrokenOff, IsCut, OneAnswer, Outcome, TakesWhole, IsFront, Status}
use Rattle.kin_status.proofs.Determined.{stays, one_step}
use Rattle.kin_status.proofs.Gathering.{front_take}
use Rattle.kin_status.proofs.Playing.{Line, allowed_goes_on, text_refused}
use Rattle.kin_status.specs.declared.status.Status.TheVariants as status

pub one_text : (s : State) (cs : List Line) (x y : List ℕ) (e f : Ending) → IsCanonical s.moment.at → Text s cs x e → Text s cs y f → (x ≡ y) × (e ≡ f)
one_text s [] x y e f canonical p q = (p.0 ∙ sym q.0, p.1 ∙ sym q.1)
one_text s (c ∷ cs) x y e f canonical (inl p) q =
    let other = text_refused s c cs y f p.0 p.1 q in
    (p.2 ∙ sym other.0, p.3 ∙ sym other.1)
one_text s (c ∷ cs) x y e f canonical (inr a) q =
    let b = allowed_goes_on s c cs y f a.3.allowed q in
    let same = one_step s (deed_of c.1) a.0 b.0 a.2 b.2 canonical a.3 b.3 in
    let tails = one_text b.2 cs a.1 b.1 e f (stays s (deed_of c.1) b.2 canonical b.3.leads).1 (subst (λ (t : State). Text t cs a.1 e) same.1 a.4) b.4 in
    (a.5 ∙ ap (λ (v : List ℕ). v ++ a.1) same.0 ∙ ap (λ (w : List ℕ). b.0 ++ w) tails.0 ∙ sym b.5, tails.1)

-- the status of a script whose run ends so
abbrev ended : Ending → Status
ended None = status.Done
ended (Some (n, r)) = status.Command n r

-- an answer is that of a script, or that of a line outside the grammar
abbrev IsOf : Result Script ℕ → Status → List ℕ → Type 0
IsOf (Ok s) a text = (ending : Ending) × Text (start s.size s.keeps s.journal) s.lines text ending × (a ≡ ended ending)
IsOf (Err line) a text = (a ≡ status.Script line) × (text ≡ bad_line line)

answer_of : (input : List ℕ) (r : Result Script ℕ) → script_of input ≡ r → (a : Status) (text : List ℕ) → IsAnswer input a text → IsOf r a text
answer_of input r e status.Done text p = rw (← e, p.reads) (None, p.replays, refl)
answer_of input r e (status.Command n c) text p = rw (← e, p.reads) (Some (n, c), p.replays, refl)
answer_of input r e (status.Script n) text p = rw (← e, p.0) (refl, p.1)
answer_of input r e other text p = absurd p

one_of : (r : Result Script ℕ) (x y : List ℕ) (a b : Status) → IsOf r a x → IsOf r b y → (a ≡ b) × (x ≡ y)
one_of (Ok s) x y a b p q = let same = one_text (start s.size s.keeps s.journal) s.lines x y p.0 q.0 start_canonical p.1 q.1 in (p.2 ∙ ap ended same.1 ∙ sym q.2, same.0)
one_of (Err line) x y a b p q = (p.0 ∙ sym q.0, p.1 ∙ sym q.1)

pub one_answer : OneAnswer
one_answer input x y a b p q = one_of (script_of input) x y a b (answer_of input _ refl a x p) (answer_of input _ refl b y q)

-- a front of the line of an input outside the grammar is a front of its text
pub cut_of_bad : (input said : List ℕ) (k line : ℕ) → script_of input ≡ Err line → said ≡ bad_line line → IsCut input (take k said)
cut_of_bad input said k line e is = λ answer text p. subst (IsFront (take k said)) (is ∙ sym (answer_of input (Err line) e answer text p).1) (front_take k said)

-- ---- which status a known input has: what is left of it stands behind what was taken
pub left_of : (now : Option (List ℕ)) (input taken : List ℕ) → Consumes (Some input) now taken → (rest : List ℕ) × (now ≡ Some rest) × (input ≡ taken ++ rest)
left_of None input taken c = absurd c
left_of (Some ys) input taken c = (ys, refl, c)

-- a run answers its input, unless it was broken off or the input is too long
ends : (left : Option (List ℕ)) (ended : Bool) (input : List ℕ) (st : Status) (written : List ℕ) → Outcome left ended input st written
    → IsBrokenOff st ⊎ ((TakesWhole left ended input × IsAnswer input st written) ⊎ ((st ≡ status.TooLong) × (length input ≡ 2 ^ 20 + 1)))
ends left ended input (status.Fault s) written o = inl tt
ends left ended input status.TooLong written o = inr (inr (refl, o.1))
ends left ended input status.Words written o = absurd o
ends left ended input status.NoMemory written o = inl tt
ends left ended input st written o = inr (inl o)

module _ {left now : Option (List ℕ)} {ended : Bool} {before after : Option (List ℕ)} {st : Status} (input : List ℕ) (p : Answers left now ended before after st) (known : left ≡ Some input) where
  rest : (rest : List ℕ) × (now ≡ Some rest) × (input ≡ p.input ++ rest)
  rest = left_of now input p.input (rw known at p.taken)

  -- a known input has its own status, unless the run was broken off
  pub exact : (a : Status) (text : List ℕ) → length input ≤ 2 ^ 20 → IsAnswer input a text → (st ≡ a) ⊎ IsBrokenOff st
  exact a text small q = search (rules, arith, ends, p.outcome, append-nil, one_answer, length-append)
