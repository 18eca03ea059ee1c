-- What came of a deed, from what came of its parts.
use Rattle.std.proofs.Common.{◌≡◌, ◌≢◌, ℕ, Bool, List, ◌++◌, ◌∙◌, refl, sym, append-nil, subst, Result, Ok, Err, OnOk, OnErr, [], Option, slice_set}
use Rattle.kin_status.proofs.Vocabulary.{IsCanonical, IsEarlier, Quadratic, Shape, Plan, plan_of, PointChange, ChangesTo, asks, changes, goes_to, PutsFront, IsAllowed, IsNamedRoot, IsAlike, State, just_at, IsNextText, IsPassedText, Prints, Step}
use Rattle.kin_status.proofs.Vocabulary.{Command, answerable_allowed, one_reply_line, BreaksOff, IsFrontOfEach, IsReply, Performs, PutsLine, Replies, GainsSome, Printer, printer, Halt, Broken, Refused, Stop, Fault, NoMemory}
use Rattle.kin_print.specs.declared.reply.Reply.{Reply}
use Rattle.kin_print.specs.Replies.{reply_line}
use Rattle.kin_status.proofs.Determined.{goes_allowed}
use Rattle.kin_status.proofs.Forgetting.{alike_itself}
use Rattle.kin_status.proofs.Passing.{one_next}
use Rattle.kin_status.proofs.Gathering.{Bytes, gains_put, some_is, gains_nothing, front_nil}
use Rattle.kin_status.proofs.NamedRoots.{one_named_root}

-- ---- to an instant
module _ (s : State) (upper : Bool) (z : Quadratic) (w : Shape) (named : IsNamedRoot upper z w) (later : ¬ (IsEarlier (just_at w) s.moment)) where
  pub moved : {p q : Printer} (t : State) → IsAlike (record s { moment = just_at w }) t → GainsSome (IsPassedText s.journal s w) p q → GainsSome (λ text. (u : State) × Step s (goes_to upper z) text u × IsAlike u t) p q
  moved t alike x = some_is x (λ text. (u : State) × Step s (goes_to upper z) text u × IsAlike u t)
      (λ text is. (record s { moment = just_at w }, record { allowed = goes_allowed s upper z w named later; prints = (w, named, is); leads = (w, named, refl) }, alike))

  cut : (front : List ℕ) → IsFrontOfEach (IsPassedText s.journal s w) front → IsFrontOfEach (Prints s (goes_to upper z)) front
  cut front h text is = h text (subst (λ (v : Shape). IsPassedText s.journal s v text) (one_named_root upper z is.0 w is.1 named) is.2)

  pub moving_broke : (stop : Stop) (p q : Printer) → BreaksOff (IsFrontOfEach (IsPassedText s.journal s w)) stop p q → IsAllowed s (goes_to upper z) × BreaksOff (IsFrontOfEach (Prints s (goes_to upper z))) stop p q
  moving_broke NoMemory p q x = (goes_allowed s upper z w named later, some_is x (IsFrontOfEach (Prints s (goes_to upper z))) cut)
  moving_broke Fault p q x = (goes_allowed s upper z w named later, record { text = x.text; reached = x.reached; is = cut x.text x.is })

-- ---- a reply
module _ (s : State) (q : Command) (before now : List ℕ) (E : Type 0) where
  -- without a reply nothing is put
  pub no_reply : (halt : Halt) → IsReply s q (Err halt) → now ≡ before → Replies {E = E} s q (Err halt) before now
  no_reply (Refused r) is same = (is, same)
  no_reply (Broken NoMemory) is same = (is, ([], same ∙ sym (append-nil before), λ text line. front_nil text))
  no_reply (Broken Fault) is same = absurd is

  pub reply_broke : IsCanonical s.moment.at → (reply : Reply) → IsReply s q (Ok reply) → PutsFront before now (reply_line reply) → Replies {E = E} s q (Err (Broken NoMemory)) before now
  reply_broke canonical reply is put = (is.0, (put.front, put.put, λ text line. record { more = put.rest; joined = one_reply_line s canonical q text (reply_line reply) line is.1 ∙ put.cut }))

pub no_fault : (s : State) (q : Command) (halt : Halt) → IsReply s q (Err halt) → halt ≢ Broken Fault
no_fault s q (Broken Fault) is e = absurd is
no_fault s q halt is e = cc

-- ---- to a question
pub replied : {E : Type 0} (s : State) (q : Command) (result : Result E Halt) (held : Bytes) (before now : List ℕ) → Replies s q result before now → Performs s (asks q) result (printer held before) (printer held now) s
replied s q (Ok x) held before now a = record { text = a.1.0; gained = gains_put held before now a.1.0 a.1.1; is = (s, record { allowed = answerable_allowed s q a.0; prints = a.1.2; leads = refl }, alike_itself s) }
replied s q (Err (Refused r)) held before now a = (a.0, (λ i. printer held (a.1 i)), refl)
replied s q (Err (Broken NoMemory)) held before now a = (answerable_allowed s q a.0, record { text = a.1.0; gained = gains_put held before now a.1.0 a.1.1; is = a.1.2 })
replied s q (Err (Broken Fault)) held before now a = absurd a

-- ---- what comes next has one text alone: what was put of it is what was put of each
pub puts_next : {E : Type 0} (s : State) → IsCanonical s.moment.at → (line : List ℕ) → IsNextText s line → (result : Result (Unit {0}) E) (before now : List ℕ) → OnOk result (now ≡ before ++ line) → OnErr result (PutsFront before now line)
    → PutsLine (IsNextText s) result before now
puts_next s canonical line own (Ok x) before now ok err = (line, ok, own)
puts_next s canonical line own (Err e) before now ok err = (err.front, err.put, λ text is. record { more = err.rest; joined = one_next s text line canonical is own ∙ err.cut })

module _ (s : State) (number : ℕ) (c : PointChange) (p : Printer) (allowed : IsAllowed s (changes number c)) where
  pub changed : (next : Option Plan) (t : State) → ChangesTo s.moment (plan_of s.plans number) c next → IsAlike (record s { plans = slice_set s.plans number next }) t
      → GainsSome (λ text. (u : State) × Step s (changes number c) text u × IsAlike u t) p p
  changed next t to alike = record { text = []; gained = gains_nothing p; is = (record s { plans = slice_set s.plans number next }, record { allowed = allowed; prints = refl; leads = (next, to, refl) }, alike) }
