-- The commands of a generated script are never refused, and a seed and a count have one text.
use Rattle.std.proofs.Common.{rules, ◌≡◌, inl, inr, ℕ, zero, suc, ◌+◌, ◌≤◌, ◌^◌, true, false, List, [], ◌∷◌, ◌++◌, Some, None, refl, sym, ap, ◌∙◌, subst, append_assoc, arith, pos, take, is_some, get_or-set_other}
use lib.IntN.{neg_ℤ}
use Rattle.std.proofs.lemmas.Nat.Gcd.{IsGcd-from_zero, IsGcd-from_mod}
use Rattle.kin_status.proofs.Vocabulary.{Appends, Appends-trans, ints, same_Some, line, sign_at_instant, IsEarlier, After, At, Shape, above_fraction, less_asym, start_canonical, plan_of, AppendsFront, asks}
use Rattle.kin_status.proofs.Vocabulary.{Deed, deed_of, IsGenerated, insertion, insertions, generated_keeps, questions, answerable_allowed, IsAnswerable, IsRefused, LeadsTo, IsNamedRoot, State, just_at, Ending, Text, Command, Script, IsDemoText}
use Rattle.kin_status.proofs.Vocabulary.{OneDemoText, WritesDemo, start_of, status_of_stop, PassesInTurn, IsCutOfText, IsFrontOfEach, HasTallied, tally_line, IsFront, Wrote, Tally, Stop, Fault, NoMemory}
use Rattle.kin_num.specs.declared.instant.Shape.TheVariants.{Ratio}
use Rattle.kin_num.proofs.FractionOrder.{fraction_itself, line_at_fraction}
use Rattle.kin_legs.proofs.PathLaws.{none_planned}
use Rattle.kin_motion.specs.declared.keep.Rect.{Rect}
use Rattle.kin_script.specs.declared.command.Command.TheVariants.{Extreme, Hull, Closest, Inside, Live}
use Rattle.kin_status.proofs.Gathering.{Bytes, front_through, front_take, front_after}
use Rattle.kin_status.proofs.OneText.{one_text}
use Rattle.kin_status.proofs.Playing.{Line, one_in_turn}
use Rattle.kin_status.proofs.Tallying.{tallied_from_nothing}

-- ---- the points enter
-- no number from the first on is live, what a generated script keeps is kept, and it is the instant 0
record IsAwaiting (first : ℕ) (s : State) : Type 0 where
  free : (number : ℕ) → first ≤ number → is_some (plan_of s.plans number) ≡ false
  keeps : s.keeps ≡ generated_keeps
  moment : s.moment ≡ just_at (Ratio (pos 0) (pos 1))

-- what the commands of a suffix end in, from such a state
abbrev EndWell : ℕ → List Line → Type 0
EndWell first cs = (s : State) (text : List ℕ) (ending : Ending) → IsAwaiting first s → Text s cs text ending → ending ≡ None

insertion_ends_well : (seed first : ℕ) (cs : List Line) → EndWell (suc first) cs → EndWell first (insertion seed first ∷ cs)
insertion_ends_well seed first cs more s text ending awaiting (inl e) = absurd (let free = awaiting.free first (omega arith) in let live = e.1.1 in cc)
insertion_ends_well seed first cs more s text ending awaiting (inr g) = search (rules, arith, g.3.leads, get_or-set_other, awaiting.free)

insertions_end_well : (seed count : ℕ) (cs : List Line) → EndWell count cs → EndWell 0 (insertions seed count ++ cs)
insertions_end_well seed zero cs more = more
insertions_end_well seed (suc n) cs more = rw (append_assoc (insertions seed n) (insertion seed n ∷ []) cs) (insertions_end_well seed n (insertion seed n ∷ cs) (insertion_ends_well seed n cs more))

-- ---- time goes to 20
twenty_later : (w : Shape) → IsNamedRoot true (line (pos 20) (pos 1)) w → ¬ (IsEarlier (just_at w) (just_at (Ratio (pos 0) (pos 1))))
twenty_later w named (inr level) = let clash : At ≡ After = level.2 in cc
twenty_later w named (inl less) =
    let is = fraction_itself (pos 20) (pos 1) (record { positive = omega arith; lowest = IsGcd-from_mod 20 1 1 (IsGcd-from_zero 1 0 refl) }) w named.0.canonical.form named.0.zero in
    let positive = ap (sign_at_instant (line (pos 0) (pos 1))) is ∙ line_at_fraction (pos 20) (pos 1) (pos 0) (pos 1) refl in
    less_asym w (Ratio (pos 0) (pos 1)) named.0.canonical.form start_canonical.form less (above_fraction (pos 0) (pos 1) start_canonical.form w named.0.canonical.form positive)

-- ---- the questions: what commands end in, where that is kept
record EndWithKeeps (cs : List Line) : Type 0 where
  ends : (s : State) (text : List ℕ) (ending : Ending) → s.keeps ≡ generated_keeps → Text s cs text ending → ending ≡ None

asked_ends_well : (number : ℕ) (q : Command) (cs : List Line) → deed_of q ≡ asks q → ((s : State) → s.keeps ≡ generated_keeps → IsAnswerable s q) → EndWithKeeps cs → EndWithKeeps ((number, q) ∷ cs)
asked_ends_well number q cs is has more = record { ends = ends }
  where
    ends : (s : State) (text : List ℕ) (ending : Ending) → s.keeps ≡ generated_keeps → Text s ((number, q) ∷ cs) text ending → ending ≡ None
    ends s text ending keeps (inl e) = absurd (answerable_allowed s q (has s keeps) e.0 (subst (λ (d : Deed). IsRefused s d e.0) is e.1))
    ends s text ending keeps (inr g) = more.ends g.2 g.1 ending (ap (λ (t : State). t.keeps) (subst (λ (d : Deed). LeadsTo s d g.2) is g.3.leads) ∙ keeps) g.4

abbrev around : Rect
around = record { x1 = neg_ℤ (pos 100); x2 = pos 100; y1 = neg_ℤ (pos 100); y2 = pos 100 }

replies_end_well : (number : ℕ) → EndWithKeeps ((number + 1, Extreme 1) ∷ (number + 2, Hull) ∷ (number + 3, Closest) ∷ (number + 4, Inside around) ∷ (number + 5, Live) ∷ [])
replies_end_well number =
    asked_ends_well (number + 1) (Extreme 1) _ refl (λ s keeps. ((pos 1, pos 1, rw keeps refl), tt))
    (asked_ends_well (number + 2) Hull _ refl (λ s keeps. ((2, rw keeps refl), tt))
    (asked_ends_well (number + 3) Closest _ refl (λ s keeps. ((3, rw keeps refl), tt))
    (asked_ends_well (number + 4) (Inside around) _ refl (λ s keeps. ((4, rw keeps refl), tt))
    (asked_ends_well (number + 5) Live [] refl (λ s keeps. (tt, tt)) (record { ends = λ s text ending keeps t. t.1 })))))

questions_end_well : (count number : ℕ) → EndWell count (questions number)
questions_end_well count number s text ending awaiting (inl (r, inl none, text_is, ending_is)) = absurd (omega (arith, ints, none.1))
questions_end_well count number s text ending awaiting (inl (r, inr (is, past), text_is, ending_is)) = absurd (twenty_later past.0 past.1 (subst (IsEarlier (just_at past.0)) awaiting.moment past.2))
questions_end_well count number s text ending awaiting (inr g) = (replies_end_well number).ends g.2 g.1 ending (ap (λ (t : State). t.keeps) g.3.leads.2 ∙ awaiting.keeps) g.4

-- no command of a generated script is refused
pub never_refused : (seed count : ℕ) (s : Script) (text : List ℕ) (ending : Ending) → IsGenerated seed count s → Text (start_of s) s.lines text ending → ending ≡ None
never_refused seed count s text ending is t =
    insertions_end_well seed count (questions (8 + count)) (questions_end_well count (8 + count)) (start_of s) text ending
    (record { free = λ number low. ap is_some (none_planned (2 ^ s.size) number); keeps = is.keeps; moment = refl }) (rw is.lines at t)

-- ---- a seed and a count have one script, and so one text
one_script : (seed count : ℕ) (s t : Script) → IsGenerated seed count s → IsGenerated seed count t → s ≡ t
one_script seed count s t p q =
    let size : s.size ≡ t.size = omega (arith, p.size.least t.size q.size.low q.size.room, q.size.least s.size p.size.low p.size.room) in
    λ i. record { size = size i; keeps = (p.keeps ∙ sym q.keeps) i; journal = (p.journal ∙ sym q.journal) i; lines = (p.lines ∙ sym q.lines) i }

pub one_demo_text : OneDemoText
one_demo_text seed count x y p q =
    search (rules, arith, one_script, p.generated, q.generated, one_text, start_canonical, p.replays, q.replays, one_in_turn, p.passed, q.passed, p.joined, q.joined)

-- ---- a front of what the commands print is one of that text
pub cut_of_body : (seed count : ℕ) (s : Script) (front : List ℕ) → IsGenerated seed count s → IsCutOfText (start_of s) s.lines front → IsFrontOfEach (IsDemoText seed count) front
cut_of_body seed count s front is cut = search (rules, arith, one_script, front_through)

-- a run that was broken off has written such a front
pub broken_demo : (seed count : ℕ) (stop : Stop) (front : List ℕ) → IsFrontOfEach (IsDemoText seed count) front → WritesDemo seed count (status_of_stop stop) front
broken_demo seed count Fault front cut = cut
broken_demo seed count NoMemory front cut = cut

-- ---- the text of the script is written, and it is told how much that passed: then all of it is, or a front of it where the run was broken off
module _ (seed count : ℕ) (s : Script) (is : IsGenerated seed count s) (before played : Bytes) (body : Wrote before played (λ text. Text (start_of s) s.lines text None)) (t : Tally)
    (x : HasTallied (PassesInTurn (start_of s) s.lines) (Some (record { moments = 0; failures = 0 })) (Some t)) where
  whole_text : IsDemoText seed count (body.0 ++ tally_line t)
  whole_text = search (rules, arith, x.passed, same_Some, x.counted, tallied_from_nothing)

  pub wrote_whole : (after : Bytes) → Appends played after (tally_line t) → Wrote before after (IsDemoText seed count)
  wrote_whole after told = (body.0 ++ tally_line t, Appends-trans before played after body.0 (tally_line t) body.1 told, whole_text)

  pub wrote_part : (after : Bytes) → AppendsFront played after (tally_line t) → (stop : Stop) → Wrote before after (WritesDemo seed count (status_of_stop stop))
  wrote_part after told stop =
      let part = take told.0 (tally_line t) in
      let front = front_after body.0 part (tally_line t) (front_take told.0 (tally_line t)) in
      let cut : IsFrontOfEach (IsDemoText seed count) (body.0 ++ part) = λ text other. subst (IsFront (body.0 ++ part)) (one_demo_text seed count (body.0 ++ tally_line t) text whole_text other) front in
      (body.0 ++ part, Appends-trans before played after body.0 part body.1 told.1, broken_demo seed count stop (body.0 ++ part) cut)
