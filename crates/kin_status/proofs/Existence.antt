-- Every change, every deed, every input and every generated script has its outcome.
use Rattle.std.proofs.Common.{◌≡◌, ◌⊎◌, inl, inr, ◌<◌, ◌≤◌, true, false, ℤ, ℕ, Bool, List, [], ◌∷◌, unsigned_abs, Option, Some, None, refl, sym, ap, ◌∙◌, subst, arith, is_some, length-set, slice_set, ◌^◌, ◌++◌, Result, Ok, Err, All, zero, suc, ◌+◌}
use Rattle.std.specs.Prelude.{unwrap_or}
use Rattle.std.proofs.Math.Pow.{pow_mono}
use Rattle.std.proofs.lemmas.List.Elements.{All-head, All-tail, All-weaker}
use Rattle.kin_num.specs.declared.instant.Phase.{Phase}
use Rattle.kin_motion.specs.Live.{IsSmallKeep}
use Rattle.kin_motion.specs.Turning.{TurnsTo}
use Rattle.kin_motion.proofs.MotionScenes.{live_fits}
use Rattle.kin_motion.proofs.TurningLaws.{one_turn}
use Rattle.kin_turn.proofs.Existence.{turn_or_none}
use Rattle.kin_fail.proofs.JournalExistence.{earlier_or_not}
use Rattle.kin_legs.specs.Joined.{with_leg}
use Rattle.kin_legs.specs.Paths.{whole}
use Rattle.kin_legs.specs.Scheduling.{Continues, HasLegFrom, MayFollow}
use Rattle.kin_legs.proofs.BeginLaws.{whole_canonical}
use Rattle.kin_legs.proofs.NextLaws.{nexts_exist}
use Rattle.kin_legs.proofs.PathLaws.{none_paths, paths_set}
use Rattle.kin_legs.proofs.PlanExistence.{planned_journals_exist, slots_in_force}
use Rattle.kin_legs.proofs.SchedulingLaws.{leg_from_or_not, one_continuation, one_continues}
use Rattle.kin_script.specs.Changes.{IsRefusedLeg, IsRefusedTurn}
use Rattle.kin_script.specs.Questions.{IsKeepInRange}
use Rattle.kin_script.proofs.GeneratedRanges.{generated_in_range}
use Rattle.kin_script.proofs.ScriptRanges.{script_within}
use Rattle.kin_status.specs.declared.status.Status.TheVariants as status
use Rattle.kin_status.proofs.Vocabulary.{cases_lt, length-replicate, same_Some, start_canonical, IsCanonical, IsEarlier, Quadratic, Moment, Shape, After, At, Course, IsSlow, motion_limit, Plan, ArePlannable, lasting, motion_in_force, motions_in_force, plan_of, comes_at, Block}
use Rattle.kin_status.proofs.Vocabulary.{PointChange, ChangesTo, IsChangeInRange, IsRefusedChange, enters, leaves, restarts, turns, schedules, Deed, asks, changes, goes_on, goes_to, IsDeedInRange, IsNamedRoot, IsRefused, State, just_at, state_view, next_lines, Step, Refusal}
use Rattle.kin_status.proofs.Vocabulary.{Absent, NoRoot, NotWhole, OutOfBounds, Past, Planned, Taken, answerable_allowed, has_line, Passes, block_of_next, deed_of, IsGenerated, IsLeastSize, insertions, generated_keeps, questions, script_of, IsCommandInRange, IsWithin, start, Ending, Text, bad_line, refused_line, Script}
use Rattle.kin_status.proofs.Vocabulary.{deed_in_range, small_keep, DemoTextsExist, demo_line, start_of, IsAnswer, IsTextOf, TextsExist, PassesInTurn, Status}
use Rattle.kin_status.proofs.Determined.{goes_allowed, next_canonical, stays}
use Rattle.kin_status.proofs.Generated.{never_refused}
use Rattle.kin_status.proofs.NamedRoots.{named_root_of, root_asked}
use Rattle.kin_status.proofs.OnPaths.{path_after, slow_or_not}
use Rattle.kin_status.proofs.Passing.{lines_if, is_text}
use Rattle.kin_status.proofs.Playing.{Line}

-- the plan that the number has then, or none
record Outcome (m : Moment) (now : Option Plan) (c : PointChange) : Type 0 where
  next : Option Plan
  allowed : (r : Refusal) → ¬ (IsRefusedChange m now c r)
  leads : ChangesTo m now c next

abbrev IsDecided : Moment → Option Plan → PointChange → Type 0
IsDecided m now c = ((r : Refusal) × IsRefusedChange m now c r) ⊎ Outcome m now c

live_not_absent : (now : Option Plan) (old : Plan) → now ≡ Some old → is_some now ≡ false → ⊥
live_not_absent now old had absent = let clash : true ≡ false = ap is_some (sym had) ∙ absent in cc

-- ---- turns
module _ (m : Moment) (canonical : IsCanonical m.at) (u v : ℤ) (old : Plan) where
  -- a turn to a slow motion is not refused
  pub allowed_turn : (now : Option Plan) → now ≡ Some old → m.phase ≡ At → (new : Course) → TurnsTo m.at u v (motion_in_force m old) new → IsSlow new → (r : Refusal) → ¬ (IsRefusedChange m now (turns u v) r)
  allowed_turn now had at new goes slow r (inl absent) = live_not_absent now old had absent.1
  allowed_turn now had at new goes slow r (inr (also, is, refused)) = not_refused (subst (λ (p : Plan). IsRefusedTurn m u v (motion_in_force m p) r) (sym (same_Some old also (sym had ∙ is))) refused)
    where
      not_refused : IsRefusedTurn m u v (motion_in_force m old) r → ⊥
      not_refused (inl (whole, inl after)) = absurd (let clash : At ≡ After = sym at ∙ after in cc)
      not_refused (inl (whole, inr none)) = none new goes
      not_refused (inr (bounds, out)) = out.1.2 (subst IsSlow (one_turn m.at u v (motion_in_force m old) new out.1.0 canonical goes out.1.1) slow)

  by_size : m.phase ≡ At → (new : Course) → TurnsTo m.at u v (motion_in_force m old) new → IsSlow new ⊎ ¬ (IsSlow new) → IsDecided m (Some old) (turns u v)
  by_size at new goes (inl slow) = inr (record {
    next = Some (lasting new);
    allowed = allowed_turn (Some old) refl at new goes slow;
    leads = record { old = old; new = new; was = refl; same_place = goes; is = refl };
  })
  by_size at new goes (inr far) = inl (OutOfBounds, inr (old, refl, inr (refl, (at, (new, goes, far)))))

  turn_decided : unsigned_abs u ≤ motion_limit → unsigned_abs v ≤ motion_limit → IsDecided m (Some old) (turns u v)
  turn_decided u_small v_small = by_phase m.phase refl
    where
      by_phase : (p : Phase) → m.phase ≡ p → IsDecided m (Some old) (turns u v)
      by_phase After after = inl (NotWhole, inr (old, refl, inl (refl, inl after)))
      by_phase At at = elim (turn_or_none m.at u v (motion_in_force m old) canonical.form) [
        | inl (new, goes) ↦ by_size at new goes (slow_or_not new (rw goes.u_is u_small) (rw goes.v_is v_small))
        | inr none ↦ inl (NotWhole, inr (old, refl, inl (refl, inr none)))
      ]

-- ---- legs
module _ (m : Moment) (at : ℕ) (u v : ℤ) (old : Plan) where
  -- a leg that may follow is not refused
  pub allowed_leg : (now : Option Plan) → now ≡ Some old → (new : Course) → MayFollow m old at u v new → (r : Refusal) → ¬ (IsRefusedChange m now (schedules at u v) r)
  allowed_leg now had new may r (inl absent) = live_not_absent now old had absent.1
  allowed_leg now had new may r (inr (also, is, refused)) = not_refused (subst (λ (p : Plan). IsRefusedLeg m at u v p r) (sym (same_Some old also (sym had ∙ is))) refused)
    where
      not_refused : IsRefusedLeg m at u v old r → ⊥
      not_refused (inl over) = over.1 may.ahead
      not_refused (inr (inl has)) = may.after has.2
      not_refused (inr (inr fast)) = fast.1.far (subst IsSlow (one_continuation old at u v new fast.1.motion may.continues fast.1.continues) may.slow)

  leg_decided : IsCanonical m.at → at < 2 ^ 31 → unsigned_abs u ≤ motion_limit → unsigned_abs v ≤ motion_limit → IsDecided m (Some old) (schedules at u v)
  leg_decided canonical low u_small v_small = elim (earlier_or_not m (just_at (whole at)) canonical (whole_canonical at (omega (arith, low)))) [
    | inr over ↦ inl (Past, inr (old, refl, inl (refl, over)))
    | inl ahead ↦ elim (leg_from_or_not old at) [
      | inl has ↦ inl (Planned, inr (old, refl, inr (inl (refl, ahead, has))))
      | inr after ↦ by_speed ahead after (slow_or_not goes.0 (rw goes.1.u_is u_small) (rw goes.1.v_is v_small))
    ]
  ]
    where
      goes : (motion : Course) × Continues old at u v motion × ((other : Course) → Continues old at u v other → other ≡ motion)
      goes = one_continues old at u v low

      by_speed : IsEarlier m (just_at (whole at)) → ¬ (HasLegFrom old at) → IsSlow goes.0 ⊎ ¬ (IsSlow goes.0) → IsDecided m (Some old) (schedules at u v)
      by_speed ahead after (inl slow) =
          let may : MayFollow m old at u v goes.0 = record { ahead = ahead; after = after; continues = goes.1; slow = slow } in
          inr (record {
            next = Some (with_leg old (record { from = at; motion = goes.0 }));
            allowed = allowed_leg (Some old) refl goes.0 may;
            leads = record { old = old; new = goes.0; was = refl; follows = may; is = refl };
          })
      by_speed ahead after (inr far) = inl (OutOfBounds, inr (old, refl, inr (inr (refl, record { ahead = ahead; after = after; motion = goes.0; continues = goes.1; far = far }))))

-- ---- one row for each change
change_decided : (m : Moment) → IsCanonical m.at → (now : Option Plan) (c : PointChange) → IsChangeInRange c → IsDecided m now c
change_decided m canonical (Some old) (enters motion) range = inl (Taken, (refl, refl))
change_decided m canonical None (enters motion) range = inr (record { next = Some (lasting motion); allowed = λ r h. let clash : false ≡ true = h.1 in cc; leads = refl })
change_decided m canonical (Some old) leaves range = inr (record { next = None; allowed = λ r h. let clash : true ≡ false = h.1 in cc; leads = refl })
change_decided m canonical (Some old) (restarts motion) range = inr (record { next = Some (lasting motion); allowed = λ r h. let clash : true ≡ false = h.1 in cc; leads = refl })
change_decided m canonical (Some old) (turns u v) range = turn_decided m canonical u v old range.u_small range.v_small
change_decided m canonical (Some old) (schedules at u v) range = leg_decided m at u v old canonical range.0 range.1.u_small range.1.v_small
change_decided m canonical None (turns u v) range = inl (Absent, inl (refl, refl))
change_decided m canonical None (schedules at u v) range = inl (Absent, inl (refl, refl))
change_decided m canonical None change range = inl (Absent, (refl, refl))

-- ---- deeds
-- what holds of every state of a run
pub record IsSound (s : State) : Type 0 where
  pub plannable : ArePlannable s.plans s.size s.keeps
  pub canonical : IsCanonical s.moment.at

-- a text, some blocks, and a sound state to which the deed leads
pub record Steps (s : State) (d : Deed) : Type 0 where
  pub text : List ℕ
  pub next : State
  pub blocks : List Block
  pub step : Step s d text next
  pub passes : Passes s d blocks
  pub sound : IsSound next

-- the deed is refused, or is carried out
abbrev pub Ends : State → Deed → Type 0
Ends s d = ((r : Refusal) × IsRefused s d r) ⊎ Steps s d

module _ (s : State) (sound : IsSound s) where
  ends_in : (d : Deed) (next : State) → IsSound next → (text : List ℕ) (blocks : List Block) → Step s d text next → Passes s d blocks → Ends s d
  ends_in d next sound text blocks step passes = inr (record { text = text; next = next; blocks = blocks; step = step; passes = passes; sound = sound })

  changes_end : (number : ℕ) (c : PointChange) → IsChangeInRange c → IsDecided s.moment (plan_of s.plans number) c → Ends s (changes number c)
  changes_end number c range (inl refused) = inl refused
  changes_end number c range (inr out) =
      let paths = paths_set s.plans number out.next sound.plannable.paths (path_after s.moment (plan_of s.plans number) out.next c (sound.plannable.paths.each number) range out.allowed out.leads) in
      ends_in (changes number c) (record s { plans = slice_set s.plans number out.next })
      (record { plannable = record { paths = paths; slots = length-set s.plans number out.next ∙ sound.plannable.slots; small = sound.plannable.small }; canonical = sound.canonical })
      [] [] (record { allowed = out.allowed; prints = refl; leads = (out.next, out.leads, refl) }) refl

  -- time goes on, or stays
  at_moment : (d : Deed) (m : Moment) → IsCanonical m.at → (text : List ℕ) (blocks : List Block) → Step s d text (record s { moment = m }) → Passes s d blocks → Ends s d
  at_moment d m canonical = ends_in d (record s { moment = m }) (record { plannable = sound.plannable; canonical = canonical })

  goes_ends : (upper : Bool) (p : Quadratic) (w : Shape) → IsNamedRoot upper p w → Ends s (goes_to upper p)
  goes_ends upper p w named =
      let canonical = (named_root_of upper p w named).canonical in
      elim (earlier_or_not (just_at w) s.moment canonical sound.canonical) [
        | inl past ↦ inl (Past, inr (refl, (w, named, past)))
        | inr not_past ↦ let j = planned_journals_exist s.plans s.size s.keeps s.moment (just_at w) sound.plannable sound.canonical canonical not_past in
            at_moment (goes_to upper p) (just_at w) canonical (lines_if s.journal j.0) j.0 (record { allowed = goes_allowed s upper p w named not_past; prints = (w, named, is_text s.journal s w j.0 j.1); leads = (w, named, refl) }) (w, named, j.1)
      ]

  -- one row for each deed
  pub deed_ends : (d : Deed) → IsDeedInRange d → Ends s d
  deed_ends (changes number c) range = changes_end number c range (change_decided s.moment sound.canonical (plan_of s.plans number) c range)
  deed_ends (goes_to upper p) range = elim (root_asked upper p range) [
    | inl none ↦ inl (NoRoot, inl (refl, none))
    | inr (w, named) ↦ goes_ends upper p w named
  ]
  deed_ends goes_on range =
      let n = nexts_exist (state_view s) sound.plannable sound.canonical in
      at_moment goes_on (unwrap_or (comes_at n.0) s.moment) (next_canonical s n.0 sound.canonical n.1) (next_lines s.journal n.0) (block_of_next n.0) (record { allowed = λ r h. h; prints = (n.0, n.1, refl); leads = (n.0, n.1, refl) }) (n.0, n.1, refl)
  deed_ends (asks q) range = elim (has_line s sound.canonical (live_fits s.size (motions_in_force s.plans s.moment) s.moment (slots_in_force s.plans s.size s.keeps sound.plannable s.moment)) q) [
    | inl refused ↦ inl refused
    | inr (has, line) ↦ at_moment (asks q) s.moment sound.canonical line.0 [] (record { allowed = answerable_allowed s q has; prints = line.1; leads = refl }) refl
  ]

-- ---- a text with its ending, and the blocks that the commands pass if none is refused
pub record HasText (s : State) (cs : List Line) : Type 0 where
  pub text : List ℕ
  pub ending : Ending
  pub is : Text s cs text ending
  pub passes : ending ≡ None → (bs : List Block) × PassesInTurn s cs bs

pub text_exists : (cs : List Line) (s : State) → IsSound s → All (λ c. IsCommandInRange s.size c.1) cs → HasText s cs
text_exists [] s sound range = record { text = []; ending = None; is = (refl, refl); passes = λ e. ([], refl) }
text_exists (c ∷ cs) s sound range =
    let rest = text_exists cs in
    elim (deed_ends s sound (deed_of c.1) (deed_in_range s.size c.1 (All-head (λ d. IsCommandInRange s.size d.1) c cs range))) [
      | inl (r, refused) ↦ record { text = refused_line c.0 r; ending = Some (c.0, r); is = inl (r, refused, refl, refl); passes = λ e. absurd (let clash : Some (c.0, r) ≡ None = e in cc) }
      | inr steps ↦
          let more = rest steps.next steps.sound (rw (stays s (deed_of c.1) steps.next sound.canonical steps.step.leads).0 (All-tail (λ d. IsCommandInRange s.size d.1) c cs range)) in
          record {
            text = steps.text ++ more.text;
            ending = more.ending;
            is = inr (steps.text, more.text, steps.next, steps.step, more.is, refl);
            passes = λ e. let bs = more.passes e in (steps.blocks ++ bs.0, (steps.blocks, bs.0, steps.next, steps.step.allowed, steps.passes, steps.step.leads, bs.1, refl));
          }
    ]

-- ---- the state at the start
pub start_sound : (s : Script) → IsWithin s → IsSound (start s.size s.keeps s.journal)
start_sound s within = record {
  plannable = record { paths = none_paths (2 ^ s.size); slots = length-replicate (2 ^ s.size) None; small = All-weaker IsKeepInRange IsSmallKeep small_keep s.keeps within.keeps };
  canonical = start_canonical;
}

-- ---- the answer
pub texts_exist : TextsExist
texts_exist input = by_reading (script_of input) refl
  where
    by_ending : (ending : Ending) (text : List ℕ) → IsTextOf input text ending → (answer : Status) × (text : List ℕ) × IsAnswer input answer text
    by_ending None text is = (status.Done, text, is)
    by_ending (Some (line, r)) text is = (status.Command line r, text, is)

    by_reading : (r : Result Script ℕ) → script_of input ≡ r → (answer : Status) × (text : List ℕ) × IsAnswer input answer text
    by_reading (Err line) e = (status.Script line, bad_line line, (e, refl))
    by_reading (Ok s) e =
        let within = script_within input s e in
        let has = text_exists s.lines (start s.size s.keeps s.journal) (start_sound s within) within.commands in
        by_ending has.ending has.text (record { script = s; reads = e; replays = has.is })

-- ---- a generated script, whose least size is found from above
least_size : (count n : ℕ) → count ≤ 2 ^ suc n → (size : ℕ) × IsLeastSize count size
least_size count zero room = (1, record { low = omega arith; room = room; least = λ m some fits. some })
least_size count (suc n) room = elim (cases_lt (2 ^ suc n) count) [
  | inr fits ↦ least_size count n fits
  | inl narrow ↦ (
    suc (suc n),
    record {
      low = omega arith;
      room = room;
      least = λ m some fits. elim (cases_lt (suc n) m) [
        | inl above ↦ omega (arith, above)
        | inr below ↦ absurd (let less = pow_mono below in omega (arith, less, fits, narrow))
      ];
    },
  )
]

pub demo_texts_exist : DemoTextsExist
demo_texts_exist seed count some few =
    let size = least_size count 9 few in
    let s : Script = record { size = size.0; keeps = generated_keeps; journal = false; lines = insertions seed count ++ questions (8 + count) } in
    let generated : IsGenerated seed count s = record { size = size.1; keeps = refl; journal = refl; lines = refl } in
    let within : IsWithin s = (generated_in_range seed count s few generated).within in
    let has = text_exists s.lines (start_of s) (start_sound s within) within.commands in
    let none = never_refused seed count s has.text has.ending generated has.is in
    let replays = subst (λ (e : Ending). Text (start_of s) s.lines has.text e) none has.is in
    let blocks = has.passes none in
    (has.text ++ demo_line blocks.0, record { script = s; generated = generated; body = has.text; replays = replays; blocks = blocks.0; passed = blocks.1; joined = refl })
