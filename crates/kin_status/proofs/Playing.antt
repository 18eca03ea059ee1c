-- A run of commands: the text so far and the blocks passed so far, and the text and the blocks of what is left.
use Rattle.std.proofs.Common.{◌≡◌, ℕ, List, [], ◌∷◌, ◌++◌, drop, suc, ◌+◌, ◌<◌, ◌≤◌, length, get_or, drop-cons, add-one, Some, None, refl, sym, ap, ◌∙◌, subst, append_assoc, inl, inr, append-nil, Option, All, ◌↔◌}
use Rattle.std.proofs.lemmas.List.Elements.{All-drop}
use Rattle.kin_status.proofs.Vocabulary.{drop_all, IsCanonical, Shape, Block, IsJournal, journal_is_one, AppendsFront, Deed, deed_of, goes_on, goes_to, IsAllowed, IsCommandInRange, IsRefused, LeadsTo, IsAlike, IsOnPaths, State, just_at, state_setting, Ending, Prints}
use Rattle.kin_status.proofs.Vocabulary.{Step, Text, refused_line, Command, Refusal, Passes, PassesInTurn, block_of_next, BreaksOff, IsCutOfText, IsFrontOfEach, HasTallied, Gains, GainsSome, IsFront, LosesSome, Printer, Tally, Stop}
use Rattle.kin_status.proofs.Determined.{one_cause, one_step, stays, one_at_root, one_state}
use Rattle.kin_status.proofs.Forgetting.{alike_back, first_in_range, rest_in_range, text_alike, passes_in_turn_alike}
use Rattle.kin_status.proofs.OnPaths.{stays_on_paths}
use Rattle.kin_status.proofs.Gathering.{some_then, some_is, some_broke, some_lost_here, front_through, front_after}
use Rattle.kin_status.proofs.Passing.{one_told}
use Rattle.kin_status.proofs.Tallying.{tallied_then, tallied_is}

abbrev pub Line : Type 0
Line = ℕ × Command

-- the text of commands of which the first is not refused
pub allowed_goes_on : (s : State) (c : Line) (cs : List Line) (text : List ℕ) (ending : Ending) → IsAllowed s (deed_of c.1) → Text s (c ∷ cs) text ending
    → (first : List ℕ) × (rest : List ℕ) × (t : State) × Step s (deed_of c.1) first t × Text t cs rest ending × (text ≡ first ++ rest)
allowed_goes_on s c cs text ending allowed (inl e) = absurd (allowed e.0 e.1)
allowed_goes_on s c cs text ending allowed (inr g) = g

pub text_refused : (s : State) (c : Line) (cs : List Line) (text : List ℕ) (ending : Ending) (r : Refusal) → IsRefused s (deed_of c.1) r → Text s (c ∷ cs) text ending → (text ≡ refused_line c.0 r) × (ending ≡ Some (c.0, r))
text_refused s c cs text ending r h (inl e) =
    let same = one_cause s (deed_of c.1) e.0 r e.1 h in
    (e.2 ∙ ap (refused_line c.0) same, e.3 ∙ ap (λ (q : Refusal). Some (c.0, q)) same)
text_refused s c cs text ending r h (inr g) = absurd (g.3.allowed r h)

-- From s, the text of all commands is the text so far, and then the text of those that are left, from t.
pub record IsSoFar (s : State) (all : List Line) (t : State) (left : List Line) (so_far : List ℕ) : Type 0 where
  pub forth : (rest : List ℕ) (ending : Ending) → Text t left rest ending → Text s all (so_far ++ rest) ending
  pub back : (text : List ℕ) (ending : Ending) → Text s all text ending → (rest : List ℕ) × Text t left rest ending × (text ≡ so_far ++ rest)

-- ---- one turn of the loop over the commands
pub at_item : (xs : List Line) (i : ℕ) (x : Line) → i < length xs → x ≡ get_or xs i x → drop i xs ≡ x ∷ drop (i + 1) xs
at_item xs i x lt e = drop-cons xs i x lt ∙ ap (λ (y : Line). y ∷ drop (suc i) xs) (sym e) ∙ rw add-one refl

-- ---- the commands after one that was carried out: the states that it leads to, and one that differs from it in nothing but legs that are over
module _ (all : List Line) (i : ℕ) (c : Line) (low : i < length all) (read : c ≡ get_or all i c) (t w u : State) (on : IsOnPaths t) (then : IsOnPaths u)
    (range : All (λ l. IsCommandInRange t.size l.1) all) (allowed : IsAllowed t (deed_of c.1)) (leads : LeadsTo t (deed_of c.1) w) (alike : IsAlike w u) where
  from_here : All (λ l. IsCommandInRange t.size l.1) (c ∷ drop (i + 1) all)
  from_here = subst (All (λ l. IsCommandInRange t.size l.1)) (at_item all i c low read) (All-drop (λ l. IsCommandInRange t.size l.1) i all range)

  led_on_paths : IsOnPaths w
  led_on_paths = stays_on_paths t (deed_of c.1) w on (first_in_range t c (drop (i + 1) all) from_here) allowed leads

  led_in_range : All (λ l. IsCommandInRange w.size l.1) (drop (i + 1) all)
  led_in_range = rest_in_range t w c (drop (i + 1) all) on.canonical leads from_here

  there_in_range : All (λ l. IsCommandInRange u.size l.1) (drop (i + 1) all)
  there_in_range = subst (λ n. All (λ l. IsCommandInRange n l.1) (drop (i + 1) all)) alike.size led_in_range

  -- they have the same text
  alike_text : (text : List ℕ) (ending : Ending) → Text w (drop (i + 1) all) text ending ↔ Text u (drop (i + 1) all) text ending
  alike_text text ending = (
    text_alike (drop (i + 1) all) w u text ending led_on_paths then led_in_range alike,
    text_alike (drop (i + 1) all) u w text ending then led_on_paths there_in_range (alike_back w u alike),
  )

  -- and pass the same blocks
  alike_passes : (bs : List Block) → PassesInTurn u (drop (i + 1) all) bs → PassesInTurn w (drop (i + 1) all) bs
  alike_passes bs = passes_in_turn_alike (drop (i + 1) all) u w bs then led_on_paths there_in_range (alike_back w u alike)

module _ {s t : State} {all : List Line} {p q : Printer} (i : ℕ) (so_far : GainsSome (IsSoFar s all t (drop i all)) p q) where
  pub all_done : length all ≤ i → GainsSome (λ text. Text s all text None) p q
  all_done none = some_is so_far (λ text. Text s all text None)
      (λ x so. subst (λ (w : List ℕ). Text s all w None) (append-nil x) (so.forth [] None (subst (λ (left : List Line). Text t left [] None) (sym (drop_all i all none)) (refl, refl))))

  module _ (c : Line) (low : i < length all) (read : c ≡ get_or all i c) where
    here : GainsSome (IsSoFar s all t (c ∷ drop (i + 1) all)) p q
    here = subst (λ (left : List Line). GainsSome (IsSoFar s all t left) p q) (at_item all i c low read) so_far

    -- the command was carried out, and the state is the one that it leads to, but for legs that are over; and then a write failed
    module _ (u : State) (on : IsOnPaths t) (then : IsOnPaths u) (range : All (λ l. IsCommandInRange t.size l.1) all) where
      pub carried_out : {r : Printer} → GainsSome (λ text. (w : State) × Step t (deed_of c.1) text w × IsAlike w u) q r → GainsSome (IsSoFar s all u (drop (i + 1) all)) p r
      carried_out done =
          let w = done.is.0 in
          let step = done.is.1 in
          let alike = done.is.2 in
          let rest_text = alike_text all i c low read t w u on then range step.allowed step.leads alike in
          some_then here (IsSoFar s all u (drop (i + 1) all)) done.gained (λ x so. record {
            forth = λ rest ending q.
                subst (λ (y : List ℕ). Text s all y ending) (sym (append_assoc x done.text rest))
                (so.forth (done.text ++ rest) ending (inr (done.text, rest, w, step, (rest_text rest ending).1 q, refl)));
            back = λ whole ending q.
                let b = so.back whole ending q in
                let a = allowed_goes_on t c (drop (i + 1) all) b.0 ending step.allowed b.1 in
                let same = one_step t (deed_of c.1) a.0 done.text a.2 w on.canonical a.3 step in (
                  a.1,
                  (rest_text a.1 ending).0 (subst (λ (v : State). Text v (drop (i + 1) all) a.1 ending) same.1 a.4),
                  b.2 ∙ ap (λ (y : List ℕ). x ++ y) (a.5 ∙ ap (λ (y : List ℕ). y ++ a.1) same.0) ∙ sym (append_assoc x done.text a.1),
                );
          })

      pub lost_behind : {r : Printer} (f : Printer) → GainsSome (λ text. (w : State) × Step t (deed_of c.1) text w × IsAlike w u) q r → AppendsFront r.held f.held r.gathered → LosesSome (IsCutOfText s all) p f
      lost_behind f done front = some_lost_here (some_is (carried_out done) (IsCutOfText s all) (λ x so text ending whole. let b = so.back text ending whole in record { more = b.0; joined = b.2 })) f front

    -- the run was broken off amid it: a front of its text stands behind the text so far
    pub broke_off : (stop : Stop) (r : Printer) → IsAllowed t (deed_of c.1) × BreaksOff (IsFrontOfEach (Prints t (deed_of c.1))) stop q r → BreaksOff (IsCutOfText s all) stop p r
    broke_off stop r h = some_broke here (IsCutOfText s all) stop r (IsFrontOfEach (Prints t (deed_of c.1))) h.1 (λ x part so cut text ending q.
        let b = so.back text ending q in
        let a = allowed_goes_on t c (drop (i + 1) all) b.0 ending h.0 b.1 in
        subst (IsFront (x ++ part)) (sym b.2) (front_after x part b.0 (front_through part a.0 b.0 (cut a.0 a.3.prints) (record { more = a.1; joined = a.5 }))))

    -- it was refused, which changed nothing, and the line that tells so was put; or memory ran out amid that
    module _ (r : Refusal) (is : IsRefused t (deed_of c.1) r) {same n : Printer} (unchanged : same ≡ q) where
      pub refused_here : Gains same n (refused_line c.0 r) → GainsSome (λ text. Text s all text (Some (c.0, r))) p n
      refused_here put = some_then here (λ text. Text s all text (Some (c.0, r))) (subst (λ (x : Printer). Gains x n (refused_line c.0 r)) unchanged put) (λ x so. so.forth (refused_line c.0 r) (Some (c.0, r)) (inl (r, is, refl, refl)))

      pub broke_refusing : (front : List ℕ) → Gains same n front → IsFront front (refused_line c.0 r) → GainsSome (IsCutOfText s all) p n
      broke_refusing front put cut = some_then here (IsCutOfText s all) (subst (λ (x : Printer). Gains x n front) unchanged put) (λ x so text ending q.
          let b = so.back text ending q in
          let a = text_refused t c (drop (i + 1) all) b.0 ending r is b.1 in
          subst (IsFront (x ++ front)) (sym b.2) (front_after x front b.0 (subst (IsFront front) (sym a.0) cut)))

-- From s, the blocks of all commands are those so far, and then those of the commands that are left, from t.
pub record ArePassedSoFar (s : State) (all : List Line) (t : State) (left : List Line) (so_far : List Block) : Type 0 where
  pub forth : (rest : List Block) → PassesInTurn t left rest → PassesInTurn s all (so_far ++ rest)

module _ {s : State} {all : List Line} {t : State} {old now : Option Tally} where
  pub counts_command : (i : ℕ) (c : Line) → HasTallied (ArePassedSoFar s all t (drop i all)) old now → i < length all → c ≡ get_or all i c
      → (u : State) → IsOnPaths t → IsOnPaths u → All (λ l. IsCommandInRange t.size l.1) all → (w : State) (new : Option Tally) → IsAllowed t (deed_of c.1) → LeadsTo t (deed_of c.1) w → IsAlike w u
      → HasTallied (Passes t (deed_of c.1)) now new → HasTallied (ArePassedSoFar s all u (drop (i + 1) all)) old new
  counts_command i c x low read u on then range w new allowed leads alike y = tallied_then x y (λ before here so is. record {
    forth = λ rest q.
        subst (PassesInTurn s all) (sym (append_assoc before here rest))
        (so.forth (here ++ rest)
        (subst (λ (left : List Line). PassesInTurn t left (here ++ rest)) (sym (at_item all i c low read)) (here, rest, w, allowed, is, leads, alike_passes all i c low read t w u on then range allowed leads alike rest q, refl)));
  })

  pub counts_all : (i : ℕ) → HasTallied (ArePassedSoFar s all t (drop i all)) old now → length all ≤ i → HasTallied (PassesInTurn s all) old now
  counts_all i x none = tallied_is x (λ bs is. subst (PassesInTurn s all) (append-nil bs) (is.forth [] (subst (λ (left : List Line). PassesInTurn t left []) (sym (drop_all i all none)) refl)))

-- ---- commands pass the same blocks always
one_passed : (s : State) (d : Deed) (x y : List Block) → IsCanonical s.moment.at → Passes s d x → Passes s d y → x ≡ y
one_passed s (goes_to upper p) x y canonical a b = one_at_root upper p (λ (w : Shape) (bs : List Block). IsJournal (state_setting s) s.moment (just_at w) bs) x y (λ w there. journal_is_one (state_setting s) s.moment (just_at w) x y canonical there) a b
one_passed s goes_on x y canonical a b = one_told s block_of_next x y canonical a b
one_passed s d x y canonical a b = a ∙ sym b

pub one_in_turn : (s : State) (cs : List Line) (x y : List Block) → IsCanonical s.moment.at → PassesInTurn s cs x → PassesInTurn s cs y → x ≡ y
one_in_turn s [] x y canonical p q = p ∙ sym q
one_in_turn s (c ∷ cs) x y canonical p q =
    let d = deed_of c.1 in
    let same = one_state s d p.2 q.2 canonical p.5 q.5 in
    let tails = one_in_turn q.2 cs p.1 q.1 (stays s d q.2 canonical q.5).1 (subst (λ (t : State). PassesInTurn t cs p.1) same p.6) q.6 in
    p.7 ∙ ap (λ (v : List Block). v ++ p.1) (one_passed s d p.0 q.0 canonical p.4 q.4) ∙ ap (λ (w : List Block). q.0 ++ w) tails ∙ sym q.7
