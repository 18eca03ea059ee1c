-- The tests of a repair, counted by the facts that are dropped and born and by the moved pairs.
use Rattle.std.proofs.Common.{◌≡◌, refl, sym, ap, ◌∙◌, arith, List, [], ◌∷◌, ℕ, zero, suc, ◌+◌, ◌-◌, ◌*◌, ◌≤◌, Bool, true, false, length, length-append, map, Some, None, Option, inl, inr}
use Rattle.std.specs.Prelude.{slice_get, Contains, ◌⊎◌}
use Rattle.std.proofs.lemmas.Bool.{cases_lt, cases_Bool, both_ways}
use Rattle.std.proofs.lemmas.Option.{slice_get_within, same_Some, none-some}
use Rattle.kin_algebra.proofs.Places.{get_within}
use Rattle.kin_algebra.proofs.Members.{contains_from_get, get_from_contains}
use Rattle.kin_algebra.specs.declared.sign.Sign.{Sign}
use Rattle.kin_motion.specs.declared.fact.Placed.{Placed}
use Rattle.kin_motion.specs.Records.{moved_pairs}
use Rattle.kin_motion.specs.Deltas.{Change}
use Rattle.kin_motion.specs.Kinetics.{ListsFailing, HasGained, HasChanged}
use Rattle.kin_motion.specs.Numbers.{is_in, IsOnce}
use Rattle.kin_motion.specs.Scene.{Scene, Holds}
use Rattle.kin_motion.proofs.Members.{in_head}
use Rattle.kin_motion.proofs.SetLaws.{apart_from_once}
use Rattle.kin_sorted.specs.declared.link.Link.{Link}
use Rattle.kin_sorted.specs.Costs.{AreBeside, IsFrugal}
use Rattle.kin_motion.specs.Rankings.{IsRanking}
use Rattle.kin_sorted.specs.Links.{linked, fact_of, facts_from}
use Rattle.kin_sorted.specs.Marks.{Marks, AreMarks, marked}
use Rattle.kin_motion.specs.Ranks.{Ranks}
use Rattle.kin_sorted.specs.Repairs.{IsHeld}
use Rattle.kin_sorted.specs.Sorting.{AreFewTests}
use Rattle.kin_sorted.proofs.ArrangeLaws.{leaver_gone, enterer_there}
use Rattle.kin_sorted.proofs.LinkLaws.{same_facts, has_fact, has_link}
use Rattle.kin_sorted.proofs.PigeonLaws.{no_longer, no_longer_by}
use Rattle.kin_sorted.proofs.RowLaws.{is_in_from_get, get_from_is_in}

-- a link that is held names two members
held_members : (r : Ranks) (links : List (Option Link)) (items : List ℕ) (signs : List Sign) → IsHeld r links items signs [] [] → (i : ℕ) (l : Link) → slice_get links i ≡ Some (Some l)
    → (is_in i items ≡ true) × (is_in l.right items ≡ true)
held_members r links items signs held i l h = elim (cases_Bool (is_in i items)) [
  | inl t ↦ (let g = get_from_is_in items i t in
      let bound = slice_get_within links i (Some l) h in
      let e : linked (slice_get items (g.0 + 1)) (slice_get signs i) ≡ Some l = same_Some (linked (slice_get items (g.0 + 1)) (slice_get signs i)) (Some l)
      (sym (held.kept g.0 i bound g.1 refl refl) ∙ h) in
      (t, right_in (g.0 + 1) (slice_get items (g.0 + 1)) (slice_get signs i) refl e))
  | inr o ↦ absurd (none-some l (same_Some None (Some l) (sym (held.gone i (slice_get_within links i (Some l) h) o refl) ∙ h)))
]
  where
    right_in : (p : ℕ) (n : Option ℕ) (t : Option Sign) → slice_get items p ≡ n → linked n t ≡ Some l → is_in l.right items ≡ true
    right_in p None t f e = absurd (none-some l e)
    right_in p (Some n) None f e = absurd (none-some l e)
    right_in p (Some n) (Some t) f e = is_in_from_get items p l.right (f ∙ ap (λ (k : Link). Some k.right) (same_Some (record { right = n; sign = t }) l e))

-- with two members or more, each is named by a link
named : (r : Ranks) (links : List (Option Link)) (items : List ℕ) (signs : List Sign) → IsHeld r links items signs [] [] → (who : ℕ) → is_in who items ≡ true → 2 ≤ length items
    → (i : ℕ) × (l : Link) × (slice_get links i ≡ Some (Some l)) × ((i ≡ who) ⊎ (l.right ≡ who))
named r links items signs held who t many =
    let g = get_from_is_in items who t in
    elim (cases_lt (g.0 + 1) (length items)) [
      | inl l ↦ (let next = get_within items (g.0 + 1) l in
          let a = held.ahead g.0 who next.0 g.1 next.1 refl in
          (who, record { right = next.0; sign = a.sign }, a.link, inl refl))
      | inr l ↦ (let m = slice_get_within items g.0 who g.1 in
          let e : (g.0 - 1) + 1 ≡ g.0 = omega arith in
          let before = get_within items (g.0 - 1) (omega arith) in
          let a = held.ahead (g.0 - 1) before.0 who before.1 (ap (slice_get items) e ∙ g.1) refl in
          (before.0, record { right = who; sign = a.sign }, a.link, inr refl))
    ]

-- what is counted for an item: that it is the last one, or the fact of its link
abbrev owned : Ranks → List ℕ → ℕ → Option Placed → Type 0
owned r items e None = (p : ℕ) × (slice_get items p ≡ Some e) × (p + 1 ≡ length items)
owned r items e (Some f) = (l : Link) × (f ≡ fact_of r e l)

owned_once : (r : Ranks) → IsRanking r → (items : List ℕ) (x z : ℕ) (o : Option Placed) → owned r items x o → owned r items z o → x ≡ z
owned_once r law items x z None a b =
    let e : a.0 ≡ b.0 = (let k = a.2 in let l = b.2 in omega arith) in
    same_Some x z (sym a.1 ∙ ap (slice_get items) e ∙ b.1)
owned_once r law items x z (Some f) a b = (same_facts r law x z a.0 b.0 (sym a.1 ∙ b.1)).0

get_some : (fs : List Placed) (q : ℕ) (f : Placed) → slice_get fs q ≡ Some f → slice_get (map (λ (g : Placed). Some g) fs) q ≡ Some (Some f)
get_some [] q f h = absurd cc
get_some (g ∷ gs) zero f h = ap (λ (p : Placed). Some (Some p)) (same_Some g f h)
get_some (g ∷ gs) (suc q) f h = get_some gs q f h

length_some : (fs : List Placed) → length (map (λ (g : Placed). Some g) fs) ≡ length fs
length_some [] = refl
length_some (f ∷ fs) = ap suc (length_some fs)

module _ (r : Ranks) (law : IsRanking r) (links : List (Option Link)) (items : List ℕ) (signs : List Sign) (held : IsHeld r links items signs [] []) where
  -- all but one of these members have a fact that is listed
  most_named : (who : List ℕ) (facts : List Placed) → IsOnce who → ((e : ℕ) → is_in e who ≡ true → is_in e items ≡ true)
      → ((e : ℕ) (l : Link) → is_in e who ≡ true → slice_get links e ≡ Some (Some l) → Contains facts (fact_of r e l)) → length who ≤ length facts + 1
  most_named who facts once members listed =
      let few = no_longer_by (owned r items) (owned_once r law items) who (None ∷ map (λ (g : Placed). Some g) facts) (apart_from_once who once) own in
      let same = length_some facts in
      omega arith
    where
      own : (p e : ℕ) → slice_get who p ≡ Some e → (q : ℕ) × (y : Option Placed) × (slice_get (None ∷ map (λ (g : Placed). Some g) facts) q ≡ Some y) × owned r items e y
      own p e h =
          let there = is_in_from_get who p e h in
          let g = get_from_is_in items e (members e there) in
          elim (cases_lt (g.0 + 1) (length items)) [
            | inl l ↦ (let next = get_within items (g.0 + 1) l in
                let a = held.ahead g.0 e next.0 g.1 next.1 refl in
                let c = get_from_contains facts _ (listed e (record { right = next.0; sign = a.sign }) there a.link) in
                (suc c.0, Some (fact_of r e (record { right = next.0; sign = a.sign })), get_some facts c.0 _ c.1, (record { right = next.0; sign = a.sign }, refl)))
            | inr l ↦ (zero, None, refl, (g.0, g.1, (let m = slice_get_within items g.0 e g.1 in omega arith)))
          ]

some_gained : (before after : List Placed) (which : Placed → Type 0) (p : Placed) (gained : HasGained before after which) → which p → 1 ≤ length gained.more
some_gained before after which p gained h = let c = (gained.exactly.each p).1 h in let l = c.1 in omega arith

gained_length : (before after : List Placed) (which : Placed → Type 0) (gained : HasGained before after which) → length after ≡ length before + length gained.more
gained_length before after which gained = ap length gained.joined ∙ length-append before gained.more

-- tests beside items are paid for by what has changed
paid_for : (tests : ℕ) (who items : List ℕ) (changed : ℕ) → AreBeside tests (length who) items → length who ≤ changed + 1 → ((e : ℕ) → is_in e who ≡ true → 2 ≤ length items → 1 ≤ changed)
    → tests ≤ 4 * changed
paid_for tests [] items changed few most some = let small = few.small in omega arith
paid_for tests (e ∷ es) items changed few most some =
    let small = few.small in
    elim few.reason [
      | inl none ↦ omega arith
      | inr many ↦ (let one = some e (in_head e es) many in omega arith)
    ]

module _ (r : Ranks) (law : IsRanking r) (first last : List (Option Link)) (old new : List ℕ) (signs signs' : List Sign) (held : IsHeld r first old signs [] [])
    (held' : IsHeld r last new signs' [] [])
    (out out' : Change) (changed : HasChanged (facts_from r 0 first) (facts_from r 0 last) out out') where
  -- the fact of a link that names an item is not among links of other items
  foreign : (links : List (Option Link)) (items : List ℕ) (ts : List Sign) → IsHeld r links items ts [] [] → (who i : ℕ) (l : Link) → (i ≡ who) ⊎ (l.right ≡ who) → is_in who items ≡ false
      → Contains (facts_from r 0 links) (fact_of r i l) → ⊥
  foreign links items ts h who i l names absent c =
      let w = has_link r links (fact_of r i l) c in
      let e = same_facts r law i w.0 l w.1 w.3 in
      let m = held_members r links items ts h w.0 w.1 w.2 in
      elim names [
        | inl f ↦ both_ways _ (ap (λ n. is_in n items) (sym e.0 ∙ f) ∙ absent) m.0
        | inr f ↦ both_ways _ (ap (λ n. is_in n items) (ap (λ (k : Link). k.right) (sym e.1) ∙ f) ∙ absent) m.1
      ]

  -- each failed fact is dropped
  pub failed_dropped : (s : Scene) (spared : Placed → Bool) (failed : List Placed) → ListsFailing (facts_from r 0 first) spared s failed
      → ((f : Placed) → Contains (facts_from r 0 last) f → Holds s f.fact) → length failed ≤ length changed.dropped.more
  failed_dropped s spared failed failing hold = no_longer failed changed.dropped.more failing.once (λ p f a.
      let h = (failing.each f).0 (contains_from_get failed p f a) in
      let c = (changed.dropped.exactly.each f).1 (h.0, λ d. h.2 (hold f d)) in
      get_from_contains changed.dropped.more f c)

  module _ (m : Marks) (room : ℕ) (marks : AreMarks m room old) (members : (i : ℕ) → is_in i new ≡ is_in i (marked m old)) where
    left_out : (e : ℕ) → is_in e m.leaving ≡ true → is_in e new ≡ false
    left_out e h = members e ∙ leaver_gone m room old marks e h

    put_in : (e : ℕ) → is_in e m.entering ≡ true → is_in e new ≡ true
    put_in e h = members e ∙ enterer_there m old e h

    gaps_paid : (tests : ℕ) → AreBeside tests (length m.leaving) old → tests ≤ 4 * length changed.dropped.more
    gaps_paid tests few = paid_for tests m.leaving old (length changed.dropped.more) few
        (most_named r law first old signs held m.leaving changed.dropped.more marks.leaving_once marks.member
        (λ e l h a. (changed.dropped.exactly.each (fact_of r e l)).1 (has_fact r first e l a, foreign last new signs' held' e e l (inl refl) (left_out e h))))
        (λ e h many. (let n = named r first old signs held e (marks.member e h) many in
        some_gained out.dropped out'.dropped _ (fact_of r n.0 n.1) changed.dropped (has_fact r first n.0 n.1 n.2, foreign last new signs' held' e n.0 n.1 n.3 (left_out e h))))

    entry_paid : (tests : ℕ) → AreBeside tests (length m.entering) new → tests ≤ 4 * length changed.born.more
    entry_paid tests few = paid_for tests m.entering new (length changed.born.more) few
        (most_named r law last new signs' held' m.entering changed.born.more marks.entering_once put_in
        (λ e l h a. (changed.born.exactly.each (fact_of r e l)).1 (has_fact r last e l a, foreign first old signs held e e l (inl refl) (marks.new e h))))
        (λ e h many. (let n = named r last new signs' held' e (put_in e h) many in
        some_gained out.born out'.born _ (fact_of r n.0 n.1) changed.born (has_fact r last n.0 n.1 n.2, foreign first old signs held e n.0 n.1 n.3 (marks.new e h))))

    pub few_tests : (failed exchanges before after : ℕ) → exchanges ≡ moved_pairs old new → failed ≤ length changed.dropped.more → IsFrugal m old new failed exchanges before after
        → AreFewTests (length m.entering) old new out out' before after
    few_tests failed exchanges before after moved dropped frugal =
        let mended = frugal.mended in
        let total = frugal.entry.total in
        let gaps = gaps_paid frugal.gaps frugal.few in
        let beside = entry_paid frugal.entry.beside frugal.entry.few in
        let d = gained_length out.dropped out'.dropped _ changed.dropped in
        let b = gained_length out.born out'.born _ changed.born in
        record { halvings = frugal.entry.halvings; each = frugal.entry.each; allowed = frugal.entry.allowed; bound = omega arith }
