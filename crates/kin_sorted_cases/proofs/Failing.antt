-- The facts of a list that fail, one by one, and what is told of a list that was settled once.
use Rattle.std.proofs.Common.{◌≡◌, ◌⊎◌, inl, inr, refl, sym, ap, ◌∙◌, subst, arith, List, [], ◌∷◌, ◌++◌, ℕ, zero, suc, ◌+◌, ◌<◌, ◌≤◌, length, take, get_or, Bool, true, false, cond, IsTrue, Some}
use Rattle.std.specs.Prelude.{slice_get, Contains, ◌↔◌}
use Rattle.std.proofs.lemmas.List.{take_more, take_all}
use Rattle.std.proofs.lemmas.List.Elements.{Contains-append_left, Contains-push, Contains-push_cases}
use Rattle.std.proofs.lemmas.Option.{slice_get-get_or}
use Rattle.kin_motion.specs.declared.fact.Placed.{Placed}
use Rattle.kin_motion.specs.Deltas.{Change}
use Rattle.kin_motion.specs.Forms.{IsAskable}
use Rattle.kin_motion.specs.Kinetics.{ListsFailing, HasChanged}
use Rattle.kin_motion.specs.Numbers.{is_in}
use Rattle.kin_motion.specs.Scene.{Scene, Holds}
use Rattle.kin_motion.specs.Sets.{AreDistinct, ListsExactly}
use Rattle.kin_motion.proofs.SetLaws.{contains_none, contains_cases, distinct_tail, exactly_one, exactly_both, exactly_in_words}
use Rattle.kin_algebra.proofs.Members.{get_from_contains}
use Rattle.kin_motion.proofs.RankedFacts.{neighbour_from}
use Rattle.kin_motion.specs.Rankings.{IsRanking}
use Rattle.kin_sorted.specs.Marks.{Marks, names_gone}
use Rattle.kin_motion.specs.Ranks.{Ranks}
use Rattle.kin_sorted.specs.Sorting.{Sorting, IsSettled, is_spared, unmarked}
use Rattle.kin_sorted.proofs.RowLaws.{is_in_from_get}

-- those of the first facts that meet the test
abbrev pub ArePicked : (Placed → Type 0) → List Placed → ℕ → List Placed → Type 0
ArePicked which facts k failed = ListsExactly failed (λ p. Contains (take k facts) p × which p)

-- the next fact isn't among those before
fresh : (facts : List Placed) (k : ℕ) (x : Placed) → AreDistinct facts → slice_get facts k ≡ Some x → ¬ (Contains (take k facts) x)
fresh [] k x apart at h = absurd cc
fresh (y ∷ ys) zero x apart at h = contains_none x h
fresh (y ∷ ys) (suc k) x apart at h = elim (contains_cases y x (take k ys) h) [
  | inl e ↦ (let f = apart zero (suc k) x (ap (λ (z : Placed). Some z) e) at in absurd (omega arith))
  | inr t ↦ fresh ys k x (distinct_tail y ys apart) at t
]

module _ (which : Placed → Type 0) (facts : List Placed) (k : ℕ) (apart : AreDistinct facts) (l : k < length facts) (d : Placed) where
  abbrev pub x : Placed
  x = get_or facts k d

  next : take (k + 1) facts ≡ take k facts ++ x ∷ []
  next = take_more facts k d l

  before : (z : Placed) → Contains (take k facts) z → Contains (take (k + 1) facts) z
  before z c = subst (λ (zs : List Placed). Contains zs z) (sym next) (Contains-append_left (take k facts) (x ∷ []) z c)

  either : (z : Placed) → Contains (take (k + 1) facts) z → Contains (take k facts) z ⊎ (x ≡ z)
  either z c = Contains-push_cases (take k facts) x z (subst (λ (zs : List Placed). Contains zs z) next c)

  pub one_more : (failed : List Placed) → which x → ArePicked which facts k failed → ArePicked which facts (k + 1) (failed ++ x ∷ [])
  one_more failed w picked = exactly_in_words _ _ _ (λ z. (to z, from z))
      (exactly_both failed (x ∷ []) _ (λ z. z ≡ x) picked (exactly_one x (λ z. z ≡ x) refl (λ z e. e))
      (λ z c e. fresh facts k x apart (slice_get-get_or facts k d l) (subst (Contains (take k facts)) e c.0)))
    where
      to : (z : Placed) → (Contains (take k facts) z × which z) ⊎ (z ≡ x) → Contains (take (k + 1) facts) z × which z
      to z (inl c) = (before z c.0, c.1)
      to z (inr e) = subst (λ (y : Placed). Contains (take (k + 1) facts) y × which y) (sym e) (subst (λ (zs : List Placed). Contains zs x) (sym next) (Contains-push (take k facts) x), w)

      from : (z : Placed) → Contains (take (k + 1) facts) z × which z → (Contains (take k facts) z × which z) ⊎ (z ≡ x)
      from z (c, v) = at (either z c)
        where
          at : Contains (take k facts) z ⊎ (x ≡ z) → (Contains (take k facts) z × which z) ⊎ (z ≡ x)
          at (inl h) = inl (h, v)
          at (inr e) = inr (sym e)

  pub none_more : (failed : List Placed) → ¬ (which x) → ArePicked which facts k failed → ArePicked which facts (k + 1) failed
  none_more failed n picked = exactly_in_words failed _ _ (λ z. ((λ c. (before z c.0, c.1)), from z)) picked
    where
      from : (z : Placed) → Contains (take (k + 1) facts) z × which z → Contains (take k facts) z × which z
      from z (c, v) = at (either z c)
        where
          at : Contains (take k facts) z ⊎ (x ≡ z) → Contains (take k facts) z × which z
          at (inl h) = (h, v)
          at (inr e) = absurd (n (subst which (sym e) v))

  -- the next fact, where it meets the test
  pub picked_more : (failed failed' : List Placed) (b : Bool) → (IsTrue b ↔ which x) → failed' ≡ cond b (failed ++ x ∷ []) failed → ArePicked which facts k failed
      → ArePicked which facts (k + 1) failed'
  picked_more failed failed' true t e picked = subst (λ (fs : List Placed). ArePicked which facts (k + 1) fs) (sym e) (one_more failed (t.0 refl) picked)
  picked_more failed failed' false t e picked = subst (λ (fs : List Placed). ArePicked which facts (k + 1) fs) (sym e) (none_more failed (λ w. let f : false ≡ true = t.1 w in cc) picked)

pub all_picked : (which : Placed → Type 0) (facts failed : List Placed) (k : ℕ) → length facts ≤ k → ArePicked which facts k failed → ListsExactly failed (λ p. Contains facts p × which p)
all_picked which facts failed k l picked = subst (λ (zs : List Placed). ListsExactly failed (λ p. Contains zs p × which p)) (take_all k facts l) picked

-- ---- a list that was settled once
-- the facts of a list that had none are those born
pub facts_born : (new : List Placed) (before after : Change) → before ≡ record { dropped = []; born = [] } → HasChanged [] new before after → ListsExactly after.born (Contains new)
facts_born new before after none changed =
    let joined : after.born ≡ changed.born.more = changed.born.joined ∙ ap (λ (c : Change). c.born ++ changed.born.more) none in
    subst (λ (fs : List Placed). ListsExactly fs (Contains new)) (sym joined)
    (exactly_in_words changed.born.more _ _ (λ p. ((λ c. c.0), (λ c. (c, contains_none p)))) changed.born.exactly)

module _ {R : Type 0} (r : Ranks) (law : IsRanking r) (k : Sorting R) (s : Scene) (settled : IsSettled r k s) where
  -- they may be asked for
  pub facts_askable : (p : Placed) → Contains k.facts p → IsAskable s.live p.fact.form
  facts_askable p c =
      let f = (settled.exact.each p).0 c in
      let g = get_from_contains _ p f.listed in
      let n = neighbour_from s r f.order g.0 p g.1 in
      let live = λ (i : ℕ) (h : is_in i f.order ≡ true). settled.live i (sym (f.ordered.all.same i) ∙ h) in
      subst (λ (q : Placed). IsAskable s.live q.fact.form) (sym n.4) (law.askable s.live n.0 n.1 (live n.0 (is_in_from_get f.order g.0 n.0 n.2))
      (live n.1 (is_in_from_get f.order (suc g.0) n.1 n.3)))

  -- where no mark waits, those of them that don't hold elsewhere are the failing ones
  pub lists_failing : (w : Scene) (facts failed : List Placed) → k.marks ≡ unmarked → ListsExactly facts (Contains k.facts) → ListsExactly failed (λ p. Contains facts p × ¬ (Holds w p.fact))
      → ListsFailing k.facts (is_spared r k) w failed
  lists_failing w facts failed rest listed picked =
      let free : (p : Placed) → is_spared r k p ≡ false = λ p. ap (λ (m : Marks). names_gone r m k.items p) rest in
      exactly_in_words failed _ _ (λ p. (
        (λ c. ((listed.each p).0 c.0, free p, c.1)),
        (λ c. ((listed.each p).1 c.0, c.2)),
      )) picked
