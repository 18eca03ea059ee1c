-- What repairs cost adds up, structure after structure.
use Rattle.std.proofs.lemmas.List.{length-append}
use Rattle.std.proofs.lemmas.List.Sums.{sum_by-append}
use Rattle.std.proofs.lemmas.Nat.{mul-le}
use Rattle.std.specs.Prelude.{◌*◌, sum}
use Rattle.kin_world.proofs.Vocabulary.{◌≡◌, ◌≢◌, ◌⊎◌, inl, inr, refl, sym, ap, ◌∙◌, subst, arith, ℕ, ◌+◌, ◌<◌, ◌≤◌, ◌↔◌, true, List, [], ◌∷◌, ◌++◌, map, length, length-map, length_push, slice_get, slice_set, Some, Contains}
use Rattle.kin_world.proofs.Vocabulary.{cases_eq, same_Some, get-push_cases, get-set_other, get_within, slice_get_within, ListsExactly, exactly_both, exactly_in_words, exactly_none, Certificate, HasChanged, Keep, Moment, Placed, Scene, owned_by, scene_at}
use Rattle.kin_world.proofs.Vocabulary.{AreLeft, Facts, HasComeTo, HasFactsOf, HasSameFrame, LiveFact, NoneAlike, certificates_of, nothing, placed_facts, Stage, Structure, sight}
use Rattle.kin_world.proofs.Certificates.{listed_through}
use Rattle.kin_motion.specs.Deltas.{Change}
use Rattle.kin_motion.specs.Spending.{HasRisenWithin, MayAsk}
use Rattle.kin_cert.specs.Cost.{TakesAtMost, change_cost, ungiven, waiting_count}
use Rattle.kin_cert.specs.Told.{IsTold}
use Rattle.kin_cert.proofs.Costs.{enough}
use Rattle.kin_cert.proofs.ToldCounts.{few_told, gone_told, waiting_told}
use Rattle.kin_world.specs.Costs.{IsAsked}
use Rattle.kin_world.specs.Paid.{AreAllInStep, ArePaid, HasPaid, HavePaid, IsInStep, IsPaid}

-- where nothing is done nothing is to be paid
pub paid_none : (live : List LiveFact) (count : ℕ) → IsPaid live live 0 count count
paid_none live count = record {
  dropped = [];
  gone = exactly_none _ (λ c new. new.1 new.0);
  born = [];
  come = exactly_none _ (λ c new. new.1 new.0);
  few = omega arith;
  bound = λ r e. omega arith;
}

-- ---- two changes in turn
-- Three lists of certificates, by what is in them: from the structure k on the first has what the second has, and but for k the second has what the third has.
module _ (k : ℕ) (first second third : Certificate → Type 0) (ahead : (c : Certificate) → k ≤ c.structure → first c ↔ second c) (others : (c : Certificate) → c.structure ≢ k → second c ↔ third c) where
  own : (c : Certificate) → c.structure ≡ k → first c ↔ second c
  own c e = ahead c (omega (arith, e))

  born_both : (xs ys : List Certificate) → ListsExactly xs (λ c. second c × ¬ (first c)) → ListsExactly ys (λ c. third c × ¬ (second c)) → ListsExactly (xs ++ ys) (λ c. third c × ¬ (first c))
  born_both xs ys before after = exactly_in_words (xs ++ ys) _ _ (λ c. (either c, one c)) (exactly_both xs ys _ _ before after (λ c new later. later.1 new.0))
    where
      either : (c : Certificate) → (second c × ¬ (first c)) ⊎ (third c × ¬ (second c)) → third c × ¬ (first c)
      either c (inl new) = ((others c (λ e. new.1 ((own c e).1 new.0))).0 new.0, new.1)
      either c (inr new) = (
        new.0,
        λ there. elim (cases_eq c.structure k) [
          | inl e ↦ new.1 ((own c e).0 there)
          | inr apart ↦ new.1 ((others c apart).1 new.0)
        ],
      )

      one : (c : Certificate) → third c × ¬ (first c) → (second c × ¬ (first c)) ⊎ (third c × ¬ (second c))
      one c new = elim (cases_eq c.structure k) [
        | inl e ↦ inr (new.0, λ there. new.1 ((own c e).1 there))
        | inr apart ↦ inl ((others c apart).1 new.0, new.1)
      ]

  gone_both : (xs ys : List Certificate) → ListsExactly xs (λ c. first c × ¬ (second c)) → ListsExactly ys (λ c. second c × ¬ (third c)) → ListsExactly (xs ++ ys) (λ c. first c × ¬ (third c))
  gone_both xs ys before after = exactly_in_words (xs ++ ys) _ _ (λ c. (either c, one c)) (exactly_both xs ys _ _ before after (λ c gone later. gone.1 later.0))
    where
      either : (c : Certificate) → (first c × ¬ (second c)) ⊎ (second c × ¬ (third c)) → first c × ¬ (third c)
      either c (inl gone) = (
        gone.0,
        λ there. elim (cases_eq c.structure k) [
          | inl e ↦ gone.1 ((own c e).0 gone.0)
          | inr apart ↦ gone.1 ((others c apart).1 there)
        ],
      )
      either c (inr gone) = (
        elim (cases_eq c.structure k) [
          | inl e ↦ (own c e).1 gone.0
          | inr apart ↦ absurd (gone.1 ((others c apart).0 gone.0))
        ],
        gone.1,
      )

      one : (c : Certificate) → first c × ¬ (third c) → (first c × ¬ (second c)) ⊎ (second c × ¬ (third c))
      one c gone = elim (cases_eq c.structure k) [
        | inl e ↦ inr ((own c e).0 gone.0, gone.1)
        | inr apart ↦ inl (gone.0, λ there. gone.1 ((others c apart).0 there))
      ]

-- what two changes in turn cost is paid
pub paid_through : (k : ℕ) (start mid end : List LiveFact) (asked more before halfway after : ℕ) → ((c : Certificate) → k ≤ c.structure → Contains (certificates_of start) c ↔ Contains (certificates_of mid) c)
    → ((c : Certificate) → c.structure ≢ k → Contains (certificates_of mid) c ↔ Contains (certificates_of end) c) → IsPaid start mid asked before halfway → IsPaid mid end more halfway after
    → IsPaid start end (asked + more) before after
paid_through k start mid end asked more before halfway after ahead others first second = record {
  dropped = first.dropped ++ second.dropped;
  gone = gone_both k (Contains (certificates_of start)) (Contains (certificates_of mid)) (Contains (certificates_of end)) ahead others first.dropped second.dropped first.gone second.gone;
  born = first.born ++ second.born;
  come = born_both k (Contains (certificates_of start)) (Contains (certificates_of mid)) (Contains (certificates_of end)) ahead others first.born second.born first.come second.come;
  few = omega (arith, first.few, second.few, length-append first.born second.born);
  bound = λ r e.
      let all = length-append first.born second.born in
      let one = first.bound r (enough (length start + length first.born) (length start + length (first.born ++ second.born)) r (omega (arith, all)) e) in
      let two = second.bound r (enough (length mid + length second.born) (length start + length (first.born ++ second.born)) r (omega (arith, all, first.few)) e) in
      let dropped = length-append first.dropped second.dropped in
      let both : length (first.dropped ++ second.dropped) + length (first.born ++ second.born) ≡ length first.dropped + length first.born + (length second.dropped + length second.born) = omega (arith, all, dropped) in
      let times = ap (λ n. n * (r + 1)) both in
      omega (arith, one, two, times);
}

-- ---- one structure
-- what its settle asks and what the table takes over is paid
module _ {k : ℕ} {change : Change} {scene : Moment → Scene} {now : Moment} {old new : List LiveFact} (once : NoneAlike old) (told : IsTold k change scene now old new)
    {facts facts' : List Placed} (tabled : HasFactsOf old k facts) (changed : HasChanged facts facts' nothing change)
    (leave : (l : LiveFact) → Contains old l → l.waits ≡ true → l.certificate.structure ≡ k → ¬ (Contains facts' l.certificate.placed)) where
  one_paid : (asked before halfway after : ℕ) → halfway ≤ before + asked → TakesAtMost (length old + length change.born) (change_cost k change old) halfway after → IsPaid old new asked before after
  one_paid asked before halfway after within takes = record {
    dropped = map (owned_by k) change.dropped;
    gone = gone_told k change scene now old new once told facts facts' tabled changed;
    born = map (owned_by k) change.born;
    come = told.born;
    few = let few = few_told k change scene now old new once told facts facts' tabled changed in omega (arith, few, length-map change.born (owned_by k));
    bound = λ r e.
        let born = length-map change.born (owned_by k) in
        let dropped = length-map change.dropped (owned_by k) in
        let cost = takes r (enough (length old + length change.born) (length old + length (map (owned_by k) change.born)) r (omega (arith, born)) e) in
        let given = waiting_told k change scene now old new once told facts facts' tabled changed leave in
        let times : (waiting_count old + ungiven k old change.dropped) * r ≤ (waiting_count new + length change.dropped) * r = mul-le (waiting_count old + ungiven k old change.dropped) r (waiting_count new + length change.dropped) r given (omega arith) in
        let both : length (map (owned_by k) change.dropped) + length (map (owned_by k) change.born) ≡ length change.dropped + length change.born = omega (arith, born, dropped) in
        let listed = ap (λ n. n * (r + 1)) both in
        omega (arith, within, cost, times, listed);
  }

pub has_paid : (may : List ℕ → Type 0) {k : ℕ} {s : Stage} {keep : Keep} {st : Structure} (after : Structure) (table : Facts) {change : Change} → NoneAlike s.table.live → IsTold k change (scene_at s.motions) s.moment s.table.live table.live
    → HasFactsOf s.table.live k (placed_facts st) → HasChanged (placed_facts st) (placed_facts after) nothing change
    → ((l : LiveFact) → Contains s.table.live l → l.waits ≡ true → l.certificate.structure ≡ k → ¬ (Contains (placed_facts after) l.certificate.placed))
    → slice_get s.keeps k ≡ Some keep → slice_get s.structures k ≡ Some st → (count halfway count' : ℕ)
    → ((v : Scene) → may v.live → IsInStep s.size keep v (sight s) st → HasRisenWithin (MayAsk s.size keep v (sight s)) count halfway)
    → TakesAtMost (length s.table.live + length change.born) (change_cost k change s.table.live) halfway count'
    → HasPaid may k s (record s { structures = slice_set s.structures k after; table = table }) count count'
has_paid may {k} {s} {keep} {st} after table once told tabled changed leave kept here count halfway count' within takes = record {
  others = λ j apart. get-set_other s.structures k j after apart;
  paid = λ v keep' st' live kept' here' step.
      let same_keep : keep' ≡ keep = same_Some _ _ (sym kept' ∙ kept) in
      let same : st' ≡ st = same_Some _ _ (sym here' ∙ here) in
      let w = within v live (subst (λ (x : Structure). IsInStep s.size keep v (sight s) x) same (subst (λ (x : Keep). IsInStep s.size x v (sight s) st') same_keep step)) in (
        w.0,
        subst (λ (x : Keep). IsAsked s.size x v (sight s) w.0) (sym same_keep) (inr w.1),
        one_paid once told tabled changed leave w.0 count halfway count' w.2 takes,
      );
}

-- a structure that is left as it is asks nothing
pub has_paid_none : (may : List ℕ → Type 0) (k : ℕ) (s : Stage) (count : ℕ) → HasPaid may k s s count count
has_paid_none may k s count = record { others = λ j apart. refl; paid = λ v keep st live kept here step. (0, inl refl, paid_none s.table.live count) }

-- ---- structure after structure
pub have_paid_none : (may : List ℕ → Type 0) (s : Stage) (count : ℕ) → HavePaid may 0 s s count count
have_paid_none may s count = record {
  ahead = λ j low. refl;
  paid = λ v live steps. record { asked = []; count = refl; each = λ j keep n kept at. absurd (let in_ = slice_get_within [] j n at in omega (arith, in_)); paid = paid_none s.table.live count };
}

sum_more : (ns : List ℕ) (n : ℕ) → sum (ns ++ n ∷ []) ≡ sum ns + n
sum_more ns n = sum_by-append (λ x. x) ns (n ∷ []) ∙ omega arith

-- one structure more
pub have_paid_on : (may : List ℕ → Type 0) (start : Stage) (structures : List Structure) (table : Facts) (t : Stage) (k count halfway count' : ℕ)
    → ((c : Certificate) → k ≤ c.structure → Contains (certificates_of start.table.live) c ↔ Contains (certificates_of table.live) c)
    → ((c : Certificate) → c.structure ≢ k → Contains (certificates_of table.live) c ↔ Contains (certificates_of t.table.live) c)
    → length start.structures ≡ length start.keeps → k < length start.structures
    → HavePaid may k start (record start { structures = structures; table = table }) count halfway → HasPaid may k (record start { structures = structures; table = table }) t halfway count' → HavePaid may (k + 1) start t count count'
have_paid_on may start structures table t k count halfway count' ahead others all low h did = record {
  ahead = λ j more. did.others j (λ e. omega (arith, e, more)) ∙ h.ahead j (omega (arith, more));
  paid = paid;
}
  where
    paid : (v : Scene) → may v.live → AreAllInStep v start → ArePaid (k + 1) v start t count count'
    paid v live steps =
        let keep = get_within start.keeps k (subst (λ n. k < n) all low) in
        let st = get_within start.structures k low in
        let done = h.paid v live steps in
        let one = did.paid v keep.0 st.0 live keep.1 (h.ahead k (omega arith) ∙ st.1) (steps k keep.0 st.0 keep.1 st.1) in
        let sum_is : sum (done.asked ++ one.0 ∷ []) ≡ sum done.asked + one.0 = sum_more done.asked one.0 in
        record {
          asked = done.asked ++ one.0 ∷ [];
          count = length_push done.asked one.0 ∙ ap (λ n. n + 1) done.count;
          each = λ j other n kept at. elim (get-push_cases done.asked one.0 j n at) [
            | inl old ↦ done.each j other n kept old
            | inr new ↦
                let here : j ≡ k = new.0 ∙ done.count in
                let same : keep.0 ≡ other = same_Some _ _ (sym keep.1 ∙ subst (λ (i : ℕ). slice_get start.keeps i ≡ Some other) here kept) in
                subst (λ (x : Keep). IsAsked start.size x v (sight start) n) same (subst (λ (i : ℕ). IsAsked start.size keep.0 v (sight start) i) (sym new.1) one.1)
          ];
          paid = subst (λ (n : ℕ). IsPaid start.table.live t.table.live n count count') (sym sum_is) (paid_through k start.table.live table.live t.table.live (sum done.asked) one.0 count halfway count' ahead others done.paid one.2);
        }

-- the certificates of the other structures stay
others_listed : (k : ℕ) (old new : List LiveFact) → AreLeft k old new → (c : Certificate) → c.structure ≢ k → Contains (certificates_of old) c ↔ Contains (certificates_of new) c
others_listed k old new left c apart = (
  listed_through old new c (λ l there is. (l, (left l (λ e. apart (sym (ap (λ (x : Certificate). x.structure) is) ∙ e))).0 there, refl)),
  listed_through new old c (λ l there is. (l, (left l (λ e. apart (sym (ap (λ (x : Certificate). x.structure) is) ∙ e))).1 there, refl)),
)

-- one structure more, where the rest of the stage stays
pub step_paid : (may : List ℕ → List ℕ → Type 0) {start s t : Stage} {k count halfway count' : ℕ} → HasSameFrame start s → HasComeTo k start.table s.table → AreLeft k s.table.live t.table.live
    → length s.structures ≡ length s.keeps → k < length s.structures → length start.structures ≡ length start.keeps
    → HavePaid (λ live. may live (sight start).live) k start s count halfway → HasPaid (λ live. may live (sight s).live) k s t halfway count' → HavePaid (λ live. may live (sight start).live) (k + 1) start t count count'
step_paid may {start} {s} {t} {k} {count} {halfway} {count'} frame come left all low all' h did =
    let low' : k < length start.structures = omega (arith, low, all, all', ap (λ (x : Stage). length x.keeps) frame) in
    have_paid_on (λ live. may live (sight start).live) start s.structures s.table t k count halfway count' come.ahead (others_listed k s.table.live t.table.live left) all' low'
    (subst (λ (x : Stage). HavePaid (λ live. may live (sight start).live) k start x count halfway) frame h)
    (subst (λ (x : Stage). HasPaid (λ live. may live (sight x).live) k x t halfway count') frame did)
