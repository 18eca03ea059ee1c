-- A farthest pair and the chains of its hull.
use Rattle.std.proofs.Common.{◌≡◌, refl, sym, ◌∙◌, arith, Bool, length, nat_eq, true, false, append-nil, subst, List, [], ◌∷◌, ℕ, ap, None, Some, Contains}
use Rattle.std.specs.Prelude.{Option}
use Rattle.std.proofs.lemmas.Bool.{eqb-true}
use Rattle.std.proofs.lemmas.List.Elements.{All-contains}
use Rattle.std.proofs.lemmas.Option.{same_Some}
use Rattle.kin_algebra.proofs.Members.{contains_head}
use Rattle.kin_motion.specs.declared.fact.Placed.{Placed}
use Rattle.kin_motion.specs.declared.keep.Keep.{Keep}
use Rattle.kin_motion.specs.Agreements.{FitsSize}
use Rattle.kin_motion.specs.Chains.{IsUpperChain, IsLowerChain}
use Rattle.kin_motion.specs.Deltas.{Change}
use Rattle.kin_motion.specs.Kinetics.{HasChanged, HaveSameLive, ListsFailing}
use Rattle.kin_motion.specs.Numbers.{is_in, IsIn, HasEntered}
use Rattle.kin_motion.specs.Scene.{Scene, IsReal, Holds, reflected}
use Rattle.kin_motion.specs.Sets.{ListsExactly}
use Rattle.kin_motion.specs.Spending.{HasRisenWithin, MayAsk, MayDiameterAsk}
use Rattle.kin_motion.specs.Sweeps.{AreChains}
use Rattle.kin_motion.proofs.ChainLaws.{one_upper_chain}
use Rattle.kin_motion.proofs.Members.{in_head}
use Rattle.kin_motion.proofs.RealLaws.{real_line_laws}
use Rattle.kin_motion.proofs.ReflectedLaws.{reflected-real}
use Rattle.kin_motion.proofs.SetLaws.{exactly_in_words, exactly_none}
use Rattle.kin_diameter.specs.Diameter.{Diameter, facts_of, names_leaving, AreFewTests, IsDiameterAtRest, IsDiameterFor, IsReadyDiameter, IsSettledKinDiameter}
use Rattle.kin_diameter.specs.DiameterLaws.{determined_lem}
use Rattle.kin_diameter.proofs.Asking.{AreSpared, IsBusy, asks_nothing, leaving_spared, may_ask, none_spared, none_spared_entering}
use Rattle.kin_world.specs.declared.structure.Mark.{Mark}
use Rattle.kin_world.specs.declared.structure.Mark.TheVariants.{Enters, Leaves}
use Rattle.kin_world.specs.Structures.{AreLiveAfter, HoldFor}
use Rattle.kin_world.proofs.RepairLaws.{none_fails}
use Rattle.kin_world.proofs.StructureLaws.{all_from_each}

-- there are one upper and one lower chain
one_of_each : (s : Scene) → IsReal s → (u l u' l' : List ℕ) → AreChains s u l → AreChains s u' l' → (u ≡ u') × (l ≡ l')
one_of_each s real u l u' l' a b = (
  one_upper_chain s (real_line_laws s real) s.live u u' a.0 b.0,
  one_upper_chain (reflected s) (real_line_laws (reflected s) (reflected-real s real)) s.live l l' a.1 b.1,
)

-- those facts that fail
abbrev pub ListsWrong : List Placed → Scene → List Placed → Type 0
ListsWrong facts s failed = ListsExactly failed (λ p. Contains facts p × ¬ (Holds s p.fact))

module _ (k : Diameter) (v w : Scene) (upper lower : List ℕ) (failed : List Placed) (real : IsReal v) (real' : IsReal w) (was : IsSettledKinDiameter k v) (chains : AreChains w upper lower)
    (wrong : ListsWrong (facts_of k) w failed) where
  -- where no fact has failed and both chains are the same it is settled as it is
  pub quiet_settled : IsDiameterAtRest k → HaveSameLive v w → failed ≡ [] → (k.upper ≡ upper) × (k.lower ≡ lower) → IsSettledKinDiameter k w
  quiet_settled rest same none alike =
      determined_lem k v w rest real was same real' (subst (λ (u : List ℕ). IsUpperChain w w.live u) (sym alike.0) chains.0, subst (λ (l : List ℕ). IsLowerChain w w.live l) (sym alike.1) chains.1)
      (all_from_each (facts_of k) (none_fails w (Contains (facts_of k)) failed none wrong))

  -- and asks nothing
  pub asks_as_it_is : IsDiameterAtRest k → HaveSameLive v w → failed ≡ [] → (k.upper ≡ upper) × (k.lower ≡ lower) → (count : ℕ) → HasRisenWithin (MayDiameterAsk k.size v w) count count
  asks_as_it_is rest same none alike count = asks_nothing k v w count was (quiet_settled rest same none alike) same (none_fails w (Contains (facts_of k)) failed none wrong)

  -- otherwise there is something to do
  pub busy : (failed ≡ [] → ¬ ((k.upper ≡ upper) × (k.lower ≡ lower))) → IsBusy k.size v w
  busy other u l same were are hold = at failed wrong other
    where
      alike : (k.upper ≡ upper) × (k.lower ≡ lower)
      alike =
          let before = one_of_each v real k.upper k.lower u l (was.swept.upper_chain, was.swept.lower_chain) were in
          let after = one_of_each w real' u l upper lower are chains in
          (before.0 ∙ after.0, before.1 ∙ after.1)

      at : (fs : List Placed) → ListsWrong (facts_of k) w fs → (fs ≡ [] → ¬ ((k.upper ≡ upper) × (k.lower ≡ lower))) → ⊥
      at [] listed other = other refl alike
      at (p ∷ ps) listed other = let fails = (listed.each p).0 (contains_head p ps) in fails.1 (hold p ((was.farthest.exact.each p).0 fails.0))

-- no fact is spared where no number leaves
pub unspared : (facts failed : List Placed) (s : Scene) → ListsWrong facts s failed → ListsFailing facts (λ p. false) s failed
unspared facts failed s wrong = exactly_in_words failed _ _ (λ p. (λ h. (h.0, refl, h.1), λ h. (h.0, h.2))) wrong

pub never_both : (b : Bool) → b ≡ true → b ≡ false → ⊥
never_both b e f = let clash : true ≡ false = sym e ∙ f in cc

-- a list of length 0
pub none_of : (failed : List Placed) → nat_eq (length failed) 0 ≡ true → failed ≡ []
none_of [] e = refl
none_of (p ∷ ps) e = absurd (let none = eqb-true (length (p ∷ ps)) 0 e in omega (arith, none))

-- where nothing has changed nothing is reported
pub nothing_changed : (facts : List Placed) (out : Change) → HasChanged facts facts out out
nothing_changed facts out = record {
  dropped = record { more = []; joined = sym (append-nil out.dropped); exactly = exactly_none _ (λ p new. new.1 new.0) };
  born = record { more = []; joined = sym (append-nil out.born); exactly = exactly_none _ (λ p new. new.1 new.0) };
}

-- ---- the chains are given
-- It was at rest, and is given these chains.
module _ (old given : Diameter) (upper lower : List ℕ) (is : given ≡ record old { upper = upper; lower = lower }) (rest : IsDiameterAtRest old) where
  pub given_ready : (v w : Scene) → IsSettledKinDiameter old v → HaveSameLive v w → AreChains w upper lower → IsReadyDiameter given w
  given_ready v w was same chains = subst (λ (k : Diameter). IsReadyDiameter k w) (sym is) (record {
    chains = chains;
    fits = λ i live. was.fits i (subst (λ xs. IsIn i xs) (sym same) live);
    gone = λ i leaves. absurd (let clash : None ≡ Some i = sym rest.rest ∙ leaves in cc);
    whole = rest.whole;
  })

  pub given_failing : (w : Scene) (failed : List Placed) → ListsWrong (facts_of old) w failed → ListsFailing (facts_of given) (names_leaving given.leaving) w failed
  given_failing w failed wrong =
      subst (λ (k : Diameter). ListsFailing (facts_of k) (names_leaving k.leaving) w failed) (sym is)
      (subst (λ o. ListsFailing (facts_of old) (names_leaving o) w failed) (sym rest.rest) (unspared (facts_of old) failed w wrong))

  given_spared : (v w : Scene) → HaveSameLive v w → AreSpared given.leaving v.live w.live
  given_spared v w same = subst (λ o. AreSpared o v.live w.live) (sym (ap (λ (k : Diameter). k.leaving) is ∙ rest.rest)) (none_spared v.live w.live same)

  pub repair_asks : (new : Diameter) (v w : Scene) (failed : List Placed) (start end : ℕ) → IsReal v → IsReal w → IsSettledKinDiameter old v → IsSettledKinDiameter new w → HaveSameLive v w → AreChains w upper lower
      → ListsWrong (facts_of old) w failed → (failed ≡ [] → ¬ ((old.upper ≡ upper) × (old.lower ≡ lower))) → new.size ≡ given.size → AreFewTests given new failed start end
      → HasRisenWithin (MayDiameterAsk old.size v w) start end
  repair_asks new v w failed start end real real' was settled same chains wrong other stays few =
      may_ask old given new v w failed was settled (ap (λ (k : Diameter). k.size) is) (ap (λ (k : Diameter). facts_of k) is) (ap (λ (k : Diameter). k.cells) is) (stays ∙ ap (λ (k : Diameter). k.size) is)
      (given_spared v w same) (given_failing w failed wrong) (busy old v w upper lower failed real real' was chains wrong other) start end few

-- ---- a number has entered or left
-- the number that leaves, if one does
abbrev pub leaving_of : Mark → Option ℕ
leaving_of (Enters n) = None
leaving_of (Leaves n) = Some n

one_more_differs : (n : ℕ) (before after : List ℕ) → HasEntered n before after → before ≡ after → ⊥
one_more_differs n before after entered same =
    let clash : true ≡ false = sym (sym (entered.lists.same n) ∙ in_head n before) ∙ ap (is_in n) (sym same) ∙ entered.absent in cc

live_differs : (mark : Mark) (before after : List ℕ) → AreLiveAfter mark before after → before ≡ after → ⊥
live_differs (Enters n) before after changed same = one_more_differs n before after changed same
live_differs (Leaves n) before after changed same = one_more_differs n after before changed (sym same)

mark_spared : (mark : Mark) (before after : List ℕ) → AreLiveAfter mark before after → AreSpared (leaving_of mark) before after
mark_spared (Enters n) before after changed = none_spared_entering n before after changed
mark_spared (Leaves n) before after changed = leaving_spared n before after changed

mark_gone : (mark : Mark) (before after : List ℕ) → AreLiveAfter mark before after → (i : ℕ) → leaving_of mark ≡ Some i → ¬ (IsIn i after)
mark_gone (Enters n) before after changed i e there = absurd cc
mark_gone (Leaves n) before after changed i e there =
    let same : n ≡ i = same_Some n i e in
    let clash : true ≡ false = sym there ∙ ap (λ j. is_in j after) (sym same) ∙ changed.absent in cc

none_failing : (mark : Mark) (facts : List Placed) (w : Scene) → HoldFor mark facts w → ListsFailing facts (names_leaving (leaving_of mark)) w []
none_failing (Enters n) facts w hold = exactly_none _ (λ p h. h.2 (All-contains (λ (q : Placed). Holds w q.fact) facts p hold h.0))
none_failing (Leaves n) facts w hold = exactly_none _ (λ p h. h.2 (hold.hold p h.0 h.1))

-- It was at rest, and is given these chains and perhaps the number that leaves.
module _ (mark : Mark) (old given : Diameter) (upper lower : List ℕ) (is : given ≡ record old { upper = upper; lower = lower; leaving = leaving_of mark }) (rest : IsDiameterAtRest old) where
  pub follow_ready : (v w : Scene) → FitsSize old.size w → AreLiveAfter mark v.live w.live → AreChains w upper lower → IsReadyDiameter given w
  follow_ready v w fits changed chains =
      subst (λ (k : Diameter). IsReadyDiameter k w) (sym is) (record { chains = chains; fits = fits; gone = mark_gone mark v.live w.live changed; whole = rest.whole })

  pub follow_failing : (w : Scene) → HoldFor mark (facts_of old) w → ListsFailing (facts_of given) (names_leaving given.leaving) w []
  follow_failing w hold = subst (λ (k : Diameter). ListsFailing (facts_of k) (names_leaving k.leaving) w []) (sym is) (none_failing mark (facts_of old) w hold)

  pub follow_asks : (new : Diameter) (v w : Scene) (start end : ℕ) → IsSettledKinDiameter old v → IsSettledKinDiameter new w → AreLiveAfter mark v.live w.live → HoldFor mark (facts_of old) w
      → new.size ≡ given.size → AreFewTests given new [] start end → HasRisenWithin (MayDiameterAsk old.size v w) start end
  follow_asks new v w start end was settled changed hold stays few =
      may_ask old given new v w [] was settled (ap (λ (k : Diameter). k.size) is) (ap (λ (k : Diameter). facts_of k) is) (ap (λ (k : Diameter). k.cells) is) (stays ∙ ap (λ (k : Diameter). k.size) is)
      (subst (λ o. AreSpared o v.live w.live) (sym (ap (λ (k : Diameter). k.leaving) is)) (mark_spared mark v.live w.live changed)) (follow_failing w hold)
      (λ u l same were are all. live_differs mark v.live w.live changed same) start end few

-- what it may ask is what its keep may
pub asks_as_kept : (k : Diameter) (size : ℕ) (kept : Keep) (v w : Scene) (start end : ℕ) → IsDiameterFor k size kept → HasRisenWithin (MayDiameterAsk k.size v w) start end → HasRisenWithin (MayAsk size kept v w) start end
asks_as_kept k size kept v w start end kind asks =
    subst (λ (q : Keep). HasRisenWithin (MayAsk size q v w) start end) (sym kind.0) (subst (λ n. HasRisenWithin (MayDiameterAsk n v w) start end) kind.1 asks)
