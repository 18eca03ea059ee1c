-- The order is one list, and its facts determine it.
use Rattle.std.proofs.Common.{◌≡◌, refl, sym, ap, ap₂, ◌∙◌, subst, arith, List, [], ◌∷◌, ℕ, Bool, true, false, IsTrue, ℤ, pos}
use Rattle.std.proofs.lemmas.Bool.Decides.{nat_tests}
use Rattle.std.proofs.lemmas.List.Elements.{All-head, All-tail}
use Rattle.kin_algebra.specs.declared.sign.Sign.{Sign}
use Rattle.kin_algebra.specs.declared.sign.Sign.TheVariants.{Minus, Zero, Plus}
use Rattle.kin_algebra.specs.Signs.{SumMayBe}
use Rattle.kin_algebra.proofs.Signs.{zero_from_opposite}
use Rattle.kin_motion.specs.declared.form.Form.TheVariants.{Line}
use Rattle.kin_motion.specs.declared.fact.Placed.{Placed}
use Rattle.kin_motion.specs.Numbers.{is_in, IsChain}
use Rattle.kin_motion.specs.Scene.{Scene, Holds}
use Rattle.kin_motion.specs.Orders.{leads, is_before, IsOrder, neighbour_facts}
use Rattle.kin_motion.specs.Kinetics.{AllHold}
use Rattle.kin_motion.specs.Laws.{HasLineLaws}
use Rattle.kin_motion.proofs.ListChains.{same_chain}

never_leads : (t : Sign) (i : ℕ) → t ≡ Zero → leads t i i ≡ true → ⊥
never_leads Minus i e h = absurd cc
never_leads Zero i e h = grind (arith, nat_tests, h)
never_leads Plus i e h = absurd cc

leads_through : (t u r : Sign) (i j k : ℕ) → SumMayBe t u r → leads t i j ≡ true → leads u j k ≡ true → leads r i k ≡ true
leads_through Minus u r i j k sum a b = absurd cc
leads_through Zero Minus r i j k sum a b = absurd cc
leads_through Zero Zero r i j k sum a b = subst (λ q. leads q i k ≡ true) (sym sum) (grind (arith, nat_tests, a, b))
leads_through Zero Plus r i j k sum a b = ap (λ q. leads q i k) sum
leads_through Plus Minus r i j k sum a b = absurd cc
leads_through Plus Zero r i j k sum a b = ap (λ q. leads q i k) sum
leads_through Plus Plus r i j k sum a b = ap (λ q. leads q i k) sum

module _ (s : Scene) (laws : HasLineLaws s) (dx dy : ℤ) where
  pub never_before_itself : (i : ℕ) → is_before s dx dy i i ≡ true → ⊥
  never_before_itself i h = never_leads (s.sign (Line dx dy (pos 0) i i)) i (zero_from_opposite _ (laws.opposite dx dy i i)) h

  pub not_before_itself : (i : ℕ) → is_before s dx dy i i ≡ false
  not_before_itself i = at (is_before s dx dy i i) refl
    where
      at : (b : Bool) → is_before s dx dy i i ≡ b → b ≡ false
      at true h = absurd (never_before_itself i h)
      at false h = refl

  pub before_through : (i j k : ℕ) → is_before s dx dy i j ≡ true → is_before s dx dy j k ≡ true → is_before s dx dy i k ≡ true
  before_through i j k = leads_through _ _ _ i j k (laws.chain dx dy i j k)

  -- there is one order at most
  pub one_order : (xs ys : List ℕ) → IsOrder s dx dy xs → IsOrder s dx dy ys → xs ≡ ys
  one_order xs ys a b = same_chain (is_before s dx dy) never_before_itself before_through xs ys a.chain b.chain (λ i. a.all.same i ∙ sym (b.all.same i))

-- where the facts of the neighbours hold, each is before the next
chain_kept : (s w : Scene) (dx dy : ℤ) (part : ℕ) (xs : List ℕ) → AllHold w (neighbour_facts s dx dy part xs) → IsChain (is_before s dx dy) xs → IsChain (is_before w dx dy) xs
chain_kept s w dx dy part [] hold c = tt
chain_kept s w dx dy part (i ∷ []) hold c = tt
chain_kept s w dx dy part (i ∷ j ∷ xs) hold c = (
  subst (λ t. IsTrue (leads t i j)) (sym (All-head (λ (p : Placed). Holds w p.fact) _ _ hold)) c.0,
  chain_kept s w dx dy part (j ∷ xs) (All-tail (λ (p : Placed). Holds w p.fact) _ _ hold) c.1,
)

facts_kept : (s w : Scene) (dx dy : ℤ) (part : ℕ) (xs : List ℕ) → AllHold w (neighbour_facts s dx dy part xs) → neighbour_facts w dx dy part xs ≡ neighbour_facts s dx dy part xs
facts_kept s w dx dy part [] hold = refl
facts_kept s w dx dy part (i ∷ []) hold = refl
facts_kept s w dx dy part (i ∷ j ∷ xs) hold =
    let here : w.sign (Line dx dy (pos 0) i j) ≡ s.sign (Line dx dy (pos 0) i j) = All-head (λ (p : Placed). Holds w p.fact) _ _ hold in
    let rest = facts_kept s w dx dy part (j ∷ xs) (All-tail (λ (p : Placed). Holds w p.fact) _ _ hold) in
    ap₂ (λ (t : Sign) (ps : List Placed). record { part = part; fact = record { form = Line dx dy (pos 0) i j; sign = t } } ∷ ps) here rest

-- the determination law of the order: no law of signs is needed
pub order_determined : (s w : Scene) (dx dy : ℤ) (part : ℕ) (xs : List ℕ) → IsOrder s dx dy xs → s.live ≡ w.live → AllHold w (neighbour_facts s dx dy part xs)
    → IsOrder w dx dy xs × (neighbour_facts w dx dy part xs ≡ neighbour_facts s dx dy part xs)
order_determined s w dx dy part xs o same hold = (
  record {
    all = record { once = o.all.once; same = λ i. o.all.same i ∙ ap (is_in i) same };
    chain = chain_kept s w dx dy part xs hold o.chain;
  },
  facts_kept s w dx dy part xs hold,
)
