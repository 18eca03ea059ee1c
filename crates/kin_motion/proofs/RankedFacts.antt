-- The facts of the neighbours are the facts of the order, and they determine it.
use Rattle.std.proofs.Common.{◌≡◌, refl, sym, ap₂, ◌∙◌, subst, List, [], ◌∷◌, ℕ, zero, suc, IsTrue}
use Rattle.std.specs.Prelude.{Some, slice_get, Contains}
use Rattle.std.specs.List.{All}
use Rattle.std.proofs.lemmas.List.Elements.{All-contains, All-head, All-tail, Contains-get_or}
use Rattle.std.proofs.lemmas.Option.{same_Some}
use Rattle.kin_algebra.specs.declared.sign.Sign.{Sign}
use Rattle.kin_motion.specs.declared.fact.Placed.{Placed}
use Rattle.kin_motion.specs.Numbers.{IsIn, IsChain}
use Rattle.kin_motion.specs.Scene.{Scene, Holds}
use Rattle.kin_motion.specs.Kinetics.{AllHold, ListsExactly}
use Rattle.kin_motion.specs.Rankings.{IsStrict}
use Rattle.kin_motion.specs.Ranks.{Ranks, AreLive, IsOrder, IsOrderFact, is_before, neighbour_fact, neighbour_facts}
use Rattle.kin_motion.proofs.RankedOrders.{one_order}

-- the facts of neighbours, by places
pub neighbour_at : (s : Scene) (r : Ranks) (xs : List ℕ) (k i j : ℕ) → slice_get xs k ≡ Some i → slice_get xs (suc k) ≡ Some j
    → slice_get (neighbour_facts s r xs) k ≡ Some (neighbour_fact s r i j)
neighbour_at s r [] k i j a b = absurd cc
neighbour_at s r (x ∷ []) zero i j a b = absurd cc
neighbour_at s r (x ∷ []) (suc k) i j a b = absurd cc
neighbour_at s r (x ∷ y ∷ ys) zero i j a b = ap₂ (λ n m. Some (neighbour_fact s r n m)) (same_Some x i a) (same_Some y j b)
neighbour_at s r (x ∷ y ∷ ys) (suc k) i j a b = neighbour_at s r (y ∷ ys) k i j a b

pub neighbour_from : (s : Scene) (r : Ranks) (xs : List ℕ) (k : ℕ) (f : Placed) → slice_get (neighbour_facts s r xs) k ≡ Some f
    → (i j : ℕ) × (slice_get xs k ≡ Some i) × (slice_get xs (suc k) ≡ Some j) × (f ≡ neighbour_fact s r i j)
neighbour_from s r [] k f h = absurd cc
neighbour_from s r (x ∷ []) k f h = absurd cc
neighbour_from s r (x ∷ y ∷ ys) zero f h = (x, y, refl, refl, sym (same_Some (neighbour_fact s r x y) f h))
neighbour_from s r (x ∷ y ∷ ys) (suc k) f h = neighbour_from s r (y ∷ ys) k f h

-- the facts of an order are those of the neighbours of one list
pub order_fact_listed : (s : Scene) (r : Ranks) → IsStrict s r → (xs : List ℕ) → AreLive s r xs → IsOrder s r xs xs → (p : Placed) → IsOrderFact s r xs p
    → Contains (neighbour_facts s r xs) p
order_fact_listed s r laws xs live o p f =
    let live' : AreLive s r f.order = λ i h. live i (sym (f.ordered.all.same i) ∙ h) in
    subst (λ ys. Contains (neighbour_facts s r ys) p)
    (one_order s r laws f.order xs live' f.ordered.all.once o.all.once f.ordered.chain o.chain f.ordered.all.same) f.listed

-- ---- elsewhere
-- where the facts of the neighbours hold, each is before the next
chain_kept : (v w : Scene) (r : Ranks) (xs : List ℕ) → AllHold w (neighbour_facts v r xs) → IsChain (is_before v r) xs → IsChain (is_before w r) xs
chain_kept v w r [] hold c = tt
chain_kept v w r (i ∷ []) hold c = tt
chain_kept v w r (i ∷ j ∷ xs) hold c = (
  subst (λ t. IsTrue (r.leads t i j)) (sym (All-head (λ (p : Placed). Holds w p.fact) _ _ hold)) c.0,
  chain_kept v w r (j ∷ xs) (All-tail (λ (p : Placed). Holds w p.fact) _ _ hold) c.1,
)

facts_kept : (v w : Scene) (r : Ranks) (xs : List ℕ) → AllHold w (neighbour_facts v r xs) → neighbour_facts w r xs ≡ neighbour_facts v r xs
facts_kept v w r [] hold = refl
facts_kept v w r (i ∷ []) hold = refl
facts_kept v w r (i ∷ j ∷ xs) hold =
    let here : w.sign (r.form i j) ≡ v.sign (r.form i j) = All-head (λ (p : Placed). Holds w p.fact) _ _ hold in
    let rest = facts_kept v w r (j ∷ xs) (All-tail (λ (p : Placed). Holds w p.fact) _ _ hold) in
    ap₂ (λ (t : Sign) (ps : List Placed). record { part = r.part i j; fact = record { form = r.form i j; sign = t } } ∷ ps) here rest

pub live_elsewhere : (v w : Scene) (r : Ranks) (xs : List ℕ) → v.live ≡ w.live → AreLive v r xs → AreLive w r xs
live_elsewhere v w r xs same live i h = subst (λ (ns : List ℕ). All (λ n. IsIn n ns) (r.names i)) same (live i h)

-- if all facts hold elsewhere, they are the facts there, and the order is the order there
pub order_facts_determined : (v w : Scene) (r : Ranks) (xs : List ℕ) (facts : List Placed) → IsStrict v r → IsStrict w r → AreLive v r xs → AreLive w r xs
    → IsOrder v r xs xs → ListsExactly facts (IsOrderFact v r xs) → AllHold w facts → IsOrder w r xs xs × ListsExactly facts (IsOrderFact w r xs)
order_facts_determined v w r xs facts laws laws' live live' o exact hold =
    let held : AllHold w (neighbour_facts v r xs) = λ k d lt. All-contains (λ (p : Placed). Holds w p.fact) facts _ hold
    ((exact.each _).1 (record { order = xs; ordered = o; listed = Contains-get_or (neighbour_facts v r xs) k d lt })) in
    let there : IsOrder w r xs xs = record { all = o.all; chain = chain_kept v w r xs held o.chain } in
    let same = facts_kept v w r xs held in (
      there,
      record {
        once = exact.once;
        each = λ p. (
          (λ h. record {
            order = xs;
            ordered = there;
            listed = subst (λ ps. Contains ps p) (sym same)
                (order_fact_listed v r laws xs live o p ((exact.each p).0 h));
          }),
          (λ f. (exact.each p).1 (record {
            order = xs;
            ordered = o;
            listed = subst (λ ps. Contains ps p) same
                (order_fact_listed w r laws' xs live' there p f);
          })),
        );
      },
    )
